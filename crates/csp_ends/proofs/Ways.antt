-- How a turn that goes through a lane is served.
use Rattle.std.proofs.Common.{◌≡◌, ℕ, Bool, true, false, true≢false, Option, None, Some, Result, Ok, Err, List, [], ◌∷◌, map, slice_get, refl, sym, ap, subst, ◌∙◌}
use Rattle.std.specs.Prelude.{⊤, if◌then◌else◌, IfSome, IfErr, MatchOption, MatchResult}
use Rattle.std.specs.List.{AllByRecursion, slice_set}
use Rattle.std.specs.Option.{option_map}
use Rattle.std.proofs.lemmas.Bool.{false_from_ne_true}
use Rattle.std.proofs.lemmas.Option.{same_Some}
use Rattle.csp_arena.specs.Cells.{RegionName}
use Rattle.csp_base.specs.declared.priority.Prio.{Prio}
use Rattle.csp_consistent.proofs.Public.{queue_is, queue_turned}
use Rattle.csp_consistent.specs.Reading.{is_queue}
use Rattle.csp_deck.specs.Carried.{IsCarried, IsCarriedIn}
use Rattle.csp_deck.specs.Regions.{IsItemOf}
use Rattle.csp_ends.specs.Causes.{CauseOf, HasEnd, HasNoRoomAt, HasNothingAt}
use Rattle.csp_ends.specs.Ends.{PlainNodeQueues, PlainSide, PlainEnds, AreEnds, IsWithin, region_of, rule_of, side_named}
use Rattle.csp_ends.specs.Moves.{moved_by, side_after, side_through, is_crammed, home_after, room_for}
use Rattle.csp_ends.specs.Serving.{Serves}
use Rattle.csp_ends.specs.Sides.{beside}
use Rattle.csp_ends.proofs.Lists.{there_of, all_at, all_from, all_then}
use Rattle.csp_ends.proofs.Splits.{set_same}
use Rattle.csp_ends.proofs.Still.{IsElsewhere, home_still, ends_still, side_moves_one, sides_but_one}
use Rattle.csp_inbox.specs.declared.hand.Role.{Role}
use Rattle.csp_lane.specs.Ends.{IsFor, HadNothing, HadNoRoom}
use Rattle.csp_lists.specs.PlainDeck.{IsLinkRule}
use Rattle.csp_log.specs.Pictures.{shown_item}
use Rattle.csp_log.specs.declared.item.Item.{Item}
use Rattle.csp_log.specs.declared.item.Item.TheVariants as item
use Rattle.csp_log.specs.declared.places.Carries.{Carries}
use Rattle.csp_log.specs.declared.places.Carries.TheVariants as carries
use Rattle.csp_log.specs.declared.places.QueueId.{QueueId}
use Rattle.csp_log.specs.declared.places.QueueId.TheVariants as queue
use Rattle.csp_log.specs.declared.places.Rule.TheVariants as rule
use Rattle.csp_log.specs.declared.shown.AnswerShown.TheVariants as answer
use Rattle.csp_log.specs.declared.shown.ItemShown.{ItemShown}
use Rattle.csp_log.specs.declared.shown.OpShown.TheVariants as op

-- what goes through no end of another name
pub put_else : (way : Bool) (r q : QueueId) (i : ItemShown) → is_queue r q ≡ false → moved_by way r (op.Push q i) answer.Pushed ≡ []
put_else true r q i e = ap (λ (b : Bool). if b then i ∷ [] else []) e
put_else false r q i e = refl

pub got_else : (way : Bool) (r q : QueueId) (i : ItemShown) → is_queue r q ≡ false → moved_by way r (op.Pop q) (answer.Popped i) ≡ []
got_else true r q i e = refl
got_else false r q i e = ap (λ (b : Bool). if b then i ∷ [] else []) e

-- and what goes through that of the name
put_here : (way : Bool) (r q : QueueId) (i : ItemShown) → way ≡ true → is_queue r q ≡ true → moved_by way r (op.Push q i) answer.Pushed ≡ i ∷ []
put_here true r q i w e = ap (λ (b : Bool). if b then i ∷ [] else []) e
put_here false r q i w e = absurd (true≢false (sym w))

got_here : (way : Bool) (r q : QueueId) (i : ItemShown) → way ≡ false → is_queue r q ≡ true → moved_by way r (op.Pop q) (answer.Popped i) ≡ i ∷ []
got_here false r q i w e = ap (λ (b : Bool). if b then i ∷ [] else []) e
got_here true r q i w e = absurd (true≢false w)

-- nothing goes anywhere where a lane was full, or empty, or nothing was asked
pub full_moves : (way : Bool) (r q : QueueId) (i j : ItemShown) → moved_by way r (op.Push q i) (answer.Full j) ≡ []
full_moves true r q i j = refl
full_moves false r q i j = refl

pub empty_moves : (way : Bool) (r q : QueueId) → moved_by way r (op.Pop q) answer.Empty ≡ []
empty_moves true r q = refl
empty_moves false r q = refl

nothing_moves : (way : Bool) (r : QueueId) → moved_by way r op.Nothing answer.Nothing ≡ []
nothing_moves true r = refl
nothing_moves false r = refl

-- nor does it concern the inbox
crammed_not : (r : Role) (p : Prio) (q : QueueId) (i j : ItemShown) → is_queue queue.Inbox q ≡ false → is_crammed r p (op.Push q i) (answer.Full j) ≡ false
crammed_not r p queue.Inbox i j out = absurd (true≢false out)
crammed_not r p _ i j out = refl

pushed_not : (r : Role) (p : Prio) (q : QueueId) (i : ItemShown) → is_crammed r p (op.Push q i) answer.Pushed ≡ false
pushed_not r p queue.Inbox i = refl
pushed_not r p _ i = refl

put_elsewhere : (q : QueueId) (i : ItemShown) → is_queue queue.Inbox q ≡ false → IsElsewhere (op.Push q i) answer.Pushed
put_elsewhere q i out = record { puts = put_else true queue.Inbox q i out; gets = refl; crammed = λ r p. pushed_not r p q i }

full_elsewhere : (q : QueueId) (i j : ItemShown) → is_queue queue.Inbox q ≡ false → IsElsewhere (op.Push q i) (answer.Full j)
full_elsewhere q i j out = record { puts = refl; gets = refl; crammed = λ r p. crammed_not r p q i j out }

got_elsewhere : (q : QueueId) (i : ItemShown) → is_queue queue.Inbox q ≡ false → IsElsewhere (op.Pop q) (answer.Popped i)
got_elsewhere q i out = record { puts = refl; gets = got_else false queue.Inbox q i out; crammed = λ r p. refl }

pub empty_elsewhere : (q : QueueId) → IsElsewhere (op.Pop q) answer.Empty
empty_elsewhere q = record { puts = refl; gets = refl; crammed = λ r p. refl }

-- a party that rests
pub rests : (nodes : List PlainNodeQueues) (d : PlainEnds) → Serves nodes d op.Nothing answer.Nothing d
rests nodes d = record {
  ends = sym (ends_still (room_for nodes d.home) op.Nothing answer.Nothing d (record { puts = refl; gets = refl; crammed = λ r p. refl }) (λ v. refl) nothing_moves);
  cause = tt;
}

-- the causes
cause_put : (e : PlainEnds) (q : QueueId) (i : ItemShown) → is_queue queue.Inbox q ≡ false → HasEnd true q i e → CauseOf e (op.Push q i) answer.Pushed
cause_put e queue.Inbox i out h = absurd (true≢false out)
cause_put e _ i out h = h

cause_full : (e : PlainEnds) (q : QueueId) (i j : ItemShown) → is_queue queue.Inbox q ≡ false → AllByRecursion (HasNoRoomAt q) e.sides → CauseOf e (op.Push q i) (answer.Full j)
cause_full e queue.Inbox i j out h = absurd (true≢false out)
cause_full e _ i j out h = h

cause_got : (e : PlainEnds) (q : QueueId) (i : ItemShown) → is_queue queue.Inbox q ≡ false → HasEnd false q i e → CauseOf e (op.Pop q) (answer.Popped i)
cause_got e queue.Inbox i out h = absurd (true≢false out)
cause_got e _ i out h = h

cause_empty : (e : PlainEnds) (q : QueueId) → is_queue queue.Inbox q ≡ false → AllByRecursion (HasNothingAt q) e.sides → CauseOf e (op.Pop q) answer.Empty
cause_empty e queue.Inbox out h = absurd (true≢false out)
cause_empty e _ out h = h

-- the end of a name at its place, and that there is no other of the name
pub record Stands (d : PlainEnds) (q : QueueId) (at : ℕ) (s : PlainSide) : Type 0 where
  pub there : slice_get d.sides at ≡ Some s
  pub named : is_queue q s.queue ≡ true
  pub first : side_named q d.sides ≡ Some s

same_place : (d : PlainEnds) (q : QueueId) (at : ℕ) (s : PlainSide) → AreEnds d → Stands d q at s → (k : ℕ) (x : PlainSide) → slice_get d.sides k ≡ Some x → is_queue q x.queue ≡ true → k ≡ at
same_place d q at s whole stands k x here called =
    whole.apart k at x s here stands.there (subst (λ r. is_queue r s.queue ≡ true) (queue_is q x.queue called) stands.named)

the_only : (d : PlainEnds) (q : QueueId) (at : ℕ) (s : PlainSide) (P : PlainSide → Type 0) → AreEnds d → Stands d q at s → P s → AllByRecursion (λ x. is_queue q x.queue ≡ true → P x) d.sides
the_only d q at s P whole stands holds =
    all_from (λ (x : PlainSide). is_queue q x.queue ≡ true → P x) d.sides
    (λ k x here called. subst P (same_Some s x (sym stands.there ∙ ap (slice_get d.sides) (sym (same_place d q at s whole stands k x here called)) ∙ here)) holds)

pub no_other : (d : PlainEnds) (q : QueueId) (P : PlainSide → Type 0) → AllByRecursion (λ s. is_queue q s.queue ≡ false) d.sides → AllByRecursion (λ x. is_queue q x.queue ≡ true → P x) d.sides
no_other d q P none = all_then (λ (x : PlainSide). is_queue q x.queue ≡ false) (λ (x : PlainSide). is_queue q x.queue ≡ true → P x) (λ x apart called. absurd (true≢false (sym called ∙ apart))) d.sides none

others_apart : (d : PlainEnds) (q : QueueId) (at : ℕ) (s : PlainSide) → AreEnds d → Stands d q at s → (k : ℕ) (x : PlainSide) → slice_get d.sides k ≡ Some x → (k ≡ at → ⊥) → is_queue x.queue q ≡ false
others_apart d q at s whole stands k x here apart = false_from_ne_true (is_queue x.queue q) (λ t. apart (same_place d q at s whole stands k x here (queue_turned x.queue q t)))

-- the ends with this one at a place
abbrev pub with_side : PlainEnds → ℕ → PlainSide → PlainEnds
with_side d at t = record { home = d.home; sides = slice_set d.sides at t }

-- a push that went through
served_put : (nodes : List PlainNodeQueues) (d : PlainEnds) (q : QueueId) (at : ℕ) (s : PlainSide) (i : ItemShown) → AreEnds d → is_queue queue.Inbox q ≡ false → Stands d q at s → s.puts ≡ true → IsCarried (rule.Lane s.end.carries) i
    → Serves nodes d (op.Push q i) answer.Pushed (with_side d at (side_through s i (beside d.sides s)))
served_put nodes d q at s i whole out stands puts carried =
    let room = room_for nodes d.home in
    let home : option_map (home_after room (op.Push q i) answer.Pushed) d.home ≡ d.home = home_still room (op.Push q i) answer.Pushed d.home (put_elsewhere q i out) (λ v. refl) in
    let sides : slice_set d.sides at (side_through s i (beside d.sides s)) ≡ map (side_after d.sides (op.Push q i) answer.Pushed) d.sides =
    sides_but_one d.sides (op.Push q i) answer.Pushed d.sides at s (side_through s i (beside d.sides s)) stands.there
    (side_moves_one d.sides (op.Push q i) answer.Pushed s i (put_here s.puts s.queue q i puts (queue_turned q s.queue stands.named)))
    (λ k x here apart. put_else x.puts x.queue q i (others_apart d q at s whole stands k x here apart)) in
    record {
      ends = λ j. record { home = sym home j; sides = sides j };
      cause = cause_put d q i out (record { at = at; side = s; there = stands.there; named = stands.named; puts = puts; carried = carried });
    }

pub served_full : (nodes : List PlainNodeQueues) (d : PlainEnds) (q : QueueId) (i j : ItemShown) → is_queue queue.Inbox q ≡ false → AllByRecursion (HasNoRoomAt q) d.sides → Serves nodes d (op.Push q i) (answer.Full j) d
served_full nodes d q i j out full = record {
  ends = sym (ends_still (room_for nodes d.home) (op.Push q i) (answer.Full j) d (full_elsewhere q i j out) (λ v. refl) (λ way r. full_moves way r q i j));
  cause = cause_full d q i j out full;
}

-- what an end says of a push of an item that tells of so many of another lane
abbrev pub Puts : ℕ → PlainSide → Item → Result (Unit {0}) Item → PlainSide → Type 0
Puts n s i r t = MatchResult r (λ _. (s.puts ≡ true) × (t ≡ side_through s (shown_item i) n)) (λ _. (t ≡ s) × (s.puts ≡ true → HadNoRoom s.end))

pub puts_full : (d : PlainEnds) (q : QueueId) (at n : ℕ) (s t : PlainSide) (i : Item) (r : Result (Unit {0}) Item) → AreEnds d → Stands d q at s → Puts n s i r t → IfErr r (λ _. AllByRecursion (HasNoRoomAt q) d.sides)
puts_full d q at n s t i (Ok u) whole stands puts = tt
puts_full d q at n s t i (Err j) whole stands puts = the_only d q at s (λ (x : PlainSide). x.puts ≡ true → HadNoRoom x.end) whole stands puts.1

pub puts_served : (nodes : List PlainNodeQueues) (d : PlainEnds) (q : QueueId) (at n : ℕ) (s t : PlainSide) (i : Item) (r : Result (Unit {0}) Item) → AreEnds d → is_queue queue.Inbox q ≡ false → Stands d q at s → Puts n s i r t
    → (s.puts ≡ true → n ≡ beside d.sides s) → IsFor s.end.region s.end.carries i
    → MatchResult r (λ _. Serves nodes d (op.Push q (shown_item i)) answer.Pushed (with_side d at t)) (λ j. Serves nodes d (op.Push q (shown_item i)) (answer.Full (shown_item j)) (with_side d at t))
puts_served nodes d q at n s t i (Ok u) whole out stands puts count fits =
    subst (λ x. Serves nodes d (op.Push q (shown_item i)) answer.Pushed (with_side d at x)) (sym (puts.1 ∙ ap (side_through s (shown_item i)) (count puts.0))) (served_put nodes d q at s (shown_item i) whole out stands puts.0 fits.carried)
puts_served nodes d q at n s t i (Err j) whole out stands puts count fits =
    let same : d ≡ with_side d at t = λ k. record { home = d.home; sides = (sym (set_same d.sides at s stands.there) ∙ ap (slice_set d.sides at) (sym puts.0)) k } in
    subst (Serves nodes d (op.Push q (shown_item i)) (answer.Full (shown_item j))) same (served_full nodes d q (shown_item i) (shown_item j) out (puts_full d q at n s t i (Err j) whole stands puts))

-- a pop that brought something
served_got : (nodes : List PlainNodeQueues) (d : PlainEnds) (q : QueueId) (at : ℕ) (s : PlainSide) (i : ItemShown) → AreEnds d → is_queue queue.Inbox q ≡ false → Stands d q at s → s.puts ≡ false → IsCarried (rule.Lane s.end.carries) i
    → Serves nodes d (op.Pop q) (answer.Popped i) (with_side d at (side_through s i (beside d.sides s)))
served_got nodes d q at s i whole out stands gets carried =
    let room = room_for nodes d.home in
    let home : option_map (home_after room (op.Pop q) (answer.Popped i)) d.home ≡ d.home = home_still room (op.Pop q) (answer.Popped i) d.home (got_elsewhere q i out) (λ v. refl) in
    let sides : slice_set d.sides at (side_through s i (beside d.sides s)) ≡ map (side_after d.sides (op.Pop q) (answer.Popped i)) d.sides =
    sides_but_one d.sides (op.Pop q) (answer.Popped i) d.sides at s (side_through s i (beside d.sides s)) stands.there
    (side_moves_one d.sides (op.Pop q) (answer.Popped i) s i (got_here s.puts s.queue q i gets (queue_turned q s.queue stands.named)))
    (λ k x here apart. got_else x.puts x.queue q i (others_apart d q at s whole stands k x here apart)) in
    record {
      ends = λ j. record { home = sym home j; sides = sides j };
      cause = cause_got d q i out (record { at = at; side = s; there = stands.there; named = stands.named; puts = gets; carried = carried });
    }

pub served_empty : (nodes : List PlainNodeQueues) (d : PlainEnds) (q : QueueId) → is_queue queue.Inbox q ≡ false → AllByRecursion (HasNothingAt q) d.sides → Serves nodes d (op.Pop q) answer.Empty d
served_empty nodes d q out empty = record {
  ends = sym (ends_still (room_for nodes d.home) (op.Pop q) answer.Empty d (empty_elsewhere q) (λ v. refl) (λ way r. empty_moves way r q));
  cause = cause_empty d q out empty;
}

-- the ends with these of lanes
abbrev pub with_sides : PlainEnds → List PlainSide → PlainEnds
with_sides d sides = record { home = d.home; sides = sides }

-- what a pop brings is of the region of its end, and what its lane carries
abbrev pub Brings : PlainSide → Option Item → Type 0
Brings s r = IfSome r (λ i. IsFor s.end.region s.end.carries i)

-- what an end at a place says of a pop, after which there are these
abbrev pub Gets : List PlainSide → ℕ → PlainSide → Option Item → List PlainSide → Type 0
Gets sides at s r after =
    MatchOption r ((after ≡ sides) × (s.puts ≡ false → HadNothing s.end)) (λ i. (s.puts ≡ false) × (after ≡ slice_set sides at (side_through s (shown_item i) (beside sides s))))

pub gets_empty : (d : PlainEnds) (q : QueueId) (at : ℕ) (s : PlainSide) (after : List PlainSide) (r : Option Item) → AreEnds d → Stands d q at s → Gets d.sides at s r after → MatchOption r (AllByRecursion (HasNothingAt q) d.sides) (λ _. ⊤)
gets_empty d q at s after None whole stands gets = the_only d q at s (λ (x : PlainSide). x.puts ≡ false → HadNothing x.end) whole stands gets.1
gets_empty d q at s after (Some i) whole stands gets = tt

pub gets_served : (nodes : List PlainNodeQueues) (d : PlainEnds) (q : QueueId) (at : ℕ) (s : PlainSide) (after : List PlainSide) (r : Option Item) → AreEnds d → is_queue queue.Inbox q ≡ false → Stands d q at s → Gets d.sides at s r after
    → Brings s r
    → MatchOption r (Serves nodes d (op.Pop q) answer.Empty (with_sides d after)) (λ i. Serves nodes d (op.Pop q) (answer.Popped (shown_item i)) (with_sides d after))
gets_served nodes d q at s after None whole out stands gets fits =
    subst (λ l. Serves nodes d (op.Pop q) answer.Empty (with_sides d l)) (sym gets.0) (served_empty nodes d q out (gets_empty d q at s after None whole stands gets))
gets_served nodes d q at s after (Some i) whole out stands gets fits =
    subst (λ l. Serves nodes d (op.Pop q) (answer.Popped (shown_item i)) (with_sides d l)) (sym gets.1) (served_got nodes d q at s (shown_item i) whole out stands gets.0 fits.carried)

-- what a lane carries, by its end
pub rule_there : (d : PlainEnds) (q : QueueId) (s : PlainSide) → is_queue queue.Inbox q ≡ false → side_named q d.sides ≡ Some s → rule_of d q ≡ Some (rule.Lane s.end.carries)
rule_there d queue.Inbox s out first = absurd (true≢false out)
rule_there d (queue.Up k) s out first = ap (option_map (λ (x : PlainSide). rule.Lane x.end.carries)) first
rule_there d (queue.Down k) s out first = ap (option_map (λ (x : PlainSide). rule.Lane x.end.carries)) first
rule_there d (queue.Out k) s out first = ap (option_map (λ (x : PlainSide). rule.Lane x.end.carries)) first
rule_there d (queue.Tx k) s out first = ap (option_map (λ (x : PlainSide). rule.Lane x.end.carries)) first
rule_there d (queue.Rx k) s out first = ap (option_map (λ (x : PlainSide). rule.Lane x.end.carries)) first

-- a buffer that a lane carries is of the region of its end, and of that of all that the party has
lane_region : (region r : RegionName) (c : Carries) (i : Item) → ((IsLinkRule c → ⊥) → r ≡ region) → IsCarried (rule.Lane c) (shown_item i) → IsItemOf region i → IsItemOf r i
lane_region region r carries.Up i within carried of_it = subst (λ x. IsItemOf x i) (sym (within (λ x. x))) of_it
lane_region region r carries.Down i within carried of_it = subst (λ x. IsItemOf x i) (sym (within (λ x. x))) of_it
lane_region region r carries.Out i within carried of_it = subst (λ x. IsItemOf x i) (sym (within (λ x. x))) of_it
lane_region region r carries.Kiss (item.Packet m b) within carried of_it = absurd carried
lane_region region r carries.Kiss (item.Frame f) within carried of_it = tt
lane_region region r carries.Kiss (item.Note n) within carried of_it = tt
lane_region region r carries.Can (item.Packet m b) within carried of_it = absurd carried
lane_region region r carries.Can (item.Frame f) within carried of_it = tt
lane_region region r carries.Can (item.Note n) within carried of_it = tt

pub for_lane : (d : PlainEnds) (q : QueueId) (at : ℕ) (s : PlainSide) (i : Item) → AreEnds d → is_queue queue.Inbox q ≡ false → Stands d q at s → IsCarriedIn (rule_of d q) (shown_item i) → IsItemOf (region_of d) i → IsFor s.end.region s.end.carries i
for_lane d q at s i whole out stands carried of_it =
    let fits : IsCarried (rule.Lane s.end.carries) (shown_item i) = there_of (rule_of d q) (λ r. IsCarried r (shown_item i)) (rule.Lane s.end.carries) (rule_there d q s out stands.first) carried in
    record { carried = fits; of_it = lane_region (region_of d) s.end.region s.end.carries i (all_at (IsWithin (region_of d)) d.sides at s stands.there whole.within) fits of_it }

pub got_carried : (d : PlainEnds) (q : QueueId) (at : ℕ) (s : PlainSide) (r : Option Item) → is_queue queue.Inbox q ≡ false → Stands d q at s → Brings s r → IfSome r (λ i. IsCarriedIn (rule_of d q) (shown_item i))
got_carried d q at s None out stands carried = tt
got_carried d q at s (Some i) out stands carried = subst (λ x. IsCarriedIn x (shown_item i)) (sym (rule_there d q s out stands.first)) carried.carried

pub got_within : (d : PlainEnds) (q : QueueId) (at : ℕ) (s : PlainSide) (r : Option Item) → AreEnds d → Stands d q at s → Brings s r → IfSome r (λ i. IsItemOf (region_of d) i)
got_within d q at s None whole stands carried = tt
got_within d q at s (Some i) whole stands carried =
    lane_region s.end.region (region_of d) s.end.carries i (λ other. sym (all_at (IsWithin (region_of d)) d.sides at s stands.there whole.within other)) carried.carried carried.of_it
