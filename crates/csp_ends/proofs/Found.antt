-- What a put and a get find by the name of a queue.
use Rattle.std.proofs.Common.{◌≡◌, ℕ, true, Option, None, Some, Result, List, length, slice_get, get_or, sym, ap, subst, ◌∙◌}
use Rattle.std.specs.Prelude.{false, IfSome, MatchOption, MatchResult}
use Rattle.std.specs.List.{slice_set}
use Rattle.std.specs.Option.{option_map}
use Rattle.std.specs.Vec.{with_items}
use Rattle.std.proofs.lemmas.List.{with_items_is}
use Rattle.std.proofs.lemmas.Option.{get_or_from_slice_get}
use Rattle.csp_consistent.specs.Reading.{is_queue}
use Rattle.csp_ends.specs.Ends.{PlainEnds, PlainNodeQueues, PlainSide, AreEnds, side_named}
use Rattle.csp_ends.specs.Serving.{Serves}
use Rattle.csp_ends.specs.Sides.{IsBacked, back_of, beside}
use Rattle.csp_ends.specs.declared.ends.Ends.TheInside.{Inside}
use Rattle.csp_ends.proofs.Lists.{all_at}
use Rattle.csp_ends.proofs.Ways.{Brings, Gets, Puts, Stands, gets_served, puts_served, with_sides}
use Rattle.csp_lane.specs.Ends.{IsFor}
use Rattle.csp_log.specs.Pictures.{shown_item}
use Rattle.csp_log.specs.declared.item.Item.{Item}
use Rattle.csp_log.specs.declared.places.QueueId.{QueueId}
use Rattle.csp_log.specs.declared.places.QueueId.TheVariants as queue
use Rattle.csp_log.specs.declared.shown.AnswerShown.TheVariants as answer
use Rattle.csp_log.specs.declared.shown.OpShown.TheVariants as op
use Rattle.csp_tally.specs.declared.tally.Witness.{Witness}

-- what a party has in hand, as it is seen
abbrev pub seen : Inside → PlainEnds
seen e = record { home = e.home; sides = e.sides.items }

-- what a search for a name found
abbrev pub Finds : QueueId → List PlainSide → ℕ → Type 0
Finds q sides at = (s : PlainSide) × (slice_get sides at ≡ Some s) × (is_queue q s.queue ≡ true) × (side_named q sides ≡ Some s)

pub stands_as : (d : PlainEnds) (q : QueueId) (at : ℕ) (sought : List PlainSide) → sought ≡ d.sides → (found : Finds q sought at) → Stands d q at found.0
stands_as d q at sought same found = record { there = ap (λ l. slice_get l at) (sym same) ∙ found.1; named = found.2; first = ap (side_named q) (sym same) ∙ found.3 }

-- what a put has in hand: the end x at the place, from the ends that were lent for its note and came back
pub record Holds (e : Inside) (q : QueueId) (at : ℕ) (lent after : List PlainSide) (x : PlainSide) : Type 0 where
  pub stands : Stands (seen e) q at x
  pub same : lent ≡ e.sides.items
  pub there : slice_get lent at ≡ Some x
  pub back : (with_items e.sides after).items ≡ e.sides.items

pub holds : (e : Inside) (q : QueueId) (at : ℕ) (sought lent after : List PlainSide) (x : PlainSide) → sought ≡ e.sides.items → lent ≡ e.sides.items → length lent ≡ e.sides.len → after ≡ lent
    → Finds q sought at → x ≡ get_or (with_items e.sides after).items at x → Holds e q at lent after x
holds e q at sought lent after x is same long kept found got =
    let stands = stands_as (seen e) q at sought is found in
    let back : (with_items e.sides after).items ≡ e.sides.items = with_items_is e.sides after (ap length kept ∙ long) ∙ kept ∙ same in
    let self : x ≡ found.0 = got ∙ ap (λ l. get_or l at x) back ∙ get_or_from_slice_get e.sides.items at found.0 x stands.there in
    let own : Stands (seen e) q at x = subst (Stands (seen e) q at) (sym self) stands in
    record { stands = own; same = same; there = ap (λ l. slice_get l at) same ∙ own.there; back = back }

-- what its item tells is of the lane that the end's own marks tell of
noted_as : (o : Option Witness) (a b : Option ℕ) → a ≡ b → IfSome o (λ w. b ≡ Some w.name) → IfSome o (λ w. a ≡ Some w.name)
noted_as None a b e h = tt
noted_as (Some w) a b e h = e ∙ h

pub noted : (e : Inside) (q : QueueId) (at : ℕ) (lent after : List PlainSide) (x : PlainSide) (o : Option Witness) → AreEnds (seen e) → Holds e q at lent after x
    → ((s : PlainSide) → slice_get lent at ≡ Some s → IfSome o (λ w. option_map (λ t. t.end.tally) (back_of lent s) ≡ Some w.name)) → IfSome o (λ w. x.end.about ≡ Some w.name)
noted e q at lent after x o whole held name =
    noted_as o x.end.about _ (subst (λ l. IsBacked l x) (sym held.same) (all_at (IsBacked e.sides.items) e.sides.items at x held.stands.there whole.backed)) (name x held.there)

-- and what it says is so of all ends
pub put_served : (nodes : List PlainNodeQueues) (e : Inside) (q : QueueId) (at n : ℕ) (lent after : List PlainSide) (x t : PlainSide) (i : Item) (r : Result (Unit {0}) Item) → AreEnds (seen e) → is_queue queue.Inbox q ≡ false → Holds e q at lent after x
    → Puts n x i r t → ((s : PlainSide) → slice_get lent at ≡ Some s → s.puts ≡ true → n ≡ beside lent s) → IsFor x.end.region x.end.carries i
    → MatchResult r (λ _. Serves nodes (seen e) (op.Push q (shown_item i)) answer.Pushed (record { home = e.home; sides = slice_set (with_items e.sides after).items at t }))
    (λ j. Serves nodes (seen e) (op.Push q (shown_item i)) (answer.Full (shown_item j)) (record { home = e.home; sides = slice_set (with_items e.sides after).items at t }))
put_served nodes e q at n lent after x t i r whole out held puts count fits = subst
    (λ l. MatchResult r (λ _. Serves nodes (seen e) (op.Push q (shown_item i)) answer.Pushed (record { home = e.home; sides = slice_set l at t }))
    (λ (j : Item). Serves nodes (seen e) (op.Push q (shown_item i)) (answer.Full (shown_item j)) (record { home = e.home; sides = slice_set l at t })))
    (sym held.back)
    (puts_served nodes (seen e) q at n x t i r whole out held.stands puts (λ way. count x held.there way ∙ ap (λ l. beside l x) held.same) fits)

-- what a get has in hand: the end at the place, and what a pop of it says
pub record Got (d : PlainEnds) (q : QueueId) (at : ℕ) (r : Option Item) (after : List PlainSide) : Type 0 where
  pub side : PlainSide
  pub stands : Stands d q at side
  pub gets : Gets d.sides at side r after
  pub brings : Brings side r

pub got_as : (d : PlainEnds) (q : QueueId) (at : ℕ) (sought lent after : List PlainSide) (r : Option Item) → sought ≡ d.sides → lent ≡ d.sides → Finds q sought at
    → ((s : PlainSide) → slice_get lent at ≡ Some s → Gets lent at s r after) → ((s : PlainSide) → slice_get lent at ≡ Some s → Brings s r) → Got d q at r after
got_as d q at sought lent after r is same found gets brings =
    let stands = stands_as d q at sought is found in
    let there : slice_get lent at ≡ Some found.0 = ap (λ l. slice_get l at) same ∙ stands.there in
    record { side = found.0; stands = stands; gets = subst (λ l. Gets l at found.0 r after) same (gets found.0 there); brings = brings found.0 there }

pub got_served : (nodes : List PlainNodeQueues) (e : Inside) (q : QueueId) (at : ℕ) (after : List PlainSide) (r : Option Item) → AreEnds (seen e) → is_queue queue.Inbox q ≡ false → length after ≡ e.sides.len → Got (seen e) q at r after
    → MatchOption r (Serves nodes (seen e) (op.Pop q) answer.Empty (with_sides (seen e) (with_items e.sides after).items)) (λ i. Serves nodes (seen e) (op.Pop q) (answer.Popped (shown_item i)) (with_sides (seen e) (with_items e.sides after).items))
got_served nodes e q at after r whole out long got = subst
    (λ l. MatchOption r (Serves nodes (seen e) (op.Pop q) answer.Empty (with_sides (seen e) l)) (λ (i : Item). Serves nodes (seen e) (op.Pop q) (answer.Popped (shown_item i)) (with_sides (seen e) l)))
    (sym (with_items_is e.sides after long))
    (gets_served nodes (seen e) q at got.side after r whole out got.stands got.gets got.brings)
