-- Lemmas on turns that look into empty queues.
use Rattle.std.proofs.Common.{◌≡◌, ℕ, zero, suc, ◌+◌, ◌*◌, ◌<◌, ◌≤◌, Bool, false, Option, None, Some, List, [], ◌∷◌, ◌++◌, length, map, set, refl, sym, ◌∙◌, ap, subst, append-nil, arith, take, get_or}
use Rattle.std.proofs.Math.Nat.{suc-mul, mul-le-mul_left}
use Rattle.std.specs.Prelude.{slice_get, replicate, All, IsSome, if◌then◌else◌}
use Rattle.std.specs.Option.{option_map}
use Rattle.std.proofs.lemmas.List.{append_assoc, length-append, replicate-append-replicate, take_more}
use Rattle.std.proofs.lemmas.List.Elements.{All-head, All-push, All-tail, All-weaker}
use Rattle.csp_arena.specs.Cells.{RegionName}
use Rattle.csp_deck.specs.Circles.{LooksInto}
use Rattle.csp_deck.specs.Runs.{Steps}
use Rattle.csp_lists.specs.PlainDeck.{PlainDeck, PlainQueue, answer_of, front_of, popped, pops_at, queue_at}
use Rattle.csp_log.specs.declared.entry.Entry.{Entry}
use Rattle.csp_log.specs.declared.event.Event.{Event}
use Rattle.csp_log.specs.declared.places.End.{End}
use Rattle.csp_log.specs.declared.places.Place.{Place}
use Rattle.csp_log.specs.declared.places.QueueId.{QueueId}
use Rattle.csp_log.specs.declared.places.Rule.{Rule}
use Rattle.csp_log.specs.declared.shown.ItemShown.{ItemShown}
use Rattle.csp_log.specs.declared.shown.AnswerShown.{AnswerShown}
use Rattle.csp_log.specs.declared.shown.AnswerShown.TheVariants as answer
use Rattle.csp_log.specs.declared.shown.OpShown.{OpShown}
use Rattle.csp_log.specs.declared.shown.OpShown.TheVariants as op
use Rattle.csp_deck.specs.Step.{entry_of}
use Rattle.csp_nodes.specs.Serving.{answer_at, answer_in, answer_there, at_queue, goes}
use Rattle.csp_party.specs.Any.{PlainParty, plain, with_plain, has_ended, asks, asked, tells, events, count, needs}
use Rattle.csp_party.specs.declared.any.AnyParty.{AnyParty}
use Rattle.csp_log.specs.declared.who.Who.{Who}
use Rattle.csp_nodes.specs.DecksAt.{Answers, DecksAt}
use Rattle.csp_world.specs.Inside.{IsFit}
use Rattle.csp_world.specs.Looking.{AreEmpty, look_entry, look_entries, MakesOf}
use Rattle.csp_world.specs.Schedule.{turns}
use Rattle.csp_world.specs.declared.member.Member.{Member}
use Rattle.csp_world.specs.World.{PlainMember, PlainWorld, answered, turned, turned_with, turn}
use Rattle.csp_world.proofs.HolderLemmas.{Moves}
use Rattle.csp_world.proofs.ScheduleLemmas.{first_turn, none_left, turns_both, turns_done}
use Rattle.csp_nodes.proofs.Public.{set_here, set_same, set_twice}
use Rattle.csp_world.proofs.StepLemmas.{turn_known}
use Rattle.csp_party.proofs.Public.{events_told, plain_told}

-- the steps of a party of any kind
abbrev pub any_steps : Steps AnyParty
any_steps = record {
  has_ended = λ p. has_ended (plain p);
  asks = λ p now. asks (plain p) now;
  asked = λ p now. with_plain p (asked (plain p) now);
  tells = λ p now a. with_plain p (tells (plain p) now a);
  events = λ p now a. events (plain p) now a;
}

-- a party with this name, state and log
abbrev pub member_with : Who → AnyParty → List Entry → PlainMember
member_with who p es = record { who = who; party = plain p; entries = es }

-- the party of a world at a place made this one
abbrev pub with_member : PlainWorld → ℕ → PlainMember → PlainWorld
with_member w place m = record w { members = set w.members place m }

-- it is empty: a pop of it finds nothing
abbrev pub IsEmptyIn : PlainWorld → Who → QueueId → Type 0
IsEmptyIn w who q = answer_in w.decks w.links who (op.Pop q) ≡ (answer.Empty, w.decks)

-- one look into an empty queue
look_turn : (w : PlainWorld) (place : ℕ) (who : Who) (p : AnyParty) (es : List Entry) (q : QueueId) → slice_get w.members place ≡ Some (member_with who p es)
    → has_ended (plain p) ≡ false → asks (plain p) w.time ≡ op.Pop q → events (asked (plain p) w.time) w.time answer.Empty ≡ [] → IsEmptyIn w who q
    → turn w place ≡ with_member w place (member_with who (with_plain (with_plain p (asked (plain p) w.time)) (tells (plain (with_plain p (asked (plain p) w.time))) w.time answer.Empty)) (es ++ look_entry w.time q ∷ []))
look_turn w place who p es q at goes pops none empty =
    let m : PlainMember = member_with who p es in
    let s : PlainParty = tells (asked (plain p) w.time) w.time answer.Empty in
    let answers : answered w.decks w.links w.time m ≡ (answer.Empty, w.decks) = ap (answer_in w.decks w.links who) pops ∙ empty in
    turn_known w place m at
    ∙ ap (λ (b : Bool). if b then w else turned w place m) goes
    ∙ ap (turned_with w place m) answers
    ∙ ap (λ (o : OpShown). with_member w place (record { who = who; party = s; entries = es ++ entry_of w.time o answer.Empty (events (asked (plain p) w.time) w.time answer.Empty) ∷ [] })) pops
    ∙ ap (λ (told : List Event). with_member w place (record { who = who; party = s; entries = es ++ entry_of w.time (op.Pop q) answer.Empty told ∷ [] })) none
    ∙ ap (λ (t : PlainParty). with_member w place (record { who = who; party = t; entries = es ++ look_entry w.time q ∷ [] })) (sym (plain_told p w.time answer.Empty))

-- the party of a world made what it is
same_member : (w : PlainWorld) (place : ℕ) (m : PlainMember) → slice_get w.members place ≡ Some m → with_member w place m ≡ w
same_member w place m at = ap (λ (ms : List PlainMember). record w { members = ms }) (set_same w.members place m at)

-- no turn
pub makes_same : (decks : List PlainDeck) (links : List (List End)) (time : ℕ) (m : PlainMember) → MakesOf decks links time 0 m m
makes_same decks links time m w place d l t at = none_left w ∙ sym (same_member w place m at)

-- looks into a list of queues one after the other
circle_turns : (qs : List QueueId) (w : PlainWorld) (place : ℕ) (who : Who) (p t : AnyParty) (es : List Entry) → slice_get w.members place ≡ Some (member_with who p es)
    → LooksInto any_steps w.time p qs t → All (IsEmptyIn w who) qs
    → turns w (replicate (length qs) place) ≡ with_member w place (member_with who t (es ++ map (look_entry w.time) qs))
circle_turns [] w place who p t es at looks empty =
    none_left w
    ∙ sym (same_member w place (member_with who p es) at)
    ∙ ap (λ (u : AnyParty). with_member w place (member_with who u es)) looks
    ∙ ap (λ (l : List Entry). with_member w place (member_with who t l)) (sym (append-nil es))
circle_turns (q ∷ qs) w place who p t es at (look, rest) empty =
    let none : events (asked (plain p) w.time) w.time answer.Empty ≡ [] = sym (events_told p w.time answer.Empty) ∙ look.events in
    let next : AnyParty = with_plain (with_plain p (asked (plain p) w.time)) (tells (plain (with_plain p (asked (plain p) w.time))) w.time answer.Empty) in
    let more : List Entry = es ++ look_entry w.time q ∷ [] in
    let after : PlainWorld = with_member w place (member_with who next more) in
    let there : slice_get after.members place ≡ Some (member_with who next more) = set_here w.members place (member_with who p es) (member_with who next more) at in
    let first : turn w place ≡ after = look_turn w place who p es q at look.goes_on look.asks none (All-head (IsEmptyIn w who) q qs empty) in
    first_turn w place (replicate (length qs) place)
    ∙ ap (λ (v : PlainWorld). turns v (replicate (length qs) place)) first
    ∙ circle_turns qs after place who next t more there rest (All-tail (IsEmptyIn w who) q qs empty)
    ∙ ap (λ (ms : List PlainMember). record w { members = ms }) (set_twice w.members place (member_with who next more) (member_with who t (more ++ map (look_entry w.time) qs)))
    ∙ ap (λ (l : List Entry). with_member w place (member_with who t l)) (append_assoc es (look_entry w.time q ∷ []) (map (look_entry w.time) qs))

-- so many times round
round_turns : (n : ℕ) (qs : List QueueId) (w : PlainWorld) (place : ℕ) (who : Who) (p : AnyParty) (es : List Entry) → slice_get w.members place ≡ Some (member_with who p es)
    → LooksInto any_steps w.time p qs p → All (IsEmptyIn w who) qs
    → turns w (replicate (n * length qs) place) ≡ with_member w place (member_with who p (es ++ look_entries n w.time qs))
unfolding look_entries
round_turns zero qs w place who p es at looks empty =
    turns_done w (0 * length qs) place (grind (arith))
    ∙ sym (same_member w place (member_with who p es) at)
    ∙ ap (λ (l : List Entry). with_member w place (member_with who p l)) (sym (append-nil es))
round_turns (suc n) qs w place who p es at looks empty =
    let before : List Entry = es ++ look_entries n w.time qs in
    let after : PlainWorld = with_member w place (member_with who p before) in
    let there : slice_get after.members place ≡ Some (member_with who p before) = set_here w.members place (member_with who p es) (member_with who p before) at in
    let split : replicate (suc n * length qs) place ≡ replicate (n * length qs) place ++ replicate (length qs) place =
    ap (λ (k : ℕ). replicate k place) (suc-mul n (length qs)) ∙ sym (replicate-append-replicate (n * length qs) (length qs) place) in
    ap (turns w) split
    ∙ turns_both w (replicate (n * length qs) place) (replicate (length qs) place)
    ∙ ap (λ (v : PlainWorld). turns v (replicate (length qs) place)) (round_turns n qs w place who p es at looks empty)
    ∙ circle_turns qs after place who p p before there looks empty
    ∙ ap (λ (ms : List PlainMember). record w { members = ms }) (set_twice w.members place (member_with who p before) (member_with who p (before ++ map (look_entry w.time) qs)))
    ∙ ap (λ (l : List Entry). with_member w place (member_with who p l)) (append_assoc es (look_entries n w.time qs) (map (look_entry w.time) qs))

-- in every world with these lists
pub makes_round : (n : ℕ) (qs : List QueueId) (decks : List PlainDeck) (links : List (List End)) (time : ℕ) (who : Who) (p : AnyParty) (es : List Entry)
    → LooksInto any_steps time p qs p → All (λ q. answer_in decks links who (op.Pop q) ≡ (answer.Empty, decks)) qs
    → MakesOf decks links time (n * length qs) (member_with who p es) (member_with who p (es ++ look_entries n time qs))
makes_round n qs decks links time who p es looks empty w place d l t at =
    let looks_now : LooksInto any_steps w.time p qs p = subst (λ (k : ℕ). LooksInto any_steps k p qs p) (sym t) looks in
    let empty_now : All (IsEmptyIn w who) qs = subst (λ (ls : List (List End)). All (λ q. answer_in w.decks ls who (op.Pop q) ≡ (answer.Empty, w.decks)) qs) (sym l)
    (subst (λ (ds : List PlainDeck). All (λ q. answer_in ds links who (op.Pop q) ≡ (answer.Empty, ds)) qs) (sym d) empty) in
    round_turns n qs w place who p es at looks_now empty_now
    ∙ ap (λ (k : ℕ). with_member w place (member_with who p (es ++ look_entries n k qs))) t

-- the entries of no round, and of one more
pub look_none : (time : ℕ) (qs : List QueueId) → look_entries 0 time qs ≡ []
unfolding look_entries
look_none time qs = refl

next_looks : (n time : ℕ) (qs : List QueueId) → look_entries (suc n) time qs ≡ look_entries n time qs ++ map (look_entry time) qs
unfolding look_entries
next_looks n time qs = refl

pub look_more : (n time : ℕ) (qs : List QueueId) (before log more : List Entry) → log ≡ before ++ look_entries n time qs → more ≡ log ++ map (look_entry time) qs → more ≡ before ++ look_entries (n + 1) time qs
look_more n time qs before log more e f =
    let one : n + 1 ≡ suc n = omega arith in
    f
    ∙ ap (λ (l : List Entry). l ++ map (look_entry time) qs) e
    ∙ append_assoc before (look_entries n time qs) (map (look_entry time) qs)
    ∙ sym (ap (λ (l : List Entry). before ++ l) (ap (λ (k : ℕ). look_entries k time qs) one ∙ next_looks n time qs))

pub room_more : (n size spare log more : ℕ) → log + n * size ≡ spare → more + size ≡ log → more + (n + 1) * size ≡ spare
room_more n size spare log more e f =
    let one : (n + 1) * size ≡ n * size + size = ap (λ k. k * size) (omega arith) ∙ suc-mul n size in
    omega (arith, one, e, f)

-- a pop that finds nothing leaves the lists as they are
lists_kept : (d : PlainDeck) (place : Place) (o : Option PlainQueue) → (popped d place o).0 ≡ answer.Empty → (popped d place o).1 ≡ d
lists_kept d place None e = refl
lists_kept d place (Some q) e = by q.items e where
  by : (items : List ItemShown) → (front_of d place q items).0 ≡ answer.Empty → (front_of d place q items).1 ≡ d
  by [] f = refl
  by (i ∷ items) f = cc

pop_kept : (decks : List PlainDeck) (o : OpShown) (n : ℕ) (q : QueueId) (d : Option PlainDeck) → slice_get decks n ≡ d → (answer_at decks o (n, op.Pop q) d).0 ≡ answer.Empty → (answer_at decks o (n, op.Pop q) d).1 ≡ decks
pop_kept decks o n q None s e = refl
pop_kept decks o n q (Some d) s e =
    let same : (answer_of d (op.Pop q)).1 ≡ d = lists_kept d (pops_at d q) (queue_at d (pops_at d q)) e in
    ap (λ (x : PlainDeck). set decks n x) same ∙ set_same decks n d s

found_there : (decks : List PlainDeck) (q : QueueId) (there : Option (ℕ × QueueId)) → (answer_there decks (op.Pop q) (option_map (at_queue op.Pop) there)).0 ≡ answer.Empty → (answer_there decks (op.Pop q) (option_map (at_queue op.Pop) there)).1 ≡ decks
found_there decks q None e = refl
found_there decks q (Some there) e = pop_kept decks (op.Pop q) there.0 there.1 (slice_get decks there.0) refl e

pub found_empty : (d e : DecksAt) (q : QueueId) → Answers d (op.Pop q) answer.Empty e → e ≡ d
found_empty d e q a =
    let none : (answer_in d.decks d.links d.whose (op.Pop q)).0 ≡ answer.Empty = ap (λ (r : AnswerShown × List PlainDeck). r.0) a.answer in
    let decks : e.decks ≡ d.decks = sym (ap (λ (r : AnswerShown × List PlainDeck). r.1) a.answer) ∙ found_there d.decks q (goes d.links d.whose q) none in
    ap (λ (x : List PlainDeck). record { decks = x; regions = e.regions; links = e.links; whose = e.whose }) decks
    ∙ ap (λ (x : List RegionName). record { decks = d.decks; regions = x; links = e.links; whose = e.whose }) a.regions
    ∙ ap (λ (x : List (List End)). record { decks = d.decks; regions = d.regions; links = x; whose = e.whose }) a.links
    ∙ ap (λ (x : Who). record { decks = d.decks; regions = d.regions; links = d.links; whose = x }) a.whose

-- one more queue is found empty
pub empty_more : (first d e : DecksAt) (qs : List QueueId) (i : ℕ) (z : QueueId) → i < length qs → d ≡ first → Answers d (op.Pop (get_or qs i z)) answer.Empty e → AreEmpty first (take i qs) → AreEmpty first (take (i + 1) qs)
empty_more first d e qs i z lt same a before =
    let here : answer_in d.decks d.links d.whose (op.Pop (get_or qs i z)) ≡ (answer.Empty, d.decks) = a.answer ∙ ap (λ (x : DecksAt). (answer.Empty, x.decks)) (found_empty d e (get_or qs i z) a) in
    let now : answer_in first.decks first.links first.whose (op.Pop (get_or qs i z)) ≡ (answer.Empty, first.decks) = subst (λ (x : DecksAt). answer_in x.decks x.links x.whose (op.Pop (get_or qs i z)) ≡ (answer.Empty, x.decks)) same here in
    subst (AreEmpty first) (sym (take_more qs i z lt)) (All-push (λ q. answer_in first.decks first.links first.whose (op.Pop q) ≡ (answer.Empty, first.decks)) (take i qs) (get_or qs i z) before now)

-- what a party uses is served
pub served_all : (uses rule : QueueId → Option Rule) (qs : List QueueId) → ((q : QueueId) (r : Rule) → uses q ≡ Some r → rule q ≡ Some r) → All (λ q. IsSome (uses q)) qs → All (λ q. IsSome (rule q)) qs
served_all uses rule qs served all = All-weaker (λ q. IsSome (uses q)) (λ q. IsSome (rule q)) (λ q h. by q (uses q) refl h) qs all where
  by : (q : QueueId) (o : Option Rule) → uses q ≡ o → IsSome o → IsSome (rule q)
  by q None e h = cc
  by q (Some r) e h = subst IsSome (sym (served q r e)) refl

-- a party whose log alone is another holds what it held
pub looked_moves : (w : PlainWorld) (place : ℕ) (old new : PlainMember) → slice_get w.members place ≡ Some old → new.who ≡ old.who → new.party ≡ old.party → Moves w place old new w.decks
looked_moves w place old new at who party = record {
  old_is = at;
  rooms = refl;
  held = λ node d there. (d, there, λ k. rw (who, party) refl);
}

-- a party whose log has more entries, and so much less room, is as fit as before
pub looked_fit : (d : DecksAt) (time n : ℕ) (old new : Member) (more : List Entry) → new.who ≡ old.who → new.party ≡ old.party → new.numbers ≡ old.numbers → new.spares ≡ old.spares
    → new.log.entries ≡ old.log.entries ++ more → new.log.spare + n ≡ old.log.spare → IsFit d time old → IsFit d time new
looked_fit d time n old new more who party numbers spares entries spare f =
    let longer : length new.log.entries ≡ length old.log.entries + length more = ap length entries ∙ length-append old.log.entries more in
    let counted : count (plain old.party) ≤ length new.log.entries = let h = f.counted in omega arith in
    let less : needs (plain old.party) * new.log.spare ≤ needs (plain old.party) * old.log.spare = mul-le-mul_left (needs (plain old.party)) (omega (arith, spare)) in
    record {
      ready = rw party f.ready;
      counted = rw party counted;
      served = rw (party, who) f.served;
      called = rw (party, who) f.called;
      home = rw (party, who) f.home;
      unnoted = rw numbers f.unnoted;
      room = rw (numbers, who) f.room;
      stock = rw (party, spares) (let h = f.stock in omega (arith, less, h));
    }
