-- Turns of a party: one, and more of them; and what they keep.
use Rattle.std.proofs.Common.{◌≡◌, ◌⊎◌, inl, inr, ℕ, ◌+◌, ◌<◌, ◌≤◌, true, Option, None, Some, List, [], ◌∷◌, ◌++◌, length, refl, sym, ap, ◌∙◌, subst, append_assoc, length-append, arith}
use Rattle.std.specs.Prelude.{IsSomeAnd}
use Rattle.std.specs.List.{AllByRecursion}
use Rattle.std.proofs.lemmas.Grind.{flat_map-append}
use Rattle.std.proofs.lemmas.List.{append-nil}
use Rattle.csp_consistent.specs.Reading.{got_by, gets}
use Rattle.csp_deck.specs.Carried.{IsCarried}
use Rattle.csp_deck.specs.Runs.{Runs, IsRun, state_after, last_time}
use Rattle.csp_ends.specs.Causes.{CauseOf, HaveCauses, HasPassedOver}
use Rattle.csp_ends.specs.Ends.{PlainNodeQueues, PlainEnds, AreOf, AreEnds, inbox_of}
use Rattle.csp_ends.specs.Moves.{ends_after, ends_after_all, room_for}
use Rattle.csp_ends.specs.Traced.{AreMarked, AreTraced}
use Rattle.csp_inbox.specs.Passes as inbox
use Rattle.csp_log.specs.declared.entry.Entry.{Entry}
use Rattle.csp_log.specs.declared.places.QueueId.TheVariants as queue
use Rattle.csp_log.specs.declared.places.Rule.TheVariants as rule
use Rattle.csp_log.specs.declared.shown.AnswerShown.{AnswerShown}
use Rattle.csp_log.specs.declared.shown.AnswerShown.TheVariants as answer
use Rattle.csp_log.specs.declared.shown.ItemShown.{ItemShown}
use Rattle.csp_log.specs.declared.shown.ItemShown.TheVariants as item
use Rattle.csp_log.specs.declared.shown.OpShown.{OpShown}
use Rattle.csp_log.specs.declared.shown.OpShown.TheVariants as op
use Rattle.csp_party.specs.Any.{PlainParty, has_ended}
use Rattle.csp_posts.specs.Balance.{IsBalanced, times_out, times_in}
use Rattle.csp_posts.specs.Posts.{PlainPost, AreTurns}
use Rattle.csp_posts.specs.Still.{still, IsPostFrom}
use Rattle.csp_topology.specs.Parties.{party_steps}
use Rattle.csp_posts.proofs.Flowing.{flows_after_all}
use Rattle.csp_posts.proofs.Marking.{marked_after_all}
use Rattle.csp_posts.proofs.Running.{state_joined, run_joined, last_at, last_joined, run_fits, handed_joined, received_joined}
use Rattle.csp_posts.proofs.Staying.{still_after_all, room_after, of_it_after_all, are_ends_after_all}
use Rattle.csp_posts.proofs.Tracing.{traced_after_all}

-- lists of entries, one after the other
all_joined : (P : Entry → Type 0) (xs ys : List Entry) → AllByRecursion P xs → AllByRecursion P ys → AllByRecursion P (xs ++ ys)
all_joined P [] ys h g = g
all_joined P (x ∷ xs) ys h g = (h.0, all_joined P xs ys h.1 g)

after_joined : (room : ℕ) (e : PlainEnds) (xs ys : List Entry) → ends_after_all room e (xs ++ ys) ≡ ends_after_all room (ends_after_all room e xs) ys
after_joined room e [] ys = refl
after_joined room e (x ∷ xs) ys = after_joined room (ends_after room x.op x.answer e) xs ys

causes_joined : (room : ℕ) (e : PlainEnds) (xs ys : List Entry) → HaveCauses room e xs → HaveCauses room (ends_after_all room e xs) ys → HaveCauses room e (xs ++ ys)
causes_joined room e [] ys h g = g
causes_joined room e (x ∷ xs) ys h g = (h.0, causes_joined room (ends_after room x.op x.answer e) xs ys h.1 g)

-- so many turns and then so many
all_turns : (a b : ℕ) (t u : PlainParty) (xs ys : List Entry) → (has_ended t ≡ true → ys ≡ []) → (has_ended t ≡ true → has_ended u ≡ true)
    → (length xs ≡ a) ⊎ ((has_ended t ≡ true) × (length xs ≤ a)) → (length ys ≡ b) ⊎ ((has_ended u ≡ true) × (length ys ≤ b))
    → (length (xs ++ ys) ≡ a + b) ⊎ ((has_ended u ≡ true) × (length (xs ++ ys) ≤ a + b))
all_turns a b t u xs ys none stays (inl x) (inl y) = inl (let long = length-append xs ys in omega (arith, long, x, y))
all_turns a b t u xs ys none stays (inl x) (inr y) = inr (y.0, let long = length-append xs ys in let few = y.1 in omega (arith, long, x, few))
all_turns a b t u xs ys none stays (inr x) _ = inr (
  stays x.0,
  let long = length-append xs ys in
      let few = x.1 in
      let no = ap (λ (es : List Entry). length es) (none x.0) in
      omega (arith, long, few, no),
)

pub turns_joined : (nodes : List PlainNodeQueues) (time a b : ℕ) (s t u : PlainPost) → AreTurns nodes time a s t → AreTurns nodes time b t u → AreTurns nodes time (a + b) s u
turns_joined nodes time a b s t u f g =
    let room = room_for nodes s.ends.home in
    let same : room_for nodes t.ends.home ≡ room = ap (λ (e : PlainEnds). room_for nodes e.home) f.ends ∙ room_after nodes room s.ends f.more in
    let last : last_time time f.more ≤ time = last_at time time f.more (omega arith) f.times in
    record {
      more = f.more ++ g.more;
      entries = g.entries ∙ ap (λ (es : List Entry). es ++ g.more) f.entries ∙ append_assoc s.entries f.more g.more;
      times = all_joined (λ e. e.time ≡ time) f.more g.more f.times g.times;
      run = run_joined party_steps time time s.party f.more g.more f.run last (subst (λ (p : PlainParty). IsRun party_steps time p g.more) (sym f.reached) g.run);
      reached = state_joined party_steps s.party f.more g.more ∙ ap (λ (p : PlainParty). state_after party_steps p g.more) f.reached ∙ g.reached;
      held = λ k.
          let first = f.held k in
          let second = g.held k in
          let handed = handed_joined k f.more g.more in
          let came = received_joined k f.more g.more in
          omega (arith, first, second, handed, came);
      ends =
          g.ends
          ∙ ap (λ (n : ℕ). ends_after_all n t.ends g.more) same
          ∙ ap (λ (e : PlainEnds). ends_after_all room e g.more) f.ends
          ∙ sym (after_joined room s.ends f.more g.more);
      causes = causes_joined room s.ends f.more g.more f.causes
          (subst (λ (e : PlainEnds). HaveCauses room e g.more) f.ends (subst (λ (n : ℕ). HaveCauses n t.ends g.more) same g.causes));
      all = all_turns a b t.party u.party f.more g.more g.none g.stays f.all g.all;
      none = λ e. ap (λ (es : List Entry). es ++ g.more) (f.none e) ∙ g.none (f.stays e);
      stays = λ e. g.stays (f.stays e);
      who = g.who ∙ f.who;
    }

-- no turn
pub no_turns : (nodes : List PlainNodeQueues) (time : ℕ) (s : PlainPost) → AreTurns nodes time 0 s s
no_turns nodes time s = record {
  more = [];
  entries = sym (append-nil s.entries);
  times = tt;
  run = tt;
  reached = refl;
  held = λ k. refl;
  ends = refl;
  causes = tt;
  all = inl refl;
  none = λ e. refl;
  stays = λ e. e;
  who = refl;
}

-- what a party has in hand after turns
pub turns_still : (nodes : List PlainNodeQueues) (time count : ℕ) (s t : PlainPost) → AreTurns nodes time count s t → still t.ends ≡ still s.ends
turns_still nodes time count s t f = ap still f.ends ∙ still_after_all (room_for nodes s.ends.home) s.ends f.more

pub turns_of_it : (nodes : List PlainNodeQueues) (time count : ℕ) (s t : PlainPost) → AreTurns nodes time count s t → AreOf nodes s.ends → AreOf nodes t.ends
turns_of_it nodes time count s t f h = subst (AreOf nodes) (sym f.ends) (of_it_after_all nodes (room_for nodes s.ends.home) s.ends f.more h)

pub turns_ends : (nodes : List PlainNodeQueues) (time count : ℕ) (s t : PlainPost) → AreTurns nodes time count s t → AreEnds s.ends → AreEnds t.ends
turns_ends nodes time count s t f h = subst AreEnds (sym f.ends) (are_ends_after_all (room_for nodes s.ends.home) s.ends f.more h)

pub turns_traced : (nodes : List PlainNodeQueues) (time count : ℕ) (opened : List ℕ) (s t : PlainPost) → AreTurns nodes time count s t → AreTraced opened s.entries s.ends → AreTraced opened t.entries t.ends
turns_traced nodes time count opened s t f h =
    let room = room_for nodes s.ends.home in
    let after = traced_after_all room opened s.entries f.more s.ends (run_fits party_steps time s.party f.more f.run) h in
    subst (λ (es : List Entry). AreTraced opened es t.ends) (sym f.entries) (subst (AreTraced opened (s.entries ++ f.more)) (sym f.ends) after)

pub turns_marked : (nodes : List PlainNodeQueues) (time count : ℕ) (opened : List ℕ) (s t : PlainPost) → AreTurns nodes time count s t → AreEnds s.ends → AreTraced opened s.entries s.ends
    → AreMarked s.entries s.ends.sides → AreMarked t.entries t.ends.sides
turns_marked nodes time count opened s t f ends traced h =
    let room = room_for nodes s.ends.home in
    let after = marked_after_all room opened s.entries f.more s.ends (run_fits party_steps time s.party f.more f.run) ends traced h in
    subst (λ (es : List Entry). AreMarked es t.ends.sides) (sym f.entries) (subst (λ (e : PlainEnds). AreMarked (s.entries ++ f.more) e.sides) (sym f.ends) after)

pub turns_balanced : (nodes : List PlainNodeQueues) (time count : ℕ) (opened : List ℕ) (s t : PlainPost) → AreTurns nodes time count s t → AreEnds s.ends → IsBalanced opened s → IsBalanced opened t
turns_balanced nodes time count opened s t f ends h = λ k.
    let room = room_for nodes s.ends.home in
    let out = ap (times_out k) f.ends in
    let come = ap (times_in k) f.ends in
    let flow = flows_after_all room k s.ends f.more ends (run_fits party_steps time s.party f.more f.run) f.causes in
    let held = f.held k in
    let before = h k in
    omega (arith, out, come, flow, held, before)

pub turns_runs : (nodes : List PlainNodeQueues) (time count : ℕ) (opening : PlainParty) (s t : PlainPost) → AreTurns nodes time count s t → last_time 0 s.entries ≤ time
    → Runs party_steps opening s.entries s.party → Runs party_steps opening t.entries t.party
turns_runs nodes time count opening s t f late h = rw f.entries (record {
  run = run_joined party_steps 0 time opening s.entries f.more h.run late (subst (λ (p : PlainParty). IsRun party_steps time p f.more) (sym h.reached) f.run);
  reached = state_joined party_steps opening s.entries f.more ∙ ap (λ (p : PlainParty). state_after party_steps p f.more) h.reached ∙ f.reached;
})

pub turns_last : (nodes : List PlainNodeQueues) (time count : ℕ) (s t : PlainPost) → AreTurns nodes time count s t → last_time 0 s.entries ≤ time → last_time 0 t.entries ≤ time
turns_last nodes time count s t f late =
    let all = ap (last_time 0) f.entries ∙ last_joined 0 s.entries f.more in
    let last = last_at (last_time 0 s.entries) time f.more late f.times in
    omega (arith, all, last)

-- what came from the inbox in turns is what an inbox carries
passed : (i : ItemShown) (x : inbox.PlainPass) → HasPassedOver i x → IsCarried rule.Inbox i
passed (item.Packet m b) x h = h.0
passed (item.Frame f) x h = absurd h
passed (item.Note n) x h = absurd h

from_inbox : (x : Option inbox.PlainPass) (i : ItemShown) → IsSomeAnd x (λ x. (x.role.reads ≡ true) × HasPassedOver i x) → IsCarried rule.Inbox i
from_inbox None i h = absurd h
from_inbox (Some x) i h = passed i x h.1

got_one : (e : PlainEnds) (o : OpShown) (a : AnswerShown) → CauseOf e o a → AllByRecursion (IsCarried rule.Inbox) (got_by queue.Inbox o a)
got_one e (op.Pop queue.Inbox) (answer.Popped i) h = (from_inbox (inbox_of e.home) i h, tt)
got_one e (op.Pop (queue.Up n)) (answer.Popped i) h = tt
got_one e (op.Pop (queue.Down n)) (answer.Popped i) h = tt
got_one e (op.Pop (queue.Out n)) (answer.Popped i) h = tt
got_one e (op.Pop (queue.Tx n)) (answer.Popped i) h = tt
got_one e (op.Pop (queue.Rx n)) (answer.Popped i) h = tt
got_one e (op.Pop q) answer.Empty h = tt
got_one e _ _ h = tt

pub items_joined : (P : ItemShown → Type 0) (xs ys : List ItemShown) → AllByRecursion P xs → AllByRecursion P ys → AllByRecursion P (xs ++ ys)
items_joined P [] ys h g = g
items_joined P (x ∷ xs) ys h g = (h.0, items_joined P xs ys h.1 g)

got_all : (room : ℕ) (e : PlainEnds) (es : List Entry) → HaveCauses room e es → AllByRecursion (IsCarried rule.Inbox) (gets queue.Inbox es)
got_all room e [] h = tt
got_all room e (x ∷ xs) h = items_joined (IsCarried rule.Inbox) (got_by queue.Inbox x.op x.answer) (gets queue.Inbox xs) (got_one e x.op x.answer h.0) (got_all room (ends_after room x.op x.answer e) xs h.1)

pub turns_got : (nodes : List PlainNodeQueues) (time count : ℕ) (s t : PlainPost) → AreTurns nodes time count s t → AllByRecursion (IsCarried rule.Inbox) (gets queue.Inbox s.entries)
    → AllByRecursion (IsCarried rule.Inbox) (gets queue.Inbox t.entries)
turns_got nodes time count s t f h =
    rw (f.entries, flat_map-append (λ (e : Entry). got_by queue.Inbox e.op e.answer) s.entries f.more)
    (items_joined (IsCarried rule.Inbox) (gets queue.Inbox s.entries) (gets queue.Inbox f.more) h (got_all (room_for nodes s.ends.home) s.ends f.more f.causes))

-- what holds of all times up to this one holds of the turns
at_time : (P : ℕ → Type 0) (time : ℕ) (es : List Entry) → P time → AllByRecursion (λ e. e.time ≡ time) es → AllByRecursion (λ e. P e.time) es
at_time P time [] p h = tt
at_time P time (x ∷ xs) p h = (subst P (sym h.0) p, at_time P time xs p h.1)

pub turns_early : (nodes : List PlainNodeQueues) (time count limit : ℕ) (s t : PlainPost) → AreTurns nodes time count s t → time < limit → AllByRecursion (λ e. e.time < limit) s.entries → AllByRecursion (λ e. e.time < limit) t.entries
turns_early nodes time count limit s t f less h = rw f.entries (all_joined (λ e. e.time < limit) s.entries f.more h (at_time (λ n. n < limit) time f.more less f.times))

pub turns_post : (nodes : List PlainNodeQueues) (time count : ℕ) (opening : PlainParty) (opened : List ℕ) (s t : PlainPost) → AreTurns nodes time count s t → last_time 0 s.entries ≤ time
    → IsPostFrom nodes opening opened s → IsPostFrom nodes opening opened t
turns_post nodes time count opening opened s t f late h = record {
  runs = turns_runs nodes time count opening s t f late h.runs;
  of_it = turns_of_it nodes time count s t f h.of_it;
  ends = turns_ends nodes time count s t f h.ends;
  traced = turns_traced nodes time count opened s t f h.traced;
  marked = turns_marked nodes time count opened s t f h.ends h.traced h.marked;
  balanced = turns_balanced nodes time count opened s t f h.ends h.balanced;
}
