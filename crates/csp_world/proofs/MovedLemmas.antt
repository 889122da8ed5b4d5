-- What a turn moves into the queues of a node, and out of them.
use Rattle.std.proofs.Common.{◌≡◌, ℕ, ◌==◌, Bool, true, false, nat_lt, cond, Option, None, Some, List, [], ◌∷◌, ◌++◌, length, map, refl, sym, subst, ap, ◌∙◌}
use Rattle.std.specs.Prelude.{if◌then◌else◌}
use Rattle.std.proofs.lemmas.Bool.{eqb-false, eqb-true}
use Rattle.std.proofs.lemmas.List.{append-nil}
use Rattle.std.proofs.lemmas.Option.{same_Some}
use Rattle.csp_buffer.specs.Content.{Content}
use Rattle.csp_deck.specs.Carried.{place_for}
use Rattle.csp_lists.specs.Order.{places_in}
use Rattle.csp_lists.specs.PlainDeck.{PlainDeck, PlainQueue, answer_of, emptied, given, pops_at, taken, with_pool}
use Rattle.csp_lists.specs.declared.shape.Shape.{Shape}
use Rattle.csp_log.specs.declared.places.Place.{Place}
use Rattle.csp_log.specs.declared.places.QueueId.{QueueId}
use Rattle.csp_log.specs.declared.shown.AnswerShown.{AnswerShown}
use Rattle.csp_log.specs.declared.shown.AnswerShown.TheVariants as answer
use Rattle.csp_log.specs.declared.shown.ItemShown.{ItemShown}
use Rattle.csp_log.specs.declared.shown.OpShown.{OpShown}
use Rattle.csp_log.specs.declared.shown.OpShown.TheVariants as op
use Rattle.csp_world.proofs.ContentLemmas.{IsRight, PicksOne, content, if_named, is_named, pop_moves, popped_out, push_moves, pushed_in}
use Rattle.csp_world.proofs.LocalLemmas.{IsLocal, Keeps}
use Rattle.csp_world.proofs.OpeningRules.{Stands}
use Rattle.csp_world.proofs.QueuedLemmas.{KeepsQueues, queued-kept}

-- queues stand right after each operation too
abbrev pub KeepsShape : Type 0
KeepsShape = (d : PlainDeck) (o : OpShown) → (answer_of d o).1.shape ≡ d.shape

places_of_emptied : (qs : List PlainQueue) → map (λ q. q.place) (map emptied qs) ≡ map (λ q. q.place) qs
places_of_emptied [] = refl
places_of_emptied (q ∷ qs) = ap (λ (ps : List Place). q.place ∷ ps) (places_of_emptied qs)

pub right-kept : KeepsQueues → KeepsShape → Keeps IsRight
right-kept queues shape d o r = record {
  queued = queued-kept queues d o r.queued;
  right =
      sym (places_of_emptied (answer_of d o).1.queues)
      ∙ ap (λ (qs : List PlainQueue). map (λ q. q.place) qs) (queues d o)
      ∙ places_of_emptied d.queues ∙ r.right ∙ ap (λ (s : Shape). places_in s) (sym (shape d o));
}

-- what is got from a queue of a deck, and put into it
abbrev pub got_at : QueueId → ℕ → PlainDeck → OpShown → AnswerShown → List ItemShown
got_at q prio d (op.Pop from) a = if_named (is_named q prio (pops_at d from)) (popped_out a)
got_at q prio d op.Nothing a = []
got_at q prio d op.Take a = []
got_at q prio d (op.Give _) a = []
got_at q prio d (op.Push _ _) a = []

abbrev pub put_at : QueueId → ℕ → OpShown → AnswerShown → List ItemShown
put_at q prio (op.Push to i) a = if_named (is_named q prio (place_for to i)) (pushed_in i a)
put_at q prio (op.Pop _) a = []
put_at q prio op.Nothing a = []
put_at q prio op.Take a = []
put_at q prio (op.Give _) a = []

same_taken : (q : QueueId) (prio : ℕ) (d : PlainDeck) (bs : List Content) → content q prio (taken d bs).1 ≡ content q prio d
same_taken q prio d [] = refl
same_taken q prio d (b ∷ bs) = refl

same_given : (q : QueueId) (prio : ℕ) (d : PlainDeck) (b : Content) → content q prio (given d b).1 ≡ content q prio d
same_given q prio d b = by (nat_lt (length d.pool.items) d.pool.room) where
  by : (room : Bool) → content q prio (cond {A = AnswerShown × PlainDeck} room (answer.Given, with_pool d (d.pool.items ++ b ∷ [])) (answer.PoolFull b, d)).1 ≡ content q prio d
  by true = refl
  by false = refl

one_moves : Stands → Keeps IsRight → (q : QueueId) (prio : ℕ) → PicksOne q prio → (d : PlainDeck) → IsRight d → (o : OpShown)
    → got_at q prio d o (answer_of d o).0 ++ content q prio (answer_of d o).1 ≡ content q prio d ++ put_at q prio o (answer_of d o).0
one_moves stands keeps q prio one d r op.Nothing = sym (append-nil (content q prio d))
one_moves stands keeps q prio one d r op.Take = same_taken q prio d d.pool.items ∙ sym (append-nil (content q prio d))
one_moves stands keeps q prio one d r (op.Give b) = same_given q prio d b ∙ sym (append-nil (content q prio d))
one_moves stands keeps q prio one d r (op.Push to i) = push_moves stands q prio one d r to i (keeps d (op.Push to i) r)
one_moves stands keeps q prio one d r (op.Pop from) = pop_moves stands q prio one d r from (keeps d (op.Pop from) r) ∙ sym (append-nil (content q prio d))

-- and of a node, by an operation that is served there or elsewhere
abbrev pub got_there : QueueId → ℕ → PlainDeck → ℕ → Option (ℕ × OpShown) → AnswerShown → List ItemShown
got_there q prio d node None a = []
got_there q prio d node (Some t) a = (if t.0 == node then got_at q prio d t.1 a else [])

abbrev pub put_there : QueueId → ℕ → ℕ → Option (ℕ × OpShown) → AnswerShown → List ItemShown
put_there q prio node None a = []
put_there q prio node (Some t) a = (if t.0 == node then put_at q prio t.1 a else [])

pub moved : Stands → Keeps IsRight → (q : QueueId) (prio : ℕ) → PicksOne q prio → (d : PlainDeck) → IsRight d → (node : ℕ) (there : Option (ℕ × OpShown)) (r : AnswerShown × List PlainDeck) (l : IsLocal there r node d)
    → got_there q prio d node there r.0 ++ content q prio l.after ≡ content q prio d ++ put_there q prio node there r.0
moved stands keeps q prio one d right node None r l = ap (content q prio) (l.away (λ t e n. absurd cc)) ∙ sym (append-nil (content q prio d))
moved stands keeps q prio one d right node (Some t) r l = by (t.0 == node) refl where
  by : (same : Bool) → (t.0 == node) ≡ same → (if same then got_at q prio d t.1 r.0 else []) ++ content q prio l.after ≡ content q prio d ++ (if same then put_at q prio t.1 r.0 else [])
  by true e =
      let h = l.here t refl (eqb-true t.0 node e) in
      rw (h.0, h.1) (one_moves stands keeps q prio one d right t.1)
  by false e = ap (content q prio) (l.away (λ u g m. absurd (eqb-false t.0 node e (ap (λ (v : ℕ × OpShown). v.0) (same_Some t u g) ∙ m)))) ∙ sym (append-nil (content q prio d))

-- what operations keep of decks stays so
pub kept_after : (P : PlainDeck → Type 0) → Keeps P → (d : PlainDeck) → P d → (node : ℕ) (there : Option (ℕ × OpShown)) (r : AnswerShown × List PlainDeck) (l : IsLocal there r node d) → P l.after
kept_after P keeps d h node None r l = subst P (sym (l.away (λ t e n. absurd cc))) h
kept_after P keeps d h node (Some t) r l = by (t.0 == node) refl where
  by : (same : Bool) → (t.0 == node) ≡ same → P l.after
  by true e = subst P (sym (l.here t refl (eqb-true t.0 node e)).1) (keeps d t.1 h)
  by false e = subst P (sym (l.away (λ u g m. absurd (eqb-false t.0 node e (ap (λ (v : ℕ × OpShown). v.0) (same_Some t u g) ∙ m))))) h

pub right_after : Keeps IsRight → (d : PlainDeck) → IsRight d → (node : ℕ) (there : Option (ℕ × OpShown)) (r : AnswerShown × List PlainDeck) (l : IsLocal there r node d) → IsRight l.after
right_after keeps d right node there r l = kept_after IsRight keeps d right node there r l
