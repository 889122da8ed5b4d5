-- An operation of a party changes the lists of one node, and of these what that operation changes.
use Rattle.std.proofs.Common.{◌≡◌, ℕ, ◌+◌, ◌==◌, Bool, true, false, Option, None, Some, zero, suc, List, [], ◌∷◌, map, refl, sym, ◌∙◌, ap, subst, arith, set}
use Rattle.std.specs.Prelude.{slice_get, slice_set, if◌then◌else◌}
use Rattle.std.specs.Option.{option_map, option_and_then}
use Rattle.std.proofs.lemmas.Bool.Decides.{nat_tests}
use Rattle.std.proofs.lemmas.Option.{slice_get-map}
use Rattle.csp_deck.specs.Step.{times, op_numbers, answer_numbers}
use Rattle.csp_lists.specs.PlainDeck.{PlainDeck, PlainQueue, answer_of, emptied, numbers_in, queue_at, rule_of}
use Rattle.csp_lists.specs.Order.{position_of}
use Rattle.csp_log.specs.declared.places.End.{End}
use Rattle.csp_log.specs.declared.places.Place.{Place}
use Rattle.csp_log.specs.declared.places.Place.TheVariants as place
use Rattle.csp_log.specs.declared.places.QueueId.{QueueId}
use Rattle.csp_log.specs.declared.places.QueueId.TheVariants as queue
use Rattle.csp_log.specs.declared.places.Rule.{Rule}
use Rattle.csp_log.specs.declared.shown.AnswerShown.{AnswerShown}
use Rattle.csp_log.specs.declared.shown.OpShown.{OpShown}
use Rattle.csp_log.specs.declared.shown.OpShown.TheVariants as op
use Rattle.csp_nodes.specs.Serving.{answer_at, answer_there, answer_in, at_queue, goes, is_there, is_served_at, no_lists, rule_in, rule_there, seen_by, served}
use Rattle.csp_nodes.proofs.SetLemmas.{set_here, set_there}
use Rattle.csp_log.specs.Who.{node_of}
use Rattle.csp_log.specs.declared.who.Who.{Who}

-- the operation at the node hands over what the party's hands over
mapped : {A : Type 0} (f : A → ℕ × OpShown) (ns : List ℕ) → ((a : A) → op_numbers (f a).1 ≡ ns) → (x : Option A) (there : ℕ × OpShown) → option_map f x ≡ Some there → op_numbers there.1 ≡ ns
mapped f ns all None there e = cc
mapped f ns all (Some a) there e = let is : f a ≡ there = cc in subst (λ t. op_numbers t.1 ≡ ns) is (all a)

served_numbers : (links : List (List End)) (w : Who) (o : OpShown) (there : ℕ × OpShown) → served links w o ≡ Some there → op_numbers there.1 ≡ op_numbers o
served_numbers links w op.Nothing there e = mapped (λ node. (node, op.Nothing)) _ (λ n. refl) (node_of w) there e
served_numbers links w op.Take there e = mapped (λ node. (node, op.Take)) _ (λ n. refl) (node_of w) there e
served_numbers links w (op.Give b) there e = mapped (λ node. (node, op.Give b)) _ (λ n. refl) (node_of w) there e
served_numbers links w (op.Push q i) there e = mapped (at_queue (λ name. op.Push name i)) _ (λ n. refl) (goes links w q) there e
served_numbers links w (op.Pop q) there e = mapped (at_queue op.Pop) _ (λ n. refl) (goes links w q) there e

-- what is true of a node's lists after an operation: they lose what is brought and gain what is handed over
abbrev pub Conserves : Type 0
Conserves = (d : PlainDeck) (o : OpShown) (k : ℕ) → times k (numbers_in (answer_of d o).1) + times k (answer_numbers (answer_of d o).0) ≡ times k (numbers_in d) + times k (op_numbers o)

abbrev pub Changes : OpShown → Bool → ℕ → PlainDeck → AnswerShown × List PlainDeck → Type 0
Changes o here node d r = (e : PlainDeck) × (slice_get r.1 node ≡ Some e)
    × ((k : ℕ) → times k (numbers_in e) + (if here then times k (answer_numbers r.0) else 0) ≡ times k (numbers_in d) + (if here then times k (op_numbers o) else 0))

changes_at : Conserves → (decks : List PlainDeck) (o : OpShown) (there : ℕ × OpShown) → op_numbers there.1 ≡ op_numbers o → (x : Option PlainDeck) → slice_get decks there.0 ≡ x
    → (node : ℕ) (d : PlainDeck) → slice_get decks node ≡ Some d → (b : Bool) → (there.0 == node) ≡ b → Changes o b node d (answer_at decks o there x)
changes_at law decks o there same None s node d at true t =
    let is : there.0 ≡ node = grind (arith, nat_tests, t) in
    let none : slice_get decks node ≡ None = subst (λ n. slice_get decks n ≡ None) is s in
    cc
changes_at law decks o there same None s node d at false t = (d, at, λ k. refl)
changes_at law decks o there same (Some x) s node d at true t =
    let is : there.0 ≡ node = grind (arith, nat_tests, t) in
    let found : slice_get decks node ≡ Some x = subst (λ n. slice_get decks n ≡ Some x) is s in
    let x_is : x ≡ d = cc in
    let e = (answer_of x there.1).1 in (
      e,
      subst (λ n. slice_get (slice_set decks there.0 e) n ≡ Some e) is (set_here decks there.0 x e s),
      λ k. law x there.1 k ∙ ap (λ (y : PlainDeck). times k (numbers_in y) + times k (op_numbers there.1)) x_is ∙ ap (λ ns. times k (numbers_in d) + times k ns) same,
    )
changes_at law decks o there same (Some x) s node d at false t =
    (d, set_there decks there.0 node (answer_of x there.1).1 t ∙ at, λ k. refl)

changes_there : Conserves → (decks : List PlainDeck) (o : OpShown) (there : Option (ℕ × OpShown)) → ((x : ℕ × OpShown) → there ≡ Some x → op_numbers x.1 ≡ op_numbers o)
    → (node : ℕ) (d : PlainDeck) → slice_get decks node ≡ Some d → Changes o (is_there node there) node d (answer_there decks o there)
changes_there law decks o None same node d at = (d, at, λ k. refl)
changes_there law decks o (Some there) same node d at = changes_at law decks o there (same there refl) (slice_get decks there.0) refl node d at (there.0 == node) refl

pub changes : Conserves → (decks : List PlainDeck) (links : List (List End)) (w : Who) (o : OpShown) (node : ℕ) (d : PlainDeck) → slice_get decks node ≡ Some d
    → Changes o (is_served_at links w o node) node d (answer_in decks links w o)
changes law decks links w o node d at = changes_there law decks o (served links w o) (λ x e. served_numbers links w o x e) node d at

-- a reading of each node's lists that the lists' own operations leave as it is
set_kept : {Y : Type 0} (f : PlainDeck → Y) (decks : List PlainDeck) (n : ℕ) (d e : PlainDeck) → slice_get decks n ≡ Some d → f e ≡ f d → map f (slice_set decks n e) ≡ map f decks
set_kept f [] n d e s r = refl
set_kept f (x ∷ decks) zero d e s r = let same : x ≡ d = cc in ap (λ y. y ∷ map f decks) (r ∙ ap f (sym same))
set_kept f (x ∷ decks) (suc n) d e s r = ap (λ ys. f x ∷ ys) (set_kept f decks n d e s r)

kept_at : {Y : Type 0} (f : PlainDeck → Y) → ((d : PlainDeck) (o : OpShown) → f (answer_of d o).1 ≡ f d) → (decks : List PlainDeck) (o : OpShown) (there : ℕ × OpShown) (x : Option PlainDeck) → slice_get decks there.0 ≡ x
    → map f (answer_at decks o there x).1 ≡ map f decks
kept_at f law decks o there None s = refl
kept_at f law decks o there (Some d) s = set_kept f decks there.0 d (answer_of d there.1).1 s (law d there.1)

kept_there : {Y : Type 0} (f : PlainDeck → Y) → ((d : PlainDeck) (o : OpShown) → f (answer_of d o).1 ≡ f d) → (decks : List PlainDeck) (o : OpShown) (there : Option (ℕ × OpShown)) → map f (answer_there decks o there).1 ≡ map f decks
kept_there f law decks o None = refl
kept_there f law decks o (Some there) = kept_at f law decks o there (slice_get decks there.0) refl

pub kept : {Y : Type 0} (f : PlainDeck → Y) → ((d : PlainDeck) (o : OpShown) → f (answer_of d o).1 ≡ f d) → (decks : List PlainDeck) (links : List (List End)) (w : Who) (o : OpShown) → map f (answer_in decks links w o).1 ≡ map f decks
kept f law decks links w o = kept_there f law decks o (served links w o)

-- queues that differ in their items alone carry the same
rule_read : (qs rs : List PlainQueue) → map emptied qs ≡ map emptied rs → (at : Option ℕ) → option_map (λ (q : PlainQueue). q.rule) (option_and_then (λ n. slice_get qs n) at) ≡ option_map (λ (q : PlainQueue). q.rule) (option_and_then (λ n. slice_get rs n) at)
rule_read qs rs same None = refl
rule_read qs rs same (Some n) = by_empty (slice_get qs n) ∙ ap (option_map (λ (q : PlainQueue). q.rule)) (sym (slice_get-map emptied qs n) ∙ ap (λ l. slice_get l n) same ∙ slice_get-map emptied rs n) ∙ sym (by_empty (slice_get rs n)) where
  by_empty : (q : Option PlainQueue) → option_map (λ (q : PlainQueue). q.rule) q ≡ option_map (λ (q : PlainQueue). q.rule) (option_map emptied q)
  by_empty None = refl
  by_empty (Some q) = refl

lane_rule : (d e : PlainDeck) → map emptied e.queues ≡ map emptied d.queues → e.shape ≡ d.shape → (p : Place) → option_map (λ (q : PlainQueue). q.rule) (queue_at e p) ≡ option_map (λ (q : PlainQueue). q.rule) (queue_at d p)
lane_rule d e qs shape p = rule_read e.queues d.queues qs (position_of e.shape p) ∙ ap (λ s. option_map (λ (q : PlainQueue). q.rule) (option_and_then (λ n. slice_get d.queues n) (position_of s p))) shape

pub rules_kept : (d e : PlainDeck) → map emptied e.queues ≡ map emptied d.queues → e.shape ≡ d.shape → (q : QueueId) → rule_of e q ≡ rule_of d q
rules_kept d e qs shape queue.Inbox = refl
rules_kept d e qs shape (queue.Up k) = lane_rule d e qs shape (place.Lane (queue.Up k))
rules_kept d e qs shape (queue.Down k) = lane_rule d e qs shape (place.Lane (queue.Down k))
rules_kept d e qs shape (queue.Out k) = lane_rule d e qs shape (place.Lane (queue.Out k))
rules_kept d e qs shape (queue.Tx k) = lane_rule d e qs shape (place.Lane (queue.Tx k))
rules_kept d e qs shape (queue.Rx k) = lane_rule d e qs shape (place.Lane (queue.Rx k))

-- so each queue of a party carries what it did
option_read : {X Y : Type 0} (f : X → Option Y) (xs ys : Option X) → option_map f xs ≡ option_map f ys → option_and_then f xs ≡ option_and_then f ys
option_read f None None e = refl
option_read f None (Some y) e = cc
option_read f (Some x) None e = cc
option_read f (Some x) (Some y) e = let same : f x ≡ f y = cc in same

pub rule_same : (decks after : List PlainDeck) → ((q : QueueId) → map (λ d. rule_of d q) after ≡ map (λ d. rule_of d q) decks) → (there : Option (ℕ × QueueId)) → rule_there after there ≡ rule_there decks there
rule_same decks after same None = refl
rule_same decks after same (Some there) =
    option_read (λ (d : PlainDeck). rule_of d there.1) (slice_get after there.0) (slice_get decks there.0)
    (sym (slice_get-map (λ (d : PlainDeck). rule_of d there.1) after there.0) ∙ ap (λ l. slice_get l there.0) (same there.1) ∙ slice_get-map (λ (d : PlainDeck). rule_of d there.1) decks there.0)
