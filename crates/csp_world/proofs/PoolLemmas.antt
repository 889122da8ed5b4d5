-- What a turn moves between a node's pool and its parties.
use Rattle.std.proofs.Common.{◌≡◌, ℕ, ◌+◌, ◌==◌, Bool, true, false, nat_lt, cond, Option, None, Some, List, [], ◌∷◌, ◌++◌, length, refl, subst, ap, ◌∙◌, arith}
use Rattle.std.specs.Prelude.{slice_get, if◌then◌else◌}
use Rattle.std.specs.Option.{option_map}
use Rattle.std.proofs.lemmas.Bool.{eqb-false, eqb-true}
use Rattle.std.proofs.lemmas.Grind.{flat_map-append}
use Rattle.std.proofs.lemmas.Option.{same_Some}
use Rattle.csp_buffer.specs.Content.{Content}
use Rattle.csp_consistent.specs.Pools.{given_by, is_node, taken_by}
use Rattle.csp_deck.specs.Carried.{place_for}
use Rattle.csp_deck.specs.Step.{times}
use Rattle.csp_lists.specs.PlainDeck.{PlainDeck, PlainQueue, answer_of, buffer_numbers, front_of, given, popped, pops_at, pushed, queue_at, refilled, taken, with_pool, with_queue}
use Rattle.csp_log.specs.Pictures.{Fits}
use Rattle.csp_log.specs.declared.places.End.{End}
use Rattle.csp_log.specs.declared.places.Place.{Place}
use Rattle.csp_log.specs.declared.places.QueueId.{QueueId}
use Rattle.csp_log.specs.declared.shown.AnswerShown.{AnswerShown}
use Rattle.csp_log.specs.declared.shown.AnswerShown.TheVariants as answer
use Rattle.csp_log.specs.declared.shown.ItemShown.{ItemShown}
use Rattle.csp_log.specs.declared.shown.OpShown.{OpShown}
use Rattle.csp_log.specs.declared.shown.OpShown.TheVariants as op
use Rattle.csp_nodes.specs.Serving.{answer_in, at_queue, goes}
use Rattle.csp_log.specs.Who.{node_of}
use Rattle.csp_log.specs.declared.who.Who.{Who}
use Rattle.csp_world.proofs.AnsweredLemmas.{fits_answer}
use Rattle.csp_nodes.proofs.Public.{times_joined}
use Rattle.csp_world.proofs.LocalLemmas.{IsLocal, local}

-- the pool has what it had, less what was taken, with what was given
abbrev pub IsPooled : (before after : List Content) (taken given : List ℕ) → Type 0
IsPooled before after taken given = (k : ℕ) → times k (buffer_numbers after) + times k taken ≡ times k (buffer_numbers before) + times k given

pooled_taken : (d : PlainDeck) (bs : List Content) → d.pool.items ≡ bs → IsPooled bs (taken d bs).1.pool.items (taken_by (taken d bs).0) []
pooled_taken d [] e k = ap (λ (cs : List Content). times k (buffer_numbers cs) + times k []) e
pooled_taken d (b ∷ bs) e k = let more = times_joined k (b.number ∷ []) (buffer_numbers bs) in omega (arith, more)

pooled_given : (d : PlainDeck) (b : Content) → IsPooled d.pool.items (given d b).1.pool.items (taken_by (given d b).0) (given_by (op.Give b) (given d b).0)
pooled_given d b = by (nat_lt (length d.pool.items) d.pool.room) where
  by : (room : Bool) → let r = cond {A = AnswerShown × PlainDeck} room (answer.Given, with_pool d (d.pool.items ++ b ∷ [])) (answer.PoolFull b, d) in IsPooled d.pool.items r.1.pool.items (taken_by r.0) (given_by (op.Give b) r.0)
  by true k =
      let more : times k (buffer_numbers (d.pool.items ++ b ∷ [])) ≡ times k (buffer_numbers d.pool.items ++ b.number ∷ []) = ap (times k) (flat_map-append (λ (c : Content). c.number ∷ []) d.pool.items (b ∷ [])) in
      let joined = times_joined k (buffer_numbers d.pool.items) (b.number ∷ []) in
      omega (arith, more, joined)
  by false k = refl

pool_pushed : (d : PlainDeck) (p : Place) (i : ItemShown) (there : Option PlainQueue) → (pushed d p i there).1.pool ≡ d.pool
pool_pushed d p i None = refl
pool_pushed d p i (Some q) = by (nat_lt (length q.items) q.room) where
  by : (room : Bool) → (cond {A = AnswerShown × PlainDeck} room (answer.Pushed, with_queue d p (refilled q (q.items ++ i ∷ []))) (answer.Full i, d)).1.pool ≡ d.pool
  by true = refl
  by false = refl

pool_popped : (d : PlainDeck) (p : Place) (there : Option PlainQueue) → (popped d p there).1.pool ≡ d.pool
pool_popped d p None = refl
pool_popped d p (Some q) = by q.items where
  by : (is : List ItemShown) → (front_of d p q is).1.pool ≡ d.pool
  by [] = refl
  by (i ∷ is) = refl

-- what a party of the node takes and gives
abbrev pub at_home : Bool → List ℕ → List ℕ
at_home here numbers = (if here then numbers else [])

same_pool : (before after : PlainDeck) (here : Bool) (taken given : List ℕ) → after.pool ≡ before.pool → taken ≡ [] → given ≡ [] → IsPooled before.pool.items after.pool.items (at_home here taken) (at_home here given)
same_pool before after true taken given e t g k = rw (e, t, g) refl
same_pool before after false taken given e t g k = rw e refl

-- an operation on the pool of the party's own node
pooled_own : (o : OpShown) → ((d : PlainDeck) → IsPooled d.pool.items (answer_of d o).1.pool.items (taken_by (answer_of d o).0) (given_by o (answer_of d o).0))
    → (home : Option ℕ) (r : AnswerShown × List PlainDeck) (node : ℕ) (d : PlainDeck) (l : IsLocal (option_map (λ n. (n, o)) home) r node d)
    → IsPooled d.pool.items l.after.pool.items (at_home (is_node node home) (taken_by r.0)) (at_home (is_node node home) (given_by o r.0))
pooled_own o law None r node d l = same_pool d l.after false _ _ (ap (λ (x : PlainDeck). x.pool) (l.away (λ t e n. absurd cc))) refl refl
pooled_own o law (Some n) r node d l = by (n == node) refl where
  by : (same : Bool) → (n == node) ≡ same → IsPooled d.pool.items l.after.pool.items (at_home same (taken_by r.0)) (at_home same (given_by o r.0))
  by true e =
      let h = l.here (n, o) refl (eqb-true n node e) in
      rw (h.0, h.1) (law d)
  by false e = same_pool d l.after false _ _ (ap (λ (x : PlainDeck). x.pool) (l.away (λ t g m. absurd (eqb-false n node e (ap (λ (u : ℕ × OpShown). u.0) (same_Some (n, o) t g) ∙ m))))) refl refl

-- one that leaves the pool as it is
pool_kept : (there : Option (ℕ × OpShown)) → ((t : ℕ × OpShown) → there ≡ Some t → (d : PlainDeck) → (answer_of d t.1).1.pool ≡ d.pool)
    → (r : AnswerShown × List PlainDeck) (node : ℕ) (d : PlainDeck) (l : IsLocal there r node d) → l.after.pool ≡ d.pool
pool_kept None kept r node d l = ap (λ (x : PlainDeck). x.pool) (l.away (λ t e n. absurd cc))
pool_kept (Some s) kept r node d l = by (s.0 == node) refl where
  by : (same : Bool) → (s.0 == node) ≡ same → l.after.pool ≡ d.pool
  by true e = ap (λ (x : PlainDeck). x.pool) (l.here s refl (eqb-true s.0 node e)).1 ∙ kept s refl d
  by false e = ap (λ (x : PlainDeck). x.pool) (l.away (λ t g m. absurd (eqb-false s.0 node e (ap (λ (u : ℕ × OpShown). u.0) (same_Some s t g) ∙ m))))

none_pushed : (q : QueueId) (i : ItemShown) (a : AnswerShown) → Fits (op.Push q i) a → taken_by a ≡ []
none_pushed q i answer.Nothing h = absurd h
none_pushed q i (answer.Taken b) h = absurd h
none_pushed q i answer.NoBuffer h = absurd h
none_pushed q i answer.Given h = absurd h
none_pushed q i (answer.PoolFull b) h = absurd h
none_pushed q i answer.Pushed h = refl
none_pushed q i (answer.Full j) h = refl
none_pushed q i (answer.Popped j) h = absurd h
none_pushed q i answer.Empty h = absurd h

none_popped : (q : QueueId) (a : AnswerShown) → Fits (op.Pop q) a → taken_by a ≡ []
none_popped q answer.Nothing h = absurd h
none_popped q (answer.Taken b) h = absurd h
none_popped q answer.NoBuffer h = absurd h
none_popped q answer.Given h = absurd h
none_popped q (answer.PoolFull b) h = absurd h
none_popped q answer.Pushed h = absurd h
none_popped q (answer.Full j) h = absurd h
none_popped q (answer.Popped j) h = refl
none_popped q answer.Empty h = refl

kept_push : (q : QueueId) (i : ItemShown) (there : Option (ℕ × QueueId)) (t : ℕ × OpShown) → option_map (at_queue (λ r. op.Push r i)) there ≡ Some t → (d : PlainDeck) → (answer_of d t.1).1.pool ≡ d.pool
kept_push q i None t e d = absurd cc
kept_push q i (Some s) t e d =
    subst (λ (u : ℕ × OpShown). (answer_of d u.1).1.pool ≡ d.pool) (same_Some _ t e) (pool_pushed d (place_for s.1 i) i (queue_at d (place_for s.1 i)))

kept_pop : (q : QueueId) (there : Option (ℕ × QueueId)) (t : ℕ × OpShown) → option_map (at_queue op.Pop) there ≡ Some t → (d : PlainDeck) → (answer_of d t.1).1.pool ≡ d.pool
kept_pop q None t e d = absurd cc
kept_pop q (Some s) t e d =
    subst (λ (u : ℕ × OpShown). (answer_of d u.1).1.pool ≡ d.pool) (same_Some _ t e) (pool_popped d (pops_at d s.1) (queue_at d (pops_at d s.1)))

-- so it is with the pool of each node in each turn
pub pooled : (decks : List PlainDeck) (links : List (List End)) (w : Who) (o : OpShown) (node : ℕ) (d : PlainDeck) (at : slice_get decks node ≡ Some d)
    → let r = answer_in decks links w o in let here = is_node node (node_of w) in
    IsPooled d.pool.items (local decks links w o node d at).after.pool.items (at_home here (taken_by r.0)) (at_home here (given_by o r.0))
pooled decks links w op.Nothing node d at = pooled_own op.Nothing (λ x k. refl) (node_of w) _ node d (local decks links w op.Nothing node d at)
pooled decks links w op.Take node d at = pooled_own op.Take (λ x. pooled_taken x x.pool.items refl) (node_of w) _ node d (local decks links w op.Take node d at)
pooled decks links w (op.Give b) node d at = pooled_own (op.Give b) (λ x. pooled_given x b) (node_of w) _ node d (local decks links w (op.Give b) node d at)
pooled decks links w (op.Push q i) node d at =
    same_pool d (local decks links w (op.Push q i) node d at).after (is_node node (node_of w)) _ _ (pool_kept _ (kept_push q i (goes links w q)) _ node d (local decks links w (op.Push q i) node d at))
    (none_pushed q i _ (fits_answer decks links w (op.Push q i))) refl
pooled decks links w (op.Pop q) node d at =
    same_pool d (local decks links w (op.Pop q) node d at).after (is_node node (node_of w)) _ _ (pool_kept _ (kept_pop q (goes links w q)) _ node d (local decks links w (op.Pop q) node d at))
    (none_popped q _ (fits_answer decks links w (op.Pop q))) refl
