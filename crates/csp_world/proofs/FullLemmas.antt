-- No pool is full while a party of its node has a buffer.
use Rattle.std.proofs.Common.{◌≡◌, ◌≢◌, ℕ, zero, suc, ◌+◌, ◌<◌, ◌≤◌, ◌==◌, Bool, true, false, None, Some, List, [], ◌∷◌, ◌++◌, length, refl, sym, ◌∙◌, ap, subst, arith}
use Rattle.std.specs.Prelude.{slice_get, if◌then◌else◌}
use Rattle.std.specs.List.{range_with_len, flat_map}
use Rattle.std.proofs.lemmas.Bool.Decides.{nat_tests}
use Rattle.std.proofs.lemmas.List.{length-append, length-map}
use Rattle.std.proofs.lemmas.List.Concat.{flat_map_single}
use Rattle.std.proofs.lemmas.List.FromFn.{length-range_with_len}
use Rattle.std.proofs.lemmas.List.Sums.{count_by-le-length}
use Rattle.csp_buffer.specs.Content.{Content}
use Rattle.csp_lists.specs.Gathered.{queued_numbers}
use Rattle.csp_lists.specs.PlainDeck.{PlainDeck, numbers_in, buffer_numbers}
use Rattle.csp_deck.specs.Step.{times}
use Rattle.csp_log.specs.declared.shown.AnswerShown.TheVariants as answer
use Rattle.csp_party.specs.Any.{holds, has_ended}
use Rattle.csp_log.specs.Who.{node_of}
use Rattle.csp_world.specs.Grown.{IsFullFor}
use Rattle.csp_world.specs.Holders.{is_at, is_home, holds_at, numbers_at, IsConserved}
use Rattle.csp_world.specs.Seen.{answer_at_place}
use Rattle.csp_world.specs.World.{PlainMember, PlainWorld, answered}
use Rattle.csp_nodes.proofs.Public.{Gathers, Long, times_joined}
use Rattle.csp_world.proofs.StepLemmas.{result_known}

-- a node has as many numbers as buffers
pub node_length : Long → (w : PlainWorld) (node : ℕ) (d : PlainDeck) → slice_get w.decks node ≡ Some d → IsConserved w → length (numbers_in d) + length (flat_map (holds_at node) w.members) ≡ d.pool.room
node_length same w node d s kept =
    sym (length-append (numbers_in d) (flat_map (holds_at node) w.members))
    ∙ same (numbers_at w node d) (range_with_len 0 d.pool.room) (kept node d s)
    ∙ length-range_with_len 0 d.pool.room

-- those of its pool and those of its queues are those of its lists
pub deck_length : Long → Gathers → (d : PlainDeck) → length d.pool.items + length (queued_numbers d) ≡ length (numbers_in d)
deck_length same gathers d =
    ap (λ n. n + length (queued_numbers d)) (sym (length-map d.pool.items (λ (b : Content). b.number)) ∙ ap (λ (ns : List ℕ). length ns) (sym (flat_map_single (λ (b : Content). b.number) d.pool.items)))
    ∙ sym (length-append (buffer_numbers d.pool.items) (queued_numbers d))
    ∙ same (buffer_numbers d.pool.items ++ queued_numbers d) (numbers_in d) (λ k. times_joined k (buffer_numbers d.pool.items) (queued_numbers d) ∙ gathers d k)

-- what a party holds is among what its node's parties hold
pub among : (node k : ℕ) (ms : List PlainMember) (place : ℕ) (m : PlainMember) → slice_get ms place ≡ Some m → times k (holds_at node m) ≤ times k (flat_map (holds_at node) ms)
among node k [] zero m e = cc
among node k [] (suc place) m e = cc
among node k (x ∷ ms) zero m e =
    let same : x ≡ m = cc in
    let parts = times_joined k (holds_at node x) (flat_map (holds_at node) ms) in
    let is = ap (λ (y : PlainMember). times k (holds_at node y)) same in
    omega (arith, parts, is)
among node k (x ∷ ms) (suc place) m e =
    let parts = times_joined k (holds_at node x) (flat_map (holds_at node) ms) in
    let rest = among node k ms place m e in
    omega (arith, parts, rest)

-- so a pool is not full while a party of its node holds a number
not_full : Long → Gathers → (w : PlainWorld) (place node n : ℕ) (m : PlainMember) (d : PlainDeck) → slice_get w.members place ≡ Some m → node_of m.who ≡ Some node → slice_get w.decks node ≡ Some d → IsConserved w
    → 1 ≤ times n (holds m.party) → length d.pool.items < d.pool.room
not_full same gathers w place node n m d e home s kept has =
    let whole = node_length same w node d s kept in
    let lists = deck_length same gathers d in
    let own : (node == node) ≡ true = grind (arith, nat_tests) in
    let here : is_at node m.who ≡ true = ap (is_home node) home ∙ own in
    let its : holds_at node m ≡ holds m.party = rw here refl in
    let part = among node n w.members place m e in
    let part' : times n (holds m.party) ≤ times n (flat_map (holds_at node) w.members) = subst (λ (ns : List ℕ). times n ns ≤ times n (flat_map (holds_at node) w.members)) its part in
    let some = count_by-le-length (λ x. x == n) (flat_map (holds_at node) w.members) in
    omega (arith, whole, lists, part', some, has)

-- no turn is answered that the pool is full
pub never_full : Long → Gathers → (w : PlainWorld) (place : ℕ) (m : PlainMember) → slice_get w.members place ≡ Some m → IsConserved w
    → (has_ended m.party ≡ false → (b : Content) → (answered w.decks w.links w.time m).0 ≡ answer.PoolFull b → IsFullFor w.decks m b.number)
    → (b : Content) → answer_at_place w place ≢ Some (answer.PoolFull b)
never_full same gathers w place m e kept full b a =
    by (has_ended m.party) refl (sym (result_known w place m e) ∙ a) where
      by : (t : Bool) → has_ended m.party ≡ t → (if t then None else Some (answered w.decks w.links w.time m).0) ≡ Some (answer.PoolFull b) → ⊥
      by true h f = cc
      by false h f =
          let found = full h b cc in
          let room = not_full same gathers w place found.node b.number m found.deck e found.home found.there kept found.has in
          let is_full = found.full in
          absurd (omega (arith, is_full, room))
