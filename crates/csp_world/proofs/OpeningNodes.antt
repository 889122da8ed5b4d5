-- The lists of the nodes of a network as they open, and the world over them without a party.
use Rattle.std.proofs.Common.{◌≡◌, ℕ, zero, suc, ◌+◌, ◌*◌, ◌≤◌, List, [], ◌∷◌, Some, length, map, ap, refl, sym, ◌∙◌, subst, arith, slice_get, sum_by}
use Rattle.std.specs.List.{AllByRecursion, range_with_len}
use Rattle.std.proofs.lemmas.List.{append-nil, length-map}
use Rattle.std.proofs.lemmas.List.Sums.{sum_by-cons}
use Rattle.std.proofs.lemmas.Option.{same_Some}
use Rattle.csp_buffer.specs.Content.{Content}
use Rattle.csp_deck.specs.Step.{times}
use Rattle.csp_lists.specs.PlainDeck.{PlainDeck, buffer_numbers, numbers_in, opening_deck}
use Rattle.csp_log.specs.declared.places.Carries.{Carries}
use Rattle.csp_nodes.proofs.Public.{fresh_unused}
use Rattle.csp_nodes.specs.Fresh.{fresh_buffers}
use Rattle.csp_nodes.specs.Gathering.{queue_count}
use Rattle.csp_nodes.specs.Unused.{IsUnused}
use Rattle.csp_scene.specs.declared.limits.TheConstants.{MAX_NODES}
use Rattle.csp_topology.specs.Plan.{PlainNodePlan}
use Rattle.csp_world.specs.Inside.{AllFit, HasRoom, IsWorld, world_of}
use Rattle.csp_world.specs.Holders.{IsConserved}
use Rattle.csp_world.specs.Opening.{deck_of, queues_of}
use Rattle.csp_world.specs.declared.member.Member.{Member}
use Rattle.csp_world.specs.declared.world.World.TheInside.{Inside}

-- nothing was done with them
pub all_unused : (nodes : List PlainNodePlan) → AllByRecursion IsUnused (map deck_of nodes)
all_unused [] = tt
all_unused (n ∷ nodes) = (fresh_unused n.buffers n.inbox n.apps n.lanes, all_unused nodes)

-- what is promised of the numbers and of the queues of lists at an opening
abbrev pub Numbers : Type 0
Numbers = (buffers : List Content) (inbox apps : ℕ) (ifaces : List Carries) (k : ℕ) → times k (numbers_in (opening_deck buffers inbox apps ifaces)) ≡ times k (buffer_numbers buffers)

abbrev pub QueueCounts : Type 0
QueueCounts = (buffers : List Content) (inbox apps : ℕ) (ifaces : List Carries) → length (opening_deck buffers inbox apps ifaces).queues ≡ 4 + 2 * apps + 3 * length ifaces

-- they have each number of their buffers once
each_once : Numbers → (nodes : List PlainNodePlan) (place : ℕ) (d : PlainDeck) → slice_get (map deck_of nodes) place ≡ Some d → (k : ℕ) → times k (numbers_in d) ≡ times k (range_with_len 0 d.pool.room)
each_once numbers [] place d at k = absurd cc
each_once numbers (n ∷ nodes) zero d at k =
    subst (λ (x : PlainDeck). times k (numbers_in x) ≡ times k (range_with_len 0 x.pool.room)) (same_Some (deck_of n) d at)
    (let same = numbers (fresh_buffers n.buffers) n.inbox n.apps n.lanes k in let once = (fresh_unused n.buffers n.inbox n.apps n.lanes).complete.once k in omega (arith, same, once))
each_once numbers (n ∷ nodes) (suc place) d at k = each_once numbers nodes place d at k

-- so many queues they have
pub queues_all : QueueCounts → (nodes : List PlainNodePlan) → queue_count (map deck_of nodes) ≡ sum_by queues_of nodes
queues_all counts [] = refl
queues_all counts (n ∷ nodes) =
    let one = sum_by-cons (λ (d : PlainDeck). length d.queues) (deck_of n) (map deck_of nodes) in
    let two = sum_by-cons queues_of n nodes in
    let here = counts (fresh_buffers n.buffers) n.inbox n.apps n.lanes in
    let rest = queues_all counts nodes in
    omega (arith, one, two, here, rest)

-- the world over them, which has no party
pub world_over : Numbers → (w : Inside) (nodes : List PlainNodePlan) → w.decks.decks ≡ map deck_of nodes → w.members.items ≡ [] → w.time ≡ 0 → HasRoom (map deck_of nodes) 0 w.room → length nodes ≤ MAX_NODES → IsWorld w
world_over numbers w nodes decks none start room few = record {
  fit = subst (λ (ms : List Member). AllFit w.decks w.time ms) (sym none) (λ place m at. absurd cc);
  conserved = subst (λ (ms : List Member). IsConserved (world_of w.decks ms w.time)) (sym none)
      (λ node d at k. ap (times k) (append-nil (numbers_in d)) ∙ each_once numbers nodes node d (ap (λ (ds : List PlainDeck). slice_get ds node) (sym decks) ∙ at) k);
  room = subst (λ (ds : List PlainDeck). HasRoom ds (length w.members.items) w.room) (sym decks) (subst (λ n. HasRoom (map deck_of nodes) n w.room) (sym (ap (λ (ms : List Member). length ms) none)) room);
  early = omega (arith, start);
  few_decks = (let many = ap (λ (ds : List PlainDeck). length ds) decks in let long = length-map nodes deck_of in omega (arith, many, long, few));
  few_members = (let many = ap (λ (ms : List Member). length ms) none in omega (arith, many));
}
