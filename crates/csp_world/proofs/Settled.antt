-- The parties of a network, as they become those of a world.
use Rattle.std.proofs.Common.{◌≡◌, ◌<◌, ◌≤◌, ℕ, List, [], ◌∷◌, Option, Some, length, map, option_map, ap, refl, sym, ◌∙◌, subst, arith, slice_get, IsSomeAnd, vec_capacity}
use Rattle.std.specs.Prelude.{IfSome, None}
use Rattle.std.specs.List.{AllByRecursion}
use Rattle.std.proofs.lemmas.Option.{slice_get-map}
use Rattle.csp_arena.specs.Cells.{RegionName}
use Rattle.csp_lists.specs.PlainDeck.{PlainDeck}
use Rattle.csp_log.specs.Who.{node_of}
use Rattle.csp_log.specs.declared.places.End.{End}
use Rattle.csp_nodes.proofs.Public.{fresh_len}
use Rattle.csp_party.specs.Any.{holds, plain, region_of}
use Rattle.csp_topology.specs.Opened.{AreParties, IsOpened, buffers_at, count_or, opened_as, region_or}
use Rattle.csp_topology.specs.Opening.{CanOpen, opening_of}
use Rattle.csp_topology.specs.Parties.{PlainOpening}
use Rattle.csp_topology.specs.Plan.{PlainNodePlan}
use Rattle.csp_topology.specs.declared.opened.NewParty.{NewParty}
use Rattle.csp_topology.specs.declared.opened.NodeBuffers.{NodeBuffers}
use Rattle.csp_topology.specs.declared.opening.Opening.{Opening}
use Rattle.csp_world.proofs.OpeningScene.{one_there}
use Rattle.csp_world.specs.Inside.{IsNew, rooms}
use Rattle.csp_world.specs.Opening.{deck_of}
use Rattle.csp_world.specs.Settling.{AreBuffersOf, CanSettle}

-- parties that are new over lists are those of their nodes
within : (n : ℕ) (home : Option ℕ) → ((node : ℕ) → home ≡ Some node → node < n) → IfSome home (λ node. node < n)
within n None low = tt
within n (Some node) low = low node refl

pub are_parties : (decks : List PlainDeck) (links : List (List End)) (openings : List Opening) (n : ℕ) → AllByRecursion CanOpen openings → AllByRecursion (IsNew decks links) (map opening_of openings) → n ≡ length decks → AreParties n openings
are_parties decks links openings n ready new many = record { ready = ready; there = by (map opening_of openings) new } where
  by : (os : List PlainOpening) → AllByRecursion (IsNew decks links) os → AllByRecursion (λ o. IfSome (node_of o.who) (λ node. node < n)) os
  by [] h = tt
  by (o ∷ os) h = (within n (node_of o.who) (λ node e. let low = h.0.home node e in omega (arith, low, many)), by os h.1)

-- one that was opened can be one of the world
can_settle : (decks : List PlainDeck) (links : List (List End)) (regions : List RegionName) (all : List NodeBuffers) (p : NewParty) → AreBuffersOf decks regions all → IsNew decks links (opened_as p) → IsOpened all p → CanSettle decks links regions p
can_settle decks links regions all p are new opened = record { new = new; home = home; unnoted = opened.unnoted; room = room } where
  there : (node : ℕ) → node_of p.who ≡ Some node → (b : NodeBuffers) × (slice_get all node ≡ Some b)
  there node e = one_there all node (let low = new.home node e in let many = are.many in omega (arith, low, many))

  home : (node : ℕ) → node_of p.who ≡ Some node → slice_get regions node ≡ Some (region_of p.party)
  home node e =
      let (b, at) = there node e in
      (are.each node b at).region ∙ ap Some (sym (opened.region ∙ ap (λ h. region_or (buffers_at all h)) e ∙ ap region_or at))

  room : (node : ℕ) → node_of p.who ≡ Some node → IsSomeAnd (slice_get (rooms decks) node) (λ room. room ≤ vec_capacity p.numbers)
  room node e =
      let (b, at) = there node e in
      let many : vec_capacity p.numbers ≡ b.count = opened.numbers ∙ ap (λ h. count_or (buffers_at all h)) e ∙ ap count_or at in
      subst (λ (o : Option ℕ). IsSomeAnd o (λ room. room ≤ vec_capacity p.numbers)) (sym (are.each node b at).count) (omega (arith, many))

pub all_settle : (decks : List PlainDeck) (links : List (List End)) (regions : List RegionName) (all : List NodeBuffers) (ps : List NewParty) (os : List PlainOpening) → AreBuffersOf decks regions all → map opened_as ps ≡ os → AllByRecursion (IsNew decks links) os → AllByRecursion (IsOpened all) ps
    → AllByRecursion (CanSettle decks links regions) ps
all_settle decks links regions all ps os are same new opened = by ps (subst (AllByRecursion (IsNew decks links)) (sym same) new) opened where
  by : (qs : List NewParty) → AllByRecursion (IsNew decks links) (map opened_as qs) → AllByRecursion (IsOpened all) qs → AllByRecursion (CanSettle decks links regions) qs
  by [] n o = tt
  by (q ∷ qs) n o = (can_settle decks links regions all q are n.0 o.0, by qs n.1 o.1)

-- and holds nothing yet
pub all_empty : (all : List NodeBuffers) (ps : List NewParty) → AllByRecursion (IsOpened all) ps → AllByRecursion (λ p. holds (plain p.party) ≡ []) ps
all_empty all [] h = tt
all_empty all (p ∷ ps) h = (h.0.party.holds, all_empty all ps h.1)

-- the pool of a node has room for as many buffers as it has
pub room_there : (nodes : List PlainNodePlan) (decks : List PlainDeck) (place : ℕ) (n : PlainNodePlan) → decks ≡ map deck_of nodes → slice_get nodes place ≡ Some n → slice_get (rooms decks) place ≡ Some n.buffers
room_there nodes decks place n same at =
    slice_get-map (λ (d : PlainDeck). d.pool.room) decks place
    ∙ ap (λ (ds : List PlainDeck). option_map (λ (d : PlainDeck). d.pool.room) (slice_get ds place)) same
    ∙ ap (option_map (λ (d : PlainDeck). d.pool.room)) (slice_get-map deck_of nodes place ∙ ap (option_map deck_of) at)
    ∙ ap Some (fresh_len n.buffers)
