-- Parties that were opened, each with a desk.
use Rattle.std.proofs.Common.{◌≡◌, ℕ, List, [], ◌∷◌, Option, None, Some, length, map, option_map, refl, sym, ap, ◌∙◌, subst}
use Rattle.std.specs.Prelude.{slice_get}
use Rattle.std.specs.List.{AllByRecursion}
use Rattle.std.proofs.lemmas.List.{length-map}
use Rattle.std.proofs.lemmas.Option.{slice_get-map}
use Rattle.csp_arena.specs.Cells.{RegionName}
use Rattle.csp_deck.specs.Regions.{nowhere}
use Rattle.csp_log.specs.Who.{node_of}
use Rattle.csp_opening.specs.Opened.{region_in}
use Rattle.csp_opening.specs.Unposted.{AreBuffersIn, IsUnposted, count_at, count_or, region_at, region_or, unposted_name, as_opened}
use Rattle.csp_opening.specs.declared.nodes.Node.{Node}
use Rattle.csp_opening.specs.declared.unposted.Unposted.{Unposted}
use Rattle.csp_party.specs.Any.{holds, plain}
use Rattle.csp_topology.specs.Opened as opened
use Rattle.csp_topology.specs.Opened.{IsOpened, buffers_at, opened_as}
use Rattle.csp_topology.specs.Parties.{PlainOpening}
use Rattle.csp_topology.specs.declared.opened.NewParty.{NewParty}
use Rattle.csp_topology.specs.declared.opened.NodeBuffers.{NodeBuffers}

-- there are as many as there are nodes
pub as_many_buffers : (xs : List Node) (bs : List NodeBuffers) → AreBuffersIn xs bs → length bs ≡ length xs
as_many_buffers xs bs are = sym (length-map bs (λ (b : NodeBuffers). b.region.name)) ∙ ap (λ (rs : List RegionName). length rs) are.regions ∙ length-map xs region_in

-- the region of the node at a place
region_same : (xs : List Node) (bs : List NodeBuffers) (home : Option ℕ) → AreBuffersIn xs bs → opened.region_or (buffers_at bs home) ≡ region_at xs home
region_same xs bs None are = refl
region_same xs bs (Some k) are =
    one (slice_get bs k) ∙ ap name_or (sym (slice_get-map (λ (b : NodeBuffers). b.region.name) bs k) ∙ ap (λ (rs : List RegionName). slice_get rs k) are.regions ∙ slice_get-map region_in xs k) ∙ sym (two (slice_get xs k))
  where
    name_or : Option RegionName → RegionName
    name_or None = nowhere
    name_or (Some r) = r

    one : (o : Option NodeBuffers) → opened.region_or o ≡ name_or (option_map (λ (b : NodeBuffers). b.region.name) o)
    one None = refl
    one (Some b) = refl

    two : (o : Option Node) → region_or o ≡ name_or (option_map region_in o)
    two None = refl
    two (Some x) = refl

-- and how many buffers it has
count_same : (xs : List Node) (bs : List NodeBuffers) (home : Option ℕ) → AreBuffersIn xs bs → opened.count_or (buffers_at bs home) ≡ count_at xs home
count_same xs bs None are = refl
count_same xs bs (Some k) are =
    one (slice_get bs k) ∙ ap number_or (sym (slice_get-map (λ (b : NodeBuffers). b.count) bs k) ∙ ap (λ (ns : List ℕ). slice_get ns k) are.counts ∙ slice_get-map (λ (x : Node). x.base.pool.capacity) xs k)
    ∙ sym (two (slice_get xs k))
  where
    number_or : Option ℕ → ℕ
    number_or None = 0
    number_or (Some n) = n

    one : (o : Option NodeBuffers) → opened.count_or o ≡ number_or (option_map (λ (b : NodeBuffers). b.count) o)
    one None = refl
    one (Some b) = refl

    two : (o : Option Node) → count_or o ≡ number_or (option_map (λ (x : Node). x.base.pool.capacity) o)
    two None = refl
    two (Some x) = refl

-- a party that was opened over the buffers of these nodes
unposted_one : (xs : List Node) (bs : List NodeBuffers) (s : Unposted) → AreBuffersIn xs bs → IsOpened bs (as_opened s) → IsUnposted xs s
unposted_one xs bs s are is = record {
  party = is.party;
  region = is.region ∙ region_same xs bs (node_of s.who) are;
  unnoted = is.unnoted;
  numbers = is.numbers ∙ count_same xs bs (node_of s.who) are;
}

-- and all of them
pub all_unposted : (xs : List Node) (bs : List NodeBuffers) (unposted : List Unposted) (ps : List NewParty) → AreBuffersIn xs bs → map as_opened unposted ≡ ps → AllByRecursion (IsOpened bs) ps → AllByRecursion (IsUnposted xs) unposted
all_unposted xs bs unposted ps are same all = by unposted (subst (AllByRecursion (IsOpened bs)) (sym same) all) where
  by : (ss : List Unposted) → AllByRecursion (IsOpened bs) (map as_opened ss) → AllByRecursion (IsUnposted xs) ss
  by [] h = tt
  by (s ∷ ss) h = (unposted_one xs bs s are h.0, by ss h.1)

-- they are who they were
pub same_names : (unposted : List Unposted) (ps : List NewParty) (os : List PlainOpening) → map as_opened unposted ≡ ps → map opened_as ps ≡ os → map unposted_name unposted ≡ os
same_names unposted ps os same names = by unposted ∙ ap (map opened_as) same ∙ names where
  by : (ss : List Unposted) → map unposted_name ss ≡ map opened_as (map as_opened ss)
  by [] = refl
  by (s ∷ ss) = ap (λ xs. unposted_name s ∷ xs) (by ss)

-- and hold nothing
pub all_empty : (bs : List NodeBuffers) (ps : List NewParty) → AllByRecursion (IsOpened bs) ps → AllByRecursion (λ p. holds (plain p.party) ≡ []) ps
all_empty bs [] h = tt
all_empty bs (p ∷ ps) h = (h.0.party.holds, all_empty bs ps h.1)
