-- Parties as they open.
use Rattle.std.proofs.Common.{◌≡◌, ℕ, None, Some, [], refl, sym, ap, ◌∙◌, subst}
use Rattle.std.specs.Prelude.{Err, IfOk, Ok, Result, List, slice_get, vec_capacity}
use Rattle.csp_arena.specs.declared.token.RegionToken.{RegionToken}
use Rattle.csp_hub.proofs.Public.{count_opening}
use Rattle.csp_log.specs.Who.{node_of}
use Rattle.csp_party.specs.Any.{region_of}
use Rattle.csp_topology.specs.Opened.{IsNewParty, IsOpened, buffers_at, count_or, opened_as, region_or}
use Rattle.csp_topology.specs.Opening.{IsOfRegion, opening_of}
use Rattle.csp_topology.specs.Parties.{PlainOpening}
use Rattle.csp_topology.specs.declared.opened.NewParty.{NewParty}
use Rattle.csp_topology.specs.declared.opened.NodeBuffers.{NodeBuffers}
use Rattle.csp_topology.specs.declared.opening.Opening.{Opening}
use Rattle.csp_topology.specs.declared.opening.Opening.TheVariants as opening

-- a party before its first turn
new_party : (o : Opening) → IsNewParty (opening_of o).party
new_party (opening.Router c) = record { ready = λ e. tt; counted = refl; holds = refl }
new_party (opening.Bridge n) = record { ready = λ e. tt; counted = refl; holds = refl }
new_party (opening.Iface n k kind mtu heeds) = record { ready = λ e. refl; counted = refl; holds = refl }
new_party (opening.App n k script) = record { ready = λ e. tt; counted = refl; holds = refl }
new_party (opening.Link k kind plan) = record { ready = λ e. tt; counted = refl; holds = refl }
new_party (opening.Hub k ends plan) = record { ready = λ e. tt; counted = count_opening ends plan.items; holds = refl }

-- a party of a node, as it was opened, where it was
pub opened_if : {E : Type 0} → (nodes : List NodeBuffers) (o : Opening) (place : ℕ) (b : NodeBuffers) (region : RegionToken) (r : Result NewParty E) → node_of (opening_of o).who ≡ Some place → slice_get nodes place ≡ Some b → region ≡ b.region
    → IfOk r (λ (p : NewParty). opened_as p ≡ opening_of o) → IfOk r (λ (p : NewParty). IsOfRegion (node_of (opening_of o).who) (Some region) p.party) → IfOk r (λ (p : NewParty). p.numbers.items ≡ [])
    → IfOk r (λ (p : NewParty). vec_capacity p.numbers ≡ b.count) → IfOk r (IsOpened nodes)
opened_if nodes o place b region (Ok p) who at token name of_it unnoted numbers =
    let its : node_of p.who ≡ Some place = ap (λ (z : PlainOpening). node_of z.who) name ∙ who in
    let there : buffers_at nodes (node_of p.who) ≡ Some b = ap (buffers_at nodes) its ∙ at in
    let same : region_of p.party ≡ region.name = subst (λ n. IsOfRegion n (Some region) p.party) who of_it in
    record {
      party = subst IsNewParty (sym (ap (λ (z : PlainOpening). z.party) name)) (new_party o);
      region = same ∙ ap (λ (t : RegionToken). t.name) token ∙ sym (ap region_or there);
      unnoted = unnoted;
      numbers = numbers ∙ sym (ap count_or there);
    }
opened_if nodes o place b region (Err e) who at token name of_it unnoted numbers = tt

-- a party of none, as it was opened, where it was
pub opened_apart : {E : Type 0} → (nodes : List NodeBuffers) (o : Opening) (r : Result NewParty E) → node_of (opening_of o).who ≡ None → IfOk r (λ (p : NewParty). opened_as p ≡ opening_of o)
    → IfOk r (λ (p : NewParty). IsOfRegion (node_of (opening_of o).who) None p.party) → IfOk r (λ (p : NewParty). p.numbers.items ≡ []) → IfOk r (λ (p : NewParty). vec_capacity p.numbers ≡ 0) → IfOk r (IsOpened nodes)
opened_apart nodes o (Ok p) who name of_it unnoted numbers =
    let its : node_of p.who ≡ None = ap (λ (z : PlainOpening). node_of z.who) name ∙ who in
    let none : buffers_at nodes (node_of p.who) ≡ None = ap (buffers_at nodes) its in
    record {
      party = subst IsNewParty (sym (ap (λ (z : PlainOpening). z.party) name)) (new_party o);
      region = subst (λ n. IsOfRegion n None p.party) who of_it ∙ sym (ap region_or none);
      unnoted = unnoted;
      numbers = numbers ∙ sym (ap count_or none);
    }
opened_apart nodes o (Err e) who name of_it unnoted numbers = tt
