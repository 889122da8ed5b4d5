-- Each connection that became open is on a slot of an application that its node has.
use Rattle.std.proofs.Common.{◌≡◌, ◌⊎◌, inl, inr, ℕ, ◌<◌, Some, None, [], slice_get, length, sym, ap, ◌∙◌, subst}
use Rattle.std.proofs.lemmas.Option.{get_or_from_slice_get}
use Rattle.csp_base.specs.declared.limits.TheConstants.{SLOTS}
use Rattle.csp_record.specs.Connections.{openings}
use Rattle.csp_record.specs.Record.{PlainRecord}
use Rattle.csp_record.specs.declared.connections.Opening.{Opening}
use Rattle.csp_log.specs.declared.who.Who.TheVariants as who
use Rattle.csp_scene.specs.Links.{links_at, no_node, node_at}
use Rattle.csp_scene.specs.Ranges.{IsScene}
use Rattle.csp_scene.specs.Scene.{PlainNode, PlainScene}
use Rattle.csp_consistent.specs.Consistent.{IsConsistent}
use Rattle.csp_topology.specs.Parties.{config_of}
use Rattle.csp_consistent.specs.Reading.{entries_of}
use Rattle.csp_consistent.proofs.Public.{Logged, IsOf, logged}
use Rattle.csp_prefix.specs.Prefix.{IsOpened}
use Rattle.csp_prefix.proofs.NodeLanes.{RouterThere, router_there}
use Rattle.csp_prefix.proofs.RouterLaw.{true_routers}

-- a router whose log tells an opening is one of the scene
pub opener : (scene : PlainScene) (r : PlainRecord) → IsScene scene → IsConsistent scene r → (place app k : ℕ) (x : Opening) → slice_get (openings app (entries_of r (who.Router place))) k ≡ Some x → RouterThere scene r place
opener scene r is con place app k x there = by (logged scene r (who.Router place) con.runs)
  where
    by : (entries_of r (who.Router place) ≡ []) ⊎ Logged (IsOf scene) (who.Router place) r.parties → RouterThere scene r place
    by (inl none) = let nowhere : None ≡ Some x = sym (ap (λ es. slice_get (openings app es) k) none) ∙ there in absurd cc
    by (inr l) = router_there scene r place is con.runs con.lanes l

pub placed_there : (scene : PlainScene) (r : PlainRecord) → IsScene scene → IsConsistent scene r → (place app : ℕ) (x : Opening) → IsOpened r place app x → (app < length (node_at scene.nodes place).apps) × (x.slot < SLOTS)
placed_there scene r is con place app x opened =
    let t = opener scene r is con place app opened.at x opened.there in
    let placed = (true_routers (config_of place t.addr t.node (links_at place scene.links)).facts t.node.routes (entries_of r (who.Router place)) t.log).placed app opened.at x opened.there in
    (subst (λ (n : PlainNode). app < length n.apps) (sym (get_or_from_slice_get scene.nodes place t.node no_node t.there)) placed.0, placed.1)
