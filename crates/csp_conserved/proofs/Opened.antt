-- Each party of a scene holds no buffer before its first turn.
use Rattle.std.proofs.Common.{◌≡◌, Bool, true, false, [], length, refl, ap, ◌∙◌}
use Rattle.std.specs.Prelude.{if◌then◌else◌}
use Rattle.std.specs.List.{AllByRecursion}
use Rattle.csp_consistent.proofs.Public.{IsOf, IsOwner, are_owners}
use Rattle.csp_hub.specs.PlainHub.{opening as hub_opening}
use Rattle.csp_link.specs.PlainLink.{opening as link_opening}
use Rattle.csp_party.specs.Any.{PlainParty, a_hub, a_link, holds}
use Rattle.csp_log.specs.declared.who.Who.{Who}
use Rattle.csp_log.specs.declared.who.Who.TheVariants as who
use Rattle.csp_scene.proofs.Public.{AllByRecursion-map}
use Rattle.csp_scene.specs.Links.{links_at}
use Rattle.csp_scene.specs.Scene.{PlainLink, PlainScene}
use Rattle.csp_stack.specs.Config.{PlainConfig}
use Rattle.csp_topology.specs.Parties.{PlainOpening, config_of, link_party, parties_of, router_for}

router_none : (c : PlainConfig) → holds (router_for c) ≡ []
router_none c = refl

link_none : (l : PlainLink) → holds (link_party l) ≡ []
link_none l =
    by l.hub
  where
    by : (b : Bool) → holds (if b then a_hub (hub_opening (length l.ends) l.plan) else a_link (link_opening l.kind l.plan)) ≡ []
    by true = refl
    by false = refl

none_by : (scene : PlainScene) (w : Who) (p : PlainParty) → IsOwner scene.nodes scene.links w p → holds p ≡ []
none_by scene (who.Router place) p is = ap holds is.party ∙ router_none (config_of place is.addr is.node (links_at place scene.links))
none_by scene (who.Bridge place) p is = ap holds is.party
none_by scene (who.Iface place number) p is = ap holds is.party
none_by scene (who.App place number) p is = ap holds is.party
none_by scene (who.Link number) p is = ap holds is.party ∙ link_none is.link

pub open_empty : (scene : PlainScene) → AllByRecursion (λ o. holds o.party ≡ []) (parties_of scene)
open_empty scene = AllByRecursion-map (IsOf scene) (λ (o : PlainOpening). holds o.party ≡ []) (parties_of scene) (λ o is. none_by scene o.who o.party is) (are_owners scene)
