-- What the interfaces of a record got from their lanes `Out` is marked with a next hop, since it is what a router or a bridge put there.
use Rattle.std.proofs.Common.{◌≡◌, ◌⊎◌, inl, inr, ℕ, Option, None, Some, [], sym, subst}
use Rattle.std.proofs.lemmas.Option.{slice_get_within}
use Rattle.std.specs.List.{AllByRecursion}
use Rattle.csp_bridge.specs.PlainBridge as plain_bridge
use Rattle.csp_consistent.proofs.Public.{through, each_at, Logged, IsBridgeAt, IsIfaceAt, IsOf, IsRouterAt, logged}
use Rattle.csp_consistent.specs.Lanes.{AreInOrder}
use Rattle.csp_consistent.specs.Reading.{entries_of, gets}
use Rattle.csp_consistent.specs.Runs.{AreLogsOf}
use Rattle.csp_hops.proofs.Routers.{PushesByHop, bridge_pushes, puts_hops, router_pushes}
use Rattle.csp_consistent.specs.Addressed.{AreHopsOut, IsHopItem}
use Rattle.csp_hops.specs.Hops.{LeadByAddresses, LeadsByAddresses}
use Rattle.csp_log.specs.declared.places.QueueId.TheVariants as queue
use Rattle.csp_party.specs.Any.{a_bridge}
use Rattle.csp_prefix.proofs.Public.{out_lane_there, owner_of, run_of}
use Rattle.csp_prefix.specs.Routers.{opening_router}
use Rattle.csp_record.specs.Record.{PlainRecord}
use Rattle.csp_log.specs.declared.who.Who.{Who}
use Rattle.csp_log.specs.declared.who.Who.TheVariants as who
use Rattle.csp_scene.specs.Links.{links_at}
use Rattle.csp_scene.specs.Scene.{PlainNode, PlainScene}
use Rattle.csp_topology.specs.Lanes.{leader_of, out_lane}
use Rattle.csp_topology.specs.Parties.{config_of, parties_of, router_for}

module _ (scene : PlainScene) (r : PlainRecord) (lead : LeadByAddresses scene) (are : AreLogsOf (parties_of scene) r.parties) (order : AreInOrder scene r) where
  -- all that a party pushed to interfaces is marked so
  abbrev Pushes : Who → Type 0
  Pushes w = AllByRecursion (λ e. PushesByHop e.op) (entries_of r w)

  router_there : (place : ℕ) → Pushes (who.Router place)
  router_there place =
      told (logged scene r (who.Router place) are)
    where
      told : (entries_of r (who.Router place) ≡ []) ⊎ Logged (IsOf scene) (who.Router place) r.parties → Pushes (who.Router place)
      told (inl none) = subst (AllByRecursion (λ e. PushesByHop e.op)) (sym none) tt
      told (inr l) =
          let at : IsRouterAt scene.nodes scene.links place l.opening.party = owner_of scene r (who.Router place) l in
          let config = config_of place at.addr at.node (links_at place scene.links) in
          router_pushes (entries_of r (who.Router place)) 0 (opening_router config.facts config.routes) (run_of scene r (who.Router place) (router_for config) l at.party)
          (tt, each_at (λ (n : PlainNode). LeadsByAddresses n.routes) scene.nodes place at.node lead at.there)

  bridge_there : (place : ℕ) → Pushes (who.Bridge place)
  bridge_there place =
      told (logged scene r (who.Bridge place) are)
    where
      told : (entries_of r (who.Bridge place) ≡ []) ⊎ Logged (IsOf scene) (who.Bridge place) r.parties → Pushes (who.Bridge place)
      told (inl none) = subst (AllByRecursion (λ e. PushesByHop e.op)) (sym none) tt
      told (inr l) =
          let at : IsBridgeAt scene.nodes place l.opening.party = owner_of scene r (who.Bridge place) l in
          bridge_pushes (entries_of r (who.Bridge place)) 0 plain_bridge.opening (run_of scene r (who.Bridge place) (a_bridge plain_bridge.opening) l at.party)

  -- the router of a node, or its bridge
  hub_there : (place : ℕ) (addr : Option ℕ) → Pushes (leader_of place addr)
  hub_there place None = bridge_there place
  hub_there place (Some addr) = router_there place

  pub hops_out : AreHopsOut r
  hops_out node number =
      told (logged scene r (who.Iface node number) are)
    where
      told : (entries_of r (who.Iface node number) ≡ []) ⊎ Logged (IsOf scene) (who.Iface node number) r.parties → AllByRecursion IsHopItem (gets (queue.Out number) (entries_of r (who.Iface node number)))
      told (inl none) = subst (λ es. AllByRecursion IsHopItem (gets (queue.Out number) es)) (sym none) tt
      told (inr l) =
          let at : IsIfaceAt scene.nodes scene.links node number l.opening.party = owner_of scene r (who.Iface node number) l in
          let hub : Who = leader_of node at.node.addr in
          through IsHopItem r (out_lane node hub number)
          (out_lane_there scene r node number at.node order at.there (slice_get_within (links_at node scene.links) number at.link at.on))
          (puts_hops number (entries_of r hub) (hub_there node at.node.addr))
