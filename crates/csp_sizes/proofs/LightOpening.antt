-- A generated scene opens a light world.
use Rattle.std.proofs.Common.{◌≡◌, ℕ, ◌+◌, ◌%◌, ◌≤◌, List, [], ◌∷◌, length, map, None, Some, arith}
use Rattle.std.proofs.lemmas.List.Elements.{All-cons, All-from_recursion, All-map, All-nil, All-replicate}
use Rattle.std.proofs.lemmas.List.FromFn.{length-map-range_with_len}
use Rattle.std.specs.List.{All, AllByRecursion, range_with_len}
use Rattle.std.specs.Prelude.{codes}
use Rattle.csp_app.specs.Making.{burst_bytes}
use Rattle.csp_app.specs.PlainStep as step
use Rattle.csp_buffer.specs.Content.{cleared}
use Rattle.csp_gen.specs.GenScene.{all_to, binding, cam, connecting, gen_scene, links, no_rows, node, ops, relay_table}
use Rattle.csp_link.specs.declared.fault.Fault.{Fault}
use Rattle.csp_log.specs.declared.places.LinkKind.TheVariants as carried
use Rattle.csp_nodes.specs.Fresh.{fresh_buffers}
use Rattle.csp_party.specs.Any.{a_router}
use Rattle.csp_route.specs.Routes.{Routes, merged}
use Rattle.csp_scene.specs.Links.{links_at}
use Rattle.csp_scene.specs.Scene.{PlainLink, PlainNode}
use Rattle.csp_service.specs.Counting.{no_stats}
use Rattle.csp_service.specs.declared.facts.TheConstants.{IFACE_ROOM}
use Rattle.csp_sizes.proofs.LightApps.{app_opened}
use Rattle.csp_sizes.proofs.LightDecks.{deck_opened}
use Rattle.csp_sizes.proofs.LightIfaces.{iface_opened}
use Rattle.csp_sizes.proofs.LightLinks.{link_opened}
use Rattle.csp_sizes.proofs.LightPorts.{ports_opened}
use Rattle.csp_sizes.specs.Light.{IsFew, IsLight, IsLightDeck, IsLightParty, IsShortStep}
use Rattle.csp_sizes.specs.Worlds.{IsLightWorld}
use Rattle.csp_stack.specs.Config.{opening_state}
use Rattle.csp_stack.specs.Router.{Facts}
use Rattle.csp_topology.specs.Parties.{PlainOpening, parties_of, config_of, leader_opening}
use Rattle.csp_topology.specs.Plan.{PlainNodePlan, plans_from}
use Rattle.csp_world.specs.Opening.{deck_of, new_member, opening}
use Rattle.csp_world.specs.World.{PlainMember}

fresh_light : (count : ℕ) → All IsLight (fresh_buffers count)
fresh_light count = All-map IsLight cleared (range_with_len 0 count) (λ k d h. omega arith)

decks_opened : (ns : List PlainNodePlan) → All IsLightDeck (map deck_of ns)
decks_opened [] = All-nil IsLightDeck
decks_opened (n ∷ ns) = All-cons IsLightDeck (deck_of n) (map deck_of ns) (deck_opened (fresh_buffers n.buffers) n.inbox n.apps n.lanes (fresh_light n.buffers)) (decks_opened ns)

router_opened : (facts : Facts) (routes : Routes) → facts.options.window ≤ 20 → length facts.name ≤ 20 → IsLightParty (a_router (record { facts = facts; state = opening_state facts.apps routes }))
router_opened facts routes window name = record {
  facts = record { window = window; name = name };
  state = record {
    ports = ports_opened facts.apps;
    trash = All-nil IsLight;
    out = tt;
    stats = All-replicate IsFew IFACE_ROOM no_stats (omega arith);
  };
}

burst_short : (slot count : ℕ) → IsShortStep (step.Burst slot count 100)
burst_short slot count number = let long : length (burst_bytes 100 number) ≡ 100 = length-map-range_with_len (λ (i : ℕ). (number + i) % 256) 0 100 in omega (arith, long)

ops_short : (packets : ℕ) → All IsShortStep (connecting ∷ step.Burst 0 packets 100 ∷ [])
ops_short packets = All-cons IsShortStep connecting (step.Burst 0 packets 100 ∷ []) (λ number. omega arith) (All-cons IsShortStep (step.Burst 0 packets 100) [] (burst_short 0 packets) (All-nil IsShortStep))

cam_short : (packets : ℕ) → All IsShortStep (binding ∷ step.Recv 0 packets None ∷ [])
cam_short packets = All-cons IsShortStep binding (step.Recv 0 packets None ∷ []) (λ number. omega arith) (All-cons IsShortStep (step.Recv 0 packets None) [] (λ number. omega arith) (All-nil IsShortStep))

abbrev IsOpening : PlainOpening → Type 0
IsOpening o = IsLightParty o.party

-- the nodes of such a scene
abbrev ground : ℕ → PlainNode
ground packets = node (codes "ground") 1 65400 (merged no_rows (all_to 0)) (ops (connecting ∷ step.Burst 0 packets 100 ∷ []))

abbrev relay : PlainNode
relay = node (codes "relay") 2 0 (merged no_rows relay_table) []

abbrev payload : ℕ → PlainNode
payload packets = node (codes "payload") 3 0 (merged no_rows (all_to 0)) (cam (binding ∷ step.Recv 0 packets None ∷ []))

hub_opened : (place addr : ℕ) (n : PlainNode) (links : List PlainLink) → n.options.window ≤ 20 → length n.name ≤ 20 → IsOpening (leader_opening (Some addr) place n links)
hub_opened place addr n links window name = router_opened (config_of place addr n links).facts (config_of place addr n links).routes window name

parties_opened : (packets : ℕ) (plan : List Fault) → AllByRecursion IsOpening (parties_of (gen_scene packets plan))
unfolding parties_of
parties_opened packets plan = (
  hub_opened 0 1 (ground packets) (links_at 0 (links plan)) (omega arith) (omega arith),
  (
    iface_opened 0 0 carried.Kiss 256 (omega arith),
    (
      app_opened 0 (connecting ∷ step.Burst 0 packets 100 ∷ []) (ops_short packets),
      (
        hub_opened 1 2 relay (links_at 1 (links plan)) (omega arith) (omega arith),
        (
          iface_opened 1 0 carried.Kiss 256 (omega arith),
          (
            iface_opened 1 1 carried.Can 256 (omega arith),
            (
              hub_opened 2 3 (payload packets) (links_at 2 (links plan)) (omega arith) (omega arith),
              (
                iface_opened 2 0 carried.Can 256 (omega arith),
                (
                  app_opened 0 (binding ∷ step.Recv 0 packets None ∷ []) (cam_short packets),
                  (link_opened carried.Kiss plan, (link_opened carried.Can [], tt)),
                ),
              ),
            ),
          ),
        ),
      ),
    ),
  ),
)

pub opening_light : (packets : ℕ) (plan : List Fault) → IsLightWorld (opening (gen_scene packets plan))
unfolding opening
opening_light packets plan = record {
  decks = decks_opened (plans_from 0 (gen_scene packets plan).nodes (gen_scene packets plan).links);
  members = All-map (λ (m : PlainMember). IsLightParty m.party) new_member (parties_of (gen_scene packets plan)) (All-from_recursion IsOpening (parties_of (gen_scene packets plan)) (parties_opened packets plan));
}
