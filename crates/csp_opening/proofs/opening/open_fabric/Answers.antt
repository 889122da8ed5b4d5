use Rattle.std.proofs.Common.{◌≡◌, ◌<◌, List, length, sym, subst, ap, ◌∙◌, arith}
use Rattle.std.specs.Global.{Vec}
use Rattle.std.specs.List.{AllByRecursion}
use Rattle.std.specs.Prelude.{vec_capacity}
use Rattle.std.proofs.lemmas.List.{length-map}
use Rattle.csp_opening.proofs.Fabrics.{AreOpened}
use Rattle.csp_opening.proofs.Finish.{IsPlanned, IsReady, blanks_as, can_of, finished, lists_as, opened_of, parties_as, rows_of, wired_of}
use Rattle.csp_opening.proofs.Leaving.{as_many}
use Rattle.csp_opening.specs.Opened.{AreWired}
use Rattle.csp_opening.specs.Unposted.{unposted_name}
use Rattle.csp_posts.specs.declared.retired.Retired.{Retired}
use Rattle.csp_record.specs.declared.record.PartyLog.{PartyLog}
use Rattle.csp_topology.specs.Opened.{AreParties}
use Rattle.csp_topology.specs.Opening.{opening_of}
use Rattle.csp_topology.specs.Parties.{PlainOpening}
use Rattle.csp_topology.specs.Plan.{PlainNodePlan, plans_from}
use Rattle.csp_topology.specs.Topology.{PlainTopology}
use Rattle.csp_topology.specs.declared.wire.Wire.{Wire}
use Rattle.csp_opening.proofs.opening.open_fabric.Given.{Over}
use Rattle.csp_opening.proofs.opening.open_fabric.Goals.{After-deref-2, In_ok-lists, In_ok-plans}
use Rattle.csp_opening.proofs.opening.open_fabric.Goals as goal

-- what is known of the scene before its nodes are opened
planned : (g : Over) (c : In_ok-plans g) → IsPlanned c.args.scene.now c.in_ok-plans.field-0.lanes.items c.in_ok-plans.field-0.parties.items
planned g c =
    let scene = c.args.scene.now in
    let links = c.requires.links in
    record {
      is = c.requires.scene;
      laws = record {
        apart = c.names_ends_apart.ensures scene c.requires.scene links;
        stays = c.stays_home.ensures scene c.requires.scene links;
        served = c.serves_parties.ensures.queues scene c.requires.scene links;
      };
      count = c.orders_wires.ensures.count scene;
      are = c.in_ok-plans.ensures.wires links;
      parties = ap (λ (t : PlainTopology). t.parties) c.in_ok-plans.ensures.whole;
      apart = c.names_parties_apart.ensures scene;
      ready = c.in_ok-plans.ensures.ready;
    }

-- the nodes that are opened are the scene's
of_scene : (g : Over) (c : After-deref-2 g) → c.deref-2.result.now ≡ plans_from 0 c.args.scene.now.nodes c.args.scene.now.links
of_scene g c = c.deref-2.ensures.value ∙ ap (λ (t : PlainTopology). t.nodes) c.in_ok-plans.ensures.whole

-- what was opened, and the lists for it
ready : (g : Over) (c : In_ok-lists g) → IsPlanned c.args.scene.now c.in_ok-plans.field-0.lanes.items c.in_ok-plans.field-0.parties.items → c.deref-2.result.now ≡ plans_from 0 c.args.scene.now.nodes c.args.scene.now.links
    → IsReady c.args.scene.now c.in_ok-plans.field-0.lanes.items c.in_ok-plans.field-0.parties.items c.in_ok-lists.nodes.items c.in_ok-lists.unposted.items c.in_ok-blanks.blanks c.in_ok-lists.lists
ready g c plan nodes =
    let scene = c.args.scene.now in
    let wires = c.in_ok-plans.field-0.lanes.items in
    let openings = c.in_ok-plans.field-0.parties.items in
    let xs = c.in_ok-lists.nodes.items in
    let unposted = c.in_ok-lists.unposted.items in
    let told = c.in_ok-lists.ensures in
    let opened : AreOpened scene (rows_of wires) xs unposted = opened_of scene wires openings c.deref-2.result.now c.deref-3.result.now xs unposted plan nodes c.deref-3.ensures.value told.nodes told.names told.unposted in
    let many : length unposted ≡ length openings = sym (length-map unposted unposted_name) ∙ ap (λ (os : List PlainOpening). length os) told.names ∙ length-map openings opening_of in
    let plans = plans_from 0 scene.nodes scene.links in
    let long : length xs ≡ length plans = as_many plans (rows_of wires) xs opened.nodes in
    record {
      plan = plan;
      opened = opened;
      blanks =
          let len = c.len.ensures in
          let ok = c.in_ok-plans.field-0.parties.ok.0 in
          let count = (wired_of scene wires openings plan).count in
          let same = ap (λ (ws : List (Vec Wire)). length ws) c.deref.ensures.value in
          blanks_as _ (length unposted) (length c.deref.result.now) (length xs) c.deref.result.now wires c.in_ok-blanks.blanks c.in_ok-blanks.ensures (omega (arith, len, ok, many)) (omega (arith, count, same, long)) c.deref.ensures.value;
      lists =
          let same = ap (λ (ns : List PlainNodePlan). length ns) nodes in
          lists_as (length openings) (length unposted) (length c.deref-2.result.now) (length xs) c.in_ok-lists.lists told.lists (sym many) (omega (arith, same, long));
    }

pub open-requires-clause-few : goal.open-requires-clause-few
open-requires-clause-few g c =
    let plan = planned g (goal.at.open-requires-clause-few g c).In_ok-plans in
    subst (AllByRecursion (λ (ws : Vec Wire). length ws.items < 256)) (sym c.deref.ensures.value) (wired_of _ _ _ plan).few

pub open_all-requires : goal.open_all-requires
open_all-requires g c =
    let at = goal.at.open_all-requires g c in
    let plan = planned g at.In_ok-plans in
    let nodes = of_scene g at.After-deref-2 in
    record {
      wired = subst (λ ns. AreWired ns c.deref-3.result.now) (sym nodes) (subst (AreWired (plans_from 0 c.args.scene.now.nodes c.args.scene.now.links)) (sym c.deref-3.ensures.value) (wired_of _ _ _ plan));
      parties = subst (λ (ns : List PlainNodePlan). AreParties (length ns) c.in_ok-plans.field-0.parties.items) (sym nodes) (parties_as _ _ _ plan);
    }

pub assemble-requires : goal.assemble-requires
assemble-requires g c =
    let at = goal.at.assemble-requires g c in
    let is = ready g at.In_ok-lists (planned g at.In_ok-plans) (of_scene g at.After-deref-2) in
    record { blanks = is.blanks; lists = is.lists; can = can_of _ _ _ _ _ _ _ is }

pub returns : goal.returns
returns g c =
    let at = goal.at.returns g c in
    let is = ready g at.In_ok-lists (planned g at.In_ok-plans) (of_scene g at.After-deref-2) in
    let made = c.assemble.ensures in
    let done = finished _ _ _ _ _ _ _ c.assemble.result.0 c.assemble.result.1.items is (record {
      queues = made.queues;
      stores = made.stores;
      rooms = made.rooms;
      wires = ap (λ (v : Vec (Vec Wire)). v.items) made.wires;
      notes = made.notes ∙ is.blanks.notes;
      logs = ap (λ (v : Vec PartyLog). v.items) made.logs ∙ is.blanks.logs;
      logs_room = (let cap = ap (λ (v : Vec PartyLog). vec_capacity v) made.logs in let room = is.blanks.logs_room in omega (arith, cap, room));
      retired = ap (λ (v : Vec Retired). v.items) made.retired ∙ is.lists.retired;
      retired_room = (let cap = ap (λ (v : Vec Retired). vec_capacity v) made.retired in let room = is.lists.retired_room in omega (arith, cap, room));
    }) made.posts in
    record { fabric = done.fabric; new = done.new; fresh = done.fresh }
