use Rattle.std.proofs.Common.{◌≡◌, List, [], ◌++◌, All, length, map, arith, sym, ap, ◌∙◌, subst}
use Rattle.std.specs.Global.{Vec}
use Rattle.std.specs.List.{flat_map, list_all}
use Rattle.std.specs.Prelude.{not}
use Rattle.csp_closing.proofs.Closed.{IsRun, Laws, can_as, closed, ends_as, lent, memories_can, nodes_few, ordered, others_room, parties_can, queues_can, queues_room, rest_long, returned, stores_few, wires_in}
use Rattle.csp_closing.specs.Nodes.{NodesEnd, queue_count}
use Rattle.csp_closing.specs.Retired.{PlainRest, all_homes, all_rest, all_sides}
use Rattle.csp_closing.specs.Stores.{CanEndParties, CanGiveBack, parties_back, pile_of, pool_part, rest_held, rest_log, with_held}
use Rattle.csp_closing.specs.Times.{AreOrdered, rounds_among}
use Rattle.csp_consistent.specs.Pools.{pools_held}
use Rattle.csp_party.specs.Any.{is_done}
use Rattle.csp_posts.specs.Seen.{SeenPost}
use Rattle.csp_posts.specs.declared.retired.Retired.{Retired}
use Rattle.csp_record.specs.Record.{PlainPartyLog}
use Rattle.csp_scene.specs.Kept.{AreLinksAfter}
use Rattle.csp_scene.specs.Ranges.{IsScene}
use Rattle.csp_scene.specs.Scene.{PlainScene}
use Rattle.csp_standing.specs.Fabrics.{IsFabricOf}
use Rattle.csp_standing.specs.declared.fabric.NodeStore.{NodeStore}
use Rattle.csp_topology.specs.declared.wire.Wire.{Wire}
use Rattle.csp_closing.proofs.closing.close_fabric.Given.{Over}
use Rattle.csp_closing.proofs.closing.close_fabric.Goals.{After-end_parties, After-end_queues, After-retire, After-weighs}
use Rattle.csp_closing.proofs.closing.close_fabric.Goals as goal

-- what is known of every scene
laws_of : (g : Over) (c : After-weighs g) → Laws
laws_of g c = record {
  led = c.puts_leaders_first.ensures.led;
  hubs = c.puts_leaders_first.ensures.hubs;
  apart = c.names_parties_apart.ensures;
  joins = c.joins_parties.ensures;
  stays = c.stays_home.ensures;
  returns = c.returns_all.ensures;
  long = c.weighs.ensures.len;
}

-- the network of a scene, with its parties out of their run
run_of : (g : Over) (c : After-retire g) (scene : PlainScene) → IsScene scene → AreLinksAfter (length scene.nodes) [] scene.links → IsFabricOf scene c.args.fabric c.args.posts.items → IsRun scene c.args.fabric c.args.posts.items c.retire.new.retired.items
run_of g c scene is after fabric = record { is = is; after = after; fabric = fabric; same = c.retire.ensures.posts; fresh = c.retire.ensures.fresh }

-- there is such a scene
run_here : (g : Over) (c : After-retire g) → IsRun c.requires.0 c.args.fabric c.args.posts.items c.retire.new.retired.items
run_here g c = run_of g c c.requires.0 c.requires.1 c.requires.2 c.requires.3

-- the queues have ended, and the parties and the memory that were lent to that are back
module _ (g : Over) (c : After-end_queues g) where
  abbrev retired : List Retired
  retired = c.retire.new.retired.items

  abbrev parties : List Retired
  parties = returned c.retire.new.retired.len c.end_queues.new.parties retired

  abbrev stores : List NodeStore
  stores = returned c.args.fabric.stores.len c.end_queues.new.stores c.args.fabric.stores.items

  ends : NodesEnd 0 c.args.fabric.queues (wires_in c.args.fabric) (all_homes retired) (all_sides retired) c.args.fabric.notes c.end_queues.new.notes c.args.fabric.stores.items c.end_queues.new.stores
  ends = ends_as c.args.fabric retired _ _ _ _ _ c.deref-2.ensures.value c.deref_mut.ensures.value c.deref_mut-2.ensures.value c.end_queues.ensures.ends

  rest : all_rest parties ≡ all_rest retired
  rest =
      let long = c.end_queues.auto.parties ∙ ap (λ (l : List Retired). length l) c.deref_mut.ensures.value in
      ap all_rest (lent c.retire.new.retired.len c.end_queues.new.parties retired c.retire.new.retired.ok.0 long) ∙ c.end_queues.ensures.rest ∙ ap all_rest c.deref_mut.ensures.value

  wide : length c.end_queues.new.stores ≡ length c.args.fabric.stores.items
  wide = c.end_queues.auto.stores ∙ ap (λ (l : List NodeStore). length l) c.deref_mut-2.ensures.value

  back : stores ≡ c.end_queues.new.stores
  back = lent c.args.fabric.stores.len c.end_queues.new.stores c.args.fabric.stores.items c.args.fabric.stores.ok.0 wide

-- the parties have ended too, and the memory is back from that
module _ (g : Over) (c : After-end_parties g) where
  -- the end of the queues, before that
  abbrev was : After-end_queues g
  was = (goal.at.end_parties-requires-clause-can g c.before).After-end_queues

  abbrev left : List NodeStore
  left = returned c.args.fabric.stores.len c.end_parties.new.stores (stores g was)

  same : c.deref_mut-3.result.now ≡ c.end_queues.new.stores
  same = c.deref_mut-3.ensures.value ∙ back g was

  widest : length c.end_parties.new.stores ≡ length c.args.fabric.stores.items
  widest = c.end_parties.auto.stores ∙ ap (λ (l : List NodeStore). length l) same ∙ wide g was

  last : left ≡ c.end_parties.new.stores
  last =
      let wider : length (stores g was) ≡ length c.args.fabric.stores.items = ap (λ (l : List NodeStore). length l) (back g was) ∙ wide g was in
      lent c.args.fabric.stores.len c.end_parties.new.stores (stores g was) (c.args.fabric.stores.ok.0 ∙ sym wider) (widest ∙ sym wider)

  piles : map pile_of c.end_parties.new.stores ≡ parties_back (all_rest (retired g was)) (map pile_of c.end_queues.new.stores)
  piles = c.end_parties.ensures.stores ∙ ap (λ (l : List PlainRest). parties_back l (map pile_of c.deref_mut-3.result.now)) (rest g was) ∙ ap (λ (l : List NodeStore). parties_back (all_rest (retired g was)) (map pile_of l)) same

  logs : c.end_parties.new.logs.items ≡ map rest_log (all_rest (retired g was))
  logs = c.end_parties.ensures.logs ∙ ap (λ (l : List PlainPartyLog). l ++ map rest_log (all_rest (parties g was))) c.requires.3.unlogged ∙ ap (map rest_log) (rest g was)

pub end_queues-requires : goal.end_queues-requires
end_queues-requires g c =
    let at = goal.at.end_queues-requires g c in
    let laws = laws_of g at.After-weighs in
    let run = run_here g at.After-retire in
    record {
      can = can_as c.args.fabric c.retire.new.retired.items _ _ _ c.deref-2.ensures.value c.deref_mut.ensures.value c.deref_mut-2.ensures.value (queues_can laws _ _ _ _ run);
      few =
          let many = stores_few _ _ _ _ run in
          let few = nodes_few _ run.is in
          let same = ap (λ (l : List NodeStore). length l) c.deref_mut-2.ensures.value in
          omega (arith, many, few, same);
      notes_room =
          let room = queues_room laws _ _ _ _ run in
          let same : queue_count (map (λ (v : Vec Wire). v.items) c.deref-2.result.now) ≡ queue_count (wires_in c.args.fabric) = ap (λ (l : List (Vec Wire)). queue_count (map (λ (v : Vec Wire). v.items) l)) c.deref-2.ensures.value in
          omega (arith, room, same);
    }

pub end_parties-requires-clause-can : goal.end_parties-requires-clause-can
end_parties-requires-clause-can g c =
    let at = goal.at.end_parties-requires-clause-can g c in
    let was = at.After-end_queues in
    subst (λ (l : List NodeStore). CanEndParties (map pile_of l) (all_rest (parties g was))) (sym (c.deref_mut-3.ensures.value ∙ back g was))
    (subst (CanEndParties (map pile_of c.end_queues.new.stores)) (sym (rest g was)) (parties_can (laws_of g at.After-weighs) _ _ _ _ (run_here g at.After-retire) _ _ (ends g was)))

pub end_parties-requires-clause-notes_room : goal.end_parties-requires-clause-notes_room
end_parties-requires-clause-notes_room g c =
    let at = goal.at.end_parties-requires-clause-notes_room g c in
    let was = at.After-end_queues in
    let room = others_room _ _ _ _ (run_here g at.After-retire) _ _ (ends g was) in
    let count = rest_long (parties g was) _ (rest g was) in
    omega (arith, room, count)

pub end_stores-requires : goal.end_stores-requires
end_stores-requires g c =
    let at = goal.at.end_stores-requires g c in
    let was = at.After-end_queues in
    let done = at.After-end_parties in
    let run = run_here g at.After-retire in
    let count : length (left g done) ≡ length c.args.fabric.stores.items = ap (λ (l : List NodeStore). length l) (last g done) ∙ widest g done in
    record {
      few = (let many = stores_few _ _ _ _ run in let few = nodes_few _ run.is in omega (arith, count, many, few));
      can = subst (λ (l : List NodeStore). All CanGiveBack (map pile_of l)) (sym (last g done)) (memories_can (laws_of g at.After-weighs) _ _ _ _ run _ _ (ends g was) (map pile_of c.end_parties.new.stores) (piles g done));
      notes_room =
          let room = others_room _ _ _ _ run _ _ (ends g was) in
          let long = rest_long (parties g was) _ (rest g was) in
          let used = c.end_parties.ensures.rooms in
          omega (arith, count, room, long, used);
    }

pub rounds_of-rounds-requires : goal.rounds_of-rounds-requires
rounds_of-rounds-requires g c =
    let at = goal.at.rounds_of-rounds-requires g c in
    subst AreOrdered (sym (c.deref-3.ensures.value ∙ logs g at.After-end_parties)) (ordered _ _ _ _ (run_here g at.After-retire))

pub returns : goal.returns
returns g c = λ scene is after fabric.
    let at = goal.at.returns g c in
    let was = at.After-end_queues in
    let done = at.After-end_parties in
    closed (laws_of g at.After-weighs) scene _ _ _ (run_of g at.After-retire scene is after fabric) c.end_queues.new.notes c.end_parties.new.notes c.end_stores.new.notes c.end_queues.new.stores (ends g was) (map pile_of c.end_parties.new.stores) _ (piles g done)
    (c.end_parties.ensures.notes ∙ ap (λ (l : List PlainRest). with_held c.end_queues.new.notes (flat_map rest_held l) c.end_parties.new.notes.others) (rest g was))
    (c.end_stores.ensures ∙ ap (λ (l : List NodeStore). with_held c.end_parties.new.notes (pools_held 0 (map pool_part (map pile_of l))) c.end_stores.new.notes.others) (last g done))
    (logs g done) c.into_lists-left.ensures.left c.into_lists-left.ensures.held
    (c.rounds_of-rounds.ensures ∙ ap rounds_among (c.deref-3.ensures.value ∙ logs g done))
    (c.are_finished-finished.ensures ∙ ap (list_all (λ (s : SeenPost). is_done s.plain.party)) c.deref.ensures.value)
