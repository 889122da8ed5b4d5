use Rattle.std.proofs.Common.{◌≡◌, true, length, sym, ap, ◌∙◌, arith}
use Rattle.csp_node.proofs.Entries.{room_left}
use Rattle.csp_node.proofs.Rounds.{finished_plain}
use Rattle.csp_node.proofs.Staying.{as_many, between_still, fabric_still, plains_still}
use Rattle.csp_node.specs.Rounds.{plains, weight}
use Rattle.csp_scene.specs.Scene.{PlainScene}
use Rattle.csp_standing.specs.Fabrics.{network_of}
use Rattle.csp_standing.specs.Played.{are_done}
use Rattle.csp_topology.specs.Parties.{parties_of}
use Rattle.csp_node.proofs.running.make_rounds.Goals as goal

pub returns-then-are_finished-clause-run : goal.returns-then-are_finished-clause-run
returns-then-are_finished-clause-run g c =
    let until : c.scene.inside.until ≡ c.args.scene.now.until = ap (λ (p : PlainScene). p.until) c.scene.view_is in
    record {
      rounds = c.loop-round.round;
      between = c.loop-round.invariant;
      most = omega (arith, c.loop-round.auto.round-end, c.from-round-end.ensures, until);
      unfinished = λ undone. let done : are_done (plains c.loop-round.posts) ≡ true = sym (finished_plain c.loop-round.posts) ∙ sym c.are_finished.ensures ∙ c.if-are_finished.true in cc;
    }

pub weight-requires : goal.weight-requires
weight-requires g c =
    let scene = c.args.scene.now in
    let few = c.counts_parties.ensures scene c.requires.scene in
    let many : length c.loop-round.posts ≡ length (parties_of scene) = as_many scene (network_of c.args.network.now.fabric) (parties_of scene) c.loop-round.posts c.loop-round.invariant.fabric.network.parties in
    omega (arith, few, many)

pub make_room-requires : goal.make_room-requires
make_room-requires g c =
    let most = c.requires.scene.most in
    let until : c.scene.inside.until ≡ c.args.scene.now.until = ap (λ (p : PlainScene). p.until) c.scene.view_is in
    room_left c.loop-round.round c.loop-round.posts c.loop-round.invariant.short (omega (arith, c.loop-round-test.true, c.from-round-end.ensures, most, until))

pub returns-in_err-make_room-clause-fabric : goal.returns-in_err-make_room-clause-fabric
returns-in_err-make_room-clause-fabric g c = fabric_still c.args.scene.now c.args.network.now.fabric c.loop-round.posts c.make_room.new.posts c.make_room.ensures.still c.loop-round.invariant.fabric

pub make_round-requires-clause-between : goal.make_round-requires-clause-between
make_round-requires-clause-between g c lives within =
    (c.args.scene.now, c.args.limit, between_still c.args.scene.now c.args.network.now.fabric c.args.limit c.loop-round.round c.loop-round.posts c.make_room.new.posts c.make_room.ensures.still c.loop-round.invariant)

pub make_round-requires-clause-unfinished : goal.make_round-requires-clause-unfinished
make_round-requires-clause-unfinished g c lives within =
    ap are_done (plains_still c.loop-round.posts c.make_room.new.posts c.make_room.ensures.still) ∙ sym (finished_plain c.loop-round.posts) ∙ sym c.are_finished.ensures ∙ c.if-are_finished.false

pub loop-round-preserved : goal.loop-round-preserved
loop-round-preserved g c =
    let same : weight (plains c.make_room.new.posts) ≡ weight (plains c.loop-round.posts) = ap weight (plains_still c.loop-round.posts c.make_room.new.posts c.make_room.ensures.still) in
    c.make_round.ensures c.args.scene.now c.args.limit
    (between_still c.args.scene.now c.args.network.now.fabric c.args.limit c.loop-round.round c.loop-round.posts c.make_room.new.posts c.make_room.ensures.still c.loop-round.invariant)
    (omega (arith, same, c.weight.ensures, c.if-weight-limit.false))
