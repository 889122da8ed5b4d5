use Rattle.std.proofs.Common.{◌<◌, ◌^◌, arith}
use Rattle.csp_node.proofs.Staying.{all_each, all_of_it}
use Rattle.csp_posts.specs.Ready.{CanTurn}
use Rattle.csp_standing.specs.Fabrics.{network_of}
use Rattle.csp_topology.specs.Parties.{parties_of}
use Rattle.csp_node.proofs.running.make_round.Goals as goal

pub meet-requires : goal.meet-requires
meet-requires g c =
    let scene = c.requires.between.0 in
    let f = c.args.network.now.fabric in
    record { of_it = all_of_it scene (network_of f) (parties_of scene) c.args.posts.now c.requires.between.2.fabric.network.parties }

pub rounds-requires-clause-ready : goal.rounds-requires-clause-ready
rounds-requires-clause-ready g c lives within k d less =
    let scene = c.requires.between.0 in
    let f = c.args.network.now.fabric in
    let soon : c.args.now < 2 ^ 62 = omega (arith, c.requires.early) in
    all_each (CanTurn f.queues c.args.now 8) c.meet.new.posts (c.meets_ready.ensures scene f c.requires.between.1 c.args.now c.args.posts.now c.meet.new.posts c.requires.between.2 soon c.requires.room c.meet.ensures.heard) k d less

pub returns : goal.returns
returns g c = λ scene limit between few.
    let soon : c.args.now < 2 ^ 62 = omega (arith, c.requires.early) in
    c.makes_rounds.ensures scene c.args.network.now.fabric limit c.args.now c.args.posts.now c.meet.new.posts c.rounds.new.posts between c.requires.unfinished few soon c.meet.ensures.heard (c.meet.ensures.books between.books) (c.meet.ensures.met between.books) c.rounds.ensures.done
