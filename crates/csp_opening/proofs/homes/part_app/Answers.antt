use Rattle.std.proofs.Common.{Some, List, length, sym, ap, ◌∙◌, arith}
use Rattle.std.specs.Option.{option_map}
use Rattle.csp_ends.specs.Ends.{PlainNodeQueues}
use Rattle.csp_opening.proofs.Given.{AreRead, app_stays, are_read, left_of, low_of, read_of}
use Rattle.csp_opening.proofs.homes.part_app.Goals.{After-index_mut}
use Rattle.csp_opening.specs.Parted.{after_app, app_home}
use Rattle.csp_opening.proofs.homes.part_app.Goals as goal

-- the passes of the node
read : (c : After-index_mut) → AreRead c.args.queues.now c.args.leads.now.items c.args.node c.index_mut.result.now
read c = are_read c.args.queues.now c.args.leads.now.items c.from-place.result c.args.node c.index_mut.result.now c.requires.of_it (low_of c.args.leads.now.items c.args.node c.requires.can) c.from-place.ensures c.index_mut.ensures.value

pub index-requires : goal.index-requires
index-requires c =
    let low = (read (goal.at.index-requires c).After-index_mut).low in
    let place = c.from-place.ensures in
    let seen = ap (λ (qs : List PlainNodeQueues). length qs) c.queues.view_is in
    let ok = c.queues.inside.nodes.ok.0 in
    omega (arith, place, low, seen, ok)

pub app-requires : goal.app-requires
app-requires c =
    let is = read (goal.at.app-requires c).After-index_mut in
    record { of_it = read_of c.args.queues.now c.queues.inside.nodes.items c.args.leads.now.items c.from-place.result c.args.node c.index.result.now c.index_mut.result.now is c.queues.view_is c.from-place.ensures c.index.ensures }

pub returns : goal.returns
returns c =
    let is = read (goal.at.returns c).After-index_mut in
    let left = left_of after_app app_stays c.args.queues.now c.args.leads.now.items c.from-place.result c.args.node c.index_mut.result.now _ is c.from-place.ensures c.app.ensures.left in
    record { home = ap (option_map (app_home c.args.node)) is.there ∙ ap Some (sym c.app.ensures.home); leads = left.0; of_it = left.1 }
