use Rattle.std.proofs.Common.{Option, Some, List, length, sym, subst, ap, ◌∙◌, arith}
use Rattle.std.specs.Prelude.{IsSomeAnd}
use Rattle.std.specs.Option.{option_map}
use Rattle.csp_ends.specs.Ends.{PlainNodeQueues}
use Rattle.csp_inbox.specs.Passes.{IsFree}
use Rattle.csp_opening.proofs.Given.{AreRead, are_read, iface_stays, left_of, low_and, read_of}
use Rattle.csp_opening.specs.Parted.{after_iface, iface_home}
use Rattle.csp_opening.specs.declared.homes.Lead.{Lead}
use Rattle.csp_opening.proofs.homes.part_iface.Goals.{After-index_mut}
use Rattle.csp_opening.proofs.homes.part_iface.Goals as goal

-- the passes of the node
read : (c : After-index_mut) → AreRead c.args.queues.now c.args.leads.now.items c.args.node c.index_mut.result.now
read c = are_read c.args.queues.now c.args.leads.now.items c.from-place.result c.args.node c.index_mut.result.now c.requires.of_it (low_and c.args.leads.now.items c.args.node _ c.requires.can) c.from-place.ensures c.index_mut.ensures.value

pub index-requires : goal.index-requires
index-requires c =
    let low = (read (goal.at.index-requires c).After-index_mut).low in
    let place = c.from-place.ensures in
    let seen = ap (λ (qs : List PlainNodeQueues). length qs) c.queues.view_is in
    let ok = c.queues.inside.nodes.ok.0 in
    omega (arith, place, low, seen, ok)

pub iface-requires : goal.iface-requires
iface-requires c =
    let is = read (goal.at.iface-requires c).After-index_mut in
    record {
      of_it = read_of c.args.queues.now c.queues.inside.nodes.items c.args.leads.now.items c.from-place.result c.args.node c.index.result.now c.index_mut.result.now is c.queues.view_is c.from-place.ensures c.index.ensures;
      free = subst (λ (o : Option Lead). IsSomeAnd o (λ l. IsFree l.inbox c.args.mark)) is.there c.requires.can;
    }

pub returns : goal.returns
returns c =
    let is = read (goal.at.returns c).After-index_mut in
    let left = left_of (after_iface c.args.mark) (iface_stays c.args.mark) c.args.queues.now c.args.leads.now.items c.from-place.result c.args.node c.index_mut.result.now _ is c.from-place.ensures c.iface.ensures.left in
    record { home = ap (option_map (iface_home c.args.node c.args.mark)) is.there ∙ ap Some (sym c.iface.ensures.home); leads = left.0; of_it = left.1 }
