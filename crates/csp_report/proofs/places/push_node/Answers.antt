use Rattle.std.proofs.Common.{[], ◌∷◌}
use Rattle.std.specs.Prelude.{codes}
use Rattle.std.specs.String.{string_bytes}
use Rattle.std.specs.Fmt.{decimal}
use Rattle.csp_report.specs.declared.places.PlaceKind.TheVariants as kind
use Rattle.csp_report.specs.Places.{held_in}
use Rattle.csp_report.proofs.Joining.{node_joined}
use Rattle.csp_report.proofs.places.push_node.Goals as goal

pub returns : goal.returns
returns c =
    let node = c.args.node.now in
    let held = held_in c.args.run.now c.args.place in
    node_joined (string_bytes c.args.out.now) (string_bytes c.push_stated.new.out) (string_bytes c.push_queued.new.out) (string_bytes c.push_kept.new.out) (string_bytes c.end_line.new.out)
    node.name node.addr
    (codes "buffers") (decimal node.buffers ∷ [])
    (codes "free") (decimal (held kind.Pool) ∷ codes "inbox" ∷ decimal (held kind.Inbox) ∷ codes "lane" ∷ decimal (held kind.Lane) ∷ [])
    (codes "router") (decimal (held kind.Router) ∷ codes "iface" ∷ decimal (held kind.Iface) ∷ codes "app" ∷ decimal (held kind.App) ∷ [])
    c.in_ok-push_stated.ensures c.in_ok-push_queued.ensures c.in_ok-push_kept.ensures c.in_ok-end_line.ensures
