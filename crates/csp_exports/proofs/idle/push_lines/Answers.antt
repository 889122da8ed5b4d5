use Rattle.std.specs.String.{string_bytes}
use Rattle.csp_exports.specs.Unused.{fault_lines, node_lines, socket_lines, title_line}
use Rattle.csp_exports.proofs.Walking.{in_turn}
use Rattle.csp_exports.proofs.idle.push_lines.Goals as goal

pub returns : goal.returns
returns c =
    in_turn title_line (fault_lines c.args.nodes.now c.args.parties.now c.args.links.now) (node_lines c.args.parties.now c.args.nodes.now) (socket_lines c.args.parties.now c.args.nodes.now)
    (string_bytes c.args.out.now) (string_bytes c.push_title.new.out) (string_bytes c.push_links.new.out) (string_bytes c.push_nodes.new.out) (string_bytes c.push_sockets.new.out)
    c.in_ok-push_title.ensures c.in_ok-push_links.ensures c.in_ok-push_nodes.ensures c.in_ok-push_sockets.ensures
