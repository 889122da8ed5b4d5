use Rattle.std.specs.String.{string_bytes}
use Rattle.csp_gen.proofs.Joining.{four_parts}
use Rattle.csp_gen.proofs.scenario.push_lines.Goals as goal

pub returns : goal.returns
returns c =
    four_parts c.args.packets (string_bytes c.args.out.now) (string_bytes c.push_network.new.out) (string_bytes c.push_faults.new.out) (string_bytes c.push_sender.new.out) (string_bytes c.push_taker.new.out)
    c.in_ok-push_network.ensures c.in_ok-push_faults.ensures c.in_ok-push_sender.ensures c.in_ok-push_taker.ensures
