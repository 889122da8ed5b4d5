use Rattle.std.proofs.Common.{arith}
use Rattle.std.specs.String.{string_bytes}
use Rattle.csp_happenings.specs.Happenings.{taken}
use Rattle.csp_exports.specs.Unused.{link_turns, plan_lines}
use Rattle.csp_exports.proofs.Walking.{numbered}
use Rattle.csp_exports.proofs.faults.push_links.Goals as goal

pub loop-number-preserved : goal.loop-number-preserved
loop-number-preserved c =
    numbered (λ x. plan_lines (λ end. taken end (link_turns c.args.parties.now x.0)) c.args.nodes.now x.1) c.args.links.now c.loop-number.number c.index-links-number.result (string_bytes c.loop-number.out) (string_bytes c.push_link.new.out) _
    (omega (arith, c.loop-number-test.true)) c.index-links-number.is c.in_ok-push_link.ensures c.loop-number.invariant
