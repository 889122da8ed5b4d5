use Rattle.std.proofs.Common.{arith}
use Rattle.std.specs.String.{string_bytes}
use Rattle.csp_exports.specs.Unused.{lonely_lines}
use Rattle.csp_exports.specs.declared.sockets.TheConstants.{PORTS}
use Rattle.csp_exports.proofs.Walking.{port_on, ports_done}
use Rattle.csp_exports.proofs.sockets.push_app.Goals as goal

pub loop-port-preserved : goal.loop-port-preserved
loop-port-preserved c =
    port_on (lonely_lines c.args.parties.now c.args.place c.args.number c.args.node.now c.args.app.now) c.loop-port.port PORTS (string_bytes c.loop-port.out) (string_bytes c.push_lonely.new.out) _ (omega (arith, c.loop-port-test.true)) c.in_ok-push_lonely.ensures c.loop-port.invariant

pub returns : goal.returns
returns c =
    ports_done (lonely_lines c.args.parties.now c.args.place c.args.number c.args.node.now c.args.app.now) c.loop-port.port PORTS (string_bytes c.loop-port.out) _ (omega (arith, c.loop-port-test.false)) c.loop-port.invariant
