use Rattle.std.proofs.Common.{◌<◌, ◌≤◌, ap, sym, ◌∙◌, arith}
use Rattle.csp_world.specs.declared.limits.TheConstants.{MAX_ENTRIES}
use Rattle.csp_world.specs.Schedule.{run_moves}
use Rattle.csp_world.specs.World.{weight}
use Rattle.csp_world.proofs.RunLemmas.{moves_finished, moves_limit, moves_over}
use Rattle.csp_world.proofs.schedule.run_moves.Goals as goal

pub returns-then-finished-clause-run : goal.returns-then-finished-clause-run
returns-then-finished-clause-run c =
    ap run_moves (sym c.in_ok-make_moves.ensures.moves) ∙ moves_finished c.make_moves.new.world.plain (sym c.finished.ensures ∙ c.if-finished.true)

pub returns-then-entries-ge-MAX_ENTRIES-clause-entries : goal.returns-then-entries-ge-MAX_ENTRIES-clause-entries
returns-then-entries-ge-MAX_ENTRIES-clause-entries c = λ _.
    let full : MAX_ENTRIES ≤ weight c.make_moves.new.world.plain = omega (arith, c.entries.ensures, c.if-entries-ge-MAX_ENTRIES.true) in
    ap run_moves (sym c.in_ok-make_moves.ensures.moves) ∙ moves_limit c.make_moves.new.world.plain (sym c.finished.ensures ∙ c.if-finished.false) full

pub returns-clause-run : goal.returns-clause-run
returns-clause-run c =
    let few : weight c.make_moves.new.world.plain < MAX_ENTRIES = omega (arith, c.entries.ensures, c.if-entries-ge-MAX_ENTRIES.false) in
    ap run_moves (sym c.in_ok-make_moves.ensures.moves) ∙ moves_over c.make_moves.new.world.plain (sym c.finished.ensures ∙ c.if-finished.false) few
