use Rattle.std.proofs.Common.{refl}
use Rattle.csp_ports.proofs.Letting.{admitted_housed}
use Rattle.csp_ports.proofs.steps.admit_open.Goals as goal

pub returns-clause-housed : goal.returns-clause-housed
returns-clause-housed c =
    let name = c.args.buffer.region in
    let b = c.args.buffer in
    let r = c.args.machine.now in
    admitted_housed name b r c.admit-answer.new.self c.args.now c.admit-answer.result c.admit-answer.ensures.ok c.admit-answer.ensures.err c.requires.housed
    (c.keeps_region.ensures.admitted name b c.args.now r c.requires.housed.region refl)
    (c.keeps_whole.ensures.admitted b c.args.now r c.requires.housed.whole)
    (c.keeps_rest.ensures.admitted b c.args.now r c.requires.housed.rested)
    c.state-state.ensures.few
