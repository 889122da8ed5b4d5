use Rattle.std.proofs.Common.{map, arith}
use Rattle.csp_scene.proofs.Fitting.{number_fits}
use Rattle.csp_scene.proofs.arguments.number_at.Goals as goal

pub overflow_cast-result : goal.overflow_cast-result
overflow_cast-result c =
    let fits = number_fits c.args.form (map (λ word. word.now) c.args.args.now) c.args.place c.requires.fits c.requires.number in
    let same = rw c.word_at.ensures at (c.in-Some.ensures.1) in
    omega (arith, fits.small, same)

pub unreachable-requires : goal.unreachable-requires
unreachable-requires c =
    let fits = number_fits c.args.form (map (λ word. word.now) c.args.args.now) c.args.place c.requires.fits c.requires.number in
    c.in-None.ensures (rw c.word_at.ensures fits.decimal, rw c.word_at.ensures (omega (arith, fits.small)))

pub returns-clause-range : goal.returns-clause-range
returns-clause-range c =
    let fits = number_fits c.args.form (map (λ word. word.now) c.args.args.now) c.args.place c.requires.fits c.requires.number in
    rw (c.in-Some.ensures.1, c.word_at.ensures) fits.range
