use Rattle.std.proofs.Common.{map, sym, ◌∙◌, arith}
use Rattle.csp_scene.proofs.Fitting.{setting_fits}
use Rattle.csp_scene.proofs.arguments.setting.Goals as goal

pub overflow_cast-result : goal.overflow_cast-result
overflow_cast-result c =
    let found = sym c.keyword_place.ensures ∙ c.in_ok-place.was in
    let fits = setting_fits c.args.form c.args.keyword c.args.shape.now (map (λ word. word.now) c.args.args.now) c.in_ok-place.place c.requires.fits c.requires.setting found in
    let same = rw c.word_at.ensures at (c.in-Some.ensures.1) in
    omega (arith, fits.0.most, fits.1, same)

pub unreachable-requires : goal.unreachable-requires
unreachable-requires c =
    let found = sym c.keyword_place.ensures ∙ c.in_ok-place.was in
    let fits = setting_fits c.args.form c.args.keyword c.args.shape.now (map (λ word. word.now) c.args.args.now) c.in_ok-place.place c.requires.fits c.requires.setting found in
    c.in-None.ensures (rw c.word_at.ensures fits.0.decimal, rw c.word_at.ensures (omega (arith, fits.0.most, fits.1)))

pub returns-clause-range : goal.returns-clause-range
returns-clause-range c =
    let found = sym c.keyword_place.ensures ∙ c.in_ok-place.was in
    let fits = setting_fits c.args.form c.args.keyword c.args.shape.now (map (λ word. word.now) c.args.args.now) c.in_ok-place.place c.requires.fits c.requires.setting found in
    rw (c.in-Some.ensures.1, c.word_at.ensures) (fits.0.least, fits.0.most)
