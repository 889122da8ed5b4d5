use Rattle.std.proofs.Common.{map, ◌∙◌}
use Rattle.std.proofs.lemmas.Bool.{false≢true}
use Rattle.csp_scene.proofs.Fitting.{name_fits}
use Rattle.csp_scene.proofs.arguments.name_at.Goals as goal

pub unreachable-requires : goal.unreachable-requires
unreachable-requires c =
    let named = name_fits c.args.form (map (λ word. word.now) c.args.args.now) c.args.place c.requires.fits c.requires.name in
    false≢true (c.in-None.ensures.variant ∙ (rw c.word_at.ensures named))
