use Rattle.std.proofs.Common.{◌∷◌, [], sym, refl}
use Rattle.std.specs.Prelude.{codes}
use Rattle.csp_words.proofs.Rows.{are_apart, no_workers, to_run}
use Rattle.csp_words.proofs.words.run_by.Goals as goal

pub returns-in-Some : goal.returns-in-Some
returns-in-Some c =
    let w = c.in-Some.workers in
    let is = c.in-Some.ensures.some in
    sym (to_run w (codes "run" ∷ codes "--workers" ∷ c.args.digits.now ∷ []) (are_apart w c.args.digits.now is.0 is.1 is.2))

pub returns-in-None : goal.returns-in-None
returns-in-None c = sym (no_workers c.args.digits.now (c.in-None.ensures.none refl))
