use Rattle.std.proofs.Common.{◌∷◌, [], sym, refl}
use Rattle.std.specs.Prelude.{codes}
use Rattle.csp_words.proofs.Rows.{to_gen, no_number}
use Rattle.csp_words.proofs.words.generated.Goals as goal

pub returns-in-Some : goal.returns-in-Some
returns-in-Some c = sym (to_gen c.in-Some.packets (codes "gen" ∷ c.args.digits.now ∷ []) c.in-Some.ensures.some)

pub returns-in-None : goal.returns-in-None
returns-in-None c = sym (no_number c.args.digits.now (c.in-None.ensures.none refl))
