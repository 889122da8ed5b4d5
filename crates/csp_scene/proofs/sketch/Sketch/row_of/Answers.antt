use Rattle.std.proofs.Common.{◌≡◌, Bool, List, ℕ, Ok, Err, map, subst, rules, arith}
use Rattle.std.specs.Prelude.{MatchResult}
use Rattle.std.proofs.lemmas.Grind.{common_steps}
use Rattle.csp_scene.specs.Arguments.{word_at}
use Rattle.csp_scene.specs.Naming.{is_hub_called}
use Rattle.csp_scene.specs.Judge.{row_for}
use Rattle.csp_scene.proofs.sketch.Sketch.row_of.Goals as goal

pub returns-clause-value : goal.returns-clause-value
returns-clause-value c =
    let words : List (List ℕ) = map (λ word. word.now) c.args.args.now in
    let same : c.is_hub_called-on_hub.result ≡ is_hub_called (word_at words 0) c.args.self.now.links = first_of (search rules, grind (arith, common_steps)) in
    subst (λ (on_hub : Bool). MatchResult c.row_for.result (λ row. row_for c.args.table.now c.args.in_app on_hub c.args.first.now words ≡ Ok row.now) (λ kind. row_for c.args.table.now c.args.in_app on_hub c.args.first.now words ≡ Err kind)) same c.row_for.ensures.value
