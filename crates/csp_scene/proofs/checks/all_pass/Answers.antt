use Rattle.std.proofs.Common.{rules, ◌∙◌, ℕ, List, Bor}
use Rattle.std.proofs.lemmas.Iterator.{YieldsList-from_slice, YieldsList-from_zip}
use Rattle.std.proofs.lemmas.Iterator.Search.{all_from_yields_List}
use borrow.Author.Tests.{tests}
use Rattle.csp_scene.specs.declared.table.Part.{Part}
use Rattle.csp_scene.specs.Checks.{passes}
use Rattle.csp_scene.proofs.Shapes.{list_all-zip_passes}
use Rattle.csp_scene.proofs.checks.all_pass.Goals as goal

pub returns : goal.returns
returns c =
    let test : Part × Bor (List ℕ) → _ = λ pair. passes c.args.check pair.0 pair.1.now in
    all_from_yields_List test c.all.new.self _ c.all.result c.all.ensures.ran (YieldsList-from_zip (YieldsList-from_slice c.args.shape.now cc) (YieldsList-from_slice c.args.args.now cc)) (λ x b q k. search (rules, tests)) ∙ list_all-zip_passes c.args.check c.args.shape.now c.args.args.now
