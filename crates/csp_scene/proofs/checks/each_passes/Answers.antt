use Rattle.std.proofs.Common.{rules, ◌≡◌, ◌∙◌, ℕ, List, [], ◌∷◌, map, Bor, Bool, ◌&&◌, refl, ap}
use Rattle.std.specs.List.{list_all}
use Rattle.std.proofs.lemmas.Iterator.{YieldsList-from_slice}
use Rattle.std.proofs.lemmas.Iterator.Search.{all_from_yields_List}
use borrow.Author.Tests.{tests}
use Rattle.csp_scene.specs.Checks.{passes}
use Rattle.csp_scene.proofs.checks.each_passes.Goals as goal

list_all-now : (test : List ℕ → Bool) (words : List (Bor (List ℕ))) → list_all (λ word. test word.now) words ≡ list_all test (map (λ word. word.now) words)
list_all-now test [] = refl
list_all-now test (word ∷ words) = ap (λ rest. test word.now && rest) (list_all-now test words)

pub returns : goal.returns
returns c =
    let test : Bor (List ℕ) → Bool = λ word. passes c.args.check c.args.part word.now in
    all_from_yields_List test c.all.new.self _ c.all.result c.all.ensures.ran (YieldsList-from_slice c.args.words.now cc) (λ x b q k. search (rules, tests)) ∙ list_all-now (passes c.args.check c.args.part) c.args.words.now
