use Rattle.std.proofs.Common.{rules, eqb}
use Rattle.std.proofs.lemmas.Iterator.{YieldsList-from_slice}
use Rattle.std.proofs.lemmas.Iterator.Search.{position_from_yields_List}
use Rattle.std.proofs.lemmas.List.Sums.{prefix_len-le-length}
use borrow.Author.Tests.{tests}
use Rattle.csp_scene.specs.Moves.{dot_place}
use Rattle.csp_scene.proofs.Lists.{unwrap_or-place}
use Rattle.csp_scene.proofs.step_words.dot_place.Goals as goal

pub returns-clause-value : goal.returns-clause-value
returns-clause-value c =
    let found = position_from_yields_List (λ byte. eqb byte 46) c.position.new.self _ c.position.result c.position.ensures.ran (YieldsList-from_slice c.args.word.now cc) (λ x b q k. search (rules, tests)) in
    rw (c.unwrap_or.ensures, found) (unwrap_or-place (dot_place c.args.word.now) _ (prefix_len-le-length _ c.args.word.now))
