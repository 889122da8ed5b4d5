use Rattle.std.proofs.Common.{rules}
use Rattle.std.proofs.lemmas.Iterator.{YieldsList-from_slice}
use Rattle.std.proofs.lemmas.Iterator.Search.{position_from_yields_List}
use borrow.Author.Tests.{tests}
use Rattle.csp_scene.specs.Arguments.{is_keyword}
use Rattle.csp_scene.proofs.arguments.keyword_place.Goals as goal

pub returns : goal.returns
returns c =
    position_from_yields_List (is_keyword c.args.keyword) c.position.new.self _ c.position.result c.position.ensures.ran (YieldsList-from_slice c.args.shape.now cc) (λ x b q k. search (rules, tests))
