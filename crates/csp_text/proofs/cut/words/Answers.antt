use Rattle.std.proofs.Common.{rules, eqb, not, length}
use Rattle.std.proofs.lemmas.Iterator.Splits.{YieldsList-from_slice_split}
use Rattle.std.proofs.lemmas.Iterator.Consumers.{map_from_collect, YieldsList-from_filter}
use borrow.Author.Tests.{tests}
use Rattle.csp_text.proofs.cut.words.Goals as goal

pub returns : goal.returns
returns c =
    map_from_collect _ c.collect.ensures.ran
    (YieldsList-from_filter _ (λ word. not (eqb (length word) 0))
    (YieldsList-from_slice_split _ (λ b. eqb b 32) c.args.line.now (cc) (cc) (cc) (λ x b q k. search (rules, tests)))
    c.filter.ensures.closure (λ x b q k. search (rules, tests)))
