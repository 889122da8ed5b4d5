use Rattle.std.proofs.Common.{◌≡◌, rules, eqb, false, length, sym, ◌∙◌}
use Rattle.std.proofs.lemmas.Iterator.Splits.{YieldsList-from_slice_split}
use Rattle.std.proofs.lemmas.Iterator.Consumers.{map_from_collect}
use borrow.Author.Tests.{tests}
use Rattle.csp_text.specs.Cut.{without_line_feed}
use Rattle.csp_text.proofs.cut.lines.Goals as goal

pub returns : goal.returns
returns c =
    let some : eqb (length c.args.text.now) 0 ≡ false = sym c.is_empty.ensures ∙ c.if-is_empty.false in
    rw some
    (map_from_collect _ c.collect.ensures.ran (YieldsList-from_slice_split _ (λ b. eqb b 10) (without_line_feed c.args.text.now) (c.split.ensures.rest ∙ c.without_line_feed.ensures) c.split.ensures.done c.split.ensures.closure (λ x b q k. search (rules, tests))))
