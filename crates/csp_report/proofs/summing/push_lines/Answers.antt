use Rattle.std.proofs.Common.{List, ℕ, ◌∷◌, [], ◌++◌, map, ap, ◌∙◌}
use Rattle.std.specs.Prelude.{codes}
use Rattle.std.specs.Fmt.{decimal}
use Rattle.csp_report.specs.Summary.{joined}
use Rattle.csp_report.proofs.SummaryLemmas.{parts_joined}
use Rattle.csp_report.proofs.summing.push_lines.Goals as goal

pub returns : goal.returns
returns c =
    let lines : List (List ℕ) = map (λ line. line.now) c.args.lines.now in
    parts_joined c.args.packets lines (map (λ line. line.now) c.last_two.result.now)
    c.args.out.now.items c.push_count.new.out.items c.push_those.new.out.items c.push_those-2.new.out.items c.push_count-2.new.out.items c.push_all.new.out.items
    (c.in_ok-push_count.ensures ∙ ap (λ n. c.args.out.now.items ++ joined ((codes "csp-gen " ++ decimal n) ∷ [])) c.from.ensures)
    c.in_ok-push_those.ensures c.in_ok-push_those-2.ensures
    (c.in_ok-push_count-2.ensures ∙ ap (λ n. c.push_those-2.new.out.items ++ joined ((codes "took " ++ decimal n) ∷ [])) c.count_those-count.ensures)
    c.in_ok-push_all.ensures c.last_two.ensures
