use Rattle.std.proofs.Common.{[], ◌∷◌}
use Rattle.std.specs.Prelude.{codes}
use Rattle.std.specs.String.{string_bytes}
use Rattle.csp_report.specs.Parties.{entries_at}
use Rattle.csp_report.specs.Ifaces.{entries_count, count_word, all_counts}
use Rattle.csp_report.specs.declared.ifaces.IfaceCount.{IfaceCount}
use Rattle.csp_report.proofs.Joining.{counted_line, words_more}
use Rattle.csp_report.proofs.ifaces.push_iface.Goals as goal

pub returns : goal.returns
returns c =
    let s = string_bytes c.args.out.now in
    let a = string_bytes c.push_word.new.out in
    let b = string_bytes c.push_word-2.new.out in
    counted_line count_word (λ (which : IfaceCount). entries_count which (entries_at c.args.parties.now c.args.who)) s b (string_bytes c.push_counts.new.out) (string_bytes c.end_line.new.out)
    (codes "iface") (c.args.node.now ∷ c.args.link.now ∷ []) all_counts
    (words_more s a b (codes "iface") (c.args.node.now ∷ []) c.args.link.now [] (words_more s (string_bytes c.begin_line.new.out) a (codes "iface") [] c.args.node.now [] c.in_ok-begin_line.ensures c.in_ok-push_word.ensures) c.in_ok-push_word-2.ensures)
    c.in_ok-push_counts.ensures c.in_ok-end_line.ensures
