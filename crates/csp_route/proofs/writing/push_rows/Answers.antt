use Rattle.std.proofs.Common.{arith, subst, ◌++◌, ◌+◌, [], ◌∷◌, drop, sym, ap, ◌∙◌, rules}
use Rattle.std.specs.String.{string_bytes}
use Rattle.std.proofs.lemmas.List.Elements.{All-more}
use Rattle.csp_route.specs.Text.{names_of}
use Rattle.csp_route.specs.Routes.{entry_of}
use Rattle.csp_route.specs.Written.{joined, row_text, IsWritable}
use Rattle.csp_route.proofs.Texts.{texts, one_more, row_added}
use Rattle.csp_route.proofs.writing.push_rows.Goals as goal

pub loop-row-preserved : goal.loop-row-preserved
loop-row-preserved c = record {
  gap = search rules;
  text = ap (λ bs. bs ++ joined (44 ∷ 32 ∷ []) (texts (names_of c.args.ifaces.now) (drop (c.loop-row.row-index + 1) c.args.rows.now)))
      (c.in_ok-push_row.ensures.text ∙ ap (λ bs. bs ++ row_text (names_of c.args.ifaces.now) (entry_of c.row-item.result)) c.in_ok-push_str.ensures.bytes)
      ∙ row_added (string_bytes c.loop-row.out) c.loop-row.gap.now _ _
      ∙ ap (λ bs. string_bytes c.loop-row.out ++ bs) (sym (one_more (names_of c.args.ifaces.now) c.args.rows.now c.loop-row.row-index c.row-item.result c.loop-row.gap.now (omega arith) c.row-item.is))
      ∙ c.loop-row.invariant.text;
  writable = All-more IsWritable c.args.rows.now c.loop-row.row-index c.row-item.result (omega arith) c.loop-row.invariant.writable (subst IsWritable c.row-item.is c.in_ok-push_row.ensures.writable);
}
