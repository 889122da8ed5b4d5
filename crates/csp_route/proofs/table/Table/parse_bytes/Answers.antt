use Rattle.std.proofs.Common.{◌≡◌, Ok, subst, length, Err, sym, ap, ◌∙◌}
use Rattle.std.proofs.lemmas.Result.{err_from_is_err_and}
use Rattle.csp_route.specs.Text.{names_of, parsed}
use Rattle.csp_route.proofs.Puts.{added_more, added_stop, added_end, parsed_rows}
use Rattle.csp_route.specs.Routes.{IsWithin}
use Rattle.csp_route.proofs.Withins.{parsed_known, empty_within}
use Rattle.csp_route.proofs.table.Table.parse_bytes.Goals as goal

pub loop-part-preserved : goal.loop-part-preserved
loop-part-preserved c =
    added_more (names_of c.args.ifaces.now) c.loop-part.table c.read_row.new.table c.in-Some.part c.next.new.self c.loop-part.rows c.in-Some.ensures c.in_ok-read_row.ensures.ok
    ∙ c.loop-part.invariant

pub returns-in_err-read_row-clause-value : goal.returns-in_err-read_row-clause-value
returns-in_err-read_row-clause-value c =
    let p = err_from_is_err_and c.from_residual.result c.from_residual.ensures.1 in
    p.1 ∙ ap Err p.2 ∙ sym (parsed_rows (names_of c.args.ifaces.now) c.args.text.now (sym c.is_blank.ensures ∙ c.if-is_blank.false)
    ∙ sym c.loop-part.invariant
    ∙ added_stop (names_of c.args.ifaces.now) c.loop-part.table c.in-Some.part c.next.new.self c.loop-part.rows c.in_err-read_row.field-0.0 c.in-Some.ensures c.in_err-read_row.ensures.err)

value : (c : goal.In_default) → Ok c.loop-part.table ≡ parsed (names_of c.args.ifaces.now) c.args.text.now
value c = sym (parsed_rows (names_of c.args.ifaces.now) c.args.text.now (sym c.is_blank.ensures ∙ c.if-is_blank.false)
    ∙ sym c.loop-part.invariant
    ∙ added_end (names_of c.args.ifaces.now) c.loop-part.table c.loop-part.rows c.in_default.ensures.0)

pub returns-clause-value : goal.returns-clause-value
returns-clause-value c = value c

pub returns-clause-known : goal.returns-clause-known
returns-clause-known c = parsed_known c.args.ifaces.now c.args.text.now (Ok c.loop-part.table) (value c)

pub returns-then-is_blank-clause-known : goal.returns-then-is_blank-clause-known
returns-then-is_blank-clause-known c = subst (IsWithin (length c.args.ifaces.now)) (sym c.new-table.ensures) (empty_within (length c.args.ifaces.now))
