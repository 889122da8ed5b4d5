use Rattle.std.proofs.Common.{Err, sym, ap, ◌∙◌, drop, refl, slice_get}
use Rattle.std.proofs.lemmas.Result.{err_from_is_err_and}
use Rattle.csp_route.specs.Parts.{filled, end_of}
use Rattle.csp_route.specs.Text.{names_of, target_of, iface_of, via_of, nothing_of}
use Rattle.csp_route.proofs.Rows.{row_by, at_first, stop_target, stop_iface, stop_via, stop_nothing, whole}
use Rattle.csp_route.proofs.text.row.Goals as goal

pub returns-in_err-addr-clause-value : goal.returns-in_err-addr-clause-value
returns-in_err-addr-clause-value c = let p = err_from_is_err_and c.from_residual.result c.from_residual.ensures.1 in p.1 ∙ ap Err p.2 ∙ sym (row_by (names_of c.args.ifaces.now) c.args.part.now (filled c.word.new.self) (drop 1 (filled c.word.new.self)) (drop 1 (drop 1 (filled c.word.new.self))) c.target.result (iface_of (names_of c.args.ifaces.now) (end_of c.args.part.now) (slice_get (filled c.word.new.self) 0)) (via_of (slice_get (drop 1 (filled c.word.new.self)) 0)) (nothing_of (slice_get (drop 1 (drop 1 (filled c.word.new.self))) 0)) (record { left_one = c.word.ensures.rest ∙ ap (λ ps. drop 1 (filled ps)) c.cut-words.ensures; left_two = refl; left_three = refl; first = at_first target_of c.args.part.now c.end-missing.result c.word.result c.cut-words.result c.target.result c.target.ensures.value c.end-missing.ensures c.word.ensures.word c.cut-words.ensures; second = refl; third = refl; fourth = refl }) ∙ stop_target c.target.result (iface_of (names_of c.args.ifaces.now) (end_of c.args.part.now) (slice_get (filled c.word.new.self) 0)) (via_of (slice_get (drop 1 (filled c.word.new.self)) 0)) (nothing_of (slice_get (drop 1 (drop 1 (filled c.word.new.self))) 0)) c.in_err-addr.field-0.0 c.in_err-addr.was)

pub returns-in_err-iface-clause-value : goal.returns-in_err-iface-clause-value
returns-in_err-iface-clause-value c = let p = err_from_is_err_and c.from_residual-in_err-iface.result c.from_residual-in_err-iface.ensures.1 in p.1 ∙ ap Err p.2 ∙ sym (row_by (names_of c.args.ifaces.now) c.args.part.now (filled c.word.new.self) (drop 1 (filled c.word.new.self)) (drop 1 (drop 1 (filled c.word.new.self))) c.target.result c.iface.result (via_of (slice_get (drop 1 (filled c.word.new.self)) 0)) (nothing_of (slice_get (drop 1 (drop 1 (filled c.word.new.self))) 0)) (record { left_one = c.word.ensures.rest ∙ ap (λ ps. drop 1 (filled ps)) c.cut-words.ensures; left_two = refl; left_three = refl; first = at_first target_of c.args.part.now c.end-missing.result c.word.result c.cut-words.result c.target.result c.target.ensures.value c.end-missing.ensures c.word.ensures.word c.cut-words.ensures; second = c.iface.ensures.value ∙ (λ k. iface_of (names_of c.args.ifaces.now) (c.end-missing.ensures k) (c.word-2.ensures.word k)); third = refl; fourth = refl }) ∙ stop_iface c.target.result c.iface.result (via_of (slice_get (drop 1 (filled c.word.new.self)) 0)) (nothing_of (slice_get (drop 1 (drop 1 (filled c.word.new.self))) 0)) (c.in_ok-addr.addr, c.in_ok-addr.mask) c.in_err-iface.field-0.0 c.in_ok-addr.was c.in_err-iface.was)

pub returns-in_err-via-clause-value : goal.returns-in_err-via-clause-value
returns-in_err-via-clause-value c = let p = err_from_is_err_and c.from_residual-in_err-via.result c.from_residual-in_err-via.ensures.1 in p.1 ∙ ap Err p.2 ∙ sym (row_by (names_of c.args.ifaces.now) c.args.part.now (filled c.word.new.self) (filled c.word-2.new.self) (drop 1 (filled c.word-2.new.self)) c.target.result c.iface.result c.via.result (nothing_of (slice_get (drop 1 (filled c.word-2.new.self)) 0)) (record { left_one = c.word.ensures.rest ∙ ap (λ ps. drop 1 (filled ps)) c.cut-words.ensures; left_two = c.word-2.ensures.rest; left_three = refl; first = at_first target_of c.args.part.now c.end-missing.result c.word.result c.cut-words.result c.target.result c.target.ensures.value c.end-missing.ensures c.word.ensures.word c.cut-words.ensures; second = c.iface.ensures.value ∙ (λ k. iface_of (names_of c.args.ifaces.now) (c.end-missing.ensures k) (c.word-2.ensures.word k)); third = c.via.ensures.value ∙ ap via_of c.word-3.ensures.word; fourth = refl }) ∙ stop_via c.target.result c.iface.result c.via.result (nothing_of (slice_get (drop 1 (filled c.word-2.new.self)) 0)) (c.in_ok-addr.addr, c.in_ok-addr.mask) c.in_ok-iface.iface c.in_err-via.field-0.0 c.in_ok-addr.was c.in_ok-iface.was c.in_err-via.was)

pub returns-in_err-nothing-clause-value : goal.returns-in_err-nothing-clause-value
returns-in_err-nothing-clause-value c = let p = err_from_is_err_and c.from_residual-in_err-nothing.result c.from_residual-in_err-nothing.ensures.1 in p.1 ∙ ap Err p.2 ∙ sym (row_by (names_of c.args.ifaces.now) c.args.part.now (filled c.word.new.self) (filled c.word-2.new.self) (filled c.word-3.new.self) c.target.result c.iface.result c.via.result c.nothing.result (record { left_one = c.word.ensures.rest ∙ ap (λ ps. drop 1 (filled ps)) c.cut-words.ensures; left_two = c.word-2.ensures.rest; left_three = c.word-3.ensures.rest; first = at_first target_of c.args.part.now c.end-missing.result c.word.result c.cut-words.result c.target.result c.target.ensures.value c.end-missing.ensures c.word.ensures.word c.cut-words.ensures; second = c.iface.ensures.value ∙ (λ k. iface_of (names_of c.args.ifaces.now) (c.end-missing.ensures k) (c.word-2.ensures.word k)); third = c.via.ensures.value ∙ ap via_of c.word-3.ensures.word; fourth = c.nothing.ensures.value ∙ ap nothing_of c.word-4.ensures.word }) ∙ stop_nothing c.target.result c.iface.result c.via.result c.nothing.result (c.in_ok-addr.addr, c.in_ok-addr.mask) c.in_ok-iface.iface c.in_ok-via.via c.in_err-nothing.field-0.0 c.in_ok-addr.was c.in_ok-iface.was c.in_ok-via.was c.in_err-nothing.was)

pub returns-clause-value : goal.returns-clause-value
returns-clause-value c = sym (row_by (names_of c.args.ifaces.now) c.args.part.now (filled c.word.new.self) (filled c.word-2.new.self) (filled c.word-3.new.self) c.target.result c.iface.result c.via.result c.nothing.result (record { left_one = c.word.ensures.rest ∙ ap (λ ps. drop 1 (filled ps)) c.cut-words.ensures; left_two = c.word-2.ensures.rest; left_three = c.word-3.ensures.rest; first = at_first target_of c.args.part.now c.end-missing.result c.word.result c.cut-words.result c.target.result c.target.ensures.value c.end-missing.ensures c.word.ensures.word c.cut-words.ensures; second = c.iface.ensures.value ∙ (λ k. iface_of (names_of c.args.ifaces.now) (c.end-missing.ensures k) (c.word-2.ensures.word k)); third = c.via.ensures.value ∙ ap via_of c.word-3.ensures.word; fourth = c.nothing.ensures.value ∙ ap nothing_of c.word-4.ensures.word }) ∙ whole c.target.result c.iface.result c.via.result c.nothing.result (c.in_ok-addr.addr, c.in_ok-addr.mask) c.in_ok-iface.iface c.in_ok-via.via c.in_ok-nothing.field-0 c.in_ok-addr.was c.in_ok-iface.was c.in_ok-via.was c.in_ok-nothing.was)
