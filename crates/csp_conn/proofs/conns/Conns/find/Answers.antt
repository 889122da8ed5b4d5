use Rattle.std.proofs.Common.{◌≡◌, ◌+◌, ◌*◌, ◌/◌, ◌%◌, ◌∙◌, sym, arith}
use Rattle.std.proofs.lemmas.List.Quantifiers.{position-Some}
use Rattle.csp_conn.specs.declared.slot.Slot.TheVariants.{Free}
use Rattle.csp_conn.specs.Slots.{is_between}
use Rattle.csp_conn.proofs.Found.{is_between-open}
use Rattle.csp_conn.proofs.conns.Conns.find.Goals as goal

pub returns-in-Some-clause-connection : goal.returns-in-Some-clause-connection
returns-in-Some-clause-connection c =
    let connection = c.args.connection in
    let seen = position-Some (is_between connection) c.as_slice.result.now c.in-Some.place Free (sym c.place_between.ensures.value ∙ c.in-Some.is) in
    let place : c.in-Some.place / 4 * 4 + c.in-Some.place % 4 ≡ c.in-Some.place = omega arith in
    rw (← c.self.view_is, place, ← c.as_slice.ensures.value) (is_between-open connection _ seen.1)
