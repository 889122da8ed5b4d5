use Rattle.std.proofs.Common.{◌∙◌, arith}
use Rattle.csp_crc.proofs.Checked.{checked-parts, payload_of-short, payload_of-right, payload_of-wrong}
use Rattle.csp_crc.proofs.check.Goals as goal

pub returns-then-found-wanted-clause-ok : goal.returns-then-found-wanted-clause-ok
returns-then-found-wanted-clause-ok c =
    checked-parts c.args.bytes.now c.in-Some.payload.now c.in-Some.last.now c.from_be_bytes-found.result
    c.in-Some.ensures.cases.2 c.in-Some.ensures.cases.0 c.in-Some.ensures.cases.1 (λ i. (c.type_inv.bytes i).fits)
    c.from_be_bytes-found.ensures (c.if-found-wanted.true ∙ c.crc32c-wanted.ensures)

pub returns-in_default-clause-test : goal.returns-in_default-clause-test
returns-in_default-clause-test c = payload_of-short c.args.bytes.now c.in_default.ensures.cases

pub returns-then-found-wanted-clause-test : goal.returns-then-found-wanted-clause-test
returns-then-found-wanted-clause-test c =
    payload_of-right c.args.bytes.now c.in-Some.payload.now c.in-Some.last.now c.from_be_bytes-found.result
    (omega (arith, c.in-Some.ensures.cases.2)) c.in-Some.ensures.cases.0 c.in-Some.ensures.cases.1
    c.from_be_bytes-found.ensures (c.if-found-wanted.true ∙ c.crc32c-wanted.ensures)

pub returns-else-found-wanted-clause-test : goal.returns-else-found-wanted-clause-test
returns-else-found-wanted-clause-test c =
    payload_of-wrong c.args.bytes.now c.in-Some.payload.now c.in-Some.last.now c.from_be_bytes-found.result c.crc32c-wanted.result
    (omega (arith, c.in-Some.ensures.cases.2)) c.in-Some.ensures.cases.0 c.in-Some.ensures.cases.1
    c.from_be_bytes-found.ensures c.crc32c-wanted.ensures c.if-found-wanted.false
