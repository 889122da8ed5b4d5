use Rattle.std.proofs.Common.{◌≡◌, ap, sym, ◌∙◌, arith}
use Rattle.csp_base.specs.declared.limits.TheConstants.{MAX_PAYLOAD}
use Rattle.csp_kiss.specs.declared.event.KissEvent.TheVariants.{BadCrc}
use Rattle.csp_kiss.specs.Stream.{judged, compared}
use Rattle.csp_kiss.proofs.Public.{judged-long, judged-short, judged-parts, compared-right, compared-wrong}
use Rattle.csp_tap.proofs.piece.judge.Goals as goal

pub returns-then-plain : goal.returns-then-plain
returns-then-plain c = sym (judged-long c.args.cover MAX_PAYLOAD c.args.plain.now (omega (arith, c.if-plain.true)))

pub returns-in_default : goal.returns-in_default
returns-in_default c = sym (judged-short c.args.cover MAX_PAYLOAD c.args.plain.now (omega (arith, c.in_default.ensures.cases)))

pub returns-in_default-split_first_chunk : goal.returns-in_default-split_first_chunk
returns-in_default-split_first_chunk c =
    sym (judged-short c.args.cover MAX_PAYLOAD c.args.plain.now (omega (arith, c.in-Some.ensures.cases.2, (c.in_default-split_first_chunk).ensures.cases)))

abbrev parts : (c : goal.Else-found-wanted) → judged c.args.cover MAX_PAYLOAD c.args.plain.now ≡ compared c.args.cover c.from_be_bytes-header.result (c.in-Some-split_first_chunk).payload.now c.from_be_bytes-found.result
parts c =
    let last = c.in-Some.ensures.cases in
    let first = (c.in-Some-split_first_chunk).ensures.cases in
    judged-parts c.args.cover MAX_PAYLOAD c.args.plain.now c.in-Some.front.now (c.in-Some-split_first_chunk).first.now (c.in-Some-split_first_chunk).payload.now c.in-Some.last.now
    c.from_be_bytes-header.result c.from_be_bytes-found.result
    last.0 last.1 last.2 first.0 first.1 first.2 (omega (arith, c.if-plain.false)) c.from_be_bytes-header.ensures c.from_be_bytes-found.ensures

pub returns-then-found-wanted : goal.returns-then-found-wanted
returns-then-found-wanted c =
    let last = c.in-Some.ensures.cases in
    let first = (c.in-Some-split_first_chunk).ensures.cases in
    sym (compared-right c.args.cover c.from_be_bytes-header.result (c.in-Some-split_first_chunk).payload.now c.from_be_bytes-found.result (c.if-found-wanted.true ∙ c.checksum-wanted.ensures))
    ∙ sym (judged-parts c.args.cover MAX_PAYLOAD c.args.plain.now c.in-Some.front.now (c.in-Some-split_first_chunk).first.now (c.in-Some-split_first_chunk).payload.now c.in-Some.last.now
    c.from_be_bytes-header.result c.from_be_bytes-found.result
    last.0 last.1 last.2 first.0 first.1 first.2 (omega (arith, c.if-plain.false)) c.from_be_bytes-header.ensures c.from_be_bytes-found.ensures)

pub returns-else-found-wanted : goal.returns-else-found-wanted
returns-else-found-wanted c =
    let wanted = c.checksum-wanted.ensures in
    let differ = rw wanted at c.if-found-wanted.false in
    ap (BadCrc c.from_be_bytes-found.result) wanted
    ∙ sym (compared-wrong c.args.cover c.from_be_bytes-header.result (c.in-Some-split_first_chunk).payload.now c.from_be_bytes-found.result differ)
    ∙ sym (parts c)
