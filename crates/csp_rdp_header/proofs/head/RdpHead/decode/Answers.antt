use Rattle.csp_rdp_header.proofs.HeadLemmas.{head_written}
use Rattle.csp_rdp_header.proofs.head.RdpHead.decode.Goals as goal

pub returns-clause-whole : goal.returns-clause-whole
returns-clause-whole c =
    head_written c.args.payload.now c.in-Some.before.now c.in-Some.bytes.now c.from_be_bytes.result c.from_be_bytes-2.result
    c.in-Some.ensures.cases.0 c.in-Some.ensures.cases.1 c.in-Some.ensures.cases.2 (λ i. (c.type_inv.payload i).fits)
    c.from_be_bytes.ensures c.from_be_bytes-2.ensures
