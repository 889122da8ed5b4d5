use Rattle.std.proofs.Common.{ap, ◌∙◌, sym}
use Rattle.std.specs.List.{flat_map}
use Rattle.csp_rdp_header.specs.Head.{seq_bytes}
use Rattle.csp_rdp_header.proofs.NumberLemmas.{even-length, numbers_written}
use Rattle.csp_rdp_header.proofs.numbers.eak_decode.Goals as goal

pub returns-clause-whole : goal.returns-clause-whole
returns-clause-whole c =
    numbers_written c.args.bytes.now (even-length c.args.bytes.now (sym c.is_malformed.ensures ∙ c.if-is_malformed.false)) (λ i. (c.type_inv.bytes i).fits) ∙ ap (λ list. flat_map seq_bytes list) (sym c.read_pairs.ensures.value)
