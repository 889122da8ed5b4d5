use Rattle.std.proofs.Common.{ap, ◌∙◌}
use Rattle.csp_rdp_header.specs.Options.{checked}
use Rattle.csp_rdp_header.proofs.OptionLemmas.{judged_whole, options_read}
use Rattle.csp_rdp_header.proofs.options.Options.decode.Goals as goal

pub returns-clause-whole : goal.returns-clause-whole
returns-clause-whole c =
    judged_whole c.args.bytes.now c.check.result c.if-bytes-ne-OPTIONS_LEN.false (λ i. (c.type_inv.bytes i).fits)
    (c.check.ensures ∙ ap checked (options_read c.args.bytes.now _ _ _ _ _ _ c.read_number.ensures c.read_number-2.ensures
    c.read_number-3.ensures c.read_number-4.ensures c.read_number-5.ensures c.read_number-6.ensures))
