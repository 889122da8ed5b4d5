use Rattle.std.proofs.Common.{◌++◌, ◌∙◌, ap, sym, arith}
use Rattle.csp_crc.specs.Register.{left_after}
use Rattle.csp_crc.proofs.Bytes.{left_after-append}
use Rattle.csp_crc.proofs.Division.{crc_of-left}
use Rattle.csp_crc.proofs.crc32c_joined.Goals as goal

pub returns : goal.returns
returns c =
    let first = c.args.first.now in
    let rest = c.args.rest.now in
    let joined = c.after_bytes-2.ensures ∙ ap (λ register. left_after register rest) c.after_bytes.ensures ∙ sym (left_after-append 0xFFFFFFFF first rest) in
    omega (arith, crc_of-left (first ++ rest), joined)
