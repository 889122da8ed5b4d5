use Rattle.std.proofs.Common.{◌<◌, ◌^◌, ◌∙◌, sym, bit_xor}
use Rattle.csp_crc.specs.Bits.{number_of, message_bits}
use Rattle.csp_crc.proofs.Bytes.{left_after-blocks}
use Rattle.csp_crc.proofs.register.after_bytes.Goals as goal

pub returns : goal.returns
returns c =
    let cut = c.in-Some.ensures.cases in
    let sum = c.with_block-sum.type_inv in
    let fits : bit_xor c.after_blocks.result (number_of (message_bits c.in-Some.last.now)) < 2 ^ 128 = rw c.with_block-sum.ensures.sum at sum in
    c.byte_by_byte-3.ensures
    ∙ rw (c.byte_by_byte-2.ensures, c.to_le_bytes.ensures, c.with_block-sum.ensures.sum)
    (sym (left_after-blocks c.args.bytes.now c.as_chunks.result.1.now c.in-Some.last.now c.in-Some.front.now c.args.register c.after_blocks.result
    (sym cut.0 ∙ c.as_chunks.ensures.front) c.as_chunks.ensures.back (cut.1 ∙ c.as_chunks.ensures.front_len) c.after_blocks.ensures fits c.with_block-sum.ensures.range))
