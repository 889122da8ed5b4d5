use Rattle.std.proofs.Common.{◌≡◌, ◌∙◌, sym, refl, arith, drop, [], bit_xor}
use Rattle.std.proofs.Math.ListN.{drop_of_length-le}
use Rattle.std.proofs.lemmas.Nat.{and_mask}
use Rattle.csp_crc.proofs.Bytes.{left_after-step, left_after-end}
use Rattle.csp_crc.proofs.register.byte_by_byte.Goals as goal

pub loop-byte-preserved : goal.loop-byte-preserved
loop-byte-preserved c =
    c.loop-byte.invariant
    ∙ left_after-step c.args.bytes.now c.loop-byte.byte-index c.loop-byte.register _ c.loop-byte-test.true (c.type_inv.bytes c.loop-byte.byte-index).fits
    (rw (c.after_byte.ensures, and_mask (bit_xor c.loop-byte.register c.from.result) 8, c.from.ensures) refl)

pub returns : goal.returns
returns c =
    let none : drop c.loop-byte.byte-index c.args.bytes.now ≡ [] = drop_of_length-le c.args.bytes.now (omega arith) in
    sym (c.loop-byte.invariant ∙ rw none (left_after-end c.loop-byte.register))
