use Rattle.std.proofs.Common.{◌≡◌, length, arith}
use Rattle.std.proofs.Math.Seq.{take-length}
use Rattle.csp_rdp_header.proofs.NumberLemmas.{numbers_read, written_well_formed}
use Rattle.csp_rdp_header.proofs.numbers.eak_encode.Goals as goal

pub returns-clause-well_formed : goal.returns-clause-well_formed
returns-clause-well_formed c =
    let all : c.loop-number.number-index ≡ length c.args.list.now = omega arith in
    rw (c.loop-number.invariant.0, all, take-length) (written_well_formed c.args.list.now c.requires)

pub returns-clause-back : goal.returns-clause-back
returns-clause-back c =
    let all : c.loop-number.number-index ≡ length c.args.list.now = omega arith in
    rw (c.loop-number.invariant.0, all, take-length) (numbers_read c.args.list.now (λ i d h. c.loop-number.invariant.2 i d (omega arith)))
