use Rattle.std.proofs.Common.{◌≡◌, ◌∙◌, ℕ, ◌+◌, None, sym, ap, arith}
use Rattle.std.proofs.Math.Seq.{drop-length}
use Rattle.csp_kiss.specs.GoingOn.{Progress}
use Rattle.csp_kiss.proofs.GoingOn.{passed, met, refused, whole, used_up}
use Rattle.csp_kiss.proofs.reader.KissReader.follow.Goals as goal

pub loop-index-preserved-then-byte : goal.loop-index-preserved-then-byte
loop-index-preserved-then-byte c = record {
  same = passed _ _ _ c.args.bytes.now c.loop-index.index c.loop-index.refused (omega arith) c.if-byte.true c.go_on.ensures c.loop-index.invariant.same;
  few = omega arith;
}

pub loop-index-preserved-in_default : goal.loop-index-preserved-in_default
loop-index-preserved-in_default c = record {
  same = met _ _ _ c.args.bytes.now c.loop-index.index c.loop-index.refused None (omega arith) (omega arith) c.end_piece.ensures.state c.in_default.ensures.told c.loop-index.invariant.same;
  few = omega arith;
}

pub loop-index-preserved : goal.loop-index-preserved
loop-index-preserved c = record {
  same = refused _ _ _ c.args.bytes.now c.loop-index.index c.loop-index.refused c.in-Some.event (omega arith) (omega arith) c.end_piece.ensures.state c.in-Some.ensures.told c.in-None.ensures c.loop-index.invariant.same;
  few = omega arith;
}

-- a number of pieces that are refused before these
first_refused : (n : ℕ) → n + 0 ≡ n
first_refused n = omega arith

pub returns-in-Some-packet-clause-state : goal.returns-in-Some-packet-clause-state
returns-in-Some-packet-clause-state c =
    sym (ap (λ (p : Progress). p.reading) (whole _ _ _ c.args.bytes.now c.loop-index.index c.loop-index.refused c.in-Some.event _ (omega arith) (omega arith) c.end_piece.ensures.state c.in-Some.ensures.told c.in-Some-packet.ensures c.loop-index.invariant.same))

pub returns-in-Some-packet-clause-refused : goal.returns-in-Some-packet-clause-refused
returns-in-Some-packet-clause-refused c =
    sym (ap (λ (p : Progress). p.refused) (whole _ _ _ c.args.bytes.now c.loop-index.index c.loop-index.refused c.in-Some.event _ (omega arith) (omega arith) c.end_piece.ensures.state c.in-Some.ensures.told c.in-Some-packet.ensures c.loop-index.invariant.same) ∙ first_refused c.loop-index.refused)

pub returns-in-Some-packet-clause-packet : goal.returns-in-Some-packet-clause-packet
returns-in-Some-packet-clause-packet c =
    sym (ap (λ (p : Progress). p.packet) (whole _ _ _ c.args.bytes.now c.loop-index.index c.loop-index.refused c.in-Some.event _ (omega arith) (omega arith) c.end_piece.ensures.state c.in-Some.ensures.told c.in-Some-packet.ensures c.loop-index.invariant.same))

pub returns-in-Some-packet-clause-left : goal.returns-in-Some-packet-clause-left
returns-in-Some-packet-clause-left c =
    sym (ap (λ (p : Progress). p.left) (whole _ _ _ c.args.bytes.now c.loop-index.index c.loop-index.refused c.in-Some.event _ (omega arith) (omega arith) c.end_piece.ensures.state c.in-Some.ensures.told c.in-Some-packet.ensures c.loop-index.invariant.same))

pub returns-clause-state : goal.returns-clause-state
returns-clause-state c = sym (ap (λ (p : Progress). p.reading) (used_up _ _ c.args.bytes.now c.loop-index.index c.loop-index.refused (omega arith) c.loop-index.invariant.same))

pub returns-clause-refused : goal.returns-clause-refused
returns-clause-refused c = sym (ap (λ (p : Progress). p.refused) (used_up _ _ c.args.bytes.now c.loop-index.index c.loop-index.refused (omega arith) c.loop-index.invariant.same) ∙ first_refused c.loop-index.refused)

pub returns-clause-packet : goal.returns-clause-packet
returns-clause-packet c = sym (ap (λ (p : Progress). p.packet) (used_up _ _ c.args.bytes.now c.loop-index.index c.loop-index.refused (omega arith) c.loop-index.invariant.same))

pub returns-clause-left : goal.returns-clause-left
returns-clause-left c = drop-length c.args.bytes.now ∙ sym (ap (λ (p : Progress). p.left) (used_up _ _ c.args.bytes.now c.loop-index.index c.loop-index.refused (omega arith) c.loop-index.invariant.same))
