-- The bytes so far were taken one by one.
use Rattle.std.proofs.Common.{◌≡◌, take}
use Rattle.csp_tap.specs.Pieces.{gone_through}
use Rattle.csp_tap.proofs.piece.Piece.go_through_each.Given as goal

abbrev pub invariant-loop-byte : goal.invariant-loop-byte
invariant-loop-byte l = l.self ≡ gone_through l.initial.self (take l.byte-index l.bytes)
