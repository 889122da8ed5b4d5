use Rattle.std.proofs.Common.{◌≡◌, ℕ, ◌*◌, ◌<◌, ◌^◌, length, take, get_or}
use Rattle.std.specs.List.{flat_map}
use Rattle.csp_base.specs.declared.sequence.Seq.{Seq}
use Rattle.csp_rdp_header.specs.Head.{seq_bytes}
use Rattle.csp_rdp_header.proofs.numbers.eak_encode.Given as goal

abbrev pub invariant-loop-number : goal.invariant-loop-number
invariant-loop-number l =
    (l.out.items ≡ flat_map seq_bytes (take l.number-index l.list)) × (length l.out.items ≡ 2 * l.number-index)
    × ((i : ℕ) (d : Seq) → i < l.number-index → (get_or l.list i d).0 < 2 ^ 16)
