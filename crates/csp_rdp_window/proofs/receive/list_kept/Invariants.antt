use Rattle.std.proofs.Common.{◌≡◌, ◌+◌, ◌≤◌, length, map, take}
use Rattle.std.specs.Prelude.{pos}
use Rattle.csp_base.specs.Sequence.{number_of}
use Rattle.csp_rdp_window.specs.Places.{kept_in}
use Rattle.csp_rdp_window.proofs.receive.list_kept.Given as goal

abbrev pub invariant-loop-place : goal.invariant-loop-place
invariant-loop-place l =
    (l.out.items ≡ map (λ k. record { 0 = number_of l.start.0 (pos k.index) }) (kept_in (l.cur + 1) (take l.place-index l.places)))
    × (l.index ≡ l.cur + l.place-index) × (length l.out.items ≤ l.place-index)
