use Rattle.std.proofs.Common.{◌≡◌, ℕ, ◌+◌, drop}
use Rattle.csp_rdp_window.specs.Places.{kept_in}
use Rattle.csp_rdp_window.specs.Receiving.{missing_from}
use Rattle.csp_rdp_window.proofs.receive.leading.Given as goal

abbrev pub invariant-loop-place : goal.invariant-loop-place
invariant-loop-place l =
    (l.count ≡ l.place-index)
    × ((t : ℕ) → missing_from t (kept_in t l.places) ≡ missing_from (t + l.place-index) (kept_in (t + l.place-index) (drop l.place-index l.places)))
