-- What was fed so far are the bytes before the rest.
use Rattle.std.proofs.Common.{◌≡◌, ◌++◌, ℕ, Bool, List, length}
use Rattle.csp_tap.specs.Fed.{HasFed}
use Rattle.csp_tap.proofs.tap.Tap.bytes.Given as goal

abbrev pub invariant-loop-part : goal.invariant-loop-part
invariant-loop-part l = (done : List ℕ) × (done ++ l.rest ≡ l.bytes) × ((cover : Bool) (stream : List ℕ) → HasFed cover stream l.initial.self → HasFed cover (stream ++ done) l.self)

abbrev pub decreases-loop-part : goal.decreases-loop-part
decreases-loop-part l = length l.rest
