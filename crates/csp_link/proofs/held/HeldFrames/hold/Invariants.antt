use Rattle.std.proofs.Common.{◌≡◌, ◌+◌, ◌++◌, length}
use Rattle.std.specs.Prelude.{replicate}
use Rattle.csp_link.specs.Copies.{held_until}
use Rattle.csp_link.proofs.held.HeldFrames.hold.Given as goal

abbrev pub invariant-loop : goal.invariant-loop
invariant-loop l = (l.self ≡ l.initial.self ++ replicate l.counter (held_until l.due l.frame)) × (length l.self ≡ length l.initial.self + l.counter) × (l.initial.spares.boxes ≡ l.spares.boxes + l.counter) × (l.spares.room ≡ l.initial.spares.room)
