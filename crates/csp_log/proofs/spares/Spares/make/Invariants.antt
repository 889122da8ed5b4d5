use Rattle.std.proofs.Common.{◌≡◌, ◌+◌, ◌≤◌}
use Rattle.csp_log.proofs.spares.Spares.make.Given as goal

abbrev pub invariant-loop : goal.invariant-loop
invariant-loop l = (l.self-inside.boxes.len ≡ l.initial.self-inside.boxes.len + l.counter) × (l.self-inside.boxes.cap ≡ l.initial.self-inside.boxes.cap) × (l.counter ≤ l.count)
