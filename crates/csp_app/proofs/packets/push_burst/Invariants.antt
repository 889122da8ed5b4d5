use Rattle.std.proofs.Common.{◌≡◌, ◌-◌, ◌≤◌}
use Rattle.csp_app.specs.Making.{burst_bytes}
use Rattle.csp_buffer.specs.PlainBuffer.{with_picture}
use Rattle.csp_app.proofs.packets.push_burst.Given as goal

-- so many bytes are there
abbrev pub invariant-loop-done : goal.invariant-loop-done
invariant-loop-done l = (l.done ≤ l.len) × (l.buffer ≡ with_picture l.initial.buffer (record l.initial.buffer.picture { payload = burst_bytes l.done l.first }))

abbrev pub decreases-loop-done : goal.decreases-loop-done
decreases-loop-done l = l.len - l.done
