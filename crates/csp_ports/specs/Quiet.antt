-- when trying the timers changes nothing
use Rattle.std.specs.Prelude.{ℕ, ◌*◌, ◌&&◌, ◌||◌, not, Bool, is_some}
use Rattle.std.specs.List.{list_any, range_with_len}
use Rattle.csp_base.specs.declared.limits.TheConstants.{SLOTS}
use Rattle.csp_conn.specs.PlainConns.{seat_of}
use Rattle.csp_ports.specs.PlainPorts.{PlainPorts, is_open, machine_at, stalled_at}
use Rattle.csp_rdp.specs.Timer.{times_out}

-- the timer of a slot, by its place, would change its connection
abbrev pub times_out_at : ℕ → PlainPorts → ℕ → Bool
times_out_at time p k = times_out time (machine_at p (seat_of k))

-- the packet of a slot, by its place, is stranded: it waits for a connection that is not open
abbrev pub is_stranded : PlainPorts → ℕ → Bool
is_stranded p k = is_some (stalled_at p (seat_of k)) && not (is_open (machine_at p (seat_of k)).state)

-- a slot, by its place, has something to do for the timers: one of both
abbrev pub is_due : ℕ → PlainPorts → ℕ → Bool
is_due time p k = times_out_at time p k || is_stranded p k

-- some slot has
abbrev pub any_due : ℕ → PlainPorts → Bool
any_due time p = list_any (is_due time p) (range_with_len 0 (p.conns.apps * SLOTS))

-- no timer would change its connection, and no packet is stranded
abbrev pub is_quiet : ℕ → PlainPorts → Bool
is_quiet time p = not (any_due time p)
