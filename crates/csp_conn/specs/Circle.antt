-- The own ports in their circle: after the last comes the first.
use Rattle.std.specs.Prelude.{ℕ, ◌+◌, ◌-◌, ◌%◌, List, map}
use Rattle.std.specs.List.{range_with_len}
use Rattle.csp_base.specs.declared.ports.TheConstants.{FIRST_OWN_PORT}
use Rattle.csp_conn.specs.declared.circle.TheConstants.{OWN_PORTS}

-- the port so many steps after this one
abbrev pub port_after : ℕ → ℕ → ℕ
port_after last steps = FIRST_OWN_PORT + (last - FIRST_OWN_PORT + steps) % OWN_PORTS

-- all ports in the order of the circle: first the one after this, and this one at the end
unfoldable pub circle_after : ℕ → List ℕ
circle_after last = map (port_after last) (range_with_len 1 OWN_PORTS)
