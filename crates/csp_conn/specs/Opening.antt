-- Which port a connection has, and in which slot it stands.
use Rattle.std.specs.Prelude.{ℕ, Bool, false, not, Option, None, Some, find}
use Rattle.std.specs.List.{list_any, position}
use Rattle.std.specs.Option.{option_map}
use Rattle.csp_base.specs.Seat.{seat}
use Rattle.csp_base.specs.declared.seat.Seat.{Seat}
use Rattle.csp_conn.specs.declared.slot.Connection.{Connection}
use Rattle.csp_conn.specs.declared.slot.Slot.TheVariants.{Open}
use Rattle.csp_conn.specs.Circle.{circle_after}
use Rattle.csp_conn.specs.PlainConns.{PlainConns, seat_of, slots_of, with_slot}
use Rattle.csp_conn.specs.Slots.{has_port, is_between, is_free}

-- a connection in use to this node has this own port
abbrev pub is_taken : PlainConns → ℕ → ℕ → Bool
is_taken c dest port = list_any (has_port dest port) c.slots

-- the port that is asked for is taken
abbrev pub is_refused : PlainConns → ℕ → Option ℕ → Bool
is_refused c dest None = false
is_refused c dest (Some port) = is_taken c dest port

-- the first port after the one chosen last, in the circle, that is not taken
abbrev pub next_port : PlainConns → ℕ → Option ℕ
next_port c dest = find (λ port. not (is_taken c dest port)) (circle_after c.last)

-- the own port of a connection: the one that is asked for, or else the next
abbrev pub own_port_of : PlainConns → ℕ → Option ℕ → Option ℕ
own_port_of c dest None = next_port c dest
own_port_of c dest (Some port) = Some port

-- the circle goes on from a port that was chosen; one that was asked for leaves it
abbrev pub gone_on : PlainConns → ℕ → Option ℕ → PlainConns
gone_on c own None = record c { last = own }
gone_on c own (Some port) = c

-- with a connection that an application opened in a slot
abbrev pub opened : PlainConns → Seat → Connection → Option ℕ → PlainConns
opened c s connection from = gone_on (with_slot c s (Open connection)) connection.own_port from

-- the least free slot of an application
abbrev pub first_free : PlainConns → (app : ℕ) → Option ℕ
first_free c app = position is_free (slots_of c app)

-- the seat of that slot
abbrev pub free_seat : PlainConns → (app : ℕ) → Option Seat
free_seat c app = option_map (seat app) (first_free c app)

-- the seat that has this connection: the first in the order of application, then slot
abbrev pub found : PlainConns → Connection → Option Seat
found c connection = option_map seat_of (position (is_between connection) c.slots)
