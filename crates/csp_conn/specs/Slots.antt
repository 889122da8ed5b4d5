-- What a slot has.
use Rattle.std.specs.Prelude.{ℕ, Bool, true, false, ◌==◌, ◌&&◌}
use Rattle.csp_conn.specs.declared.slot.Connection.{Connection}
use Rattle.csp_conn.specs.declared.slot.Slot.{Slot}
use Rattle.csp_conn.specs.declared.slot.Slot.TheVariants.{Free, Held, Open}

-- the connection with a port of another node, and with this own port
abbrev pub between : ℕ → ℕ → ℕ → Connection
between peer peer_port own_port = record { peer = peer; peer_port = peer_port; own_port = own_port }

-- a slot is free; one that is held, or has a connection, is in use
abbrev pub is_free : Slot → Bool
is_free Free = true
is_free Held = false
is_free (Open _) = false

-- a slot has a connection to this node, with this own port
abbrev pub has_port : ℕ → ℕ → Slot → Bool
has_port dest port Free = false
has_port dest port Held = false
has_port dest port (Open c) = c.peer == dest && c.own_port == port

-- a slot has this connection
abbrev pub is_between : Connection → Slot → Bool
is_between c Free = false
is_between c Held = false
is_between c (Open other) = other.peer == c.peer && other.peer_port == c.peer_port && other.own_port == c.own_port
