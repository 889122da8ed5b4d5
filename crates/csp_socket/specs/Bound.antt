-- The bound ports of a node.
use Rattle.std.specs.Prelude.{ℕ, List, Option, None, Some, replicate, slice_set, get_or}
use Rattle.csp_socket.specs.declared.sockets.TheConstants.{BINDABLE_PORTS}

-- for each port that can be bound, from 0 up: the application that bound it and the flags that a packet needs, or none
abbrev pub Bound : Type 0
Bound = List (Option (ℕ × ℕ))

-- no port is bound
abbrev pub bound_none : Bound
bound_none = replicate BINDABLE_PORTS None

-- who bound a port; a port that cannot be bound is nobody's
abbrev pub owner_of : Bound → ℕ → Option (ℕ × ℕ)
owner_of bound port = get_or bound port None

-- the ports, this one bound by an application, where a packet needs these flags
abbrev pub with_owner : Bound → ℕ → ℕ → ℕ → Bound
with_owner bound port app need = slice_set bound port (Some (app, need))
