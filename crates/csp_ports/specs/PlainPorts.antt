-- the ports of a node as plain data: its connections, the ports that are bound, and the answers owed to applications
use Rattle.std.specs.Prelude.{ℕ, ◌+◌, ◌*◌, ◌%◌, ◌==◌, Bool, true, false, Option, None, Some, List, [], ◌∷◌, ◌++◌, map, is_some, unwrap_or, get_or, slice_set, replicate, count_by, take, drop}
use Rattle.csp_arena.specs.Cells.{RegionName}
use Rattle.csp_base.specs.Seat.{seat}
use Rattle.csp_base.specs.declared.seat.Seat.{Seat}
use Rattle.csp_base.specs.declared.priority.Prio.{Prio}
use Rattle.csp_base.specs.declared.priority.Prio.TheVariants.{Normal}
use Rattle.csp_buffer.specs.Content.{Content}
use Rattle.csp_buffer.specs.PlainBuffer.{PlainBuffer}
use Rattle.csp_conn.specs.PlainConns.{PlainConns, conns_of, place_of}
use Rattle.csp_base.specs.declared.limits.TheConstants.{SLOTS, ALL_SLOTS}
use Rattle.csp_deck.specs.Regions.{nowhere}
use Rattle.csp_log.specs.declared.note.Note.{Note}
use Rattle.csp_ports.specs.declared.owed.Owed.{Owed}
use Rattle.csp_ports.specs.declared.terms.SlotState.{SlotState}
use Rattle.csp_ports.specs.declared.terms.Terms.{Terms}
use Rattle.csp_ports.specs.declared.terms.Wish.{Wish}
use Rattle.csp_ports.specs.declared.terms.Wish.TheVariants as wish
use Rattle.csp_rdp.specs.Machine.{PlainRdp, idle}
use Rattle.csp_rdp.specs.declared.answers.State.{State}
use Rattle.csp_rdp.specs.declared.answers.State.TheVariants.{Open}
use Rattle.csp_socket.specs.Bound.{Bound, bound_none}

-- the connections; what is kept of each slot besides, in the order of application, then slot; who bound which port; the answers
-- owed to applications, the oldest first; the slot with which the next look for a task begins; and how many reliable connections
-- the node has made
pub record PlainPorts : Type 0 where
  pub conns : PlainConns
  pub slots : List SlotState
  pub bound : Bound
  pub owed : List Owed
  pub next : ℕ
  pub made : ℕ

-- and with the region that all their buffers are of; in the ports themselves buffers have no region, so that what comes of a
-- packet does not depend on where the memory lies
pub record PortsAt : Type 0 where
  pub region : RegionName
  pub ports : PlainPorts

-- other ports in place of those that were, of the same region
abbrev pub with_ports_at : PortsAt → PlainPorts → PortsAt
with_ports_at p ports = record { region = p.region; ports = ports }

-- a packet in a buffer, wherever that is
abbrev pub anywhere : Content → PlainBuffer
anywhere b = record { picture = b; region = nowhere }

-- a slot before its first connection
abbrev pub fresh : Terms
fresh = record { prio = Normal; flags = 0; wish = wish.Nothing; is_down = false; ordinal = 0 }

-- and what is kept of it: it has no machine, and no packet waits there
abbrev pub untouched : SlotState
untouched = record { terms = fresh; machine = None; stalled = None }

-- the ports of so many applications before any of them has asked for something
abbrev pub ports_of : ℕ → PlainPorts
ports_of apps = record {
  conns = conns_of apps;
  slots = replicate ALL_SLOTS untouched;
  bound = bound_none;
  owed = [];
  next = 0;
  made = 0;
}

-- ---- answers

-- an answer is owed besides
abbrev pub owing : PlainPorts → ℕ → Note → PlainPorts
owing p app answer = record p { owed = p.owed ++ record { app = app; note = answer } ∷ [] }

-- how many answers wait to be pushed to an application
abbrev pub waiting : ℕ → List Owed → ℕ
waiting app owed = count_by (λ o. o.app == app) owed

-- ---- slots

-- what is kept of a slot: its terms; its machine, where it has one: a slot with a plain connection, and one that is free, has none; and the
-- packet that waits for room in the machine's window
abbrev pub state_at : PlainPorts → Seat → SlotState
state_at p seat = get_or p.slots (place_of seat) untouched

-- how a slot's packets are sent, and how far the slot has come
abbrev pub terms_at : PlainPorts → Seat → Terms
terms_at p seat = (state_at p seat).terms

-- the ports with other terms of a slot
abbrev pub with_terms : PlainPorts → Seat → Terms → PlainPorts
with_terms p seat terms = record p { slots = slice_set p.slots (place_of seat) (record (state_at p seat) { terms = terms }) }

-- the application waits for this at the slot
abbrev pub wishing : PlainPorts → Seat → Wish → PlainPorts
wishing p seat what = with_terms p seat (record (terms_at p seat) { wish = what })

-- the application has asked for the slot's end
abbrev pub is_closing : Wish → Bool
is_closing wish.End = true
is_closing wish.Ended = true
is_closing _ = false

-- the slot has a machine
abbrev pub has_machine : PlainPorts → Seat → Bool
has_machine p seat = is_some (state_at p seat).machine

-- its machine; where it has none, one that is idle
abbrev pub machine_in : SlotState → PlainRdp
machine_in s = unwrap_or s.machine idle

-- the machine of a slot's reliable connection; where the slot has none it is idle: it is closed, holds nothing and owes nothing
abbrev pub machine_at : PlainPorts → Seat → PlainRdp
machine_at p seat = machine_in (state_at p seat)

-- a reliable connection in this state is open
abbrev pub is_open : State → Bool
is_open Open = true
is_open _ = false

-- the ports with this machine of a slot, or without one
abbrev pub with_machine_or : PlainPorts → Seat → Option PlainRdp → PlainPorts
with_machine_or p seat machine = record p { slots = slice_set p.slots (place_of seat) (record (state_at p seat) { machine = machine }) }

-- the ports with another machine of a slot
abbrev pub with_machine : PlainPorts → Seat → PlainRdp → PlainPorts
with_machine p seat r = with_machine_or p seat (Some r)

-- the terms of all slots
abbrev pub terms_of : PlainPorts → List Terms
terms_of p = map (λ s. s.terms) p.slots

-- and their machines, with an idle one for each slot that has none
abbrev pub machines_of : PlainPorts → List PlainRdp
machines_of p = map machine_in p.slots

-- the packet that waits for room in the window of a slot's machine
abbrev pub stalled_at : PlainPorts → Seat → Option PlainBuffer
stalled_at p seat = (state_at p seat).stalled

-- the ports with another packet that waits for room at a slot, or none
abbrev pub with_stalled : PlainPorts → Seat → Option PlainBuffer → PlainPorts
with_stalled p seat what = record p { slots = slice_set p.slots (place_of seat) (record (state_at p seat) { stalled = what }) }

-- a packet waits at the slot
abbrev pub has_stalled : SlotState → Bool
has_stalled s = is_some s.stalled

-- at how many slots a packet waits
abbrev pub stalls : List SlotState → ℕ
stalls slots = count_by has_stalled slots

-- at how many slots of an application a packet waits: at one at most, since the application is not served meanwhile
abbrev pub stalls_of : (app : ℕ) → List SlotState → ℕ
stalls_of app slots = stalls (take SLOTS (drop (place_of (seat app 0)) slots))

-- a connection begins on a slot: its packets are sent with this priority and these flags, and the application waits for this
abbrev pub begun : PlainPorts → Seat → Prio → (flags : ℕ) → Wish → PlainPorts
begun p seat prio flags what = with_terms p seat (record (terms_at p seat) { prio = prio; flags = flags; wish = what; is_down = false })

-- ---- the node's own flows

-- the start of the n-th reliable connection of a node with this seed
abbrev pub start_of : (seed : ℕ) → ℕ → ℕ
start_of seed n = (seed + 1000 * n) % 65536
