-- what holds of a node's ports at every time
use Rattle.std.specs.Prelude.{◌≡◌, ℕ, ◌+◌, ◌-◌, ◌<◌, ◌≤◌, List, [], length, map, IfSome, sum_by, take, drop, Bool, true, false, Result, Ok, Err}
use Rattle.std.specs.List.{All}
use Rattle.std.specs.Option.{option_map}
use Rattle.std.specs.VecDeque.{deque_capacity}
use Rattle.csp_arena.specs.Cells.{RegionName}
use Rattle.csp_base.specs.Seat.{seat}
use Rattle.csp_base.specs.declared.limits.TheConstants.{MAX_PAYLOAD, MAX_APPS, SLOTS, ALL_SLOTS}
use Rattle.csp_conn.specs.PlainConns.{place_of}
use Rattle.csp_deck.specs.Carried.{IsReply}
use Rattle.csp_ports.specs.PlainPorts.{PlainPorts, PortsAt, anywhere, stalls_of, terms_of, waiting}
use Rattle.csp_ports.specs.declared.owed.Owed.{Owed}
use Rattle.csp_ports.specs.declared.ports.Ports.TheInside.{Inside}
use Rattle.csp_ports.specs.declared.ports.TheConstants.{MAX_OWED, ANSWERS}
use Rattle.csp_ports.specs.declared.terms.SlotState.{SlotState}
use Rattle.csp_ports.specs.declared.terms.Terms.{Terms}
use Rattle.csp_ports.specs.declared.terms.Wish.{Wish}
use Rattle.csp_ports.specs.declared.terms.Wish.TheVariants as wish
use Rattle.csp_buffer.specs.PlainBuffer.{PlainBuffer}
use Rattle.csp_deck.specs.Keeping.{PlainPile}
use Rattle.csp_deck.specs.Regions.{nowhere}
use Rattle.csp_ports.specs.Held.{held}
use Rattle.csp_rdp.specs.Balance.{IsWhole}
use Rattle.csp_rdp.specs.Holding.{rdp_numbers, unneeded}
use Rattle.csp_rdp_window.specs.declared.receive.TheConstants.{RECEIVE_PLACES}
use Rattle.csp_rdp_window.specs.declared.send.TheConstants.{SEND_PLACES}
use Rattle.csp_rdp.specs.Machine.{PlainRdp}
use Rattle.csp_rdp.specs.Placed.{placed}
use Rattle.csp_rdp.specs.Regions.{AreAllIn}
use Rattle.csp_socket.specs.Bound.{owner_of}

-- what is kept of a slot, as contracts see it: buffers have no region
abbrev pub plain_slot : SlotState → SlotState
plain_slot s = record s { machine = option_map (placed nowhere) s.machine; stalled = option_map (λ b. anywhere b.picture) s.stalled }

-- a node's ports as contracts see them
abbrev pub plain_ports : Inside → PlainPorts
plain_ports p = record {
  conns = p.conns;
  slots = map plain_slot p.slots.items;
  bound = p.sockets;
  owed = p.owed.items;
  next = p.next;
  made = p.made;
}

-- the fields of a node's ports as contracts see them
abbrev pub ports_at : Inside → PortsAt
ports_at p = record { region = p.token.name; ports = plain_ports p }

-- an answer is one that the lane to an application that there is carries
pub record IsOwed (apps : ℕ) (o : Owed) : Type 0 where
  pub app : o.app < apps
  pub reply : IsReply o.note

-- the answers that are still to come at a slot: one, where its application waits for a connection or for an end
abbrev pub wished : Wish → ℕ
wished wish.Connection = 1
wished wish.End = 1
wished _ = 0

-- how many answers are still to come for the slots of an application
abbrev pub wishes : (app : ℕ) → List Terms → ℕ
wishes app terms = sum_by (λ t. wished t.wish) (take SLOTS (drop (place_of (seat app 0)) terms))

-- the machine of a slot: its buffers are of the region, it holds none that it does not need, and no more than its windows have places
pub record IsHoused (name : RegionName) (r : PlainRdp) : Type 0 where
  pub region : AreAllIn name r
  pub whole : IsWhole r
  pub rested : unneeded r ≡ []
  pub few : length (rdp_numbers r) ≤ SEND_PLACES + RECEIVE_PLACES

-- a buffer is admitted where there is room, and else handed back: then this holds, or that
abbrev pub Admits : (room : Bool) → Result Unit PlainBuffer → PlainBuffer → (is_admitted is_same : Type 0) → Type 0
Admits true answer b is_admitted is_same = (answer ≡ Ok tt) × is_admitted
Admits false answer b is_admitted is_same = (answer ≡ Err b) × is_same

-- the trash is of the same region, and has room for all buffers that the ports hold, and for so many more
pub record IsRoomy (more : ℕ) (p : PortsAt) (trash : PlainPile) : Type 0 where
  pub region : trash.region ≡ p.region
  pub room : length trash.contents + length (held p.ports) + more ≤ trash.room

-- a packet that waits for room: in a buffer of the region, with room for a head and a checksum
pub record IsWaiting (name : RegionName) (b : PlainBuffer) : Type 0 where
  pub region : b.region ≡ name
  pub short : length b.picture.payload ≤ MAX_PAYLOAD - 9

-- what is kept of a slot: its machine, where it has one, holds what it needs alone; and a packet may wait
pub record IsKept (name : RegionName) (s : SlotState) : Type 0 where
  pub housed : IfSome s.machine (IsHoused name)
  pub waits : IfSome s.stalled (IsWaiting name)

-- what the fields of a node's ports keep at every time
pub record ArePorts (p : Inside) : Type 0 where
  -- there are no more applications than may be, and there is room for all answers that may be owed
  pub few : p.conns.apps ≤ MAX_APPS
  pub apps : p.apps ≡ p.conns.apps
  pub room : MAX_OWED ≤ deque_capacity p.owed
  -- ports are bound by applications that there are
  pub owners : (port : ℕ) → IfSome (owner_of p.sockets port) (λ o. o.0 < p.conns.apps)
  -- and so are answers owed; with those still to come an application has at most one more than it has slots
  pub owed : All (IsOwed p.conns.apps) p.owed.items
  pub due : (app : ℕ) → waiting app p.owed.items + wishes app (terms_of (plain_ports p)) ≤ ANSWERS
  -- each slot has its place, and an application one packet that waits at most
  pub slots : length p.slots.items ≡ ALL_SLOTS
  pub kept : All (IsKept p.token.name) p.slots.items
  pub alone : (app : ℕ) → stalls_of app p.slots.items ≤ 1
