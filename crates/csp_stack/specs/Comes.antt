-- that the code comes to what is told, and what it needs for that
use Rattle.std.specs.Prelude.{◌≡◌, ◌≢◌, ℕ, ◌+◌, ◌<◌, ◌≤◌, List, [], ◌++◌, Option, None, Some, Result, Ok, Err, length}
use Rattle.csp_buffer.specs.PlainBuffer.{PlainBuffer, with_picture}
use Rattle.csp_rdp_header.specs.declared.head.RdpHead.{RdpHead}
use Rattle.csp_log.specs.declared.event.Event.{Event}
use Rattle.csp_log.specs.declared.event.TheConstants.{MAX_EVENTS}
use Rattle.csp_log.specs.declared.places.TheConstants.{UNMARKED}
use Rattle.csp_ports.specs.Held.{held}
use Rattle.csp_rdp_header.specs.declared.options.TheConstants.{MAX_WINDOW}
use Rattle.csp_route.specs.Routes.{IsWithin}
use Rattle.csp_stack.specs.Router.{Facts, Leaving, State, StateAt}
use Rattle.csp_stack.specs.Rules.{◌>>=◌, Arrival, Ruling, by_service, not_reliable, of_no_connection, to_no_socket}
use Rattle.csp_stack.specs.Told.{Told}
use Rattle.csp_stack.specs.declared.outgoing.Outgoing.{Outgoing}
use Rattle.csp_stack.specs.declared.packet.Packet.{Packet}
use Rattle.csp_stack.specs.declared.state.TheConstants.{TRASH_ROOM}

-- the picture of a packet that is to go out
abbrev pub leaving_of : Outgoing → Leaving
leaving_of o = record { queue = o.queue; mark = o.mark; buffer = o.buffer.picture }

-- the picture of a packet from the inbox
abbrev pub arrival_of : Packet → Arrival
arrival_of p = record { mark = p.mark; head = p.header; buffer = p.buffer.picture }

-- the packet with this payload, or as it is where there is none
abbrev pub cut_to : Option (List ℕ) → Packet → Result Packet Packet
cut_to None p = Err p
cut_to (Some payload) p = Ok (record p { buffer = record p.buffer { picture = record p.buffer.picture { payload = payload } } })

-- the head of a packet, and its buffer with what stands before that, or as it is where there is none
abbrev pub beheaded : Option (List ℕ × RdpHead) → PlainBuffer → Result (RdpHead × PlainBuffer) PlainBuffer
beheaded None b = Err b
beheaded (Some read) b = Ok (read.1, with_picture b (record b.picture { payload = read.0 }))

-- the state is then the one that is told, of the same region, and the report has its events besides those before
pub record ComesTo (old new : StateAt) (before after : List Event) (told : Told) : Type 0 where
  pub state : new.state ≡ told.state
  pub region : new.region ≡ old.region
  pub events : after ≡ before ++ told.events

-- what a ruling comes to, by the state and the report before and after it: without a packet that is left it has decided, whatever the next
-- rules say; else nothing changed, and they decide
abbrev pub Rules : Option Packet → (old new : StateAt × List Event) → Ruling → Type 0
Rules None old new ruling = (next : Arrival → Told) → ComesTo old.0 new.0 old.1 new.1 (ruling >>= next)
Rules (Some p) old new ruling =
    ((next : Arrival → Told) → (ruling >>= next) ≡ next (arrival_of p)) × (p.buffer.region ≡ old.0.region) × (new.0 ≡ old.0) × (new.1 ≡ old.1)

-- the rules that are left to a packet: the sixth; from the fifth on; from the fourth on
abbrev pub heard_elsewhere : Facts → State → ℕ → Arrival → Told
heard_elsewhere f s time p = not_reliable s p >>= (λ p. by_service f s time p)

-- a packet of no connection
abbrev pub heard_at_socket : Facts → State → ℕ → Arrival → Told
heard_at_socket f s time p = to_no_socket f s time p >>= (λ p. heard_elsewhere f s time p)

-- a packet at its port
abbrev pub heard_at_port : Facts → State → ℕ → Arrival → Told
heard_at_port f s time p = of_no_connection s time p >>= (λ p. heard_at_socket f s time p)

-- nothing is to go out and there is no trash, so that a packet has its place, and the report has room
pub record IsFree (s : State) (report : List Event) : Type 0 where
  pub trash : s.trash ≡ []
  pub out : s.out ≡ None
  pub room : length report < MAX_EVENTS

-- nothing is in the way of what comes; the trash has room for all that the ports hold and for two more; the table leads to interfaces of the node; the
-- ports are those of its applications; and the window of its connections is one that a connection may have
pub record IsServing (f : Facts) (s : State) : Type 0 where
  pub trash : s.trash ≡ []
  pub out : s.out ≡ None
  pub room : length (held s.ports) + 2 ≤ TRASH_ROOM
  pub within : IsWithin (length f.ifaces) s.routes
  pub apps : s.ports.conns.apps ≡ f.apps
  pub low : 1 ≤ f.options.window
  pub high : f.options.window ≤ MAX_WINDOW

-- a mark that an interface can read: the address of a next hop, or none
abbrev pub IsHop : ℕ → Type 0
IsHop mark = mark ≢ UNMARKED → mark < 32
