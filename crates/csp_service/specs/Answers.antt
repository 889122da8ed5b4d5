-- what a node's services answer
use Rattle.std.specs.Prelude.{ℕ, ℤ, ◌+◌, ◌==◌, ◌&&◌, ◌||◌, Bool, not, if◌then◌else◌, nat_lt, List, [], length, take, drop, ◌++◌, get_or, slice_range, Option, Some, None, is_none, Result, Ok, Err}
use Rattle.std.specs.List.{position}
use Rattle.std.specs.Str.{bytes_eq}
use Rattle.std.specs.Int.{to_be_bytes, w32}
use Rattle.std.specs.FinMap as finite
use Rattle.arrayvec.specs.ArrayVec.{ArrayVec}
use Rattle.csp_log.specs.declared.event.Event.TheVariants as event
use Rattle.csp_route.specs.declared.prefix.Prefix.{Prefix}
use Rattle.csp_route.specs.declared.prefix.TheConstants.{MAX_MASK}
use Rattle.csp_route.specs.declared.row.Row.{Row}
use Rattle.csp_route.specs.declared.table.TheConstants.{MAX_ROWS}
use Rattle.csp_route.specs.Routes.{Routes, key_of, with_row}
use Rattle.csp_cmp.specs.declared.errors.CmpError.{CmpError}
use Rattle.csp_cmp.specs.declared.request.CmpRequest.{CmpRequest}
use Rattle.csp_cmp.specs.declared.request.CmpRequest.TheVariants.{Ident, RouteSet, Stats, Peek, Poke, Clock}
use Rattle.csp_cmp.specs.Reading.{decoded}
use Rattle.csp_cmp.specs.Replies.{ident_bytes, same_bytes, stats_bytes, peek_bytes, clock_bytes}
use Rattle.csp_service.specs.declared.answers.ServiceError.{ServiceError}
use Rattle.csp_service.specs.declared.answers.ServiceError.TheVariants.{Cmp, NoInterface, BadAddress, Full, BadMagic}
use Rattle.csp_service.specs.declared.answers.Served.{Served}
use Rattle.csp_service.specs.declared.answers.Served.TheVariants.{Reply, Silent, Refused, NoService}
use Rattle.csp_service.specs.declared.answers.TheConstants.{REBOOT, SHUTDOWN}
use Rattle.csp_service.specs.declared.facts.TheConstants.{MEMORY}
use Rattle.csp_service.specs.declared.requests.TheConstants.{NO_HOP}
use Rattle.csp_service.specs.declared.service.Service.{Service}
use Rattle.csp_service.specs.declared.service.Service.TheVariants as service
use Rattle.csp_service.specs.Services.{service_at}
use Rattle.csp_service.specs.Counting.{no_stats}
use Rattle.csp_service.specs.Facts.{PlainFacts, PlainServices}
use Rattle.csp_service.specs.Clock.{nanos_of, seconds_of, clock_set, shown}

-- what comes of a request: what is answered, the bytes of the reply (none without one), and the facts afterwards
pub record Outcome : Type 0 where
  pub served : Served
  pub reply : List ℕ
  pub facts : PlainFacts

-- what came of a request
abbrev pub outcome : Served → List ℕ → PlainFacts → Outcome
outcome served reply facts = record { served = served; reply = reply; facts = facts }

-- a reply of these bytes
abbrev pub replied : List ℕ → PlainFacts → Outcome
replied bytes facts = outcome Reply bytes facts

-- a refusal, which changes nothing
abbrev pub refused : ServiceError → PlainFacts → Outcome
refused error facts = outcome (Refused error) [] facts

-- the facts with this in place of what the services keep
abbrev pub with_services : PlainFacts → PlainServices → PlainFacts
with_services facts services = record facts { services = services }

-- the facts with this routing table
abbrev pub with_routes : PlainFacts → Routes → PlainFacts
with_routes facts routes = record facts { routes = routes }

-- the bytes before this place, or all where there is none
abbrev pub up_to : Option ℕ → List ℕ → List ℕ
up_to None bytes = bytes
up_to (Some place) bytes = take place bytes

-- the name in a field of a message: it ends at its first zero byte
abbrev pub name_in : List ℕ → List ℕ
name_in field = up_to (position (λ byte. byte == 0) field) field

-- the number of the first interface with the name in a field
abbrev pub iface_of : List ℕ → List (List ℕ) → Option ℕ
iface_of field names = position (λ name. bytes_eq name (name_in field)) names

-- no address of a node is this great
abbrev pub is_beyond : ℕ → Bool
is_beyond n = nat_lt 31 n

-- a next hop as it stands in a message
abbrev pub hop_of : ℕ → Option ℕ
hop_of via = if via == NO_HOP then None else Some via

-- the row of one address alone, over the interface of this number, where it is known
abbrev pub row_over : ℕ → ℕ → Option ℕ → Result Row ServiceError
row_over dest via None = Err NoInterface
row_over dest via (Some iface) = Ok (record { addr = dest; mask = MAX_MASK; iface = iface; via = hop_of via })

-- the row that a request sets; first its addresses are looked at, then the interface
abbrev pub row_asked : ℕ → ℕ → List ℕ → List (List ℕ) → Result Row ServiceError
row_asked dest via field names =
    if is_beyond dest || (not (via == NO_HOP) && is_beyond via) then Err BadAddress else row_over dest via (iface_of field names)

-- a table has all the rows that it can have, and none of this prefix
abbrev pub has_no_room : Routes → Prefix → Bool
has_no_room table prefix = (finite.len table == MAX_ROWS) && is_none (finite.get table prefix)

-- a route is set, where there is room for it
abbrev pub routed : List ℕ → Result Row ServiceError → PlainFacts → Outcome
routed reply (Err error) facts = refused error facts
routed reply (Ok row) facts =
    if has_no_room facts.routes (key_of row) then refused Full facts else replied reply (with_routes facts (with_row facts.routes row))

-- an interface's counts are told
abbrev pub told_stats : List ℕ → Option ℕ → PlainFacts → Outcome
told_stats field None facts = refused NoInterface facts
told_stats field (Some iface) facts = replied (stats_bytes field (get_or facts.services.stats iface no_stats).counts) facts

-- memory is read, where all of it is there
abbrev pub peeked : ℕ → ℕ → PlainFacts → Outcome
peeked addr len facts =
    if nat_lt MEMORY (addr + len) then refused BadAddress facts else replied (peek_bytes addr (slice_range facts.services.memory addr (addr + len))) facts

-- memory with these bytes in it from an address on
abbrev pub overwritten : List ℕ → ℕ → List ℕ → List ℕ
overwritten memory addr bytes = take addr memory ++ bytes ++ drop (addr + length bytes) memory

-- memory is written, where all of it is there
abbrev pub poked : ℕ → ArrayVec ℕ → PlainFacts → Outcome
poked addr bytes facts =
    if nat_lt MEMORY (addr + length bytes.items) then refused BadAddress facts
    else replied (same_bytes (Poke addr bytes)) (with_services facts (record facts.services { memory = overwritten facts.services.memory addr bytes.items }))

-- the clock is told, as it is once the request was heard
abbrev pub told_clock : ℤ → PlainFacts → ℕ → Outcome
told_clock clock facts now =
    replied (clock_bytes (seconds_of (shown clock now)) (nanos_of (shown clock now))) (with_services facts (record facts.services { clock = clock }))

-- a request of the management protocol, by its kind
abbrev pub requested : Result CmpRequest CmpError → PlainFacts → ℕ → Outcome
requested (Err error) facts now = refused (Cmp error) facts
requested (Ok Ident) facts now = replied (ident_bytes facts.name) facts
requested (Ok (RouteSet dest via field)) facts now = routed (same_bytes (RouteSet dest via field)) (row_asked dest via field facts.ifaces) facts
requested (Ok (Stats field)) facts now = told_stats field (iface_of field facts.ifaces) facts
requested (Ok (Peek addr len)) facts now = peeked addr len facts
requested (Ok (Poke addr bytes)) facts now = poked addr bytes facts
requested (Ok (Clock sec nsec)) facts now = told_clock (clock_set sec nsec facts.services.clock now) facts now

-- a request to start again or to stop: just the four bytes of its number
abbrev pub rebooted : List ℕ → Served
rebooted request =
    if bytes_eq request (to_be_bytes w32 REBOOT) then Silent event.Reboot
    else if bytes_eq request (to_be_bytes w32 SHUTDOWN) then Silent event.Shutdown
    else Refused BadMagic

-- a request to a service
abbrev pub at_service : Option Service → List ℕ → PlainFacts → ℕ → Outcome
at_service None request facts now = outcome NoService [] facts
at_service (Some service.Cmp) request facts now = requested (decoded request) facts now
at_service (Some service.Ping) request facts now = replied request facts
at_service (Some service.FreeMemory) request facts now = replied (to_be_bytes w32 MEMORY) facts
at_service (Some service.Reboot) request facts now = outcome (rebooted request) [] facts
at_service (Some service.Uptime) request facts now = replied (to_be_bytes w32 (seconds_of now)) facts

-- a request to a port of a node, at a time in milliseconds
abbrev pub answered : ℕ → List ℕ → PlainFacts → ℕ → Outcome
answered port request facts now = at_service (service_at port) request facts now
