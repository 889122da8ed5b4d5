-- what the services of a router report of their own is an order to the node, which opens no connection
use Rattle.std.proofs.Common.{◌≡◌, ℕ, ◌+◌, Bool, true, false, Option, None, Some, List, [], refl}
use Rattle.std.specs.Prelude.{if◌then◌else◌, nat_lt, slice_range, length, Result, Ok, Err}
use Rattle.std.specs.Int.{to_be_bytes, w32}
use Rattle.std.specs.Str.{bytes_eq}
use Rattle.csp_cmp.specs.Reading.{decoded}
use Rattle.csp_cmp.specs.Replies.{peek_bytes, same_bytes}
use Rattle.csp_cmp.specs.declared.errors.CmpError.{CmpError}
use Rattle.csp_cmp.specs.declared.request.CmpRequest.{CmpRequest}
use Rattle.csp_cmp.specs.declared.request.CmpRequest.TheVariants.{Ident, RouteSet, Stats, Peek, Poke, Clock}
use Rattle.csp_log.specs.declared.event.Event.{Event}
use Rattle.csp_log.specs.declared.event.Event.TheVariants as event
use Rattle.csp_record.specs.Connections.{opened_by}
use Rattle.csp_record.proofs.Public.{Ends}
use Rattle.csp_route.specs.Routes.{key_of, with_row}
use Rattle.csp_route.specs.declared.row.Row.{Row}
use Rattle.csp_service.specs.Answers.{Outcome, answered, has_no_room, iface_of, refused, replied, requested, routed, row_asked, at_service, told_stats, overwritten, with_routes, with_services}
use Rattle.csp_service.specs.Facts.{PlainFacts}
use Rattle.csp_service.specs.Services.{service_at}
use Rattle.csp_service.specs.declared.answers.ServiceError.{ServiceError}
use Rattle.csp_service.specs.declared.answers.ServiceError.TheVariants.{BadAddress, BadMagic, Full}
use Rattle.csp_service.specs.declared.answers.TheConstants.{REBOOT, SHUTDOWN}
use Rattle.csp_service.specs.declared.facts.TheConstants.{MEMORY}
use Rattle.csp_service.specs.declared.answers.Served.{Served}
use Rattle.csp_service.specs.declared.answers.Served.TheVariants.{NoService, Refused, Reply, Silent}
use Rattle.csp_service.specs.declared.service.Service.{Service}
use Rattle.csp_service.specs.declared.service.Service.TheVariants as service

-- to reboot, or to shut down
abbrev pub IsOrder : Event → Type 0
IsOrder event.Reboot = Unit {0}
IsOrder event.Shutdown = Unit {0}
IsOrder _ = ⊥

pub order_opens : (e : Event) → IsOrder e → (app : ℕ) (ends : Ends) → opened_by app ends e ≡ []
order_opens event.Reboot is app ends = refl
order_opens event.Shutdown is app ends = refl
order_opens _ is app ends = absurd is

abbrev pub IsMute : Served → Type 0
IsMute (Silent e) = IsOrder e
IsMute Reply = Unit {0}
IsMute (Refused error) = Unit {0}
IsMute NoService = Unit {0}

either : (test : Bool) (x y : Outcome) → IsMute x.served → IsMute y.served → IsMute (if test then x else y).served
either true x y p q = p
either false x y p q = q

routed_mute : (reply : List ℕ) (r : Result Row ServiceError) (facts : PlainFacts) → IsMute (routed reply r facts).served
routed_mute reply (Err error) facts = tt
routed_mute reply (Ok row) facts = either (has_no_room facts.routes (key_of row)) (refused Full facts) (replied reply (with_routes facts (with_row facts.routes row))) tt tt

stats_mute : (field : List ℕ) (o : Option ℕ) (facts : PlainFacts) → IsMute (told_stats field o facts).served
stats_mute field None facts = tt
stats_mute field (Some iface) facts = tt

requested_mute : (r : Result CmpRequest CmpError) (facts : PlainFacts) (now : ℕ) → IsMute (requested r facts now).served
requested_mute (Err error) facts now = tt
requested_mute (Ok Ident) facts now = tt
requested_mute (Ok (RouteSet dest via field)) facts now = routed_mute (same_bytes (RouteSet dest via field)) (row_asked dest via field facts.ifaces) facts
requested_mute (Ok (Stats field)) facts now = stats_mute field (iface_of field facts.ifaces) facts
requested_mute (Ok (Peek addr len)) facts now = either (nat_lt MEMORY (addr + len)) (refused BadAddress facts) (replied (peek_bytes addr (slice_range facts.services.memory addr (addr + len))) facts) tt tt
requested_mute (Ok (Poke addr bytes)) facts now =
    either (nat_lt MEMORY (addr + length bytes.items)) (refused BadAddress facts) (replied (same_bytes (Poke addr bytes)) (with_services facts (record facts.services { memory = overwritten facts.services.memory addr bytes.items }))) tt tt
requested_mute (Ok (Clock sec nsec)) facts now = tt

rebooted_mute : (one other : Bool) → IsMute (if one then Silent event.Reboot else if other then Silent event.Shutdown else Refused BadMagic)
rebooted_mute true other = tt
rebooted_mute false true = tt
rebooted_mute false false = tt

served_mute : (o : Option Service) (request : List ℕ) (facts : PlainFacts) (now : ℕ) → IsMute (at_service o request facts now).served
served_mute None request facts now = tt
served_mute (Some service.Cmp) request facts now = requested_mute (decoded request) facts now
served_mute (Some service.Ping) request facts now = tt
served_mute (Some service.FreeMemory) request facts now = tt
served_mute (Some service.Reboot) request facts now = rebooted_mute (bytes_eq request (to_be_bytes w32 REBOOT)) (bytes_eq request (to_be_bytes w32 SHUTDOWN))
served_mute (Some service.Uptime) request facts now = tt

pub answered_mute : (port : ℕ) (request : List ℕ) (time : ℕ) (facts : PlainFacts) → IsMute (answered port request facts time).served
answered_mute port request time facts = served_mute (service_at port) request facts time
