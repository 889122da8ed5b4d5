-- the rows of a routing table lead to interfaces that are there, also after a request
use Rattle.std.proofs.Common.{◌≡◌, ℕ, ◌+◌, ◌<◌, ◌==◌, ◌&&◌, ◌||◌, Bool, true, false, not, if◌then◌else◌, nat_lt, List, [], length, Option, None, Some, Result, Ok, Err, refl}
use Rattle.std.specs.Prelude.{IfSome, IfOk}
use Rattle.std.specs.List.{position}
use Rattle.std.specs.Str.{bytes_eq}
use Rattle.std.proofs.lemmas.List.Quantifiers.{position-Some}
use Rattle.csp_cmp.specs.Reading.{decoded}
use Rattle.csp_cmp.specs.Replies.{same_bytes}
use Rattle.csp_cmp.specs.declared.errors.CmpError.{CmpError}
use Rattle.csp_cmp.specs.declared.request.CmpRequest.{CmpRequest}
use Rattle.csp_cmp.specs.declared.request.CmpRequest.TheVariants.{Ident, RouteSet, Stats, Peek, Poke, Clock}
use Rattle.csp_route.proofs.Public.{row_within}
use Rattle.csp_route.specs.Routes.{IsWithin, key_of}
use Rattle.csp_route.specs.declared.row.Row.{Row}
use Rattle.csp_service.specs.Answers.{Outcome, answered, has_no_room, iface_of, is_beyond, name_in, requested, routed, row_asked, row_over, at_service, told_stats}
use Rattle.csp_service.specs.Facts.{PlainFacts}
use Rattle.csp_service.specs.Services.{service_at}
use Rattle.csp_service.specs.declared.answers.ServiceError.{ServiceError}
use Rattle.csp_service.specs.declared.answers.ServiceError.TheVariants.{BadAddress}
use Rattle.csp_service.specs.declared.facts.TheConstants.{MEMORY}
use Rattle.csp_service.specs.declared.requests.TheConstants.{NO_HOP}
use Rattle.csp_service.specs.declared.service.Service.{Service}
use Rattle.csp_service.specs.declared.service.Service.TheVariants as service

-- the table of what came of a request leads to the node's interfaces
abbrev Leads : PlainFacts → Outcome → Type 0
Leads facts o = IsWithin (length facts.ifaces) o.facts.routes

either_leads : (b : Bool) (facts : PlainFacts) (x y : Outcome) → Leads facts x → Leads facts y → Leads facts (if b then x else y)
either_leads true facts x y p q = p
either_leads false facts x y p q = q

-- an interface that is found is there
found_inside : (p : List ℕ → Bool) (names : List (List ℕ)) (found : Option ℕ) → position p names ≡ found → IfSome found (λ k. k < length names)
found_inside p names None e = tt
found_inside p names (Some k) e = (position-Some p names k [] e).0

over_leads : (n dest via : ℕ) (found : Option ℕ) → IfSome found (λ k. k < n) → IfOk (row_over dest via found) (λ row. row.iface < n)
over_leads n dest via None h = tt
over_leads n dest via (Some k) h = h

asked_leads_by : (b : Bool) (n : ℕ) (r : Result Row ServiceError) → IfOk r (λ row. row.iface < n) → IfOk (if b then Err BadAddress else r) (λ row. row.iface < n)
asked_leads_by true n r h = tt
asked_leads_by false n r h = h

asked_leads : (dest via : ℕ) (field : List ℕ) (names : List (List ℕ)) → IfOk (row_asked dest via field names) (λ row. row.iface < length names)
asked_leads dest via field names =
    asked_leads_by (is_beyond dest || (not (via == NO_HOP) && is_beyond via)) (length names) (row_over dest via (iface_of field names))
    (over_leads (length names) dest via (iface_of field names) (found_inside (λ name. bytes_eq name (name_in field)) names _ refl))

routed_leads : (reply : List ℕ) (r : Result Row ServiceError) (facts : PlainFacts) → IfOk r (λ row. row.iface < length facts.ifaces) → IsWithin (length facts.ifaces) facts.routes → Leads facts (routed reply r facts)
routed_leads reply (Err error) facts p h = h
routed_leads reply (Ok row) facts p h = either_leads (has_no_room facts.routes (key_of row)) facts _ _ h (row_within (length facts.ifaces) facts.routes row h p)

stats_leads : (field : List ℕ) (found : Option ℕ) (facts : PlainFacts) → IsWithin (length facts.ifaces) facts.routes → Leads facts (told_stats field found facts)
stats_leads field None facts h = h
stats_leads field (Some iface) facts h = h

requested_leads : (r : Result CmpRequest CmpError) (facts : PlainFacts) (now : ℕ) → IsWithin (length facts.ifaces) facts.routes → Leads facts (requested r facts now)
requested_leads (Err error) facts now h = h
requested_leads (Ok Ident) facts now h = h
requested_leads (Ok (RouteSet dest via field)) facts now h = routed_leads (same_bytes (RouteSet dest via field)) (row_asked dest via field facts.ifaces) facts (asked_leads dest via field facts.ifaces) h
requested_leads (Ok (Stats field)) facts now h = stats_leads field (iface_of field facts.ifaces) facts h
requested_leads (Ok (Peek addr len)) facts now h = either_leads (nat_lt MEMORY (addr + len)) facts _ _ h h
requested_leads (Ok (Poke addr bytes)) facts now h = either_leads (nat_lt MEMORY (addr + length bytes.items)) facts _ _ h h
requested_leads (Ok (Clock sec nsec)) facts now h = h

served_leads : (x : Option Service) (request : List ℕ) (facts : PlainFacts) (now : ℕ) → IsWithin (length facts.ifaces) facts.routes → Leads facts (at_service x request facts now)
served_leads None request facts now h = h
served_leads (Some service.Cmp) request facts now h = requested_leads (decoded request) facts now h
served_leads (Some service.Ping) request facts now h = h
served_leads (Some service.FreeMemory) request facts now h = h
served_leads (Some service.Reboot) request facts now h = h
served_leads (Some service.Uptime) request facts now h = h

pub answered_leads : (port : ℕ) (request : List ℕ) (facts : PlainFacts) (now : ℕ) → IsWithin (length facts.ifaces) facts.routes → IsWithin (length facts.ifaces) (answered port request facts now).facts.routes
answered_leads port request facts now h = served_leads (service_at port) request facts now h
