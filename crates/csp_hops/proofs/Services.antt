-- A node's table leads by addresses also after a request to one of its services.
use Rattle.std.proofs.Common.{◌≡◌, ℕ, ◌+◌, ◌<◌, ◌≤◌, ◌==◌, ◌&&◌, ◌||◌, Bool, true, false, not, if◌then◌else◌, nat_lt, List, length, Option, None, Some, Result, Ok, Err, refl, arith}
use Rattle.std.specs.Prelude.{IfSome, IfOk}
use Rattle.std.proofs.lemmas.Bool.{ltb-false}
use Rattle.csp_cmp.specs.Reading.{decoded}
use Rattle.csp_cmp.specs.Replies.{same_bytes}
use Rattle.csp_cmp.specs.declared.errors.CmpError.{CmpError}
use Rattle.csp_cmp.specs.declared.request.CmpRequest.{CmpRequest}
use Rattle.csp_cmp.specs.declared.request.CmpRequest.TheVariants.{Ident, RouteSet, Stats, Peek, Poke, Clock}
use Rattle.csp_hops.proofs.Tables.{row_leads}
use Rattle.csp_hops.specs.Hops.{LeadsByAddresses, NamesAddress}
use Rattle.csp_route.specs.Routes.{key_of}
use Rattle.csp_route.specs.Routes as routes
use Rattle.csp_route.specs.declared.row.Row.{Row}
use Rattle.csp_service.specs.Answers.{Outcome, answered, has_no_room, hop_of, iface_of, is_beyond, requested, routed, row_asked, row_over, at_service, told_stats}
use Rattle.csp_service.specs.Facts.{PlainFacts}
use Rattle.csp_service.specs.Services.{service_at}
use Rattle.csp_service.specs.declared.answers.ServiceError.{ServiceError}
use Rattle.csp_service.specs.declared.answers.ServiceError.TheVariants.{BadAddress}
use Rattle.csp_service.specs.declared.facts.TheConstants.{MEMORY}
use Rattle.csp_service.specs.declared.requests.TheConstants.{NO_HOP}
use Rattle.csp_service.specs.declared.service.Service.{Service}
use Rattle.csp_service.specs.declared.service.Service.TheVariants as service

-- the row that a request sets, if it sets one, names an address
abbrev NamesIn : Result Row ServiceError → Type 0
NamesIn r = IfOk r (λ row. NamesAddress (routes.hop_of row))

-- a next hop in a message that is not beyond the addresses
within_names : (none beyond : Bool) (via : ℕ) → nat_lt 31 via ≡ beyond → (not none && beyond) ≡ false → IfSome (if none then None else Some via) (λ via. via < 32)
within_names true beyond via e low = tt
within_names false true via e low = absurd cc
within_names false false via e low = let most : via ≤ 31 = ltb-false 31 via e in omega (arith, most)

over_names : (dest via : ℕ) (found : Option ℕ) → IfSome (hop_of via) (λ via. via < 32) → NamesIn (row_over dest via found)
over_names dest via None is = tt
over_names dest via (Some iface) is = is

asked_by : (dest hop : Bool) (r : Result Row ServiceError) → (hop ≡ false → NamesIn r) → NamesIn (if dest || hop then Err BadAddress else r)
asked_by true hop r is = tt
asked_by false true r is = tt
asked_by false false r is = is refl

asked_names : (dest via : ℕ) (field : List ℕ) (names : List (List ℕ)) → NamesIn (row_asked dest via field names)
asked_names dest via field names =
    asked_by (is_beyond dest) (not (via == NO_HOP) && is_beyond via) (row_over dest via (iface_of field names))
    (λ low. over_names dest via (iface_of field names) (within_names (via == NO_HOP) (is_beyond via) via refl low))

-- the table of what came of a request leads by addresses
abbrev Leads : Outcome → Type 0
Leads o = LeadsByAddresses o.facts.routes

either : (b : Bool) (x y : Outcome) → Leads x → Leads y → Leads (if b then x else y)
either true x y p q = p
either false x y p q = q

routed_leads : (reply : List ℕ) (r : Result Row ServiceError) (facts : PlainFacts) → NamesIn r → LeadsByAddresses facts.routes → Leads (routed reply r facts)
routed_leads reply (Err error) facts is h = h
routed_leads reply (Ok row) facts is h = either (has_no_room facts.routes (key_of row)) _ _ h (row_leads facts.routes row is h)

stats_leads : (field : List ℕ) (found : Option ℕ) (facts : PlainFacts) → LeadsByAddresses facts.routes → Leads (told_stats field found facts)
stats_leads field None facts h = h
stats_leads field (Some iface) facts h = h

requested_leads : (r : Result CmpRequest CmpError) (facts : PlainFacts) (now : ℕ) → LeadsByAddresses facts.routes → Leads (requested r facts now)
requested_leads (Err error) facts now h = h
requested_leads (Ok Ident) facts now h = h
requested_leads (Ok (RouteSet dest via field)) facts now h = routed_leads (same_bytes (RouteSet dest via field)) (row_asked dest via field facts.ifaces) facts (asked_names dest via field facts.ifaces) h
requested_leads (Ok (Stats field)) facts now h = stats_leads field (iface_of field facts.ifaces) facts h
requested_leads (Ok (Peek addr len)) facts now h = either (nat_lt MEMORY (addr + len)) _ _ h h
requested_leads (Ok (Poke addr bytes)) facts now h = either (nat_lt MEMORY (addr + length bytes.items)) _ _ h h
requested_leads (Ok (Clock sec nsec)) facts now h = h

served_leads : (x : Option Service) (request : List ℕ) (facts : PlainFacts) (now : ℕ) → LeadsByAddresses facts.routes → Leads (at_service x request facts now)
served_leads None request facts now h = h
served_leads (Some service.Cmp) request facts now h = requested_leads (decoded request) facts now h
served_leads (Some service.Ping) request facts now h = h
served_leads (Some service.FreeMemory) request facts now h = h
served_leads (Some service.Reboot) request facts now h = h
served_leads (Some service.Uptime) request facts now h = h

pub answered_leads : (port : ℕ) (request : List ℕ) (facts : PlainFacts) (now : ℕ) → LeadsByAddresses facts.routes → Leads (answered port request facts now)
answered_leads port request facts now h = served_leads (service_at port) request facts now h
