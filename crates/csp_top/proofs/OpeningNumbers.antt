-- The numbers of a connection that a router's log tells to be open are of at most 64 bits, where its events tell of 32.
use Rattle.std.proofs.Common.{◌≡◌, ◌==◌, ℕ, zero, suc, ◌<◌, ◌^◌, Bool, true, false, cond, Option, None, Some, List, [], ◌∷◌, ◌++◌, unwrap_or, slice_get, sym, ap, ◌∙◌, subst, arith}
use Rattle.std.specs.Prelude.{find, IfSome}
use Rattle.std.specs.List.{AllByRecursion, flat_map}
use Rattle.csp_log.specs.Noting.{noted_in}
use Rattle.csp_log.specs.PlainLog.{all_events}
use Rattle.csp_log.specs.declared.entry.Entry.{Entry}
use Rattle.csp_log.specs.declared.event.Event.{Event}
use Rattle.csp_log.specs.declared.event.Event.TheVariants as event
use Rattle.csp_record.specs.Connections.{opened_by, openings}
use Rattle.csp_top.specs.Prefix.{OpensNumbered, TellsNumbered}
use Rattle.csp_record.specs.Record.{PlainPartyLog}
use Rattle.csp_record.specs.declared.connections.Opening.{Opening}
use Rattle.csp_record.specs.declared.payloads.Transfer.TheVariants as way
use Rattle.csp_log.specs.declared.who.Who.{Who}
use Rattle.csp_record.proofs.Public.{Ends, ended, no_ends, openings_after, openings_are}
use Rattle.csp_report.specs.Parties.{entries_of}
use Rattle.csp_report.specs.Shown.{IsNumbered}

-- ---- what holds of each element of a list

joined : {X : Type 0} (P : X → Type 0) (xs ys : List X) → AllByRecursion P xs → AllByRecursion P ys → AllByRecursion P (xs ++ ys)
joined P [] ys all more = more
joined P (x ∷ xs) ys all more = (all.0, joined P xs ys all.1 more)

pub front_of : {X : Type 0} (P : X → Type 0) (xs ys : List X) → AllByRecursion P (xs ++ ys) → AllByRecursion P xs
front_of P [] ys all = tt
front_of P (x ∷ xs) ys all = (all.0, front_of P xs ys all.1)

pub rest_of : {X : Type 0} (P : X → Type 0) (xs ys : List X) → AllByRecursion P (xs ++ ys) → AllByRecursion P ys
rest_of P [] ys all = all
rest_of P (x ∷ xs) ys all = rest_of P xs ys all.1

at_place : {X : Type 0} (P : X → Type 0) (xs : List X) (i : ℕ) (x : X) → AllByRecursion P xs → slice_get xs i ≡ Some x → P x
at_place P [] i x all e = absurd cc
at_place P (y ∷ xs) zero x all e = let same : y ≡ x = ap (λ o. unwrap_or o y) e in subst P same all.0
at_place P (y ∷ xs) (suc i) x all e = at_place P xs i x all.1 e

-- ---- a connection that became open

own_wider : (nth : Option ℕ) → IfSome nth (λ number. number < 2 ^ 32) → IfSome nth (λ number. number < 2 ^ 64)
own_wider None h = tt
own_wider (Some number) h = omega (arith, h)

peer_wider : (peer : Option (ℕ × ℕ)) → IfSome peer (λ flow. flow.1 < 2 ^ 32) → IfSome peer (λ flow. flow.1 < 2 ^ 64)
peer_wider None h = tt
peer_wider (Some flow) h = omega (arith, h)

module _ (app : ℕ) (ends : Ends) where
  if_opened : (b : Bool) (x : Opening) → IsNumbered x → AllByRecursion IsNumbered (cond b (x ∷ []) [])
  if_opened true x h = (h, tt)
  if_opened false x h = tt

  one_opened : (e : Event) → OpensNumbered e → AllByRecursion IsNumbered (opened_by app ends e)
  one_opened (event.Opened number slot nth peer) h =
      if_opened (number == app) (record { slot = slot; ordinal = ends slot; nth = nth; peer = peer }) (record { own = own_wider nth h.0; peers = peer_wider peer h.1 })
  one_opened (event.TookEmpty step) h = tt
  one_opened (event.Sent slot ordinal) h = tt
  one_opened (event.Took slot ordinal) h = tt
  one_opened (event.BlobTook slot ordinal len crc) h = tt
  one_opened (event.BlobRefused slot ordinal why) h = tt
  one_opened (event.Refused step why) h = tt
  one_opened (event.GaveUp step) h = tt
  one_opened (event.SlotDown step) h = tt
  one_opened (event.Discarded why) h = tt
  one_opened (event.Handed nth peer tag cur una) h = tt
  one_opened (event.Transmitted serial) h = tt
  one_opened (event.Bad count) h = tt
  one_opened event.Starved h = tt
  one_opened event.InboxFull h = tt
  one_opened event.TooBig h = tt
  one_opened event.Reboot h = tt
  one_opened event.Shutdown h = tt

  all_opened : (events : List Event) → AllByRecursion OpensNumbered events → AllByRecursion IsNumbered (flat_map (opened_by app ends) events)
  all_opened [] all = tt
  all_opened (e ∷ events) all = joined IsNumbered (opened_by app ends e) (flat_map (opened_by app ends) events) (one_opened e all.0) (all_opened events all.1)

opened_after : (app : ℕ) (ends : Ends) (entries : List Entry) → AllByRecursion OpensNumbered (all_events entries) → AllByRecursion IsNumbered (openings_after app ends entries)
opened_after app ends [] all = tt
opened_after app ends (e ∷ entries) all =
    joined IsNumbered (flat_map (opened_by app ends) e.events.items) (openings_after app (ended way.Sent app (noted_in e) ends) entries)
    (all_opened app ends e.events.items (front_of OpensNumbered e.events.items (all_events entries) all))
    (opened_after app (ended way.Sent app (noted_in e) ends) entries (rest_of OpensNumbered e.events.items (all_events entries) all))

found : (p : Who → Bool) (logs : List PlainPartyLog) → AllByRecursion TellsNumbered logs → AllByRecursion OpensNumbered (all_events (entries_of (find (λ party. p party.who) logs)))
found p [] all = tt
found p (log ∷ logs) all = by_test (p log.who) (found p logs all.1)
  where
    by_test : (t : Bool) → AllByRecursion OpensNumbered (all_events (entries_of (find (λ party. p party.who) logs))) → AllByRecursion OpensNumbered (all_events (entries_of (cond t (Some log) (find (λ party. p party.who) logs))))
    by_test true later = all.0
    by_test false later = later

-- each that became open by the log of the first party that passes a test
pub opened_numbered : (p : Who → Bool) (logs : List PlainPartyLog) (app at : ℕ) (x : Opening) → AllByRecursion TellsNumbered logs → slice_get (openings app (entries_of (find (λ party. p party.who) logs))) at ≡ Some x → IsNumbered x
opened_numbered p logs app at x all e =
    let entries : List Entry = entries_of (find (λ party. p party.who) logs) in
    at_place IsNumbered (openings_after app no_ends entries) at x (opened_after app no_ends entries (found p logs all)) (ap (λ xs. slice_get xs at) (sym (openings_are app entries)) ∙ e)
