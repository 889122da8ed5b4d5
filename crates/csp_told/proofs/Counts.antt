-- What a report counts as sent is the number of transmissions, and the entries that it reads are those of the interface's name.
use Rattle.std.proofs.Common.{◌≡◌, ℕ, Bool, true, false, cond, List, [], ◌∷◌, ◌++◌, Option, Some, sum_by, count_by, refl, sym, ap, subst, ◌∙◌, append-nil, arith}
use Rattle.std.proofs.lemmas.List.Sums.{sum_by-cons}
use Rattle.csp_base.specs.declared.traces.Tag.{Tag}
use Rattle.csp_log.specs.declared.entry.Entry.{Entry}
use Rattle.csp_log.specs.declared.event.Discard.{Discard}
use Rattle.csp_log.specs.declared.event.Event.{Event}
use Rattle.csp_log.specs.declared.event.Event.TheVariants as event
use Rattle.csp_log.specs.declared.note.Why.{Why}
use Rattle.csp_record.specs.Record.{PlainPartyLog, PlainRecord}
use Rattle.csp_log.specs.Who.{is_who}
use Rattle.csp_log.specs.declared.who.Who.{Who}
use Rattle.csp_sfp.specs.declared.errors.SfpError.{SfpError}
use Rattle.csp_scene.specs.Scene.{PlainScene}
use Rattle.csp_topology.specs.Parties.{PlainOpening, parties_of}
use Rattle.csp_consistent.proofs.Public.{HasNone, AreApart, entries_in, none_there, who_is, are_apart}
use Rattle.csp_consistent.specs.Reading.{entries_of}
use Rattle.csp_consistent.specs.Runs.{AreLogsOf}
use Rattle.csp_ordinary.specs.Ordinary.{is_transmission, transmissions}
use Rattle.csp_report.specs.Parties as shown

-- ---- the count

-- a weight of events counts the transmissions that began where it does at each kind of event
pub event_alike : (weight : Event → ℕ)
    → ((serial : ℕ) → weight (event.Transmitted serial) ≡ 1)
    → ((step : ℕ) → weight (event.TookEmpty step) ≡ 0)
    → ((slot ordinal : ℕ) → weight (event.Sent slot ordinal) ≡ 0)
    → ((slot ordinal : ℕ) → weight (event.Took slot ordinal) ≡ 0)
    → ((slot ordinal len crc : ℕ) → weight (event.BlobTook slot ordinal len crc) ≡ 0)
    → ((slot ordinal : ℕ) (reason : SfpError) → weight (event.BlobRefused slot ordinal reason) ≡ 0)
    → ((step : ℕ) (reason : Why) → weight (event.Refused step reason) ≡ 0)
    → ((step : ℕ) → weight (event.GaveUp step) ≡ 0)
    → ((step : ℕ) → weight (event.SlotDown step) ≡ 0)
    → ((reason : Discard) → weight (event.Discarded reason) ≡ 0)
    → ((nth : ℕ) (peer : Option (ℕ × ℕ)) (tag : Option Tag) (cur una : ℕ) → weight (event.Handed nth peer tag cur una) ≡ 0)
    → ((number slot : ℕ) (nth : Option ℕ) (peer : Option (ℕ × ℕ)) → weight (event.Opened number slot nth peer) ≡ 0)
    → ((frames : ℕ) → weight (event.Bad frames) ≡ 0)
    → weight event.Starved ≡ 0 → weight event.InboxFull ≡ 0 → weight event.TooBig ≡ 0 → weight event.Reboot ≡ 0 → weight event.Shutdown ≡ 0
    → (e : Event) → weight e ≡ cond (is_transmission e) 1 0
event_alike weight a b c d e f g h i j k l m n o p q r (event.Transmitted serial) = a serial
event_alike weight a b c d e f g h i j k l m n o p q r (event.TookEmpty step) = b step
event_alike weight a b c d e f g h i j k l m n o p q r (event.Sent slot ordinal) = c slot ordinal
event_alike weight a b c d e f g h i j k l m n o p q r (event.Took slot ordinal) = d slot ordinal
event_alike weight a b c d e f g h i j k l m n o p q r (event.BlobTook slot ordinal len crc) = e slot ordinal len crc
event_alike weight a b c d e f g h i j k l m n o p q r (event.BlobRefused slot ordinal reason) = f slot ordinal reason
event_alike weight a b c d e f g h i j k l m n o p q r (event.Refused step reason) = g step reason
event_alike weight a b c d e f g h i j k l m n o p q r (event.GaveUp step) = h step
event_alike weight a b c d e f g h i j k l m n o p q r (event.SlotDown step) = i step
event_alike weight a b c d e f g h i j k l m n o p q r (event.Discarded reason) = j reason
event_alike weight a b c d e f g h i j k l m n o p q r (event.Handed nth peer tag cur una) = k nth peer tag cur una
event_alike weight a b c d e f g h i j k l m n o p q r (event.Opened number slot nth peer) = l number slot nth peer
event_alike weight a b c d e f g h i j k l m n o p q r (event.Bad frames) = m frames
event_alike weight a b c d e f g h i j k l m n o p q r event.Starved = n
event_alike weight a b c d e f g h i j k l m n o p q r event.InboxFull = o
event_alike weight a b c d e f g h i j k l m n o p q r event.TooBig = p
event_alike weight a b c d e f g h i j k l m n o p q r event.Reboot = q
event_alike weight a b c d e f g h i j k l m n o p q r event.Shutdown = r

sum_is : (weight : Event → ℕ) → ((e : Event) → weight e ≡ cond (is_transmission e) 1 0) → (events : List Event) → sum_by weight events ≡ count_by is_transmission events
sum_is weight each [] = refl
sum_is weight each (e ∷ events) =
    omega (arith, sum_by-cons weight e events, sum_by-cons (λ (x : Event). cond (is_transmission x) 1 0) e events, each e, sum_is weight each events)

-- ---- the entries

module _ (w : Who) where
  -- the first party of a name is the only one
  same_entries : (os : List PlainOpening) (logs : List PlainPartyLog) → AreLogsOf os logs → AreApart os → shown.entries_of (shown.party_at logs w) ≡ entries_in w logs
  same_entries [] [] are apart = refl
  same_entries [] (log ∷ logs) are apart = absurd are
  same_entries (o ∷ os) [] are apart = absurd are
  same_entries (o ∷ os) (log ∷ logs) are apart = by_test (is_who w log.who) refl (same_entries os logs are.1 apart.1)
    where
      only : is_who w log.who ≡ true → entries_in w logs ≡ []
      only is =
          let name : w ≡ o.who = who_is w log.who is ∙ are.0.who in
          none_there w os logs are.1 (subst (λ x. HasNone x os) (sym name) apart.0)

      by_test : (t : Bool) → is_who w log.who ≡ t → shown.entries_of (shown.party_at logs w) ≡ entries_in w logs → shown.entries_of (cond t (Some log) (shown.party_at logs w)) ≡ cond (is_who w log.who) log.entries [] ++ entries_in w logs
      by_test true is later =
          sym (ap (λ t. cond t log.entries [] ++ entries_in w logs) is ∙ ap (λ (es : List Entry). log.entries ++ es) (only is) ∙ append-nil log.entries)
      by_test false not_it later = later ∙ sym (ap (λ t. cond t log.entries [] ++ entries_in w logs) not_it)

-- what such a weight sums up at the first party of a name is the number of transmissions by the entries of this name
pub counted_is : (scene : PlainScene) (r : PlainRecord) → AreLogsOf (parties_of scene) r.parties → (w : Who)
    → (weight : Event → ℕ) → ((e : Event) → weight e ≡ cond (is_transmission e) 1 0) → sum_by weight (shown.events_at r.parties w) ≡ transmissions (entries_of r w)
counted_is scene r are w weight each =
    sum_is weight each (shown.events_at r.parties w) ∙ ap transmissions (same_entries w (parties_of scene) r.parties are (are_apart scene))
