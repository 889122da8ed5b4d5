-- The parties of a record that a report speaks of.
use Rattle.std.specs.Prelude.{Option, None, Some, List, [], find}
use Rattle.csp_log.specs.PlainLog.{all_events}
use Rattle.csp_log.specs.declared.entry.Entry.{Entry}
use Rattle.csp_log.specs.declared.event.Event.{Event}
use Rattle.csp_record.specs.Record.{PlainPartyLog}
use Rattle.csp_log.specs.Who.{is_who}
use Rattle.csp_log.specs.declared.who.Who.{Who}

-- the first party that has this name
abbrev pub party_at : List PlainPartyLog → Who → Option PlainPartyLog
party_at parties w = find (λ party. is_who w party.who) parties

-- a party's entries, where there is the party
abbrev pub entries_of : Option PlainPartyLog → List Entry
entries_of None = []
entries_of (Some party) = party.entries

-- the entries of the party that has this name
abbrev pub entries_at : List PlainPartyLog → Who → List Entry
entries_at parties w = entries_of (party_at parties w)

-- what it reported, in order of time
abbrev pub events_at : List PlainPartyLog → Who → List Event
events_at parties w = all_events (entries_at parties w)
