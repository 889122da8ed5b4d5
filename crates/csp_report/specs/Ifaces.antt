-- What the report tells of interfaces.
use Rattle.std.specs.Prelude.{ℕ, List, [], ◌∷◌, count_by, sum_by, codes}
use Rattle.std.specs.List.{flat_map}
use Rattle.std.specs.Fmt.{decimal}
use Rattle.std.specs.Option.{is_some}
use Rattle.csp_log.specs.Moving.{moved_in}
use Rattle.csp_log.specs.PlainLog.{all_events}
use Rattle.csp_log.specs.declared.entry.Entry.{Entry}
use Rattle.csp_log.specs.declared.event.Event.{Event}
use Rattle.csp_log.specs.declared.event.Event.TheVariants as event
use Rattle.csp_record.specs.Passed.{put_in}
use Rattle.csp_report.specs.Lines.{Line}
use Rattle.csp_report.specs.declared.ifaces.IfaceCount.{IfaceCount}
use Rattle.csp_report.specs.declared.ifaces.IfaceCount.TheVariants as count

-- how much an event adds to a count
abbrev pub weight : IfaceCount → Event → ℕ
weight count.Sent (event.Transmitted serial) = 1
weight count.Bad (event.Bad frames) = frames
weight count.Starved event.Starved = 1
weight count.Full event.InboxFull = 1
weight count.TooBig event.TooBig = 1
weight _ _ = 0

-- the counts of these entries: the packets put into an inbox, or what the events add up to
abbrev pub entries_count : IfaceCount → List Entry → ℕ
entries_count count.Sent entries = sum_by (weight count.Sent) (all_events entries)
entries_count count.Accepted entries = count_by (λ entry. is_some (put_in (moved_in entry))) entries
entries_count count.Bad entries = sum_by (weight count.Bad) (all_events entries)
entries_count count.Starved entries = sum_by (weight count.Starved) (all_events entries)
entries_count count.Full entries = sum_by (weight count.Full) (all_events entries)
entries_count count.TooBig entries = sum_by (weight count.TooBig) (all_events entries)

-- the counts, in the order in which an interface's line has them
abbrev pub all_counts : List IfaceCount
all_counts = count.Sent ∷ count.Accepted ∷ count.Bad ∷ count.Starved ∷ count.Full ∷ count.TooBig ∷ []

-- the word of a count
abbrev pub count_word : IfaceCount → List ℕ
count_word count.Sent = codes "sent"
count_word count.Accepted = codes "accepted"
count_word count.Bad = codes "bad"
count_word count.Starved = codes "starved"
count_word count.Full = codes "full"
count_word count.TooBig = codes "toobig"

-- `iface NODE LINK`, and each count's word with its number
abbrev pub iface_line : List ℕ → List ℕ → List Entry → Line
iface_line node link entries = codes "iface" ∷ node ∷ link ∷ flat_map (λ which. count_word which ∷ decimal (entries_count which entries) ∷ []) all_counts
