-- a slot that collects: the packets taken on it are pieces, which its collector makes into blobs
use Rattle.std.specs.Prelude.{◌≡◌, ℕ, ◌==◌, Bool, false, Option, Some, None, Result, Ok, Err, List, [], ◌∷◌, length, map, slice_index_or, slice_set, if◌then◌else◌}
use Rattle.std.specs.List.{list_any, range_with_len}
use Rattle.std.specs.Option.{option_map}
use Rattle.csp_app.specs.PlainStep.{PlainStep}
use Rattle.csp_app.specs.PlainStep as step
use Rattle.csp_crc.specs.Crc.{crc_of}
use Rattle.csp_log.specs.declared.event.Event.{Event}
use Rattle.csp_log.specs.declared.event.Event.TheVariants as event
use Rattle.csp_log.specs.declared.note.Note.{Note}
use Rattle.csp_log.specs.declared.note.Note.TheVariants as note
use Rattle.csp_base.specs.declared.limits.TheConstants.{SLOTS}
use Rattle.csp_log.specs.declared.shown.ItemShown.{ItemShown}
use Rattle.csp_log.specs.declared.shown.ItemShown.TheVariants as item
use Rattle.csp_sfp.specs.Gathering.{Gathering, nothing, after, answer}
use Rattle.csp_sfp.specs.declared.collector.SfpAnswer.{SfpAnswer}
use Rattle.csp_sfp.specs.declared.collector.SfpAnswer.TheVariants.{Part, Whole}
use Rattle.csp_sfp.specs.declared.errors.SfpError.{SfpError}

-- this step collects the blobs of this slot
abbrev pub collects_on : (slot : ℕ) → PlainStep → Bool
collects_on slot step.Take = false
collects_on slot step.Give = false
collects_on slot (step.Bind _ _) = false
collects_on slot (step.Connect _ _ _ _ _ _) = false
collects_on slot (step.Send _ _) = false
collects_on slot (step.Burst _ _ _) = false
collects_on slot (step.Blob _ _ _) = false
collects_on slot (step.Raw _ _) = false
collects_on slot (step.Recv _ _ _) = false
collects_on slot (step.Collect s _ _) = s == slot
collects_on slot (step.Close _) = false
collects_on slot (step.Wait _) = false

-- this step collects on no slot
abbrev pub CollectsNothing : PlainStep → Type 0
CollectsNothing x = (slot : ℕ) → collects_on slot x ≡ false

-- the slots of an application by their numbers, each with its collector if it has one
abbrev pub Collectors : Type 0
Collectors = List (Option Gathering)

-- a slot has a collector where a step of the script collects its blobs
abbrev pub collector_for : List PlainStep → (slot : ℕ) → Option Gathering
collector_for steps slot = (if list_any (collects_on slot) steps then Some nothing else None)

-- the collectors of an application with this script, which have gathered nothing
abbrev pub collectors_for : List PlainStep → Collectors
collectors_for steps = map (collector_for steps) (range_with_len 0 SLOTS)

-- the collector of this slot, if it has one
abbrev pub collector_at : Collectors → (slot : ℕ) → Option Gathering
collector_at collectors slot = slice_index_or collectors slot None

-- how many things to be waited for a packet is on a slot: one on a slot without a collector, and else one where a blob is whole by it
abbrev pub counts : Option (Result SfpAnswer SfpError) → ℕ
counts None = 1
counts (Some (Ok Whole)) = 1
counts (Some (Ok Part)) = 0
counts (Some (Err why)) = 0

-- what the collector of a slot, if it has one, answers to this payload
abbrev pub answer_of : Option Gathering → List ℕ → Option (Result SfpAnswer SfpError)
answer_of collector payload = option_map (λ g. answer g payload) collector

-- a collector that was given a piece reports a blob that is whole by it, or why it refuses the piece
abbrev pub piece_told : (slot ordinal : ℕ) → Result SfpAnswer SfpError → Gathering → List Event
piece_told slot ordinal (Ok Whole) g = event.BlobTook slot ordinal (length g.bytes) (crc_of g.bytes) ∷ []
piece_told slot ordinal (Ok Part) g = []
piece_told slot ordinal (Err why) g = event.BlobRefused slot ordinal why ∷ []

-- what is reported of a payload by the collector of its slot, if the slot has one
abbrev pub blobs_told : (slot ordinal : ℕ) → Option Gathering → List ℕ → List Event
blobs_told slot ordinal None payload = []
blobs_told slot ordinal (Some g) payload = piece_told slot ordinal (answer g payload) (after g payload)

-- the collector of this slot, if it has one, was given this payload
abbrev pub fed_on : (slot : ℕ) → List ℕ → Collectors → Collectors
fed_on slot payload collectors = slice_set collectors slot (option_map (λ g. after g payload) (collector_at collectors slot))

-- the collector of this slot, if it has one, forgets what it gathered
abbrev pub reset_on : (slot : ℕ) → Collectors → Collectors
reset_on slot collectors = slice_set collectors slot (option_map (λ g. nothing) (collector_at collectors slot))

-- what a note that was popped does to the collectors: with the end of a connection goes what was gathered of it
abbrev pub after_note : Note → Collectors → Collectors
after_note (note.Closed slot) collectors = reset_on slot collectors
after_note (note.Down _) collectors = collectors
after_note (note.Bind _ _) collectors = collectors
after_note (note.Connect _ _ _ _ _ _) collectors = collectors
after_note (note.Close _) collectors = collectors
after_note note.Bound collectors = collectors
after_note (note.Connected _) collectors = collectors
after_note (note.Refused _) collectors = collectors

-- the collectors after an item was popped
abbrev pub collectors_after : ItemShown → Collectors → Collectors
collectors_after (item.Packet slot b) collectors = fed_on slot b.payload collectors
collectors_after (item.Note n) collectors = after_note n collectors
collectors_after (item.Frame _) collectors = collectors
