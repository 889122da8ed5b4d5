-- What an application pushes by its script: what its steps push, in order; and so on a slot on which it sends blobs alone, the pieces of these.
use Rattle.std.specs.Prelude.{◌≡◌, ◌<◌, ℕ, ◌+◌, ◌==◌, false, Some, List, [], ◌∷◌, ◌++◌, drop, map, slice_get, take, if◌then◌else◌}
use Rattle.std.specs.List.{AllByRecursion, flat_map, list_any, range_with_len}
use Rattle.csp_base.specs.declared.seat.Seat.{Seat}
use Rattle.csp_app.specs.Making.{Batch, batch_of, blob_bytes, filled}
use Rattle.csp_app.specs.PlainApp.{PlainApp, opening}
use Rattle.csp_app.specs.PlainStep.{PlainStep}
use Rattle.csp_app.specs.PlainStep as step
use Rattle.csp_buffer.specs.Content.{cleared}
use Rattle.csp_deck.specs.Runs.{state_after}
use Rattle.csp_log.specs.declared.entry.Entry.{Entry}
use Rattle.csp_log.specs.declared.note.Note.{Note}
use Rattle.csp_log.specs.declared.note.Note.TheVariants as note
use Rattle.csp_log.specs.declared.places.QueueId.TheVariants as queue
use Rattle.csp_base.specs.declared.limits.TheConstants.{SLOTS}
use Rattle.csp_log.specs.declared.shown.ItemShown.{ItemShown}
use Rattle.csp_log.specs.declared.shown.ItemShown.TheVariants as item
use Rattle.csp_scene.specs.Ranges.{IsStep}
use Rattle.csp_scene.specs.Sharing.{sends_packets}
use Rattle.csp_sfp.specs.Collecting.{CanAllBeCut, Cut, all_pieces}
use Rattle.csp_consistent.specs.Reading.{puts}
use Rattle.csp_prefix.specs.Apps.{IsAppLog, app_steps}
use Rattle.csp_prefix.specs.Prefix.{IsBeginning}

-- ---- what a script pushes

-- an item, whatever the number of its buffer
abbrev pub unnumbered : ItemShown → ItemShown
unnumbered (item.Packet mark b) = item.Packet mark (record b { number = 0 })
unnumbered (item.Frame f) = item.Frame f
unnumbered (item.Note n) = item.Note n

-- so many packets of these, from one on
abbrev pub packets_from : Batch → (first count : ℕ) → List ItemShown
packets_from p first count = map (λ j. item.Packet p.mark (filled p j (cleared 0))) (range_with_len first count)

-- all of them
abbrev pub all_packets : Batch → List ItemShown
all_packets p = packets_from p 0 p.count

-- what each step pushes: its note, its packets, or nothing
abbrev pub pushed_by : PlainStep → List ItemShown
pushed_by step.Take = []
pushed_by step.Give = []
pushed_by (step.Bind port need) = item.Note (note.Bind port need) ∷ []
pushed_by (step.Connect slot dest port prio flags from) = item.Note (note.Connect slot dest port prio flags from) ∷ []
pushed_by (step.Send slot bytes) = all_packets (batch_of (step.Send slot bytes))
pushed_by (step.Burst slot count len) = all_packets (batch_of (step.Burst slot count len))
pushed_by (step.Blob slot len size) = all_packets (batch_of (step.Blob slot len size))
pushed_by (step.Raw header bytes) = all_packets (batch_of (step.Raw header bytes))
pushed_by (step.Recv _ _ _) = []
pushed_by (step.Collect _ _ _) = []
pushed_by (step.Close slot) = item.Note (note.Close slot) ∷ []
pushed_by (step.Wait _) = []

-- the application stands at its step of this number, from 0, and has pushed nothing of it
pub record IsAtStep (at : ℕ) (s : PlainApp) : Type 0 where
  pub done : s.done ≡ at
  pub asked : s.asked ≡ false
  pub sent : s.sent ≡ 0

-- a step asked a note: before it was pushed just what the steps before that one push, and after it a beginning of what those after it push
pub record IsAsked (steps : List PlainStep) (before after : List ItemShown) (n : Note) : Type 0 where
  pub at : ℕ
  pub own : PlainStep
  pub there : slice_get steps at ≡ Some own
  pub asks : pushed_by own ≡ item.Note n ∷ []
  pub first : map unnumbered before ≡ flat_map pushed_by (take at steps)
  pub last : IsBeginning (map unnumbered after) (flat_map pushed_by (drop (at + 1) steps))

-- what the log of an application shows as pushed is a beginning of what its steps push; since it stood at a step, of what that step and those after it
-- push; and so around each note
pub record PushesSteps (number : ℕ) (steps : List PlainStep) (es : List Entry) : Type 0 where
  pub whole : IsBeginning (map unnumbered (puts (queue.Up number) es)) (flat_map pushed_by steps)
  pub since : (first later : List Entry) (at : ℕ) → es ≡ first ++ later → IsAtStep at (state_after app_steps (opening number steps) first)
      → IsBeginning (map unnumbered (puts (queue.Up number) later)) (flat_map pushed_by (drop at steps))
  pub around : (before after : List ItemShown) (n : Note) → puts (queue.Up number) es ≡ before ++ item.Note n ∷ after → IsAsked steps before after n

-- each log of an application whose steps are in their ranges shows as pushed what its steps push
abbrev pub PushSteps : Type 0
PushSteps = (number : ℕ) (steps : List PlainStep) (es : List Entry) → AllByRecursion IsStep steps → IsAppLog number steps es → PushesSteps number steps es

-- ---- on a slot

-- the blob of a step that sends one on this slot, with the size of its pieces
abbrev pub cut_on : (slot : ℕ) → PlainStep → List Cut
cut_on slot (step.Blob own len size) = (if own == slot then record { blob = blob_bytes len; size = size } ∷ [] else [])
cut_on slot _ = []

-- the blobs that steps send on this slot, in order
abbrev pub cuts_on : (slot : ℕ) → List PlainStep → List Cut
cuts_on slot steps = flat_map (cut_on slot) steps

-- the payload of an item that is a packet with this mark
abbrev pub payload_on : (slot : ℕ) → ItemShown → List (List ℕ)
payload_on slot (item.Packet mark b) = (if mark == slot then b.payload ∷ [] else [])
payload_on slot (item.Frame f) = []
payload_on slot (item.Note n) = []

-- the payloads of the packets with this mark among items, in order
abbrev pub pushed_on : (slot : ℕ) → List ItemShown → List (List ℕ)
pushed_on slot items = flat_map (payload_on slot) items

-- a step asked a note, and the payloads that were pushed on a slot after it are a beginning of the pieces of the blobs of the steps after that one
pub record IsSince (slot : ℕ) (steps : List PlainStep) (before after : List ItemShown) (n : Note) : Type 0 where
  pub asked : IsAsked steps before after n
  pub pieces : IsBeginning (pushed_on slot after) (all_pieces (cuts_on slot (drop (asked.at + 1) steps)))

-- what the log of a seat's application shows as pushed on its slot is a beginning of the pieces of the blobs that its steps send there, each of which can be cut;
-- since it stood at a step, of the pieces of the blobs of that step and those after it; and so after each note
pub record SendsPieces (seat : Seat) (steps : List PlainStep) (es : List Entry) : Type 0 where
  pub cuts : (at : ℕ) → CanAllBeCut (cuts_on seat.slot (drop at steps))
  pub whole : IsBeginning (pushed_on seat.slot (puts (queue.Up seat.app) es)) (all_pieces (cuts_on seat.slot steps))
  pub since : (first later : List Entry) (at : ℕ) → es ≡ first ++ later → IsAtStep at (state_after app_steps (opening seat.app steps) first)
      → IsBeginning (pushed_on seat.slot (puts (queue.Up seat.app) later)) (all_pieces (cuts_on seat.slot (drop at steps)))
  pub after : (before rest : List ItemShown) (n : Note) → puts (queue.Up seat.app) es ≡ before ++ item.Note n ∷ rest → IsSince seat.slot steps before rest n

-- each log of an application whose steps are in their ranges shows as pushed, on each slot on which no step sends packets as it says, pieces of the blobs of
-- its steps
abbrev pub SendPieces : Type 0
SendPieces =
    (seat : Seat) (steps : List PlainStep) (es : List Entry) → seat.slot < SLOTS → AllByRecursion IsStep steps → list_any (sends_packets seat.slot) steps ≡ false → IsAppLog seat.app steps es
    → SendsPieces seat steps es
