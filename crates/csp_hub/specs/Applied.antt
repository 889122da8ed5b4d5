-- that a hub applies its plan: what it pushed to an end and still holds for it is what the plan makes of what it popped from the others
use Rattle.std.specs.Prelude.{ℕ, ◌+◌, ◌<◌, ◌==◌, false, List, [], ◌∷◌, ◌++◌, length, if◌then◌else◌}
use Rattle.std.specs.List.{flat_map}
use Rattle.std.specs.List.Sorted.{IsPermutation}
use Rattle.csp_deck.specs.Runs.{Steps}
use Rattle.csp_hub.specs.Asking.{asks, asked}
use Rattle.csp_hub.specs.PlainHub.{PlainHub, end_at}
use Rattle.csp_hub.specs.Telling.{tells, events}
use Rattle.csp_link.specs.Applied.{frames_in}
use Rattle.csp_link.specs.Copies.{copies_of}
use Rattle.csp_link.specs.Fates.{fate_of}
use Rattle.csp_link.specs.declared.fault.Fault.{Fault}
use Rattle.csp_log.specs.declared.entry.Entry.{Entry}
use Rattle.csp_log.specs.declared.frame.Frame.{Frame}
use Rattle.csp_log.specs.declared.places.QueueId.TheVariants as queue
use Rattle.csp_log.specs.declared.shown.ItemShown.TheVariants as item
use Rattle.csp_log.specs.declared.shown.OpShown.{OpShown}
use Rattle.csp_log.specs.declared.shown.OpShown.TheVariants as op
use Rattle.csp_log.specs.declared.shown.AnswerShown.{AnswerShown}
use Rattle.csp_log.specs.declared.shown.AnswerShown.TheVariants as answer

-- a hub's step
abbrev pub hub_steps : Steps PlainHub
hub_steps = record { has_ended = λ _. false; asks = asks; asked = asked; tells = tells; events = events }

-- the frame that a turn popped from the end of this number, if it did
abbrev pub popped_by : ℕ → OpShown → AnswerShown → List Frame
popped_by k (op.Pop (queue.Tx from)) (answer.Popped (item.Frame frame)) = (if from == k then frame ∷ [] else [])
popped_by k _ _ = []

-- the frame that it pushed to that end, if it did
abbrev pub pushed_by : ℕ → OpShown → AnswerShown → List Frame
pushed_by k (op.Push (queue.Rx to) (item.Frame frame)) answer.Pushed = (if to == k then frame ∷ [] else [])
pushed_by k _ _ = []

-- the frames that entries popped from an end, in order
abbrev pub frames_popped : ℕ → List Entry → List Frame
frames_popped k es = flat_map (λ e. popped_by k e.op e.answer) es

-- the frames that entries pushed to an end, in order
abbrev pub frames_pushed : ℕ → List Entry → List Frame
frames_pushed k es = flat_map (λ e. pushed_by k e.op e.answer) es

-- what the plan makes of the next frame that is popped from an end after these entries
abbrev pub next_made : List Fault → (from : ℕ) → (before : List Entry) → Frame → List Frame
next_made plan from before frame = copies_of (fate_of from (length (frames_popped from before) + 1) plan) frame

-- what a turn after these entries makes for an end: of a frame that it popped from another, what the plan makes of that
abbrev pub made_of : List Fault → (end : ℕ) → (before : List Entry) → OpShown → AnswerShown → List Frame
made_of plan k before (op.Pop (queue.Tx from)) (answer.Popped (item.Frame frame)) = (if from == k then [] else next_made plan from before frame)
made_of plan k before _ _ = []

-- what it makes for an end of all frames that entries popped from the others, after these entries before
abbrev pub made_after : List Fault → (end : ℕ) → (before : List Entry) → List Entry → List Frame
made_after plan k before [] = []
made_after plan k before (e ∷ es) = made_of plan k before e.op e.answer ++ made_after plan k (before ++ e ∷ []) es

-- what each end was pushed, with what is still held for it, is just what the plan makes of what was popped from the others, in some order
abbrev pub AppliesPlan : List Fault → List Entry → PlainHub → Type 0
AppliesPlan plan es h = (k : ℕ) → k < length h.ends → IsPermutation (made_after plan k [] es) (frames_pushed k es ++ frames_in (end_at k h.ends).held)
