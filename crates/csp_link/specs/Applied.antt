-- that a link applies its plan: what it pushed and still holds is what the plan makes of what it popped
use Rattle.std.specs.Prelude.{ℕ, ◌+◌, ◌==◌, false, List, [], ◌∷◌, ◌++◌, map, if◌then◌else◌}
use Rattle.std.specs.List.{flat_map}
use Rattle.std.specs.List.Sorted.{IsPermutation}
use Rattle.csp_deck.specs.Runs.{Steps}
use Rattle.csp_link.specs.Copies.{copies_of}
use Rattle.csp_link.specs.Fates.{fate_of}
use Rattle.csp_link.specs.PlainLink.{PlainLink, direction}
use Rattle.csp_link.specs.Turns.{asked, asks, events, tells}
use Rattle.csp_link.specs.Ways.{number, other}
use Rattle.csp_link.specs.declared.fates.Fate.{Fate}
use Rattle.csp_link.specs.declared.fault.Fault.{Fault}
use Rattle.csp_link.specs.declared.held.Held.{Held}
use Rattle.csp_link.specs.declared.way.Way.{Way}
use Rattle.csp_log.specs.declared.entry.Entry.{Entry}
use Rattle.csp_log.specs.declared.frame.Frame.{Frame}
use Rattle.csp_log.specs.declared.places.QueueId.TheVariants as queue
use Rattle.csp_log.specs.declared.shown.ItemShown.TheVariants as item
use Rattle.csp_log.specs.declared.shown.OpShown.{OpShown}
use Rattle.csp_log.specs.declared.shown.OpShown.TheVariants as op
use Rattle.csp_log.specs.declared.shown.AnswerShown.{AnswerShown}
use Rattle.csp_log.specs.declared.shown.AnswerShown.TheVariants as answer

-- a link's step
abbrev pub link_steps : Steps PlainLink
link_steps = record { has_ended = λ _. false; asks = asks; asked = asked; tells = tells; events = events }

-- the frame that a turn popped from the first queue of a direction, if it did
abbrev pub popped_by : Way → OpShown → AnswerShown → List Frame
popped_by way (op.Pop (queue.Tx k)) (answer.Popped (item.Frame frame)) = (if k == number way then frame ∷ [] else [])
popped_by way _ _ = []

-- the frame that it pushed to the last one, if it did
abbrev pub pushed_by : Way → OpShown → AnswerShown → List Frame
pushed_by way (op.Push (queue.Rx k) (item.Frame frame)) answer.Pushed = (if k == number (other way) then frame ∷ [] else [])
pushed_by way _ _ = []

-- the frames that a direction popped, and those that it pushed, in order
abbrev pub frames_popped : Way → List Entry → List Frame
frames_popped way es = flat_map (λ e. popped_by way e.op e.answer) es

-- the frames that entries pushed in one direction
abbrev pub frames_pushed : Way → List Entry → List Frame
frames_pushed way es = flat_map (λ e. pushed_by way e.op e.answer) es

-- the frames that are held
abbrev pub frames_in : List Held → List Frame
frames_in held = map (λ h. h.frame) held

-- what is made of frames that have these fates, of which the first has this number
abbrev pub made_from : (fate : ℕ → Fate) → (first : ℕ) → List Frame → List Frame
made_from fate n [] = []
made_from fate n (frame ∷ frames) = copies_of (fate n) frame ++ made_from fate (n + 1) frames

-- what a plan makes of the frames of a direction
abbrev pub made : List Fault → Way → List Frame → List Frame
made plan way frames = made_from (λ n. fate_of (number way) n plan) 1 frames

-- what each direction pushed, with what it still holds, is just what the plan makes of what it popped, in some order
abbrev pub AppliesPlan : List Fault → List Entry → PlainLink → Type 0
AppliesPlan plan es s = (way : Way) → IsPermutation (made plan way (frames_popped way es)) (frames_pushed way es ++ frames_in (direction s way).held)
