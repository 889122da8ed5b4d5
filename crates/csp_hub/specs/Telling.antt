-- what a hub becomes when it is told its answer
use Rattle.std.specs.Prelude.{ℕ, zero, suc, ◌+◌, Option, Some, None, List, [], ◌∷◌, ◌++◌, length, map}
use Rattle.std.specs.List.{insert}
use Rattle.csp_hub.specs.PlainHub.{PlainEnd, PlainHub, next_end, served, with_served}
use Rattle.csp_hub.specs.declared.doing.Doing.{Doing}
use Rattle.csp_hub.specs.declared.doing.Doing.TheVariants as doing
use Rattle.csp_link.specs.Copies.{held_copies, held_until}
use Rattle.csp_link.specs.Fates.{fate_at}
use Rattle.csp_link.specs.Turns.{frame_in}
use Rattle.csp_link.specs.declared.fates.Fate.{Fate}
use Rattle.csp_link.specs.declared.held.Held.{Held}
use Rattle.csp_log.specs.declared.event.Event.{Event}
use Rattle.csp_log.specs.declared.frame.Frame.{Frame}
use Rattle.csp_log.specs.declared.shown.AnswerShown.{AnswerShown}
use Rattle.csp_log.specs.declared.shown.AnswerShown.TheVariants as answer

-- a frame that comes back is held in its place
abbrev pub kept : ℕ → ℕ → Option Frame → PlainEnd → PlainEnd
kept place due (Some frame) e = record e { held = insert e.held place (held_until due frame) }
kept place due None e = e

-- one more frame was popped from an end
abbrev pub sent : PlainEnd → PlainEnd
sent e = record e { popped = e.popped + 1 }

-- what happens to the next frame that is popped from it
abbrev pub fate_of_next : PlainEnd → Fate
fate_of_next e = fate_at e.fates (e.popped + 1)

-- these copies are held for an end besides
abbrev pub copies_held : List Held → PlainEnd → PlainEnd
copies_held copies e = record e { held = e.held ++ copies }

-- they are held for every end but that of this number, which is the one that the frame came from
abbrev pub held_for_others : (from : ℕ) → List Held → List PlainEnd → List PlainEnd
held_for_others from copies [] = []
held_for_others zero copies (e ∷ es) = e ∷ map (copies_held copies) es
held_for_others (suc from) copies (e ∷ es) = copies_held copies e ∷ held_for_others from copies es

-- a frame was popped from the end that is served, the next in number: what the plan makes of it is held for every other end
abbrev pub taken : ℕ → Option Frame → PlainHub → PlainHub
taken now (Some frame) h = record h { ends = held_for_others h.serving (held_copies (fate_of_next (served h)) now frame) (with_served h (sent (served h))).ends }
taken now None h = h

-- what each answer makes of the hub
abbrev pub after_answer : ℕ → Doing → AnswerShown → PlainHub → PlainHub
after_answer now (doing.Push place due) answer.Pushed h = h
after_answer now (doing.Push place due) (answer.Full i) h = with_served h (kept place due (frame_in i) (served h))
after_answer now doing.Pop (answer.Popped i) h = taken now (frame_in i) h
after_answer now doing.Pop answer.Empty h = h
after_answer now doing.Wait answer.Nothing h = h
-- no other answer comes
after_answer now _ _ h = h

-- the next turn serves the next end
abbrev pub turned : PlainHub → PlainHub
turned h = record h { serving = next_end (length h.ends) h.serving; doing = doing.Rest }

-- the hub after an answer, with the next end's turn next
abbrev pub tells : PlainHub → ℕ → AnswerShown → PlainHub
tells h now a = turned (after_answer now h.doing a h)

-- a hub reports nothing
abbrev pub events : PlainHub → ℕ → AnswerShown → List Event
events h now a = []
