-- how many boxes a turn of a hub may take, and what it leaves of its stock of them
use Rattle.std.specs.Prelude.{ℕ, ◌+◌, ◌-◌, ◌*◌, Option, Some, None, List, length, max, if◌then◌else◌}
use Rattle.std.specs.List.{fold}
use Rattle.csp_hub.specs.PlainHub.{PlainEnd, PlainHub, served}
use Rattle.csp_hub.specs.Telling.{fate_of_next}
use Rattle.csp_hub.specs.declared.doing.Doing.{Doing}
use Rattle.csp_hub.specs.declared.doing.Doing.TheVariants as doing
use Rattle.csp_link.specs.Fates.{most_copies}
use Rattle.csp_link.specs.Turns.{frame_in}
use Rattle.csp_link.specs.declared.fates.Fate.{Fate}
use Rattle.csp_log.specs.PlainSpares.{PlainSpares, with_box}
use Rattle.csp_log.specs.declared.frame.Frame.{Frame}
use Rattle.csp_log.specs.declared.shown.AnswerShown.{AnswerShown}
use Rattle.csp_log.specs.declared.shown.AnswerShown.TheVariants as answer

-- the most copies that the plan adds to a frame from any of these ends
abbrev pub most_of : List PlainEnd → ℕ
most_of ends = fold (λ most e. max most (most_copies e.fates)) 0 ends

-- the most boxes that a turn takes: for every end but one as many as the plan makes copies of a frame at most
abbrev pub needs : PlainHub → ℕ
needs h = (length h.ends - 1) * (most_of h.ends + 1)

-- how many copies of a frame with this fate are held for an end: of a lost one none
abbrev pub copy_count : Fate → ℕ
copy_count fate = (if fate.lost then 0 else fate.repeats + 1)

-- so many boxes are taken
abbrev pub less : ℕ → PlainSpares → PlainSpares
less boxes s = record { boxes = s.boxes - boxes; room = s.room }

-- each copy for each other end takes one, and the box of the frame itself is put back
abbrev pub stock_after : (others : ℕ) → Fate → PlainSpares → PlainSpares
stock_after others fate s = with_box (less (others * copy_count fate) s)

-- of a frame that is popped from the end that is served, the next in number
abbrev pub taken_stock : Option Frame → PlainHub → PlainSpares → PlainSpares
taken_stock (Some _) h s = stock_after (length h.ends - 1) (fate_of_next (served h)) s
taken_stock None h s = s

-- only what is popped changes it
abbrev pub told_stock : Doing → AnswerShown → PlainHub → PlainSpares → PlainSpares
told_stock doing.Pop (answer.Popped i) h s = taken_stock (frame_in i) h s
told_stock _ _ h s = s

-- what is left of a stock of boxes once the hub was told this answer
abbrev pub stocks : PlainHub → ℕ → AnswerShown → PlainSpares → PlainSpares
stocks h now a s = told_stock h.doing a h s
