-- how many boxes a turn of a link may take, and what it leaves of its stock of them
use Rattle.std.specs.Prelude.{ℕ, ◌+◌, ◌-◌, Option, Some, None, max, if◌then◌else◌}
use Rattle.csp_link.specs.Fates.{fate_at, most_copies}
use Rattle.csp_link.specs.PlainLink.{PlainDirection, PlainLink, in_turn}
use Rattle.csp_link.specs.Turns.{frame_in}
use Rattle.csp_link.specs.declared.doing.Doing.{Doing}
use Rattle.csp_link.specs.declared.doing.Doing.TheVariants as doing
use Rattle.csp_link.specs.declared.fates.Fate.{Fate}
use Rattle.csp_log.specs.PlainSpares.{PlainSpares, with_box}
use Rattle.csp_log.specs.declared.frame.Frame.{Frame}
use Rattle.csp_log.specs.declared.shown.AnswerShown.{AnswerShown}
use Rattle.csp_log.specs.declared.shown.AnswerShown.TheVariants as answer

-- the most boxes that a turn takes: as many as the plan adds copies to a frame, in either direction
abbrev pub needs : PlainLink → ℕ
needs s = max (most_copies s.forth.fates) (most_copies s.back.fates)

-- a lost frame's box is put back; each copy of any other takes one
abbrev pub stock_after : Fate → PlainSpares → PlainSpares
stock_after fate s = (if fate.lost then with_box s else record { boxes = s.boxes - fate.repeats; room = s.room })

-- of a frame that is popped, the next in number
abbrev pub taken_stock : Option Frame → PlainDirection → PlainSpares → PlainSpares
taken_stock (Some _) d s = stock_after (fate_at d.fates (d.popped + 1)) s
taken_stock None d s = s

-- only what is popped changes it
abbrev pub told_stock : Doing → AnswerShown → PlainDirection → PlainSpares → PlainSpares
told_stock doing.Pop (answer.Popped i) d s = taken_stock (frame_in i) d s
told_stock _ _ d s = s

-- what is left of a stock of boxes once the link was told this answer
abbrev pub stocks : PlainLink → ℕ → AnswerShown → PlainSpares → PlainSpares
stocks link now a s = told_stock link.doing a (in_turn link) s
