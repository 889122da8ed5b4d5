-- what an application asks, and what it is until the answer
use Rattle.std.specs.Prelude.{ℕ}
use Rattle.csp_app.specs.PlainApp.{PlainApp}
use Rattle.csp_app.specs.Steps.{plan_of, turn_of}
use Rattle.csp_app.specs.Turn.{op_of, until_told, kind_of_turn}
use Rattle.csp_app.specs.declared.plan.AppPlan.{AppPlan}
use Rattle.csp_deck.specs.Step.{Kind}
use Rattle.csp_log.specs.declared.shown.OpShown.{OpShown}

-- the operation of a turn
abbrev pub asks : PlainApp → ℕ → OpShown
asks s now = op_of s.number (turn_of s now (plan_of s))

-- the application until the answer
abbrev pub handed : PlainApp → ℕ → AppPlan → PlainApp
handed s now p = until_told s (turn_of s now p)

-- the application from its question until the answer
abbrev pub asked : PlainApp → ℕ → PlainApp
asked s now = record (handed s now (plan_of s)) { doing = plan_of s }

-- what kind of operation it waits for: that is the same at each time
abbrev pub awaits : PlainApp → Kind
awaits s = kind_of_turn s.number (turn_of s 0 s.doing)
