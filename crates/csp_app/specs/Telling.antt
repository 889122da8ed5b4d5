-- what an application becomes when it is told its answer, and what it reports
use Rattle.std.specs.Prelude.{ℕ, List}
use Rattle.csp_app.specs.PlainApp.{PlainApp}
use Rattle.csp_app.specs.Steps.{turn_of}
use Rattle.csp_app.specs.ToldApp.{ToldApp}
use Rattle.csp_app.specs.Turn.{told_of}
use Rattle.csp_app.specs.declared.plan.AppPlan.{AppPlan}
use Rattle.csp_app.specs.declared.plan.AppPlan.TheVariants as plan
use Rattle.csp_log.specs.declared.event.Event.{Event}
use Rattle.csp_log.specs.declared.shown.AnswerShown.{AnswerShown}

-- between two turns
abbrev pub at_rest : PlainApp → PlainApp
at_rest s = record s { doing = plan.Rest }

-- what an answer in the turn of this plan comes to
abbrev pub told_by : PlainApp → ℕ → AppPlan → AnswerShown → ToldApp
told_by s now p a = told_of s (turn_of s now p) a

-- a turn ends with its answer
abbrev pub told : PlainApp → ℕ → AnswerShown → ToldApp
told s now a = told_by (at_rest s) now s.doing a

-- the application after an answer
abbrev pub tells : PlainApp → ℕ → AnswerShown → PlainApp
tells s now a = (told s now a).state

-- what the application reports of an answer
abbrev pub events : PlainApp → ℕ → AnswerShown → List Event
events s now a = (told s now a).events
