-- what a turn comes to, once its answer is known
use Rattle.std.specs.Prelude.{◌+◌, true, false, None, List, [], ◌∷◌, ◌++◌}
use Rattle.csp_app.specs.PlainApp.{PlainApp}
use Rattle.csp_log.specs.declared.event.Event.{Event}

-- the application after it, and what it reports
pub record ToldApp : Type 0 where
  pub state : PlainApp
  pub events : List Event

-- nothing is reported, and the present step stays
abbrev pub still : PlainApp → ToldApp
still s = record { state = s; events = [] }

-- the next step is the present one
abbrev pub next : PlainApp → PlainApp
next s = record s { done = s.done + 1; since = None; asked = false; sent = 0 }

-- the present step is done
abbrev pub over : PlainApp → ToldApp
over s = record { state = next s; events = [] }

-- and that is reported
abbrev pub over_with : Event → PlainApp → ToldApp
over_with e s = record { state = next s; events = e ∷ [] }

-- the operation was refused: `Down` is popped once before the step tries again
abbrev pub put_off : PlainApp → ToldApp
put_off s = record { state = record s { refused = true }; events = [] }

-- these events come first
abbrev pub after : List Event → ToldApp → ToldApp
after es t = record { state = t.state; events = es ++ t.events }

-- no such answer comes
abbrev pub not_an_answer : PlainApp → ToldApp
not_an_answer s = still s
