-- What the run of an application gives, by its own log.
use Rattle.std.specs.Prelude.{◌≡◌, ℕ, List}
use Rattle.std.specs.List.{AllByRecursion}
use Rattle.csp_base.specs.Seat.{seat}
use Rattle.csp_app.specs.Asking.{asks, asked}
use Rattle.csp_app.specs.PlainApp.{PlainApp, has_ended, opening}
use Rattle.csp_app.specs.Telling.{events, tells}
use Rattle.csp_app.specs.PlainStep.{PlainStep}
use Rattle.csp_deck.specs.Runs.{IsRun, Steps}
use Rattle.csp_log.specs.declared.entry.Entry.{Entry}
use Rattle.csp_log.specs.declared.places.QueueId.TheVariants as queue
use Rattle.csp_record.specs.Payloads.{took}
use Rattle.csp_prefix.specs.Items.{payloads_in}
use Rattle.csp_consistent.specs.Reading.{gets, puts}
use Rattle.csp_prefix.specs.Routers.{IsUntraced}

-- an application's step
abbrev pub app_steps : Steps PlainApp
app_steps = record { has_ended = has_ended; asks = asks; asked = asked; tells = tells; events = events }

-- the log of an application with this number and script: a run of its turns from its opening
abbrev pub IsAppLog : ℕ → List PlainStep → List Entry → Type 0
IsAppLog number steps es = IsRun app_steps 0 (opening number steps) es

-- its packets have no trace; and it took the payloads of what it got
pub record IsTrueApp (number : ℕ) (es : List Entry) : Type 0 where
  pub untraced : AllByRecursion IsUntraced (puts (queue.Up number) es)
  pub takes : (slot ordinal : ℕ) → took (seat number slot) ordinal es ≡ payloads_in slot ordinal (gets (queue.Down number) es)

-- the claim of applications: each log of one is true
abbrev pub AreTrueApps : Type 0
AreTrueApps = (number : ℕ) (steps : List PlainStep) (es : List Entry) → IsAppLog number steps es → IsTrueApp number es
