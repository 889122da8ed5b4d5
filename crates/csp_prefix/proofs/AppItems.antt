-- What an application puts into its `Up` is what an `Up` carries, where its script's numbers are in their ranges.
use Rattle.std.proofs.Common.{ℕ, List, refl}
use Rattle.std.specs.List.{AllByRecursion}
use Rattle.csp_app.proofs.Public.{up_carries}
use Rattle.csp_app.specs.PlainStep.{PlainStep}
use Rattle.csp_app.specs.PlainStep as step
use Rattle.csp_app.specs.Room.{IsStep}
use Rattle.csp_deck.specs.Carried.{IsUpItem}
use Rattle.csp_log.specs.declared.entry.Entry.{Entry}
use Rattle.csp_log.specs.declared.places.QueueId.TheVariants as queue
use Rattle.csp_scene.proofs.Public.{AllByRecursion-map}
use Rattle.csp_scene.specs.Ranges as ranges
use Rattle.csp_prefix.specs.Apps.{IsAppLog}
use Rattle.csp_consistent.specs.Reading.{puts}
use Rattle.csp_prefix.proofs.AppPuts.{NotesSo, PutsSo, app_puts}

-- the note that a step asks is a request
notes_up : (x : PlainStep) → IsStep x → NotesSo IsUpItem x
notes_up (step.Bind port need) h = tt
notes_up (step.Connect slot dest port prio flags from) h = h
notes_up (step.Close slot) h = h
notes_up _ h = tt

step_up : (x : PlainStep) → ranges.IsStep x → PutsSo IsUpItem x
step_up x h = ((λ j b. up_carries x j b h.0), notes_up x h.0)

-- from its opening on
pub puts_up_items : (number : ℕ) (steps : List PlainStep) (es : List Entry) → AllByRecursion ranges.IsStep steps → IsAppLog number steps es → AllByRecursion IsUpItem (puts (queue.Up number) es)
puts_up_items number steps es all log = app_puts IsUpItem steps (λ j b marked. absurd (marked refl)) (AllByRecursion-map ranges.IsStep (PutsSo IsUpItem) steps step_up all) (queue.Up number) number es log
