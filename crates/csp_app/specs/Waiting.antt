-- the turns of an application that come to nothing, one like the other, while its `Down` is empty
use Rattle.std.specs.Prelude.{ℕ, Bool, true, false, not, ◌&&◌, Option, is_some, List, [], ◌∷◌, if◌then◌else◌}
use Rattle.csp_app.specs.PlainApp.{PlainApp}
use Rattle.csp_app.specs.Slots.{slot_at}
use Rattle.csp_app.specs.Steps.{plan_of, is_enough, has_passed, gives_up}
use Rattle.csp_app.specs.declared.plan.AppPlan.{AppPlan}
use Rattle.csp_app.specs.declared.plan.AppPlan.TheVariants as plan
use Rattle.csp_log.specs.declared.places.QueueId.{QueueId}
use Rattle.csp_log.specs.declared.places.QueueId.TheVariants as queue

-- between two turns
abbrev pub is_rest : AppPlan → Bool
is_rest plan.Rest = true
is_rest plan.Return = false
is_rest plan.Look = false
is_rest plan.Take = false
is_rest plan.Give = false
is_rest plan.Skip = false
is_rest (plan.Ask _) = false
is_rest plan.Await = false
is_rest plan.Fill = false
is_rest plan.Push = false
is_rest (plan.Use _ _) = false
is_rest (plan.Receive _ _ _) = false
is_rest (plan.Wait _) = false

-- a `recv` that looked before goes on looking: too few packets are there, it doesn't give up, and the slot is not down
abbrev pub receives_on : ℕ → ℕ → Option ℕ → ℕ → PlainApp → Bool
receives_on slot packets rounds now s = is_some s.since && (not (is_enough slot packets s) && (not (gives_up rounds now s) && not (slot_at s.slots slot).down))

-- the turn of this plan looks into `Down`, and where that is empty all stays as it is
abbrev pub waits_on : PlainApp → ℕ → AppPlan → Bool
waits_on s now plan.Rest = false
waits_on s now plan.Return = false
-- the next turn is the step's own again
waits_on s now plan.Look = false
waits_on s now plan.Take = false
waits_on s now plan.Give = false
waits_on s now plan.Skip = false
waits_on s now (plan.Ask _) = false
-- no answer has come
waits_on s now plan.Await = true
waits_on s now plan.Fill = false
waits_on s now plan.Push = false
waits_on s now (plan.Use _ _) = false
-- at its first turn `recv` notes the time
waits_on s now (plan.Receive slot packets rounds) = receives_on slot packets rounds now s
-- and so does `wait`
waits_on s now (plan.Wait rounds) = is_some s.since && not (has_passed rounds now s)

-- the queues that it looks into until it is as it is now, where each is empty
abbrev pub vain_looks : PlainApp → ℕ → List QueueId
vain_looks s now = (if is_rest s.doing && waits_on s now (plan_of s) then queue.Down s.number ∷ [] else [])
