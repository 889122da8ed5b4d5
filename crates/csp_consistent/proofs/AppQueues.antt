-- An application keeps its number, and uses the lanes of that.
use Rattle.std.proofs.Common.{◌≡◌, ℕ, ◌+◌, Bool, true, false, Option, None, Some}
use Rattle.std.specs.Prelude.{nat_lt}
use Rattle.csp_app.specs.Asking as asking
use Rattle.csp_app.specs.Making.{note_in}
use Rattle.csp_app.specs.PlainApp.{PlainApp}
use Rattle.csp_app.specs.Slots.{slot_at}
use Rattle.csp_app.specs.Steps as steps
use Rattle.csp_app.specs.Steps.{plan_of, turn_of}
use Rattle.csp_app.specs.Telling as telling
use Rattle.csp_app.specs.ToldApp.{ToldApp}
use Rattle.csp_app.specs.Turn.{Turn, gives, giving_op, op_of, popped, pops, pushes, pushing_op, rests, takes, told_of, until_told}
use Rattle.csp_app.specs.declared.plan.AppPlan.{AppPlan}
use Rattle.csp_app.specs.declared.plan.AppPlan.TheVariants as plan
use Rattle.csp_buffer.specs.Content.{Content}
use Rattle.csp_consistent.specs.Queues.{MayAsk}
use Rattle.csp_log.specs.declared.note.Note.{Note}
use Rattle.csp_log.specs.declared.note.Note.TheVariants as note
use Rattle.csp_log.specs.declared.shown.AnswerShown.{AnswerShown}
use Rattle.csp_log.specs.declared.shown.AnswerShown.TheVariants as answer
use Rattle.csp_log.specs.declared.shown.ItemShown.{ItemShown}
use Rattle.csp_log.specs.declared.who.Who.TheVariants as who

-- whatever comes of a turn, the application has this number
abbrev Has : ℕ → ToldApp → Type 0
Has number t = t.state.number ≡ number

abbrev Leaves : ℕ → Turn → Type 0
Leaves number (rests told) = Has number told
Leaves number (takes taken none) = ((b : Content) → Has number (taken b)) × Has number none
Leaves number (gives c until given back) = (until.number ≡ number) × Has number given × ((b : Content) → Has number (back b))
Leaves number (pushes c until pushed back) = (until.number ≡ number) × Has number pushed × ((i : ItemShown) → Has number (back i))
Leaves number (pops until look) = (until.number ≡ number) × ((n : Option Note) (s : PlainApp) → s.number ≡ number → Has number (look n s))

number_pushed : (number : ℕ) (more : Bool) (s : PlainApp) → s.number ≡ number → Has number (steps.pushed_one more s)
number_pushed number true s e = e
number_pushed number false s e = e

number_answered : (number : ℕ) (n : Option Note) (s : PlainApp) → s.number ≡ number → Has number (steps.answered n s)
number_answered number None s e = e
number_answered number (Some note.Bound) s e = e
number_answered number (Some (note.Connected slot)) s e = e
number_answered number (Some (note.Closed slot)) s e = e
number_answered number (Some (note.Refused reason)) s e = e
number_answered number (Some (note.Down slot)) s e = e
number_answered number (Some (note.Bind port need)) s e = e
number_answered number (Some (note.Connect slot dest port prio flags from)) s e = e
number_answered number (Some (note.Close slot)) s e = e

number_received : (number slot packets : ℕ) (enough passed down : Bool) (s : PlainApp) → s.number ≡ number → Has number (steps.recv_end slot packets enough passed down s)
number_received number slot packets true passed down s e = e
number_received number slot packets false true down s e = e
number_received number slot packets false false true s e = e
number_received number slot packets false false false s e = e

number_waited : (number : ℕ) (passed : Bool) (s : PlainApp) → s.number ≡ number → Has number (steps.wait_end passed s)
number_waited number true s e = e
number_waited number false s e = e

leaves : (number : ℕ) (s : PlainApp) (now : ℕ) (p : AppPlan) → s.number ≡ number → Leaves number (turn_of s now p)
leaves number s now plan.Rest e = e
leaves number s now plan.Return e = (e, e, λ b. e)
leaves number s now plan.Look e = (e, λ n t f. f)
leaves number s now plan.Take e = ((λ b. e), e)
leaves number s now plan.Give e = (e, e, λ b. e)
leaves number s now plan.Skip e = e
leaves number s now (plan.Ask n) e = (e, e, λ i. e)
leaves number s now plan.Await e = (e, λ n t f. number_answered number n t f)
leaves number s now plan.Fill e = ((λ b. e), e)
leaves number s now plan.Push e = (e, number_pushed number (nat_lt (s.sent + 1) (steps.batch s).count) s e, λ i. e)
leaves number s now (plan.Use slot packets) e = e
leaves number s now (plan.Receive slot packets rounds) e =
    (e, λ n t f. number_received number slot packets (steps.is_enough slot packets t) (steps.gives_up rounds now t) (slot_at t.slots slot).down t f)
leaves number s now (plan.Wait rounds) e = (e, λ n t f. number_waited number (steps.has_passed rounds now t) t f)

number_told : (number : ℕ) (s : PlainApp) (t : Turn) (a : AnswerShown) → Leaves number t → s.number ≡ number → Has number (told_of s t a)
number_told number s (rests told) answer.Nothing n e = n
number_told number s (rests told) (answer.Taken b) n e = e
number_told number s (rests told) answer.NoBuffer n e = e
number_told number s (rests told) answer.Given n e = e
number_told number s (rests told) (answer.PoolFull b) n e = e
number_told number s (rests told) answer.Pushed n e = e
number_told number s (rests told) (answer.Full i) n e = e
number_told number s (rests told) (answer.Popped i) n e = e
number_told number s (rests told) answer.Empty n e = e
number_told number s (takes taken none) answer.Nothing n e = e
number_told number s (takes taken none) (answer.Taken b) n e = n.0 b
number_told number s (takes taken none) answer.NoBuffer n e = n.1
number_told number s (takes taken none) answer.Given n e = e
number_told number s (takes taken none) (answer.PoolFull b) n e = e
number_told number s (takes taken none) answer.Pushed n e = e
number_told number s (takes taken none) (answer.Full i) n e = e
number_told number s (takes taken none) (answer.Popped i) n e = e
number_told number s (takes taken none) answer.Empty n e = e
number_told number s (gives c until given back) answer.Nothing n e = e
number_told number s (gives c until given back) (answer.Taken b) n e = e
number_told number s (gives c until given back) answer.NoBuffer n e = e
number_told number s (gives c until given back) answer.Given n e = n.1
number_told number s (gives c until given back) (answer.PoolFull b) n e = n.2 b
number_told number s (gives c until given back) answer.Pushed n e = e
number_told number s (gives c until given back) (answer.Full i) n e = e
number_told number s (gives c until given back) (answer.Popped i) n e = e
number_told number s (gives c until given back) answer.Empty n e = e
number_told number s (pushes c until pushed back) answer.Nothing n e = e
number_told number s (pushes c until pushed back) (answer.Taken b) n e = e
number_told number s (pushes c until pushed back) answer.NoBuffer n e = e
number_told number s (pushes c until pushed back) answer.Given n e = e
number_told number s (pushes c until pushed back) (answer.PoolFull b) n e = e
number_told number s (pushes c until pushed back) answer.Pushed n e = n.1
number_told number s (pushes c until pushed back) (answer.Full i) n e = n.2 i
number_told number s (pushes c until pushed back) (answer.Popped i) n e = e
number_told number s (pushes c until pushed back) answer.Empty n e = e
number_told number s (pops until look) answer.Nothing n e = e
number_told number s (pops until look) (answer.Taken b) n e = e
number_told number s (pops until look) answer.NoBuffer n e = e
number_told number s (pops until look) answer.Given n e = e
number_told number s (pops until look) (answer.PoolFull b) n e = e
number_told number s (pops until look) answer.Pushed n e = e
number_told number s (pops until look) (answer.Full i) n e = e
number_told number s (pops until look) (answer.Popped i) n e = n.1 (note_in i) (popped i s) e
number_told number s (pops until look) answer.Empty n e = n.1 None s e

number_until : (number : ℕ) (s : PlainApp) (t : Turn) → Leaves number t → s.number ≡ number → (until_told s t).number ≡ number
number_until number s (rests told) n e = e
number_until number s (takes taken none) n e = e
number_until number s (gives c until given back) n e = n.0
number_until number s (pushes c until pushed back) n e = n.0
number_until number s (pops until look) n e = n.0

pub app_number : (number : ℕ) (s : PlainApp) (now : ℕ) (a : AnswerShown) → s.number ≡ number → (telling.tells (asking.asked s now) now a).number ≡ number
app_number number s now a e =
    let p = plan_of s in
    let asked : (asking.asked s now).number ≡ number = number_until number s (turn_of s now p) (leaves number s now p e) e in
    let rest = telling.at_rest (asking.asked s now) in
    number_told number rest (turn_of rest now p) a (leaves number rest now p asked) asked

-- what it asks
may_ask : (node number : ℕ) (own : ℕ) (t : Turn) → own ≡ number → MayAsk (who.App node number) (op_of own t)
may_ask node number own (rests told) e = tt
may_ask node number own (takes taken none) e = tt
may_ask node number own (gives c until given back) e = may_give c where
  may_give : (b : Option Content) → MayAsk (who.App node number) (giving_op b)
  may_give None = tt
  may_give (Some b) = tt
may_ask node number own (pushes c until pushed back) e = may_push c where
  may_push : (i : Option ItemShown) → MayAsk (who.App node number) (pushing_op own i)
  may_push None = tt
  may_push (Some i) = e
may_ask node number own (pops until look) e = e

pub app_asks : (node number : ℕ) (s : PlainApp) (now : ℕ) → s.number ≡ number → MayAsk (who.App node number) (asking.asks s now)
app_asks node number s now e = may_ask node number s.number (turn_of s now (plan_of s)) e
