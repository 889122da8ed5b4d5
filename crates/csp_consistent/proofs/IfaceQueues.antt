-- An interface keeps its number, and uses the queues of that.
use Rattle.std.proofs.Common.{◌≡◌, ℕ, Bool, true, false, Option, None, Some, List, [], ◌∷◌, refl, ◌∙◌}
use Rattle.std.specs.Prelude.{slice_get}
use Rattle.csp_buffer.specs.Content.{Content}
use Rattle.csp_consistent.specs.Queues.{MayAsk}
use Rattle.csp_iface.specs.Asking as asking
use Rattle.csp_iface.specs.PlainIface.{PlainIface}
use Rattle.csp_iface.specs.Planning.{plan_of}
use Rattle.csp_iface.specs.Telling as telling
use Rattle.csp_iface.specs.declared.plan.IfacePlan.{IfacePlan}
use Rattle.csp_iface.specs.declared.plan.IfacePlan.TheVariants as plan
use Rattle.csp_log.specs.declared.frame.Frame.{Frame}
use Rattle.csp_log.specs.declared.shown.AnswerShown.{AnswerShown}
use Rattle.csp_log.specs.declared.shown.AnswerShown.TheVariants as answer
use Rattle.csp_log.specs.declared.shown.ItemShown.{ItemShown}
use Rattle.csp_log.specs.declared.shown.ItemShown.TheVariants as item
use Rattle.csp_log.specs.declared.who.Who.TheVariants as who

number_pushed : (frames : List Frame) (s : PlainIface) → (telling.pushed frames s).number ≡ s.number
number_pushed [] s = refl
number_pushed (x ∷ frames) s = refl

number_kept : (i : ItemShown) (s : PlainIface) → (telling.kept i s).number ≡ s.number
number_kept (item.Packet mark b) s = refl
number_kept (item.Frame f) s = refl
number_kept (item.Note n) s = refl

number_fetched : (i : ItemShown) (s : PlainIface) → (telling.fetched i s).iface.number ≡ s.number
number_fetched (item.Packet mark b) s = taken (telling.is_too_big s b)
  where
    taken : (big : Bool) → (telling.taken_up big mark b s).iface.number ≡ s.number
    taken true = refl
    taken false = refl
number_fetched (item.Frame f) s = refl
number_fetched (item.Note n) s = refl

number_caught : (now : ℕ) (i : ItemShown) (s : PlainIface) → (telling.caught now i s).iface.number ≡ s.number
number_caught now (item.Packet mark b) s = refl
number_caught now (item.Frame f) s = refl
number_caught now (item.Note n) s = refl

number_told : (s : PlainIface) (now : ℕ) (p : IfacePlan) (a : AnswerShown) → (telling.after_answer s now p a).iface.number ≡ s.number
number_told s now plan.Rest answer.Nothing = refl
number_told s now plan.Rest (answer.Taken b) = refl
number_told s now plan.Rest answer.NoBuffer = refl
number_told s now plan.Rest answer.Given = refl
number_told s now plan.Rest (answer.PoolFull b) = refl
number_told s now plan.Rest answer.Pushed = refl
number_told s now plan.Rest (answer.Full i) = refl
number_told s now plan.Rest (answer.Popped i) = refl
number_told s now plan.Rest answer.Empty = refl
number_told s now plan.Return answer.Nothing = refl
number_told s now plan.Return (answer.Taken b) = refl
number_told s now plan.Return answer.NoBuffer = refl
number_told s now plan.Return answer.Given = refl
number_told s now plan.Return (answer.PoolFull b) = refl
number_told s now plan.Return answer.Pushed = refl
number_told s now plan.Return (answer.Full i) = refl
number_told s now plan.Return (answer.Popped i) = refl
number_told s now plan.Return answer.Empty = refl
number_told s now plan.Deliver answer.Nothing = refl
number_told s now plan.Deliver (answer.Taken b) = refl
number_told s now plan.Deliver answer.NoBuffer = refl
number_told s now plan.Deliver answer.Given = refl
number_told s now plan.Deliver (answer.PoolFull b) = refl
number_told s now plan.Deliver answer.Pushed = refl
number_told s now plan.Deliver (answer.Full i) = refl
number_told s now plan.Deliver (answer.Popped i) = refl
number_told s now plan.Deliver answer.Empty = refl
number_told s now plan.Take answer.Nothing = refl
number_told s now plan.Take (answer.Taken b) = refl
number_told s now plan.Take answer.NoBuffer = refl
number_told s now plan.Take answer.Given = refl
number_told s now plan.Take (answer.PoolFull b) = refl
number_told s now plan.Take answer.Pushed = refl
number_told s now plan.Take (answer.Full i) = refl
number_told s now plan.Take (answer.Popped i) = refl
number_told s now plan.Take answer.Empty = refl
number_told s now plan.Transmit answer.Nothing = refl
number_told s now plan.Transmit (answer.Taken b) = refl
number_told s now plan.Transmit answer.NoBuffer = refl
number_told s now plan.Transmit answer.Given = refl
number_told s now plan.Transmit (answer.PoolFull b) = refl
number_told s now plan.Transmit answer.Pushed = number_pushed s.frames s
number_told s now plan.Transmit (answer.Full i) = number_kept i s
number_told s now plan.Transmit (answer.Popped i) = refl
number_told s now plan.Transmit answer.Empty = refl
number_told s now plan.Fetch answer.Nothing = refl
number_told s now plan.Fetch (answer.Taken b) = refl
number_told s now plan.Fetch answer.NoBuffer = refl
number_told s now plan.Fetch answer.Given = refl
number_told s now plan.Fetch (answer.PoolFull b) = refl
number_told s now plan.Fetch answer.Pushed = refl
number_told s now plan.Fetch (answer.Full i) = refl
number_told s now plan.Fetch (answer.Popped i) = number_fetched i s
number_told s now plan.Fetch answer.Empty = refl
number_told s now plan.Receive answer.Nothing = refl
number_told s now plan.Receive (answer.Taken b) = refl
number_told s now plan.Receive answer.NoBuffer = refl
number_told s now plan.Receive answer.Given = refl
number_told s now plan.Receive (answer.PoolFull b) = refl
number_told s now plan.Receive answer.Pushed = refl
number_told s now plan.Receive (answer.Full i) = refl
number_told s now plan.Receive (answer.Popped i) = number_caught now i s
number_told s now plan.Receive answer.Empty = refl

number_handed : (s : PlainIface) (p : IfacePlan) → (asking.handed s p).number ≡ s.number
number_handed s plan.Rest = refl
number_handed s plan.Return = refl
number_handed s plan.Deliver = refl
number_handed s plan.Take = refl
number_handed s plan.Transmit = refl
number_handed s plan.Fetch = refl
number_handed s plan.Receive = refl

pub iface_number : (s : PlainIface) (now : ℕ) (a : AnswerShown) → (telling.tells (asking.asked s now) now a).number ≡ s.number
iface_number s now a = let t = asking.asked s now in number_told (telling.resting t) now t.doing a ∙ number_handed s (plan_of s)

-- what it asks
may_give : (node number : ℕ) (b : Option Content) → MayAsk (who.Iface node number) (asking.given b)
may_give node number None = tt
may_give node number (Some b) = tt

may_deliver : (node number own : ℕ) (b : Option Content) → own ≡ number → MayAsk (who.Iface node number) (asking.delivered own b)
may_deliver node number own None e = tt
may_deliver node number own (Some b) e = e

may_transmit : (node number own : ℕ) (f : Option Frame) → own ≡ number → MayAsk (who.Iface node number) (asking.transmitted own f)
may_transmit node number own None e = tt
may_transmit node number own (Some f) e = e

may_ask : (node number : ℕ) (s : PlainIface) (p : IfacePlan) → s.number ≡ number → MayAsk (who.Iface node number) (asking.op_of s p)
may_ask node number s plan.Rest e = tt
may_ask node number s plan.Return e = may_give node number s.back
may_ask node number s plan.Deliver e = may_deliver node number s.number s.accepted e
may_ask node number s plan.Take e = tt
may_ask node number s plan.Transmit e = may_transmit node number s.number (slice_get s.frames 0) e
may_ask node number s plan.Fetch e = e
may_ask node number s plan.Receive e = e

pub iface_asks : (node number : ℕ) (s : PlainIface) (now : ℕ) → s.number ≡ number → MayAsk (who.Iface node number) (asking.asks s now)
iface_asks node number s now e = may_ask node number s (plan_of s) e
