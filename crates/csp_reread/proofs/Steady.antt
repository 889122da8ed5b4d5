-- The kind of its link and its mtu stay an interface's.
use Rattle.std.proofs.Common.{◌≡◌, ℕ, Bool, true, false, List, [], ◌∷◌}
use Rattle.csp_consistent.proofs.Public.{waiting, told}
use Rattle.csp_iface.specs.Asking.{asked}
use Rattle.csp_iface.specs.PlainIface.{PlainIface}
use Rattle.csp_iface.specs.Planning.{plan_of}
use Rattle.csp_iface.specs.Telling.{caught, fetched, is_too_big, kept, pushed, taken_up, tells}
use Rattle.csp_iface.specs.declared.plan.IfacePlan.{IfacePlan}
use Rattle.csp_iface.specs.declared.plan.IfacePlan.TheVariants as plan
use Rattle.csp_log.specs.declared.frame.Frame.{Frame}
use Rattle.csp_log.specs.declared.places.LinkKind.{LinkKind}
use Rattle.csp_log.specs.declared.shown.ItemShown.{ItemShown}
use Rattle.csp_log.specs.declared.shown.ItemShown.TheVariants as item
use Rattle.csp_log.specs.declared.shown.AnswerShown.{AnswerShown}
use Rattle.csp_log.specs.declared.shown.AnswerShown.TheVariants as answer

-- an interface on a link of this kind, with this mtu
abbrev pub IsOn : LinkKind → ℕ → PlainIface → Type 0
IsOn kind mtu s = (s.kind ≡ kind) × (s.mtu ≡ mtu)

handed_on : (kind : LinkKind) (mtu : ℕ) (s : PlainIface) (p : IfacePlan) → IsOn kind mtu s → IsOn kind mtu (waiting s p)
handed_on kind mtu s plan.Rest h = h
handed_on kind mtu s plan.Return h = h
handed_on kind mtu s plan.Deliver h = h
handed_on kind mtu s plan.Take h = h
handed_on kind mtu s plan.Transmit h = h
handed_on kind mtu s plan.Fetch h = h
handed_on kind mtu s plan.Receive h = h

pushed_on : (kind : LinkKind) (mtu : ℕ) (fs : List Frame) (s : PlainIface) → IsOn kind mtu s → IsOn kind mtu (pushed fs s)
pushed_on kind mtu [] s h = h
pushed_on kind mtu (_ ∷ _) s h = h

kept_on : (kind : LinkKind) (mtu : ℕ) (i : ItemShown) (s : PlainIface) → IsOn kind mtu s → IsOn kind mtu (kept i s)
kept_on kind mtu (item.Frame _) s h = h
kept_on kind mtu (item.Packet _ _) s h = h
kept_on kind mtu (item.Note _) s h = h

fetched_on : (kind : LinkKind) (mtu : ℕ) (i : ItemShown) (s : PlainIface) → IsOn kind mtu s → IsOn kind mtu (fetched i s).iface
fetched_on kind mtu (item.Frame _) s h = h
fetched_on kind mtu (item.Packet mark b) s h = taken (is_too_big s b)
  where
    taken : (big : Bool) → IsOn kind mtu (taken_up big mark b s).iface
    taken true = h
    taken false = h
fetched_on kind mtu (item.Note _) s h = h

caught_on : (kind : LinkKind) (mtu now : ℕ) (i : ItemShown) (s : PlainIface) → IsOn kind mtu s → IsOn kind mtu (caught now i s).iface
caught_on kind mtu now (item.Frame _) s h = h
caught_on kind mtu now (item.Packet _ _) s h = h
caught_on kind mtu now (item.Note _) s h = h

told_on : (kind : LinkKind) (mtu : ℕ) (s : PlainIface) (now : ℕ) (p : IfacePlan) (a : AnswerShown) → IsOn kind mtu s → IsOn kind mtu (told s now p a)
told_on kind mtu s now plan.Return answer.Given h = h
told_on kind mtu s now plan.Return (answer.PoolFull b) h = h
told_on kind mtu s now plan.Deliver answer.Pushed h = h
told_on kind mtu s now plan.Deliver (answer.Full i) h = h
told_on kind mtu s now plan.Take (answer.Taken b) h = h
told_on kind mtu s now plan.Take answer.NoBuffer h = h
told_on kind mtu s now plan.Transmit answer.Pushed h = pushed_on kind mtu (waiting s plan.Transmit).frames (waiting s plan.Transmit) h
told_on kind mtu s now plan.Transmit (answer.Full i) h = kept_on kind mtu i (waiting s plan.Transmit) h
told_on kind mtu s now plan.Fetch (answer.Popped i) h = fetched_on kind mtu i (waiting s plan.Fetch) h
told_on kind mtu s now plan.Fetch answer.Empty h = h
told_on kind mtu s now plan.Receive (answer.Popped i) h = caught_on kind mtu now i (waiting s plan.Receive) h
told_on kind mtu s now plan.Receive answer.Empty h = h
told_on kind mtu s now p a h = handed_on kind mtu s p h

pub step_on : (kind : LinkKind) (mtu : ℕ) (s : PlainIface) (now : ℕ) (a : AnswerShown) → IsOn kind mtu s → IsOn kind mtu (tells (asked s now) now a)
step_on kind mtu s now a h = told_on kind mtu s now (plan_of s) a h
