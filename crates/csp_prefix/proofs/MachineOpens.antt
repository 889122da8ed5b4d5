-- By which steps a reliable connection becomes open.
use Rattle.std.proofs.Common.{◌≡◌, inl, inr, refl, sym, ◌∙◌, subst}
use Rattle.std.specs.Prelude.{◌⊎◌}
use Rattle.csp_rdp.specs.Machine.{PlainRdp}
use Rattle.csp_rdp.specs.declared.answers.State.{State}
use Rattle.csp_rdp.specs.declared.answers.State.TheVariants.{Closed, SynSent, SynRcvd, Open, CloseWait}
use Rattle.csp_prefix.specs.Slots.{Opens}
use Rattle.csp_prefix.proofs.MachineSteps.{Ways, on, over, off}

-- before it is open
abbrev pub IsEarly : State → Type 0
IsEarly SynSent = Unit {0}
IsEarly SynRcvd = Unit {0}
IsEarly Open = ⊥
IsEarly CloseWait = ⊥
IsEarly Closed = ⊥

pub early-is : (s : State) → (s ≡ SynSent) ⊎ (s ≡ SynRcvd) → IsEarly s
early-is s (inl e) = subst IsEarly (sym e) tt
early-is s (inr e) = subst IsEarly (sym e) tt

pub opens-sent : (s z : State) → s ≡ SynSent → z ≡ Open → Opens s z
opens-sent s z e f = rw (e, f) tt

pub opens-rcvd : (s z : State) → s ≡ SynRcvd → z ≡ Open → Opens s z
opens-rcvd s z e f = rw (e, f) tt

-- only from there, and it is open then
opens-so : (s z : State) → Opens s z → IsEarly s × (z ≡ Open)
opens-so SynSent Open f = (tt, refl)
opens-so SynRcvd Open f = (tt, refl)
opens-so SynSent _ f = absurd f
opens-so SynRcvd _ f = absurd f
opens-so Open Open f = absurd f
opens-so CloseWait Open f = absurd f
opens-so Closed Open f = absurd f
opens-so _ _ f = absurd f

pub opens-early : (s z : State) → Opens s z → IsEarly s
opens-early s z f = (opens-so s z f).0

-- not by one that leaves its state
pub opens-not : (s z : State) → z ≡ s → Opens s z → ⊥
opens-not s z e f = let so = opens-so s z f in subst IsEarly (sym e ∙ so.1) so.0

pub ways-not : (a b : PlainRdp) → Ways a b → Opens a.state b.state → ⊥
ways-not a b (on g) f = opens-not a.state b.state g.state_is f
ways-not a b (over g) f = let e : Closed ≡ Open = sym g.state_is ∙ (opens-so a.state b.state f).1 in absurd cc
ways-not a b (off g) f = let e : CloseWait ≡ Open = sym g.state_is ∙ (opens-so a.state b.state f).1 in absurd cc
