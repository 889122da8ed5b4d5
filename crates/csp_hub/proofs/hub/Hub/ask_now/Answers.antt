use Rattle.std.proofs.Common.{◌≡◌, ℕ, Option, length, subst, sym, ap, ◌∙◌, arith}
use Rattle.std.specs.Prelude.{IfSome}
use Rattle.csp_deck.specs.Carried.{IsCarriedIn}
use Rattle.csp_hub.specs.PlainHub.{PlainEnd, PlainHub, lane_of}
use Rattle.csp_hub.specs.Room.{plain_hub}
use Rattle.csp_link.specs.Holding.{first_due}
use Rattle.csp_link.specs.declared.held.Held.{Held}
use Rattle.csp_link.proofs.Public.{IsFrameOf}
use Rattle.csp_log.specs.declared.places.LinkKind.TheVariants as kind
use Rattle.csp_log.specs.declared.shown.ItemShown.TheVariants as item
use Rattle.csp_hub.proofs.Due.{due_carried}
use Rattle.csp_hub.proofs.Sound.{IsSoundEnd, asked_hub, lane_there, sound_at, without_sound}
use Rattle.csp_hub.proofs.hub.Hub.ask_now.Goals as goal

pub invariant_of-self : goal.invariant_of-self
invariant_of-self c =
    let h : PlainHub = plain_hub c.self.inside in
    let e : PlainEnd = c.index_mut.result.now in
    let sound = sound_at h c.from-from.result e c.self.invariant c.from-from.ensures c.index_mut.ensures.value in
    let state = subst IsSoundEnd (sym c.take_due.ensures.state) (without_sound (first_due c.args.now e.held) e sound) in
    asked_hub h c.from-from.result c.in-Some.place c.held.inside.due c.take_due.new.self c.self.invariant c.from-from.ensures state
    (omega (arith, c.in-Some.ensures.place.0, c.in-Some.place-is)) (omega (arith, c.in-Some.ensures.place.1))

pub returns-in-Some-clause-served : goal.returns-in-Some-clause-served
returns-in-Some-clause-served c =
    let h : PlainHub = plain_hub c.self.inside in
    let e : PlainEnd = c.index_mut.result.now in
    let sound = sound_at h c.from-from.result e c.self.invariant c.from-from.ensures c.index_mut.ensures.value in
    let carried : IsFrameOf kind.Can c.in-Some.held.frame =
    subst (λ (o : Option (ℕ × Held)). IfSome o (λ p. IsFrameOf kind.Can p.1.frame)) (sym (sym c.in-Some.is ∙ c.take_due.ensures.found)) (due_carried c.args.now e.held sound) in
    let frame : c.in-Some.held.frame ≡ c.held.inside.frame = ap (λ (x : Held). x.frame) (sym c.held.view_is) in
    let lane = lane_there (length h.ends) h.serving c.self.invariant.serving in
    subst (λ (x : PlainHub). IsCarriedIn (lane_of (length x.ends) h.serving) (item.Frame c.held.inside.frame)) c.self.view_is
    (subst (λ r. IsCarriedIn r (item.Frame c.held.inside.frame)) (sym lane) (subst (IsFrameOf kind.Can) frame carried))
