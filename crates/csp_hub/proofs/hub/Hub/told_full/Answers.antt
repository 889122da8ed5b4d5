use Rattle.std.proofs.Common.{◌≡◌, length, subst, sym, arith}
use Rattle.csp_deck.specs.Step.{IsAnswerOf}
use Rattle.csp_hub.specs.Asking.{awaits}
use Rattle.csp_hub.specs.PlainHub.{PlainEnd, PlainHub, uses}
use Rattle.csp_hub.specs.Room.{plain_hub}
use Rattle.csp_log.specs.Pictures.{shown_item}
use Rattle.csp_log.specs.declared.shown.AnswerShown.TheVariants as answer
use Rattle.csp_hub.proofs.Sound.{IsSoundEnd, back_hub, full_carried, kept_sound, sound_at}
use Rattle.csp_hub.proofs.hub.Hub.told_full.Goals as goal

pub invariant_of-self : goal.invariant_of-self
invariant_of-self c =
    let h : PlainHub = plain_hub c.self.inside in
    let e : PlainEnd = c.index_mut.result.now in
    let fits : IsAnswerOf (uses h) (awaits h) (answer.Full (shown_item c.args.item)) =
    subst (λ (x : PlainHub). IsAnswerOf (uses x) (awaits x) (answer.Full (shown_item c.args.item))) (sym c.self.view_is) c.requires.fits in
    let carried = full_carried h h.doing (shown_item c.args.item) c.frame_of-frame.result fits c.frame_of-frame.ensures in
    let sound = sound_at h c.from.result e c.self.invariant c.from.ensures c.index_mut.ensures.value in
    let many : c.len.result ≡ length h.ends = omega (arith, c.len.ensures, c.self.inside.ends.ok.0) in
    back_hub h c.from.result c.next_end-self-inside.result c.len.result h.serving c.keep.new.self c.self.invariant
    (subst IsSoundEnd (sym c.keep.ensures) (kept_sound c.in-Push.place c.in-Push.due c.frame_of-frame.result e sound carried)) c.next_end-self-inside.ensures many
