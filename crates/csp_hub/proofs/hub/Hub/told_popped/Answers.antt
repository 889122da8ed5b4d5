use Rattle.std.proofs.Common.{◌≡◌, ◌-◌, ◌*◌, ◌≤◌, List, ◌∙◌, length, subst, sym, ap, arith}
use Rattle.std.specs.Prelude.{slice_set}
use Rattle.std.specs.Vec.{with_item, with_items}
use Rattle.std.proofs.lemmas.List.{length-set, with_items_is}
use Rattle.csp_deck.specs.Step.{IsAnswerOf}
use Rattle.csp_hub.specs.Asking.{awaits}
use Rattle.csp_hub.specs.PlainHub.{PlainEnd, PlainHub, uses}
use Rattle.csp_hub.specs.Room.{plain_hub}
use Rattle.csp_hub.specs.Stocking.{copy_count, needs}
use Rattle.csp_hub.specs.Telling.{held_for_others}
use Rattle.csp_link.specs.Copies.{held_copies}
use Rattle.csp_log.specs.Pictures.{shown_item}
use Rattle.csp_log.specs.declared.shown.AnswerShown.TheVariants as answer
use Rattle.csp_hub.proofs.Sound.{IsSoundEnd, long_others, popped_carried, sound_at, taken_hub}
use Rattle.csp_hub.proofs.Stocked.{few_copies, least_left}
use Rattle.csp_hub.proofs.hub.Hub.told_popped.Goals as goal

pub spread-requires-clause-stock : goal.spread-requires-clause-stock
spread-requires-clause-stock c =
    let h : PlainHub = plain_hub c.self.inside in
    let few = few_copies h c.from-from.result c.index_mut.result.now c.send-fate.result
    (omega (arith, c.from-from.ensures, c.self.invariant.serving)) c.index_mut.ensures.value c.send-fate.ensures.most in
    let all : needs h ≤ c.args.spares.now.boxes = subst (λ (x : PlainHub). needs x ≤ c.args.spares.now.boxes) (sym c.self.view_is) c.requires.stock in
    let long : length c.as_mut_slice.result.now ≡ length h.ends = ap length c.as_mut_slice.ensures.value ∙ length-set h.ends c.from-from.result c.send-fate.new.self in
    subst (λ n. (n - 1) * copy_count c.send-fate.result ≤ c.args.spares.now.boxes) (sym long) (omega (arith, few, all))

pub invariant_of-self : goal.invariant_of-self
invariant_of-self c =
    let h : PlainHub = plain_hub c.self.inside in
    let e : PlainEnd = c.index_mut.result.now in
    let fits : IsAnswerOf (uses h) (awaits h) (answer.Popped (shown_item c.args.item)) =
    subst (λ (x : PlainHub). IsAnswerOf (uses x) (awaits x) (answer.Popped (shown_item c.args.item))) (sym c.self.view_is) c.requires.fits in
    let carried = popped_carried h h.doing (shown_item c.args.item) c.frame_of-frame.result fits c.frame_of-frame.ensures in
    let sound = sound_at h c.from-from.result e c.self.invariant c.from-from.ensures c.index_mut.ensures.value in
    let after : List PlainEnd = slice_set h.ends c.from-from.result c.send-fate.new.self in
    let spread : c.spread.new.ends ≡ held_for_others c.from-from.result (held_copies c.send-fate.result c.args.now c.frame_of-frame.result) after =
    c.spread.ensures.held ∙ ap (held_for_others c.from-from.result (held_copies c.send-fate.result c.args.now c.frame_of-frame.result)) c.as_mut_slice.ensures.value in
    let ends = with_item c.self.inside.ends c.from-from.result c.send-fate.new.self in
    let as_long : length c.spread.new.ends ≡ c.self.inside.ends.len =
    ap length spread ∙ long_others c.from-from.result (held_copies c.send-fate.result c.args.now c.frame_of-frame.result) after
    ∙ length-set h.ends c.from-from.result c.send-fate.new.self ∙ sym c.self.inside.ends.ok.0 in
    let many : c.len.result ≡ length h.ends = omega (arith, c.len.ensures, c.self.inside.ends.ok.0) in
    taken_hub h c.from-from.result c.next_end-self-inside.result c.len.result h.serving c.args.now c.send-fate.result c.frame_of-frame.result c.send-fate.new.self
    (with_items ends c.spread.new.ends).items c.self.invariant (subst IsSoundEnd (sym c.send-fate.ensures.state) sound) carried
    (with_items_is ends c.spread.new.ends as_long ∙ spread) c.next_end-self-inside.ensures many

pub returns-clause-least : goal.returns-clause-least
returns-clause-least c =
    let h : PlainHub = plain_hub c.self.inside in
    let few = few_copies h c.from-from.result c.index_mut.result.now c.send-fate.result
    (omega (arith, c.from-from.ensures, c.self.invariant.serving)) c.index_mut.ensures.value c.send-fate.ensures.most in
    let long : length c.as_mut_slice.result.now ≡ length h.ends = ap length c.as_mut_slice.ensures.value ∙ length-set h.ends c.from-from.result c.send-fate.new.self in
    let fits : (length c.as_mut_slice.result.now - 1) * copy_count c.send-fate.result ≤ needs c.args.self.now =
    subst (λ n. (n - 1) * copy_count c.send-fate.result ≤ needs c.args.self.now) (sym long) (subst (λ (x : PlainHub). (length h.ends - 1) * copy_count c.send-fate.result ≤ needs x) c.self.view_is few) in
    least_left ((length c.as_mut_slice.result.now - 1) * copy_count c.send-fate.result) (needs c.args.self.now) c.args.spares.now c.spread.new.spares fits c.spread.ensures.stock
