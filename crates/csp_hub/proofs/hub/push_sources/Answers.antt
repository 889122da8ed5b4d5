use Rattle.std.proofs.Common.{◌≡◌, ◌+◌, ◌-◌, ◌<◌, ◌∷◌, ◌++◌, [], length, sym, ap, ◌∙◌, append_assoc, arith}
use Rattle.std.proofs.lemmas.List.FromFn.{map-range_with_len_more}
use Rattle.csp_hub.specs.Circling.{sources}
use Rattle.csp_log.specs.declared.places.QueueId.TheVariants as queue
use Rattle.csp_hub.proofs.hub.push_sources.Goals as goal

pub push-requires : goal.push-requires
push-requires c =
    let long = c.loop-number.invariant.long in
    let fits : length c.loop-number.circle.items < 8 = omega (arith, long, c.requires.room, c.requires.order, c.loop-number-test.true, c.loop-number.auto.number) in
    (omega arith, fits)

pub loop-number-preserved : goal.loop-number-preserved
loop-number-preserved c =
    let h = c.loop-number.invariant in
    let before = c.args.circle.now.items in
    let number = c.loop-number.number in
    let up : c.args.first + (number - c.args.first) ≡ number = omega (arith, c.loop-number.auto.number, c.loop-number-test.true, c.requires.order) in
    let more : number - c.args.first + 1 ≡ number + 1 - c.args.first = omega (arith, up) in
    record {
      items = c.push.ensures.items
          ∙ ap (λ qs. qs ++ queue.Tx number ∷ []) h.items
          ∙ append_assoc before (sources c.args.first (number - c.args.first)) (queue.Tx number ∷ [])
          ∙ ap (λ qs. before ++ qs) (sym (map-range_with_len_more queue.Tx c.args.first (number - c.args.first) number up))
          ∙ ap (λ n. before ++ sources c.args.first n) more;
      long = omega (arith, c.push.ensures.len, h.long);
    }
