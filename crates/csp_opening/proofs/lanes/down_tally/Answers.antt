use Rattle.std.proofs.Common.{◌≡◌, Some, true, slice_get, sym, ap, ◌∙◌, arith}
use Rattle.std.specs.Option.{option_map}
use Rattle.std.proofs.lemmas.Option.{same_Some, slice_get_within, slice_get-get_or}
use Rattle.csp_consistent.specs.Reading.{is_queue}
use Rattle.csp_ends.proofs.Public.{first_of, none_of, up_to}
use Rattle.csp_log.specs.declared.places.QueueId.TheVariants as queue
use Rattle.csp_opening.specs.declared.lanes.Pair.{Pair}
use Rattle.csp_opening.proofs.lanes.down_tally.Goals as goal

pub returns-then-goes_down : goal.returns-then-goes_down
returns-then-goes_down c =
    let pairs = c.args.pairs.now in
    let x : Pair = c.index-pairs-at.result in
    let y : Pair = c.index-pairs-at-then-goes_down.result in
    let there : slice_get pairs c.loop-at.at ≡ Some x = slice_get-get_or pairs c.loop-at.at x (omega arith) ∙ ap (λ z. Some z) (sym c.index-pairs-at.is) in
    let again : slice_get pairs c.loop-at.at ≡ Some y = slice_get-get_or pairs c.loop-at.at y (omega arith) ∙ ap (λ z. Some z) (sym c.index-pairs-at-then-goes_down.is) in
    let called : is_queue (queue.Down c.args.number) x.wire.queue ≡ true = ap (λ (z : Pair). is_queue (queue.Down c.args.number) z.wire.queue) c.index-pairs-at.is ∙ sym c.goes_down.ensures ∙ c.if-goes_down.true in
    ap (λ n. Some n) (c.tally.ensures ∙ ap (λ (z : Pair). z.consumer.tally) (sym c.index-pairs-at-then-goes_down.is ∙ same_Some y x (sym again ∙ there)))
    ∙ ap (option_map (λ (z : Pair). z.consumer.tally)) (sym (first_of (λ (z : Pair). is_queue (queue.Down c.args.number) z.wire.queue) pairs c.loop-at.at x there called c.loop-at.invariant))

pub loop-at-preserved : goal.loop-at-preserved
loop-at-preserved c =
    let pairs = c.args.pairs.now in
    let x : Pair = c.index-pairs-at.result in
    let there : slice_get pairs c.loop-at.at ≡ Some x = slice_get-get_or pairs c.loop-at.at x (omega arith) ∙ ap (λ z. Some z) (sym c.index-pairs-at.is) in
    up_to (λ (z : Pair). is_queue (queue.Down c.args.number) z.wire.queue) pairs c.loop-at.at x there (ap (λ (z : Pair). is_queue (queue.Down c.args.number) z.wire.queue) c.index-pairs-at.is ∙ sym c.goes_down.ensures ∙ c.if-goes_down.false) c.loop-at.invariant

pub returns : goal.returns
returns c =
    ap (option_map (λ (x : Pair). x.consumer.tally)) (sym (none_of (λ (x : Pair). is_queue (queue.Down c.args.number) x.wire.queue) c.args.pairs.now
    (λ k x there. c.loop-at.invariant k x (let within = slice_get_within c.args.pairs.now k x there in omega (arith, within)) there)))
