use Rattle.std.proofs.Common.{◌≡◌, Some, ◌<◌, ◌∷◌, suc, length, map, slice_get, drop, drop-cons, sym, ap, ◌∙◌, arith}
use Rattle.csp_lists.specs.PlainDeck.{holders_among}
use Rattle.csp_lists.proofs.Counting.{first_holder}
use Rattle.csp_lists.proofs.queues.place_among.Goals as goal

pub returns-then-holds : goal.returns-then-holds
returns-then-holds c =
    let qs = c.args.queues.now in
    let k = c.args.number in
    let i = c.loop-queue.queue-index in
    let q = c.queue-item.result in
    let rest = drop (suc i) qs in
    let within : i < length qs = omega arith in
    let here : holders_among (map (λ x. x.queue) qs) k ≡ holders_among (map (λ x. x.queue) (q ∷ rest)) k = sym c.loop-queue.invariant ∙ ap (λ xs. holders_among (map (λ x. x.queue) xs) k) (drop-cons qs i q within ∙ ap (λ x. x ∷ rest) (sym c.queue-item.is)) in
    ap (λ p. Some p) c.place.ensures ∙ sym (ap (λ ps. slice_get ps 0) here ∙ first_holder q.queue (map (λ x. x.queue) rest) k (sym c.holds.ensures ∙ c.if-holds.true))
