use Rattle.std.proofs.Common.{◌≡◌, ◌∙◌, ap, sym, true, false, get_or}
use Rattle.std.specs.Prelude.{is_some}
use Rattle.std.proofs.lemmas.List.{set-get_or}
use Rattle.csp_rdp_window.proofs.PlaceLemmas.{first_held-at, first_held-none, held_in-none, held_in-whole, without_held-at, without_held-none}
use Rattle.csp_rdp_window.proofs.places.take_first.Goals as goal

pub returns-then-is_some-clause-value : goal.returns-then-is_some-clause-value
returns-then-is_some-clause-value g c =
    let same = c.loop-place.invariant.0 in
    let item = c.place-item.is ∙ ap (λ l. get_or l c.loop-place.place-index c.place-item.result) same in
    let there : is_some c.place-item.result ≡ true = ap is_some c.place-item.is ∙ sym c.is_some.ensures ∙ c.if-is_some.true in
    c.take.ensures.value ∙ sym c.place-item.is
    ∙ first_held-at c.args.places.now c.loop-place.place-index c.place-item.result c.loop-place-test.true item there c.loop-place.invariant.1

pub returns-then-is_some-clause-rest : goal.returns-then-is_some-clause-rest
returns-then-is_some-clause-rest g c =
    let same = c.loop-place.invariant.0 in
    let item = c.place-item.is ∙ ap (λ l. get_or l c.loop-place.place-index c.place-item.result) same in
    let there : is_some c.place-item.result ≡ true = ap is_some c.place-item.is ∙ sym c.is_some.ensures ∙ c.if-is_some.true in
    rw (same, c.take.ensures.after)
    (without_held-at c.args.places.now c.loop-place.place-index c.place-item.result c.loop-place-test.true item there c.loop-place.invariant.1)

pub loop-place-preserved : goal.loop-place-preserved
loop-place-preserved g c =
    let same = c.loop-place.invariant.0 in
    let item = c.place-item.is ∙ ap (λ l. get_or l c.loop-place.place-index c.place-item.result) same in
    let missing : is_some c.place-item.result ≡ false = ap is_some c.place-item.is ∙ sym c.is_some.ensures ∙ c.if-is_some.false in
    (set-get_or c.loop-place.places c.loop-place.place-index c.place-item.result ∙ same, held_in-none c.args.places.now c.loop-place.place-index c.place-item.result c.loop-place-test.true item missing c.loop-place.invariant.1)

pub returns-clause-value : goal.returns-clause-value
returns-clause-value g c =
    sym (first_held-none c.args.places.now (held_in-whole c.args.places.now c.loop-place.place-index c.loop-place-test.false c.loop-place.auto.place-index-end c.loop-place.invariant.1))

pub returns-clause-rest : goal.returns-clause-rest
returns-clause-rest g c =
    c.loop-place.invariant.0
    ∙ sym (without_held-none c.args.places.now (held_in-whole c.args.places.now c.loop-place.place-index c.loop-place-test.false c.loop-place.auto.place-index-end c.loop-place.invariant.1))
