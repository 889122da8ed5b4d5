use Rattle.std.proofs.Common.{get_or, ◌∙◌, sym, ap, ◌≡◌, false}
use Rattle.std.proofs.lemmas.List.{set-get_or}
use Rattle.std.specs.Option.{option_map_or}
use Rattle.csp_rdp_window.specs.Places.{held_in}
use Rattle.csp_rdp_window.specs.Sending.{is_loose}
use Rattle.csp_rdp_window.proofs.PlaceLemmas.{ArePlaced-emptied, none-found, passed, taken-is, taken-out, without_loose-none}
use Rattle.csp_rdp_window.proofs.send.take_loose.Goals as goal

pub returns-then-has_loose-clause-packet : goal.returns-then-has_loose-clause-packet
returns-then-has_loose-clause-packet c =
    let same = c.loop-place.invariant.0 in
    let item = c.place-item.is ∙ ap (λ l. get_or l c.loop-place.place-index c.place-item.result) same in
    let loose : option_map_or is_loose c.place-item.result false ≡ _ = ap (λ x. option_map_or is_loose x false) c.place-item.is ∙ sym c.has_loose.ensures ∙ c.if-has_loose.true in
    c.take.ensures.value ∙ sym c.place-item.is
    ∙ taken-is c.args.places.now c.loop-place.place-index c.place-item.result c.loop-place-test.true item loose c.loop-place.invariant.1

pub returns-then-has_loose-clause-state : goal.returns-then-has_loose-clause-state
returns-then-has_loose-clause-state c =
    let same = c.loop-place.invariant.0 in
    let item = c.place-item.is ∙ ap (λ l. get_or l c.loop-place.place-index c.place-item.result) same in
    let loose : option_map_or is_loose c.place-item.result false ≡ _ = ap (λ x. option_map_or is_loose x false) c.place-item.is ∙ sym c.has_loose.ensures ∙ c.if-has_loose.true in
    rw (same, c.take.ensures.after)
    (taken-out c.args.places.now c.loop-place.place-index c.place-item.result c.loop-place-test.true item loose c.loop-place.invariant.1)

pub returns-then-has_loose-clause-placed : goal.returns-then-has_loose-clause-placed
returns-then-has_loose-clause-placed c =
    λ una t h. rw (c.loop-place.invariant.0, c.take.ensures.after) (ArePlaced-emptied una t c.args.places.now c.loop-place.place-index h)

pub loop-place-preserved : goal.loop-place-preserved
loop-place-preserved c =
    let same = c.loop-place.invariant.0 in
    let item = c.place-item.is ∙ ap (λ l. get_or l c.loop-place.place-index c.place-item.result) same in
    let tight : option_map_or is_loose c.place-item.result false ≡ false = ap (λ x. option_map_or is_loose x false) c.place-item.is ∙ sym c.has_loose.ensures ∙ c.if-has_loose.false in
    (set-get_or c.loop-place.places c.loop-place.place-index c.place-item.result ∙ same, passed is_loose c.args.places.now c.loop-place.place-index c.place-item.result c.loop-place-test.true item tight c.loop-place.invariant.1)

pub returns-clause-state : goal.returns-clause-state
returns-clause-state c =
    let none = none-found is_loose c.args.places.now c.loop-place.place-index c.loop-place-test.false c.loop-place.auto.place-index-end c.loop-place.invariant.1 in
    ap held_in c.loop-place.invariant.0 ∙ sym (without_loose-none (held_in c.args.places.now) none)
