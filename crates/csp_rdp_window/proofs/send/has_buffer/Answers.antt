use Rattle.std.proofs.Common.{◌∙◌, ap, eq-eqb, sym}
use Rattle.std.specs.Prelude.{◌==◌, is_some}
use Rattle.std.proofs.lemmas.Bool.{ne_eqb}
use Rattle.csp_rdp_window.specs.Places.{held_in}
use Rattle.csp_rdp_window.proofs.CountLemmas.{times-find}
use Rattle.csp_rdp_window.proofs.PlaceLemmas.{found, none-found, passed}
use Rattle.csp_rdp_window.proofs.send.has_buffer.Goals as goal
use Rattle.csp_rdp_window.proofs.send.has_buffer.Goals.{in_default-via-in-None-1, in_default-via-in-Some+else-number}

pub returns-in-loop-place : goal.returns-in-loop-place
returns-in-loop-place c =
    let is = found (λ p. p.buffer.picture.number == c.args.number) c.args.places.now c.loop-place.place-index c.place-item.result c.in-Some.packet
    c.loop-place-test.true c.place-item.is c.in-Some.is (eq-eqb c.in-Some.packet.buffer.picture.number c.args.number (sym c.number.ensures ∙ c.if-number.true)) c.loop-place.invariant in
    sym (times-find (λ p. p.buffer.picture.number) c.args.number (held_in c.args.places.now) ∙ ap is_some is)

pub loop-place-preserved : goal.loop-place-preserved
loop-place-preserved c =
    passed (λ p. p.buffer.picture.number == c.args.number) c.args.places.now c.loop-place.place-index c.place-item.result
    c.loop-place-test.true c.place-item.is
    (elim c.in_default.branch [ in_default-via-in-None-1 w ↦ cc | in_default-via-in-Some+else-number w ↦ cc (ne_eqb w.in-Some.packet.buffer.picture.number c.args.number (λ e. w.if-number.false (w.number.ensures ∙ e))) ])
    c.loop-place.invariant

pub returns : goal.returns
returns c =
    let none = none-found (λ p. p.buffer.picture.number == c.args.number) c.args.places.now c.loop-place.place-index c.loop-place-test.false c.loop-place.auto.place-index-end c.loop-place.invariant in
    sym (times-find (λ p. p.buffer.picture.number) c.args.number (held_in c.args.places.now) ∙ ap is_some none)
