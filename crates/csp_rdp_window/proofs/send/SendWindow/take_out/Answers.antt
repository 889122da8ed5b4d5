use Rattle.std.proofs.Common.{◌∙◌, Some, ap, drop, sym}
use Rattle.std.specs.Option.{option_map}
use Rattle.csp_rdp_window.specs.Places.{held_in}
use Rattle.csp_rdp_window.specs.Sending.{PlainSend, first_pending}
use Rattle.csp_rdp_window.proofs.PlaceLemmas.{ArePlaced-without, first_held-pending, held_in-without}
use Rattle.csp_rdp_window.proofs.SendLemmas.{same-seen}
use Rattle.csp_rdp_window.proofs.send.SendWindow.take_out.Goals as goal
use Rattle.csp_rdp_window.proofs.send.SendWindow.take_out.Goals.{in-Some, in-None}

pub invariant_of-self : goal.invariant_of-self
invariant_of-self c = record {
  low = c.self.invariant.low;
  ordered = c.self.invariant.ordered;
  range = c.self.invariant.range;
  narrow = c.self.invariant.narrow;
  placed = rw c.take_first.ensures.rest (ArePlaced-without c.self.inside.una c.self.inside.nxt c.self.inside.places c.self.invariant.placed);
}

pub returns-clause-buffer : goal.returns-clause-buffer
returns-clause-buffer c =
    let first = ap (option_map (λ p. p.buffer)) c.take_first.ensures.value ∙ first_held-pending c.self.inside.places ∙ ap (λ w. first_pending w.packets) c.self.view_is in
    elim c.match-take_first.branch [
      | in-Some w ↦ w.result-is ∙ ap Some w.into_buffer.ensures ∙ sym (ap (option_map (λ p. p.buffer)) w.in-Some.is) ∙ first
      | in-None w ↦ w.result-is ∙ sym (ap (option_map (λ p. p.buffer)) w.in-None.is) ∙ first
    ]

pub returns-clause-state : goal.returns-clause-state
returns-clause-state c =
    let rest : PlainSend → PlainSend = λ w. record w { packets = drop 1 w.packets } in
    same-seen c.self.inside.start.0 c.self.inside.window c.self.inside.una c.self.inside.nxt _ _
    (ap held_in c.take_first.ensures.rest ∙ held_in-without c.self.inside.places)
    ∙ ap rest c.self.view_is
