use Rattle.std.proofs.Common.{◌≡◌, ◌∙◌, Some, ap, sym}
use Rattle.std.specs.Option.{option_map}
use Rattle.csp_rdp_window.specs.Numbers.{times}
use Rattle.csp_rdp_window.specs.Places.{held_in}
use Rattle.csp_rdp_window.specs.Sending.{send_numbers}
use Rattle.csp_rdp_window.proofs.PlaceLemmas.{without_loose-none}
use Rattle.csp_rdp_window.proofs.SendLemmas.{same-seen, times-drained}
use Rattle.csp_rdp_window.proofs.send.SendWindow.drain.Goals as goal
use Rattle.csp_rdp_window.proofs.send.SendWindow.drain.Goals.{in-Some, in-None}

pub returns-clause-holds : goal.returns-clause-holds
returns-clause-holds c = λ k.
    let buffer : c.match-take_loose.result ≡ option_map (λ p. p.buffer) c.take_loose.result =
    elim c.match-take_loose.branch [
      | in-Some w ↦ w.result-is ∙ ap Some w.into_buffer.ensures ∙ sym (ap (option_map (λ p. p.buffer)) w.in-Some.is)
      | in-None w ↦ w.result-is ∙ sym (ap (option_map (λ p. p.buffer)) w.in-None.is)
    ] in
    times-drained k (held_in c.self.inside.places) (held_in c.take_loose.new.places) c.take_loose.result c.match-take_loose.result
    c.take_loose.ensures.state c.take_loose.ensures.packet buffer
    ∙ ap (λ w. times k (send_numbers w)) c.self.view_is

pub returns-clause-none : goal.returns-clause-none
returns-clause-none c =
    elim c.match-take_loose.branch [
      | in-Some w ↦ rw w.result-is tt
      | in-None w ↦ rw w.result-is
          (same-seen c.self.inside.start.0 c.self.inside.window c.self.inside.una c.self.inside.nxt _ _
          (c.take_loose.ensures.state ∙ without_loose-none (held_in c.self.inside.places) (sym c.take_loose.ensures.packet ∙ w.in-None.is))
          ∙ c.self.view_is)
    ]
