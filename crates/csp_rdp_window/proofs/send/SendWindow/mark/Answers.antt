use Rattle.std.proofs.Common.{◌∙◌, ap}
use Rattle.csp_rdp_window.specs.Places.{held_in}
use Rattle.csp_rdp_window.specs.Sending.{marked, send_numbers, with_mark}
use Rattle.csp_rdp_window.proofs.PlaceLemmas.{held_in-map}
use Rattle.csp_rdp_window.proofs.SendLemmas.{ArePlaced-marked, numbers-marked, same-seen}
use Rattle.csp_rdp_window.proofs.send.SendWindow.mark.Goals as goal

pub invariant_of-self : goal.invariant_of-self
invariant_of-self c = record {
  low = c.self.invariant.low;
  ordered = c.self.invariant.ordered;
  range = c.self.invariant.range;
  narrow = c.self.invariant.narrow;
  placed = rw c.mark_all.ensures (ArePlaced-marked c.args.mark c.self.inside.una c.self.inside.nxt c.self.inside.places c.self.invariant.placed);
}

pub returns-clause-state : goal.returns-clause-state
returns-clause-state c =
    same-seen c.self.inside.start.0 c.self.inside.window c.self.inside.una c.self.inside.nxt _ _
    (ap held_in c.mark_all.ensures ∙ held_in-map (marked c.args.mark) c.self.inside.places)
    ∙ ap (with_mark c.args.mark) c.self.view_is

pub returns-clause-holds : goal.returns-clause-holds
returns-clause-holds c = ap send_numbers (returns-clause-state c) ∙ numbers-marked c.args.mark c.args.self.now
