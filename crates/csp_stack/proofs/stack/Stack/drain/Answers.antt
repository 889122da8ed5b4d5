use Rattle.std.proofs.Common.{◌∙◌, arith}
use Rattle.csp_stack.proofs.Resting.{drained_sound}
use Rattle.csp_stack.proofs.stack.Stack.drain.Goals as goal

pub invariant_of-self : goal.invariant_of-self
invariant_of-self c =
    let h = c.self.invariant in
    let room = h.room in
    let fewer = c.drain.ensures.fewer in
    let less = rw c.drain.ensures.rest at fewer in
    let same = rw c.drain.ensures.rest at c.drain.ensures.apps in
    rw c.drain.ensures.rest (drained_sound c.self.inside.facts c.self.inside.state.state h (omega (arith, room, less)) (same ∙ h.apps))
