use Rattle.csp_scene.proofs.Stated.{AreStated-add}
use Rattle.csp_scene.proofs.links.LinkSketch.add.Goals as goal

pub invariant_of-self-2 : goal.invariant_of-self-2
invariant_of-self-2 c =
    rw (c.push_reserved.ensures.items, c.reserve.ensures.items)
    (AreStated-add _ c.insert.new.self _ c.args.fault (rw (← c.self-inside.view_is) at c.self.invariant) (rw c.of.ensures at c.in_ok-insert.ensures.updates.0))
