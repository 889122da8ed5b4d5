use Rattle.std.proofs.Common.{List, subst, sym}
use Rattle.csp_hub.specs.PlainHub.{PlainEnd}
use Rattle.csp_hub.specs.Room.{IsHub}
use Rattle.csp_hub.specs.declared.doing.Doing.TheVariants as doing
use Rattle.csp_hub.proofs.Sound.{opening_hub}
use Rattle.csp_hub.proofs.hub.Hub.open.Goals as goal

pub invariant_of-result : goal.invariant_of-result
invariant_of-result c =
    subst (λ (ends : List PlainEnd). IsHub (record { ends = ends; serving = 0; doing = doing.Rest })) (sym c.in_ok-open_ends.ensures.ends)
    (opening_hub c.args.ends c.as_slice.result.now c.requires.few c.requires.most)
