use Rattle.std.proofs.Common.{arith}
use Rattle.std.proofs.lemmas.Grind.{common_steps}
use Rattle.std.proofs.lemmas.List.Elements.{All-head, All-rest}
use Rattle.csp_deck.specs.Regions.{IsItemOf}
use Rattle.csp_lists.proofs.gathering.pour_shown.Goals as goal

pub loop-item-preserved : goal.loop-item-preserved
loop-item-preserved c =
    let step = c.in-Some.ensures.answer in
    let before = c.loop-item.invariant in (
      grind (arith, common_steps),
      grind (arith, common_steps),
      grind (arith, common_steps),
      grind (arith, common_steps),
      grind (arith, common_steps),
      grind (arith, common_steps),
      grind (arith, common_steps),
      λ r of_it all.
          let old = before.7 r of_it all in (
            All-rest (IsItemOf r) c.in-Some.item c.pop.new.self.items c.loop-item.from.items step.0 old.0,
            c.take_back.ensures.of_it r (All-head (IsItemOf r) c.in-Some.item c.pop.new.self.items (rw step.0 at old.0)) old.1,
          ),
    )
