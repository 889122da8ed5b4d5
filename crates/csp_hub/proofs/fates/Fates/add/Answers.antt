use Rattle.std.proofs.Common.{ℕ, ◌≤◌, List, sym, subst}
use Rattle.std.specs.List.{All}
use Rattle.std.specs.Map.{values_of}
use Rattle.csp_link.specs.declared.fates.Fate.{Fate}
use Rattle.csp_link.specs.declared.fault.TheConstants.{MAX_REPEATS}
use Rattle.csp_link.proofs.Public.{all_named}
use Rattle.csp_hub.proofs.fates.Fates.add.Goals as goal

pub invariant_of-self-2 : goal.invariant_of-self-2
invariant_of-self-2 c =
    subst (λ (es : List (ℕ × Fate)). All (λ (f : Fate). f.repeats ≤ MAX_REPEATS) (values_of es)) (sym c.in_ok-insert.ensures.entries)
    (all_named (λ f. f.repeats ≤ MAX_REPEATS) c.self.inside.map.entries c.args.fault.frame c.with-fate.result c.self.invariant (c.with-fate.ensures.few c.of.ensures.few c.requires))
