-- Where no plan has a flip, no frame is harmed.
use Rattle.std.proofs.Common.{◌≡◌, ℕ, ◌+◌, ◌==◌, ◌&&◌, Bool, false, None, List, [], ◌∷◌, filter, refl, sym, subst}
use Rattle.std.specs.List.{AllByRecursion, fold}
use Rattle.csp_link.specs.Fates.{afflicted, fate_of, unharmed}
use Rattle.csp_link.specs.declared.fates.Fate.{Fate}
use Rattle.csp_link.specs.declared.fault.Fault.{Fault}
use Rattle.csp_link.specs.declared.fault.FaultKind.{FaultKind}
use Rattle.csp_link.specs.declared.fault.FaultKind.TheVariants as fault
use Rattle.csp_record.specs.Record.{PlainRecord}
use Rattle.csp_scene.specs.Scene.{PlainLink, PlainScene}
use Rattle.csp_consistent.proofs.Public.{each_at, each_filter}
use Rattle.csp_ordinary.specs.Harmless.{IsHarmless}
use Rattle.csp_ordinary.specs.Ordinary.{HasNoFlips, IsUndamaged, is_flip}

afflicted_unflipped : (kind : FaultKind) (fate : Fate) → is_flip kind ≡ false → fate.flip ≡ None → (afflicted kind fate).flip ≡ None
afflicted_unflipped fault.Lose fate e none = none
afflicted_unflipped (fault.Repeat copies) fate e none = none
afflicted_unflipped (fault.Delay rounds) fate e none = none
afflicted_unflipped (fault.Flip bit) fate e none = absurd cc

all_unflipped : (fs : List Fault) (fate : Fate) → AllByRecursion (λ f. is_flip f.kind ≡ false) fs → fate.flip ≡ None → (fold (λ fate f. afflicted f.kind fate) fate fs).flip ≡ None
all_unflipped [] fate all none = none
all_unflipped (f ∷ fs) fate all none = all_unflipped fs (afflicted f.kind fate) all.1 (afflicted_unflipped f.kind fate all.0 none)

no_flip : (dir frame : ℕ) (plan : List Fault) → AllByRecursion (λ f. is_flip f.kind ≡ false) plan → (fate_of dir frame plan).flip ≡ None
no_flip dir frame plan all =
    let own : Fault → Bool = λ f. f.dir == dir && f.frame == frame in
    all_unflipped (filter own plan) unharmed (each_filter (λ (f : Fault). is_flip f.kind ≡ false) own plan all) refl

pub undamaged : (scene : PlainScene) (r : PlainRecord) → HasNoFlips scene → IsUndamaged scene r
undamaged scene r none number l end there k f popped =
    let all : AllByRecursion (λ (g : Fault). is_flip g.kind ≡ false) l.plan = each_at (λ (x : PlainLink). AllByRecursion (λ (g : Fault). is_flip g.kind ≡ false) x.plan) scene.links number l none there in
    subst (λ flip. IsHarmless l.kind flip f) (sym (no_flip end (k + 1) l.plan all)) tt
