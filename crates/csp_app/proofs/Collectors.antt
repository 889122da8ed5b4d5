-- the collector of one slot among those of all
use Rattle.std.proofs.Common.{◌≡◌, ℕ, zero, suc, Bool, Option, Some, None, List, [], ◌∷◌, refl, sym, ap, ◌∙◌}
use Rattle.std.specs.List.{slice_set, All}
use Rattle.std.specs.Option.{option_map}
use Rattle.std.specs.Prelude.{slice_index_or, if◌then◌else◌}
use Rattle.std.proofs.lemmas.List.Folds.{list_any_none}
use Rattle.csp_app.specs.Collecting.{Collectors, CollectsNothing, collector_at, collector_for, collectors_for, collects_on, fed_on, reset_on}
use Rattle.csp_app.specs.PlainStep.{PlainStep}
use Rattle.csp_sfp.specs.Gathering.{Gathering, after, nothing}

-- a place that gets what it has is as it was
pub set_same : (xs : List (Option Gathering)) (k : ℕ) → slice_set xs k (slice_index_or xs k None) ≡ xs
set_same [] k = refl
set_same (x ∷ xs) zero = refl
set_same (x ∷ xs) (suc k) = ap (λ ys. x ∷ ys) (set_same xs k)

-- a slot without a collector has none after a payload
pub fed_none : (slot : ℕ) (payload : List ℕ) (collectors : Collectors) → collector_at collectors slot ≡ None → fed_on slot payload collectors ≡ collectors
fed_none slot payload collectors e = ap (λ (c : Option Gathering). slice_set collectors slot (option_map (λ g. after g payload) c)) e ∙ ap (slice_set collectors slot) (sym e) ∙ set_same collectors slot

pub reset_none : (slot : ℕ) (collectors : Collectors) → collector_at collectors slot ≡ None → reset_on slot collectors ≡ collectors
reset_none slot collectors e = ap (λ (c : Option Gathering). slice_set collectors slot (option_map (λ g. nothing) c)) e ∙ ap (slice_set collectors slot) (sym e) ∙ set_same collectors slot

-- a collector after a payload, in its place
pub fed_some : (slot : ℕ) (payload : List ℕ) (collectors : Collectors) (g : Gathering) → collector_at collectors slot ≡ Some g → fed_on slot payload collectors ≡ slice_set collectors slot (Some (after g payload))
fed_some slot payload collectors g e = ap (λ (c : Option Gathering). slice_set collectors slot (option_map (λ x. after x payload) c)) e

pub reset_some : (slot : ℕ) (collectors : Collectors) (g : Gathering) → collector_at collectors slot ≡ Some g → reset_on slot collectors ≡ slice_set collectors slot (Some nothing)
reset_some slot collectors g e = ap (λ (c : Option Gathering). slice_set collectors slot (option_map (λ x. nothing) c)) e

-- a script that collects on no slot has no collectors
none_for : (steps : List PlainStep) → All CollectsNothing steps → (slot : ℕ) → collector_for steps slot ≡ None
none_for steps h slot = ap (λ (b : Bool). if b then Some nothing else None) (list_any_none (collects_on slot) steps (λ k x few. h k x few slot))

pub without_collectors : (steps : List PlainStep) → All CollectsNothing steps → None ∷ None ∷ None ∷ None ∷ [] ≡ collectors_for steps
without_collectors steps h = rw (none_for steps h 0, none_for steps h 1, none_for steps h 2, none_for steps h 3) refl
