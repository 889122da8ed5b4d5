-- What is early stays so: turns of a round change nothing of what was early in it or before, and add to what holds after each entry.
use Rattle.std.proofs.Common.{◌≡◌, ℕ, ◌<◌, ◌≤◌, cond, List, [], ◌∷◌, ◌++◌, ltb, refl, sym, ap, ◌∙◌, subst, arith, append-nil, le-ltb, lt-ltb}
use Rattle.std.proofs.lemmas.List.Elements.{filter-append}
use Rattle.std.specs.List.{AllByRecursion}
use Rattle.csp_consistent.specs.Prompt.{AllAfter}
use Rattle.csp_consistent.specs.Rounds.{early}
use Rattle.csp_log.specs.declared.entry.Entry.{Entry}
use Rattle.csp_posts.proofs.Public.{after_append}
use Rattle.csp_scene.proofs.Public.{AllByRecursion-map}

none_early : (t : ℕ) (es : List Entry) → AllByRecursion (λ e. t ≤ e.time) es → early t es ≡ []
none_early t [] all = refl
none_early t (e ∷ es) all = ap (λ b. cond b (e ∷ early t es) (early t es)) (le-ltb e.time t all.0) ∙ none_early t es all.1

pub all_early : (t : ℕ) (es : List Entry) → AllByRecursion (λ e. e.time < t) es → early t es ≡ es
all_early t [] all = refl
all_early t (e ∷ es) all = ap (λ b. cond b (e ∷ early t es) (early t es)) (lt-ltb e.time t all.0) ∙ ap (λ xs. e ∷ xs) (all_early t es all.1)

-- what is done later is not early
pub early_more : (t : ℕ) (es more : List Entry) → AllByRecursion (λ e. t ≤ e.time) more → early t (es ++ more) ≡ early t es
early_more t es more later =
    filter-append (λ (e : Entry). ltb e.time t) es more ∙ ap (λ xs. early t es ++ xs) (none_early t more later) ∙ append-nil (early t es)

-- what was early in a round before this one
pub early_before : (now t : ℕ) (es more : List Entry) → AllByRecursion (λ m. m.time ≡ now) more → t ≤ now → early t (es ++ more) ≡ early t es
early_before now t es more at h =
    early_more t es more (AllByRecursion-map (λ (m : Entry). m.time ≡ now) (λ m. t ≤ m.time) more (λ m e. omega (arith, h, e)) at)

-- and in this one
pub early_now : (now t : ℕ) (es more : List Entry) → AllByRecursion (λ e. e.time < now) es → AllByRecursion (λ m. m.time ≡ now) more → t ≡ now → early t (es ++ more) ≡ es
early_now now t es more old at h =
    early_before now t es more at (omega (arith, h)) ∙ all_early t es (AllByRecursion-map (λ (e : Entry). e.time < now) (λ e. e.time < t) es (λ e g. omega (arith, g, h)) old)

pub after_map : (F G : List Entry → Entry → Type 0) (P : Entry → Type 0) (before es : List Entry) → ((bs : List Entry) (e : Entry) → P e → F bs e → G bs e)
    → AllByRecursion P es → AllAfter F before es → AllAfter G before es
after_map F G P before [] each ps all = tt
after_map F G P before (e ∷ es) each ps all = (each before e ps.0 all.0, after_map F G P (before ++ e ∷ []) es each ps.1 all.1)

-- what held of earlier entries holds still, and what holds of those of a round holds of each with all before it: A speaks of what was early at a time
pub after_round : (A : List Entry → List Entry → Entry → Type 0) (now : ℕ) (others theirs es more : List Entry)
    → AllByRecursion (λ e. e.time < now) others → AllByRecursion (λ m. m.time ≡ now) theirs
    → AllByRecursion (λ e. e.time < now) es → AllByRecursion (λ m. m.time ≡ now) more
    → AllAfter (λ bs e. A (early e.time others) bs e) [] es → AllAfter (A others) es more → AllAfter (λ bs e. A (early e.time (others ++ theirs)) bs e) [] (es ++ more)
after_round A now others theirs es more old at es_old more_at past present =
    after_append (λ bs e. A (early e.time (others ++ theirs)) bs e) [] es more
    (after_map (λ bs e. A (early e.time others) bs e) (λ bs e. A (early e.time (others ++ theirs)) bs e) (λ e. e.time < now) [] es
    (λ bs e h f. subst (λ xs. A xs bs e) (sym (early_before now e.time others theirs at (omega (arith, h)))) f) es_old past)
    (after_map (A others) (λ bs e. A (early e.time (others ++ theirs)) bs e) (λ e. e.time ≡ now) es more
    (λ bs e h f. subst (λ xs. A xs bs e) (sym (early_now now e.time others theirs old at h)) f) more_at present)
