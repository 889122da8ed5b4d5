-- What the entries of a log tell, one entry after the other.
use Rattle.std.proofs.Common.{◌≡◌, ℕ, zero, suc, ◌+◌, ◌<◌, ◌≤◌, List, [], ◌∷◌, ◌++◌, Option, None, Some, refl, sym, ap, ◌∙◌, subst, take, drop, length, slice_get, IfSome, append_assoc, append-nil, drop_of_length-le, arith}
use Rattle.std.proofs.lemmas.List.{drop_more, take_more}
use Rattle.std.proofs.lemmas.Option.{get_or_from_slice_get, slice_get_within}
use Rattle.csp_log.specs.declared.entry.Entry.{Entry}
use Rattle.csp_happenings.specs.Happenings.{along_from}

-- the entry in a place, with those before it and after it
pub place : {X : Type 0} (xs : List X) (i : ℕ) (x : X) → slice_get xs i ≡ Some x → (drop i xs ≡ x ∷ drop (i + 1) xs) × (take (i + 1) xs ≡ take i xs ++ x ∷ [])
place xs i x is =
    let within = slice_get_within xs i x is in
    let same = get_or_from_slice_get xs i x x is in (
      drop_more xs i x within ∙ ap (λ y. y ∷ drop (i + 1) xs) same,
      take_more xs i x within ∙ ap (λ y. take i xs ++ y ∷ []) same,
    )

-- what was told so far, with what is told of the next entry
pub next : {X : Type 0} (tells : List Entry → Entry → List X) (entries : List Entry) (i : ℕ) (e : Entry) (before after all : List X)
    → slice_get entries i ≡ Some e
    → after ≡ before ++ tells (take i entries) e
    → before ++ along_from tells (take i entries) (drop i entries) ≡ all
    → after ++ along_from tells (take (i + 1) entries) (drop (i + 1) entries) ≡ all
unfolding along_from
next tells entries i e before after all there is so_far =
    let (rest, front) = place entries i e there in
    ap (λ told. told ++ along_from tells (take (i + 1) entries) (drop (i + 1) entries)) is
    ∙ append_assoc before (tells (take i entries) e) (along_from tells (take (i + 1) entries) (drop (i + 1) entries))
    ∙ (λ j. before ++ (tells (take i entries) e ++ along_from tells (front j) (drop (i + 1) entries)))
    ∙ (λ j. before ++ along_from tells (take i entries) (sym rest j))
    ∙ so_far

none-within : {X : Type 0} (xs : List X) (i : ℕ) → i < length xs → slice_get xs i ≡ None → ⊥
none-within [] i lt e = omega (arith, lt)
none-within (x ∷ xs) zero lt e = cc
none-within (x ∷ xs) (suc i) lt e = none-within xs i (omega (arith, lt)) e

-- one entry more
pub step : {X : Type 0} (tells : List Entry → Entry → List X) (R : List Entry → Type 0) (entries : List Entry) (i : ℕ) (before after all : List X)
    → i < length entries
    → IfSome (slice_get entries i) (λ e. (after ≡ before ++ tells (take i entries) e) × R (take i entries ++ e ∷ []))
    → before ++ along_from tells (take i entries) (drop i entries) ≡ all
    → (after ++ along_from tells (take (i + 1) entries) (drop (i + 1) entries) ≡ all) × R (take (i + 1) entries)
step {X} tells R entries i before after all lt here so_far = by (slice_get entries i) refl here
  where
    by : (o : Option Entry) → slice_get entries i ≡ o → IfSome o (λ e. (after ≡ before ++ tells (take i entries) e) × R (take i entries ++ e ∷ [])) → (after ++ along_from tells (take (i + 1) entries) (drop (i + 1) entries) ≡ all) × R (take (i + 1) entries)
    by None e h = absurd (none-within entries i lt e)
    by (Some x) e h = (next tells entries i x before after all e h.0 so_far, subst R (sym (place entries i x e).1) h.1)

-- no entry more
pub finish : {X : Type 0} (tells : List Entry → Entry → List X) (entries : List Entry) (i : ℕ) (told all : List X) → length entries ≤ i → told ++ along_from tells (take i entries) (drop i entries) ≡ all → told ≡ all
unfolding along_from
finish tells entries i told all le so_far = sym (append-nil told) ∙ (λ j. told ++ along_from tells (take i entries) (sym (drop_of_length-le entries le) j)) ∙ so_far
