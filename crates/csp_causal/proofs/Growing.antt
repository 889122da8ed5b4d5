-- Two logs stay causal as they grow by a turn.
use Rattle.std.proofs.Common.{◌≡◌, ◌⊎◌, inl, inr, ℕ, ◌+◌, ◌≤◌, List, [], ◌∷◌, ◌++◌, drop, get_or, length, refl, sym, ap, ◌∙◌, subst, append-nil, arith}
use Rattle.std.proofs.lemmas.Grind.{flat_map-append}
use Rattle.std.proofs.lemmas.List.{length-append}
use Rattle.csp_causal.specs.Causal.{AreCausal}
use Rattle.csp_consistent.specs.Reading.{got_by, gets, put_by, puts}
use Rattle.csp_log.specs.declared.entry.Entry.{Entry}
use Rattle.csp_log.specs.declared.places.QueueId.{QueueId}

-- ---- what a beginning got or put

gets_first : (q : QueueId) (first later : List Entry) → length (gets q first) ≤ length (gets q (first ++ later))
gets_first q first later =
    let both : length (gets q (first ++ later)) ≡ length (gets q first) + length (gets q later) =
    ap length (flat_map-append (λ (e : Entry). got_by q e.op e.answer) first later) ∙ length-append (gets q first) (gets q later) in
    omega (arith, both)

-- ---- a beginning of a log with one more turn

-- it is all of it, or a beginning of the log without that turn
record IsWithin {X : Type 0} (xs ys : List X) : Type 0 where
  pub rest : List X
  pub whole : xs ≡ ys ++ rest

within_or_all : {X : Type 0} (xs : List X) (x : X) (ys zs : List X) → xs ++ x ∷ [] ≡ ys ++ zs → (ys ≡ xs ++ x ∷ []) ⊎ IsWithin xs ys
within_or_all xs x [] zs e = inr (record { rest = xs; whole = refl })
within_or_all [] x (y ∷ []) zs e = inl (ap (λ l. get_or l 0 x ∷ []) (sym e))
within_or_all [] x (y ∷ y2 ∷ ys) zs e = absurd cc
within_or_all (w ∷ xs) x (y ∷ ys) zs e = by (within_or_all xs x ys zs (ap (drop 1) e))
  where
    same : w ≡ y
    same = ap (λ l. get_or l 0 w) e

    by : (ys ≡ xs ++ x ∷ []) ⊎ IsWithin xs ys → (y ∷ ys ≡ (w ∷ xs) ++ x ∷ []) ⊎ IsWithin (w ∷ xs) (y ∷ ys)
    by (inl all) = inl (λ k. sym same k ∷ all k)
    by (inr i) = inr (record { rest = i.rest; whole = λ k. same k ∷ i.whole k })

-- ---- with one more turn of the first party, or of the second

pub first_grows : (there back : QueueId) (first second : List Entry) (e : Entry) → AreCausal there back first second → length (gets there second) ≤ length (puts there (first ++ e ∷ []))
    → AreCausal there back (first ++ e ∷ []) second
first_grows there back first second e causal most before after earlier later b s = by (within_or_all first e before after b)
  where
    by : (before ≡ first ++ e ∷ []) ⊎ IsWithin first before → (length (gets there earlier) ≤ length (puts there before)) ⊎ (length (gets back before) ≤ length (puts back earlier))
    by (inl all) =
        let got : length (gets there earlier) ≤ length (gets there second) = subst (λ es. length (gets there earlier) ≤ length (gets there es)) (sym s) (gets_first there earlier later) in
        inl (subst (λ es. length (gets there earlier) ≤ length (puts there es)) (sym all) (omega (arith, got, most)))
    by (inr i) = causal before i.rest earlier later i.whole s

pub second_grows : (there back : QueueId) (first second : List Entry) (e : Entry) → AreCausal there back first second → length (gets back first) ≤ length (puts back (second ++ e ∷ []))
    → AreCausal there back first (second ++ e ∷ [])
second_grows there back first second e causal most before after earlier later b s = by (within_or_all second e earlier later s)
  where
    by : (earlier ≡ second ++ e ∷ []) ⊎ IsWithin second earlier → (length (gets there earlier) ≤ length (puts there before)) ⊎ (length (gets back before) ≤ length (puts back earlier))
    by (inl all) =
        let got : length (gets back before) ≤ length (gets back first) = subst (λ es. length (gets back before) ≤ length (gets back es)) (sym b) (gets_first back before after) in
        inr (subst (λ es. length (gets back before) ≤ length (puts back es)) (sym all) (omega (arith, got, most)))
    by (inr i) = causal before after earlier i.rest b i.whole

-- ---- without a turn

gets_none : (q : QueueId) (first later : List Entry) → [] ≡ first ++ later → gets q first ≡ []
gets_none q [] later e = refl
gets_none q (x ∷ first) later e = absurd cc

pub none_causal : (there back : QueueId) → AreCausal there back [] []
none_causal there back before after earlier later b s =
    inl (subst (λ is. length is ≤ length (puts there before)) (sym (gets_none there earlier later s)) (omega arith))
