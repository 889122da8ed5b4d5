-- Lists by their marks.
use Rattle.std.proofs.Common.{◌≡◌, ◌≢◌, ℕ, ◌+◌, ◌==◌, Bool, true, false, true≢false, cond, max, List, [], ◌∷◌, ◌++◌, length, refl, sym, ap, ◌∙◌, subst, ⊎_elim, arith}
use Rattle.std.proofs.lemmas.Bool.{eq-eqb, ne_eqb, cases_eq}
use Rattle.std.proofs.lemmas.List.Elements.{filter-append}
use Rattle.csp_inbox.specs.Marks.{mark_of, with_mark, is_in, without}
use Rattle.csp_inbox.specs.Passes.{known_of}
use Rattle.csp_inbox.specs.declared.hand.ToldPuts.{ToldPuts}
use Rattle.csp_log.specs.declared.shown.ItemShown.{ItemShown}

-- of two lists in a row
pub marked-append : (m : ℕ) (xs ys : List ItemShown) → with_mark m (xs ++ ys) ≡ with_mark m xs ++ with_mark m ys
marked-append m xs ys = filter-append (λ i. mark_of i == m) xs ys

-- the first of a list is there under its mark
marked_first : (t : Bool) (x : ItemShown) (rest : List ItemShown) → t ≡ true → cond t (x ∷ rest) rest ≡ x ∷ rest
marked_first true x rest h = refl
marked_first false x rest h = absurd (true≢false (sym h))

marked_other : (t : Bool) (x : ItemShown) (rest : List ItemShown) → t ≡ false → cond t (x ∷ rest) rest ≡ rest
marked_other false x rest h = refl
marked_other true x rest h = absurd (true≢false h)

pub marked-here : (m : ℕ) (x : ItemShown) (xs : List ItemShown) → mark_of x ≡ m → with_mark m (x ∷ xs) ≡ x ∷ with_mark m xs
marked-here m x xs e = marked_first (mark_of x == m) x (with_mark m xs) (eq-eqb (mark_of x) m e)

pub marked-else : (m : ℕ) (x : ItemShown) (xs : List ItemShown) → mark_of x ≢ m → with_mark m (x ∷ xs) ≡ with_mark m xs
marked-else m x xs e = marked_other (mark_of x == m) x (with_mark m xs) (ne_eqb (mark_of x) m e)

-- a list of which nothing is there under any mark is empty
pub no_marks : (xs : List ItemShown) → ((m : ℕ) → with_mark m xs ≡ []) → xs ≡ []
no_marks [] none = refl
no_marks (x ∷ xs) none = absurd (let e : x ∷ with_mark (mark_of x) xs ≡ [] = sym (marked-here (mark_of x) x xs refl) ∙ none (mark_of x) in cc)

-- the list without its first item of this mark
abbrev drop_first : ℕ → List ItemShown → List ItemShown
drop_first m [] = []
drop_first m (y ∷ ys) = cond (mark_of y == m) ys (y ∷ drop_first m ys)

dropped_here : (m : ℕ) (y : ItemShown) (ys : List ItemShown) → mark_of y ≡ m → drop_first m (y ∷ ys) ≡ ys
dropped_here m y ys e = ap (λ (t : Bool). cond t ys (y ∷ drop_first m ys)) (eq-eqb (mark_of y) m e)

dropped_else : (m : ℕ) (y : ItemShown) (ys : List ItemShown) → mark_of y ≢ m → drop_first m (y ∷ ys) ≡ y ∷ drop_first m ys
dropped_else m y ys e = ap (λ (t : Bool). cond t ys (y ∷ drop_first m ys)) (ne_eqb (mark_of y) m e)

dropped_same : (m : ℕ) (x : ItemShown) (rest ys : List ItemShown) → with_mark m ys ≡ x ∷ rest → with_mark m (drop_first m ys) ≡ rest
dropped_same m x rest [] e = cc
dropped_same m x rest (y ∷ ys) e = ⊎_elim
    (λ here. ap (with_mark m) (dropped_here m y ys here) ∙ (let k : y ∷ with_mark m ys ≡ x ∷ rest = sym (marked-here m y ys here) ∙ e in cc))
    (λ apart. ap (with_mark m) (dropped_else m y ys apart) ∙ marked-else m y (drop_first m ys) apart ∙ dropped_same m x rest ys (sym (marked-else m y ys apart) ∙ e))
    (cases_eq (mark_of y) m)

dropped_other : (m k : ℕ) (ys : List ItemShown) → k ≢ m → with_mark k (drop_first m ys) ≡ with_mark k ys
dropped_other m k [] ne = refl
dropped_other m k (y ∷ ys) ne = ⊎_elim
    (λ here. ap (with_mark k) (dropped_here m y ys here) ∙ sym (marked-else k y ys (λ e. ne (sym e ∙ here))))
    (λ apart. ap (with_mark k) (dropped_else m y ys apart) ∙ ⊎_elim
    (λ mine. marked-here k y (drop_first m ys) mine ∙ ap (λ l. y ∷ l) (dropped_other m k ys ne) ∙ sym (marked-here k y ys mine))
    (λ other. marked-else k y (drop_first m ys) other ∙ dropped_other m k ys ne ∙ sym (marked-else k y ys other))
    (cases_eq (mark_of y) k))
    (cases_eq (mark_of y) m)

dropped_one : (m : ℕ) (x : ItemShown) (rest ys : List ItemShown) → with_mark m ys ≡ x ∷ rest → length ys ≡ length (drop_first m ys) + 1
dropped_one m x rest [] e = absurd (let k : [] ≡ x ∷ rest = e in cc)
dropped_one m x rest (y ∷ ys) e = ⊎_elim
    (λ here. omega (arith, ap length (dropped_here m y ys here)))
    (λ apart. omega (arith, ap length (dropped_else m y ys apart), dropped_one m x rest ys (sym (marked-else m y ys apart) ∙ e)))
    (cases_eq (mark_of y) m)

-- lists that agree under each mark are of one length
pub same_length : (xs ys : List ItemShown) → ((m : ℕ) → with_mark m xs ≡ with_mark m ys) → length xs ≡ length ys
same_length [] ys same = ap length (sym (no_marks ys (λ m. sym (same m))))
same_length (x ∷ xs) ys same =
    let m : ℕ = mark_of x in
    let first : with_mark m ys ≡ x ∷ with_mark m xs = sym (same m) ∙ marked-here m x xs refl in
    let rest : length xs ≡ length (drop_first m ys) = same_length xs (drop_first m ys) (λ k. ⊎_elim
    (λ (e : k ≡ m). subst (λ (n : ℕ). with_mark n xs ≡ with_mark n (drop_first m ys)) (sym e) (sym (dropped_same m x (with_mark m xs) ys first)))
    (λ (ne : k ≢ m). sym (marked-else k x xs (λ e. ne (sym e))) ∙ same k ∙ sym (dropped_other m k ys ne))
    (cases_eq k m)) in
    omega (arith, rest, dropped_one m x (with_mark m xs) ys first)

-- a mark that is among some, and those but one
pub in-here : (k : ℕ) (ks : List ℕ) → is_in (k ∷ ks) k ≡ true
in-here k ks = ap (λ (t : Bool). cond t true (is_in ks k)) (eq-eqb k k refl)

pub in-else : (k m : ℕ) (ks : List ℕ) → k ≢ m → is_in (k ∷ ks) m ≡ is_in ks m
in-else k m ks ne = ap (λ (t : Bool). cond t true (is_in ks m)) (ne_eqb k m ne)

without_here : (m : ℕ) (ks : List ℕ) → without m (m ∷ ks) ≡ without m ks
without_here m ks = ap (λ (t : Bool). cond t (without m ks) (m ∷ without m ks)) (eq-eqb m m refl)

without_else : (m k : ℕ) (ks : List ℕ) → k ≢ m → without m (k ∷ ks) ≡ k ∷ without m ks
without_else m k ks ne = ap (λ (t : Bool). cond t (without m ks) (k ∷ without m ks)) (ne_eqb k m ne)

pub not_in-without : (m : ℕ) (ks : List ℕ) → is_in (without m ks) m ≡ false
not_in-without m [] = refl
not_in-without m (k ∷ ks) = ⊎_elim
    (λ (e : k ≡ m). ap (λ l. is_in l m) (ap (λ n. without m (n ∷ ks)) e ∙ without_here m ks) ∙ not_in-without m ks)
    (λ (ne : k ≢ m). ap (λ l. is_in l m) (without_else m k ks ne) ∙ in-else k m (without m ks) ne ∙ not_in-without m ks)
    (cases_eq k m)

pub in-without : (m n : ℕ) (ks : List ℕ) → n ≢ m → is_in (without m ks) n ≡ is_in ks n
in-without m n [] ne = refl
in-without m n (k ∷ ks) ne = ⊎_elim
    (λ (e : k ≡ m). ap (λ l. is_in l n) (ap (λ j. without m (j ∷ ks)) e ∙ without_here m ks) ∙ in-without m n ks ne ∙ sym (in-else k n ks (λ x. ne (sym x ∙ e))))
    (λ (apart : k ≢ m). ap (λ l. is_in l n) (without_else m k ks apart) ∙ ⊎_elim
    (λ (same : k ≡ n). ap (λ j. is_in (j ∷ without m ks) n) same ∙ in-here n (without m ks) ∙ sym (ap (λ j. is_in (j ∷ ks) n) same ∙ in-here n ks))
    (λ (other : k ≢ n). in-else k n (without m ks) other ∙ in-without m n ks ne ∙ sym (in-else k n ks other))
    (cases_eq k n))
    (cases_eq k m)

-- what was told in two lists
told_step : (t : Bool) (p a b ab : ℕ) → ab ≡ max a b → cond t (max p ab) ab ≡ max (cond t (max p a) a) b
told_step true p a b ab e = omega (arith, e)
told_step false p a b ab e = e

pub known-append : (a b : List ToldPuts) (m : ℕ) → known_of (a ++ b) m ≡ max (known_of a m) (known_of b m)
known-append [] b m = omega arith
known-append (t ∷ ts) b m = told_step (t.mark == m) t.puts (known_of ts m) (known_of b m) (known_of (ts ++ b) m) (known-append ts b m)
