-- how often a number is in a list
use Rattle.std.proofs.Common.{◌≡◌, ℕ, ◌+◌, Bool, true, false, cond, List, [], ◌∷◌, ◌++◌, map, Some, arith, ap, ◌∙◌, refl}
use Rattle.std.specs.List.{find}
use Rattle.std.specs.Prelude.{◌==◌, is_some, nat_lt}
use Rattle.std.proofs.lemmas.Bool.{lt-ltb}
use Rattle.std.proofs.lemmas.List.Sums.{sum_by-append, sum_by-cons}
use Rattle.csp_rdp_window.specs.Numbers.{times}

-- a number counts one where it is this
abbrev pub one_if : Bool → ℕ
one_if b = cond b 1 0

pub times-cons : (k n : ℕ) (ns : List ℕ) → times k (n ∷ ns) ≡ one_if (n == k) + times k ns
times-cons k n ns = sum_by-cons (λ m. one_if (m == k)) n ns

pub times-append : (k : ℕ) (ms ns : List ℕ) → times k (ms ++ ns) ≡ times k ms + times k ns
times-append k ms ns = sum_by-append (λ m. one_if (m == k)) ms ns

-- a number is among those of a list where an element has it
pub times-find : {T : Type 0} (number : T → ℕ) (k : ℕ) (xs : List T) → nat_lt 0 (times k (map number xs)) ≡ is_some (find (λ x. number x == k) xs)
times-find number k [] = refl
times-find number k (x ∷ xs) = ap (nat_lt 0) (times-cons k (number x) (map number xs)) ∙ go (number x == k) (times k (map number xs)) (times-find number k xs)
  where
    go : (b : Bool) (n : ℕ) → nat_lt 0 n ≡ is_some (find (λ y. number y == k) xs) → nat_lt 0 (one_if b + n) ≡ is_some (cond b (Some x) (find (λ y. number y == k) xs))
    go true n e = lt-ltb 0 (1 + n) (omega arith)
    go false n e = let same : 0 + n ≡ n = omega arith in ap (nat_lt 0) same ∙ e
