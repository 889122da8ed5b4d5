-- how often a number is in a list
use Rattle.std.proofs.Common.{◌≡◌, ℕ, ◌+◌, cond, List, ◌∷◌, ◌++◌, arith}
use Rattle.std.specs.Prelude.{◌==◌}
use Rattle.std.proofs.lemmas.List.Sums.{sum_by-append, sum_by-cons}
use Rattle.csp_rdp_window.specs.Numbers.{times}

pub times-cons : (k n : ℕ) (ns : List ℕ) → times k (n ∷ ns) ≡ cond (n == k) 1 0 + times k ns
times-cons k n ns = sum_by-cons (λ m. cond (m == k) 1 0) n ns

pub times-append : (k : ℕ) (ms ns : List ℕ) → times k (ms ++ ns) ≡ times k ms + times k ns
times-append k ms ns = sum_by-append (λ m. cond (m == k) 1 0) ms ns

-- what goes out of one of two lists goes out of both
pub gone-left : (k : ℕ) (ms ms' ns out : List ℕ) → times k ms' + times k out ≡ times k ms → times k (ms' ++ ns) + times k out ≡ times k (ms ++ ns)
gone-left k ms ms' ns out e = let p = times-append k ms ns in let q = times-append k ms' ns in omega (arith, e, p, q)

pub gone-right : (k : ℕ) (ms ns ns' out : List ℕ) → times k ns' + times k out ≡ times k ns → times k (ms ++ ns') + times k out ≡ times k (ms ++ ns)
gone-right k ms ns ns' out e = let p = times-append k ms ns in let q = times-append k ms ns' in omega (arith, e, p, q)

-- and what comes into one
pub come-right : (k : ℕ) (ms ns ns' in_ : List ℕ) → times k ns' ≡ times k ns + times k in_ → times k (ms ++ ns') ≡ times k (ms ++ ns) + times k in_
come-right k ms ns ns' in_ e = let p = times-append k ms ns in let q = times-append k ms ns' in omega (arith, e, p, q)
