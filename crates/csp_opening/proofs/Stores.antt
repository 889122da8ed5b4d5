-- The buffers of a memory that was just opened, and of one whose pool has ended.
use Rattle.std.proofs.Common.{◌≡◌, ℕ, ◌==◌, List, [], ◌∷◌, ◌++◌, length, map, refl, ap, ◌∙◌, arith}
use Rattle.std.specs.List.{count_by, range_with_len}
use Rattle.std.proofs.lemmas.List.{length-map}
use Rattle.std.proofs.lemmas.List.Elements.{All-map}
use Rattle.std.proofs.lemmas.List.FromFn.{length-range_with_len}
use Rattle.csp_buffer.specs.Memory.{AreAllOf, PlainMemory, fresh, fresh_all}
use Rattle.csp_buffer.specs.PlainBuffer.{PlainBuffer}
use Rattle.csp_ending.specs.Ends.{PoolEnds}
use Rattle.csp_ending.specs.Stores.{IsWhole, PlainStore}
use Rattle.csp_pool.specs.PlainPool.{numbers}
use Rattle.csp_pool.specs.declared.hand.Hand.{Hand}

pub fresh_long : (m : PlainMemory) → length (fresh_all m) ≡ m.count
fresh_long m = length-map (range_with_len 0 m.count) (fresh m.region) ∙ length-range_with_len 0 m.count

pub all_fresh : (m : PlainMemory) → AreAllOf m.region (fresh_all m)
all_fresh m = All-map (λ (b : PlainBuffer). b.region ≡ m.region) (fresh m.region) (range_with_len 0 m.count) (λ k d h. refl)

pub fresh_numbers : (m : PlainMemory) → numbers (fresh_all m) ≡ range_with_len 0 m.count
fresh_numbers m = by (range_with_len 0 m.count) where
  by : (ks : List ℕ) → map (λ (b : PlainBuffer). b.picture.number) (map (fresh m.region) ks) ≡ ks
  by [] = refl
  by (k ∷ ks) = ap (λ xs. k ∷ xs) (by ks)

-- a pool from which nothing was taken gives all back
pub all_back : (v : Hand) (first last : ℕ) (s t : PlainStore) (count : ℕ) → s.numbers ≡ [] → v.put ≡ range_with_len 0 count → v.taken ≡ [] → s.count ≡ count → PoolEnds v first last s t → IsWhole t
all_back v first last s t count none put taken same ends k =
    let numbers = ap (count_by (λ n. n == k)) (ends.back.numbers ∙ ap (λ ns. ns ++ ends.left) none) in
    let puts = ap (count_by (λ n. n == k)) put in
    let takes = ap (count_by (λ n. n == k)) taken in
    let whole = ends.whole.whole k in
    let right = ap (λ c. count_by (λ n. n == k) (range_with_len 0 c)) (ends.back.count ∙ same) in
    omega (arith, numbers, puts, takes, whole, right)
