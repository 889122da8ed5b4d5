-- The buffers of a memory.
use Rattle.std.proofs.Common.{◌≡◌, ℕ, ◌-◌, List, ◌++◌, drop, take, length, refl, sym, ap, ◌∙◌}
use Rattle.std.specs.List.{drop-map, range_with_len, slice_range}
use Rattle.std.proofs.lemmas.List.{length-map, map-append, take-map}
use Rattle.std.proofs.lemmas.List.Elements.{All-map}
use Rattle.std.proofs.lemmas.List.FromFn.{length-range_with_len}
use Rattle.csp_buffer.specs.Memory.{PlainMemory, AreAllOf, HaveEachOnce, fresh, fresh_all}
use Rattle.csp_buffer.specs.PlainBuffer.{PlainBuffer}
use Rattle.csp_deck.specs.Step.{times}
use Rattle.csp_ending.specs.Stores.{PlainStore, IsWhole, part}
use Rattle.csp_pool.specs.PlainPool.{numbers}

-- those of a new one are of its region, and as many as it has
pub all_fresh : (m : PlainMemory) → AreAllOf m.region (fresh_all m)
all_fresh m = All-map (λ (b : PlainBuffer). b.region ≡ m.region) (fresh m.region) (range_with_len 0 m.count) (λ k d h. refl)

pub fresh_long : (m : PlainMemory) → length (fresh_all m) ≡ m.count
fresh_long m = length-map (range_with_len 0 m.count) (fresh m.region) ∙ length-range_with_len 0 m.count

-- two lists with each number as often are of one length
abbrev pub LongSame : Type 0
LongSame = (xs ys : List ℕ) → ((k : ℕ) → times k xs ≡ times k ys) → length xs ≡ length ys

pub numbers_two : (xs ys : List PlainBuffer) → numbers (xs ++ ys) ≡ numbers xs ++ numbers ys
numbers_two xs ys = map-append (λ (b : PlainBuffer). b.picture.number) xs ys

pub numbers_long : (xs : List PlainBuffer) → length (numbers xs) ≡ length xs
numbers_long xs = length-map xs (λ (b : PlainBuffer). b.picture.number)

-- where each buffer is back once, they are as many as there are
pub as_many : LongSame → (s : PlainStore) (back : List PlainBuffer) → s.numbers ≡ numbers back → IsWhole s → length back ≡ s.count
as_many same s back e whole =
    sym (numbers_long back) ∙ ap (λ (ns : List ℕ). length ns) (sym e) ∙ same s.numbers (range_with_len 0 s.count) whole ∙ length-range_with_len 0 s.count

pub each_once : (s : PlainStore) (back : List PlainBuffer) → s.numbers ≡ numbers back → IsWhole s → HaveEachOnce s.count back
each_once s back e whole = λ k. ap (times k) (sym e) ∙ whole k

-- the numbers of a part
pub numbers_part : (first last : ℕ) (back : List PlainBuffer) → numbers (slice_range back first last) ≡ part first last (numbers back)
numbers_part first last back =
    sym (ap (take (last - first)) (drop-map (λ (b : PlainBuffer). b.picture.number) first back) ∙ take-map (λ (b : PlainBuffer). b.picture.number) (last - first) (drop first back))
