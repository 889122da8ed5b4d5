-- integers modulo 65,536, and the index that a number shows near another
use Rattle.std.proofs.Common.{◌≡◌, ℕ, ◌+◌, ◌-◌, ◌*◌, ◌/◌, ◌%◌, ◌<◌, ◌≤◌, suc, arith}
use Rattle.std.specs.Prelude.{ℤ, pos, negsuc, ◌+ℤ◌, ◌-ℤ◌}
use Rattle.std.proofs.lemmas.Int.{ints}
use Rattle.csp_base.specs.Sequence.{wrapped, number_of, ahead_of, IsNear, near}

-- an integer is its remainder and a multiple of 65,536
record Splits (z : ℤ) (m : ℕ) : Type 0 where
  down : ℕ
  up : ℕ
  small : m < 65536
  sum : z +ℤ pos (65536 * down) ≡ pos (m + 65536 * up)

split : (z : ℤ) → Splits z (wrapped z)
split (pos a) = record { down = 0; up = a / 65536; small = omega arith; sum = omega (arith, ints) }
split (negsuc a) = record { down = suc (a / 65536); up = 0; small = omega arith; sum = omega (arith, ints) }

-- the remainder is the one number below 65,536 with that
pub wrapped_is : (z : ℤ) (m d u : ℕ) → m < 65536 → z +ℤ pos (65536 * d) ≡ pos (m + 65536 * u) → wrapped z ≡ m
wrapped_is z m d u h e = let s = split z in omega (arith, ints, s.sum, s.small)

pub wrapped_small : (z : ℤ) → wrapped z < 65536
wrapped_small z = (split z).small

-- two integers with one remainder are a multiple of 65,536 apart
pub wrapped_apart : (y z : ℤ) → wrapped y ≡ wrapped z → (d : ℕ) × (u : ℕ) × (y +ℤ pos (65536 * d) ≡ z +ℤ pos (65536 * u))
wrapped_apart y z e =
    let a = split y in
    let b = split z in
    (a.down + b.up, b.down + a.up, omega (arith, ints, a.sum, b.sum))

-- the distance between two numbers, without integers
pub ahead_of_is : (a b : ℕ) → a < 65536 → ahead_of a b ≡ (b + (65536 - a)) % 65536
ahead_of_is a b h =
    wrapped_is (pos b -ℤ pos a) ((b + (65536 - a)) % 65536) 1 ((b + (65536 - a)) / 65536) (omega arith) (omega (arith, ints))

-- the number of an index is that far ahead of the number of an index before it
pub ahead_of-number_of : (s : ℕ) (t : ℤ) (d : ℕ) → d < 65536 → ahead_of (number_of s t) (number_of s (t +ℤ pos d)) ≡ d
ahead_of-number_of s t d h =
    let a = split (pos s +ℤ t) in
    let b = split (pos s +ℤ (t +ℤ pos d)) in
    wrapped_is _ d (a.down + b.up) (a.up + b.down) h (omega (arith, ints, a.sum, b.sum))

pub near_is_near : (n s : ℕ) (r : ℤ) → n < 65536 → IsNear n s r (near n s r)
near_is_near n s r h =
    let a = split (pos n -ℤ (pos s +ℤ (r -ℤ pos 32768))) in
    record {
      shown = wrapped_is _ n a.up a.down h (omega (arith, ints, a.sum));
      above = omega (arith, ints);
      below = omega (arith, ints, a.small);
    }

pub one_is_near : (n s : ℕ) (r t u : ℤ) → IsNear n s r t → IsNear n s r u → t ≡ u
one_is_near n s r t u p q =
    let a = split (pos s +ℤ t) in
    let b = split (pos s +ℤ u) in
    omega (arith, ints, a.sum, b.sum, p.shown, q.shown, p.above, p.below, q.above, q.below)

-- what is near is `near`
pub near_is : (n s : ℕ) (r t : ℤ) → IsNear n s r t → near n s r ≡ t
near_is n s r t p =
    let a = wrapped_small (pos s +ℤ t) in
    let e = p.shown in
    let h : n < 65536 = omega arith in
    one_is_near n s r (near n s r) t (near_is_near n s r h) p

-- the number of the index that lies as far on as the number `n` lies ahead is `n`
pub number_of-ahead_of : (n s : ℕ) (r : ℤ) → n < 65536 → number_of s (r +ℤ pos (ahead_of (number_of s r) n)) ≡ n
number_of-ahead_of n s r h =
    let a = split (pos s +ℤ r) in
    let b = split (pos n -ℤ pos (number_of s r)) in
    wrapped_is _ n (a.down + b.up) (a.up + b.down) h (omega (arith, ints, a.sum, b.sum))

-- `near` by the distance of the numbers: a number less than half of all ahead is ahead
pub near-ahead : (n s : ℕ) (r : ℤ) → n < 65536 → ahead_of (number_of s r) n < 32768 → near n s r ≡ r +ℤ pos (ahead_of (number_of s r) n)
near-ahead n s r h f =
    near_is n s r _ (record { shown = number_of-ahead_of n s r h; above = omega (arith, ints); below = omega (arith, ints) })

-- and any other is behind
pub near-behind : (n s : ℕ) (r : ℤ) → n < 65536 → 32768 ≤ ahead_of (number_of s r) n → near n s r ≡ (r +ℤ pos (ahead_of (number_of s r) n)) -ℤ pos 65536
near-behind n s r h f =
    let a = split (pos s +ℤ r) in
    let b = split (pos n -ℤ pos (number_of s r)) in
    let small = b.small in
    near_is n s r _ (record {
      shown = wrapped_is _ n (a.down + b.up + 1) (a.up + b.down) h (omega (arith, ints, a.sum, b.sum));
      above = omega (arith, ints);
      below = omega (arith, ints);
    })

-- an index without sign, within half of all numbers of another
pub near-index : (n s r i : ℕ) → (s + i) % 65536 ≡ n → r ≤ i + 32768 → i < r + 32768 → near n s (pos r) ≡ pos i
near-index n s r i e h f =
    near_is n s (pos r) (pos i) (record { shown = e; above = omega (arith, ints); below = omega (arith, ints) })
