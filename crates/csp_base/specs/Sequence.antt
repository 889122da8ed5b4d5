-- sequence numbers of 16 bits, and the true indices of a flow, which are integers without a bound
use Rattle.std.specs.Prelude.{◌≡◌, ℕ, ℤ, pos, ◌+ℤ◌, ◌-ℤ◌, ◌≤ℤ◌, ◌<ℤ◌, unsigned_abs}
use Rattle.std.specs.Int.{int_rem_euclid}

-- an integer modulo 65,536
abbrev pub wrapped : ℤ → ℕ
wrapped z = unsigned_abs (int_rem_euclid z (pos 65536))

-- the number that shows the true index `t` in a flow that starts at `s`: (s + t) mod 65536
abbrev pub number_of : ℕ → ℤ → ℕ
number_of s t = wrapped (pos s +ℤ t)

-- how far the number `b` lies ahead of `a`: (b - a) mod 65536
abbrev pub ahead_of : ℕ → ℕ → ℕ
ahead_of a b = wrapped (pos b -ℤ pos a)

-- the numbers `a` and `b` show two true indices of one flow, the second of them `d` after the first
pub record IsApart (a b d : ℕ) : Type 0 where
  pub start : ℕ
  pub index : ℤ
  pub first : a ≡ number_of start index
  pub second : b ≡ number_of start (index +ℤ pos d)

-- `t` is a true index that the number `n` shows in a flow that starts at `s`, and one of the 65,536 round `r`
pub record IsNear (n s : ℕ) (r t : ℤ) : Type 0 where
  pub shown : number_of s t ≡ n
  pub above : (r -ℤ pos 32768) ≤ℤ t
  pub below : t <ℤ (r +ℤ pos 32768)

-- the one true index that the number `n` shows in a flow that starts at `s`, round the index `r`: it may be negative
abbrev pub near : ℕ → ℕ → ℤ → ℤ
near n s r = (r -ℤ pos 32768) +ℤ pos (wrapped (pos n -ℤ (pos s +ℤ (r -ℤ pos 32768))))
