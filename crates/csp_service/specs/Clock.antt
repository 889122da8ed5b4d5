-- the clock of a node
use Rattle.std.specs.Prelude.{ℕ, ◌+◌, ◌*◌, ◌/◌, ◌%◌, ◌^◌, ℤ, pos, negsuc, ◌+ℤ◌, ◌-ℤ◌, ◌<ℤ◌, ◌≤ℤ◌, if◌then◌else◌, ◌==◌}

-- an integer that is not negative, as a number
abbrev pub natural : ℤ → ℕ
natural (pos n) = n
natural (negsuc n) = 0

-- the milliseconds that a clock shows, which is so far ahead of the time
abbrev pub shown : ℤ → ℕ → ℕ
shown clock now = natural (clock +ℤ pos now)

-- the milliseconds of seconds and nanoseconds, rounded down
abbrev pub millis_of : ℕ → ℕ → ℕ
millis_of sec nsec = sec * 1000 + nsec / 1000000

-- how far a clock is ahead of the time once a request was heard: it is set where that has seconds other than 0
abbrev pub clock_set : ℕ → ℕ → ℤ → ℕ → ℤ
clock_set sec nsec clock now = if sec == 0 then clock else pos (millis_of sec nsec) -ℤ pos now

-- the seconds of so many milliseconds, as a number of 32 bits
abbrev pub seconds_of : ℕ → ℕ
seconds_of millis = (millis / 1000) % 2 ^ 32

-- and the nanoseconds besides
abbrev pub nanos_of : ℕ → ℕ
nanos_of millis = (millis % 1000) * 1000000

-- a clock is less than 2^62 milliseconds ahead of the time, and at most so far behind it
pub record IsClock (clock : ℤ) : Type 0 where
  pub ahead : clock <ℤ pos (2 ^ 62)
  pub behind : pos 0 ≤ℤ (clock +ℤ pos (2 ^ 62))
