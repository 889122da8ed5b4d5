-- Numbers drawn one after the other.
use Rattle.std.specs.Prelude.{ℕ, ◌+◌, ◌*◌, ◌/◌, ◌%◌, ◌^◌}
use Rattle.csp_draw.specs.declared.TheConstants.{FACTOR, STEP, SHIFT}

-- the number after this one: a linear congruence modulo 2^64
abbrev pub next_draw : ℕ → ℕ
next_draw x = (x * FACTOR + STEP) % 2 ^ 64

-- which of so many choices a number draws: its low bits are left out
abbrev pub drawn : ℕ → ℕ → ℕ
drawn choices x = (x / 2 ^ SHIFT) % choices
