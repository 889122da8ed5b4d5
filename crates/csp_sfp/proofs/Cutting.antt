-- where the pieces of a blob stand
use Rattle.std.proofs.Common.{◌≡◌, ℕ, zero, suc, ◌+◌, ◌-◌, ◌*◌, ◌/◌, ◌%◌, ◌<◌, ◌≤◌, arith}
use Rattle.std.proofs.Math.Nat.{div-mul-le_self, mod-add-div', mod-lt, mul-le-mul_right, suc-mul}
use Rattle.csp_sfp.specs.Pieces.{piece_count}

-- each begins inside of the blob
pub begins_inside : (bytes size j : ℕ) → 0 < bytes → j < piece_count bytes size → j * size < bytes
begins_inside bytes size j some early =
    let most : suc j * size ≤ piece_count bytes size * size = mul-le-mul_right size (omega (arith, early)) in
    let all : piece_count bytes size * size ≤ bytes + size - 1 = div-mul-le_self (bytes + size - 1) size in
    let one : suc j * size ≡ j * size + size = suc-mul j size in
    omega (arith, most, all, one, some)

-- and together they reach its end
pub reach_the_end : (bytes size : ℕ) → 0 < size → bytes ≤ piece_count bytes size * size
reach_the_end bytes size wide =
    let parts : (bytes + size - 1) % size + (bytes + size - 1) / size * size ≡ bytes + size - 1 = mod-add-div' (bytes + size - 1) size in
    let rest : (bytes + size - 1) % size < size = mod-lt (bytes + size - 1) wide in
    omega (arith, parts, rest)

-- a blob that is not empty has a piece
pub has_pieces : (bytes size : ℕ) → 0 < bytes → 0 < size → 0 < piece_count bytes size
has_pieces bytes size some wide =
    let reach = reach_the_end bytes size wide in
    by (piece_count bytes size) reach
  where
    by : (n : ℕ) → bytes ≤ n * size → 0 < n
    by zero h = absurd (omega (arith, h, some))
    by (suc n) h = omega arith
