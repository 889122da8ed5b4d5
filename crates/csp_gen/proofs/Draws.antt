-- The frames of the faults, one by one.
use Rattle.std.proofs.Common.{◌≡◌, ℕ, zero, suc, ◌+◌, ◌*◌, ◌/◌, ◌%◌, ◌<◌, ◌≤◌, ◌^◌, refl, add-one, arith}
use Rattle.std.proofs.Math.Nat.{mod-lt}
use Rattle.csp_draw.specs.Draws.{next_draw, drawn}
use Rattle.csp_draw.specs.declared.TheConstants.{SHIFT}
use Rattle.csp_gen.specs.GenText.{number_at, frame_at}
use Rattle.csp_gen.specs.declared.faults.TheConstants.{FIRST_FRAME, LEAST_GAP, GAPS}

pub first_number : (packets : ℕ) → number_at packets 0 ≡ packets
unfolding number_at
first_number packets = refl

pub next_number : (packets j : ℕ) → number_at packets (j + 1) ≡ next_draw (number_at packets j)
unfolding number_at
next_number packets j = rw add-one refl

pub first_frame : (packets : ℕ) → frame_at packets 0 ≡ FIRST_FRAME
unfolding frame_at
first_frame packets = refl

pub next_frame : (packets j : ℕ) → frame_at packets (j + 1) ≡ frame_at packets j + LEAST_GAP + drawn GAPS (number_at packets (j + 1))
unfolding frame_at
next_frame packets j = rw add-one refl

-- each gap is of 10 to 29 frames
pub gap_more : (packets j : ℕ) → frame_at packets j + 10 ≤ frame_at packets (suc j)
unfolding frame_at
gap_more packets j = omega arith

pub gap_less : (packets j : ℕ) → frame_at packets (suc j) ≤ frame_at packets j + 29
unfolding frame_at
gap_less packets j =
    let gap : (number_at packets (suc j) / 2 ^ SHIFT) % 20 < 20 = mod-lt (number_at packets (suc j) / 2 ^ SHIFT) (omega arith) in
    omega arith

pub few_frames : (packets j : ℕ) → frame_at packets j ≤ 10 + 29 * j
few_frames packets zero = omega (arith, first_frame packets)
few_frames packets (suc j) =
    let before = few_frames packets j in
    let gap = gap_less packets j in
    omega arith

-- and there is one
pub some_frame : (packets j : ℕ) → 10 ≤ frame_at packets j
some_frame packets zero = omega (arith, first_frame packets)
some_frame packets (suc j) =
    let before = some_frame packets j in
    let gap = gap_more packets j in
    omega arith
