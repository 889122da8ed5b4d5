-- machines let go of what they do not need any more, and it joins the trash
use Rattle.std.proofs.Common.{◌≡◌, ℕ, ◌+◌, ◌<◌, ◌≤◌, List, [], ◌∷◌, ◌++◌, length, map, arith, ap, subst, sym, ◌∙◌, refl}
use Rattle.std.proofs.lemmas.List.{append-nil, append_assoc, length-append, length-map}
use Rattle.csp_arena.specs.Cells.{RegionName}
use Rattle.csp_buffer.specs.Content.{Content}
use Rattle.csp_buffer.specs.PlainBuffer.{PlainBuffer}
use Rattle.csp_ports.specs.Came.{pictures}
use Rattle.csp_ports.specs.Kept.{IsHoused}
use Rattle.csp_rdp.specs.Balance.{Balanced, IsWhole}
use Rattle.csp_rdp.specs.Holding.{rdp_buffers, rdp_numbers, rested, unneeded}
use Rattle.csp_rdp.specs.Jobs.{admitting}
use Rattle.csp_rdp.specs.Machine.{PlainRdp}
use Rattle.csp_rdp.specs.Placed.{placed_buffer}
use Rattle.csp_rdp.specs.Regions.{AreAllIn, AreIn}
use Rattle.csp_rdp_window.specs.declared.receive.TheConstants.{RECEIVE_PLACES}
use Rattle.csp_rdp_window.specs.declared.send.TheConstants.{SEND_PLACES}
use Rattle.std.specs.Prelude.{Option, None, Some, Result, Ok, Err, OnOk, OnErr}
use Rattle.std.specs.Option.{option_to_list}
use Rattle.csp_rdp_window.specs.Numbers.{number_in}

-- there is room for the next
pub next_room : (trash first : List Content) (loose all rest : List PlainBuffer) (b : PlainBuffer) (room : ℕ) → trash ++ pictures loose ≡ first ++ pictures all → loose ≡ b ∷ rest → length first + length all ≤ room → length trash < room
next_room trash first loose all rest b room e f h =
    omega (arith, ap length e, length-append trash (pictures loose), length-append first (pictures all), length-map loose (λ b. b.picture), length-map all (λ b. b.picture), ap length f, h)

-- it is of the region
pub next_in : (name : RegionName) (loose rest : List PlainBuffer) (b : PlainBuffer) → AreIn name loose → loose ≡ b ∷ rest → b.region ≡ name
next_in name loose rest b h e = (subst (λ (bs : List PlainBuffer). AreIn name bs) e h).0

-- and the rest joins after it
pub next_joins : (trash all : List Content) (loose rest : List PlainBuffer) (b : PlainBuffer) → trash ++ pictures loose ≡ all → loose ≡ b ∷ rest → (trash ++ b.picture ∷ []) ++ pictures rest ≡ all
next_joins trash all loose rest b e f = append_assoc trash (b.picture ∷ []) (pictures rest) ∙ (ap (λ (bs : List PlainBuffer). trash ++ pictures bs) (sym f) ∙ e)

-- as many numbers as buffers
pub as_buffers : (r : PlainRdp) (first : List Content) (room : ℕ) → rdp_numbers r ≡ map (λ b. b.picture.number) (rdp_buffers r) → length first + length (rdp_numbers r) ≤ room → length first + length (rdp_buffers r) ≤ room
as_buffers r first room e h = omega (arith, ap length e, length-map (rdp_buffers r) (λ b. b.picture.number), h)

-- what is let go is among what is held
pub loose_room : (r before : PlainRdp) (first : List Content) (room : ℕ) → Balanced (map (λ b. b.picture.number) (unneeded r) ++ rdp_numbers (rested r)) (rdp_numbers r) → rdp_numbers r ≡ rdp_numbers before
    → length first + length (rdp_numbers before) ≤ room → length first + length (unneeded r) ≤ room
loose_room r before first room parted same h =
    omega (arith, parted.count, length-append (map (λ b. b.picture.number) (unneeded r)) (rdp_numbers (rested r)), length-map (unneeded r) (λ b. b.picture.number), ap length same, h)

-- a machine that admits a packet, or does not, goes on as it was
pub admitted_housed : {A : Type 0} → (name : RegionName) (b : PlainBuffer) (old new : PlainRdp) (time : ℕ) (answer : Result A PlainBuffer) → OnOk answer (new ≡ admitting b time old) → OnErr answer (new ≡ old) → IsHoused name old
    → AreAllIn name (admitting b time old) → IsWhole (admitting b time old) → unneeded (admitting b time old) ≡ [] → length (rdp_numbers new) ≤ SEND_PLACES + RECEIVE_PLACES → IsHoused name new
admitted_housed name b old new time (Ok _) ok err h region whole rest few = record { region = rw ok region; whole = rw ok whole; rested = rw ok rest; few = few }
admitted_housed name b old new time (Err _) ok err h region whole rest few = rw err h

back_count : (back : Option PlainBuffer) → length (number_in back) ≡ length (pictures (option_to_list back))
back_count None = refl
back_count (Some b) = refl

-- what is handed back, and what is let go, is among what is held and what is handed in
pub hand_room : (r : PlainRdp) (before : List ℕ) (back : Option PlainBuffer) (number : ℕ) (first : List Content) (room : ℕ) → Balanced (rdp_numbers r ++ number_in back) (before ++ number ∷ []) → Balanced (map (λ b. b.picture.number) (unneeded r) ++ rdp_numbers (rested r)) (rdp_numbers r)
    → length first + length before + 1 ≤ room → length (first ++ pictures (option_to_list back)) + length (unneeded r) ≤ room
hand_room r before back number first room given parted h =
    omega (
      arith,
      given.count,
      length-append (rdp_numbers r) (number_in back),
      length-append before (number ∷ []),
      parted.count,
      length-append (map (λ b. b.picture.number) (unneeded r)) (rdp_numbers (rested r)),
      length-map (unneeded r) (λ b. b.picture.number),
      length-append first (pictures (option_to_list back)),
      back_count back,
      h,
    )

-- where buffers lie is not in their pictures
pub pictures_placed : (n : RegionName) (bs : List PlainBuffer) → pictures (map (placed_buffer n) bs) ≡ pictures bs
pictures_placed n [] = refl
pictures_placed n (b ∷ bs) = ap (λ (cs : List Content). b.picture ∷ cs) (pictures_placed n bs)

-- when none is left, all have joined
pub all_joined : (first trash : List Content) (rest all : List PlainBuffer) (pics : List Content) → trash ++ pictures rest ≡ first ++ pictures all → rest ≡ [] → pics ≡ pictures all → trash ≡ first ++ pics
all_joined first trash rest all pics e none same = sym (append-nil trash) ∙ (ap (λ (bs : List PlainBuffer). trash ++ pictures bs) (sym none) ∙ (e ∙ ap (λ (cs : List Content). first ++ cs) (sym same)))

-- what is let go and what is left are all that was held
pub let_size : (first : List Content) (r before : PlainRdp) → Balanced (map (λ b. b.picture.number) (unneeded r) ++ rdp_numbers (rested r)) (rdp_numbers r) → rdp_numbers r ≡ rdp_numbers before
    → length (first ++ pictures (unneeded r)) + length (rdp_numbers (rested r)) ≡ length first + length (rdp_numbers before)
let_size first r before parted same =
    omega (
      arith,
      parted.count,
      length-append (map (λ b. b.picture.number) (unneeded r)) (rdp_numbers (rested r)),
      length-map (unneeded r) (λ b. b.picture.number),
      length-map (unneeded r) (λ b. b.picture),
      length-append first (pictures (unneeded r)),
      ap length same,
    )
