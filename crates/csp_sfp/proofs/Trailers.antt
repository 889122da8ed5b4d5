-- what stands before a trailer, and what the trailer says, are read back
use Rattle.std.proofs.Common.{◌≡◌, ℕ, ◌+◌, ◌-◌, ◌^◌, ◌<◌, List, ◌++◌, length, take, drop, ap, ◌∙◌, arith, length-append}
use Rattle.std.specs.Int.{to_be_bytes, from_be_bytes, w32}
use Rattle.std.proofs.Math.Seq.{drop-append_seam, take-append_seam}
use Rattle.std.proofs.lemmas.Nat.{from_be_bytes-to_be_bytes_4}
use Rattle.csp_sfp.specs.Trailer.{trailer_bytes, data_of, trailer_of, offset_of, total_of}

-- the number of bytes before a trailer
before : (part : List ℕ) (offset total : ℕ) → length (part ++ trailer_bytes offset total) - 8 ≡ length part
before part offset total = let long : length (part ++ trailer_bytes offset total) ≡ length part + 8 = length-append part (trailer_bytes offset total) in omega (arith, long)

pub data_back : (part : List ℕ) (offset total : ℕ) → data_of (part ++ trailer_bytes offset total) ≡ part
data_back part offset total = ap (λ n. take n (part ++ trailer_bytes offset total)) (before part offset total) ∙ take-append_seam part (trailer_bytes offset total)

trailer_back : (part : List ℕ) (offset total : ℕ) → trailer_of (part ++ trailer_bytes offset total) ≡ trailer_bytes offset total
trailer_back part offset total = ap (λ n. drop n (part ++ trailer_bytes offset total)) (before part offset total) ∙ drop-append_seam part (trailer_bytes offset total)

pub offset_back : (part : List ℕ) (offset total : ℕ) → offset < 2 ^ 32 → offset_of (part ++ trailer_bytes offset total) ≡ offset
offset_back part offset total small =
    ap (λ bytes. from_be_bytes w32 (take 4 bytes)) (trailer_back part offset total) ∙ ap (from_be_bytes w32) (take-append_seam (to_be_bytes w32 offset) (to_be_bytes w32 total)) ∙ from_be_bytes-to_be_bytes_4 offset small

pub total_back : (part : List ℕ) (offset total : ℕ) → total < 2 ^ 32 → total_of (part ++ trailer_bytes offset total) ≡ total
total_back part offset total small =
    ap (λ bytes. from_be_bytes w32 (drop 4 bytes)) (trailer_back part offset total) ∙ ap (from_be_bytes w32) (drop-append_seam (to_be_bytes w32 offset) (to_be_bytes w32 total)) ∙ from_be_bytes-to_be_bytes_4 total small

pub long_piece : (part : List ℕ) (offset total : ℕ) → length (part ++ trailer_bytes offset total) ≡ length part + 8
long_piece part offset total = length-append part (trailer_bytes offset total)
