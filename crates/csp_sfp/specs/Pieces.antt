-- A blob cut into pieces.
use Rattle.std.specs.Prelude.{◌≡◌, ℕ, ◌+◌, ◌-◌, ◌*◌, ◌/◌, ◌<◌, ◌≤◌, List, ◌++◌, length, take, drop, map}
use Rattle.std.specs.List.{range_with_len}
use Rattle.arrayvec.specs.ArrayVec.{ArrayVec}
use Rattle.csp_sfp.specs.Trailer.{trailer_bytes}
use Rattle.csp_sfp.specs.declared.pieces.Pieces.TheInside.{Inside}
use Rattle.csp_sfp.specs.declared.pieces.TheConstants.{MAX_SIZE}
use Rattle.csp_sfp.specs.declared.trailer.TheConstants.{MAX_BLOB}

-- the piece at an offset: so many bytes of the blob, or what is left of it, and their trailer
abbrev pub piece_at : (blob : List ℕ) (size offset : ℕ) → List ℕ
piece_at blob size offset = take size (drop offset blob) ++ trailer_bytes offset (length blob)

-- how many pieces so many bytes make
abbrev pub piece_count : (bytes size : ℕ) → ℕ
piece_count bytes size = (bytes + size - 1) / size

-- so many pieces of a blob, from one on: each is filled before the next, so the j-th stands at j times the size
abbrev pub pieces_from : (blob : List ℕ) (size first count : ℕ) → List (List ℕ)
pieces_from blob size first count = map (λ j. piece_at blob size (j * size)) (range_with_len first count)

-- all pieces of a blob
abbrev pub pieces_of : (blob : List ℕ) (size : ℕ) → List (List ℕ)
pieces_of blob size = pieces_from blob size 0 (piece_count (length blob) size)

-- bytes in a fixed room
abbrev pub held : List ℕ → ArrayVec ℕ
held bytes = record { items = bytes }

-- a blob that can be sent in pieces of this size
pub record CanBeCut (blob : List ℕ) (size : ℕ) : Type 0 where
  pub some : 0 < length blob
  pub fits : length blob ≤ MAX_BLOB
  pub wide : 0 < size
  pub short : size ≤ MAX_SIZE

-- the pieces still to come
abbrev pub pieces_left : Inside → List (List ℕ)
pieces_left p = pieces_from p.blob.now p.size p.next p.left

-- they are the last of all pieces
pub record IsUnderWay (p : Inside) : Type 0 where
  pub cut : CanBeCut p.blob.now p.size
  pub rest : p.next + p.left ≡ piece_count (length p.blob.now) p.size
