-- the list of numbers in an extended acknowledgement
use Rattle.std.specs.Prelude.{ℕ, ◌*◌, ◌%◌, ◌==◌, ◌||◌, Bool, nat_lt, List, [], ◌∷◌, length}
use Rattle.csp_base.specs.declared.sequence.Seq.{Seq}
use Rattle.csp_rdp_header.specs.Head.{seq_of}
use Rattle.csp_rdp_header.specs.declared.numbers.TheConstants.{MAX_LISTED}

-- bytes are no list: they are odd in number, or more than 2 * MAX_LISTED
abbrev pub is_malformed : List ℕ → Bool
is_malformed bytes = length bytes % 2 == 1 || nat_lt (2 * MAX_LISTED) (length bytes)

-- the numbers that bytes are, two bytes each, the most significant first; an odd byte at the end is none
abbrev pub numbers_of : List ℕ → List Seq
numbers_of [] = []
numbers_of (_ ∷ []) = []
numbers_of (high ∷ low ∷ bytes) = seq_of (high ∷ low ∷ []) ∷ numbers_of bytes
