-- The words of a table: what is left of each byte.
use Rattle.std.proofs.Common.{◌≡◌, ℕ, ◌+◌, ◌*◌, ◌<◌, List, map, ap, sym, ◌∙◌, arith, get_or}
use Rattle.std.specs.List.{range_with_len}
use Rattle.std.proofs.lemmas.List.FromFn.{get_or-map-range_with_len}
use Rattle.csp_crc.specs.Register.{places, byte_remainder}
use Rattle.csp_crc.proofs.Division.{remainder-byte}

-- what so many places leave of each byte
unfoldable pub words : ℕ → List ℕ
words k = map (places k) (range_with_len 0 256)

pub word_at : (zeros : ℕ) (table : List ℕ) (byte : ℕ) → table ≡ words (8 * zeros + 8) → byte < 256 → get_or table byte 0 ≡ byte_remainder zeros byte
unfolding words
word_at zeros table byte same h =
    ap (λ ws. get_or ws byte 0) same ∙ get_or-map-range_with_len (places (8 * zeros + 8)) 0 256 byte byte 0 h (omega arith) ∙ sym (remainder-byte zeros byte h)
