-- A plain bit of a frame: one of a byte that stands for itself, both before the bit is turned over and after.
use Rattle.std.specs.Prelude.{◌≡◌, ◌≢◌, ℕ, ◌+◌, ◌*◌, ◌/◌, ◌<◌, List, length, slice_index}
use Rattle.csp_kiss.specs.declared.TheConstants.{FEND, FESC}
use Rattle.csp_noticed.specs.Flipping.{flipped}

-- a byte that neither ends a piece nor begins an escape
abbrev pub IsPlain : ℕ → Type 0
IsPlain byte = (byte ≢ FEND) × (byte ≢ FESC)

-- the byte at a place is plain: it is neither FEND nor FESC, and the byte before it is no FESC
pub record IsPlainAt (bytes : List ℕ) (place : ℕ) : Type 0 where
  pub plain : IsPlain (slice_index bytes place)
  pub unescaped : (before : ℕ) → before + 1 ≡ place → slice_index bytes before ≢ FESC

-- this bit is one of a plain byte, and turned over it makes a byte that is neither FEND nor FESC
pub record FlipsPlain (bit : ℕ) (bytes : List ℕ) : Type 0 where
  pub there : bit < 8 * length bytes
  pub was : IsPlainAt bytes (bit / 8)
  pub is : IsPlain (slice_index (flipped bit bytes) (bit / 8))
