-- the bytes of the options
use Rattle.std.proofs.Common.{◌≡◌, ℕ, ◌+◌, ◌<◌, ◌≤◌, inl, inr, List, ◌++◌, length, take, drop, get_or, arith, sym, refl, Ok, Err, IfOk, Bool, true, false}
use Rattle.std.specs.Prelude.{◌==◌, ◌||◌, nat_lt, if◌then◌else◌, Result}
use Rattle.std.specs.Int.{w32, to_be_bytes}
use Rattle.std.proofs.lemmas.Bool.{cases_lt}
use Rattle.std.proofs.lemmas.Nat.{be_bytes_4}
use Rattle.std.proofs.lemmas.List.{length-take, length-drop, get_or-take, get_or-drop, get_or_past}
use Rattle.std.proofs.Math.Seq.{take-add, take-length}
use Rattle.csp_rdp_header.specs.Options.{checked, number_at, option_bytes, options_of}
use Rattle.csp_rdp_header.specs.declared.errors.OptionError.{OptionError}
use Rattle.csp_rdp_header.specs.declared.errors.OptionError.TheVariants.{BadOption}
use Rattle.csp_rdp_header.specs.declared.options.Options.{Options}
use Rattle.csp_rdp_header.specs.declared.options.TheConstants.{MAX_WINDOW}

-- the number at four bytes is written as these
pub number_written : (bytes : List ℕ) (at : ℕ) → at + 4 ≤ length bytes → ((i : ℕ) → get_or bytes i 0 < 256) →
    to_be_bytes w32 (number_at bytes at) ≡ take 4 (drop at bytes)
number_written bytes at fits small =
    let four : length (take 4 (drop at bytes)) ≡ 4 = rw (length-take, length-drop) (omega arith) in
    let each : (i : ℕ) → get_or (take 4 (drop at bytes)) i 0 < 256 =
    λ i. elim (cases_lt i 4) as (λ _. get_or (take 4 (drop at bytes)) i 0 < 256) [
      | inl before ↦ rw (get_or-take 4 (drop at bytes) i 0 before, get_or-drop) (small (at + i))
      | inr past ↦ rw (get_or_past (take 4 (drop at bytes)) i 0 (omega arith)) (omega arith)
    ] in
    be_bytes_4 (take 4 (drop at bytes)) (number_at bytes at) four each refl

-- four bytes more
grown : (k : ℕ) (bytes : List ℕ) → take k bytes ++ take 4 (drop k bytes) ≡ take (k + 4) bytes
grown k bytes = sym (take-add k 4 bytes)

-- six parts of four bytes are 24 bytes
joined : (bytes a b c d e f : List ℕ) → length bytes ≡ 24 → a ≡ take 4 bytes → b ≡ take 4 (drop 4 bytes) → c ≡ take 4 (drop 8 bytes) →
    d ≡ take 4 (drop 12 bytes) → e ≡ take 4 (drop 16 bytes) → f ≡ take 4 (drop 20 bytes) → bytes ≡ a ++ b ++ c ++ d ++ e ++ f
joined bytes a b c d e f len p q r s t u =
    let whole : take 24 bytes ≡ bytes = rw (← len) (take-length bytes) in
    let two = grown 4 bytes in
    let three = grown 8 bytes in
    let four = grown 12 bytes in
    let five = grown 16 bytes in
    let six = grown 20 bytes in
    cc

abbrev pub options_with : (a b c d e f : ℕ) → Options
options_with a b c d e f = record { window = a; conn_timeout = b; packet_timeout = c; delayed = d; ack_timeout = e; ack_count = f }

-- 24 bytes are those of the options that they are read as
pub options_written : (bytes : List ℕ) → length bytes ≡ 24 → ((i : ℕ) → get_or bytes i 0 < 256) → bytes ≡ option_bytes (options_of bytes)
options_written bytes len small =
    joined bytes _ _ _ _ _ _ len
    (number_written bytes 0 (omega arith) small) (number_written bytes 4 (omega arith) small) (number_written bytes 8 (omega arith) small)
    (number_written bytes 12 (omega arith) small) (number_written bytes 16 (omega arith) small) (number_written bytes 20 (omega arith) small)

-- six numbers that are read are the options that are read
pub options_read : (bytes : List ℕ) (a b c d e f : ℕ) → a ≡ number_at bytes 0 → b ≡ number_at bytes 4 → c ≡ number_at bytes 8 →
    d ≡ number_at bytes 12 → e ≡ number_at bytes 16 → f ≡ number_at bytes 20 → options_with a b c d e f ≡ options_of bytes
options_read bytes a b c d e f p q r s t u = cc

-- where they are accepted, they are the options themselves
pub checked_same : (o accepted : Options) → checked o ≡ Ok accepted → accepted ≡ o
checked_same o accepted e = go (o.window == 0 || nat_lt MAX_WINDOW o.window) (o.conn_timeout == 0) (o.packet_timeout == 0) e
  where
    go : (p q r : Bool) → (if p then Err (BadOption 0) else if q then Err (BadOption 1) else if r then Err (BadOption 2) else Ok o) ≡ Ok accepted → accepted ≡ o
    go true q r e = cc
    go false true r e = cc
    go false false true e = cc
    go false false false e = cc

-- bytes that are judged good are those of the options
pub judged_whole : (bytes : List ℕ) (result : Result Options OptionError) → length bytes ≡ 24 → ((i : ℕ) → get_or bytes i 0 < 256) →
    result ≡ checked (options_of bytes) → IfOk result (λ o. bytes ≡ option_bytes o)
judged_whole bytes (Err _) len small e = tt
judged_whole bytes (Ok o) len small e =
    rw (checked_same (options_of bytes) o (sym e)) (options_written bytes len small)
