-- lists of numbers, read and written
use Rattle.std.proofs.Common.{inl, inr, ◌≡◌, ℕ, suc, ◌*◌, ◌%◌, ◌^◌, ◌<◌, ◌≤◌, List, [], ◌∷◌, length, length-append, get_or, false, arith, ap, ◌∙◌, refl}
use Rattle.std.specs.List.{flat_map}
use Rattle.std.proofs.lemmas.Bool.{cases_eq, eq-eqb, ne_eqb, le-ltb}
use Rattle.std.proofs.lemmas.Nat.{from_be_bytes-to_be_bytes_2}
use Rattle.csp_base.specs.declared.sequence.Seq.{Seq}
use Rattle.csp_rdp_header.specs.Head.{seq_bytes, seq_of}
use Rattle.csp_rdp_header.specs.Numbers.{is_malformed, numbers_of}
use Rattle.csp_rdp_header.proofs.HeadLemmas.{pair_written}

-- an even number of bytes is written as the numbers are that they are read as
pub numbers_written : (bytes : List ℕ) → length bytes % 2 ≡ 0 → ((i : ℕ) → get_or bytes i 0 < 256) → bytes ≡ flat_map seq_bytes (numbers_of bytes)
numbers_written [] even small = refl
numbers_written (a ∷ []) even small = absurd (omega arith)
numbers_written (a ∷ b ∷ bytes) even small =
    let rest : bytes ≡ flat_map seq_bytes (numbers_of bytes) = numbers_written bytes (omega arith) (λ i. small (suc (suc i))) in
    let pair : seq_bytes (seq_of (a ∷ b ∷ [])) ≡ a ∷ b ∷ [] = pair_written a b _ (small 0) (small 1) refl in
    cc

-- numbers of 16 bits are read from the bytes that they are written as
pub numbers_read : (list : List Seq) → ((i : ℕ) (d : Seq) → i < length list → (get_or list i d).0 < 2 ^ 16) → numbers_of (flat_map seq_bytes list) ≡ list
numbers_read [] small = refl
numbers_read (s ∷ list) small =
    let rest : numbers_of (flat_map seq_bytes list) ≡ list = numbers_read list (λ i d h. small (suc i) d (omega arith)) in
    let seq : ℕ → Seq = λ n. record { 0 = n } in
    let same : seq_of (seq_bytes s) ≡ s = ap seq (from_be_bytes-to_be_bytes_2 s.0 (small 0 s (omega arith))) in
    ap (λ x. x ∷ numbers_of (flat_map seq_bytes list)) same ∙ ap (λ xs. s ∷ xs) rest

pub length-written : (list : List Seq) → length (flat_map seq_bytes list) ≡ 2 * length list
length-written [] = refl
length-written (s ∷ list) = let e = length-written list in omega (arith, length-append {A = ℕ})

-- what is written of few numbers is a list
pub written_well_formed : (list : List Seq) → length list ≤ 40 → is_malformed (flat_map seq_bytes list) ≡ false
written_well_formed list few =
    let n : length (flat_map seq_bytes list) ≡ 2 * length list = length-written list in
    let even : length (flat_map seq_bytes list) % 2 ≡ 1 → ⊥ = λ odd. omega arith in
    rw (ne_eqb (length (flat_map seq_bytes list) % 2) 1 even) (le-ltb 256 (length (flat_map seq_bytes list)) (omega arith))

-- a list has an even number of bytes
pub even-length : (bytes : List ℕ) → is_malformed bytes ≡ false → length bytes % 2 ≡ 0
even-length bytes e =
    elim (cases_eq (length bytes % 2) 1) [ inl odd ↦ absurd (go odd e) | inr even ↦ omega arith ]
  where
    go : length bytes % 2 ≡ 1 → is_malformed bytes ≡ false → ⊥
    go odd f = let test = eq-eqb (length bytes % 2) 1 odd in cc
