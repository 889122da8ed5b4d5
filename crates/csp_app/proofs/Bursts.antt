-- the bytes of the packets that steps send, and that `Up` carries these packets
use Rattle.std.proofs.Common.{◌≡◌, ℕ, zero, suc, ◌+◌, ◌%◌, List, [], ◌∷◌, ◌++◌, length, refl, sym, ap, ap₂, ◌∙◌, arith, append-nil, append_assoc}
use Rattle.std.proofs.lemmas.List.FromFn.{map-range_with_len_more, length-map-range_with_len}
use Rattle.csp_app.specs.Making.{batch_of, burst_bytes, filled}
use Rattle.csp_app.specs.Room.{IsStep}
use Rattle.csp_app.specs.PlainStep.{PlainStep}
use Rattle.csp_app.specs.PlainStep as step
use Rattle.csp_buffer.specs.Content.{Content}
use Rattle.csp_deck.specs.Carried.{IsUpItem}
use Rattle.csp_log.specs.declared.shown.ItemShown.TheVariants as item

-- a burst's packet that is a byte longer has that byte besides
pub burst_more : (len j : ℕ) → burst_bytes (len + 1) j ≡ burst_bytes len j ++ ((j + len) % 256) ∷ []
burst_more len j = map-range_with_len_more (λ i. (j + i) % 256) 0 len len (omega arith)

-- and one that is so many bytes longer has those that follow
pub burst_joined : (a b j : ℕ) → burst_bytes (a + b) j ≡ burst_bytes a j ++ burst_bytes b (j + a)
burst_joined a zero j =
    let same : a + zero ≡ a = omega arith in
    ap (λ (n : ℕ). burst_bytes n j) same ∙ sym (append-nil (burst_bytes a j))
burst_joined a (suc b) j =
    let longer : a + suc b ≡ (a + b) + 1 = omega arith in
    let one_more : suc b ≡ b + 1 = omega arith in
    let further : j + (a + b) ≡ (j + a) + b = omega arith in
    let last : (j + (a + b)) % 256 ≡ ((j + a) + b) % 256 = ap (λ (n : ℕ). n % 256) further in
    let whole : burst_bytes (suc b) (j + a) ≡ burst_bytes b (j + a) ++ (((j + a) + b) % 256) ∷ [] = ap (λ (n : ℕ). burst_bytes n (j + a)) one_more ∙ burst_more b (j + a) in
    ap (λ (n : ℕ). burst_bytes n j) longer ∙ burst_more (a + b) j ∙ ap₂ (λ (xs : List ℕ) (y : ℕ). xs ++ y ∷ []) (burst_joined a b j) last ∙ append_assoc (burst_bytes a j) (burst_bytes b (j + a)) ((((j + a) + b) % 256) ∷ []) ∙ ap (λ (xs : List ℕ). burst_bytes a j ++ xs) (sym whole)

pub burst_length : (len j : ℕ) → length (burst_bytes len j) ≡ len
burst_length len j = length-map-range_with_len (λ i. (j + i) % 256) 0 len
