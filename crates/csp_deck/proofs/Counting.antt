-- how often a number is among buffers
use Rattle.std.proofs.Common.{◌≡◌, ℕ, ◌+◌, ◌==◌, Bool, true, false, cond, ◌||◌, nat_lt, List, [], ◌∷◌, map, refl, arith}
use Rattle.std.specs.List.{list_any}
use Rattle.csp_buffer.specs.PlainBuffer.{PlainBuffer}
use Rattle.csp_deck.specs.Keeping.{numbers_of}
use Rattle.csp_deck.specs.Step.{times}
use Rattle.csp_deck.proofs.Keeping.{times-append}

-- the count after one more
any_counted : (hit rest : Bool) (n : ℕ) → rest ≡ nat_lt 0 n → (if_hit : ℕ) → if_hit ≡ cond hit 1 0 → (hit || rest) ≡ nat_lt 0 (if_hit + n)
any_counted true rest n e m h = grind (arith, h)
any_counted false rest n e m h = grind (arith, h, e)

-- a test of each buffer finds a number exactly where it is among their numbers
pub any_is_times : (bs : List PlainBuffer) (k : ℕ) → list_any (λ b. b.picture.number == k) bs ≡ nat_lt 0 (times k (numbers_of (map (λ b. b.picture) bs)))
any_is_times [] k = refl
any_is_times (b ∷ bs) k =
    let ns : List ℕ = numbers_of (map (λ b. b.picture) bs) in
    let n : ℕ = b.picture.number in
    let more : times k (n ∷ ns) ≡ times k (n ∷ []) + times k ns = times-append k (n ∷ []) ns in
    let one : times k (n ∷ []) ≡ cond (n == k) 1 0 = omega arith in
    rw more (any_counted (n == k) (list_any (λ b. b.picture.number == k) bs) (times k ns) (any_is_times bs k) (times k (n ∷ [])) one)
