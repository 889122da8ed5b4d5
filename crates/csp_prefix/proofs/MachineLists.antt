-- Lists of payloads by their indices, their beginnings, and lists with one more.
use Rattle.std.proofs.Common.{◌≡◌, ℕ, zero, suc, ◌+◌, ◌-◌, List, [], ◌∷◌, ◌++◌, length, take, Some, refl, ap, arith}
use Rattle.std.specs.List.{All, slice_get}
use Rattle.std.proofs.lemmas.List.Elements.{All-weaker}
use Rattle.csp_rdp_window.specs.declared.pending.Pending.{Pending}
use Rattle.csp_prefix.specs.Flows.{IsSaid}

slice_get-front : {X : Type 0} (xs ys : List X) (k : ℕ) (x : X) → slice_get xs k ≡ Some x → slice_get (xs ++ ys) k ≡ Some x
slice_get-front [] ys k x e = absurd cc
slice_get-front (y ∷ xs) ys zero x e = e
slice_get-front (y ∷ xs) ys (suc k) x e = slice_get-front xs ys k x e

slice_get-last : {X : Type 0} (xs : List X) (y : X) (k : ℕ) → k ≡ length xs → slice_get (xs ++ y ∷ []) k ≡ Some y
slice_get-last [] y zero e = refl
slice_get-last [] y (suc k) e = absurd (omega (arith, e))
slice_get-last (x ∷ xs) y zero e = absurd (omega (arith, e))
slice_get-last (x ∷ xs) y (suc k) e = slice_get-last xs y k (omega (arith, e))

-- what was said is said where more is
pub said-more : (said more : List (List ℕ)) (index : ℕ) (payload : List ℕ) → IsSaid said index payload → IsSaid (said ++ more) index payload
said-more said more index payload i = record { low = i.low; there = slice_get-front said more (index - 1) payload i.there }

-- and the last that was said is
pub said-last : (said : List (List ℕ)) (payload : List ℕ) (index : ℕ) → index ≡ length said + 1 → IsSaid (said ++ payload ∷ []) index payload
said-last said payload index e = record { low = omega (arith, e); there = slice_get-last said payload (index - 1) (omega (arith, e)) }

pub all-said-more : (said more : List (List ℕ)) (ps : List Pending) → All (λ p. IsSaid said p.index p.buffer.picture.payload) ps → All (λ p. IsSaid (said ++ more) p.index p.buffer.picture.payload) ps
all-said-more said more ps all =
    All-weaker (λ p. IsSaid said p.index p.buffer.picture.payload) (λ p. IsSaid (said ++ more) p.index p.buffer.picture.payload)
    (λ p i. said-more said more p.index p.buffer.picture.payload i) ps all

-- the beginning of a list, with the next of it
pub take-more : {X : Type 0} (xs : List X) (k : ℕ) (x : X) → slice_get xs k ≡ Some x → take (suc k) xs ≡ take k xs ++ x ∷ []
take-more [] k x e = absurd cc
take-more (y ∷ xs) zero x e = let same : y ≡ x = cc in ap (λ z. z ∷ []) same
take-more (y ∷ xs) (suc k) x e = ap (λ l. y ∷ l) (take-more xs k x e)
