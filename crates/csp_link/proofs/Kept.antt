-- a held frame that goes out, and that comes back into its place
use Rattle.std.proofs.Common.{◌≡◌, ℕ, suc, ◌+◌, ◌-◌, ◌≤◌, Bool, true, false, cond, List, [], ◌∷◌, ◌++◌, take, drop, Option, Some, refl, ap, subst, arith}
use Rattle.std.specs.List.{find, enumerate_from, insert, remove}
use Rattle.std.specs.Option.{unwrap_or}
use Rattle.csp_link.specs.declared.held.Held.{Held}

-- the frame stands in this place of a list
pub record Stands (hs : List Held) (place : ℕ) (h : Held) : Type 0 where
  pub parts : take place hs ++ h ∷ drop (suc place) hs ≡ hs
  pub back : insert (remove hs place) place h ≡ hs

stands_first : (hs : List Held) (h : Held) → Stands (h ∷ hs) 0 h
stands_first hs h = record { parts = refl; back = refl }

stands_later : (x : Held) (hs : List Held) (place : ℕ) (h : Held) → Stands hs place h → Stands (x ∷ hs) (suc place) h
stands_later x hs place h s = record { parts = ap (λ ys. x ∷ ys) s.parts; back = ap (λ ys. x ∷ ys) s.back }

stands_from : (t : Held → Bool) (n : ℕ) (hs : List Held) (place : ℕ) (h : Held) → find (λ p. t p.1) (enumerate_from n hs) ≡ Some (place, h) → (n ≤ place) × Stands hs (place - n) h
stands_from t n [] place h e = absurd cc
stands_from t n (x ∷ hs) place h e =
    elim (t x) as (λ b. cond b (Some (n, x)) (find (λ p. t p.1) (enumerate_from (n + 1) hs)) ≡ Some (place, h) → (n ≤ place) × Stands (x ∷ hs) (place - n) h) [
      | true ↦ λ is.
          let pair : ◌≡◌ {A = ℕ × Held} (n, x) (place, h) = ap (λ (o : Option (ℕ × Held)). unwrap_or o (n, x)) is in
          let here : n ≡ place = ap (λ (p : ℕ × Held). p.0) pair in
          let it : x ≡ h = ap (λ (p : ℕ × Held). p.1) pair in
          let none : 0 ≡ place - n = omega (arith, here) in
          (omega (arith, here), subst (λ k. Stands (x ∷ hs) k h) none (subst (λ y. Stands (x ∷ hs) 0 y) it (stands_first hs x)))
      | false ↦ λ is.
          let rest = stands_from t (n + 1) hs place h is in
          let later : suc (place - (n + 1)) ≡ place - n = omega (arith, rest.0) in
          (omega (arith, rest.0), subst (λ k. Stands (x ∷ hs) k h) later (stands_later x hs (place - (n + 1)) h rest.1))
    ] e

-- the first that passes a test stands in the place in which it is found
pub stands : (t : Held → Bool) (hs : List Held) (place : ℕ) (h : Held) → find (λ p. t p.1) (enumerate_from 0 hs) ≡ Some (place, h) → Stands hs place h
stands t hs place h e = let all : place - 0 ≡ place = omega arith in subst (λ k. Stands hs k h) all (stands_from t 0 hs place h e).1
