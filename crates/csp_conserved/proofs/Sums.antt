-- Sums over the numbers below one, and of the three kinds of parties of a node.
use Rattle.std.proofs.Common.{◌≡◌, ℕ, zero, suc, ◌+◌, ◌<◌, ◌≤◌, ◌==◌, ⊎_elim, Bool, true, false, refl, arith}
use Rattle.std.specs.Prelude.{if◌then◌else◌}
use Rattle.std.proofs.lemmas.Bool.{cases_lt, eqb-false, eqb-true}

-- the sum of what each number below this one gives
abbrev pub over : ℕ → (ℕ → ℕ) → ℕ
over zero f = 0
over (suc n) f = f n + over n f

pub over_same : (n : ℕ) (f g : ℕ → ℕ) → ((j : ℕ) → j < n → f j ≡ g j) → over n f ≡ over n g
over_same zero f g same = refl
over_same (suc n) f g same = omega (arith, same n (omega arith), over_same n f g (λ j low. same j (omega (arith, low))))

pub over_both : (n : ℕ) (f g h : ℕ → ℕ) → ((j : ℕ) → j < n → f j ≡ g j + h j) → over n f ≡ over n g + over n h
over_both zero f g h same = refl
over_both (suc n) f g h same = omega (arith, same n (omega arith), over_both n f g h (λ j low. same j (omega (arith, low))))

pub over_none : (n : ℕ) (f : ℕ → ℕ) → ((j : ℕ) → j < n → f j ≡ 0) → over n f ≡ 0
over_none zero f none = refl
over_none (suc n) f none = omega (arith, none n (omega arith), over_none n f (λ j low. none j (omega (arith, low))))

-- what only one number gives
pub over_miss : (n k x : ℕ) → n ≤ k → over n (λ j. if k == j then x else 0) ≡ 0
over_miss n k x high = over_none n (λ j. if k == j then x else 0) (λ j low. by j low (k == j) refl)
  where
    by : (j : ℕ) → j < n → (b : Bool) → (k == j) ≡ b → (if b then x else 0) ≡ 0
    by j low true e = absurd (omega (arith, high, low, eqb-true k j e))
    by j low false e = refl

pub over_hit : (n k x : ℕ) → k < n → over n (λ j. if k == j then x else 0) ≡ x
over_hit zero k x low = absurd (omega (arith, low))
over_hit (suc n) k x low = by (k == n) refl (over_hit n k x)
  where
    by : (b : Bool) → (k == n) ≡ b → (k < n → over n (λ j. if k == j then x else 0) ≡ x) → (if b then x else 0) + over n (λ j. if k == j then x else 0) ≡ x
    by true e rest = omega (arith, over_miss n k x (omega (arith, eqb-true k n e)))
    by false e rest = omega (arith, rest (below (eqb-false k n e)))
      where
        below : (k ≡ n → ⊥) → k < n
        below other = ⊎_elim (λ h. h) (λ h. absurd (other (omega (arith, h, low)))) (cases_lt k n)

-- a number with those of so many of one kind and so many of another
abbrev pub parts : (ifaces apps : ℕ) → ℕ → (ℕ → ℕ) → (ℕ → ℕ) → ℕ
parts ifaces apps h f g = h + over ifaces f + over apps g

pub parts_both : (ifaces apps : ℕ) (h h1 h2 : ℕ) (f f1 f2 g g1 g2 : ℕ → ℕ) → h ≡ h1 + h2 → ((j : ℕ) → f j ≡ f1 j + f2 j) → ((j : ℕ) → g j ≡ g1 j + g2 j)
    → parts ifaces apps h f g ≡ parts ifaces apps h1 f1 g1 + parts ifaces apps h2 f2 g2
parts_both ifaces apps h h1 h2 f f1 f2 g g1 g2 e1 e2 e3 = omega (arith, e1, over_both ifaces f f1 f2 (λ j low. e2 j), over_both apps g g1 g2 (λ j low. e3 j))

pub parts_none : (ifaces apps : ℕ) (f g : ℕ → ℕ) → ((j : ℕ) → f j ≡ 0) → ((j : ℕ) → g j ≡ 0) → parts ifaces apps 0 f g ≡ 0
parts_none ifaces apps f g e1 e2 = omega (arith, over_none ifaces f (λ j low. e1 j), over_none apps g (λ j low. e2 j))
