-- answers owed: to each application so many at most, and so no more than that for each
use Rattle.std.proofs.Common.{◌≡◌, ℕ, zero, suc, ◌+◌, ◌*◌, ◌<◌, ◌≤◌, eqb, Bool, true, false, cond, nat_lt, List, [], ◌∷◌, ◌++◌, length, drop, refl, arith, ap}
use Rattle.std.specs.List.{All, count_by}
use Rattle.std.proofs.Math.Nat.{suc-mul}
use Rattle.std.proofs.lemmas.Bool.{eqb-true, eqb-false, ltb-true, ltb-false}
use Rattle.std.proofs.lemmas.List.Elements.{All-cons, All-head, All-tail, All-append}
use Rattle.std.proofs.lemmas.List.Sums.{sum_by-cons, sum_by-append}
use Rattle.csp_ports.specs.Kept.{IsOwed}
use Rattle.csp_ports.specs.PlainPorts.{waiting}
use Rattle.csp_ports.specs.declared.owed.Owed.{Owed}

-- how many answers are owed to applications below this number
abbrev below : ℕ → List Owed → ℕ
below n os = count_by (λ o. nat_lt o.app n) os

below_cons : (n : ℕ) (o : Owed) (os : List Owed) → below n (o ∷ os) ≡ cond (nat_lt o.app n) 1 0 + below n os
below_cons n o os = sum_by-cons (λ (o : Owed). cond (nat_lt o.app n) 1 0) o os

waiting_cons : (n : ℕ) (o : Owed) (os : List Owed) → waiting n (o ∷ os) ≡ cond (eqb o.app n) 1 0 + waiting n os
waiting_cons n o os = sum_by-cons (λ (o : Owed). cond (eqb o.app n) 1 0) o os

one_more_by : (a n : ℕ) (x y z : Bool) → nat_lt a (suc n) ≡ x → nat_lt a n ≡ y → eqb a n ≡ z → cond x 1 0 ≡ cond y 1 0 + cond z 1 0
one_more_by a n true true true p q r = absurd (omega (arith, ltb-true a n q, eqb-true a n r))
one_more_by a n true true false p q r = refl
one_more_by a n true false true p q r = refl
one_more_by a n true false false p q r = absurd (eqb-false a n r (omega (arith, ltb-true a (suc n) p, ltb-false a n q)))
one_more_by a n false true z p q r = absurd (omega (arith, ltb-false a (suc n) p, ltb-true a n q))
one_more_by a n false false true p q r = absurd (omega (arith, ltb-false a (suc n) p, eqb-true a n r))
one_more_by a n false false false p q r = refl

below_more : (n : ℕ) (os : List Owed) → below (suc n) os ≡ below n os + waiting n os
below_more n [] = refl
below_more n (o ∷ os) = omega (arith, below_cons (suc n) o os, below_cons n o os, waiting_cons n o os, below_more n os, one_more_by o.app n _ _ _ refl refl refl)

none_below : (a : ℕ) (x : Bool) → nat_lt a 0 ≡ x → ◌≡◌ {A = ℕ} (cond x 1 0) 0
none_below a true e = absurd (omega (arith, ltb-true a 0 e))
none_below a false e = refl

below_none : (os : List Owed) → below 0 os ≡ 0
below_none [] = refl
below_none (o ∷ os) = omega (arith, below_cons 0 o os, none_below o.app _ refl, below_none os)

below_few : (m n : ℕ) (os : List Owed) → ((a : ℕ) → waiting a os ≤ m) → below n os ≤ n * m
below_few m zero os few = omega (arith, below_none os)
below_few m (suc n) os few = omega (arith, below_more n os, few n, below_few m n os few, suc-mul n m)

is_below : (a n : ℕ) (x : Bool) → nat_lt a n ≡ x → a < n → ◌≡◌ {A = ℕ} (cond x 1 0) 1
is_below a n true e h = refl
is_below a n false e h = absurd (omega (arith, ltb-false a n e, h))

all_below : (n : ℕ) (os : List Owed) → All (IsOwed n) os → below n os ≡ length os
all_below n [] h = refl
all_below n (o ∷ os) h = omega (arith, below_cons n o os, is_below o.app n _ refl (All-head (IsOwed n) o os h).app, all_below n os (All-tail (IsOwed n) o os h))

waiting_more : (a : ℕ) (os : List Owed) (o : Owed) → waiting a (os ++ o ∷ []) ≡ waiting a os + cond (eqb o.app a) 1 0
waiting_more a os o = omega (arith, sum_by-append (λ (o : Owed). cond (eqb o.app a) 1 0) os (o ∷ []), waiting_cons a o [])

-- an answer is owed besides, to an application that has fewer than it may have with those still to come
more_by : (m a : ℕ) (os : List Owed) (o : Owed) (come : ℕ → ℕ) (x : Bool) → eqb o.app a ≡ x → waiting a os + come a ≤ m → waiting o.app os + come o.app < m → waiting a (os ++ o ∷ []) + come a ≤ m
more_by m a os o come true e h fewer = omega (arith, waiting_more a os o, ap {B = ℕ} (λ (x : Bool). cond x 1 0) e, ap (λ (n : ℕ). waiting n os + come n) (eqb-true o.app a e), fewer)
more_by m a os o come false e h fewer = omega (arith, waiting_more a os o, ap {B = ℕ} (λ (x : Bool). cond x 1 0) e, h)

pub due_more : (m : ℕ) (os : List Owed) (o : Owed) (come : ℕ → ℕ) → ((a : ℕ) → waiting a os + come a ≤ m) → waiting o.app os + come o.app < m → (a : ℕ) → waiting a (os ++ o ∷ []) + come a ≤ m
due_more m os o come due fewer a = more_by m a os o come _ refl (due a) fewer

pub owed_more : (n : ℕ) (os : List Owed) (o : Owed) → All (IsOwed n) os → IsOwed n o → All (IsOwed n) (os ++ o ∷ [])
owed_more n os o all one = All-append (IsOwed n) os (o ∷ []) all (All-cons (IsOwed n) o [] one (λ k d h. absurd (omega arith)))

-- and there is room for it
pub owed_room : (m n : ℕ) (os : List Owed) (o : Owed) (come : ℕ → ℕ) → All (IsOwed n) os → IsOwed n o → ((a : ℕ) → waiting a os + come a ≤ m) → waiting o.app os + come o.app < m → length os < n * m
owed_room m n os o come all one due fewer =
    omega (arith, all_below n (os ++ o ∷ []) (owed_more n os o all one), below_few m n (os ++ o ∷ []) (λ a. omega (arith, due_more m os o come due fewer a)), all_below n os all, sum_by-append (λ (o : Owed). cond (nat_lt o.app n) 1 0) os (o ∷ []), below_cons n o [], is_below o.app n _ refl one.app)

waiting_less_by : (a : ℕ) (os : List Owed) → waiting a (drop 1 os) ≤ waiting a os
waiting_less_by a [] = omega arith
waiting_less_by a (o ∷ os) = omega (arith, waiting_cons a o os)

-- the first is owed no more
pub due_less : (m : ℕ) (os : List Owed) (come : ℕ → ℕ) → ((a : ℕ) → waiting a os + come a ≤ m) → (a : ℕ) → waiting a (drop 1 os) + come a ≤ m
due_less m os come due a = omega (arith, waiting_less_by a os, due a)
