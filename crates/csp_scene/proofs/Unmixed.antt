-- Packets and blobs are not mixed on a slot by a step that is excluded by none.
use Rattle.std.proofs.Common.{◌≡◌, ℕ, Bool, true, false, ◌&&◌, ◌||◌, ◌+◌, ◌<◌, zero, suc, List, [], ◌∷◌, ◌++◌, length, drop, get_or, refl, ap, ap₂, ◌∙◌, subst, arith}
use Rattle.std.specs.List.{list_any}
use Rattle.std.proofs.lemmas.Bool.{eqb-true}
use Rattle.std.proofs.Math.Bool.{or-true}
use Rattle.std.proofs.lemmas.List.Folds.{list_any-append}
use Rattle.csp_app.specs.Collecting.{collects_on}
use Rattle.csp_app.specs.PlainStep.{PlainStep}
use Rattle.csp_app.specs.PlainStep as step
use Rattle.csp_scene.specs.Sharing.{sends_packets, sends_blobs, takes_packets, excludes, joins, AreUnmixed}

-- an application without a step
pub unmixed_none : AreUnmixed []
unmixed_none = record { sent = λ slot. refl; taken = λ slot. refl }

-- of two tests one passes on none of a list, and so it is with one element more
by_tests : (p q r s : Bool) → (r && s) ≡ false → (p ≡ true → (s ≡ false) × (q ≡ false)) → (q ≡ true → r ≡ false) → ((r || (p || false)) && (s || (q || false))) ≡ false
by_tests false false true true none here there = none
by_tests false false true false none here there = refl
by_tests false false false s none here there = refl
by_tests true false true true none here there = none
by_tests true false false true none here there = absurd (let h = here refl in cc)
by_tests true false true false none here there = refl
by_tests true false false false none here there = refl
by_tests false true true s none here there = absurd (let h = there refl in cc)
by_tests false true false s none here there = refl
by_tests true true r s none here there = absurd (let h = here refl in cc)

both_more : {X : Type 0} (one other : X → Bool) (xs : List X) (x : X) → (list_any one xs && list_any other xs) ≡ false → (one x ≡ true → (list_any other xs ≡ false) × (other x ≡ false)) → (other x ≡ true → list_any one xs ≡ false) → (list_any one (xs ++ x ∷ []) && list_any other (xs ++ x ∷ [])) ≡ false
both_more one other xs x none here there =
    rw (list_any-append one xs (x ∷ []), list_any-append other xs (x ∷ [])) (by_tests (one x) (other x) (list_any one xs) (list_any other xs) none here there)

module _ (steps : List PlainStep) (slot : ℕ) where
  packets_sent : (x : PlainStep) → list_any (excludes x) steps ≡ false → sends_packets slot x ≡ true → (list_any (sends_blobs slot) steps ≡ false) × (sends_blobs slot x ≡ false)
  packets_sent (step.Send own bytes) apart e = (subst (λ (at : ℕ). list_any (sends_blobs at) steps ≡ false) (eqb-true own slot e) apart, refl)
  packets_sent (step.Burst own count len) apart e = (subst (λ (at : ℕ). list_any (sends_blobs at) steps ≡ false) (eqb-true own slot e) apart, refl)
  packets_sent _ apart e = absurd (cc)

  blobs_sent : (x : PlainStep) → list_any (excludes x) steps ≡ false → sends_blobs slot x ≡ true → list_any (sends_packets slot) steps ≡ false
  blobs_sent (step.Blob own len size) apart e = subst (λ (at : ℕ). list_any (sends_packets at) steps ≡ false) (eqb-true own slot e) apart
  blobs_sent _ apart e = absurd (cc)

  packets_taken : (x : PlainStep) → list_any (excludes x) steps ≡ false → takes_packets slot x ≡ true → (list_any (collects_on slot) steps ≡ false) × (collects_on slot x ≡ false)
  packets_taken (step.Recv own count rounds) apart e = (subst (λ (at : ℕ). list_any (collects_on at) steps ≡ false) (eqb-true own slot e) apart, refl)
  packets_taken _ apart e = absurd (cc)

  blobs_taken : (x : PlainStep) → list_any (excludes x) steps ≡ false → collects_on slot x ≡ true → list_any (takes_packets slot) steps ≡ false
  blobs_taken (step.Collect own count rounds) apart e = subst (λ (at : ℕ). list_any (takes_packets at) steps ≡ false) (eqb-true own slot e) apart
  blobs_taken _ apart e = absurd (cc)

pub unmixed_push : (steps : List PlainStep) (x : PlainStep) → AreUnmixed steps → list_any (excludes x) steps ≡ false → AreUnmixed (steps ++ x ∷ [])
unmixed_push steps x are apart = record {
  sent = λ slot. both_more (sends_packets slot) (sends_blobs slot) steps x (are.sent slot) (packets_sent steps slot x apart) (blobs_sent steps slot x apart);
  taken = λ slot. both_more (takes_packets slot) (collects_on slot) steps x (are.taken slot) (packets_taken steps slot x apart) (blobs_taken steps slot x apart);
}

-- ---- the last step that uses a slot tells

-- a test passes on a list where it passes on one of its elements
any_at : {X : Type 0} (p : X → Bool) (xs : List X) (k : ℕ) (d : X) → k < length xs → p (get_or xs k d) ≡ true → list_any p xs ≡ true
any_at p [] k d few e = absurd (omega (arith, few))
any_at p (x ∷ xs) zero d few e = ap (λ (b : Bool). b || list_any p xs) e
any_at p (x ∷ xs) (suc k) d few e = ap (λ (b : Bool). p x || b) (any_at p xs k d (omega (arith, few)) e) ∙ or-true (p x)

-- a step that is excluded is among all
pub excluded_at : (x : PlainStep) (steps : List PlainStep) (k : ℕ) (d : PlainStep) → k < length steps → excludes x (get_or steps k d) ≡ true → list_any (excludes x) steps ≡ true
excluded_at x steps k d few e = any_at (excludes x) steps k d few e

other_false : (p q : Bool) → (p && q) ≡ false → p ≡ true → q ≡ false
other_false true q h e = h
other_false false q h e = absurd (cc)

none_first : (p q : Bool) → (p && q) ≡ false → q ≡ true → p ≡ false
none_first false q h e = refl
none_first true true h e = absurd (cc)
none_first true false h e = absurd (cc)

none_excluded : (steps : List PlainStep) → list_any (λ (other : PlainStep). false) steps ≡ false
none_excluded [] = refl
none_excluded (x ∷ xs) = none_excluded xs

-- where one of the steps uses the slot as this one does, none is excluded
pub joined_at : (x : PlainStep) (steps : List PlainStep) (k : ℕ) (d : PlainStep) → AreUnmixed steps → k < length steps → joins x (get_or steps k d) ≡ true → list_any (excludes x) steps ≡ false
joined_at (step.Send slot bytes) steps k d are few e = other_false _ _ (are.sent slot) (any_at (sends_packets slot) steps k d few e)
joined_at (step.Burst slot count len) steps k d are few e = other_false _ _ (are.sent slot) (any_at (sends_packets slot) steps k d few e)
joined_at (step.Blob slot len size) steps k d are few e = none_first _ _ (are.sent slot) (any_at (sends_blobs slot) steps k d few e)
joined_at (step.Recv slot count rounds) steps k d are few e = other_false _ _ (are.taken slot) (any_at (takes_packets slot) steps k d few e)
joined_at (step.Collect slot count rounds) steps k d are few e = none_first _ _ (are.taken slot) (any_at (collects_on slot) steps k d few e)
joined_at step.Take steps k d are few e = none_excluded steps
joined_at step.Give steps k d are few e = none_excluded steps
joined_at (step.Bind _ _) steps k d are few e = none_excluded steps
joined_at (step.Connect _ _ _ _ _ _) steps k d are few e = none_excluded steps
joined_at (step.Raw _ _) steps k d are few e = none_excluded steps
joined_at (step.Close _) steps k d are few e = none_excluded steps
joined_at (step.Wait _) steps k d are few e = none_excluded steps

-- the steps from a place on are the one there and those after it
pub one_more : (x : PlainStep) (steps : List PlainStep) (k : ℕ) (d : PlainStep) → k < length steps → excludes x (get_or steps k d) ≡ false → list_any (excludes x) (drop (k + 1) steps) ≡ false → list_any (excludes x) (drop k steps) ≡ false
one_more x [] k d few e rest = absurd (omega (arith, few))
one_more x (y ∷ ys) zero d few e rest = ap₂ (λ a b. a || b) e rest
one_more x (y ∷ ys) (suc k) d few e rest =
    let later : suc k + 1 ≡ suc (k + 1) = omega arith in
    one_more x ys k d (omega (arith, few)) e (subst (λ (n : ℕ). list_any (excludes x) (drop n (y ∷ ys)) ≡ false) later rest)
