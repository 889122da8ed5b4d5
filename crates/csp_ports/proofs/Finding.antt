-- the first place that passes a test, among places that follow one another
use Rattle.std.specs.Prelude.{Option, Some, None, nat_le, nat_lt, ◌&&◌}
use Rattle.std.specs.List.{find, range_with_len}
use Rattle.std.specs.Option.{is_some}
use Rattle.std.proofs.Common.{◌≡◌, ℕ, zero, suc, ◌+◌, ◌-◌, ◌*◌, ◌<◌, ◌≤◌, min, Bool, true, false, cond, List, ◌++◌, arith, ap, refl, sym, ◌∙◌}
use Rattle.std.proofs.lemmas.Bool.{leb-true, leb-false, ltb-true}
use Rattle.std.proofs.lemmas.List.Folds.{find-append}
use Rattle.csp_base.specs.declared.limits.TheConstants.{SLOTS}
use Rattle.csp_ports.proofs.Following.{range_next}
use Rattle.csp_ports.specs.PlainPorts.{PlainPorts}
use Rattle.csp_ports.specs.Tasks.{has_task, place_with_task, task_of}

-- the next place fails: what is left is found in the rest
pub fails_next : (test : ℕ → Bool) (a n : ℕ) → a < n → test a ≡ false → find test (range_with_len (a + 1) (n - (a + 1))) ≡ find test (range_with_len a (n - a))
fails_next test a n inside fails = sym (ap (find test) (range_next a n inside) ∙ ap (λ (b : Bool). cond b (Some a) (find test (range_with_len (a + 1) (n - (a + 1))))) fails)

-- it passes: it is found
pub passes_next : (test : ℕ → Bool) (a n : ℕ) → a < n → test a ≡ true → Some a ≡ find test (range_with_len a (n - a))
passes_next test a n inside passes = sym (ap (find test) (range_next a n inside) ∙ ap (λ (b : Bool). cond b (Some a) (find test (range_with_len (a + 1) (n - (a + 1))))) passes)

-- of two lists the first that has one counts
found_first : (test : ℕ → Bool) (xs ys : List ℕ) (k : ℕ) → find test xs ≡ Some k → find test (xs ++ ys) ≡ Some k
found_first test xs ys k e = rw (find-append, e) refl

found_later : (test : ℕ → Bool) (xs ys : List ℕ) → find test xs ≡ None → find test (xs ++ ys) ≡ find test ys
found_later test xs ys e = rw (find-append, e) refl

-- places past the last one fail
none_past : (test : ℕ → Bool) (a n : ℕ) → ((k : ℕ) → a ≤ k → test k ≡ false) → find test (range_with_len a n) ≡ None
none_past test a zero fails = refl
none_past test a (suc n) fails = rw (fails a (omega arith)) (none_past test (a + 1) n (λ k h. fails k (omega (arith, h))))

short : (test : ℕ → Bool) (a n m : ℕ) → m ≤ n → ((k : ℕ) → a + m ≤ k → test k ≡ false) → find test (range_with_len a n) ≡ find test (range_with_len a m)
short test a n zero few fails = none_past test a n (λ k h. fails k (omega (arith, h)))
short test a zero (suc m) few fails = absurd (omega arith)
short test a (suc n) (suc m) few fails = ap (cond (test a) (Some a)) (short test (a + 1) n m (omega arith) (λ k h. fails k (omega (arith, h))))

-- so that a look needn't go there
within : (test : ℕ → Bool) (n last : ℕ) → ((k : ℕ) → last ≤ k → test k ≡ false) → find test (range_with_len 0 n) ≡ find test (range_with_len 0 (min n last))
within test n last fails = go (nat_le n last) refl
  where
    go : (b : Bool) → nat_le n last ≡ b → find test (range_with_len 0 n) ≡ find test (range_with_len 0 (min n last))
    go true e = let same : min n last ≡ n = omega (arith, leb-true n last e) in rw same refl
    go false e = let same : min n last ≡ last = omega (arith, leb-false n last e) in rw same (short test 0 n last (omega (arith, leb-false n last e)) (λ k h. fails k (omega (arith, h))))

past_last : (time : ℕ) (p : PlainPorts) (k : ℕ) → p.conns.apps * SLOTS ≤ k → has_task time p k ≡ false
past_last time p k past = go (nat_lt k (p.conns.apps * SLOTS)) refl
  where
    go : (b : Bool) → nat_lt k (p.conns.apps * SLOTS) ≡ b → (b && is_some (task_of time p k)) ≡ false
    go true e = absurd (omega (arith, past, ltb-true k (p.conns.apps * SLOTS) e))
    go false e = refl

task_within : (time n : ℕ) (p : PlainPorts) → find (has_task time p) (range_with_len 0 n) ≡ find (has_task time p) (range_with_len 0 (min n (p.conns.apps * SLOTS)))
task_within time n p = within (has_task time p) n (p.conns.apps * SLOTS) (past_last time p)

-- a task is looked for from the next place on, and then from the first place on
pub found_on : (time : ℕ) (p : PlainPorts) (next count k : ℕ) → p.next ≡ next → count ≡ p.conns.apps * SLOTS → find (has_task time p) (range_with_len next (count - next)) ≡ Some k → Some k ≡ place_with_task time p
found_on time p next count k at all e = sym (found_first (has_task time p) (range_with_len p.next (p.conns.apps * SLOTS - p.next)) (range_with_len 0 p.next) k (rw (at, ← all) e))

pub found_round : (time : ℕ) (p : PlainPorts) (next count end : ℕ) (found : Option ℕ) → p.next ≡ next → count ≡ p.conns.apps * SLOTS → end ≡ min next count
    → find (has_task time p) (range_with_len next (count - next)) ≡ None → found ≡ find (has_task time p) (range_with_len 0 (end - 0)) → found ≡ place_with_task time p
found_round time p next count end found at all least none e =
    let test : ℕ → Bool = has_task time p in
    let whole : end - 0 ≡ min p.next (p.conns.apps * SLOTS) = rw (at, ← all) (omega (arith, least)) in
    e ∙ (ap (λ (n : ℕ). find test (range_with_len 0 n)) whole
    ∙ (sym (task_within time p.next p)
    ∙ sym (found_later test (range_with_len p.next (p.conns.apps * SLOTS - p.next)) (range_with_len 0 p.next) (rw (at, ← all) none))))
