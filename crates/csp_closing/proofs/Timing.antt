-- The times of logs.
use Rattle.std.proofs.Common.{◌≡◌, ◌+◌, ◌<◌, ◌≤◌, ◌^◌, ℕ, zero, suc, List, [], ◌∷◌, length, map, max, refl, ap, subst, arith}
use Rattle.std.specs.Prelude.{Some, slice_get}
use Rattle.std.specs.List.{AllByRecursion}
use Rattle.std.proofs.lemmas.Option.{same_Some}
use Rattle.csp_closing.specs.Times.{IsOrdered, rounds_among}
use Rattle.csp_deck.specs.Runs.{IsRun, Steps, last_time}
use Rattle.csp_log.specs.declared.entry.Entry.{Entry}
use Rattle.csp_posts.specs.Posts.{PlainPost}
use Rattle.csp_telling.specs.Closed.{log_of, rounds_in, rounds_of}

-- no time of a run is later than its last one
last_up : {S : Type 0} (p : Steps S) (time : ℕ) (s : S) (es : List Entry) → IsRun p time s es → time ≤ last_time time es
last_up p time s [] run = omega arith
last_up p time s (e ∷ es) run =
    let later = last_up p e.time _ es run.2 in
    let first = run.0 in
    omega (arith, later, first)

run_last : {S : Type 0} (p : Steps S) (time : ℕ) (s : S) (es : List Entry) → IsRun p time s es → AllByRecursion (λ (e : Entry). e.time ≤ last_time time es) es
run_last p time s [] run = tt
run_last p time s (e ∷ es) run = (last_up p e.time _ es run.2, run_last p e.time _ es run.2)

pub run_ordered : {S : Type 0} (p : Steps S) (s : S) (es : List Entry) → IsRun p 0 s es → AllByRecursion (λ (e : Entry). e.time < 2 ^ 62) es → IsOrdered es
run_ordered p s es run early = record { last = run_last p 0 s es run; early = early }

-- so one more than the last is as many rounds as there are
rounds_below : (n : ℕ) (es : List Entry) → AllByRecursion (λ (e : Entry). e.time ≤ n) es → rounds_in es ≤ n + 1
rounds_below n [] h = omega arith
rounds_below n (e ∷ es) h =
    let later = rounds_below n es h.1 in
    let first = h.0 in
    omega (arith, later, first)

rounds_above : (es : List Entry) (k : ℕ) (e : Entry) → slice_get es k ≡ Some e → e.time + 1 ≤ rounds_in es
rounds_above [] k e at = absurd cc
rounds_above (x ∷ es) zero e at =
    let same : x.time ≡ e.time = ap (λ (y : Entry). y.time) (same_Some x e at) in
    omega (arith, same)
rounds_above (x ∷ es) (suc k) e at =
    let later = rounds_above es k e at in
    omega (arith, later)

last_is : (time : ℕ) (es : List Entry) (k : ℕ) (e : Entry) → slice_get es k ≡ Some e → k + 1 ≡ length es → last_time time es ≡ e.time
last_is time [] k e at long = absurd cc
last_is time (x ∷ []) zero e at long = ap (λ (y : Entry). y.time) (same_Some x e at)
last_is time (x ∷ []) (suc k) e at long = absurd cc
last_is time (x ∷ y ∷ es) zero e at long = absurd (omega (arith, long))
last_is time (x ∷ y ∷ es) (suc k) e at long = last_is x.time (y ∷ es) k e at (omega (arith, long))

pub rounds_by_last : (es : List Entry) (k : ℕ) (e : Entry) → slice_get es k ≡ Some e → k + 1 ≡ length es → IsOrdered es → e.time + 1 ≡ rounds_in es
rounds_by_last es k e at long is =
    let last = last_is 0 es k e at long in
    let below = rounds_below (last_time 0 es) es is.last in
    let above = rounds_above es k e at in
    omega (arith, last, below, above)

pub rounds_none : (es : List Entry) → length es ≡ 0 → 0 ≡ rounds_in es
rounds_none [] h = refl
rounds_none (e ∷ es) h = absurd (omega (arith, h))

pub early_one : (es : List Entry) (k : ℕ) (e : Entry) → slice_get es k ≡ Some e → AllByRecursion (λ (e : Entry). e.time < 2 ^ 62) es → e.time < 2 ^ 62
early_one [] k e at h = absurd cc
early_one (x ∷ es) zero e at h = subst (λ (y : Entry). y.time < 2 ^ 62) (same_Some x e at) h.0
early_one (x ∷ es) (suc k) e at h = early_one es k e at h.1

-- the rounds of posts are those of their logs
pub rounds_logged : (posts : List PlainPost) → rounds_among (map log_of posts) ≡ rounds_of posts
rounds_logged [] = refl
rounds_logged (s ∷ posts) = ap (λ n. max (rounds_in s.entries) n) (rounds_logged posts)
