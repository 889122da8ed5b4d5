-- what is counted at the slots of an application, as the answers that are still to come there
use Rattle.std.specs.Prelude.{get_or, slice_set, sum_by}
use Rattle.std.proofs.Common.{◌≡◌, ℕ, ◌+◌, ◌-◌, ◌*◌, ◌<◌, ◌≤◌, nat_lt, Bool, true, false, List, length, take, drop, replicate, refl, arith, ap, ◌∙◌}
use Rattle.std.proofs.lemmas.Bool.{ltb-true, ltb-false}
use Rattle.std.proofs.lemmas.List.{drop-replicate, drop-set-add, drop-set-lt, take-set-le, get_or-drop, get_or-take, length-drop, length-take}
use Rattle.std.proofs.Math.Seq.{take-set-lt}
use Rattle.std.proofs.lemmas.List.Folds.{sum_by-replicate}
use Rattle.std.proofs.lemmas.List.Sums.{sum_by-set, sum_by-take-le}
use Rattle.csp_base.specs.Seat.{seat}
use Rattle.csp_base.specs.declared.seat.Seat.{Seat}
use Rattle.csp_conn.specs.PlainConns.{place_of}
use Rattle.csp_ports.specs.Kept.{wished, wishes}
use Rattle.csp_ports.specs.declared.terms.Terms.{Terms}

-- a change inside a stretch of a list
inside : {X : Type 0} → (f : X → ℕ) (s n j k : ℕ) (xs : List X) (v d : X) → k ≡ s + j → j < n → k < length xs → sum_by f (take n (drop s (slice_set xs k v))) + f (get_or xs k d) ≡ sum_by f (take n (drop s xs)) + f v
inside f s n j k xs v d e h there =
    rw (e, drop-set-add s xs j v, take-set-lt n (drop s xs) j v h, ← get_or-drop s xs j d, ← get_or-take n (drop s xs) j d h)
    (sum_by-set f (take n (drop s xs)) j v d (omega (arith, length-take n (drop s xs), length-drop s xs, h, there, e)))

-- a change before it, and one after it
before : {X : Type 0} → (f : X → ℕ) (s n k : ℕ) (xs : List X) (v : X) → k < s → sum_by f (take n (drop s (slice_set xs k v))) ≡ sum_by f (take n (drop s xs))
before f s n k xs v h = rw (drop-set-lt s xs k v h) refl

behind : {X : Type 0} → (f : X → ℕ) (s n j k : ℕ) (xs : List X) (v : X) → k ≡ s + j → n ≤ j → sum_by f (take n (drop s (slice_set xs k v))) ≡ sum_by f (take n (drop s xs))
behind f s n j k xs v e h = rw (e, drop-set-add s xs j v, take-set-le n (drop s xs) j v h) refl

-- what an application's slots come to
abbrev pub weighs : {X : Type 0} → (X → ℕ) → (app : ℕ) → List X → ℕ
weighs f app xs = sum_by f (take 4 (drop (place_of (seat app 0)) xs))

-- another in the place of one of them
pub weighs_at : {X : Type 0} → (f : X → ℕ) (at : Seat) (xs : List X) (v d : X) → at.slot < 4 → place_of at < length xs → weighs f at.app (slice_set xs (place_of at) v) + f (get_or xs (place_of at) d) ≡ weighs f at.app xs + f v
weighs_at f at xs v d h there = inside f (place_of (seat at.app 0)) 4 at.slot (place_of at) xs v d (omega arith) h there

-- and in that of one of another application
weighs_later : {X : Type 0} → (f : X → ℕ) (at : Seat) (other : ℕ) (xs : List X) (v : X) → at.slot < 4 → other < at.app → weighs f other (slice_set xs (place_of at) v) ≡ weighs f other xs
weighs_later f at other xs v h far = behind f (place_of (seat other 0)) 4 (place_of at - place_of (seat other 0)) (place_of at) xs v (omega (arith, h, far)) (omega (arith, h, far))

weighs_earlier : {X : Type 0} → (f : X → ℕ) (at : Seat) (other : ℕ) (xs : List X) (v : X) → at.slot < 4 → at.app < other → weighs f other (slice_set xs (place_of at) v) ≡ weighs f other xs
weighs_earlier f at other xs v h far = before f (place_of (seat other 0)) 4 (place_of at) xs v (omega (arith, h, far))

-- then no application's come to more than they may, where those of the one that it is do not
pub weighs_after : {X : Type 0} → (f : X → ℕ) (most : ℕ) (at : Seat) (xs : List X) (owed : ℕ → ℕ) (v d : X) → at.slot < 4 → place_of at < length xs → ((a : ℕ) → owed a + weighs f a xs ≤ most)
    → (owed at.app + weighs f at.app xs) + f v ≤ most + f (get_or xs (place_of at) d) → (a : ℕ) → owed a + weighs f a (slice_set xs (place_of at) v) ≤ most
weighs_after f most at xs owed v d h there due more a = by_app _ refl _ refl
  where
    by_app : (e : Bool) → nat_lt a at.app ≡ e → (g : Bool) → nat_lt at.app a ≡ g → owed a + weighs f a (slice_set xs (place_of at) v) ≤ most
    by_app true e later i = rw (weighs_later f at a xs v h (ltb-true a at.app e)) (due a)
    by_app false e true i = rw (weighs_earlier f at a xs v h (ltb-true at.app a i)) (due a)
    by_app false e false i =
        let same : a ≡ at.app = omega (arith, ltb-false a at.app e, ltb-false at.app a i) in
        rw same (omega (arith, weighs_at f at xs v d h there, more))

-- slots that come to nothing
pub weighs_none : {X : Type 0} → (f : X → ℕ) (n app : ℕ) (x : X) → f x ≡ 0 → weighs f app (replicate n x) ≡ 0
weighs_none f n app x none = ap (λ l. sum_by f (take 4 l)) (drop-replicate (place_of (seat app 0)) n x) ∙ taken 4 (n - place_of (seat app 0))
  where
    taken : (m k : ℕ) → sum_by f (take m (replicate k x)) ≡ 0
    taken m k = let few = sum_by-take-le f (replicate k x) m in let all = sum_by-replicate f k x ∙ ap (λ (y : ℕ). k * y) none in omega (arith, few, all)

-- the answers that are still to come, with other terms at a slot of another application
pub wishes_later : (at : Seat) (other : ℕ) (terms : List Terms) (t : Terms) → at.slot < 4 → other < at.app → wishes other (slice_set terms (place_of at) t) ≡ wishes other terms
wishes_later at other terms t h far = weighs_later (λ t. wished t.wish) at other terms t h far

pub wishes_earlier : (at : Seat) (other : ℕ) (terms : List Terms) (t : Terms) → at.slot < 4 → at.app < other → wishes other (slice_set terms (place_of at) t) ≡ wishes other terms
wishes_earlier at other terms t h far = weighs_earlier (λ t. wished t.wish) at other terms t h far
