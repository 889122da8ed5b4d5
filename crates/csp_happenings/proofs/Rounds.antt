-- What is sorted by its time, and keeps the order of one time, stands round by round.
use Rattle.std.proofs.Common.{◌≡◌, ℕ, zero, suc, ◌+◌, ◌<◌, ◌≤◌, max, Bool, true, false, cond, not, ◌&&◌, eqb, ltb, List, [], ◌∷◌, ◌++◌, refl, sym, ap, ◌∙◌, length, filter, fold, flat_map, get_or, Bor, arith, nat_cmp, is_lt, eqb-true, ltb-true, ltb-false}
use Rattle.std.proofs.lemmas.Bool.{eqb-false}
use Rattle.std.proofs.lemmas.Fn.{always_returns_same}
use Rattle.std.proofs.lemmas.Bool.Decides.{nat_tests}
use Rattle.std.proofs.lemmas.List.Sorted.{IsNonDecreasingBy-from_sort_by_key}
use Rattle.std.specs.List.{AllByRecursion, range_with_len}
use Rattle.std.specs.List.Sorted.{IsNonDecreasingBy, IsSortedByKeyClosure, IsStableByKey, IsStableByKeyClosure}
use denote.Param.Members.{Mut}
use Rattle.std.specs.Fn.{Called}
use Rattle.std.specs.Prelude.{⊤}
use Rattle.csp_log.specs.declared.note.Note.TheVariants as note
use Rattle.csp_log.specs.declared.who.Who.TheVariants as who
use Rattle.csp_happenings.specs.Happenings.{in_rounds, latest}
use Rattle.csp_happenings.specs.declared.kinds.Happening.{Happening}
use Rattle.csp_happenings.specs.declared.kinds.What.TheVariants as what

-- those of a round, and those of n rounds from a on
abbrev of_round : ℕ → List Happening → List Happening
of_round k hs = filter (λ h. eqb h.time k) hs

abbrev rounds : (a n : ℕ) → List Happening → List Happening
rounds a n hs = flat_map (λ k. of_round k hs) (range_with_len a n)

-- all times are in these bounds
abbrev AllFrom : ℕ → List Happening → Type 0
AllFrom a hs = AllByRecursion (λ h. a ≤ h.time) hs

abbrev AllBelow : ℕ → List Happening → Type 0
AllBelow n hs = AllByRecursion (λ h. h.time < n) hs

-- each time is at most those after it
abbrev Ascends : List Happening → Type 0
Ascends [] = ⊤
Ascends (h ∷ hs) = AllFrom h.time hs × Ascends hs

-- nothing is of a round before all, or after all
none-before : (k a : ℕ) → k < a → (hs : List Happening) → AllFrom a hs → of_round k hs ≡ []
none-before k a lt [] all = refl
none-before k a lt (h ∷ hs) all = by (eqb h.time k) refl (none-before k a lt hs all.1)
  where
    by : (b : Bool) → eqb h.time k ≡ b → of_round k hs ≡ [] → cond b (h ∷ of_round k hs) (of_round k hs) ≡ []
    by true e none = absurd (omega (arith, eqb-true h.time k e, all.0, lt))
    by false e none = none

none-after : (k n : ℕ) → n ≤ k → (hs : List Happening) → AllBelow n hs → of_round k hs ≡ []
none-after k n le [] all = refl
none-after k n le (h ∷ hs) all = by (eqb h.time k) refl (none-after k n le hs all.1)
  where
    by : (b : Bool) → eqb h.time k ≡ b → of_round k hs ≡ [] → cond b (h ∷ of_round k hs) (of_round k hs) ≡ []
    by true e none = absurd (omega (arith, eqb-true h.time k e, all.0, le))
    by false e none = none

-- one that is before these rounds adds nothing to them
rounds-before : (a n : ℕ) (h : Happening) (hs : List Happening) → h.time < a → rounds a n (h ∷ hs) ≡ rounds a n hs
rounds-before a zero h hs lt = refl
rounds-before a (suc n) h hs lt = λ i. by (eqb h.time a) refl i ++ rounds-before (a + 1) n h hs (omega (arith, lt)) i
  where
    by : (b : Bool) → eqb h.time a ≡ b → cond b (h ∷ of_round a hs) (of_round a hs) ≡ of_round a hs
    by true e = absurd (omega (arith, eqb-true h.time a e, lt))
    by false e = refl

-- one that is before all others is the first of them
rounds-first : (a n : ℕ) (h : Happening) (hs : List Happening) → a ≤ h.time → h.time < a + n → AllFrom h.time hs → rounds a n (h ∷ hs) ≡ h ∷ rounds a n hs
rounds-first a zero h hs le lt all = absurd (omega (arith, le, lt))
rounds-first a (suc n) h hs le lt all = by (eqb h.time a) refl (λ later. rounds-first (a + 1) n h hs (omega (arith, later)) (omega (arith, lt)) all)
  where
    by : (b : Bool) → eqb h.time a ≡ b → (a < h.time → rounds (a + 1) n (h ∷ hs) ≡ h ∷ rounds (a + 1) n hs) → cond b (h ∷ of_round a hs) (of_round a hs) ++ rounds (a + 1) n (h ∷ hs) ≡ h ∷ (of_round a hs ++ rounds (a + 1) n hs)
    by true e next = ap (λ rest. h ∷ (of_round a hs ++ rest)) (rounds-before (a + 1) n h hs (omega (arith, eqb-true h.time a e)))
    by false e next =
        let other : h.time ≡ a → ⊥ = eqb-false h.time a e in
        let later : a < h.time = omega (arith, le, other) in
        let none = none-before a h.time later hs all in
        ap (λ front. front ++ rounds (a + 1) n (h ∷ hs)) none
        ∙ next later
        ∙ ap (λ front. h ∷ (front ++ rounds (a + 1) n hs)) (sym none)

rounds-none : (a n : ℕ) → rounds a n [] ≡ []
rounds-none a zero = refl
rounds-none a (suc n) = rounds-none (a + 1) n

-- a list that ascends is its rounds
rounds-are : (n : ℕ) (hs : List Happening) → Ascends hs → AllBelow n hs → rounds 0 n hs ≡ hs
rounds-are n [] up below = rounds-none 0 n
rounds-are n (h ∷ hs) up below = rounds-first 0 n h hs (omega arith) (omega (arith, below.0)) up.0 ∙ ap (λ rest. h ∷ rest) (rounds-are n hs up.1 below.1)

-- ---- sorted lists

all-by : (P : Happening → Type 0) (hs : List Happening) (d : Happening) → ((j : ℕ) → j < length hs → P (get_or hs j d)) → AllByRecursion P hs
all-by P [] d each = tt
all-by P (h ∷ hs) d each = (each 0 (omega arith), all-by P hs d (λ j lt. each (suc j) (omega (arith, lt))))

ascends : (hs : List Happening) → IsNonDecreasingBy (λ h. h.time) hs → Ascends hs
ascends [] up = tt
ascends (h ∷ hs) up = (
  all-by (λ x. h.time ≤ x.time) hs h (λ j lt. up 0 (suc j) h (omega arith) (omega (arith, lt))),
  ascends hs (λ i j d le lt. up (suc i) (suc j) d (omega (arith, le)) (omega (arith, lt))),
)

-- ---- the last time

abbrev later : ℕ → Happening → ℕ
later last h = max last h.time

latest-least : (m : ℕ) (hs : List Happening) → m ≤ fold later m hs
latest-least m [] = omega arith
latest-least m (h ∷ hs) = omega (arith, latest-least (max m h.time) hs)

latest-below : (m : ℕ) (hs : List Happening) → AllBelow (fold later m hs + 1) hs
latest-below m [] = tt
latest-below m (h ∷ hs) = (omega (arith, latest-least (max m h.time) hs), latest-below (max m h.time) hs)

-- where no round from n on has anything, all are below n
below-n : (n : ℕ) (hs : List Happening) → ((k : ℕ) → n ≤ k → of_round k hs ≡ []) → AllBelow n hs
below-n n [] none = tt
below-n n (h ∷ hs) none = (by (ltb h.time n) refl, below-n n hs rest)
  where
    first : (b : Bool) → eqb h.time h.time ≡ b → cond b (h ∷ of_round h.time hs) (of_round h.time hs) ≡ [] → ⊥
    first true e is = cc
    first false e is = eqb-false h.time h.time e refl

    by : (b : Bool) → ltb h.time n ≡ b → h.time < n
    by true e = ltb-true h.time n e
    by false e = absurd (first (eqb h.time h.time) refl (none h.time (ltb-false h.time n e)))

    later_on : (k : ℕ) (b : Bool) → eqb h.time k ≡ b → cond b (h ∷ of_round k hs) (of_round k hs) ≡ [] → of_round k hs ≡ []
    later_on k true e is = cc
    later_on k false e is = is

    rest : (k : ℕ) → n ≤ k → of_round k hs ≡ []
    rest k le = later_on k (eqb h.time k) refl (none k le)

-- ---- a stable sort

ties-are : (k t : ℕ) → (not (is_lt (nat_cmp k t)) && not (is_lt (nat_cmp t k))) ≡ eqb t k
ties-are k t = grind (arith, nat_tests)

-- something of a round
abbrev some_of : ℕ → Happening
some_of k = record { time = k; who = who.Link 0; what = what.Asked note.Bound }

same-rounds : (xs ys : List Happening) → IsStableByKey (λ h. h.time) nat_cmp xs ys → (k : ℕ) → of_round k ys ≡ of_round k xs
same-rounds xs ys stable k =
    (λ i. filter (λ h. sym (ties-are k h.time) i) ys) ∙ stable (some_of k) ∙ (λ i. filter (λ h. ties-are k h.time i) xs)

stands : (xs ys : List Happening) → IsNonDecreasingBy (λ h. h.time) ys → IsStableByKey (λ h. h.time) nat_cmp xs ys → ys ≡ in_rounds xs
stands xs ys up stable =
    let same = same-rounds xs ys stable in
    let n = latest xs + 1 in
    let below : AllBelow n ys = below-n n ys (λ k le. same k ∙ none-after k n le xs (latest-below 0 xs)) in
    sym (rounds-are n ys (ascends ys up) below) ∙ (λ i. flat_map (λ k. same k i) (range_with_len 0 n))

-- what a sort by time leaves
pub in_order : {F : Type 0} {g : Mut F (Bor Happening × Unit {0}) ℕ} {f : F} (xs ys : List Happening) → IsSortedByKeyClosure g nat_cmp f ys → IsStableByKeyClosure g nat_cmp f xs ys
    → ((a : Bor Happening × Unit {0}) (r : ℕ) (f' : F) → Called g f a r f' → (r ≡ a.0.now.time) × (f' ≡ f)) → ys ≡ in_rounds xs
in_order {g = g} {f = f} xs ys up stable calls =
    stands xs ys (IsNonDecreasingBy-from_sort_by_key (λ h. h.time) ys up calls) (stable (λ h. h.time) (always_returns_same g (λ a r. r ≡ a.0.now.time) f calls))
