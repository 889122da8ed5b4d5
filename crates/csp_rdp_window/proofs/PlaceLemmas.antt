-- the places of a window, one after the other
use Rattle.std.proofs.Common.{◌≡◌, ℕ, zero, suc, ◌+◌, ◌<◌, ◌≤◌, Bool, true, false, not, cond, List, [], ◌∷◌, ◌++◌, length, take, drop, get_or, map, Option, Some, None, arith, ap, sym, ◌∙◌, refl, add-one}
use Rattle.std.specs.List.{find, slice_set}
use Rattle.std.specs.Option.{option_map, option_map_or}
use Rattle.std.proofs.lemmas.List.{take-append-drop}
use Rattle.std.proofs.lemmas.List.Folds.{find-append}
use Rattle.std.proofs.Math.Seq.{drop-cons, take-suc, take-length}
use Rattle.std.specs.Prelude.{if◌then◌else◌, is_some}
use Rattle.csp_rdp_window.specs.Places.{ArePlaced, first_held, held_in, without_held}
use Rattle.csp_rdp_window.specs.Sending.{first_pending, is_loose, without_loose}
use Rattle.csp_rdp_window.specs.declared.pending.Pending.{Pending}

pub held_in-append : {T : Type 0} (xs ys : List (Option T)) → held_in (xs ++ ys) ≡ held_in xs ++ held_in ys
held_in-append [] ys = refl
held_in-append (None ∷ xs) ys = held_in-append xs ys
held_in-append (Some x ∷ xs) ys = ap (λ l. x ∷ l) (held_in-append xs ys)

pub held_in-map : {T U : Type 0} (f : T → U) (xs : List (Option T)) → held_in (map (option_map f) xs) ≡ map f (held_in xs)
held_in-map f [] = refl
held_in-map f (None ∷ xs) = held_in-map f xs
held_in-map f (Some x ∷ xs) = ap (λ l. f x ∷ l) (held_in-map f xs)

-- one element more
pub take-item : {X : Type 0} (xs : List X) (i : ℕ) (x : X) → i < length xs → x ≡ get_or xs i x → take (i + 1) xs ≡ take i xs ++ x ∷ []
take-item xs i x h e = rw add-one (take-suc xs i x h ∙ ap (λ y. take i xs ++ y ∷ []) (sym e))

-- the whole list round an element
pub whole-item : {X : Type 0} (xs : List X) (i : ℕ) (x : X) → i < length xs → x ≡ get_or xs i x → xs ≡ take i xs ++ x ∷ drop (suc i) xs
whole-item xs i x h e = sym (take-append-drop i xs) ∙ ap (λ l. take i xs ++ l) (drop-cons xs i x h ∙ ap (λ y. y ∷ drop (suc i) xs) (sym e))

-- and with another in its place
pub set-item : {X : Type 0} (xs : List X) (i : ℕ) (y : X) → i < length xs → slice_set xs i y ≡ take i xs ++ y ∷ drop (suc i) xs
set-item [] i y h = absurd (omega arith)
set-item (x ∷ xs) zero y h = refl
set-item (x ∷ xs) (suc i) y h = ap (λ l. x ∷ l) (set-item xs i y (omega arith))

pub take-all : {X : Type 0} (xs : List X) (i : ℕ) → length xs ≤ i → i ≤ length xs → take i xs ≡ xs
take-all xs i p q = let e : i ≡ length xs = omega arith in rw e (take-length xs)

-- ---- the first that passes a test

one-fails : {T : Type 0} (p : T → Bool) (x : Option T) → option_map_or p x false ≡ false → find p (held_in (x ∷ [])) ≡ None
one-fails p None f = refl
one-fails p (Some q) f = rw f refl

-- none so far, and not this one
pub passed : {T : Type 0} (p : T → Bool) (xs : List (Option T)) (i : ℕ) (x : Option T) → i < length xs → x ≡ get_or xs i x →
    option_map_or p x false ≡ false → find p (held_in (take i xs)) ≡ None → find p (held_in (take (i + 1) xs)) ≡ None
passed p xs i x h e f none = rw (take-item xs i x h e, held_in-append, find-append, none) (one-fails p x f)

-- none so far, and this one
pub found : {T : Type 0} (p : T → Bool) (xs : List (Option T)) (i : ℕ) (x : Option T) (q : T) → i < length xs → x ≡ get_or xs i x →
    x ≡ Some q → p q ≡ true → find p (held_in (take i xs)) ≡ None → find p (held_in xs) ≡ Some q
found p xs i x q h e s t none = ap (λ l. find p (held_in l)) (whole-item xs i x h e) ∙ rw (held_in-append, find-append, none, s, t) refl

-- none at all
pub none-found : {T : Type 0} (p : T → Bool) (xs : List (Option T)) (i : ℕ) → length xs ≤ i → i ≤ length xs →
    find p (held_in (take i xs)) ≡ None → find p (held_in xs) ≡ None
none-found p xs i a b none = ap (λ l. find p (held_in l)) (sym (take-all xs i a b)) ∙ none

-- ---- a change of each in turn

pub changed-step : {X : Type 0} (g : X → X) (xs ps : List X) (i : ℕ) (x : X) → i < length xs → ps ≡ map g (take i xs) ++ drop i xs →
    x ≡ get_or ps i x → slice_set ps i (g x) ≡ map g (take (i + 1) xs) ++ drop (i + 1) xs
changed-step {X} g xs ps i x h e f = rw add-one (ap (λ l. slice_set l i (g x)) e ∙ ap (λ y. slice_set (map g (take i xs) ++ drop i xs) i (g y)) (f ∙ ap (λ l. get_or l i x) e) ∙ go xs i x h)
  where
    go : (xs : List X) (i : ℕ) (d : X) → i < length xs →
        slice_set (map g (take i xs) ++ drop i xs) i (g (get_or (map g (take i xs) ++ drop i xs) i d)) ≡ map g (take (suc i) xs) ++ drop (suc i) xs
    go [] i d h = absurd (omega arith)
    go (a ∷ xs) zero d h = refl
    go (a ∷ xs) (suc i) d h = ap (λ l. g a ∷ l) (go xs i d (omega arith))

-- ---- what is not needed

loose-not : (b : Bool) → not b ≡ true → b ≡ false
loose-not true e = cc
loose-not false e = refl

-- the first that is not needed goes
pub without_loose-here : (front back : List Pending) (q : Pending) → find is_loose front ≡ None → q.needed ≡ false → without_loose (front ++ q ∷ back) ≡ front ++ back
without_loose-here [] back q none loose = rw loose refl
without_loose-here (f ∷ front) back q none loose = go f.needed none (λ e. without_loose-here front back q e loose)
  where
    go : (b : Bool) → cond (not b) (Some f) (find is_loose front) ≡ None → (find is_loose front ≡ None → without_loose (front ++ q ∷ back) ≡ front ++ back) →
        (if b then f ∷ without_loose (front ++ q ∷ back) else front ++ q ∷ back) ≡ f ∷ (front ++ back)
    go true e rest = ap (λ l. f ∷ l) (rest e)
    go false e rest = cc

pub without_loose-none : (ps : List Pending) → find is_loose ps ≡ None → without_loose ps ≡ ps
without_loose-none [] none = refl
without_loose-none (p ∷ ps) none = go p.needed none (without_loose-none ps)
  where
    go : (b : Bool) → cond (not b) (Some p) (find is_loose ps) ≡ None → (find is_loose ps ≡ None → without_loose ps ≡ ps) →
        (if b then p ∷ without_loose ps else ps) ≡ p ∷ ps
    go true e rest = ap (λ l. p ∷ l) (rest e)
    go false e rest = cc

-- it is taken out of its place
pub taken-out : (xs : List (Option Pending)) (i : ℕ) (x : Option Pending) → i < length xs → x ≡ get_or xs i x → option_map_or is_loose x false ≡ true →
    find is_loose (held_in (take i xs)) ≡ None → held_in (slice_set xs i None) ≡ without_loose (held_in xs)
taken-out xs i None h e f none = cc
taken-out xs i (Some q) h e f none =
    let back = held_in (drop (suc i) xs) in
    let front = held_in (take i xs) in
    let set : held_in (slice_set xs i None) ≡ front ++ back = ap held_in (set-item xs i None h) ∙ held_in-append (take i xs) (None ∷ drop (suc i) xs) in
    let whole : held_in xs ≡ front ++ q ∷ back = ap held_in (whole-item xs i (Some q) h e) ∙ held_in-append (take i xs) (Some q ∷ drop (suc i) xs) in
    set ∙ sym (without_loose-here front back q none (loose-not q.needed f)) ∙ ap without_loose (sym whole)

-- which leaves the others where they are
pub ArePlaced-emptied : (una t : ℕ) (xs : List (Option Pending)) (i : ℕ) → ArePlaced una t xs → ArePlaced una t (slice_set xs i None)
ArePlaced-emptied una t [] i p = p
ArePlaced-emptied una t (None ∷ xs) zero p = p
ArePlaced-emptied una t (Some x ∷ xs) zero p = p.2
ArePlaced-emptied una t (None ∷ xs) (suc i) p = ArePlaced-emptied una (t + 1) xs i p
ArePlaced-emptied una t (Some x ∷ xs) (suc i) p = (p.0, p.1, ArePlaced-emptied una (t + 1) xs i p.2)

-- what is given is that packet
pub taken-is : (xs : List (Option Pending)) (i : ℕ) (x : Option Pending) → i < length xs → x ≡ get_or xs i x → option_map_or is_loose x false ≡ true →
    find is_loose (held_in (take i xs)) ≡ None → x ≡ find is_loose (held_in xs)
taken-is xs i None h e f none = cc
taken-is xs i (Some q) h e f none = sym (found is_loose xs i (Some q) q h e refl f none)

-- ---- the first that is held

first_held-after : {T : Type 0} (front back : List (Option T)) → held_in front ≡ [] → first_held (front ++ back) ≡ first_held back
first_held-after [] back none = refl
first_held-after (None ∷ front) back none = first_held-after front back none
first_held-after (Some x ∷ front) back none = cc

without_held-after : {T : Type 0} (front back : List (Option T)) → held_in front ≡ [] → without_held (front ++ back) ≡ front ++ without_held back
without_held-after [] back none = refl
without_held-after (None ∷ front) back none = ap (λ l. None ∷ l) (without_held-after front back none)
without_held-after (Some x ∷ front) back none = cc

pub first_held-at : {T : Type 0} (xs : List (Option T)) (i : ℕ) (x : Option T) → i < length xs → x ≡ get_or xs i x → is_some x ≡ true →
    held_in (take i xs) ≡ [] → x ≡ first_held xs
first_held-at xs i None h e f none = cc
first_held-at xs i (Some q) h e f none = sym (ap first_held (whole-item xs i (Some q) h e) ∙ first_held-after (take i xs) (Some q ∷ drop (suc i) xs) none)

pub without_held-at : {T : Type 0} (xs : List (Option T)) (i : ℕ) (x : Option T) → i < length xs → x ≡ get_or xs i x → is_some x ≡ true →
    held_in (take i xs) ≡ [] → slice_set xs i None ≡ without_held xs
without_held-at xs i None h e f none = cc
without_held-at xs i (Some q) h e f none =
    set-item xs i None h ∙ sym (ap without_held (whole-item xs i (Some q) h e) ∙ without_held-after (take i xs) (Some q ∷ drop (suc i) xs) none)

-- no place so far, and not this one
pub held_in-none : {T : Type 0} (xs : List (Option T)) (i : ℕ) (x : Option T) → i < length xs → x ≡ get_or xs i x → is_some x ≡ false →
    held_in (take i xs) ≡ [] → held_in (take (i + 1) xs) ≡ []
held_in-none xs i None h e f none = ap held_in (take-item xs i None h e) ∙ held_in-append (take i xs) (None ∷ []) ∙ ap (λ l. l ++ []) none
held_in-none xs i (Some q) h e f none = cc

pub held_in-whole : {T : Type 0} (xs : List (Option T)) (i : ℕ) → length xs ≤ i → i ≤ length xs → held_in (take i xs) ≡ [] → held_in xs ≡ []
held_in-whole xs i a b none = ap held_in (sym (take-all xs i a b)) ∙ none

pub first_held-none : {T : Type 0} (xs : List (Option T)) → held_in xs ≡ [] → first_held xs ≡ None
first_held-none [] none = refl
first_held-none (None ∷ xs) none = first_held-none xs none
first_held-none (Some x ∷ xs) none = cc

pub without_held-none : {T : Type 0} (xs : List (Option T)) → held_in xs ≡ [] → without_held xs ≡ xs
without_held-none [] none = refl
without_held-none (None ∷ xs) none = ap (λ l. None ∷ l) (without_held-none xs none)
without_held-none (Some x ∷ xs) none = cc

-- it is taken out of what is held
pub held_in-without : {T : Type 0} (xs : List (Option T)) → held_in (without_held xs) ≡ drop 1 (held_in xs)
held_in-without [] = refl
held_in-without (None ∷ xs) = held_in-without xs
held_in-without (Some x ∷ xs) = refl

pub first_held-pending : (xs : List (Option Pending)) → option_map (λ p. p.buffer) (first_held xs) ≡ first_pending (held_in xs)
first_held-pending [] = refl
first_held-pending (None ∷ xs) = first_held-pending xs
first_held-pending (Some x ∷ xs) = refl

pub ArePlaced-without : (una t : ℕ) (xs : List (Option Pending)) → ArePlaced una t xs → ArePlaced una t (without_held xs)
ArePlaced-without una t [] p = p
ArePlaced-without una t (None ∷ xs) p = ArePlaced-without una (t + 1) xs p
ArePlaced-without una t (Some x ∷ xs) p = p.2

-- no more is held than there are places
pub held_in-few : {T : Type 0} (xs : List (Option T)) → length (held_in xs) ≤ length xs
held_in-few [] = omega arith
held_in-few (None ∷ xs) = let rest = held_in-few xs in omega (arith, rest)
held_in-few (Some x ∷ xs) = let rest = held_in-few xs in omega (arith, rest)

-- ---- a change of what each place has

pub changed-some : {T : Type 0} (f : T → T) (xs ps after : List (Option T)) (i : ℕ) (x : Option T) (q r : T) → i < length xs →
    ps ≡ map (option_map f) (take i xs) ++ drop i xs → x ≡ get_or ps i x → x ≡ Some q → r ≡ f q → after ≡ slice_set ps i (Some r) →
    after ≡ map (option_map f) (take (i + 1) xs) ++ drop (i + 1) xs
changed-some f xs ps after i x q r h e g s t u =
    let same : option_map f x ≡ Some r = ap (option_map f) s ∙ ap Some (sym t) in
    u ∙ ap (slice_set ps i) (sym same) ∙ changed-step (option_map f) xs ps i x h e g

pub changed-none : {T : Type 0} (f : T → T) (xs ps after : List (Option T)) (i : ℕ) (x : Option T) → i < length xs →
    ps ≡ map (option_map f) (take i xs) ++ drop i xs → x ≡ get_or ps i x → x ≡ None → after ≡ slice_set ps i (get_or ps i x) →
    after ≡ map (option_map f) (take (i + 1) xs) ++ drop (i + 1) xs
changed-none f xs ps after i x h e g s u =
    let same : option_map f x ≡ get_or ps i x = ap (option_map f) s ∙ sym s ∙ g in
    u ∙ ap (slice_set ps i) (sym same) ∙ changed-step (option_map f) xs ps i x h e g
