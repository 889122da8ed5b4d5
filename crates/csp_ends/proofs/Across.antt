-- A pop from an end at one place while the end that its marks tell of stands at another.
use Rattle.std.proofs.Common.{◌≡◌, ◌<◌, ◌≤◌, ⊎_elim, arith, ℕ, Bool, true, false, true≢false, Option, None, Some, List, ◌++◌, length, slice_get, get_or, refl, sym, ap, ◌∙◌, subst}
use Rattle.std.specs.Prelude.{not, IfSome, MatchOption}
use Rattle.std.specs.List.{slice_set}
use Rattle.std.specs.Option.{option_map}
use Rattle.std.proofs.lemmas.Bool.{cases_lt}
use Rattle.std.proofs.lemmas.List.{length-set}
use Rattle.std.proofs.lemmas.Option.{get_or_from_slice_get, same_Some}
use Rattle.csp_ends.proofs.Backs.{back_turned}
use Rattle.csp_ends.proofs.Lists.{each_there, get_within}
use Rattle.csp_ends.proofs.Splits.{Cut, cut_lower, cut_set_lower, cut_set_upper, cut_upper, set_same}
use Rattle.csp_ends.proofs.Ways.{Gets}
use Rattle.csp_ends.specs.Moves.{side_through}
use Rattle.csp_ends.specs.Sides.{PlainSide, back_of, beside, count_through, is_back}
use Rattle.csp_lane.specs.Ends.{HadNothing}
use Rattle.csp_log.specs.Pictures.{shown_item}
use Rattle.csp_log.specs.declared.item.Item.{Item}
use Rattle.csp_tally.specs.declared.tally.Witness.{Witness}

same_not : (b c : Bool) → c ≡ not b → b ≡ c → ⊥
same_not true c e f = true≢false (f ∙ e)
same_not false c e f = true≢false (sym (f ∙ e))

-- an end doesn't tell of itself
back_apart : (sides : List PlainSide) (at place : ℕ) (s t : PlainSide) → slice_get sides at ≡ Some s → slice_get sides place ≡ Some t → is_back s t ≡ true → at ≡ place → ⊥
back_apart sides at place s t here there back same =
    same_not s.puts t.puts (back_turned s t back) (ap (λ (z : PlainSide). z.puts) (same_Some s t (sym here ∙ ap (slice_get sides) same ∙ there)))

-- what a search found for an end at a place: the end that its marks tell of
abbrev pub FindsBack : List PlainSide → PlainSide → ℕ → Type 0
FindsBack sides s place = (t : PlainSide) × (slice_get sides place ≡ Some t) × (is_back s t ≡ true) × (back_of sides s ≡ Some t)

-- so it stands elsewhere
pub place_apart : (sides : List PlainSide) (at place : ℕ) → at ≤ place → at < length sides → ((s : PlainSide) → slice_get sides at ≡ Some s → FindsBack sides s place) → at < place
place_apart sides at place low within find =
    let own = get_within sides at within in
    let f = find own.0 own.1 in
    ⊎_elim (λ (h : at < place). h) (λ (h : place ≤ at). absurd (back_apart sides at place own.0 f.0 own.1 f.1 f.2 (omega (arith, low, h)))) (cases_lt at place)

-- the end x at a place, whose marks tell of the end y, and the list with others in the places of both
pub record Tells (sides : List PlainSide) (at : ℕ) (x y : PlainSide) (with_both : PlainSide → PlainSide → List PlainSide) : Type 0 where
  pub there : slice_get sides at ≡ Some x
  pub turned : y.puts ≡ not x.puts
  pub found : back_of sides x ≡ Some y
  pub set : (z : PlainSide) → with_both z y ≡ slice_set sides at z

tells_as : (sides : List PlainSide) (at : ℕ) (s t x y : PlainSide) (with_both : PlainSide → PlainSide → List PlainSide) → x ≡ s → y ≡ t → Tells sides at s t with_both → Tells sides at x y with_both
tells_as sides at s t x y with_both self back h = subst (λ z. Tells sides at z y with_both) (sym self) (subst (λ w. Tells sides at s w with_both) (sym back) h)

-- the list is cut where the other end stands, behind
pub behind : (sides front rest : List PlainSide) (at place : ℕ) (d e : PlainSide) → sides ≡ front ++ rest → length front ≡ place → at ≤ place → at < length sides → ((s : PlainSide) → slice_get sides at ≡ Some s → FindsBack sides s place)
    → Tells sides at (get_or front at d) (get_or rest 0 e) (λ z w. slice_set front at z ++ slice_set rest 0 w)
behind sides front rest at place d e parts long low within find =
    let own = get_within sides at within in
    let s = own.0 in
    let f = find s own.1 in
    let t = f.0 in
    let cut : Cut sides front rest at place s t = record { parts = parts; cut = long; below = place_apart sides at place low within find; lower = own.1; upper = f.1 } in
    tells_as sides at s t _ _ _ (get_or_from_slice_get front at s d (cut_lower sides front rest at place s t cut)) (get_or_from_slice_get rest 0 t e (cut_upper sides front rest at place s t cut))
    (record { there = own.1; turned = back_turned s t f.2; found = f.3; set = λ z. cut_set_lower sides front rest at place s t z cut })

-- or at the place of the first, with the other before
pub before : (sides front rest : List PlainSide) (at place : ℕ) (d e : PlainSide) → sides ≡ front ++ rest → length front ≡ at → place < at → at < length sides → ((s : PlainSide) → slice_get sides at ≡ Some s → FindsBack sides s place)
    → Tells sides at (get_or rest 0 d) (get_or front place e) (λ z w. slice_set front place w ++ slice_set rest 0 z)
before sides front rest at place d e parts long low within find =
    let own = get_within sides at within in
    let s = own.0 in
    let f = find s own.1 in
    let t = f.0 in
    let cut : Cut sides front rest place at t s = record { parts = parts; cut = long; below = low; lower = f.1; upper = own.1 } in
    tells_as sides at s t _ _ _ (get_or_from_slice_get rest 0 s d (cut_upper sides front rest place at t s cut)) (get_or_from_slice_get front place t e (cut_lower sides front rest place at t s cut))
    (record { there = own.1; turned = back_turned s t f.2; found = f.3; set = λ z. cut_set_upper sides front rest place at t s z cut })

-- what a pop of an end says that may tell of n items
abbrev pub Pops : ℕ → PlainSide → Option Item → PlainSide → Type 0
Pops n x r x' = MatchOption r ((x' ≡ x) × (x.puts ≡ false → HadNothing x.end)) (λ i. (x.puts ≡ false) × (x' ≡ side_through x (shown_item i) n))

gets_one : (sides : List PlainSide) (at n : ℕ) (x x' : PlainSide) (r : Option Item) (after : List PlainSide) → slice_get sides at ≡ Some x → n ≡ beside sides x → after ≡ slice_set sides at x' → Pops n x r x' → Gets sides at x r after
gets_one sides at n x x' None after there count set got = (set ∙ ap (slice_set sides at) got.0 ∙ set_same sides at x there, got.1)
gets_one sides at n x x' (Some i) after there count set got = (got.0, set ∙ ap (slice_set sides at) (got.1 ∙ ap (side_through x (shown_item i)) count))

-- so of all ends, where it tells of another
pub gets_told : (sides : List PlainSide) (at : ℕ) (x y x' y' : PlainSide) (with_both : PlainSide → PlainSide → List PlainSide) (r : Option Item) → Tells sides at x y with_both → y' ≡ y → Pops (length y.end.items) x r x'
    → (s : PlainSide) → slice_get sides at ≡ Some s → Gets sides at s r (with_both x' y')
gets_told sides at x y x' y' with_both r t stays got =
    each_there (slice_get sides at) (λ s. Gets sides at s r (with_both x' y')) x t.there
    (gets_one sides at (length y.end.items) x x' r (with_both x' y') t.there (ap count_through (sym t.found)) (ap (with_both x') stays ∙ t.set x') got)

-- and where it tells of none
pub gets_alone : (sides : List PlainSide) (at : ℕ) (x x' : PlainSide) (r : Option Item) → slice_get sides at ≡ Some x → back_of sides x ≡ None → Pops 0 x r x' → (s : PlainSide) → slice_get sides at ≡ Some s → Gets sides at s r (slice_set sides at x')
gets_alone sides at x x' r there none got =
    each_there (slice_get sides at) (λ s. Gets sides at s r (slice_set sides at x')) x there (gets_one sides at 0 x x' r (slice_set sides at x') there (ap count_through (sym none)) refl got)

-- a pop leaves as many ends
pub gets_count : (sides : List PlainSide) (at : ℕ) (s : PlainSide) (r : Option Item) (after : List PlainSide) → Gets sides at s r after → length after ≡ length sides
gets_count sides at s None after got = ap length got.0
gets_count sides at s (Some i) after got = ap length got.1 ∙ length-set sides at (side_through s (shown_item i) (beside sides s))

-- what is told is of the lane that the marks tell of
pub told_name : (sides : List PlainSide) (s t x : PlainSide) (o : Option Witness) → x ≡ t → back_of sides s ≡ Some t → IfSome o (λ w. w.name ≡ x.end.tally) → IfSome o (λ w. option_map (λ z. z.end.tally) (back_of sides s) ≡ Some w.name)
told_name sides s t x None self is e = tt
told_name sides s t x (Some w) self is e = ap (option_map (λ (z : PlainSide). z.end.tally)) is ∙ ap (λ n. Some n) (sym (e ∙ ap (λ (z : PlainSide). z.end.tally) self))

-- and as much as went through its end
pub told_count : (sides : List PlainSide) (s t x : PlainSide) (n : ℕ) → x ≡ t → is_back s t ≡ true → back_of sides s ≡ Some t → s.puts ≡ true → (x.puts ≡ false → n ≡ length x.end.items) → n ≡ beside sides s
told_count sides s t x n self so is puts count =
    let gets : x.puts ≡ false = ap (λ (z : PlainSide). z.puts) self ∙ back_turned s t so ∙ ap not puts in
    count gets ∙ ap (λ (z : PlainSide). length z.end.items) self ∙ ap count_through (sym is)
