-- Of sixteen own ports one is not taken, where fewer than sixteen slots have a connection.
use Rattle.std.proofs.Common.{◌≡◌, ℕ, zero, suc, ◌+◌, ◌-◌, ◌<◌, ◌≤◌, Bool, true, false, not, ◌&&◌, nat_eq, List, [], ◌∷◌, length, map, find, Option, None, Some, refl, sym, ◌∙◌, arith, inl, inr}
use Rattle.std.specs.List.{range_with_len, list_any, IsDistinct}
use Rattle.std.specs.Set.{is_member}
use Rattle.std.proofs.lemmas.Bool.{eqb-true, eq-eqb, ne_eqb, or_cases, or_left, or_right, and_parts, cases_Bool, cases_eq, cases_lt}
use Rattle.std.proofs.lemmas.Cmp.{nat_eq_equiv}
use Rattle.std.proofs.lemmas.List.FromFn.{get_or-range_with_len, length-range_with_len}
use Rattle.std.proofs.lemmas.Map.Made.{length-le_from_is_member}
use Rattle.std.proofs.lemmas.Map.Keys.{IsDistinct-from_apart}
use Rattle.csp_conn.specs.declared.slot.Slot.{Slot}
use Rattle.csp_conn.specs.declared.slot.Slot.TheVariants.{Free, Held, Open}
use Rattle.csp_conn.specs.Circle.{port_after, circle_after}
use Rattle.csp_conn.specs.Slots.{is_free, has_port}

-- ---- the ports that are taken

-- the own ports of all connections
own_ports : List Slot → List ℕ
own_ports [] = []
own_ports (Free ∷ slots) = own_ports slots
own_ports (Held ∷ slots) = own_ports slots
own_ports (Open c ∷ slots) = c.own_port ∷ own_ports slots

own_ports-member : (dest port : ℕ) (slots : List Slot) → list_any (has_port dest port) slots ≡ true → is_member nat_eq (own_ports slots) port ≡ true
unfolding own_ports
own_ports-member dest port [] h = cc
own_ports-member dest port (Free ∷ slots) h = own_ports-member dest port slots h
own_ports-member dest port (Held ∷ slots) h = own_ports-member dest port slots h
own_ports-member dest port (Open c ∷ slots) h = elim (or_cases (nat_eq c.peer dest && nat_eq c.own_port port) (list_any (has_port dest port) slots) h) [
  | inl here ↦ or_left (nat_eq port c.own_port) (is_member nat_eq (own_ports slots) port)
      (eq-eqb port c.own_port (sym (eqb-true c.own_port port (and_parts (nat_eq c.peer dest) (nat_eq c.own_port port) here).1)))
  | inr later ↦ or_right (nat_eq port c.own_port) (is_member nat_eq (own_ports slots) port) (own_ports-member dest port slots later)
]

length-own_ports : (slots : List Slot) → length (own_ports slots) ≤ length slots
unfolding own_ports
length-own_ports [] = omega arith
length-own_ports (Free ∷ slots) = omega (arith, length-own_ports slots)
length-own_ports (Held ∷ slots) = omega (arith, length-own_ports slots)
length-own_ports (Open c ∷ slots) = omega (arith, length-own_ports slots)

own_ports-few : (slots : List Slot) → list_any is_free slots ≡ true → length (own_ports slots) < length slots
unfolding own_ports
own_ports-few [] h = cc
own_ports-few (Free ∷ slots) h = omega (arith, length-own_ports slots)
own_ports-few (Held ∷ slots) h = omega (arith, own_ports-few slots h)
own_ports-few (Open c ∷ slots) h = omega (arith, own_ports-few slots h)

-- ---- all ports

range-distinct : (a n : ℕ) → IsDistinct nat_eq (range_with_len a n)
range-distinct a n = IsDistinct-from_apart nat_eq (range_with_len a n) (λ i j d less below.
    let short : j < n = omega (arith, length-range_with_len a n) in
    rw (get_or-range_with_len a n i d (omega arith), get_or-range_with_len a n j d short) (ne_eqb (a + i) (a + j) (λ e. omega arith)))

range-member : (a n q : ℕ) → is_member nat_eq (range_with_len a n) q ≡ true → (a ≤ q) × (q < a + n)
range-member a zero q h = cc
range-member a (suc n) q h = elim (or_cases (nat_eq q a) (is_member nat_eq (range_with_len (a + 1) n) q) h) [
  | inl e ↦ let same : q ≡ a = eqb-true q a e in (omega arith, omega arith)
  | inr rest ↦ let ih : (a + 1 ≤ q) × (q < a + 1 + n) = range-member (a + 1) n q rest in (omega (arith, ih.0), omega (arith, ih.1))
]

-- ---- the circle

none-some : (port : ℕ) → None ≡ Some port → ⊥
none-some port e = cc

above : (low k : ℕ) → low ≤ k → (k ≡ low → ⊥) → low + 1 ≤ k
above low k h apart = elim (cases_lt low k) [ inl less ↦ omega arith | inr more ↦ absurd (apart (omega arith)) ]

module _ (taken : ℕ → Bool) (last : ℕ) where
  -- the first port of the circle that is not taken, from so many steps on
  pub first_from : ℕ → Option ℕ
  first_from steps = find (λ port. not (taken port)) (map (port_after last) (range_with_len steps (17 - steps)))

  pub first_from-one : find (λ port. not (taken port)) (circle_after last) ≡ first_from 1
  unfolding circle_after first_from
  first_from-one = refl

  pub first_from-taken : (steps : ℕ) → steps < 17 → taken (port_after last steps) ≡ true → first_from steps ≡ first_from (steps + 1)
  unfolding first_from
  first_from-taken steps h t =
      let count : 17 - steps ≡ suc (17 - (steps + 1)) = omega arith in
      rw (count, t) refl

  pub first_from-free : (steps : ℕ) → steps < 17 → taken (port_after last steps) ≡ false → first_from steps ≡ Some (port_after last steps)
  unfolding first_from
  first_from-free steps h t =
      let count : 17 - steps ≡ suc (17 - (steps + 1)) = omega arith in
      rw (count, t) refl

  pub first_from-end : (steps : ℕ) → 17 ≤ steps → first_from steps ≡ None
  unfolding first_from
  first_from-end steps h = let count : 17 - steps ≡ 0 = omega arith in rw count refl

  -- where none is found, each is taken
  none_left : (n steps k : ℕ) → steps + n ≡ 17 → first_from steps ≡ None → steps ≤ k → k < 17 → taken (port_after last k) ≡ true
  none_left zero steps k count none low high = absurd (omega arith)
  none_left (suc n) steps k count none low high = elim (cases_Bool (taken (port_after last steps))) [
    | inl here ↦ elim (cases_eq k steps) [
      | inl same ↦ rw same here
      | inr apart ↦ none_left n (steps + 1) k (omega arith) (sym (first_from-taken steps (omega arith) here) ∙ none) (above steps k low apart) high
    ]
    | inr here ↦ absurd (none-some (port_after last steps) (sym none ∙ first_from-free steps (omega arith) here))
  ]

-- some port of the circle is not taken
pub some_left : (dest last : ℕ) (slots : List Slot) → 48 ≤ last → last < 64 → length slots ≤ 16 → list_any is_free slots ≡ true →
    first_from (λ port. list_any (has_port dest port) slots) last 1 ≡ None → ⊥
some_left dest last slots low high all free none =
    let taken : ℕ → Bool = λ port. list_any (has_port dest port) slots in
    let each : (q : ℕ) → (48 ≤ q) × (q < 64) → taken q ≡ true =
    λ q own. elim (cases_lt last q) [
      | inl after ↦ let here : port_after last (q - last) ≡ q = omega (arith, own.0, own.1) in
          let t = none_left taken last 16 1 (q - last) (omega arith) none (omega arith) (omega (arith, own.1)) in rw here at t
      | inr before ↦ let here : port_after last (q + 16 - last) ≡ q = omega (arith, own.0, own.1) in
          let t = none_left taken last 16 1 (q + 16 - last) (omega arith) none (omega (arith, own.0)) (omega (arith, own.1)) in rw here at t
    ] in
    let enough : length (range_with_len 48 16) ≤ length (own_ports slots) =
    length-le_from_is_member nat_eq_equiv (range_with_len 48 16) (own_ports slots) (range-distinct 48 16) (λ q h. own_ports-member dest q slots (each q (range-member 48 16 q h))) in
    omega (arith, enough, length-range_with_len 48 16, own_ports-few slots free)
