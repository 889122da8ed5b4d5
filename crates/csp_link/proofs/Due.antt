-- where the first held frame that is due stands
use Rattle.std.proofs.Common.{◌≡◌, ℕ, suc, ◌+◌, ◌-◌, ◌<◌, ◌≤◌, Bool, true, false, cond, List, [], ◌∷◌, length, Option, Some, None, refl, ap, sym, ◌∙◌, arith}
use Rattle.std.specs.List.{find, enumerate_from, position, position_from, slice_index_or}
use Rattle.std.specs.Option.{option_map, unwrap_or}
use Rattle.std.specs.Prelude.{nat_le}
use Rattle.std.proofs.lemmas.Iterator.Adapters.{position_from-zero}
use Rattle.csp_link.specs.Holding.{first_due}
use Rattle.csp_link.specs.Turns.{looks}
use Rattle.csp_link.specs.declared.doing.Doing.{Doing}
use Rattle.csp_link.specs.declared.doing.Doing.TheVariants as doing
use Rattle.csp_link.specs.declared.held.Held.{Held}

module _ (t : Held → Bool) where
  -- the first that passes, with its place
  abbrev first_from : ℕ → List Held → Option (ℕ × Held)
  first_from n hs = find (λ p. t p.1) (enumerate_from n hs)

  place_from : (n : ℕ) (hs : List Held) → position_from t n hs ≡ option_map (λ p. p.0) (first_from n hs)
  place_from n [] = refl
  place_from n (h ∷ hs) =
      elim (t h) as (λ b. cond b (Some n) (position_from t (n + 1) hs) ≡ option_map (λ p. p.0) (cond b (Some (n, h)) (first_from (n + 1) hs))) [
        | true ↦ refl
        | false ↦ place_from (n + 1) hs
      ]

  -- what is found so many places on
  record Found (n : ℕ) (hs : List Held) (found : Option (ℕ × Held)) (place : ℕ) : Type 0 where
    after : n ≤ place
    inside : place < n + length hs
    there : (h : Held) → h ≡ slice_index_or hs (place - n) h → found ≡ Some (place, h)

  first_found : (n : ℕ) (h : Held) (hs : List Held) (place : ℕ) → n ≡ place → Found n (h ∷ hs) (Some (n, h)) place
  first_found n h hs place e = record {
    after = omega (arith, e);
    inside = omega (arith, e);
    there = λ x is. let none : place - n ≡ 0 = omega (arith, e) in let same : x ≡ h = is ∙ ap (λ k. slice_index_or (h ∷ hs) k x) none in λ i. Some (e i, sym same i);
  }

  later_found : (n : ℕ) (h : Held) (hs : List Held) (found : Option (ℕ × Held)) (place : ℕ) → Found (n + 1) hs found place → Found n (h ∷ hs) found place
  later_found n h hs found place f = record {
    after = omega (arith, f.after);
    inside = omega (arith, f.inside);
    there = λ x is. let later : place - n ≡ suc (place - (n + 1)) = omega (arith, f.after) in f.there x (is ∙ ap (λ k. slice_index_or (h ∷ hs) k x) later);
  }

  found_from : (n : ℕ) (hs : List Held) (place : ℕ) → option_map (λ p. p.0) (first_from n hs) ≡ Some place → Found n hs (first_from n hs) place
  found_from n [] place e = absurd cc
  found_from n (h ∷ hs) place e =
      elim (t h) as (λ b. option_map (λ p. p.0) (cond b (Some (n, h)) (first_from (n + 1) hs)) ≡ Some place → Found n (h ∷ hs) (cond b (Some (n, h)) (first_from (n + 1) hs)) place) [
        | true ↦ λ is. first_found n h hs place (ap (λ (o : Option ℕ). unwrap_or o 0) is)
        | false ↦ λ is. later_found n h hs (first_from (n + 1) hs) place (found_from (n + 1) hs place is)
      ] e

pub place_first_due : (now : ℕ) (held : List Held) → position (λ h. nat_le h.due now) held ≡ option_map (λ p. p.0) (first_due now held)
place_first_due now held = position_from-zero (λ (h : Held). nat_le h.due now) held ∙ place_from (λ h. nat_le h.due now) 0 held

-- the place of the first that is due is one of a held frame, and that frame is it
pub due_inside : (now : ℕ) (held : List Held) (place : ℕ) → option_map (λ p. p.0) (first_due now held) ≡ Some place → place < length held
due_inside now held place e = omega (arith, (found_from (λ h. nat_le h.due now) 0 held place e).inside)

pub due_there : (now : ℕ) (held : List Held) (place : ℕ) → option_map (λ p. p.0) (first_due now held) ≡ Some place → (h : Held) → h ≡ slice_index_or held place h → first_due now held ≡ Some (place, h)
due_there now held place e h is = (found_from (λ h. nat_le h.due now) 0 held place e).there h (is ∙ let all : place ≡ place - 0 = omega arith in ap (λ k. slice_index_or held k h) all)

-- where there is no place, none is due
pub none_due : (now : ℕ) (held : List Held) → option_map (λ p. p.0) (first_due now held) ≡ None → first_due now held ≡ None
none_due now held e = by (first_due now held) e
  where
    by : (o : Option (ℕ × Held)) → option_map (λ p. p.0) o ≡ None → o ≡ None
    by None e = refl
    by (Some p) e = absurd cc

-- a plan that is a look for a frame is that one
pub looks_pop : (p : Doing) → looks p ≡ true → p ≡ doing.Pop
looks_pop doing.Pop e = refl
looks_pop doing.Rest e = absurd cc
looks_pop (doing.Push _ _) e = absurd cc
looks_pop doing.Wait e = absurd cc
