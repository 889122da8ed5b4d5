-- What is told along a list, where the next of it was told.
use Rattle.std.proofs.Common.{◌≡◌, ℕ, suc, ◌+◌, ◌<◌, List, ◌∷◌, ◌++◌, length, drop, get_or, ◌≤◌, [], drop-cons, add-one, append_assoc, sym, ap, ◌∙◌}
use Rattle.std.proofs.lemmas.List.{drop_all}
use Rattle.std.specs.Prelude.{Option}
use Rattle.csp_happenings.specs.declared.kinds.Happening.{Happening}
use Rattle.csp_picture.specs.Seen.{PlainSeen, after, after_all, along}
use Rattle.csp_picture.specs.declared.seen.Window.{Window}

-- the first of what is left of a list, and the rest
pub next : {X : Type 0} (xs : List X) (i : ℕ) (x : X) → i < length xs → x ≡ get_or xs i x → drop i xs ≡ x ∷ drop (i + 1) xs
next xs i x within is = drop-cons xs i x within ∙ ap (λ y. y ∷ drop (suc i) xs) (sym is) ∙ ap (λ m. x ∷ drop m xs) (sym (add-one i))

module _ (window : Option Window) (hs : List Happening) (i : ℕ) (h : Happening) (within : i < length hs) (is : h ≡ get_or hs i h) (seen : PlainSeen) where
  -- what is told of what is left is what is told of its first and of the rest
  along_step : (tells : PlainSeen → Happening → List ℕ) → along tells window seen (drop i hs) ≡ tells seen h ++ along tells window (after window seen h) (drop (i + 1) hs)
  unfolding along
  along_step tells = ap (along tells window seen) (next hs i h within is)

  after_step : after_all window seen (drop i hs) ≡ after_all window (after window seen h) (drop (i + 1) hs)
  unfolding after_all
  after_step = ap (after_all window seen) (next hs i h within is)

  -- so where the first was told, what was told so far and is left to tell stays
  pub told_more : (tells : PlainSeen → Happening → List ℕ) (out last all : List ℕ) (seen' : PlainSeen) → last ≡ out ++ tells seen h → seen' ≡ after window seen h
      → out ++ along tells window seen (drop i hs) ≡ all → last ++ along tells window seen' (drop (i + 1) hs) ≡ all
  told_more tells out last all seen' said passed before =
      rw (said, passed) (append_assoc out (tells seen h) (along tells window (after window seen h) (drop (i + 1) hs)) ∙ ap (λ rest. out ++ rest) (sym (along_step tells)) ∙ before)

  -- and what is known in the end stays
  pub passed_more : (all seen' : PlainSeen) → seen' ≡ after window seen h → after_all window seen (drop i hs) ≡ all → after_all window seen' (drop (i + 1) hs) ≡ all
  passed_more all seen' passed before = rw passed (sym after_step ∙ before)

-- nothing is told of nothing
pub along_end : (tells : PlainSeen → Happening → List ℕ) (window : Option Window) (seen : PlainSeen) (hs : List Happening) (i : ℕ) → length hs ≤ i → along tells window seen (drop i hs) ≡ []
unfolding along
along_end tells window seen hs i past = ap (along tells window seen) (drop_all i hs past)

-- and nothing becomes known
pub after_end : (window : Option Window) (seen : PlainSeen) (hs : List Happening) (i : ℕ) → length hs ≤ i → after_all window seen (drop i hs) ≡ seen
unfolding after_all
after_end window seen hs i past = ap (after_all window seen) (drop_all i hs past)
