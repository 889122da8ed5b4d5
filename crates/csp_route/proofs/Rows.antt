-- The steps by which a row is judged.
use Rattle.std.proofs.Common.{◌≡◌, ℕ, suc, ◌+◌, sym, ap, ◌∙◌, refl, arith, cond, List, [], ◌∷◌, length, map, take, drop, min, Option, Some, None, Result, Ok, Err, Bool, not, nat_lt, slice_get, ⊎_elim}
use Rattle.std.specs.List.{take-map, position, position_or_len, prefix_len}
use Rattle.std.specs.Str.{bytes_eq}
use Rattle.arrayvec.specs.ArrayString.{ArrayString}
use Rattle.std.proofs.lemmas.Bool.{cases_lt}
use Rattle.std.proofs.lemmas.List.{length-map, take_all}
use Rattle.csp_route.specs.declared.row.Row.{Row}
use Rattle.csp_route.specs.declared.error.RouteError.{RouteError}
use Rattle.csp_route.specs.Parts.{Part, end_of, filled, parts_of, words_of}
use Rattle.csp_route.specs.Text.{◌>>=◌, target_of, iface_of, via_of, nothing_of, row_of, iface_named, names_of}
use Rattle.csp_route.specs.declared.text.TheConstants.{MAX_IFACES}

-- a row from the answers of its four words
abbrev pub judged : Result (ℕ × ℕ) RouteError → Result ℕ RouteError → Result (Option ℕ) RouteError → Result (Unit {0}) RouteError → Result Row RouteError
judged target iface via nothing = target >>= λ t. iface >>= λ i. via >>= λ v. nothing >>= λ _. Ok (record { addr = t.0; mask = t.1; iface = i; via = v })

-- a word after the first is the first of those that are left
pub get_later : (words left : List Part) (n : ℕ) → left ≡ drop 1 words → slice_get left n ≡ slice_get words (suc n)
get_later [] left n e = ap (λ l. slice_get l n) e
get_later (w ∷ words) left n e = ap (λ l. slice_get l n) e

-- the row that the words' judgements make
row_is : (names : List (List ℕ)) (part : Part) (a b c : List Part) → a ≡ drop 1 (words_of part) → b ≡ drop 1 a → c ≡ drop 1 b → row_of names part ≡ judged (target_of (end_of part) (slice_get (words_of part) 0)) (iface_of names (end_of part) (slice_get a 0)) (via_of (slice_get b 0)) (nothing_of (slice_get c 0))
unfolding row_of
row_is names part a b c ea eb ec =
    let second : slice_get a 0 ≡ slice_get (words_of part) 1 = get_later _ a 0 ea in
    let third : slice_get b 0 ≡ slice_get (words_of part) 2 = get_later a b 0 eb ∙ get_later _ a 1 ea in
    let fourth : slice_get c 0 ≡ slice_get (words_of part) 3 = get_later b c 0 ec ∙ get_later a b 1 eb ∙ get_later _ a 2 ea in
    λ i. judged (target_of (end_of part) (slice_get (words_of part) 0)) (iface_of names (end_of part) (sym second i)) (via_of (sym third i)) (nothing_of (sym fourth i))

-- the same, from what each call of the code answers: the row's end, its parts, and each word with what is left after it
pub record Reads (names : List (List ℕ)) (part : Part) (a b c : List Part) (t : Result (ℕ × ℕ) RouteError) (i : Result ℕ RouteError) (v : Result (Option ℕ) RouteError) (n : Result (Unit {0}) RouteError) : Type 0 where
  pub left_one : a ≡ drop 1 (words_of part)
  pub left_two : b ≡ drop 1 a
  pub left_three : c ≡ drop 1 b
  pub first : t ≡ target_of (end_of part) (slice_get (words_of part) 0)
  pub second : i ≡ iface_of names (end_of part) (slice_get a 0)
  pub third : v ≡ via_of (slice_get b 0)
  pub fourth : n ≡ nothing_of (slice_get c 0)

pub row_by : (names : List (List ℕ)) (part : Part) (a b c : List Part) (t : Result (ℕ × ℕ) RouteError) (i : Result ℕ RouteError) (v : Result (Option ℕ) RouteError) (n : Result (Unit {0}) RouteError) → Reads names part a b c t i v n → row_of names part ≡ judged t i v n
row_by names part a b c t i v n r = row_is names part a b c r.left_one r.left_two r.left_three ∙ λ k. judged (sym r.first k) (sym r.second k) (sym r.third k) (sym r.fourth k)

-- what a reader of a word answers, from the word that the row has there
pub at_first : {A : Type 0} (f : ℕ → Option Part → A) (part : Part) (missing : ℕ) (word : Option Part) (parts : List Part) (answer : A) → answer ≡ f missing word → missing ≡ end_of part → word ≡ slice_get (filled parts) 0 → parts ≡ parts_of 32 part.at part.bytes → answer ≡ f (end_of part) (slice_get (words_of part) 0)
at_first f part missing word parts answer e em ew ep = e ∙ λ k. f (em k) ((ew ∙ ap (λ ps. slice_get (filled ps) 0) ep) k)

module _ (t : Result (ℕ × ℕ) RouteError) (i : Result ℕ RouteError) (v : Result (Option ℕ) RouteError) (n : Result (Unit {0}) RouteError) where
  pub stop_target : (e : RouteError) → t ≡ Err e → judged t i v n ≡ Err e
  stop_target e p = ap (λ x. judged x i v n) p

  pub stop_iface : (target : ℕ × ℕ) (e : RouteError) → t ≡ Ok target → i ≡ Err e → judged t i v n ≡ Err e
  stop_iface target e p q = ap (λ x. judged x i v n) p ∙ ap (λ x. judged (Ok target) x v n) q

  pub stop_via : (target : ℕ × ℕ) (iface : ℕ) (e : RouteError) → t ≡ Ok target → i ≡ Ok iface → v ≡ Err e → judged t i v n ≡ Err e
  stop_via target iface e p q r = ap (λ x. judged x i v n) p ∙ ap (λ x. judged (Ok target) x v n) q ∙ ap (λ x. judged (Ok target) (Ok iface) x n) r

  pub stop_nothing : (target : ℕ × ℕ) (iface : ℕ) (via : Option ℕ) (e : RouteError) → t ≡ Ok target → i ≡ Ok iface → v ≡ Ok via → n ≡ Err e → judged t i v n ≡ Err e
  stop_nothing target iface via e p q r s = ap (λ x. judged x i v n) p ∙ ap (λ x. judged (Ok target) x v n) q ∙ ap (λ x. judged (Ok target) (Ok iface) x n) r ∙ ap (judged (Ok target) (Ok iface) (Ok via)) s

  pub whole : (target : ℕ × ℕ) (iface : ℕ) (via : Option ℕ) (u : Unit {0}) → t ≡ Ok target → i ≡ Ok iface → v ≡ Ok via → n ≡ Ok u → judged t i v n ≡ Ok (record { addr = target.0; mask = target.1; iface = iface; via = via })
  whole target iface via u p q r s = ap (λ x. judged x i v n) p ∙ ap (λ x. judged (Ok target) x v n) q ∙ ap (λ x. judged (Ok target) (Ok iface) x n) r ∙ ap (judged (Ok target) (Ok iface) (Ok via)) s

-- the first of these names, told of names as they are kept
position-map : {A B : Type 0} (f : A → B) (p : B → Bool) (xs : List A) → position p (map f xs) ≡ position (λ x. p (f x)) xs
position-map f p xs = λ i. cond (nat_lt (place i) (length-map xs f i)) (Some (place i)) None
  where
    from : (ys : List _) → prefix_len (λ y. not (p y)) (map f ys) ≡ prefix_len (λ x. not (p (f x))) ys
    from [] = refl
    from (y ∷ ys) = ap (λ k. cond (not (p (f y))) (1 + k) 0) (from ys)

    place : position_or_len p (map f xs) ≡ position_or_len (λ x. p (f x)) xs
    place = from xs

take_min : {A : Type 0} (n : ℕ) (xs : List A) → take (min (length xs) n) xs ≡ take n xs
take_min n xs = ⊎_elim
    (λ short. ap (λ k. take k xs) (omega arith) ∙ take_all (length xs) xs (omega arith) ∙ sym (take_all n xs (omega arith)))
    (λ long. ap (λ k. take k xs) (omega arith))
    (cases_lt (length xs) n)

pub named_by : (names : List ArrayString) (word : List ℕ) → iface_named (names_of names) word ≡ position (λ name. bytes_eq name.bytes word) (take (min (length names) MAX_IFACES) names)
named_by names word =
    ap (position (λ name. bytes_eq name word)) (take-map (λ (name : ArrayString). name.bytes) MAX_IFACES names)
    ∙ position-map (λ (name : ArrayString). name.bytes) (λ name. bytes_eq name word) (take MAX_IFACES names)
    ∙ ap (position (λ (name : ArrayString). bytes_eq name.bytes word)) (sym (take_min MAX_IFACES names))
