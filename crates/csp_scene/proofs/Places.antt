-- The places that words name, one word more.
use Rattle.std.proofs.Common.{◌≡◌, ℕ, ◌+◌, ◌<◌, List, [], ◌∷◌, ◌++◌, length, get_or, take, map, Bor, Option, Some, None, zero, suc, arith, refl, ap, ◌∙◌}
use Rattle.std.specs.Option.{option_map}
use Rattle.std.proofs.lemmas.List.{map-append}
use Rattle.csp_scene.specs.Joining.{all_named}
use Rattle.csp_scene.proofs.Moving.{words_more}

one_more : (found : List (Option ℕ)) (places : List ℕ) (place : ℕ) → all_named found ≡ Some places → all_named (found ++ Some place ∷ []) ≡ Some (places ++ place ∷ [])
one_more [] places place e = ap (option_map (λ before. before ++ place ∷ [])) e
one_more (None ∷ found) places place e = absurd (cc)
one_more (Some first ∷ found) places place e = by_rest (all_named found) refl e (λ later is. one_more found later place is)
  where
    by_rest : (rest : Option (List ℕ)) → all_named found ≡ rest → option_map (λ later. first ∷ later) rest ≡ Some places → ((later : List ℕ) → all_named found ≡ Some later → all_named (found ++ Some place ∷ []) ≡ Some (later ++ place ∷ [])) → all_named (Some first ∷ (found ++ Some place ∷ [])) ≡ Some (places ++ place ∷ [])
    by_rest None is none more = absurd (cc)
    by_rest (Some later) is some more = ap (option_map (λ after. first ∷ after)) (more later is) ∙ ap (option_map (λ before. before ++ place ∷ [])) some

pub named_more : (look : List ℕ → Option ℕ) (words : List (Bor (List ℕ))) (i : ℕ) (d : Bor (List ℕ)) (place : ℕ) (places : List ℕ) → i < length words → look (get_or words i d).now ≡ Some place → all_named (map look (map (λ word. word.now) (take i words))) ≡ Some places → all_named (map look (map (λ word. word.now) (take (i + 1) words))) ≡ Some (places ++ place ∷ [])
named_more look words i d place places within e named =
    let before : List (List ℕ) = map (λ (word : Bor (List ℕ)). word.now) (take i words) in
    ap (λ ws. all_named (map look ws)) (words_more words i d within)
    ∙ ap all_named (map-append look before ((get_or words i d).now ∷ []))
    ∙ ap (λ last. all_named (map look before ++ last ∷ [])) e
    ∙ one_more (map look before) places place named

-- where one word names no place, not all do
pub none_named : (look : List ℕ → Option ℕ) (words : List (Bor (List ℕ))) (i : ℕ) (d : Bor (List ℕ)) → i < length words → look (get_or words i d).now ≡ None → all_named (map look (map (λ word. word.now) words)) ≡ None
none_named look [] i d within e = absurd (omega (arith, within))
none_named look (word ∷ words) zero d within e = ap (λ first. all_named (first ∷ map look (map (λ (w : Bor (List ℕ)). w.now) words))) e
none_named look (word ∷ words) (suc i) d within e = by_first (look word.now) (none_named look words i d (omega (arith, within)) e)
  where
    rest : List (Option ℕ)
    rest = map look (map (λ (w : Bor (List ℕ)). w.now) words)

    by_first : (first : Option ℕ) → all_named rest ≡ None → all_named (first ∷ rest) ≡ None
    by_first None none = refl
    by_first (Some place) none = ap (option_map (λ later. place ∷ later)) none
