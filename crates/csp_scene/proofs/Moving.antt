-- The moves of step words, one word more.
use Rattle.std.proofs.Common.{◌≡◌, ℕ, ◌+◌, ◌<◌, Bool, true, false, ◌&&◌, List, [], ◌∷◌, ◌++◌, length, get_or, take, map, Bor, Option, Some, None, zero, suc, arith, refl, ap, ◌∙◌}
use Rattle.std.specs.Option.{is_some}
use Rattle.std.specs.List.{filter_map, cons_option, list_all}
use Rattle.std.proofs.lemmas.List.{take_more, map-append}
use Rattle.std.proofs.lemmas.List.Elements.{filter_map-append}
use Rattle.std.proofs.lemmas.List.Folds.{list_all-append}

pub words_more : (words : List (Bor (List ℕ))) (i : ℕ) (d : Bor (List ℕ)) → i < length words → map (λ word. word.now) (take (i + 1) words) ≡ map (λ word. word.now) (take i words) ++ (get_or words i d).now ∷ []
words_more words i d within = ap (λ ws. map (λ (word : Bor (List ℕ)). word.now) ws) (take_more words i d within) ∙ map-append (λ (word : Bor (List ℕ)). word.now) (take i words) (get_or words i d ∷ [])

pub moves_more : {Y : Type 0} (h : List ℕ → Option Y) (words : List (Bor (List ℕ))) (i : ℕ) (d : Bor (List ℕ)) (y : Y) → i < length words → h (get_or words i d).now ≡ Some y → filter_map h (map (λ word. word.now) (take (i + 1) words)) ≡ filter_map h (map (λ word. word.now) (take i words)) ++ y ∷ []
moves_more h words i d y within e =
    ap (filter_map h) (words_more words i d within)
    ∙ filter_map-append h (map (λ word. word.now) (take i words)) ((get_or words i d).now ∷ [])
    ∙ ap (λ o. filter_map h (map (λ (word : Bor (List ℕ)). word.now) (take i words)) ++ cons_option o []) e

pub all_more : {Y : Type 0} (h : List ℕ → Option Y) (words : List (Bor (List ℕ))) (i : ℕ) (d : Bor (List ℕ)) (y : Y) → i < length words → h (get_or words i d).now ≡ Some y → list_all (λ word. is_some (h word)) (map (λ word. word.now) (take i words)) ≡ true → list_all (λ word. is_some (h word)) (map (λ word. word.now) (take (i + 1) words)) ≡ true
all_more h words i d y within e all =
    ap (list_all (λ word. is_some (h word))) (words_more words i d within)
    ∙ list_all-append (λ word. is_some (h word)) (map (λ word. word.now) (take i words)) ((get_or words i d).now ∷ [])
    ∙ ap (λ b. b && (is_some (h (get_or words i d).now) && true)) all
    ∙ ap (λ o. is_some o && true) e

and_false : (b : Bool) → (b && false) ≡ false
and_false true = refl
and_false false = refl

pub none_fails : {Y : Type 0} (h : List ℕ → Option Y) (words : List (Bor (List ℕ))) (i : ℕ) (d : Bor (List ℕ)) → i < length words → h (get_or words i d).now ≡ None → list_all (λ word. is_some (h word)) (map (λ word. word.now) words) ≡ false
none_fails h [] i d within e = absurd (omega arith)
none_fails h (word ∷ words) zero d within e = ap (λ o. is_some o && list_all (λ w. is_some (h w)) (map (λ (w : Bor (List ℕ)). w.now) words)) e
none_fails h (word ∷ words) (suc i) d within e = ap (λ b. is_some (h word.now) && b) (none_fails h words i d (omega arith) e) ∙ and_false (is_some (h word.now))
