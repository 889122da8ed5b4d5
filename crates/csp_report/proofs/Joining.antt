-- Words appended one after the other are a line, and lines a text.
use Rattle.std.proofs.Common.{◌≡◌, ℕ, Option, None, Some, Result, Ok, Err, OnOk, List, [], ◌∷◌, ◌++◌, refl, sym, ap, ◌∙◌, append_assoc, append-nil}
use Rattle.std.specs.Prelude.{codes}
use Rattle.std.specs.List.{flat_map, join_with_byte}
use Rattle.std.specs.Fmt.{decimal}
use Rattle.csp_report.specs.Lines.{Line, ended_line}
use Rattle.csp_report.specs.Report.{name_words}

shifted : (w j k : List ℕ) → (w ++ 32 ∷ j) ++ k ≡ w ++ 32 ∷ (j ++ k)
shifted w j k = simp append_assoc

join_more : (w : List ℕ) (ws : Line) (v : List ℕ) (vs : Line) → join_with_byte 32 (w ∷ ws) ++ 32 ∷ join_with_byte 32 (v ∷ vs) ≡ join_with_byte 32 (w ∷ (ws ++ v ∷ vs))
join_more w [] v vs = refl
join_more w (u ∷ us) v vs = shifted w (join_with_byte 32 (u ∷ us)) (32 ∷ join_with_byte 32 (v ∷ vs)) ∙ ap (λ t. w ++ 32 ∷ t) (join_more u us v vs)

-- further words, with a space before them
pub words_more : (s a b w : List ℕ) (ws : Line) (v : List ℕ) (vs : Line) → a ≡ s ++ join_with_byte 32 (w ∷ ws) → b ≡ a ++ 32 ∷ join_with_byte 32 (v ∷ vs) → b ≡ s ++ join_with_byte 32 (w ∷ (ws ++ v ∷ vs))
words_more s a b w ws v vs e f = rw (f, e) (append_assoc s (join_with_byte 32 (w ∷ ws)) (32 ∷ join_with_byte 32 (v ∷ vs)) ∙ ap (λ t. s ++ t) (join_more w ws v vs))

-- the line feed
pub words_end : (s a b : List ℕ) (words : Line) → a ≡ s ++ join_with_byte 32 words → b ≡ a ++ 10 ∷ [] → b ≡ s ++ ended_line words
words_end s a b words e f = rw (f, e) (append_assoc s (join_with_byte 32 words) (10 ∷ []))

-- words with numbers, with a space before each
counted_join : {X : Type 0} (word : X → List ℕ) (number : X → ℕ) (w : List ℕ) (ws : Line) (xs : List X)
    → join_with_byte 32 (w ∷ ws) ++ flat_map (λ x. 32 ∷ (word x ++ 32 ∷ decimal (number x))) xs ≡ join_with_byte 32 (w ∷ (ws ++ flat_map (λ x. word x ∷ decimal (number x) ∷ []) xs))
counted_join word number w ws [] = simp append-nil
counted_join word number w ws (x ∷ xs) =
    let two : Line = word x ∷ decimal (number x) ∷ [] in
    let later : List ℕ = flat_map (λ y. 32 ∷ (word y ++ 32 ∷ decimal (number y))) xs in
    sym (append_assoc (join_with_byte 32 (w ∷ ws)) (32 ∷ join_with_byte 32 two) later)
    ∙ ap (λ (t : List ℕ). t ++ later) (join_more w ws (word x) (decimal (number x) ∷ []))
    ∙ counted_join word number w (ws ++ two) xs
    ∙ ap (λ (t : Line). join_with_byte 32 (w ∷ t)) (append_assoc ws two (flat_map (λ y. word y ∷ decimal (number y) ∷ []) xs))

-- a line of some words, and of words with numbers
pub counted_line : {X : Type 0} (word : X → List ℕ) (number : X → ℕ) (s a b c w : List ℕ) (ws : Line) (xs : List X)
    → a ≡ s ++ join_with_byte 32 (w ∷ ws) → b ≡ a ++ flat_map (λ x. 32 ∷ (word x ++ 32 ∷ decimal (number x))) xs → c ≡ b ++ 10 ∷ []
    → c ≡ s ++ ended_line (w ∷ (ws ++ flat_map (λ x. word x ∷ decimal (number x) ∷ []) xs))
counted_line word number s a b c w ws xs e f g =
    let tail : List ℕ = flat_map (λ x. 32 ∷ (word x ++ 32 ∷ decimal (number x))) xs in
    let words : b ≡ s ++ join_with_byte 32 (w ∷ (ws ++ flat_map (λ x. word x ∷ decimal (number x) ∷ []) xs)) = rw (f, e) (append_assoc s (join_with_byte 32 (w ∷ ws)) tail ∙ ap (λ t. s ++ t) (counted_join word number w ws xs)) in
    words_end s b c (w ∷ (ws ++ flat_map (λ x. word x ∷ decimal (number x) ∷ []) xs)) words g

-- the line of a node or a bridge: four runs of words
pub node_joined : (s b c d e name : List ℕ) (addr : Option ℕ) (v : List ℕ) (vs : Line) (u : List ℕ) (us : Line) (t : List ℕ) (ts : Line)
    → b ≡ s ++ (join_with_byte 32 (name_words name addr) ++ 32 ∷ join_with_byte 32 (v ∷ vs)) → c ≡ b ++ 32 ∷ join_with_byte 32 (u ∷ us) → d ≡ c ++ 32 ∷ join_with_byte 32 (t ∷ ts) → e ≡ d ++ 10 ∷ []
    → e ≡ s ++ ended_line (name_words name addr ++ ((v ∷ vs ++ u ∷ us) ++ t ∷ ts))
node_joined s b c d e name addr v vs u us t ts e1 e2 e3 e4 = by addr e1
  where
    runs : (w : List ℕ) (ws : Line) → b ≡ s ++ (join_with_byte 32 (w ∷ ws) ++ 32 ∷ join_with_byte 32 (v ∷ vs)) → e ≡ s ++ ended_line (w ∷ (((ws ++ v ∷ vs) ++ u ∷ us) ++ t ∷ ts))
    runs w ws f =
        words_end s d e (w ∷ (((ws ++ v ∷ vs) ++ u ∷ us) ++ t ∷ ts))
        (words_more s c d w ((ws ++ v ∷ vs) ++ u ∷ us) t ts (words_more s b c w (ws ++ v ∷ vs) u us (f ∙ ap (λ bytes. s ++ bytes) (join_more w ws v vs)) e2) e3) e4

    by : (a : Option ℕ) → b ≡ s ++ (join_with_byte 32 (name_words name a) ++ 32 ∷ join_with_byte 32 (v ∷ vs)) → e ≡ s ++ ended_line (name_words name a ++ ((v ∷ vs ++ u ∷ us) ++ t ∷ ts))
    by (Some n) f = runs (codes "node") (name ∷ decimal n ∷ []) f
    by None f = runs (codes "bridge") (name ∷ []) f

-- the same text, said otherwise
pub said_otherwise : {A E : Type 0} (r : Result A E) (new s a b : List ℕ) → a ≡ b → OnOk r (new ≡ s ++ a) → OnOk r (new ≡ s ++ b)
said_otherwise (Ok x) new s a b same h = h ∙ ap (λ t. s ++ t) same
said_otherwise (Err e) new s a b same h = tt
