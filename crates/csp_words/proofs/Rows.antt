-- the rows of the grammar: which words find which command
use Rattle.std.proofs.Common.{◌≡◌, ◌≢◌, ◌⊎◌, ℕ, zero, suc, ◌+◌, ◌<◌, ◌≤◌, ◌^◌, Bool, true, false, ◌&&◌, cond, List, [], ◌∷◌, ◌++◌, length, map, codes, Ok, Err, arith, inl, inr, refl, ap, sym, ◌∙◌, subst, append-nil}
use Rattle.std.specs.Fmt.{decimal}
use Rattle.std.specs.List.{range_with_len}
use Rattle.std.specs.Str.{bytes_eq}
use Rattle.std.proofs.lemmas.Bool.{and_parts, cases_lt}
use Rattle.std.proofs.lemmas.Fmt.{decimal_injective}
use Rattle.std.proofs.lemmas.Slice.Eq.{bytes_eq-Decides}
use Rattle.csp_text.specs.Numbers.{is_decimal, number_of}
use Rattle.csp_gen.proofs.Public.{is_decimal-decimal, number_of-decimal, decimal-number_of}
use Rattle.csp_gen.specs.declared.scenario.TheConstants.{MAX_PACKETS}
use Rattle.csp_words.specs.declared.grammar.Command.{Command}
use Rattle.csp_words.specs.declared.grammar.Command.TheVariants.{Sim, Run, Gen, Tap}
use Rattle.csp_words.specs.declared.grammar.TheConstants.{DEFAULT_WORKERS, MAX_WORKERS}
use Rattle.csp_words.specs.declared.grammar.WordsError.TheVariants.{Grammar}
use Rattle.csp_words.specs.Grammar.{GrammarRow, sim_row, run_words, run_row, tap_words, tap_row, apart_words, apart_row, apart_rows, joined_words, joined_row, joined_rows, gen_words, gen_row, gen_rows, are_words, found_in, command_of, AreRun, AreGen}

-- the test of words is equality
pub words_same : (a b : List (List ℕ)) → are_words a b ≡ true → a ≡ b
words_same [] [] h = refl
words_same [] (y ∷ b) h = cc
words_same (x ∷ a) [] h = cc
words_same (x ∷ a) (y ∷ b) h =
    let parts = and_parts (bytes_eq x y) (are_words a b) h in
    let first : x ≡ y = (bytes_eq-Decides x y).0 parts.0 in
    let rest : a ≡ b = words_same a b parts.1 in
    cc

both_true : (a b : Bool) → a ≡ true → b ≡ true → (a && b) ≡ true
both_true true true e f = refl
both_true true false e f = cc
both_true false b e f = cc

pub words_meet : (a : List (List ℕ)) → are_words a a ≡ true
words_meet [] = refl
words_meet (x ∷ a) = both_true (bytes_eq x x) (are_words a a) ((bytes_eq-Decides x x).1 refl) (words_meet a)

-- a test that failed or held, as an equation
other_words : (a b : List (List ℕ)) → a ≢ b → are_words a b ≡ false
other_words a b h = by_test (are_words a b) refl
  where
    by_test : (t : Bool) → are_words a b ≡ t → t ≡ false
    by_test true e = absurd (h (words_same a b e))
    by_test false e = refl

-- two texts whose bytes differ
texts_differ : (x y : List ℕ) → bytes_eq x y ≡ false → x ≢ y
texts_differ x y apart e = let same : bytes_eq x y ≡ true = (bytes_eq-Decides x y).1 e in cc

first_row : (row : GrammarRow) (more : List GrammarRow) (words : List (List ℕ)) → words ≡ row.0 → found_in (row ∷ more) words ≡ Ok row.1
first_row row more words e = ap (λ t. cond t (Ok row.1) (found_in more words)) (subst (λ (b : List (List ℕ)). are_words words b ≡ true) e (words_meet words))

later_row : (row : GrammarRow) (more : List GrammarRow) (words : List (List ℕ)) → words ≢ row.0 → found_in (row ∷ more) words ≡ found_in more words
later_row row more words h = ap (λ t. cond t (Ok row.1) (found_in more words)) (other_words words row.0 h)

-- no two numbers have the same words
abbrev AreApart : (ℕ → GrammarRow) → Type 0
AreApart row = (p a : ℕ) → p < 2 ^ 64 → a < 2 ^ 64 → (row p).0 ≡ (row a).0 → p ≡ a

-- the rows from a number on: the words that one of them has
hit : (row : ℕ → GrammarRow) → AreApart row → (more : List GrammarRow) (a n p : ℕ) → a ≤ p → p < a + n → a + n < 2 ^ 64 → found_in (map row (range_with_len a n) ++ more) (row p).0 ≡ Ok (row p).1
hit row apart more a zero p low high small = absurd (omega arith)
hit row apart more a (suc n) p low high small =
    elim (cases_lt a p) [
      | inl above ↦ later_row (row a) (map row (range_with_len (a + 1) n) ++ more) (row p).0 (λ e. let same = apart p a (omega arith) (omega arith) e in absurd (omega arith))
          ∙ hit row apart more (a + 1) n p (omega arith) (omega arith) (omega arith)
      | inr below ↦ let same : p ≡ a = omega arith in
          first_row (row a) (map row (range_with_len (a + 1) n) ++ more) (row p).0 (ap (λ (k : ℕ). (row k).0) same) ∙ ap (λ (k : ℕ). Ok (row k).1) (sym same)
    ]

-- and those that none of them has
miss : (row : ℕ → GrammarRow) (more : List GrammarRow) (a n : ℕ) (words : List (List ℕ)) → ((p : ℕ) → a ≤ p → p < a + n → words ≢ (row p).0) → found_in (map row (range_with_len a n) ++ more) words ≡ found_in more words
miss row more a zero words h = refl
miss row more a (suc n) words h =
    later_row (row a) (map row (range_with_len (a + 1) n) ++ more) words (h a (omega arith) (omega arith))
    ∙ miss row more (a + 1) n words (λ p low high. h p (omega arith) (omega arith))

-- the row in which a command was found
record Found (row : ℕ → GrammarRow) (a n : ℕ) (words : List (List ℕ)) (command : Command) : Type 0 where
  at : ℕ
  low : a ≤ at
  high : at < a + n
  words_are : words ≡ (row at).0
  command_is : command ≡ (row at).1

found : (row : ℕ → GrammarRow) (more : List GrammarRow) (a n : ℕ) (words : List (List ℕ)) (command : Command) → found_in (map row (range_with_len a n) ++ more) words ≡ Ok command
    → Found row a n words command ⊎ (found_in more words ≡ Ok command)
found row more a zero words command e = inr e
found row more a (suc n) words command e = by_test (found row more (a + 1) n words command) (are_words words (row a).0) refl
  where
    next : Found row (a + 1) n words command ⊎ (found_in more words ≡ Ok command) → Found row a (suc n) words command ⊎ (found_in more words ≡ Ok command)
    next (inl f) = inl (record { at = f.at; low = omega (arith, f.low); high = omega (arith, f.high); words_are = f.words_are; command_is = f.command_is })
    next (inr later) = inr later

    by_test : (found_in (map row (range_with_len (a + 1) n) ++ more) words ≡ Ok command → Found row (a + 1) n words command ⊎ (found_in more words ≡ Ok command)) → (t : Bool) → are_words words (row a).0 ≡ t
        → Found row a (suc n) words command ⊎ (found_in more words ≡ Ok command)
    by_test later true same = inl (record {
      at = a;
      low = omega arith;
      high = omega arith;
      words_are = words_same words (row a).0 same;
      command_is = let first : Ok (row a).1 ≡ Ok command = sym (ap (λ t. cond t (Ok (row a).1) (found_in (map row (range_with_len (a + 1) n) ++ more) words)) same) ∙ e in cc;
    })
    by_test later false other = next (later (sym (ap (λ t. cond t (Ok (row a).1) (found_in (map row (range_with_len (a + 1) n) ++ more) words)) other) ∙ e))

found_first : (row : GrammarRow) (more : List GrammarRow) (words : List (List ℕ)) (command : Command) → found_in (row ∷ more) words ≡ Ok command → ((words ≡ row.0) × (command ≡ row.1)) ⊎ (found_in more words ≡ Ok command)
found_first row more words command e = by_test (are_words words row.0) refl
  where
    by_test : (t : Bool) → are_words words row.0 ≡ t → ((words ≡ row.0) × (command ≡ row.1)) ⊎ (found_in more words ≡ Ok command)
    by_test true same = inl (words_same words row.0 same, (let first : Ok row.1 ≡ Ok command = sym (ap (λ t. cond t (Ok row.1) (found_in more words)) same) ∙ e in cc))
    by_test false other = inr (sym (ap (λ t. cond t (Ok row.1) (found_in more words)) other) ∙ e)

-- digits of different numbers differ
gen_apart : AreApart gen_row
gen_apart p a small also e = let digits : decimal p ≡ decimal a = cc in decimal_injective p a small also digits

apart_apart : AreApart apart_row
apart_apart p a small also e = let digits : decimal p ≡ decimal a = cc in decimal_injective p a small also digits

same_rest : (front xs ys : List ℕ) → front ++ xs ≡ front ++ ys → xs ≡ ys
same_rest [] xs ys e = e
same_rest (b ∷ front) xs ys e = same_rest front xs ys (let rest : front ++ xs ≡ front ++ ys = cc in rest)

joined_apart : AreApart joined_row
joined_apart p a small also e =
    let options : codes "--workers=" ++ decimal p ≡ codes "--workers=" ++ decimal a = cc in
    decimal_injective p a small also (same_rest (codes "--workers=") (decimal p) (decimal a) options)

-- no text is the words of two forms
run_not_sim : codes "run" ≢ codes "sim"
run_not_sim = texts_differ (codes "run") (codes "sim") refl

gen_not_run : codes "gen" ≢ codes "run"
gen_not_run = texts_differ (codes "gen") (codes "run") refl

run_not_tap : codes "run" ≢ codes "tap"
run_not_tap = texts_differ (codes "run") (codes "tap") refl

gen_not_tap : codes "gen" ≢ codes "tap"
gen_not_tap = texts_differ (codes "gen") (codes "tap") refl

-- words of which none of the first rows has just these
past_first : (words : List (List ℕ)) → words ≢ codes "sim" ∷ [] → words ≢ run_words → words ≢ tap_words false → words ≢ tap_words true
    → command_of words ≡ found_in (apart_rows ++ (joined_rows ++ gen_rows)) words
past_first words no_sim no_run no_tap no_header =
    later_row sim_row (run_row ∷ tap_row false ∷ tap_row true ∷ (apart_rows ++ (joined_rows ++ gen_rows))) words no_sim
    ∙ later_row run_row (tap_row false ∷ tap_row true ∷ (apart_rows ++ (joined_rows ++ gen_rows))) words no_run
    ∙ later_row (tap_row false) (tap_row true ∷ (apart_rows ++ (joined_rows ++ gen_rows))) words no_tap
    ∙ later_row (tap_row true) (apart_rows ++ (joined_rows ++ gen_rows)) words no_header

-- the command that is found, and its words
data Which (words : List (List ℕ)) (command : Command) : Type 0 where
  sims : words ≡ codes "sim" ∷ [] → command ≡ Sim → Which words command
  runs : (workers : ℕ) → AreRun workers words → command ≡ Run workers → Which words command
  gens : (packets : ℕ) → AreGen packets words → command ≡ Gen packets → Which words command
  taps : (cover : Bool) → words ≡ tap_words cover → command ≡ Tap cover → Which words command

which : (words : List (List ℕ)) (command : Command) → command_of words ≡ Ok command → Which words command
unfolding apart_rows joined_rows gen_rows
which words command e = first (found_first sim_row (run_row ∷ tap_row false ∷ tap_row true ∷ (apart_rows ++ (joined_rows ++ gen_rows))) words command e)
  where
    last : Found gen_row 1 MAX_PACKETS words command ⊎ (Err Grammar ≡ Ok command) → Which words command
    last (inl f) = gens f.at (record { least = omega (arith, f.low); most = omega (arith, f.high); words_are = f.words_are }) f.command_is
    last (inr never) = cc

    fourth : Found joined_row 1 MAX_WORKERS words command ⊎ (found_in gen_rows words ≡ Ok command) → Which words command
    fourth (inl f) = runs f.at (record { least = omega (arith, f.low); most = omega (arith, f.high); words_are = inr (inl f.words_are) }) f.command_is
    fourth (inr later) = last (found gen_row [] 1 MAX_PACKETS words command (ap (λ rows. found_in rows words) (append-nil gen_rows) ∙ later))

    third : Found apart_row 1 MAX_WORKERS words command ⊎ (found_in (joined_rows ++ gen_rows) words ≡ Ok command) → Which words command
    third (inl f) = runs f.at (record { least = omega (arith, f.low); most = omega (arith, f.high); words_are = inl f.words_are }) f.command_is
    third (inr later) = fourth (found joined_row gen_rows 1 MAX_WORKERS words command later)

    headed : ((words ≡ tap_words true) × (command ≡ Tap true)) ⊎ (found_in (apart_rows ++ (joined_rows ++ gen_rows)) words ≡ Ok command) → Which words command
    headed (inl f) = taps true f.0 f.1
    headed (inr later) = third (found apart_row (joined_rows ++ gen_rows) 1 MAX_WORKERS words command later)

    tapped : ((words ≡ tap_words false) × (command ≡ Tap false)) ⊎ (found_in (tap_row true ∷ (apart_rows ++ (joined_rows ++ gen_rows))) words ≡ Ok command) → Which words command
    tapped (inl f) = taps false f.0 f.1
    tapped (inr later) = headed (found_first (tap_row true) (apart_rows ++ (joined_rows ++ gen_rows)) words command later)

    second : ((words ≡ run_words) × (command ≡ Run DEFAULT_WORKERS)) ⊎ (found_in (tap_row false ∷ tap_row true ∷ (apart_rows ++ (joined_rows ++ gen_rows))) words ≡ Ok command) → Which words command
    second (inl f) = runs DEFAULT_WORKERS (record { least = omega arith; most = omega arith; words_are = inr (inr (f.0, refl)) }) f.1
    second (inr later) = tapped (found_first (tap_row false) (tap_row true ∷ (apart_rows ++ (joined_rows ++ gen_rows))) words command later)

    first : ((words ≡ codes "sim" ∷ []) × (command ≡ Sim)) ⊎ (found_in (run_row ∷ tap_row false ∷ tap_row true ∷ (apart_rows ++ (joined_rows ++ gen_rows))) words ≡ Ok command) → Which words command
    first (inl f) = sims f.0 f.1
    first (inr later) = second (found_first run_row (tap_row false ∷ tap_row true ∷ (apart_rows ++ (joined_rows ++ gen_rows))) words command later)

-- `sim`, and nothing else, is Sim
pub to_sim : command_of (codes "sim" ∷ []) ≡ Ok Sim
to_sim = refl

pub of_sim : (words : List (List ℕ)) → command_of words ≡ Ok Sim → words ≡ codes "sim" ∷ []
of_sim words e = told (which words Sim e)
  where
    told : Which words Sim → words ≡ codes "sim" ∷ []
    told (sims same is) = same
    told (runs workers are is) = cc
    told (gens packets are is) = cc
    told (taps cover same is) = cc

-- `run` with its number of workers, and nothing else, is Run with that number
pub to_run : (workers : ℕ) (words : List (List ℕ)) → AreRun workers words → command_of words ≡ Ok (Run workers)
unfolding apart_rows joined_rows
to_run workers words are = told are.words_are
  where
    apart : found_in (apart_rows ++ (joined_rows ++ gen_rows)) (apart_words workers) ≡ Ok (Run workers)
    apart = hit apart_row apart_apart (joined_rows ++ gen_rows) 1 MAX_WORKERS workers are.least (omega (arith, are.most)) (omega arith)

    joined : found_in (apart_rows ++ (joined_rows ++ gen_rows)) (joined_words workers) ≡ Ok (Run workers)
    joined =
        miss apart_row (joined_rows ++ gen_rows) 1 MAX_WORKERS (joined_words workers) (λ p low high e. let no : joined_words workers ≡ apart_words p = e in cc)
        ∙ hit joined_row joined_apart gen_rows 1 MAX_WORKERS workers are.least (omega (arith, are.most)) (omega arith)

    after : (more : List (List ℕ)) → words ≡ codes "run" ∷ more → words ≢ codes "sim" ∷ []
    after more is e = let same : codes "run" ∷ more ≡ codes "sim" ∷ [] = sym is ∙ e in run_not_sim (let heads : codes "run" ≡ codes "sim" = cc in heads)

    no_tap : (more then : List (List ℕ)) → words ≡ codes "run" ∷ more → words ≢ codes "tap" ∷ then
    no_tap more then is e = let same : codes "run" ∷ more ≡ codes "tap" ∷ then = sym is ∙ e in run_not_tap (let heads : codes "run" ≡ codes "tap" = cc in heads)

    told : (words ≡ apart_words workers) ⊎ ((words ≡ joined_words workers) ⊎ ((words ≡ run_words) × (workers ≡ DEFAULT_WORKERS))) → command_of words ≡ Ok (Run workers)
    told (inl is) =
        past_first words (after _ is) (λ e. let no : apart_words workers ≡ run_words = sym is ∙ e in cc) (no_tap _ _ is) (no_tap _ _ is)
        ∙ ap (found_in (apart_rows ++ (joined_rows ++ gen_rows))) is ∙ apart
    told (inr (inl is)) =
        past_first words (after _ is) (λ e. let no : joined_words workers ≡ run_words = sym is ∙ e in cc) (no_tap _ _ is) (no_tap _ _ is)
        ∙ ap (found_in (apart_rows ++ (joined_rows ++ gen_rows))) is ∙ joined
    told (inr (inr is)) =
        later_row sim_row (run_row ∷ tap_row false ∷ tap_row true ∷ (apart_rows ++ (joined_rows ++ gen_rows))) words (after _ is.0)
        ∙ first_row run_row (tap_row false ∷ tap_row true ∷ (apart_rows ++ (joined_rows ++ gen_rows))) words is.0 ∙ ap (λ (n : ℕ). Ok (Run n)) (sym is.1)

pub of_run : (workers : ℕ) (words : List (List ℕ)) → command_of words ≡ Ok (Run workers) → AreRun workers words
of_run workers words e = told (which words (Run workers) e)
  where
    told : Which words (Run workers) → AreRun workers words
    told (sims same is) = cc
    told (runs n are is) = let same : n ≡ workers = cc in subst (λ (k : ℕ). AreRun k words) same are
    told (gens packets are is) = cc
    told (taps cover same is) = cc

-- `gen N`, and nothing else, is Gen with that number
pub to_gen : (packets : ℕ) (words : List (List ℕ)) → AreGen packets words → command_of words ≡ Ok (Gen packets)
unfolding apart_rows joined_rows gen_rows
to_gen packets words are =
    past_first words (λ e. let no : gen_words packets ≡ codes "sim" ∷ [] = sym are.words_are ∙ e in cc) (λ e. let no : gen_words packets ≡ run_words = sym are.words_are ∙ e in cc)
    (λ e. let no : gen_words packets ≡ tap_words false = sym are.words_are ∙ e in cc)
    (λ e. let no : gen_words packets ≡ tap_words true = sym are.words_are ∙ e in gen_not_tap (let heads : codes "gen" ≡ codes "tap" = cc in heads))
    ∙ miss apart_row (joined_rows ++ gen_rows) 1 MAX_WORKERS words (λ p low high e. let no : gen_words packets ≡ apart_words p = sym are.words_are ∙ e in cc)
    ∙ miss joined_row gen_rows 1 MAX_WORKERS words (λ p low high e. let no : gen_words packets ≡ joined_words p = sym are.words_are ∙ e in gen_not_run (let heads : codes "gen" ≡ codes "run" = cc in heads))
    ∙ ap (λ rows. found_in rows words) (sym (append-nil gen_rows))
    ∙ ap (found_in (gen_rows ++ [])) are.words_are ∙ hit gen_row gen_apart [] 1 MAX_PACKETS packets are.least (omega (arith, are.most)) (omega arith)

pub of_gen : (packets : ℕ) (words : List (List ℕ)) → command_of words ≡ Ok (Gen packets) → AreGen packets words
of_gen packets words e = told (which words (Gen packets) e)
  where
    told : Which words (Gen packets) → AreGen packets words
    told (sims same is) = cc
    told (runs n are is) = cc
    told (gens n are is) = let same : n ≡ packets = cc in subst (λ (k : ℕ). AreGen k words) same are
    told (taps cover same is) = cc

-- `tap`, also with `--header`, and nothing else, is Tap
pub to_tap : (cover : Bool) → command_of (tap_words cover) ≡ Ok (Tap cover)
to_tap false = refl
to_tap true = refl

pub of_tap : (cover : Bool) (words : List (List ℕ)) → command_of words ≡ Ok (Tap cover) → words ≡ tap_words cover
of_tap cover words e = told (which words (Tap cover) e)
  where
    told : Which words (Tap cover) → words ≡ tap_words cover
    told (sims same is) = cc
    told (runs n are is) = cc
    told (gens n are is) = cc
    told (taps c same is) = let alike : c ≡ cover = cc in subst (λ (k : Bool). words ≡ tap_words k) alike same

-- all other words are outside the grammar
pub of_none : (words : List (List ℕ)) → words ≢ codes "sim" ∷ [] → ((workers : ℕ) → ¬ AreRun workers words) → ((packets : ℕ) → ¬ AreGen packets words) → words ≢ tap_words false → words ≢ tap_words true → command_of words ≡ Err Grammar
unfolding apart_rows joined_rows gen_rows
of_none words no_sim no_run no_gen no_tap no_header =
    past_first words no_sim (λ e. no_run DEFAULT_WORKERS (record { least = omega arith; most = omega arith; words_are = inr (inr (e, refl)) })) no_tap no_header
    ∙ miss apart_row (joined_rows ++ gen_rows) 1 MAX_WORKERS words (λ p low high e. no_run p (record { least = low; most = omega arith; words_are = inl e }))
    ∙ miss joined_row gen_rows 1 MAX_WORKERS words (λ p low high e. no_run p (record { least = low; most = omega arith; words_are = inr (inl e) }))
    ∙ ap (λ rows. found_in rows words) (sym (append-nil gen_rows))
    ∙ miss gen_row [] 1 MAX_PACKETS words (λ p low high e. no_gen p (record { least = low; most = omega arith; words_are = e }))

pub to_none : (words : List (List ℕ)) → command_of words ≡ Err Grammar → (words ≢ codes "sim" ∷ []) × ((workers : ℕ) → ¬ AreRun workers words) × ((packets : ℕ) → ¬ AreGen packets words) × ((cover : Bool) → words ≢ tap_words cover)
to_none words e = (
  λ same. let is : command_of words ≡ Ok Sim = ap command_of same in cc,
  λ workers are. let is : command_of words ≡ Ok (Run workers) = to_run workers words are in cc,
  λ packets are. let is : command_of words ≡ Ok (Gen packets) = to_gen packets words are in cc,
  λ cover same. let is : command_of words ≡ Ok (Tap cover) = ap command_of same ∙ to_tap cover in cc,
)

-- no row has no word, or more than three
pub other_count : {A : Type 0} (f : A → List ℕ) (words : List A) → length words ≢ 1 → length words ≢ 2 → length words ≢ 3 → command_of (map f words) ≡ Err Grammar
other_count f [] one two three = of_none [] (λ e. cc) (λ workers are. no_run workers are.words_are) (λ packets are. let e = are.words_are in cc) (λ e. cc) (λ e. cc)
  where
    no_run : (n : ℕ) → ([] ≡ apart_words n) ⊎ (([] ≡ joined_words n) ⊎ (([] ≡ run_words) × (n ≡ DEFAULT_WORKERS))) → ⊥
    no_run n (inl e) = cc
    no_run n (inr (inl e)) = cc
    no_run n (inr (inr e)) = let no = e.0 in cc
other_count f (a ∷ []) one two three = absurd (one refl)
other_count f (a ∷ b ∷ []) one two three = absurd (two refl)
other_count f (a ∷ b ∷ c ∷ []) one two three = absurd (three refl)
other_count f (a ∷ b ∷ c ∷ d ∷ words) one two three =
    of_none (f a ∷ f b ∷ f c ∷ f d ∷ map f words) (λ e. cc) (λ workers are. no_run workers are.words_are) (λ packets are. let e = are.words_are in cc) (λ e. cc) (λ e. cc)
  where
    no_run : (n : ℕ) → (f a ∷ f b ∷ f c ∷ f d ∷ map f words ≡ apart_words n) ⊎ ((f a ∷ f b ∷ f c ∷ f d ∷ map f words ≡ joined_words n) ⊎ ((f a ∷ f b ∷ f c ∷ f d ∷ map f words ≡ run_words) × (n ≡ DEFAULT_WORKERS))) → ⊥
    no_run n (inl e) = cc
    no_run n (inr (inl e)) = cc
    no_run n (inr (inr e)) = let no = e.0 in cc

-- one word that is none of `sim`, `run` and `tap`
pub other_word : (word : List ℕ) → word ≢ codes "sim" → word ≢ codes "run" → word ≢ codes "tap" → command_of (word ∷ []) ≡ Err Grammar
other_word word h g t =
    of_none (word ∷ []) (λ e. let same : word ≡ codes "sim" = cc in h same) (λ workers are. no_run workers are.words_are) (λ packets are. let e = are.words_are in cc)
    (λ e. let same : word ≡ codes "tap" = cc in t same) (λ e. cc)
  where
    no_run : (n : ℕ) → (word ∷ [] ≡ apart_words n) ⊎ ((word ∷ [] ≡ joined_words n) ⊎ ((word ∷ [] ≡ run_words) × (n ≡ DEFAULT_WORKERS))) → ⊥
    no_run n (inl e) = cc
    no_run n (inr (inl e)) = cc
    no_run n (inr (inr e)) = let both = e.0 in g (let same : word ≡ codes "run" = cc in same)

-- two words of which the first is none of `gen`, `run` and `tap`
pub other_first : (word second : List ℕ) → word ≢ codes "gen" → word ≢ codes "run" → word ≢ codes "tap" → command_of (word ∷ second ∷ []) ≡ Err Grammar
other_first word second h g t =
    of_none (word ∷ second ∷ []) (λ e. cc) (λ workers are. no_run workers are.words_are) (λ packets are. let e = are.words_are in h (let same : word ≡ codes "gen" = cc in same))
    (λ e. cc) (λ e. t (let same : word ≡ codes "tap" = cc in same))
  where
    no_run : (n : ℕ) → (word ∷ second ∷ [] ≡ apart_words n) ⊎ ((word ∷ second ∷ [] ≡ joined_words n) ⊎ ((word ∷ second ∷ [] ≡ run_words) × (n ≡ DEFAULT_WORKERS))) → ⊥
    no_run n (inl e) = cc
    no_run n (inr (inl e)) = g (let same : word ≡ codes "run" = cc in same)
    no_run n (inr (inr e)) = let no = e.0 in cc

-- three words that don't begin with `run --workers`
pub other_option : (word option digits : List ℕ) → ((word ≡ codes "run") × (option ≡ codes "--workers") → ⊥) → command_of (word ∷ option ∷ digits ∷ []) ≡ Err Grammar
other_option word option digits h = of_none (word ∷ option ∷ digits ∷ []) (λ e. cc) (λ workers are. no_run workers are.words_are) (λ packets are. let e = are.words_are in cc) (λ e. cc) (λ e. cc)
  where
    no_run : (n : ℕ) → (word ∷ option ∷ digits ∷ [] ≡ apart_words n) ⊎ ((word ∷ option ∷ digits ∷ [] ≡ joined_words n) ⊎ ((word ∷ option ∷ digits ∷ [] ≡ run_words) × (n ≡ DEFAULT_WORKERS))) → ⊥
    no_run n (inl e) = h (cc, cc)
    no_run n (inr (inl e)) = cc
    no_run n (inr (inr e)) = let no = e.0 in cc

-- `gen` with a word that is no number in the range
pub no_number : (digits : List ℕ) → ((packets : ℕ) → ¬ AreGen packets (codes "gen" ∷ digits ∷ [])) → command_of (codes "gen" ∷ digits ∷ []) ≡ Err Grammar
no_number digits none_is = of_none (codes "gen" ∷ digits ∷ []) (λ e. cc) (λ workers are. no_run workers are.words_are) none_is (λ e. cc) (λ e. gen_not_tap (let heads : codes "gen" ≡ codes "tap" = cc in heads))
  where
    no_run : (n : ℕ) → (codes "gen" ∷ digits ∷ [] ≡ apart_words n) ⊎ ((codes "gen" ∷ digits ∷ [] ≡ joined_words n) ⊎ ((codes "gen" ∷ digits ∷ [] ≡ run_words) × (n ≡ DEFAULT_WORKERS))) → ⊥
    no_run n (inl e) = cc
    no_run n (inr (inl e)) = gen_not_run (let heads : codes "gen" ≡ codes "run" = cc in heads)
    no_run n (inr (inr e)) = let no = e.0 in cc

-- `tap` with another option than `--header`
pub no_header : (option : List ℕ) → option ≢ codes "--header" → command_of (codes "tap" ∷ option ∷ []) ≡ Err Grammar
no_header option h =
    of_none (codes "tap" ∷ option ∷ []) (λ e. cc) (λ workers are. no_run workers are.words_are) (λ packets are. let e = are.words_are in gen_not_tap (let heads : codes "gen" ≡ codes "tap" = cc in heads))
    (λ e. cc) (λ e. h (let same : option ≡ codes "--header" = cc in same))
  where
    no_run : (n : ℕ) → (codes "tap" ∷ option ∷ [] ≡ apart_words n) ⊎ ((codes "tap" ∷ option ∷ [] ≡ joined_words n) ⊎ ((codes "tap" ∷ option ∷ [] ≡ run_words) × (n ≡ DEFAULT_WORKERS))) → ⊥
    no_run n (inl e) = cc
    no_run n (inr (inl e)) = run_not_tap (let heads : codes "run" ≡ codes "tap" = cc in heads)
    no_run n (inr (inr e)) = let no = e.0 in cc

-- the words of `run --workers N`, and of `run --workers=N`
pub are_apart : (workers : ℕ) (digits : List ℕ) → 1 ≤ workers → workers ≤ MAX_WORKERS → digits ≡ decimal workers → AreRun workers (codes "run" ∷ codes "--workers" ∷ digits ∷ [])
are_apart workers digits low high is = record { least = low; most = high; words_are = inl (ap (λ (d : List ℕ). codes "run" ∷ codes "--workers" ∷ d ∷ []) is) }

pub are_joined : (workers : ℕ) (option digits : List ℕ) → option ≡ codes "--workers=" ++ digits → 1 ≤ workers → workers ≤ MAX_WORKERS → digits ≡ decimal workers → AreRun workers (codes "run" ∷ option ∷ [])
are_joined workers option digits parts low high is =
    record { least = low; most = high; words_are = inr (inl (ap (λ (o : List ℕ). codes "run" ∷ o ∷ []) (parts ∙ ap (λ (d : List ℕ). codes "--workers=" ++ d) is))) }

-- with another word in its place
pub no_workers : (digits : List ℕ) → ((workers : ℕ) → 1 ≤ workers → workers ≤ MAX_WORKERS → digits ≢ decimal workers) → command_of (codes "run" ∷ codes "--workers" ∷ digits ∷ []) ≡ Err Grammar
no_workers digits none_is = of_none (codes "run" ∷ codes "--workers" ∷ digits ∷ []) (λ e. cc) (λ workers are. no_run workers are.least are.most are.words_are) (λ packets are. let e = are.words_are in cc) (λ e. cc) (λ e. cc)
  where
    no_run : (n : ℕ) → 1 ≤ n → n ≤ MAX_WORKERS → (codes "run" ∷ codes "--workers" ∷ digits ∷ [] ≡ apart_words n) ⊎ ((codes "run" ∷ codes "--workers" ∷ digits ∷ [] ≡ joined_words n) ⊎ ((codes "run" ∷ codes "--workers" ∷ digits ∷ [] ≡ run_words) × (n ≡ DEFAULT_WORKERS)))
        → ⊥
    no_run n low high (inl e) = none_is n low high (let same : digits ≡ decimal n = cc in same)
    no_run n low high (inr (inl e)) = cc
    no_run n low high (inr (inr e)) = let no = e.0 in cc

pub no_option : (option : List ℕ) → ((workers : ℕ) → 1 ≤ workers → workers ≤ MAX_WORKERS → option ≢ codes "--workers=" ++ decimal workers) → command_of (codes "run" ∷ option ∷ []) ≡ Err Grammar
no_option option none_is =
    of_none (codes "run" ∷ option ∷ []) (λ e. cc) (λ workers are. no_run workers are.least are.most are.words_are) (λ packets are. let e = are.words_are in gen_not_run (let heads : codes "gen" ≡ codes "run" = cc in heads))
    (λ e. cc) (λ e. run_not_tap (let heads : codes "run" ≡ codes "tap" = cc in heads))
  where
    no_run : (n : ℕ) → 1 ≤ n → n ≤ MAX_WORKERS → (codes "run" ∷ option ∷ [] ≡ apart_words n) ⊎ ((codes "run" ∷ option ∷ [] ≡ joined_words n) ⊎ ((codes "run" ∷ option ∷ [] ≡ run_words) × (n ≡ DEFAULT_WORKERS))) → ⊥
    no_run n low high (inl e) = cc
    no_run n low high (inr (inl e)) = none_is n low high (let same : option ≡ codes "--workers=" ++ decimal n = cc in same)
    no_run n low high (inr (inr e)) = let no = e.0 in cc

pub no_digits : (option digits : List ℕ) → option ≡ codes "--workers=" ++ digits → ((workers : ℕ) → 1 ≤ workers → workers ≤ MAX_WORKERS → digits ≢ decimal workers) → command_of (codes "run" ∷ option ∷ []) ≡ Err Grammar
no_digits option digits parts none_is =
    no_option option (λ n low high e. none_is n low high (same_rest (codes "--workers=") digits (decimal n) (sym parts ∙ e)))

pub no_prefix : (option front : List ℕ) → front ≡ codes "--workers=" → ((rest : List ℕ) → option ≢ front ++ rest) → command_of (codes "run" ∷ option ∷ []) ≡ Err Grammar
no_prefix option front is none_is = no_option option (λ n low high e. none_is (decimal n) (e ∙ ap (λ (p : List ℕ). p ++ decimal n) (sym is)))

-- the digits of a number from 1 on: they are a decimal number, and that number is it
pub digits_are : (number : ℕ) (digits : List ℕ) → digits ≡ decimal number → 1 ≤ number → number < 2 ^ 64 → (is_decimal digits ≡ true) × (number_of digits ≡ number)
digits_are number digits e least small = (ap is_decimal e ∙ is_decimal-decimal number (omega (arith, least)) small, ap number_of e ∙ number_of-decimal number small)

-- the digits of `gen N`
pub is_number : (packets : ℕ) (digits : List ℕ) → AreGen packets (codes "gen" ∷ digits ∷ []) → (is_decimal digits ≡ true) × (number_of digits ≡ packets)
is_number packets digits are =
    let e = are.words_are in
    let same : digits ≡ decimal packets = cc in
    digits_are packets digits same are.least (omega (arith, are.most))

-- and the other way round
pub number_is : (packets : ℕ) (digits : List ℕ) → is_decimal digits ≡ true → number_of digits < 2 ^ 64 → packets ≡ number_of digits → 1 ≤ packets → packets ≤ MAX_PACKETS → AreGen packets (codes "gen" ∷ digits ∷ [])
number_is packets digits is small e low high = record {
  least = low;
  most = high;
  words_are = ap (λ (d : List ℕ). codes "gen" ∷ d ∷ []) (sym (ap decimal e ∙ decimal-number_of digits is small));
}

pub written : (number : ℕ) (digits : List ℕ) → is_decimal digits ≡ true → number_of digits < 2 ^ 64 → number ≡ number_of digits → digits ≡ decimal number
written number digits is small e = sym (ap decimal e ∙ decimal-number_of digits is small)

-- texts that were compared and are not the same
pub differs : (x y z : List ℕ) (t : Bool) → t ≡ bytes_eq x z → z ≡ y → t ≡ false → x ≢ y
differs x y z t test is no_same e = let same : bytes_eq x z ≡ true = (bytes_eq-Decides x z).1 (e ∙ sym is) in cc
