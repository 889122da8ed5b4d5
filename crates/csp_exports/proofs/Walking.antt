-- How a walk over a log, or over a script, goes on by one.
use Rattle.std.proofs.Common.{◌≡◌, ℕ, zero, suc, ◌+◌, ◌-◌, ◌<◌, ◌≤◌, ◌||◌, Bool, true, false, Some, List, [], ◌∷◌, ◌++◌, get_or, length, drop, refl, sym, ap, ◌∙◌, add-one, drop-cons, append_assoc, append-nil, arith}
use Rattle.std.proofs.lemmas.Grind.{flat_map-append}
use Rattle.std.proofs.lemmas.List.Concat.{flat_map-cons}
use Rattle.std.specs.List.{enumerate_from, flat_map, list_any, range_with_len}
use Rattle.std.specs.Option.{option_map_or}
use Rattle.std.specs.Prelude.{slice_get}
use Rattle.csp_log.specs.declared.places.End.{End}
use Rattle.csp_record.specs.Record.{PlainRecord}
use Rattle.csp_report.specs.Lines.{Line, ended_line, text_of}
use Rattle.csp_scene.specs.Scene.{PlainScene}
use Rattle.csp_exports.specs.Frames.{exported, written_by}
use Rattle.csp_exports.specs.Unused.{unused, unused_lines}
use Rattle.csp_exports.specs.declared.ends.Form.{Form}

-- what is made of an element, and then of those after it
next : {X A : Type 0} (f : X → List A) (xs : List X) (i : ℕ) → i < length xs → option_map_or f (slice_get xs i) [] ++ flat_map f (drop (suc i) xs) ≡ flat_map f (drop i xs)
next f [] i h = absurd (omega (arith, h))
next f (x ∷ xs) zero h = sym (flat_map-cons f x xs)
next f (x ∷ xs) (suc i) h = next f xs i (omega (arith, h))

-- the same of an element that is there
pub next_is : {X A : Type 0} (f : X → List A) (xs : List X) (i : ℕ) (x : X) → i < length xs → slice_get xs i ≡ Some x → f x ++ flat_map f (drop (i + 1) xs) ≡ flat_map f (drop i xs)
next_is f xs i x h is = rw (add-one i) (ap (λ o. option_map_or f o [] ++ flat_map f (drop (suc i) xs)) (sym is) ∙ next f xs i h)

-- one more is appended, and what is to come is that much less
pub appended : {X A : Type 0} (f : X → List A) (xs : List X) (i : ℕ) (x : X) (out more whole : List A) → i < length xs → slice_get xs i ≡ Some x → more ≡ out ++ f x → out ++ flat_map f (drop i xs) ≡ whole
    → more ++ flat_map f (drop (i + 1) xs) ≡ whole
appended f xs i x out more whole h is pushed before =
    ap (λ l. l ++ flat_map f (drop (i + 1) xs)) pushed ∙ append_assoc out (f x) (flat_map f (drop (i + 1) xs)) ∙ ap (λ l. out ++ l) (next_is f xs i x h is) ∙ before

-- the lines of a numbered element are appended, and those of the elements after it are to come
pub numbered : {X : Type 0} (f : ℕ × X → List Line) (xs : List X) (i : ℕ) (x : X) (out more whole : List ℕ) → i < length xs → x ≡ get_or xs i x → more ≡ out ++ text_of (f (i, x))
    → out ++ text_of (flat_map f (enumerate_from i (drop i xs))) ≡ whole → more ++ text_of (flat_map f (enumerate_from (i + 1) (drop (i + 1) xs))) ≡ whole
numbered f xs i x out more whole within is pushed before =
    let rest : List Line = flat_map f (enumerate_from (i + 1) (drop (i + 1) xs)) in
    let first : drop i xs ≡ x ∷ drop (i + 1) xs = drop-cons xs i x within ∙ ap (λ y. y ∷ drop (suc i) xs) (sym is) ∙ ap (λ m. x ∷ drop m xs) (sym (add-one i)) in
    let here : text_of (flat_map f (enumerate_from i (drop i xs))) ≡ text_of (f (i, x)) ++ text_of rest =
    ap (λ l. text_of (flat_map f (enumerate_from i l))) first ∙ ap text_of (flat_map-cons f (i, x) (enumerate_from (i + 1) (drop (i + 1) xs))) ∙ flat_map-append ended_line (f (i, x)) rest in
    ap (λ l. l ++ text_of rest) pushed ∙ append_assoc out (text_of (f (i, x))) (text_of rest) ∙ ap (λ l. out ++ l) (sym here) ∙ before

-- whether an element, or one after it, passes a test
one_or_later : {X : Type 0} (p : X → Bool) (xs : List X) (i : ℕ) → i < length xs → list_any p (drop i xs) ≡ (option_map_or p (slice_get xs i) false || list_any p (drop (suc i) xs))
one_or_later p [] i h = absurd (omega (arith, h))
one_or_later p (x ∷ xs) zero h = refl
one_or_later p (x ∷ xs) (suc i) h = one_or_later p xs i (omega (arith, h))

-- where it does, one of all does
pub found : {X : Type 0} (p : X → Bool) (xs : List X) (i : ℕ) (b answer : Bool) → i < length xs → b ≡ option_map_or p (slice_get xs i) false → b ≡ true → list_any p (drop i xs) ≡ answer → answer ≡ true
found p xs i b answer h is passes before = sym before ∙ one_or_later p xs i h ∙ ap (λ c. c || list_any p (drop (suc i) xs)) (sym is ∙ passes)

-- where it doesn't, those after it settle it
pub passed : {X : Type 0} (p : X → Bool) (xs : List X) (i : ℕ) (b answer : Bool) → i < length xs → b ≡ option_map_or p (slice_get xs i) false → b ≡ false → list_any p (drop i xs) ≡ answer → list_any p (drop (i + 1) xs) ≡ answer
passed p xs i b answer h is fails before = rw (add-one i) (sym (ap (λ c. c || list_any p (drop (suc i) xs)) (sym is ∙ fails)) ∙ sym (one_or_later p xs i h) ∙ before)

-- the lines of a port, and then of those after it
pub port_on : (f : ℕ → List Line) (port count : ℕ) (out more whole : List ℕ) → port < count → more ≡ out ++ text_of (f port) → out ++ text_of (flat_map f (range_with_len port (count - port))) ≡ whole
    → more ++ text_of (flat_map f (range_with_len (port + 1) (count - (port + 1)))) ≡ whole
port_on f port count out more whole h pushed before =
    let rest : List Line = flat_map f (range_with_len (port + 1) (count - (port + 1))) in
    let one_more : count - port ≡ suc (count - (port + 1)) = omega arith in
    let here : text_of (flat_map f (range_with_len port (count - port))) ≡ text_of (f port) ++ text_of rest =
    ap (λ n. text_of (flat_map f (range_with_len port n))) one_more ∙ ap text_of (flat_map-cons f port (range_with_len (port + 1) (count - (port + 1)))) ∙ flat_map-append ended_line (f port) rest in
    ap (λ l. l ++ text_of rest) pushed ∙ append_assoc out (text_of (f port)) (text_of rest) ∙ ap (λ l. out ++ l) (sym here) ∙ before

-- after the last port nothing is to come
pub ports_done : (f : ℕ → List Line) (port count : ℕ) (out whole : List ℕ) → count ≤ port → out ++ text_of (flat_map f (range_with_len port (count - port))) ≡ whole → out ≡ whole
ports_done f port count out whole h before =
    let none : 0 ≡ count - port = omega arith in
    sym (append-nil out) ∙ ap (λ n. out ++ text_of (flat_map f (range_with_len port n))) none ∙ before

-- a line and the lines of three kinds, one kind after the other
pub in_turn : (title : Line) (faults nodes sockets : List Line) (before first second third fourth : List ℕ) → first ≡ before ++ ended_line title → second ≡ first ++ text_of faults → third ≡ second ++ text_of nodes → fourth ≡ third ++ text_of sockets
    → fourth ≡ before ++ text_of ((title ∷ []) ++ faults ++ nodes ++ sockets)
in_turn title faults nodes sockets before first second third fourth e f g h =
    let t : List ℕ = ended_line title in
    let a : List ℕ = text_of faults in
    let b : List ℕ = text_of nodes in
    let c : List ℕ = text_of sockets in
    let all : text_of ((title ∷ []) ++ faults ++ nodes ++ sockets) ≡ t ++ ((a ++ b) ++ c) =
    flat_map-cons ended_line title (faults ++ nodes ++ sockets) ∙ ap (λ l. t ++ l) (flat_map-append ended_line (faults ++ nodes) sockets ∙ ap (λ l. l ++ c) (flat_map-append ended_line faults nodes)) in
    h ∙ ap (λ l. l ++ c) g ∙ ap (λ l. (l ++ b) ++ c) f ∙ ap (λ l. ((l ++ a) ++ b) ++ c) e
    ∙ ap (λ l. l ++ c) (append_assoc (before ++ t) a b) ∙ append_assoc (before ++ t) (a ++ b) c ∙ append_assoc before t ((a ++ b) ++ c) ∙ ap (λ l. before ++ l) (sym all)

-- the two texts, opened
pub unused_is : (scene : PlainScene) (run : PlainRecord) → unused scene run ≡ text_of (unused_lines scene.nodes scene.links run.parties)
unfolding unused
unused_is scene run = refl

pub exported_is : (which : Form) (name : List ℕ) (end : End) (run : PlainRecord) → exported which name end run ≡ flat_map (written_by which name end) run.parties
unfolding exported
exported_is which name end run = refl
