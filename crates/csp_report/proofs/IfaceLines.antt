-- The counts of an interface's log, entry by entry, and its lines, link by link.
use Rattle.std.proofs.Common.{◌≡◌, ℕ, zero, suc, ◌+◌, ◌<◌, ◌≤◌, Bool, true, false, cond, List, [], ◌∷◌, ◌++◌, map, take, drop, get_or, length, count_by, refl, sym, ap, ◌∙◌, add-one, drop-cons, append_assoc, arith}
use Rattle.std.proofs.lemmas.List.Sums.{sum_by-append, sum_by-cons}
use Rattle.std.specs.Prelude.{All, slice_get, slice_range}
use Rattle.std.specs.List.{enumerate_from}
use Rattle.std.specs.Option.{option_map_or}
use Rattle.csp_log.specs.Idling.{IsIdle}
use Rattle.csp_log.specs.declared.entry.Entry.{Entry}
use Rattle.csp_record.proofs.Public.{taken-over}
use Rattle.csp_scene.specs.Links.{touches, links_at}
use Rattle.csp_scene.specs.Scene.{PlainLink}
use Rattle.csp_report.specs.Lines.{Line, ended_line, text_of}

one-more : {X : Type 0} (p : X → Bool) (xs : List X) (k : ℕ) → count_by p (take (suc k) xs) ≡ count_by p (take k xs) + cond (option_map_or p (slice_get xs k) false) 1 0
one-more p [] zero = refl
one-more p [] (suc k) = refl
one-more {X} p (x ∷ xs) zero = omega (arith, sum_by-cons (λ (y : X). cond (p y) 1 0) x [])
one-more {X} p (x ∷ xs) (suc k) =
    omega (arith, one-more p xs k, sum_by-cons (λ (y : X). cond (p y) 1 0) x (take (suc k) xs), sum_by-cons (λ (y : X). cond (p y) 1 0) x (take k xs))

-- the count with the next entry
pub count-next : {X : Type 0} (p : X → Bool) (xs : List X) (k : ℕ) (b : Bool) → b ≡ option_map_or p (slice_get xs k) false → count_by p (take (k + 1) xs) ≡ count_by p (take k xs) + cond b 1 0
count-next p xs k b is = rw (add-one k, is) (one-more p xs k)

-- the count is the same where idle entries are passed over that fail the test
pub count-over : (p : Entry → Bool) → ((e : Entry) → IsIdle e → p e ≡ false) → (entries : List Entry) (i j : ℕ) → i ≤ j → All IsIdle (slice_range entries i j)
    → count_by p (take j entries) ≡ count_by p (take i entries)
count-over p fails = taken-over IsIdle (count_by p) (λ e entries idle.
    sum_by-append (λ (x : Entry). cond (p x) 1 0) entries (e ∷ [])
    ∙ omega (arith, sum_by-cons (λ (x : Entry). cond (p x) 1 0) e [], ap {B = ℕ} (λ b. cond b 1 0) (fails e idle)))

-- the lines of the links from one on
abbrev pub later_lines : (ℕ → PlainLink → Line) → ℕ → ℕ → List PlainLink → List ℕ
later_lines line place k links = text_of (map (λ link. line link.0 link.1) (enumerate_from k (links_at place links)))

from_link : (line : ℕ → PlainLink → Line) (place k i : ℕ) (links : List PlainLink) (x : PlainLink) → i < length links → x ≡ get_or links i x
    → later_lines line place k (drop i links) ≡ later_lines line place k (x ∷ drop (i + 1) links)
from_link line place k i links x within is = ap (later_lines line place k) (drop-cons links i x within ∙ ap (λ y. y ∷ drop (suc i) links) (sym is) ∙ ap (λ m. x ∷ drop m links) (sym (add-one i)))

-- a link that touches the node has its line
pub touching : (line : ℕ → PlainLink → Line) (place k i : ℕ) (links : List PlainLink) (x : PlainLink) (old new whole : List ℕ) → i < length links → x ≡ get_or links i x → touches place x ≡ true
    → old ++ later_lines line place k (drop i links) ≡ whole → new ≡ old ++ ended_line (line k x) → new ++ later_lines line place (k + 1) (drop (i + 1) links) ≡ whole
touching line place k i links x old new whole within is touch before pushed =
    let rest : List ℕ = later_lines line place (k + 1) (drop (i + 1) links) in
    let others : List PlainLink = links_at place (drop (i + 1) links) in
    let here : later_lines line place k (drop i links) ≡ ended_line (line k x) ++ rest = from_link line place k i links x within is ∙ ap (λ b. text_of (map (λ link. line link.0 link.1) (enumerate_from k (cond b (x ∷ others) others)))) touch in
    ap (λ t. t ++ rest) pushed ∙ append_assoc old (ended_line (line k x)) rest ∙ ap (λ t. old ++ t) (sym here) ∙ before

-- another has none
pub passing : (line : ℕ → PlainLink → Line) (place k i : ℕ) (links : List PlainLink) (x : PlainLink) (old whole : List ℕ) → i < length links → x ≡ get_or links i x → touches place x ≡ false
    → old ++ later_lines line place k (drop i links) ≡ whole → old ++ later_lines line place k (drop (i + 1) links) ≡ whole
passing line place k i links x old whole within is touch before =
    let others : List PlainLink = links_at place (drop (i + 1) links) in
    let here : later_lines line place k (drop i links) ≡ later_lines line place k (drop (i + 1) links) = from_link line place k i links x within is ∙ ap (λ b. text_of (map (λ link. line link.0 link.1) (enumerate_from k (cond b (x ∷ others) others)))) touch in
    ap (λ t. old ++ t) (sym here) ∙ before
