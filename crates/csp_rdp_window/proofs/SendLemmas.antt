-- the send window
use Rattle.std.proofs.Common.{◌≡◌, ℕ, zero, suc, ◌+◌, ◌-◌, ◌<◌, ◌≤◌, Bool, true, false, not, cond, ◌&&◌, ◌||◌, List, [], ◌∷◌, ◌++◌, length, take, drop, get_or, map, Option, Some, None, arith, ap, sym, ◌∙◌, refl, append-nil}
use Rattle.std.specs.List.{cons_option, find, list_any, slice_set}
use Rattle.std.specs.Option.{option_map, option_to_list}
use Rattle.std.specs.Prelude.{◌==◌, if◌then◌else◌, fold, max}
use Rattle.std.proofs.lemmas.Bool.{ltb-true}
use Rattle.std.proofs.lemmas.List.{length-drop, map-append}
use Rattle.std.proofs.lemmas.List.Elements.{filter_map-append}
use Rattle.csp_base.specs.declared.sequence.Seq.{Seq}
use Rattle.csp_buffer.specs.PlainBuffer.{PlainBuffer}
use Rattle.csp_rdp_window.specs.Numbers.{times, number_in}
use Rattle.csp_rdp_window.specs.Places.{ArePlaced, held_in}
use Rattle.csp_rdp_window.specs.Sending.{PlainSend, admitted, fresh, is_due, is_loose, listed, listed_at, marked, needed_if, newest_of, send_numbers, with_mark, without_listed, without_loose}
use Rattle.csp_rdp_window.specs.Shown.{shown}
use Rattle.csp_rdp_window.specs.declared.pending.Mark.{Mark}
use Rattle.csp_rdp_window.specs.declared.pending.Mark.TheVariants.{Acknowledged, Listed, Abandoned, Sent, Missed}
use Rattle.csp_rdp_window.specs.declared.pending.Pending.{Pending}
use Rattle.csp_rdp_window.proofs.CountLemmas.{times-append, times-cons}
use Rattle.csp_rdp_window.proofs.PlaceLemmas.{take-item}

-- ---- admission

none-of : {A B : Type 0} (f : A → B) (o : Option A) → option_map f o ≡ None → o ≡ None
none-of f None e = refl
none-of f (Some x) e = cc

-- with nothing loose and fewer packets unacknowledged than places, the first place is empty
pub first-empty : (una nxt : ℕ) (places : List (Option Pending)) (d : Option Pending) → ArePlaced una nxt places → length places ≡ 20 → nxt - una < 20 →
    option_map (λ p. p.buffer) (find is_loose (held_in places)) ≡ None → get_or places 0 d ≡ None
first-empty una nxt [] d placed len few none = absurd (omega arith)
first-empty una nxt (None ∷ places) d placed len few none = refl
first-empty una nxt (Some p ∷ places) d placed len few none = absurd (go p.needed refl (none-of _ _ none))
  where
    go : (b : Bool) → p.needed ≡ b → cond (not b) (Some p) (find is_loose (held_in places)) ≡ None → ⊥
    go true e f = let low = placed.1 e in let at = placed.0 in omega arith
    go false e f = cc

set-end : {X : Type 0} (xs : List X) (y v : X) (n : ℕ) → n ≡ length xs → slice_set (xs ++ y ∷ []) n v ≡ xs ++ v ∷ []
set-end [] y v zero e = refl
set-end [] y v (suc n) e = absurd (omega arith)
set-end (x ∷ xs) y v zero e = absurd (omega arith)
set-end (x ∷ xs) y v (suc n) e = ap (λ l. x ∷ l) (set-end xs y v n (omega arith))

-- the places move on by one, and the last gets another
pub last-put : {X : Type 0} (places : List X) (v : X) → length places ≡ 20 → slice_set (drop 1 places ++ take 1 places) 19 v ≡ drop 1 places ++ v ∷ []
last-put [] v len = absurd (omega arith)
last-put (y ∷ places) v len = set-end places y v 19 (omega arith)

get-end : {X : Type 0} (xs : List X) (y d : X) (n : ℕ) → n ≡ length xs → get_or (xs ++ y ∷ []) n d ≡ y
get-end [] y d zero e = refl
get-end [] y d (suc n) e = absurd (omega arith)
get-end (x ∷ xs) y d zero e = absurd (omega arith)
get-end (x ∷ xs) y d (suc n) e = get-end xs y d n (omega arith)

-- the last is then what the first was
pub last-first : {X : Type 0} (places : List X) (d e : X) → length places ≡ 20 → get_or (drop 1 places ++ take 1 places) 19 d ≡ get_or places 0 e
last-first [] d e len = absurd (omega arith)
last-first (y ∷ places) d e len = get-end places y d 19 (omega arith)

-- an empty first place holds nothing
pub held_in-rest : {T : Type 0} (places : List (Option T)) (d : Option T) → get_or places 0 d ≡ None → held_in (drop 1 places) ≡ held_in places
held_in-rest [] d e = refl
held_in-rest (None ∷ places) d e = refl
held_in-rest (Some x ∷ places) d e = cc

pub ArePlaced-rest : (una t : ℕ) (places : List (Option Pending)) (d : Option Pending) → ArePlaced una t places → get_or places 0 d ≡ None → ArePlaced una (t + 1) (drop 1 places)
ArePlaced-rest una t [] d placed e = tt
ArePlaced-rest una t (None ∷ places) d placed e = placed
ArePlaced-rest una t (Some x ∷ places) d placed e = cc

pub ArePlaced-more : (una t : ℕ) (places : List (Option Pending)) (p : Pending) → ArePlaced una t places → p.index + 20 ≡ t + length places → una ≤ p.index →
    ArePlaced una t (places ++ Some p ∷ [])
ArePlaced-more una t [] p placed at low = (omega arith, (λ _. low), tt)
ArePlaced-more una t (None ∷ places) p placed at low = ArePlaced-more una (t + 1) places p placed (omega arith) low
ArePlaced-more una t (Some q ∷ places) p placed at low = (placed.0, placed.1, ArePlaced-more una (t + 1) places p placed.2 (omega arith) low)

-- ---- marks

if-eq : {A : Type 0} (b : Bool) (f : A → ℕ) (x y : A) → f x ≡ f y → f (if b then x else y) ≡ f y
if-eq true f x y e = e
if-eq false f x y e = refl

-- a mark leaves the index
pub marked-index : (m : Mark) (p : Pending) → (marked m p).index ≡ p.index
marked-index (Acknowledged last) p = refl
marked-index (Listed index) p = refl
marked-index Abandoned p = refl
marked-index (Sent index time) p = if-eq (p.index == index) (λ q. q.index) _ p refl
marked-index (Missed newest time timeout) p = if-eq _ (λ q. q.index) _ p refl

both-left : (a b : Bool) → (a && b) ≡ true → a ≡ true
both-left true b e = refl
both-left false b e = cc

both-right : (a b : Bool) → (a && b) ≡ true → b ≡ true
both-right true b e = e
both-right false b e = cc

if-needed : (b : Bool) (x y : Pending) → x.needed ≡ y.needed → (if b then x else y).needed ≡ y.needed
if-needed true x y e = e
if-needed false x y e = refl

-- and what it leaves needed was needed
pub marked-needed : (m : Mark) (p : Pending) → (marked m p).needed ≡ true → p.needed ≡ true
marked-needed (Acknowledged last) p e = both-left _ _ e
marked-needed (Listed index) p e = both-left _ _ e
marked-needed Abandoned p e = cc
marked-needed (Sent index time) p e = sym (if-needed (p.index == index) _ p refl) ∙ e
marked-needed (Missed newest time timeout) p e = sym (if-needed _ _ p refl) ∙ e

pub ArePlaced-marked : (m : Mark) (una t : ℕ) (places : List (Option Pending)) → ArePlaced una t places → ArePlaced una t (map (option_map (marked m)) places)
ArePlaced-marked m una t [] placed = tt
ArePlaced-marked m una t (None ∷ places) placed = ArePlaced-marked m una (t + 1) places placed
ArePlaced-marked m una t (Some p ∷ places) placed =
    let same = marked-index m p in (
      ap (λ i. i + 20) same ∙ placed.0,
      (λ e. let low = placed.1 (marked-needed m p e) in omega arith),
      ArePlaced-marked m una (t + 1) places placed.2,
    )

-- ---- acknowledgement

-- what is needed after it is later
abbrev pub AreLater : ℕ → List Pending → Type 0
AreLater last [] = Unit {0}
AreLater last (p ∷ ps) = (p.needed ≡ true → last + 1 ≤ p.index) × AreLater last ps

pub acked-later : (last : ℕ) (ps : List Pending) → AreLater last (map (marked (Acknowledged last)) ps)
acked-later last [] = tt
acked-later last (p ∷ ps) = ((λ e. let later = ltb-true last p.index (both-right p.needed _ e) in omega arith), acked-later last ps)

pub ArePlaced-raised : (una last t : ℕ) (places : List (Option Pending)) → ArePlaced una t places → AreLater last (held_in places) → ArePlaced (last + 1) t places
ArePlaced-raised una last t [] placed later = tt
ArePlaced-raised una last t (None ∷ places) placed later = ArePlaced-raised una last (t + 1) places placed later
ArePlaced-raised una last t (Some p ∷ places) placed later = (placed.0, later.0, ArePlaced-raised una last (t + 1) places placed.2 later.1)

-- ---- lists

-- needed as before
and-true : (b : Bool) → (b && true) ≡ b
and-true true = refl
and-true false = refl

needed_if-same : (p : Pending) → needed_if true p ≡ p
needed_if-same p = let with_needed : Bool → Pending = λ b. record p { needed = b } in ap with_needed (and-true p.needed)

pub needed_if-true : (ps : List Pending) → map (needed_if true) ps ≡ ps
needed_if-true [] = refl
needed_if-true (p ∷ ps) = ap (λ q. q ∷ map (needed_if true) ps) (needed_if-same p) ∙ ap (λ l. p ∷ l) (needed_if-true ps)

-- ---- what is handed out

pub times-without_loose : (k : ℕ) (ps : List Pending) →
    times k (map (λ p. p.buffer.picture.number) (without_loose ps)) + times k (number_in (option_map (λ p. p.buffer) (find is_loose ps))) ≡ times k (map (λ p. p.buffer.picture.number) ps)
times-without_loose k [] = refl
times-without_loose k (p ∷ ps) = go p.needed (times-without_loose k ps)
  where
    go : (b : Bool) → times k (map (λ q. q.buffer.picture.number) (without_loose ps)) + times k (number_in (option_map (λ q. q.buffer) (find is_loose ps))) ≡ times k (map (λ q. q.buffer.picture.number) ps) →
        times k (map (λ q. q.buffer.picture.number) (if b then p ∷ without_loose ps else ps)) + times k (number_in (option_map (λ q. q.buffer) (cond (not b) (Some p) (find is_loose ps))))
        ≡ times k (p.buffer.picture.number ∷ map (λ q. q.buffer.picture.number) ps)
    go true e =
        let rest = times-cons k p.buffer.picture.number (map (λ q. q.buffer.picture.number) (without_loose ps)) in
        let all = times-cons k p.buffer.picture.number (map (λ q. q.buffer.picture.number) ps) in
        omega (arith, rest, all, e)
    go false e =
        let one = times-cons k p.buffer.picture.number [] in
        let all = times-cons k p.buffer.picture.number (map (λ q. q.buffer.picture.number) ps) in
        omega (arith, one, all)

pub times-drained : (k : ℕ) (ps qs : List Pending) (o : Option Pending) (b : Option PlainBuffer) → qs ≡ without_loose ps → o ≡ find is_loose ps →
    b ≡ option_map (λ p. p.buffer) o → times k (map (λ p. p.buffer.picture.number) qs) + times k (number_in b) ≡ times k (map (λ p. p.buffer.picture.number) ps)
times-drained k ps qs o b e f g =
    let handed : b ≡ option_map (λ p. p.buffer) (find is_loose ps) = g ∙ ap (option_map (λ p. p.buffer)) f in
    ap (λ l. times k (map (λ p. p.buffer.picture.number) l) + times k (number_in b)) e
    ∙ ap (λ o. times k (map (λ p. p.buffer.picture.number) (without_loose ps)) + times k (number_in o)) handed
    ∙ times-without_loose k ps

-- ---- what a window is seen as

abbrev pub seen : ℕ → ℕ → ℕ → ℕ → List Pending → PlainSend
seen start window una nxt packets = record { start = start; window = window; una = una; nxt = nxt; packets = packets }

pub same-seen : (start window una nxt : ℕ) (ps qs : List Pending) → ps ≡ qs → seen start window una nxt ps ≡ seen start window una nxt qs
same-seen start window una nxt ps qs e = ap (seen start window una nxt) e

-- ---- listed packets

fold-max-more : (a : ℕ) (ts : List ℕ) (t : ℕ) → fold max a (ts ++ t ∷ []) ≡ max (fold max a ts) t
fold-max-more a [] t = refl
fold-max-more a (s ∷ ts) t = fold-max-more (max a s) ts t

or-false : (b : Bool) → (b || false) ≡ b
or-false true = refl
or-false false = refl

any-more : (i : ℕ) (ts : List ℕ) (t : ℕ) → list_any (λ s. s == i) (ts ++ t ∷ []) ≡ list_any (λ s. s == i) ts || (t == i)
any-more i [] t = or-false (t == i)
any-more i (s ∷ ts) t = go (s == i) (any-more i ts t)
  where
    go : (b : Bool) → list_any (λ x. x == i) (ts ++ t ∷ []) ≡ list_any (λ x. x == i) ts || (t == i) → (b || list_any (λ x. x == i) (ts ++ t ∷ [])) ≡ (b || list_any (λ x. x == i) ts) || (t == i)
    go true e = refl
    go false e = e

and-both : (n a b : Bool) → (n && not (a || b)) ≡ (n && not a) && not b
and-both false a b = refl
and-both true false b = refl
and-both true true b = refl

-- one more listed index
without-step : (ts : List ℕ) (t : ℕ) (ps : List Pending) →
    map (λ p. needed_if (not (list_any (λ s. s == p.index) (ts ++ t ∷ []))) p) ps ≡ map (marked (Listed t)) (map (λ p. needed_if (not (list_any (λ s. s == p.index) ts)) p) ps)
without-step ts t [] = refl
without-step ts t (p ∷ ps) =
    let with_needed : Bool → Pending = λ b. record p { needed = b } in
    let same = ap (λ b. with_needed (p.needed && not b)) (any-more p.index ts t) ∙ ap with_needed (and-both p.needed (list_any (λ s. s == p.index) ts) (t == p.index)) in
    ap (λ q. q ∷ map (λ x. needed_if (not (list_any (λ s. s == x.index) (ts ++ t ∷ []))) x) ps) same
    ∙ ap (λ l. needed_if (not (t == p.index)) (needed_if (not (list_any (λ s. s == p.index) ts)) p) ∷ l) (without-step ts t ps)

listed-more : (w : PlainSend) (ns : List Seq) (i : ℕ) (n : Seq) → i < length ns → n ≡ get_or ns i n →
    listed w (take (i + 1) ns) ≡ listed w (take i ns) ++ option_to_list (listed_at w (shown n.0 w.start w.una))
listed-more w ns i n h e =
    ap (listed w) (take-item ns i n h e) ∙ filter_map-append _ (take i ns) (n ∷ []) ∙ ap (λ l. listed w (take i ns) ++ l) (one (listed_at w (shown n.0 w.start w.una)))
  where
    one : (o : Option ℕ) → cons_option o [] ≡ option_to_list o
    one None = refl
    one (Some t) = refl

-- a loop over the listed numbers: what it has found so far
pub listed-some : (w s more : PlainSend) (ns : List Seq) (i : ℕ) (n : Seq) (newest later t : ℕ) → i < length ns → n ≡ get_or ns i n →
    newest ≡ newest_of (listed w (take i ns)) → s ≡ without_listed (listed w (take i ns)) w →
    Some t ≡ listed_at s (shown n.0 s.start s.una) → more ≡ with_mark (Listed t) s → later ≡ max newest t →
    (later ≡ newest_of (listed w (take (i + 1) ns))) × (more ≡ without_listed (listed w (take (i + 1) ns)) w)
listed-some w s more ns i n newest later t h e f g found m l =
    let ts = listed w (take i ns) in
    let at : listed_at w (shown n.0 w.start w.una) ≡ Some t = sym (ap (λ v. listed_at v (shown n.0 v.start v.una)) g) ∙ sym found in
    let all : listed w (take (i + 1) ns) ≡ ts ++ t ∷ [] = listed-more w ns i n h e ∙ ap (λ o. ts ++ option_to_list o) at in (
      l ∙ ap (λ m. max m t) f ∙ sym (fold-max-more 0 ts t) ∙ ap newest_of (sym all),
      m ∙ ap (with_mark (Listed t)) g
          ∙ sym (same-seen w.start w.window w.una w.nxt _ _ (without-step ts t w.packets))
          ∙ ap (λ l. without_listed l w) (sym all),
    )

pub listed-none : (w s : PlainSend) (ns : List Seq) (i : ℕ) (n : Seq) (newest : ℕ) → i < length ns → n ≡ get_or ns i n →
    newest ≡ newest_of (listed w (take i ns)) → s ≡ without_listed (listed w (take i ns)) w →
    None ≡ listed_at s (shown n.0 s.start s.una) →
    (newest ≡ newest_of (listed w (take (i + 1) ns))) × (s ≡ without_listed (listed w (take (i + 1) ns)) w)
listed-none w s ns i n newest h e f g found =
    let ts = listed w (take i ns) in
    let at : listed_at w (shown n.0 w.start w.una) ≡ None = sym (ap (λ v. listed_at v (shown n.0 v.start v.una)) g) ∙ sym found in
    let all : listed w (take (i + 1) ns) ≡ ts = listed-more w ns i n h e ∙ ap (λ o. ts ++ option_to_list o) at ∙ append-nil ts in
    (f ∙ ap newest_of (sym all), g ∙ ap (λ l. without_listed l w) (sym all))

-- the places of a window with one packet more
pub ArePlaced-admitted : (una nxt : ℕ) (places : List (Option Pending)) (b : PlainBuffer) → ArePlaced una nxt places → length places ≡ 20 → una ≤ nxt →
    get_or places 0 None ≡ None → ArePlaced una (nxt + 1) (drop 1 places ++ Some (fresh nxt b) ∷ [])
ArePlaced-admitted una nxt places b placed len low empty =
    ArePlaced-more una (nxt + 1) (drop 1 places) (fresh nxt b) (ArePlaced-rest una nxt places None placed empty) (omega (arith, length-drop 1 places)) low

-- a mark leaves the buffer
marked-number : (m : Mark) (p : Pending) → (marked m p).buffer.picture.number ≡ p.buffer.picture.number
marked-number (Acknowledged last) p = refl
marked-number (Listed index) p = refl
marked-number Abandoned p = refl
marked-number (Sent index time) p = if-eq (p.index == index) (λ q. q.buffer.picture.number) _ p refl
marked-number (Missed newest time timeout) p = if-eq _ (λ q. q.buffer.picture.number) _ p refl

pub numbers-marked : (m : Mark) (w : PlainSend) → send_numbers (with_mark m w) ≡ send_numbers w
numbers-marked m w = go w.packets
  where
    go : (ps : List Pending) → map (λ p. p.buffer.picture.number) (map (marked m) ps) ≡ map (λ p. p.buffer.picture.number) ps
    go [] = refl
    go (p ∷ ps) = ap (λ n. n ∷ map (λ q. q.buffer.picture.number) (map (marked m) ps)) (marked-number m p) ∙ ap (λ l. p.buffer.picture.number ∷ l) (go ps)

pub numbers-listed : (ts : List ℕ) (w : PlainSend) → send_numbers (without_listed ts w) ≡ send_numbers w
numbers-listed ts w = go w.packets
  where
    go : (ps : List Pending) → map (λ p. p.buffer.picture.number) (map (λ p. needed_if (not (list_any (λ t. t == p.index) ts)) p) ps) ≡ map (λ p. p.buffer.picture.number) ps
    go [] = refl
    go (p ∷ ps) = ap (λ l. p.buffer.picture.number ∷ l) (go ps)

pub times-admitted : (k : ℕ) (b : PlainBuffer) (w : PlainSend) → times k (send_numbers (admitted b w)) ≡ times k (send_numbers w) + times k (b.picture.number ∷ [])
times-admitted k b w = ap (times k) (map-append (λ p. p.buffer.picture.number) w.packets (fresh w.nxt b ∷ [])) ∙ times-append k (send_numbers w) (b.picture.number ∷ [])

-- ---- what is due

-- with all packets acknowledged none is due
pub none-due : (una nxt time timeout : ℕ) (places : List (Option Pending)) → ArePlaced una nxt places → nxt + length places ≤ una + 20 → find (is_due time timeout) (held_in places) ≡ None
none-due una nxt time timeout [] placed few = refl
none-due una nxt time timeout (None ∷ places) placed few = none-due una (nxt + 1) time timeout places placed (omega arith)
none-due una nxt time timeout (Some p ∷ places) placed few = go p.needed refl (none-due una (nxt + 1) time timeout places placed.2 (omega arith))
  where
    go : (b : Bool) → p.needed ≡ b → find (is_due time timeout) (held_in places) ≡ None → find (is_due time timeout) (p ∷ held_in places) ≡ None
    go true e rest = let low = placed.1 e in let at = placed.0 in absurd (omega arith)
    go false e rest = rw e rest
