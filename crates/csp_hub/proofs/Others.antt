-- a frame that is held for every end but one
use Rattle.std.proofs.Common.{◌≡◌, ℕ, zero, suc, ◌+◌, ◌-◌, ◌*◌, ◌<◌, ◌≤◌, Bool, true, false, ◌&&◌, List, [], ◌∷◌, ◌++◌, map, take, drop, length, get_or, refl, sym, ap, ◌∙◌, subst, arith}
use Rattle.std.specs.Prelude.{replicate, if◌then◌else◌}
use Rattle.std.specs.List.{list_all, remove}
use Rattle.std.proofs.lemmas.Bool.{leb-true}
use Rattle.std.proofs.lemmas.List.{append-nil, drop_all, length-drop, length-take, take_rest}
use Rattle.std.proofs.lemmas.List.Folds.{list_all-append}
use Rattle.csp_hub.specs.PlainHub.{PlainEnd}
use Rattle.csp_hub.specs.Planning.{has_room}
use Rattle.csp_hub.specs.Stocking.{copy_count, less}
use Rattle.csp_hub.specs.Telling.{copies_held, held_for_others}
use Rattle.csp_link.specs.Copies.{damaged, held_copies, held_until}
use Rattle.csp_link.specs.declared.fates.Fate.{Fate}
use Rattle.csp_link.specs.declared.held.Held.{Held}
use Rattle.csp_link.specs.declared.held.TheConstants.{MOST_HELD}
use Rattle.csp_log.specs.PlainSpares.{PlainSpares}
use Rattle.csp_log.specs.declared.frame.Frame.{Frame}

-- ---- the ends before the one that the frame comes from, and those after it

-- held for those before it and then for those after it, copies are held for every other
before_and_after : (from : ℕ) (copies : List Held) (es : List PlainEnd) → from < length es
    → take (suc from) (map (copies_held copies) (take from es) ++ drop from es) ++ map (copies_held copies) (drop (suc from) es) ≡ held_for_others from copies es
before_and_after from copies [] within = absurd (omega arith)
before_and_after zero copies (e ∷ es) within = refl
before_and_after (suc from) copies (e ∷ es) within = ap (λ xs. copies_held copies e ∷ xs) (before_and_after from copies es (omega arith))

-- those after it are as they were
after_same : (from : ℕ) (f : PlainEnd → PlainEnd) (es : List PlainEnd) → from < length es → drop (suc from) (map f (take from es) ++ drop from es) ≡ drop (suc from) es
after_same from f [] within = absurd (omega arith)
after_same zero f (e ∷ es) within = refl
after_same (suc from) f (e ∷ es) within = after_same from f es (omega arith)

-- the part of a slice that holds them
pub part_after : (from : ℕ) (f : PlainEnd → PlainEnd) (es xs : List PlainEnd) → from < length es → xs ≡ map f (take from es)
    → take (length (xs ++ drop from es) - (from + 1)) (drop (from + 1) (xs ++ drop from es)) ≡ drop (suc from) es
part_after from f es xs within is =
    take_rest (xs ++ drop from es) (from + 1)
    ∙ (let next : from + 1 ≡ suc from = omega arith in ap (λ k. drop k (xs ++ drop from es)) next)
    ∙ ap (λ ys. drop (suc from) (ys ++ drop from es)) is
    ∙ after_same from f es within

-- the whole slice once copies are held for both parts
pub held_by_parts : (from : ℕ) (copies : List Held) (es xs ys : List PlainEnd) → from < length es → xs ≡ map (copies_held copies) (take from es)
    → ys ≡ map (copies_held copies) (take (length (xs ++ drop from es) - (from + 1)) (drop (from + 1) (xs ++ drop from es)))
    → take (from + 1) (xs ++ drop from es) ++ (ys ++ drop (length (xs ++ drop from es) - (from + 1)) (drop (from + 1) (xs ++ drop from es))) ≡ held_for_others from copies es
held_by_parts from copies es xs ys within before after =
    let all : List PlainEnd = xs ++ drop from es in
    let none : drop (length all - (from + 1)) (drop (from + 1) all) ≡ [] =
    (let long = length-drop (from + 1) all in drop_all (length all - (from + 1)) (drop (from + 1) all) (omega (arith, long))) in
    let next : from + 1 ≡ suc from = omega arith in
    ap (λ zs. take (from + 1) all ++ (ys ++ zs)) none
    ∙ ap (λ zs. take (from + 1) all ++ zs) (append-nil ys)
    ∙ ap (λ k. take k all ++ ys) next
    ∙ ap (λ zs. take (suc from) all ++ zs) (after ∙ ap (map (copies_held copies)) (part_after from (copies_held copies) es xs within before))
    ∙ ap (λ zs. take (suc from) (zs ++ drop from es) ++ map (copies_held copies) (drop (suc from) es)) before
    ∙ before_and_after from copies es within

-- ---- room

pub both : (a b : Bool) → (a && b) ≡ true → (a ≡ true) × (b ≡ true)
both true b e = (refl, e)
both false b e = absurd cc

-- there is room at those before it and at those after it
parts_room : (from : ℕ) (es : List PlainEnd) → list_all has_room (remove es from) ≡ true → (list_all has_room (take from es) ≡ true) × (list_all has_room (drop (suc from) es) ≡ true)
parts_room from es all = both (list_all has_room (take from es)) (list_all has_room (drop (suc from) es)) (sym (list_all-append has_room (take from es) (drop (suc from) es)) ∙ all)

pub room_before : (from : ℕ) (es : List PlainEnd) → list_all has_room (remove es from) ≡ true → list_all has_room (take from es) ≡ true
room_before from es all = (parts_room from es all).0

pub room_after : (from : ℕ) (es : List PlainEnd) → list_all has_room (remove es from) ≡ true → list_all has_room (drop (suc from) es) ≡ true
room_after from es all = (parts_room from es all).1

-- and so at each of them
room_at : (i : ℕ) (es : List PlainEnd) (d : PlainEnd) → list_all has_room es ≡ true → i < length es → has_room (get_or es i d) ≡ true
room_at i [] d all within = absurd (omega arith)
room_at zero (e ∷ es) d all within = (both (has_room e) (list_all has_room es) all).0
room_at (suc i) (e ∷ es) d all within = room_at i es d (both (has_room e) (list_all has_room es) all).1 (omega arith)

-- the end whose turn comes in a pass over them is as it was
at_turn : (f : PlainEnd → PlainEnd) (i : ℕ) (es : List PlainEnd) (d : PlainEnd) → i < length es → get_or (map f (take i es) ++ drop i es) i d ≡ get_or es i d
at_turn f i [] d within = absurd (omega arith)
at_turn f zero (e ∷ es) d within = refl
at_turn f (suc i) (e ∷ es) d within = at_turn f i es d (omega arith)

pub room_in_turn : (f : PlainEnd → PlainEnd) (i : ℕ) (es xs : List PlainEnd) (d : PlainEnd) → list_all has_room es ≡ true → i < length es → xs ≡ map f (take i es) ++ drop i es
    → length (get_or xs i d).held ≤ MOST_HELD
room_in_turn f i es xs d all within is =
    subst (λ (e : PlainEnd). length e.held ≤ MOST_HELD) (sym (ap (λ ys. get_or ys i d) is ∙ at_turn f i es d within))
    (leb-true (length (get_or es i d).held) MOST_HELD (room_at i es d all within))

-- ---- the copies, and their boxes

held_alike : (due n : ℕ) (f : Frame) → replicate n (held_until due f) ≡ map (held_until due) (replicate n f)
held_alike due zero f = refl
held_alike due (suc n) f = ap (λ hs. held_until due f ∷ hs) (held_alike due n f)

by_count : (lost : Bool) (n due : ℕ) (f : Frame) → replicate (if lost then 0 else n) (held_until due f) ≡ map (held_until due) (if lost then [] else replicate n f)
by_count true n due f = refl
by_count false n due f = held_alike due n f

-- so many copies, each due then, are what a fate makes of a frame
pub copies_made : (fate : Fate) (now count rounds : ℕ) (frame made : Frame) → count ≡ copy_count fate → rounds ≡ fate.delay → made ≡ damaged fate.flip frame
    → replicate count (held_until (now + rounds) made) ≡ held_copies fate now frame
copies_made fate now count rounds frame made many late is =
    (λ i. replicate (many i) (held_until (now + late i) (is i))) ∙ by_count fate.lost (fate.repeats + 1) (now + fate.delay) (damaged fate.flip frame)

-- boxes that are taken twice
pub less_twice : (a b c : ℕ) (s : PlainSpares) → c ≡ a + b → less b (less a s) ≡ less c s
less_twice a b c s is = let boxes : s.boxes - a - b ≡ s.boxes - c = omega (arith, is) in ap (λ n. record { boxes = n; room = s.room }) boxes

-- as many boxes are left for those after it as they need
left : (from rest copies boxes : ℕ) → (from + rest) * copies ≤ boxes → rest * copies ≤ boxes - from * copies
left from rest copies boxes fits = omega arith

pub left_after : (from copies boxes : ℕ) (es : List PlainEnd) → from < length es → (length es - 1) * copies ≤ boxes → length (drop (suc from) es) * copies ≤ boxes - length (take from es) * copies
left_after from copies boxes es within fits =
    let before : length (take from es) ≡ from = (let long = length-take from es in omega (arith, long)) in
    let after : length es - 1 ≡ from + length (drop (suc from) es) = (let long = length-drop (suc from) es in omega (arith, long)) in
    subst (λ n. length (drop (suc from) es) * copies ≤ boxes - n * copies) (sym before) (left from (length (drop (suc from) es)) copies boxes (subst (λ n. n * copies ≤ boxes) after fits))

pub all_others : (from copies : ℕ) (es : List PlainEnd) → from < length es → (length es - 1) * copies ≡ length (take from es) * copies + length (drop (suc from) es) * copies
all_others from copies es within =
    let parts : length es - 1 ≡ length (take from es) + length (drop (suc from) es) = (let before = length-take from es in let after = length-drop (suc from) es in omega (arith, before, after)) in
    ap (λ n. n * copies) parts ∙ omega arith
