-- What a log's entries tell, read with the ordinals that the slots have there: all at once, or one entry after the other.
use Rattle.std.proofs.Common.{◌≡◌, ℕ, ◌+◌, ◌==◌, Bool, true, false, cond, List, [], ◌∷◌, ◌++◌, refl, sym, ap, ◌∙◌, length, map, append_assoc, arith}
use Rattle.std.specs.Prelude.{if◌then◌else◌}
use Rattle.std.specs.List.{count_by, enumerate_from, filter, flat_map}
use Rattle.std.proofs.Math.Seq.{take-append_seam}
use Rattle.std.proofs.lemmas.List.{length-append}
use Rattle.std.proofs.lemmas.List.Sums.{sum_by-append}
use Rattle.csp_base.specs.Seat.{seat}
use Rattle.csp_base.specs.declared.seat.Seat.{Seat}
use Rattle.csp_log.specs.Noting.{noted_in}
use Rattle.csp_log.specs.declared.entry.Entry.{Entry}
use Rattle.csp_log.specs.declared.noted.Noted.{Noted}
use Rattle.csp_record.specs.Connections.{opened_by, openings}
use Rattle.csp_record.specs.Ordinals.{entries_on, frees, ordinal_at}
use Rattle.csp_record.specs.Payloads.{payloads, payloads_in}
use Rattle.csp_record.specs.declared.connections.Opening.{Opening}
use Rattle.csp_record.specs.declared.payloads.Transfer.{Transfer}
use Rattle.csp_record.specs.declared.payloads.Transfer.TheVariants as way

-- how often each slot was freed so far: at first never, and after a turn once more where it frees the slot
abbrev pub Ends : Type 0
Ends = ℕ → ℕ

abbrev pub no_ends : Ends
no_ends slot = 0

abbrev pub ended : Transfer → (app : ℕ) → Noted → Ends → Ends
ended which app noted ends = λ slot. if frees which (seat app slot) noted then ends slot + 1 else ends slot

-- what entries tell, one after the other, where the slots had these ends before them
abbrev pub told_after : {Y : Type 0} → Transfer → (app : ℕ) → (Ends → Entry → List Y) → Ends → List Entry → List Y
told_after which app told ends [] = []
told_after which app told ends (e ∷ entries) = told ends e ++ told_after which app told (ended which app (noted_in e) ends) entries

-- the ends of a slot after entries
abbrev ends_of : Transfer → (app : ℕ) → List Entry → Ends
ends_of which app entries slot = count_by (λ e. frees which (seat app slot) (noted_in e)) entries

ends_more : (which : Transfer) (app : ℕ) (entries : List Entry) (e : Entry) (slot : ℕ) → ends_of which app (entries ++ e ∷ []) slot ≡ ended which app (noted_in e) (ends_of which app entries) slot
ends_more which app entries e slot = sum_by-append (λ x. cond (frees which (seat app slot) (noted_in x)) 1 0) entries (e ∷ []) ∙ by (ends_of which app entries slot) (frees which (seat app slot) (noted_in e))
  where
    by : (n : ℕ) (b : Bool) → n + (0 + cond b 1 0) ≡ cond b (n + 1) n
    by n true = omega arith
    by n false = omega arith

-- both ways of reading give the same
by_place : {Y : Type 0} (which : Transfer) (app : ℕ) (told : Ends → Entry → List Y) (before entries : List Entry)
    → flat_map (λ e. told (λ slot. ordinal_at which (seat app slot) (before ++ entries) e.0) e.1) (enumerate_from (length before) entries) ≡ told_after which app told (ends_of which app before) entries
by_place which app told before [] = refl
by_place {Y} which app told before (e ∷ entries) =
    let whole : (before ++ e ∷ []) ++ entries ≡ before ++ e ∷ entries = append_assoc before (e ∷ []) entries in
    let far : length (before ++ e ∷ []) ≡ length before + 1 = length-append before (e ∷ []) in
    let at_whole : List Entry → ℕ → List Y = λ all place. flat_map (λ x. told (λ slot. ordinal_at which (seat app slot) all x.0) x.1) (enumerate_from place entries) in
    let here : told (λ slot. ordinal_at which (seat app slot) (before ++ e ∷ entries) (length before)) e ≡ told (ends_of which app before) e =
    λ i. told (λ slot. count_by (λ x. frees which (seat app slot) (noted_in x)) (take-append_seam before (e ∷ entries) i)) e in
    let later : at_whole (before ++ e ∷ entries) (length before + 1) ≡ told_after which app told (ended which app (noted_in e) (ends_of which app before)) entries =
    (λ i. at_whole (sym whole i) (sym far i)) ∙ by_place which app told (before ++ e ∷ []) entries
    ∙ (λ i. told_after which app told (λ slot. ends_more which app before e slot i) entries) in
    λ i. here i ++ later i

chosen : {X Y : Type 0} (p : ℕ × X → Bool) (f : X → List Y) (xs : List (ℕ × X)) → flat_map f (map (λ x. x.1) (filter p xs)) ≡ flat_map (λ x. if p x then f x.1 else []) xs
chosen p f [] = refl
chosen {X} {Y} p f (x ∷ xs) = by (p x) (chosen p f xs)
  where
    by : (b : Bool) → flat_map f (map (λ y. y.1) (filter p xs)) ≡ flat_map (λ y. if p y then f y.1 else []) xs
        → flat_map f (map (λ y. y.1) (cond b (x ∷ filter p xs) (filter p xs))) ≡ cond b (f x.1) [] ++ flat_map (λ y. if p y then f y.1 else []) xs
    by true rest = ap (λ (ys : List Y). f x.1 ++ ys) rest
    by false rest = rest

-- so it is with what is told of a slot where it has an ordinal
pub on_are : {Y : Type 0} (which : Transfer) (seat : Seat) (ordinal : ℕ) (told : Entry → List Y) (entries : List Entry)
    → flat_map told (entries_on which seat ordinal entries) ≡ told_after which seat.app (λ ends e. if ends seat.slot == ordinal then told e else []) no_ends entries
on_are which seat ordinal told entries =
    chosen (λ e. ordinal_at which seat entries e.0 == ordinal) told (enumerate_from 0 entries) ∙ by_place which seat.app (λ ends e. if ends seat.slot == ordinal then told e else []) [] entries

-- with the payloads of a slot and an ordinal
abbrev pub payloads_after : Transfer → Seat → (ordinal : ℕ) → Ends → List Entry → List (List ℕ)
payloads_after which seat ordinal = told_after which seat.app (λ ends e. if ends seat.slot == ordinal then payloads_in which seat e else [])

pub payloads_are : (which : Transfer) (seat : Seat) (ordinal : ℕ) (entries : List Entry) → payloads which seat ordinal entries ≡ payloads_after which seat ordinal no_ends entries
payloads_are which seat ordinal entries = on_are which seat ordinal (payloads_in which seat) entries

-- and with openings
abbrev pub openings_after : (app : ℕ) → Ends → List Entry → List Opening
openings_after app = told_after way.Sent app (λ ends e. flat_map (opened_by app ends) e.events.items)

pub openings_are : (app : ℕ) (entries : List Entry) → openings app entries ≡ openings_after app no_ends entries
openings_are app entries = by_place way.Sent app (λ ends e. flat_map (opened_by app ends) e.events.items) [] entries
