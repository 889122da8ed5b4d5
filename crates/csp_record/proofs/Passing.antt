-- What is read of a log where its reader passes over idle entries.
use Rattle.std.proofs.Common.{◌≡◌, ℕ, zero, suc, ◌+◌, ◌-◌, ◌≤◌, ◌==◌, Bool, true, false, cond, Option, None, List, [], ◌∷◌, ◌++◌, refl, sym, ap, ◌∙◌, drop, take, append-nil, append_assoc, arith}
use Rattle.std.proofs.lemmas.List.Elements.{All-head, All-tail, filter_map-append}
use Rattle.std.proofs.lemmas.List.Folds.{drop_split}
use Rattle.std.specs.List.{flat_map, filter_map, cons_option, list_any}
use Rattle.std.specs.Prelude.{All, slice_range, if◌then◌else◌}
use Rattle.csp_base.specs.Seat.{seat}
use Rattle.csp_base.specs.declared.seat.Seat.{Seat}
use Rattle.csp_log.specs.Idling.{IsIdle}
use Rattle.csp_log.specs.Moving.{moved_in}
use Rattle.csp_log.specs.Noting.{noted_in}
use Rattle.csp_log.specs.declared.entry.Entry.{Entry}
use Rattle.csp_log.specs.declared.noted.Noted.TheVariants as noted
use Rattle.csp_record.specs.Connections.{opened_by}
use Rattle.csp_record.specs.Ordinals.{frees}
use Rattle.csp_record.specs.Passed.{put_in}
use Rattle.csp_record.specs.Payloads.{carried, told_on}
use Rattle.csp_record.specs.Transmissions.{fetched, is_beginning, shown_in}
use Rattle.csp_record.specs.declared.payloads.Transfer.{Transfer}
use Rattle.csp_record.specs.declared.payloads.Transfer.TheVariants as way
use Rattle.csp_record.proofs.Ordinals.{Ends, ended, openings_after, payloads_after, told_after}

-- where elements that give nothing are passed over, what the rest gives stays
pub dropped-over : {X A : Type 0} (P : X → Type 0) (f : List X → A) → ((x : X) (xs : List X) → P x → f (x ∷ xs) ≡ f xs)
    → (xs : List X) (i j : ℕ) → i ≤ j → All P (slice_range xs i j) → f (drop i xs) ≡ f (drop j xs)
dropped-over {X} P f nothing xs i j le all = ap f (drop_split xs i j le) ∙ over (slice_range xs i j) all
  where
    over : (ys : List X) → All P ys → f (ys ++ drop j xs) ≡ f (drop j xs)
    over [] all = refl
    over (y ∷ ys) all = nothing y (ys ++ drop j xs) (All-head P y ys all) ∙ over ys (All-tail P y ys all)

-- a longer beginning of a list is a shorter one, then what lies between
take_none : {X : Type 0} (n : ℕ) (xs : List X) → xs ≡ [] → take n xs ≡ []
take_none zero xs none = refl
take_none (suc n) [] none = refl
take_none (suc n) (x ∷ xs) none = cc

take_parts : {X : Type 0} (xs : List X) (i k j : ℕ) → j ≡ i + k → take j xs ≡ take i xs ++ take k (drop i xs)
take_parts xs zero k j sum = ap (λ n. take n xs) (omega (arith, sum))
take_parts [] (suc i) k j sum = take_none j [] refl ∙ sym (take_none k [] refl)
take_parts (x ∷ xs) (suc i) k zero sum = absurd (omega (arith, sum))
take_parts (x ∷ xs) (suc i) k (suc j) sum = ap (λ ys. x ∷ ys) (take_parts xs i k j (omega (arith, sum)))

-- and what those before them gave
pub taken-over : {X A : Type 0} (P : X → Type 0) (f : List X → A) → ((x : X) (xs : List X) → P x → f (xs ++ x ∷ []) ≡ f xs)
    → (xs : List X) (i j : ℕ) → i ≤ j → All P (slice_range xs i j) → f (take j xs) ≡ f (take i xs)
taken-over {X} P f nothing xs i j le all = ap f (take_parts xs i (j - i) j (omega arith)) ∙ over (take i xs) (slice_range xs i j) all
  where
    over : (us ys : List X) → All P ys → f (us ++ ys) ≡ f us
    over us [] all = ap f (append-nil us)
    over us (y ∷ ys) all = ap f (sym (append_assoc us (y ∷ []) ys)) ∙ over (us ++ y ∷ []) ys (All-tail P y ys all) ∙ nothing y us (All-head P y ys all)

-- so it is with what is chosen of each entry, where nothing is of an idle one
pub chosen-over : {Y : Type 0} (g : Entry → Option Y) → ((e : Entry) → IsIdle e → g e ≡ None)
    → (entries : List Entry) (i j : ℕ) → i ≤ j → All IsIdle (slice_range entries i j) → filter_map g (take j entries) ≡ filter_map g (take i entries)
chosen-over g none = taken-over IsIdle (filter_map g) (λ e entries idle. filter_map-append g entries (e ∷ []) ∙ ap (λ o. filter_map g entries ++ cons_option o []) (none e idle) ∙ append-nil (filter_map g entries))

-- an idle entry put nothing into an inbox, and shows no transmission
pub put-nothing : (e : Entry) → IsIdle e → put_in (moved_in e) ≡ None
put-nothing e idle = ap put_in idle.moved

pub shown-nothing : (serial : ℕ) (e : Entry) → IsIdle e → shown_in serial e ≡ None
shown-nothing serial e idle = ap (λ events. cond (list_any (is_beginning serial) events) (fetched (moved_in e)) None) idle.told

-- it frees no slot, and tells of no payload and of no opening
frees-nothing : (which : Transfer) (s : Seat) → frees which s noted.NoNote ≡ false
frees-nothing way.Sent s = refl
frees-nothing way.Took s = refl

ends-stay : (which : Transfer) (app : ℕ) (ends : Ends) (e : Entry) → IsIdle e → (slot : ℕ) → ended which app (noted_in e) ends slot ≡ ends slot
ends-stay which app ends e idle slot = ap (λ n. ended which app n ends slot) idle.noted ∙ ap (λ b. cond b (ends slot + 1) (ends slot)) (frees-nothing which (seat app slot))

told-over : {Y : Type 0} (which : Transfer) (app : ℕ) (told : Ends → Entry → List Y) → ((ends : Ends) (e : Entry) → IsIdle e → told ends e ≡ []) → (ends : Ends) (entries : List Entry) (i j : ℕ) → i ≤ j → All IsIdle (slice_range entries i j)
    → told_after which app told ends (drop i entries) ≡ told_after which app told ends (drop j entries)
told-over which app told none ends = dropped-over IsIdle (told_after which app told ends) (λ e entries idle.
    ap (λ here. here ++ told_after which app told (ended which app (noted_in e) ends) entries) (none ends e idle) ∙ (λ i. told_after which app told (λ slot. ends-stay which app ends e idle slot i) entries))

pub payloads-over : (which : Transfer) (seat : Seat) (ordinal : ℕ) (ends : Ends) (entries : List Entry) (i j : ℕ) → i ≤ j → All IsIdle (slice_range entries i j)
    → payloads_after which seat ordinal ends (drop i entries) ≡ payloads_after which seat ordinal ends (drop j entries)
payloads-over which seat ordinal = told-over which seat.app _ (λ ends e idle. ap (λ moved. if ends seat.slot == ordinal then told_on which seat.slot e.events.items (carried which seat.app moved) else []) idle.moved ∙ in_either (ends seat.slot == ordinal))
  where
    in_either : (b : Bool) → cond {A = List (List ℕ)} b [] [] ≡ []
    in_either true = refl
    in_either false = refl

pub openings-over : (app : ℕ) (ends : Ends) (entries : List Entry) (i j : ℕ) → i ≤ j → All IsIdle (slice_range entries i j)
    → openings_after app ends (drop i entries) ≡ openings_after app ends (drop j entries)
openings-over app = told-over way.Sent app _ (λ ends e idle. ap (λ events. flat_map (opened_by app ends) events) idle.told)
