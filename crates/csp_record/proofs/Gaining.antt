-- What a log's entries tell of connections, one entry after the other.
use Rattle.std.proofs.Common.{◌≡◌, ℕ, zero, suc, ◌+◌, ◌≤◌, Bool, true, false, cond, ◌&&◌, eqb, Option, None, Some, List, [], ◌∷◌, ◌++◌, refl, sym, ap, ◌∙◌, drop, add-one, append-nil, append_assoc, unwrap_or, replicate, get_or, arith}
use Rattle.std.proofs.lemmas.Bool.{eqb-true, or_parts}
use Rattle.std.proofs.lemmas.Bool.Decides.{nat_tests}
use Rattle.std.proofs.lemmas.List.Folds.{list_any-append}
use Rattle.std.specs.BTreeMap as tree
use Rattle.std.specs.BTreeMap.{BTreeMap}
use Rattle.std.specs.List.{slice_get, flat_map, list_any}
use Rattle.std.specs.Option.{option_map, option_map_or}
use Rattle.std.specs.Ordering.{nat_cmp, ordering_then, is_eq}
use Rattle.std.specs.declared.cmp.Ordering.{Ordering}
use Rattle.std.specs.declared.cmp.Ordering.TheVariants.{Less, Equal, Greater}
use Rattle.csp_base.specs.Seat.{seat}
use Rattle.csp_log.specs.Moving.{moved_in}
use Rattle.csp_log.specs.Noting.{noted_in}
use Rattle.csp_log.specs.PlainLog.{all_events}
use Rattle.csp_log.specs.declared.entry.Entry.{Entry}
use Rattle.csp_log.specs.declared.event.Event.{Event}
use Rattle.csp_log.specs.declared.event.Event.TheVariants as event
use Rattle.csp_log.specs.declared.moved.Moved.{Moved}
use Rattle.csp_log.specs.declared.noted.Noted.{Noted}
use Rattle.csp_log.specs.declared.noted.Noted.TheVariants as noted
use Rattle.csp_record.specs.Connections.{is_opened, opened_by}
use Rattle.csp_record.specs.Ordinals.{frees}
use Rattle.csp_record.specs.Payloads.{carried, is_on, payloads_in, told_on}
use Rattle.csp_record.specs.declared.payloads.Transfer.{Transfer}
use Rattle.csp_record.specs.declared.payloads.Transfer.TheVariants as way
use Rattle.csp_record.specs.Traffic.{pair_cmp, payloads_on, Gains}
use Rattle.csp_record.proofs.Ordinals.{Ends, ended, openings_after, told_after}

abbrev Table : Type 0
Table = BTreeMap (ℕ × ℕ) (List (List ℕ))

both_equal : (a b : Ordering) → is_eq (ordering_then a b) ≡ (is_eq a && is_eq b)
both_equal Less b = refl
both_equal Equal b = refl
both_equal Greater b = refl

equal-is : (m n : ℕ) → is_eq (nat_cmp m n) ≡ eqb m n
equal-is m n = grind (arith, nat_tests)

-- two keys are the same where their parts are
key-is : (slot ordinal s o : ℕ) → is_eq (pair_cmp (slot, ordinal) (s, o)) ≡ (eqb slot s && eqb ordinal o)
key-is slot ordinal s o = both_equal (nat_cmp slot s) (nat_cmp ordinal o) ∙ rw (equal-is slot s, equal-is ordinal o) refl

same_parts : (a b c d : ℕ) → (eqb a b && eqb c d) ≡ true → (a ≡ b) × (c ≡ d)
same_parts a b c d h = by (eqb a b) (eqb c d) refl refl h
  where
    by : (x y : Bool) → eqb a b ≡ x → eqb c d ≡ y → (x && y) ≡ true → (a ≡ b) × (c ≡ d)
    by true true p q h = (eqb-true a b p, eqb-true c d q)
    by true false p q h = cc
    by false y p q h = cc

-- the payloads of a connection are taken out and put in again with one more
pub Gains-one : (old mid new : Table) (slot ordinal : ℕ) (payload : List ℕ) (list : List (List ℕ))
    → list ≡ payloads_on old.entries slot ordinal ++ payload ∷ []
    → ((q : ℕ × ℕ) → tree.get pair_cmp mid q ≡ cond (is_eq (pair_cmp (slot, ordinal) q)) None (tree.get pair_cmp old q))
    → ((q : ℕ × ℕ) → tree.get pair_cmp new q ≡ cond (is_eq (pair_cmp (slot, ordinal) q)) (Some list) (tree.get pair_cmp mid q))
    → Gains old.entries new.entries (λ s o. cond (eqb slot s && eqb ordinal o) (payload ∷ []) [])
Gains-one old mid new slot ordinal payload list is out in' = λ s o. by s o (eqb slot s && eqb ordinal o) refl
  where
    by : (s o : ℕ) (b : Bool) → (eqb slot s && eqb ordinal o) ≡ b → payloads_on new.entries s o ≡ payloads_on old.entries s o ++ cond b (payload ∷ []) []
    by s o true h =
        let (es, eo) = same_parts slot s ordinal o h in
        ap (λ found. unwrap_or found []) (in' (s, o) ∙ ap (λ b. cond b (Some list) (tree.get pair_cmp mid (s, o))) (key-is slot ordinal s o ∙ h))
        ∙ is ∙ rw (es, eo) refl
    by s o false h =
        ap (λ found. unwrap_or found [])
        (in' (s, o) ∙ ap (λ b. cond b (Some list) (tree.get pair_cmp mid (s, o))) (key-is slot ordinal s o ∙ h)
        ∙ out (s, o) ∙ ap (λ b. cond b None (tree.get pair_cmp old (s, o))) (key-is slot ordinal s o ∙ h))
        ∙ sym (append-nil (payloads_on old.entries s o))

-- counts of nothing are none
pub counted-none : (n slot : ℕ) → ◌≡◌ {A = ℕ} (get_or (replicate n 0) slot 0) 0
counted-none zero slot = refl
counted-none (suc n) zero = refl
counted-none (suc n) (suc slot) = counted-none n slot

-- events tell of a connection where its slot has its ordinal
pub told-on : {X Y : Type 0} (test : X → Bool) (here : Bool) (y : Y) (xs : List X) → flat_map (λ x. cond (test x && here) (y ∷ []) []) xs ≡ cond here (flat_map (λ x. cond (test x) (y ∷ []) []) xs) []
told-on test true y [] = refl
told-on test false y [] = refl
told-on {X} {Y} test here y (x ∷ xs) = by here (test x) (told-on test here y xs)
  where
    by : (here b : Bool) → flat_map (λ x. cond (test x && here) (y ∷ []) []) xs ≡ cond here (flat_map (λ x. cond (test x) (y ∷ []) []) xs) []
        → cond (b && here) (y ∷ []) [] ++ flat_map (λ x. cond (test x && here) (y ∷ []) []) xs ≡ cond here (cond b (y ∷ []) [] ++ flat_map (λ x. cond (test x) (y ∷ []) []) xs) []
    by true true rest = ap (λ (ys : List Y). y ∷ ys) rest
    by true false rest = rest
    by false true rest = rest
    by false false rest = rest

-- what an entry tells that popped this payload
pub entry-told : (which : Transfer) (app s o : ℕ) (counts : List ℕ) (found : Option Entry) (moved : Moved) (events : List Event) (payload : List ℕ)
    → option_map moved_in found ≡ Some moved → option_map (λ e. e.events.items) found ≡ Some events → Some payload ≡ carried which app moved
    → flat_map (λ e. cond (is_on which s e && eqb (get_or counts s 0) o) (payload ∷ []) []) events ≡ option_map_or (λ e. cond (eqb (get_or counts s 0) o) (payloads_in which (seat app s) e) []) found []
entry-told which app s o counts None moved events payload is tells brings = cc
entry-told which app s o counts (Some e) moved events payload is tells brings =
    let here : Bool = eqb (get_or counts s 0) o in
    let same : e.events.items ≡ events = ap (λ (x : Option (List Event)). unwrap_or x events) tells in
    let moves : moved_in e ≡ moved = ap (λ (x : Option Moved). unwrap_or x moved) is in
    told-on (is_on which s) here payload events
    ∙ ap (λ ps. cond here ps []) (ap (told_on which s events) brings ∙ (λ i. told_on which s (sym same i) (carried which app (sym moves i))))

-- with one entry more, each slot has at most one end more
pub ended-few : (which : Transfer) (app : ℕ) (note : Noted) (ends more : Ends) (most : ℕ) → ((slot : ℕ) → more slot ≡ ended which app note ends slot) → ((slot : ℕ) → ends slot ≤ most) → (slot : ℕ) → more slot ≤ most + 1
ended-few which app note ends more most is few slot = rw (is slot) (one (frees which (seat app slot) note))
  where
    one : (b : Bool) → cond b (ends slot + 1) (ends slot) ≤ most + 1
    one true = omega (arith, few slot)
    one false = omega (arith, few slot)

-- what is told entry by entry, where the ends before each entry decide
module _ {Y : Type 0} (which : Transfer) (app : ℕ) (told : Ends → Entry → List Y) where
  from_next : (ends : Ends) (entries : List Entry) (k : ℕ) (note : Noted) → option_map noted_in (slice_get entries k) ≡ Some note
      → told_after which app told ends (drop k entries) ≡ option_map_or (told ends) (slice_get entries k) [] ++ told_after which app told (ended which app note ends) (drop (suc k) entries)
  from_next ends [] k note is = cc
  from_next ends (e ∷ entries) zero note is = ap (λ n. told ends e ++ told_after which app told (ended which app n ends) entries) (ap (λ o. unwrap_or o noted.NoNote) is)
  from_next ends (e ∷ entries) (suc k) note is = from_next ends entries k note is

  -- what was told so far with what the next entry tells, and then what is still to come
  pub told-next : (ends more : Ends) (entries : List Entry) (k : ℕ) (note : Noted) (so_far here whole : List Y)
      → option_map noted_in (slice_get entries k) ≡ Some note → ((slot : ℕ) → more slot ≡ ended which app note ends slot) → here ≡ option_map_or (told ends) (slice_get entries k) []
      → so_far ++ told_after which app told ends (drop k entries) ≡ whole → (so_far ++ here) ++ told_after which app told more (drop (k + 1) entries) ≡ whole
  told-next ends more entries k note so_far here whole is freed tells before =
      let later : told_after which app told more (drop (suc k) entries) ≡ told_after which app told (ended which app note ends) (drop (suc k) entries) =
      λ i. told_after which app told (λ slot. freed slot i) (drop (suc k) entries) in
      rw (tells, add-one k)
      (append_assoc so_far (option_map_or (told ends) (slice_get entries k) []) (told_after which app told more (drop (suc k) entries))
      ∙ ap (λ rest. so_far ++ (option_map_or (told ends) (slice_get entries k) [] ++ rest)) later
      ∙ ap (λ t. so_far ++ t) (sym (from_next ends entries k note is)) ∙ before)

-- what the events of an entry tell
pub told-events : {Y : Type 0} (f : Event → List Y) (o : Option Entry) (events : List Event) → option_map (λ e. e.events.items) o ≡ Some events
    → flat_map f events ≡ option_map_or (λ e. flat_map f e.events.items) o []
told-events f None events is = cc
told-events f (Some e) events is = ap (λ (o : Option (List Event)). flat_map f (unwrap_or o [])) (sym is)

-- where no event tells that a connection became open, none did
none_told : (app : ℕ) (ends : Ends) (events : List Event) → list_any is_opened events ≡ false → flat_map (opened_by app ends) events ≡ []
none_told app ends [] none = refl
none_told app ends (event.Opened number slot nth peer ∷ events) none = cc
none_told app ends (_ ∷ events) none = none_told app ends events none

pub none-opened : (app : ℕ) (ends : Ends) (entries : List Entry) → list_any is_opened (all_events entries) ≡ false → openings_after app ends entries ≡ []
none-opened app ends [] none = refl
none-opened app ends (e ∷ entries) none =
    let parts = or_parts (list_any is_opened e.events.items) (list_any is_opened (all_events entries)) (sym (list_any-append is_opened e.events.items (all_events entries)) ∙ none) in
    rw (none_told app ends e.events.items parts.0) (none-opened app (ended way.Sent app (noted_in e) ends) entries parts.1)
