-- What the counters show of the frames kept goes the same way as the frames.
use Rattle.std.proofs.Common.{◌≡◌, ℕ, ◌-◌, true, false, cond, nat_lt, Option, Some, None, List, [], ◌∷◌, ◌++◌, length, map, refl, sym, ap, ◌∙◌, append-nil, append_assoc}
use Rattle.std.specs.Prelude.{nat_le, fold}
use Rattle.std.specs.Option.{option_map, option_to_list}
use Rattle.std.proofs.lemmas.List.{length-map, map-append}
use Rattle.std.proofs.lemmas.List.Concat.{flat_map-append}
use Rattle.csp_can.specs.declared.answers.CanAnswer.{CanAnswer}
use Rattle.csp_can.specs.declared.identifiers.Key.{Key}
use Rattle.csp_can.specs.declared.partials.Partial.{Partial}
use Rattle.csp_can.specs.declared.partials.TheConstants.{MAX_PARTIALS, GIVE_UP}
use Rattle.csp_can.specs.Begins.{begin_payload}
use Rattle.csp_can.specs.Identifiers.{key_of, same_key}
use Rattle.csp_can.specs.Frames.{Frame}
use Rattle.csp_can.specs.Rules.{Arrival, Deed, leaves, ends, opens, goes_on, opened_partial, grown_partial, ruling_of}
use Rattle.csp_can.specs.Open.{fresh, standing, without, ruling, done, gone_on, answer, answer_of, next, counters, Kept, last_of, joined, shown_frames, whole_frames, open_after, shown_partials}

-- the last after one more
pub last_of-push : (b : Arrival) (bs : List Arrival) (a : Arrival) → last_of b (bs ++ a ∷ []) ≡ a
last_of-push b [] a = refl
last_of-push b (c ∷ cs) a = last_of-push c cs a

-- the bytes joined after one more frame
pub joined-push : (begin : Frame) (more : List Frame) (f : Frame) → joined begin (more ++ f ∷ []) ≡ joined begin more ++ f.bytes
joined-push begin more f = simp (flat_map-append, append-nil, append_assoc)

shown_opened : (a : Arrival) → shown_frames (whole_frames.opened a) ≡ opened_partial a
shown_opened a = ap (λ (xs : List ℕ). record (opened_partial a) { payload = record { items = xs } }) (append-nil (begin_payload a.frame.bytes))

shown_grown : (k : Kept) (a : Arrival) → shown_frames (whole_frames.grown k a) ≡ grown_partial (shown_frames k) a
shown_grown k a =
    let last = last_of-push k.begin k.more a in
    let frames : map (λ (b : Arrival). b.frame) (k.more ++ a ∷ []) ≡ map (λ (b : Arrival). b.frame) k.more ++ a.frame ∷ [] = map-append (λ (b : Arrival). b.frame) k.more (a ∷ []) in
    let bytes = ap (joined k.begin.frame) frames ∙ joined-push k.begin.frame (map (λ (b : Arrival). b.frame) k.more) a.frame in
    λ i. record (grown_partial (shown_frames k) a) { payload = record { items = bytes i }; remain = (last i).frame.head.remain; time = (last i).time }

pub option_map_same : (o : Option Partial) → option_map (λ p. p) o ≡ o
option_map_same None = refl
option_map_same (Some p) = refl

pub standing_counted : (key : Key) (ks : List Kept) → option_map shown_frames (standing whole_frames key ks) ≡ standing counters key (shown_partials ks)
standing_counted key [] = refl
standing_counted key (k ∷ ks) =
    elim (same_key (shown_frames k).key key) as (λ b. option_map shown_frames (cond b (Some k) (standing whole_frames key ks)) ≡ cond b (Some (shown_frames k)) (standing counters key (shown_partials ks))) [
      | true ↦ refl
      | false ↦ standing_counted key ks
    ]

without_counted : (key : Key) (ks : List Kept) → shown_partials (without whole_frames key ks) ≡ without counters key (shown_partials ks)
without_counted key [] = refl
without_counted key (k ∷ ks) =
    elim (same_key (shown_frames k).key key) as (λ b. shown_partials (cond b ks (k ∷ without whole_frames key ks)) ≡ cond b (shown_partials ks) (shown_frames k ∷ without counters key (shown_partials ks))) [
      | true ↦ refl
      | false ↦ ap (λ (ps : List Partial). shown_frames k ∷ ps) (without_counted key ks)
    ]

fresh_counted : (now : ℕ) (ks : List Kept) → shown_partials (fresh whole_frames now ks) ≡ fresh counters now (shown_partials ks)
fresh_counted now [] = refl
fresh_counted now (k ∷ ks) =
    elim (nat_lt (now - (shown_frames k).time) GIVE_UP) as (λ b. shown_partials (cond b (k ∷ fresh whole_frames now ks) (fresh whole_frames now ks)) ≡ cond b (shown_frames k ∷ fresh counters now (shown_partials ks)) (fresh counters now (shown_partials ks))) [
      | true ↦ ap (λ (ps : List Partial). shown_frames k ∷ ps) (fresh_counted now ks)
      | false ↦ fresh_counted now ks
    ]

ruling_counted : (mtu : ℕ) (ks : List Kept) (a : Arrival) → ruling whole_frames mtu ks a ≡ ruling counters mtu (shown_partials ks) a
ruling_counted mtu ks a =
    let key = key_of a.frame.head in
    let stands : option_map shown_frames (standing whole_frames key ks) ≡ option_map (λ p. p) (standing counters key (shown_partials ks)) = standing_counted key ks ∙ sym (option_map_same (standing counters key (shown_partials ks))) in
    let many : length ks ≡ length (shown_partials ks) = sym (length-map ks shown_frames) in
    λ i. ruling_of mtu a.frame.head.kind (stands i) (nat_le MAX_PARTIALS (many i)) a

gone : (o : Option Kept) (a : Arrival) → shown_partials (option_to_list (option_map (λ k. whole_frames.grown k a) o)) ≡ option_to_list (option_map (λ p. counters.grown p a) (option_map shown_frames o))
gone None a = refl
gone (Some k) a = ap (λ (p : Partial). p ∷ []) (shown_grown k a)

gone_on_counted : (ks : List Kept) (a : Arrival) → shown_partials (gone_on whole_frames ks a) ≡ gone_on counters (shown_partials ks) a
gone_on_counted ks a =
    gone (standing whole_frames (key_of a.frame.head) ks) a
    ∙ ap (λ (o : Option Partial). option_to_list (option_map (λ p. counters.grown p a) o)) (standing_counted (key_of a.frame.head) ks)

done_counted : (d : Deed) (key : Key) (one : Kept) (grown : List Kept) (ks : List Kept) → shown_partials (done whole_frames d key one grown ks) ≡ done counters d key (shown_frames one) (shown_partials grown) (shown_partials ks)
done_counted leaves key one grown ks = refl
done_counted ends key one grown ks = without_counted key ks
done_counted opens key one grown ks =
    map-append shown_frames (without whole_frames key ks) (one ∷ []) ∙ ap (λ (ps : List Partial). ps ++ shown_frames one ∷ []) (without_counted key ks)
done_counted goes_on key one grown ks =
    map-append shown_frames (without whole_frames key ks) grown ∙ ap (λ (ps : List Partial). ps ++ shown_partials grown) (without_counted key ks)

-- the same answer
pub answer_counted : (mtu : ℕ) (ks : List Kept) (a : Arrival) → answer whole_frames mtu ks a ≡ answer counters mtu (shown_partials ks) a
answer_counted mtu ks a =
    ap answer_of (ruling_counted mtu (fresh whole_frames a.time ks) a ∙ ap (λ (ps : List Partial). ruling counters mtu ps a) (fresh_counted a.time ks))

-- the same partial packets afterwards
pub next_counted : (mtu : ℕ) (ks : List Kept) (a : Arrival) → shown_partials (next whole_frames mtu ks a) ≡ next counters mtu (shown_partials ks) a
next_counted mtu ks a =
    let left = fresh whole_frames a.time ks in
    let key = key_of a.frame.head in
    let said = ruling_counted mtu left a in
    let moved = gone_on_counted left a in
    let opened = shown_opened a in
    done_counted (ruling whole_frames mtu left a).deed key (whole_frames.opened a) (gone_on whole_frames left a) left
    ∙ (λ i. done counters (said i).deed key (opened i) (moved i) (shown_partials left))
    ∙ ap (λ (ps : List Partial). done counters (ruling counters mtu ps a).deed key (counters.opened a) (gone_on counters ps a) ps) (fresh_counted a.time ks)

open_from : (mtu : ℕ) → List Kept → List Arrival → List Kept
open_from mtu ks history = fold (next whole_frames mtu) ks history

fold_push : (mtu : ℕ) (ks : List Kept) (history : List Arrival) (a : Arrival) → fold (next whole_frames mtu) ks (history ++ a ∷ []) ≡ next whole_frames mtu (fold (next whole_frames mtu) ks history) a
fold_push mtu ks [] a = refl
fold_push mtu ks (b ∷ history) a = fold_push mtu (next whole_frames mtu ks b) history a

-- after one more frame
pub open_after-push : (mtu : ℕ) (history : List Arrival) (a : Arrival) → open_after mtu (history ++ a ∷ []) ≡ next whole_frames mtu (open_after mtu history) a
open_after-push mtu history a = fold_push mtu [] history a

-- what the counters did is what the frames kept say
pub by_whole_frames : (mtu : ℕ) (old new : List Partial) (a : Arrival) (r : CanAnswer) → r ≡ answer counters mtu old a → new ≡ next counters mtu old a
    → (history : List Arrival) → old ≡ shown_partials (open_after mtu history) → (new ≡ shown_partials (open_after mtu (history ++ a ∷ []))) × (r ≡ answer whole_frames mtu (open_after mtu history) a)
by_whole_frames mtu old new a r said moved history was =
    let later : next counters mtu old a ≡ shown_partials (open_after mtu (history ++ a ∷ [])) = ap (λ (ps : List Partial). next counters mtu ps a) was ∙ sym (next_counted mtu (open_after mtu history) a) ∙ sym (ap shown_partials (open_after-push mtu history a)) in
    let told : answer counters mtu old a ≡ answer whole_frames mtu (open_after mtu history) a = ap (λ (ps : List Partial). answer counters mtu ps a) was ∙ sym (answer_counted mtu (open_after mtu history) a) in
    (moved ∙ later, said ∙ told)
