-- After any history the partial packets are a map from keys, of at most four.
use Rattle.std.proofs.Common.{◌≡◌, ℕ, suc, ◌+◌, ◌-◌, ◌≤◌, ◌&&◌, Bool, true, false, not, cond, nat_lt, Option, Some, None, List, [], ◌∷◌, ◌++◌, length, map, refl, sym, subst, ap, ◌∙◌, append-nil, arith}
use Rattle.std.specs.Prelude.{nat_le, fold, filter, is_some}
use Rattle.std.specs.Option.{option_map, option_to_list}
use Rattle.std.specs.List.{IsDistinct, AllByRecursion}
use Rattle.std.proofs.lemmas.List.{length-append}
use Rattle.std.proofs.lemmas.Bool.{cond_both, false_from_ne_true, false≢true, both_ways, and_parts, and_from, eqb-true, eq-eqb, leb-false}
use Rattle.csp_can.specs.declared.identifiers.Key.{Key}
use Rattle.csp_can.specs.declared.identifiers.Kind.{Kind}
use Rattle.csp_can.specs.declared.identifiers.Kind.TheVariants.{Begin, More}
use Rattle.csp_can.specs.declared.partials.TheConstants.{MAX_PARTIALS, GIVE_UP}
use Rattle.csp_can.specs.Identifiers.{key_of, same_key}
use Rattle.csp_can.specs.Rules.{Arrival, Deed, leaves, ends, opens, goes_on, ruling_of}
use Rattle.csp_can.specs.Open.{fresh, standing, without, ruling, done, gone_on, next, Kept, shown_frames, whole_frames, open_after}
use Rattle.csp_can.specs.Maps.{kept_key, IsMap}
use Rattle.csp_can.proofs.Sound.{Each, Each-filter, Each-remove_first, Each-append, begin_by}

-- ---- keys

same_key-self : (key : Key) → same_key key key ≡ true
same_key-self key =
    and_from _ _ (and_from _ _ (eq-eqb key.source key.source refl) (eq-eqb key.dest key.dest refl)) (eq-eqb key.id key.id refl)

same_key-true : (a b : Key) → same_key a b ≡ true → a ≡ b
same_key-true a b e =
    let all = and_parts _ _ e in
    let two = and_parts _ _ all.0 in
    let source = eqb-true a.source b.source two.0 in
    let dest = eqb-true a.dest b.dest two.1 in
    let id = eqb-true a.id b.id all.1 in
    λ i. record { source = source i; dest = dest i; id = id i }

same_key-false : (a b : Key) → same_key a b ≡ false → same_key b a ≡ false
same_key-false a b e =
    false_from_ne_true (same_key b a)
    (λ h. both_ways (same_key a b) e (ap (λ (k : Key). same_key a k) (same_key-true b a h) ∙ same_key-self a))

-- ---- each key once

-- no partial packet of this key stands
abbrev Free : Key → List Kept → Type 0
Free key ks = Each (λ k. same_key (kept_key k) key ≡ false) ks

abbrev OneEach : List Kept → Type 0
OneEach [] = Unit {0}
OneEach (k ∷ ks) = Free (kept_key k) ks × OneEach ks

all_by_recursion : (key : Key) (ks : List Kept) → Free key ks → AllByRecursion (λ q. same_key key q ≡ false) (map kept_key ks)
all_by_recursion key [] free = tt
all_by_recursion key (k ∷ ks) free = (same_key-false (kept_key k) key free.0, all_by_recursion key ks free.1)

is_distinct : (ks : List Kept) → OneEach ks → IsDistinct same_key (map kept_key ks)
unfolding IsDistinct
is_distinct [] one = tt
is_distinct (k ∷ ks) one = (all_by_recursion (kept_key k) ks one.0, is_distinct ks one.1)

OneEach-filter : (test : Kept → Bool) (ks : List Kept) → OneEach ks → OneEach (filter test ks)
OneEach-filter test [] one = tt
OneEach-filter test (k ∷ ks) one =
    cond_both (test k) _ _ (λ (xs : List Kept). OneEach xs)
    (λ _. (Each-filter (λ j. same_key (kept_key j) (kept_key k) ≡ false) test ks one.0, OneEach-filter test ks one.1)) (λ _. OneEach-filter test ks one.1)

OneEach-without : (key : Key) (ks : List Kept) → OneEach ks → OneEach (without whole_frames key ks)
OneEach-without key [] one = tt
OneEach-without key (k ∷ ks) one =
    cond_both (same_key (kept_key k) key) _ _ (λ (xs : List Kept). OneEach xs) (λ _. one.1)
    (λ _. (Each-remove_first (λ j. same_key (kept_key j) (kept_key k) ≡ false) (λ j. same_key (kept_key j) key) ks one.0, OneEach-without key ks one.1))

OneEach-push : (ks : List Kept) (one : Kept) → OneEach ks → Free (kept_key one) ks → OneEach (ks ++ one ∷ [])
OneEach-push [] one each free = (tt, tt)
OneEach-push (k ∷ ks) one each free =
    (Each-append (λ j. same_key (kept_key j) (kept_key k) ≡ false) ks (one ∷ []) each.0 (same_key-false (kept_key k) (kept_key one) free.0, tt), OneEach-push ks one each.1 free.1)

-- without a key, it is free
Free-without : (key : Key) (ks : List Kept) → OneEach ks → Free key (without whole_frames key ks)
Free-without key [] one = tt
Free-without key (k ∷ ks) one =
    cond_both (same_key (kept_key k) key) _ _ (λ (xs : List Kept). Free key xs)
    (λ e. subst (λ (q : Key). Free q ks) (same_key-true (kept_key k) key e) one.0)
    (λ e. (e, Free-without key ks one.1))

-- what stands for a key has that key
OfThisKey : Key → Option Kept → Type 0
OfThisKey key None = Unit {0}
OfThisKey key (Some k) = kept_key k ≡ key

standing_key : (key : Key) (ks : List Kept) → OfThisKey key (standing whole_frames key ks)
unfolding OfThisKey
standing_key key [] = tt
standing_key key (k ∷ ks) =
    cond_both (same_key (kept_key k) key) (Some k) (standing whole_frames key ks) (λ (o : Option Kept). OfThisKey key o)
    (λ e. same_key-true (kept_key k) key e) (λ _. standing_key key ks)

-- ---- at most four

filter_length : (test : Kept → Bool) (ks : List Kept) → length (filter test ks) ≤ length ks
filter_length test [] = omega arith
filter_length test (k ∷ ks) =
    let rest = filter_length test ks in
    cond_both (test k) _ _ (λ (xs : List Kept). length xs ≤ suc (length ks)) (λ _. omega arith) (λ _. omega arith)

without_length : (key : Key) (ks : List Kept) → length (without whole_frames key ks) ≤ length ks
without_length key [] = omega arith
without_length key (k ∷ ks) =
    let rest = without_length key ks in
    cond_both (same_key (kept_key k) key) _ _ (λ (xs : List Kept). length xs ≤ suc (length ks)) (λ _. omega arith) (λ _. omega arith)

-- one goes where one of this key stood
one_goes : (key : Key) (ks : List Kept) → is_some (standing whole_frames key ks) ≡ true → length (without whole_frames key ks) + 1 ≡ length ks
one_goes key [] e = absurd (false≢true e)
one_goes key (k ∷ ks) e =
    elim (same_key (kept_key k) key) as (λ b. is_some (cond b (Some k) (standing whole_frames key ks)) ≡ true → length (cond b ks (k ∷ without whole_frames key ks)) + 1 ≡ suc (length ks)) [
      | true ↦ λ _. omega arith
      | false ↦ λ f. let rest = one_goes key ks f in omega arith
    ] e

-- ---- one more frame

record Mapped (ks : List Kept) : Type 0 where
  one_each : OneEach ks
  few : length ks ≤ MAX_PARTIALS

-- a packet opens only where one of its key stood or fewer than four did
opens_room : (mtu : ℕ) (kind : Kind) (kept : Option Kept) (n : ℕ) (a : Arrival) → (ruling_of mtu kind (option_map shown_frames kept) (nat_le MAX_PARTIALS n) a).deed ≡ opens → (not (is_some kept) && nat_le MAX_PARTIALS n) ≡ false
opens_room mtu Begin None n a =
    begin_by mtu false (nat_le MAX_PARTIALS n) a (λ r. r.deed ≡ opens → (true && nat_le MAX_PARTIALS n) ≡ false) (λ e. cc) (λ e. cc) (λ e. cc) (λ _ _ free _. free)
opens_room mtu Begin (Some k) n a = λ _. refl
opens_room mtu More None n a = λ e. cc
opens_room mtu More (Some k) n a = λ _. refl

-- a MORE frame goes on only where a partial packet of its key stands, and grows no other
grown_mapped : (key : Key) (kept : Option Kept) (a : Arrival) (ks : List Kept) → OfThisKey key kept → OneEach ks → Free key ks → OneEach (ks ++ option_to_list (option_map (λ k. whole_frames.grown k a) kept))
unfolding OfThisKey
grown_mapped key None a ks is one free = subst OneEach (sym (append-nil ks)) one
grown_mapped key (Some k) a ks is one free = OneEach-push ks (whole_frames.grown k a) one (subst (λ (q : Key). Free q ks) (sym is) free)

grown_length : (kept : Option Kept) (a : Arrival) → length (option_to_list (option_map (λ k. whole_frames.grown k a) kept)) ≡ cond (is_some kept) 1 0
grown_length None a = refl
grown_length (Some k) a = refl

opened_few : (stood : Bool) (n m : ℕ) → (not stood && nat_le MAX_PARTIALS n) ≡ false → (stood ≡ true → m + 1 ≡ n) → m ≤ n → n ≤ MAX_PARTIALS → m + 1 ≤ MAX_PARTIALS
opened_few true n m free gone le few = let e = gone refl in omega arith
opened_few false n m free gone le few = let less = leb-false MAX_PARTIALS n free in omega arith

grown_few : (stood : Bool) (n m : ℕ) → (stood ≡ true → m + 1 ≡ n) → m ≤ n → n ≤ MAX_PARTIALS → m + cond stood 1 0 ≤ MAX_PARTIALS
grown_few true n m gone le few = let e = gone refl in omega arith
grown_few false n m gone le few = omega arith

done_mapped : (d : Deed) (a : Arrival) (ks : List Kept) → Mapped ks
    → (d ≡ opens → (not (is_some (standing whole_frames (key_of a.frame.head) ks)) && nat_le MAX_PARTIALS (length ks)) ≡ false)
    → Mapped (done whole_frames d (key_of a.frame.head) (whole_frames.opened a) (gone_on whole_frames ks a) ks)
done_mapped leaves a ks m free = m
done_mapped ends a ks m free =
    let shorter = without_length (key_of a.frame.head) ks in
    let few = m.few in
    record { one_each = OneEach-without (key_of a.frame.head) ks m.one_each; few = omega arith }
done_mapped opens a ks m free =
    let key = key_of a.frame.head in
    let kept = standing whole_frames key ks in
    let small = opened_few (is_some kept) (length ks) (length (without whole_frames key ks)) (free refl) (one_goes key ks) (without_length key ks) m.few in
    let long = length-append (without whole_frames key ks) (whole_frames.opened a ∷ []) in
    record {
      one_each = OneEach-push (without whole_frames key ks) (whole_frames.opened a) (OneEach-without key ks m.one_each) (Free-without key ks m.one_each);
      few = omega arith;
    }
done_mapped goes_on a ks m free =
    let key = key_of a.frame.head in
    let kept = standing whole_frames key ks in
    let small = grown_few (is_some kept) (length ks) (length (without whole_frames key ks)) (one_goes key ks) (without_length key ks) m.few in
    let long = length-append (without whole_frames key ks) (gone_on whole_frames ks a) in
    let one = grown_length kept a in
    record {
      one_each = grown_mapped key kept a (without whole_frames key ks) (standing_key key ks) (OneEach-without key ks m.one_each) (Free-without key ks m.one_each);
      few = omega arith;
    }

next_mapped : (mtu : ℕ) (ks : List Kept) (a : Arrival) → Mapped ks → Mapped (next whole_frames mtu ks a)
next_mapped mtu ks a m =
    let left = fresh whole_frames a.time ks in
    let test : Kept → Bool = λ k. nat_lt (a.time - (shown_frames k).time) GIVE_UP in
    let shorter = filter_length test ks in
    let few = m.few in
    let still : Mapped left = record { one_each = OneEach-filter test ks m.one_each; few = omega arith } in
    done_mapped (ruling whole_frames mtu left a).deed a left still (opens_room mtu a.frame.head.kind (standing whole_frames (key_of a.frame.head) left) (length left) a)

from_mapped : (mtu : ℕ) (ks : List Kept) (history : List Arrival) → Mapped ks → Mapped (fold (next whole_frames mtu) ks history)
from_mapped mtu ks [] m = m
from_mapped mtu ks (a ∷ history) m = from_mapped mtu (next whole_frames mtu ks a) history (next_mapped mtu ks a m)

-- after any history
pub always_map : (mtu : ℕ) (history : List Arrival) → IsMap (open_after mtu history)
always_map mtu history =
    let m = from_mapped mtu [] history (record { one_each = tt; few = omega arith }) in
    record { distinct = is_distinct (open_after mtu history) m.one_each; few = m.few }
