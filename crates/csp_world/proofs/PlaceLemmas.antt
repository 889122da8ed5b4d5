-- The one place that holds a number.
use Rattle.std.proofs.Common.{◌≡◌, ◌≢◌, ℕ, zero, suc, ◌<◌, Bool, true, false, cond, Option, None, Some, List, [], ◌∷◌, ◌++◌, length, map, replicate, refl, sym, ◌∙◌, ap, arith, nat_lt, find}
use Rattle.std.specs.Prelude.{slice_get, slice_index, IsSomeAnd}
use Rattle.std.specs.List.{flat_map}
use Rattle.std.proofs.lemmas.Bool.{lt-ltb}
use Rattle.std.proofs.lemmas.List.{length-append}
use Rattle.std.proofs.lemmas.Option.{slice_get-get_or}
use Rattle.std.specs.Option.{option_map}
use Rattle.csp_lists.specs.PlainDeck.{PlainDeck, holders_of, numbers_in}
use Rattle.csp_deck.specs.Step.{times}
use Rattle.csp_log.specs.declared.places.Place.{Place}
use Rattle.csp_log.specs.Who.{home_of, node_of}
use Rattle.csp_world.specs.Holders.{is_at, is_home, holds_at, holder_at, places_held, deck_holders, holders, counts, IsConserved}
use Rattle.csp_world.specs.Seen.{plain_member, has_number}
use Rattle.csp_world.specs.World.{PlainWorld}
use Rattle.csp_world.proofs.HolderLemmas.{one_holder}
use Rattle.csp_world.specs.declared.member.Member.{Member}

-- a list of one is its first
one_first : (p : Place) (n : ℕ) (rest : List Place) → length (replicate (suc n) p ++ rest) ≡ 1 → replicate (suc n) p ++ rest ≡ p ∷ []
one_first p zero [] e = refl
one_first p zero (x ∷ rest) e = absurd (omega (arith, e))
one_first p (suc n) rest e = absurd (omega (arith, e))

-- a party that does not hold the number stands nowhere
skip_by : (n : ℕ) (home : Option (ℕ × Place)) (rest : List Place) → nat_lt 0 n ≡ false → places_held n home ++ rest ≡ rest
skip_by n None rest h = refl
skip_by zero (Some home) rest h = refl
skip_by (suc n) (Some home) rest h = absurd (let yes = lt-ltb 0 (suc n) (omega arith) in cc)

-- where no party has the number, none holds it
pub none_holds : (node k : ℕ) (ms : List Member) → find (has_number node k) ms ≡ None → flat_map (holder_at node k) (map plain_member ms) ≡ []
none_holds node k [] e = refl
none_holds node k (m ∷ ms) e = by (has_number node k m) refl e (none_holds node k ms) where
  by : (b : Bool) → has_number node k m ≡ b → cond b (Some m) (find (has_number node k) ms) ≡ None → (find (has_number node k) ms ≡ None → flat_map (holder_at node k) (map plain_member ms) ≡ [])
      → holder_at node k (plain_member m) ++ flat_map (holder_at node k) (map plain_member ms) ≡ []
  by true h f rest = cc
  by false h f rest = skip_by (times k (holds_at node (plain_member m))) (home_of m.who) (flat_map (holder_at node k) (map plain_member ms)) h ∙ rest f

-- one that does has a place
placed : (node k : ℕ) (m : Member) → has_number node k m ≡ true → (home : ℕ × Place) × (home_of m.who ≡ Some home)
placed node k m h = by (home_of m.who) refl where
  by : (o : Option (ℕ × Place)) → home_of m.who ≡ o → (home : ℕ × Place) × (home_of m.who ≡ Some home)
  by (Some home) e = (home, e)
  by None e =
      let away : is_at node m.who ≡ false = ap (λ (o : Option (ℕ × Place)). is_home node (option_map (λ (h : ℕ × Place). h.0) o)) e in
      let none : holds_at node (plain_member m) ≡ [] = rw away refl in
      let zero_times = ap (λ (ns : List ℕ). nat_lt 0 (times k ns)) none in
      cc

some_by : (n : ℕ) (home : Option (ℕ × Place)) (h : ℕ × Place) (rest : List Place) → home ≡ Some h → nat_lt 0 n ≡ true → length (places_held n home ++ rest) ≡ 1 → places_held n home ++ rest ≡ h.1 ∷ []
some_by n None h rest e t l = cc
some_by zero (Some x) h rest e t l = cc
some_by (suc n) (Some x) h rest e t l = let same : x ≡ h = cc in one_first x.1 n rest l ∙ ap (λ (y : ℕ × Place). y.1 ∷ []) same

-- where one does and it is held once, that party is its place
pub one_holds : (node k : ℕ) (ms : List Member) (found : Member) → find (has_number node k) ms ≡ Some found → length (flat_map (holder_at node k) (map plain_member ms)) ≡ 1
    → (home : ℕ × Place) × (home_of found.who ≡ Some home) × (flat_map (holder_at node k) (map plain_member ms) ≡ home.1 ∷ [])
one_holds node k [] found e l = cc
one_holds node k (m ∷ ms) found e l = by (has_number node k m) refl e l (one_holds node k ms found) where
  by : (b : Bool) → has_number node k m ≡ b → cond b (Some m) (find (has_number node k) ms) ≡ Some found
      → length (holder_at node k (plain_member m) ++ flat_map (holder_at node k) (map plain_member ms)) ≡ 1
      → (find (has_number node k) ms ≡ Some found → length (flat_map (holder_at node k) (map plain_member ms)) ≡ 1 → (home : ℕ × Place) × (home_of found.who ≡ Some home) × (flat_map (holder_at node k) (map plain_member ms) ≡ home.1 ∷ []))
      → (home : ℕ × Place) × (home_of found.who ≡ Some home) × (holder_at node k (plain_member m) ++ flat_map (holder_at node k) (map plain_member ms) ≡ home.1 ∷ [])
  by true h f len rest =
      let same : m ≡ found = cc in
      let (home, at) = placed node k m h in
      (home, ap (λ (x : Member). home_of x.who) (sym same) ∙ at, some_by (times k (holds_at node (plain_member m))) (home_of m.who) home (flat_map (holder_at node k) (map plain_member ms)) at h len)
  by false h f len rest =
      let skipped = skip_by (times k (holds_at node (plain_member m))) (home_of m.who) (flat_map (holder_at node k) (map plain_member ms)) h in
      let (home, at, is) = rest f (ap (λ (ps : List Place). length ps) (sym skipped) ∙ len) in
      (home, at, skipped ∙ is)

-- the first of a list of places of which there is one
pub first_is : (ps qs : List Place) (p : Place) → slice_get ps 0 ≡ Some p → length (ps ++ qs) ≡ 1 → ps ++ qs ≡ p ∷ []
first_is [] qs p e l = cc
first_is (x ∷ []) [] p e l = let same : x ≡ p = cc in ap (λ y. y ∷ []) same
first_is (x ∷ []) (y ∷ qs) p e l = absurd (omega (arith, l))
first_is (x ∷ y ∷ ps) qs p e l = absurd (let more = length-append ps qs in omega (arith, l, more))

pub first_none : (ps : List Place) → slice_get ps 0 ≡ None → ps ≡ []
first_none [] e = refl
first_none (x ∷ ps) e = cc

-- a number of a node is held once
pub held_once : ((d : PlainDeck) (k : ℕ) → length (holders_of d k) ≡ times k (numbers_in d)) → (w : PlainWorld) → IsConserved w → (node k : ℕ) → node < length (counts w) → k < slice_index (counts w) node → length (holders w node k) ≡ 1
held_once law w kept node k h l = one_holder law w kept node (slice_index (counts w) node) (slice_get-get_or (counts w) node 0 h) k l

-- a list that holds the number is its one place, and where none does the parties are left
pub listed : (w : PlainWorld) (node k : ℕ) (d : PlainDeck) (p : Place) → slice_get w.decks node ≡ Some d → slice_get (holders_of d k) 0 ≡ Some p → length (holders w node k) ≡ 1 → holders w node k ≡ p ∷ []
listed w node k d p e f l =
    let is : holders w node k ≡ holders_of d k ++ flat_map (holder_at node k) w.members = ap (λ o. deck_holders o k ++ flat_map (holder_at node k) w.members) e in
    is ∙ first_is (holders_of d k) (flat_map (holder_at node k) w.members) p f (ap (λ (ps : List Place). length ps) (sym is) ∙ l)

pub listed_there : (w : PlainWorld) (node k : ℕ) (p : Place) (o : Option PlainDeck) → slice_get w.decks node ≡ o → (r : Option Place) → IsSomeAnd o (λ d. r ≡ slice_get (holders_of d k) 0) → r ≡ Some p → length (holders w node k) ≡ 1 → holders w node k ≡ p ∷ []
listed_there w node k p None e r h is l = absurd h
listed_there w node k p (Some d) e r h is l = listed w node k d p e (sym h ∙ is) l

pub unlisted_there : (w : PlainWorld) (node k : ℕ) (o : Option PlainDeck) (r : Option Place) → IsSomeAnd o (λ d. r ≡ slice_get (holders_of d k) 0) → r ≡ None → deck_holders o k ≡ []
unlisted_there w node k None r h is = absurd h
unlisted_there w node k (Some d) r h is = first_none (holders_of d k) (sym h ∙ is)

-- a party that holds a number of a node is one of it
found_has : (node k : ℕ) (ms : List Member) (found : Member) → find (has_number node k) ms ≡ Some found → has_number node k found ≡ true
found_has node k [] found e = cc
found_has node k (m ∷ ms) found e = by (has_number node k m) refl e (found_has node k ms found) where
  by : (b : Bool) → has_number node k m ≡ b → cond b (Some m) (find (has_number node k) ms) ≡ Some found → (find (has_number node k) ms ≡ Some found → has_number node k found ≡ true) → has_number node k found ≡ true
  by true h f rest = let same : m ≡ found = cc in ap (has_number node k) (sym same) ∙ h
  by false h f rest = rest f

pub has_node : (node k : ℕ) (ms : List Member) (found : Member) → find (has_number node k) ms ≡ Some found → node_of found.who ≢ None
has_node node k ms found e none =
    let (home, at) = placed node k found (found_has node k ms found e) in
    let some : node_of found.who ≡ Some home.0 = ap (option_map (λ (h : ℕ × Place). h.0)) at in
    cc

pub its_place : {o : Option (ℕ × Place)} (home : ℕ × Place) (p : Place) → o ≡ Some home → option_map (λ (h : ℕ × Place). h.1) o ≡ Some p → home.1 ∷ [] ≡ p ∷ []
its_place home p at is =
    let both : Some home.1 ≡ Some p = ap (option_map (λ (h : ℕ × Place). h.1)) (sym at) ∙ is in
    let same : home.1 ≡ p = cc in
    ap (λ x. x ∷ []) same
