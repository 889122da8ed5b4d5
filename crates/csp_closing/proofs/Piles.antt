-- What comes back to the memory of each node from its parties.
use Rattle.std.proofs.Common.{◌≡◌, ◌≢◌, ◌≤◌, ℕ, zero, suc, Bool, true, false, Option, None, Some, List, [], ◌∷◌, ◌++◌, ◌==◌, length, refl, sym, ap, ◌∙◌, subst, arith, append_assoc, append-nil, length-append}
use Rattle.std.specs.Prelude.{IsSomeAnd, if◌then◌else◌, slice_get}
use Rattle.std.specs.List.{AllByRecursion, flat_map}
use Rattle.std.specs.Option.{option_map}
use Rattle.std.proofs.lemmas.Option.{same_Some}
use Rattle.csp_closing.proofs.Lists.{differs, equal, equals}
use Rattle.csp_closing.specs.Retired.{PlainRest}
use Rattle.csp_closing.specs.Stores.{CanEndParties, HasPile, PlainPile, back_at, back_to, parties_back, party_back, with_back}
use Rattle.csp_consistent.specs.Pools.{is_node}
use Rattle.csp_ending.specs.Stores.{HasRoom}
use Rattle.csp_party.specs.Any.{holds, plain, region_of}
use Rattle.csp_log.specs.Who.{node_of}

-- what a party holds of the buffers of a node
abbrev pub held_of : ℕ → PlainRest → List ℕ
held_of node r = (if is_node node (node_of r.who) then holds (plain r.party) else [])

abbrev pub held_of_all : ℕ → List PlainRest → List ℕ
held_of_all node rest = flat_map (held_of node) rest

back_here : (at : ℕ) (ns : List ℕ) (piles : List PlainPile) → slice_get (back_at at ns piles) at ≡ option_map (with_back ns) (slice_get piles at)
back_here at ns [] = refl
back_here zero ns (s ∷ piles) = refl
back_here (suc at) ns (s ∷ piles) = back_here at ns piles

back_there : (at other : ℕ) (ns : List ℕ) (piles : List PlainPile) → other ≢ at → slice_get (back_at at ns piles) other ≡ slice_get piles other
back_there at other ns [] h = refl
back_there zero zero ns (s ∷ piles) h = absurd (h refl)
back_there zero (suc other) ns (s ∷ piles) h = refl
back_there (suc at) zero ns (s ∷ piles) h = refl
back_there (suc at) (suc other) ns (s ∷ piles) h = back_there at other ns piles (λ e. h (ap suc e))

with_none : (o : Option PlainPile) → o ≡ option_map (with_back []) o
with_none None = refl
with_none (Some s) = ap (λ (ns : List ℕ). Some (with_numbers s ns)) (sym (append-nil s.store.numbers)) where
  with_numbers : PlainPile → List ℕ → PlainPile
  with_numbers s ns = record { store = record { region = s.store.region; count = s.store.count; numbers = ns; room = s.store.room }; noted = s.noted; spare = s.spare; first = s.first; last = s.last }

-- what comes back from a party, at each node
one_back : (node : ℕ) (r : PlainRest) (piles : List PlainPile) → slice_get (party_back r piles) node ≡ option_map (with_back (held_of node r)) (slice_get piles node)
one_back node r piles = by (node_of r.who) where
  ns : List ℕ
  ns = holds (plain r.party)

  by : (o : Option ℕ) → slice_get (back_to o ns piles) node ≡ option_map (with_back (if is_node node o then ns else [])) (slice_get piles node)
  by None = with_none (slice_get piles node)
  by (Some home) = at (home == node) refl where
    at : (b : Bool) → (home == node) ≡ b → slice_get (back_at home ns piles) node ≡ option_map (with_back (if b then ns else [])) (slice_get piles node)
    at true e =
        let same : home ≡ node = equal home node e in
        subst (λ (n : ℕ). slice_get (back_at home ns piles) n ≡ option_map (with_back ns) (slice_get piles n)) same (back_here home ns piles)
    at false e = back_there home node ns piles (λ f. differs home node e (sym f)) ∙ with_none (slice_get piles node)

both_back : (ns ms : List ℕ) (o : Option PlainPile) → option_map (with_back ms) (option_map (with_back ns) o) ≡ option_map (with_back (ns ++ ms)) o
both_back ns ms None = refl
both_back ns ms (Some s) = ap (λ (l : List ℕ). Some (with_numbers s l)) (append_assoc s.store.numbers ns ms) where
  with_numbers : PlainPile → List ℕ → PlainPile
  with_numbers s l = record { store = record { region = s.store.region; count = s.store.count; numbers = l; room = s.store.room }; noted = s.noted; spare = s.spare; first = s.first; last = s.last }

-- and from all of them
pub all_back : (node : ℕ) (rest : List PlainRest) (piles : List PlainPile) → slice_get (parties_back rest piles) node ≡ option_map (with_back (held_of_all node rest)) (slice_get piles node)
all_back node [] piles = with_none (slice_get piles node)
all_back node (r ∷ rest) piles =
    all_back node rest (party_back r piles)
    ∙ ap (option_map (with_back (held_of_all node rest))) (one_back node r piles)
    ∙ both_back (held_of node r) (held_of_all node rest) (slice_get piles node)

back_long : (at : ℕ) (ns : List ℕ) (piles : List PlainPile) → length (back_at at ns piles) ≡ length piles
back_long at ns [] = refl
back_long zero ns (s ∷ piles) = refl
back_long (suc at) ns (s ∷ piles) = ap suc (back_long at ns piles)

pub all_long : (rest : List PlainRest) (piles : List PlainPile) → length (parties_back rest piles) ≡ length piles
all_long [] piles = refl
all_long (r ∷ rest) piles = all_long rest (party_back r piles) ∙ by (node_of r.who) where
  by : (o : Option ℕ) → length (back_to o (holds (plain r.party)) piles) ≡ length piles
  by None = refl
  by (Some node) = back_long node (holds (plain r.party)) piles

-- a party can end where its node's memory is there and has room for what all parties hold
pub record IsEndable (piles : List PlainPile) (r : PlainRest) : Type 0 where
  pub unnoted : r.noted ≡ []
  pub room : length (holds (plain r.party)) ≤ r.room
  pub link : node_of r.who ≡ None → holds (plain r.party) ≡ []
  pub home : (node : ℕ) → node_of r.who ≡ Some node → IsSomeAnd (slice_get piles node) (λ s. region_of r.party ≡ s.store.region)

abbrev pub HaveRoomFor : List PlainPile → List PlainRest → Type 0
HaveRoomFor piles rest = (node : ℕ) (s : PlainPile) → slice_get piles node ≡ Some s → HasRoom s.store (length (held_of_all node rest))

first_held : (node : ℕ) (r : PlainRest) → node_of r.who ≡ Some node → held_of node r ≡ holds (plain r.party)
first_held node r e = ap (λ (o : Option ℕ). if is_node node o then holds (plain r.party) else []) e ∙ ap (λ (b : Bool). if b then holds (plain r.party) else []) (equals node node refl)

has_pile : (piles : List PlainPile) (r : PlainRest) (rest : List PlainRest) → IsEndable piles r → HaveRoomFor piles (r ∷ rest) → HasPile (node_of r.who) r piles
has_pile piles r rest is rooms = by (node_of r.who) refl where
  at : (node : ℕ) → node_of r.who ≡ Some node → (o : Option PlainPile) → slice_get piles node ≡ o → IsSomeAnd o (λ s. region_of r.party ≡ s.store.region)
      → IsSomeAnd o (λ s. (region_of r.party ≡ s.store.region) × HasRoom s.store (length (holds (plain r.party))))
  at node e None f h = h
  at node e (Some s) f h =
      let room = rooms node s f in
      let both = length-append (held_of node r) (held_of_all node rest) in
      let own : length (held_of node r) ≡ length (holds (plain r.party)) = ap (λ (ns : List ℕ). length ns) (first_held node r e) in
      (h, omega (arith, room, both, own))

  by : (o : Option ℕ) → node_of r.who ≡ o → HasPile o r piles
  by None e = is.link e
  by (Some node) e = at node e (slice_get piles node) refl (is.home node e)

later_home : (piles : List PlainPile) (r x : PlainRest) → IsEndable piles x → IsEndable (party_back r piles) x
later_home piles r x is = record {
  unnoted = is.unnoted;
  room = is.room;
  link = is.link;
  home = λ node e. subst (λ o. IsSomeAnd o (λ s. region_of x.party ≡ s.store.region)) (sym (one_back node r piles)) (by (slice_get piles node) (held_of node r) (is.home node e));
} where
  by : (o : Option PlainPile) (ns : List ℕ) → IsSomeAnd o (λ s. region_of x.party ≡ s.store.region) → IsSomeAnd (option_map (with_back ns) o) (λ s. region_of x.party ≡ s.store.region)
  by None ns h = h
  by (Some s) ns h = h

later_homes : (piles : List PlainPile) (r : PlainRest) (rest : List PlainRest) → AllByRecursion (IsEndable piles) rest → AllByRecursion (IsEndable (party_back r piles)) rest
later_homes piles r [] h = tt
later_homes piles r (x ∷ rest) h = (later_home piles r x h.0, later_homes piles r rest h.1)

later_rooms : (piles : List PlainPile) (r : PlainRest) (rest : List PlainRest) → HaveRoomFor piles (r ∷ rest) → HaveRoomFor (party_back r piles) rest
later_rooms piles r rest rooms = λ node t at. by node t (slice_get piles node) refl (sym (one_back node r piles) ∙ at) where
  by : (node : ℕ) (t : PlainPile) (o : Option PlainPile) → slice_get piles node ≡ o → option_map (with_back (held_of node r)) o ≡ Some t → HasRoom t.store (length (held_of_all node rest))
  by node t None f e = absurd cc
  by node t (Some s) f e =
      let same : with_back (held_of node r) s ≡ t = same_Some (with_back (held_of node r) s) t e in
      let room = rooms node s f in
      let both = length-append (held_of node r) (held_of_all node rest) in
      let more = length-append s.store.numbers (held_of node r) in
      subst (λ (x : PlainPile). HasRoom x.store (length (held_of_all node rest))) same (omega (arith, room, both, more))

pub can_end : (piles : List PlainPile) (rest : List PlainRest) → AllByRecursion (IsEndable piles) rest → HaveRoomFor piles rest → CanEndParties piles rest
can_end piles [] h rooms = tt
can_end piles (r ∷ rest) h rooms =
    (record { unnoted = h.0.unnoted; room = h.0.room; pile = has_pile piles r rest h.0 rooms }, can_end (party_back r piles) rest (later_homes piles r rest h.1) (later_rooms piles r rest rooms))
