-- The end of a party, and of all.
use Rattle.std.proofs.Common.{◌≡◌, ◌<◌, ℕ, zero, suc, Option, None, Some, List, [], ◌∷◌, ◌++◌, length, map, set, refl, sym, ap, ◌∙◌, subst, arith, append_assoc, append-nil}
use Rattle.std.specs.Prelude.{IsSomeAnd, slice_get, vec_capacity}
use Rattle.std.specs.Option.{option_map, option_to_list}
use Rattle.std.proofs.lemmas.List.{length-map}
use Rattle.std.proofs.lemmas.Option.{same_Some, slice_get_within}
use Rattle.csp_closing.proofs.Ending.{notes_are}
use Rattle.csp_closing.specs.Retired.{PlainRest}
use Rattle.csp_closing.specs.Stores.{HasPile, PlainPile, back_at, back_to, party_back, pile_of, rest_held, with_back, with_held}
use Rattle.csp_consistent.specs.Pools.{held_by}
use Rattle.csp_ending.specs.Notes.{PlainNotes}
use Rattle.csp_ending.specs.Stores.{HasRoom, TakesBack}
use Rattle.csp_log.specs.Remains.{PlainHeld}
use Rattle.csp_log.specs.declared.places.Place.{Place}
use Rattle.csp_party.specs.Any.{holds, plain, region_of}
use Rattle.csp_log.specs.Who.{home_of, node_of}
use Rattle.csp_standing.specs.declared.fabric.NodeStore.{NodeStore}

-- what was noted, then this, then the rest, is the whole
pub moved : {A : Type 0} (before noted after rest whole : List A) → after ≡ before ++ noted → before ++ (noted ++ rest) ≡ whole → after ++ rest ≡ whole
moved before noted after rest whole e f = ap (λ xs. xs ++ rest) e ∙ append_assoc before noted rest ∙ f

-- a node's memory with more back
pile_is : (s t : NodeStore) (ns : List ℕ) → TakesBack s.store ns t.store → t.numbers ≡ s.numbers → t.first ≡ s.first → t.last ≡ s.last → pile_of t ≡ with_back ns (pile_of s)
pile_is s t ns h numbers first last = λ i. record {
  store = record { region = h.region i; count = h.count i; numbers = h.numbers i; room = h.room i };
  noted = ap (λ v. v.items) numbers i;
  spare = ap (λ v. vec_capacity v) numbers i;
  first = first i;
  last = last i;
}

pub piles_back : (stores : List NodeStore) (node : ℕ) (s t : NodeStore) (ns : List ℕ) → slice_get stores node ≡ Some s → TakesBack s.store ns t.store → t.numbers ≡ s.numbers → t.first ≡ s.first → t.last ≡ s.last
    → map pile_of (set stores node t) ≡ back_at node ns (map pile_of stores)
piles_back [] node s t ns e h numbers first last = absurd cc
piles_back (x ∷ stores) zero s t ns e h numbers first last =
    ap (λ (p : PlainPile). p ∷ map pile_of stores) (pile_is s t ns h numbers first last ∙ ap (λ (y : NodeStore). with_back ns (pile_of y)) (sym (same_Some x s e)))
piles_back (x ∷ stores) (suc node) s t ns e h numbers first last = ap (λ (ps : List PlainPile). pile_of x ∷ ps) (piles_back stores node s t ns e h numbers first last)

-- by a party's node
pub party_there : (r : PlainRest) (piles : List PlainPile) (node : ℕ) → node_of r.who ≡ Some node → party_back r piles ≡ back_at node (holds (plain r.party)) piles
party_there r piles node e = ap (λ (o : Option ℕ). back_to o (holds (plain r.party)) piles) e

pub party_nowhere : (r : PlainRest) (piles : List PlainPile) → node_of r.who ≡ None → party_back r piles ≡ piles
party_nowhere r piles e = ap (λ (o : Option ℕ). back_to o (holds (plain r.party)) piles) e

-- what is noted of it
pub held_there : (r : PlainRest) (home : ℕ × Place) → home_of r.who ≡ Some home → rest_held r ≡ held_by (holds (plain r.party)) home ∷ []
held_there r home e = ap (λ (o : Option (ℕ × Place)). option_to_list (option_map (held_by (holds (plain r.party))) o)) e

pub held_nowhere : (r : PlainRest) → home_of r.who ≡ None → rest_held r ≡ []
held_nowhere r e = ap (λ (o : Option (ℕ × Place)). option_to_list (option_map (held_by (holds (plain r.party))) o)) e

pub node_some : (r : PlainRest) (home : ℕ × Place) → home_of r.who ≡ Some home → node_of r.who ≡ Some home.0
node_some r home e = ap (option_map (λ (h : ℕ × Place). h.0)) e

pub node_none : (r : PlainRest) → home_of r.who ≡ None → node_of r.who ≡ None
node_none r e = ap (option_map (λ (h : ℕ × Place). h.0)) e

pub none_held : (m n : PlainNotes) (more : List PlainHeld) → n ≡ m → more ≡ [] → n ≡ with_held m more n.others
none_held m n more e f =
    notes_are n (with_held m more n.others) (ap (λ (x : PlainNotes). x.left) e)
    (ap (λ (x : PlainNotes). x.held) e ∙ sym (append-nil m.held) ∙ ap (λ (l : List PlainHeld). m.held ++ l) (sym f)) (ap (λ (x : PlainNotes). x.queues) e) refl

pub held_noted : (m n : PlainNotes) (more : List PlainHeld) → n.left ≡ m.left → n.held ≡ m.held ++ more → n.queues ≡ m.queues → n ≡ with_held m more n.others
held_noted m n more left held queues = notes_are n (with_held m more n.others) left held queues refl

-- a party's node is there
pub pile_there : (stores : List NodeStore) (r : PlainRest) (node : ℕ) → node_of r.who ≡ Some node → HasPile (node_of r.who) r (map pile_of stores) → node < length stores
pile_there stores r node e h = by (slice_get (map pile_of stores) node) refl (subst (λ (o : Option ℕ). HasPile o r (map pile_of stores)) e h) where
  by : (o : Option PlainPile) → slice_get (map pile_of stores) node ≡ o → IsSomeAnd o (λ s. (region_of r.party ≡ s.store.region) × HasRoom s.store (length (holds (plain r.party)))) → node < length stores
  by None f k = absurd k
  by (Some s) f k =
      let within = slice_get_within (map pile_of stores) node s f in
      let long = length-map stores pile_of in
      omega (arith, within, long)
