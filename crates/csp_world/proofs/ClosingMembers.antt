-- What is taken back from the parties of each node.
use Rattle.std.proofs.Common.{◌≡◌, ℕ, ◌+◌, ◌<◌, ◌≤◌, get_or, map, sym, ◌∙◌, Bool, true, false, Option, None, Some, List, [], ◌∷◌, ◌++◌, length, refl, ap, subst, arith}
use Rattle.std.specs.Prelude.{slice_get, slice_set, ◌==◌}
use Rattle.std.specs.List.{flat_map}
use Rattle.std.specs.Option.{option_map}
use Rattle.std.proofs.lemmas.Bool.Decides.{nat_tests}
use Rattle.std.proofs.lemmas.List.{append_assoc, append-nil, length-append, length-map}
use Rattle.std.proofs.lemmas.Option.{slice_get-map, slice_get_read, slice_get_within}
use Rattle.csp_arena.specs.Cells.{RegionName}
use Rattle.csp_log.specs.declared.places.Place.{Place}
use Rattle.csp_nodes.specs.Emptied.{EmptiedAt, PlainEmptied, emptied_in, with_gathered}
use Rattle.csp_party.specs.Any.{holds}
use Rattle.csp_log.specs.Who.{home_of, node_of}
use Rattle.csp_world.specs.Holders.{is_at, is_home, holds_at}
use Rattle.csp_consistent.specs.Pools.{held_by}
use Rattle.csp_world.specs.Record.{member_held}
use Rattle.csp_world.specs.World.{PlainMember}
use Rattle.csp_nodes.proofs.Public.{set_here, set_there}

-- what is left of a node, with all that these parties of it hold
abbrev pub with_members : List PlainMember → ℕ → Option PlainEmptied → Option PlainEmptied
with_members ms node o = option_map (with_gathered (flat_map (holds_at node) ms)) o

-- the node that is at a place
pub home_within : (es : List EmptiedAt) (node : ℕ) (region : RegionName) → slice_get (map (λ (e : EmptiedAt). e.region) es) node ≡ Some region → node < length es
home_within es node region home = rw (← length-map es (λ (e : EmptiedAt). e.region)) (slice_get_within (map (λ (e : EmptiedAt). e.region) es) node region home)

pub home_read : (es : List EmptiedAt) (node : ℕ) (region : RegionName) (now : EmptiedAt) → slice_get (map (λ (e : EmptiedAt). e.region) es) node ≡ Some region → now ≡ get_or es node now
    → (slice_get (emptied_in es) node ≡ Some now.emptied) × (region ≡ now.region)
home_read es node region now home read =
    let found = slice_get_read es _ node now refl (home_within es node region home) read in
    (slice_get-map (λ (e : EmptiedAt). e.emptied) es node ∙ ap (option_map (λ (e : EmptiedAt). e.emptied)) found, same home (slice_get-map (λ (e : EmptiedAt). e.region) es node ∙ ap (option_map (λ (e : EmptiedAt). e.region)) found))
  where
    same : {o : Option RegionName} {x y : RegionName} → o ≡ Some x → o ≡ Some y → x ≡ y
    same e f = cc

-- nothing taken back changes nothing
pub with_nothing : (o : Option PlainEmptied) → option_map (with_gathered []) o ≡ o
with_nothing None = refl
with_nothing (Some e) = ap (λ (ns : List ℕ). Some (record e { gathered = ns })) (append-nil e.gathered)

-- no parties hold nothing
pub with_none : (node : ℕ) (o : Option PlainEmptied) → with_members [] node o ≡ o
with_none node o = with_nothing o

equal : (a b : ℕ) → (a == b) ≡ true → a ≡ b
equal a b h = grind (arith, nat_tests)

-- a party's numbers are taken back at its node, and at no other
pub member_back : (m : PlainMember) (olds : List PlainEmptied) (home : ℕ) (e : PlainEmptied) → node_of m.who ≡ Some home → slice_get olds home ≡ Some e
    → (node : ℕ) → slice_get (slice_set olds home (with_gathered (holds m.party) e)) node ≡ option_map (with_gathered (holds_at node m)) (slice_get olds node)
member_back m olds home e is g node = by (home == node) refl where
  after : Option PlainEmptied
  after = slice_get (slice_set olds home (with_gathered (holds m.party) e)) node

  by : (b : Bool) → (home == node) ≡ b → after ≡ option_map (with_gathered (holds_at node m)) (slice_get olds node)
  by true h =
      let here : home ≡ node = equal _ _ h in
      let its : is_at node m.who ≡ true = ap (is_home node) is ∙ h in
      let old : slice_get olds node ≡ Some e = rw (← here) g in
      let new : after ≡ Some (with_gathered (holds m.party) e) = subst (λ (k : ℕ). slice_get (slice_set olds home (with_gathered (holds m.party) e)) k ≡ Some (with_gathered (holds m.party) e)) here (set_here olds home e (with_gathered (holds m.party) e) g) in
      new ∙ rw (old, its) refl
  by false h =
      let its : is_at node m.who ≡ false = ap (is_home node) is ∙ h in
      set_there olds home node (with_gathered (holds m.party) e) h ∙ rw its (sym (with_nothing (slice_get olds node)))

pub member_none : (m : PlainMember) → node_of m.who ≡ None → (node : ℕ) (o : Option PlainEmptied) → o ≡ option_map (with_gathered (holds_at node m)) o
member_none m is node o =
    let its : is_at node m.who ≡ false = ap (is_home node) is in
    rw its (sym (with_nothing o))

-- the first party, then the others
pub member_next : (m : PlainMember) (ms : List PlainMember) (node : ℕ) (o : Option PlainEmptied) → with_members ms node (option_map (with_gathered (holds_at node m)) o) ≡ with_members (m ∷ ms) node o
member_next m ms node None = refl
member_next m ms node (Some e) = ap (λ (ns : List ℕ). Some (record e { gathered = ns })) (append_assoc e.gathered (holds_at node m) (flat_map (holds_at node) ms))

-- what is taken back already leaves room for what is still to come
pub still_fits : (ms : List PlainMember) (node : ℕ) (now : PlainEmptied) (ns : List ℕ) (start : Option PlainEmptied) → with_members ms node (Some now) ≡ option_map (with_gathered ns) start
    → ((e : PlainEmptied) → start ≡ Some e → length e.gathered + length ns ≤ e.pool.room) → length now.gathered + length (flat_map (holds_at node) ms) ≤ now.pool.room
still_fits ms node now ns None e fits = cc
still_fits ms node now ns (Some s) e fits =
    let one : with_gathered (flat_map (holds_at node) ms) now ≡ with_gathered ns s = cc in
    let same : length (now.gathered ++ flat_map (holds_at node) ms) ≡ length (s.gathered ++ ns) = ap (λ (x : PlainEmptied). length x.gathered) one in
    let room : now.pool.room ≡ s.pool.room = ap (λ (x : PlainEmptied). x.pool.room) one in
    let bound = fits s refl in
    omega (arith, same, room, bound, length-append now.gathered (flat_map (holds_at node) ms), length-append s.gathered ns)

-- and so for the first of them
pub first_fits : (m : PlainMember) (ms : List PlainMember) (node : ℕ) (now : PlainEmptied) → length now.gathered + length (flat_map (holds_at node) (m ∷ ms)) ≤ now.pool.room → length now.gathered + length (holds_at node m) ≤ now.pool.room
first_fits m ms node now h = omega (arith, h, length-append (holds_at node m) (flat_map (holds_at node) ms))

-- at its own node a party holds all that it holds
pub own_held : (m : PlainMember) (home : ℕ) → node_of m.who ≡ Some home → holds_at home m ≡ holds m.party
own_held m home is =
    let own : (home == home) ≡ true = grind (arith, nat_tests) in
    let its : is_at home m.who ≡ true = ap (is_home home) is ∙ own in
    rw its refl

-- what is noted of a party, by its place
pub noted_at : (m : PlainMember) (home : ℕ × Place) → home_of m.who ≡ Some home → member_held m ≡ held_by (holds m.party) home ∷ []
noted_at m home is = rw is refl

pub noted_none : (m : PlainMember) → home_of m.who ≡ None → member_held m ≡ []
noted_none m is = rw is refl
