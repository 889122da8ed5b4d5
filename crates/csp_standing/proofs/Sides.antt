-- The ends that parties have are those of the lanes of their scene.
use Rattle.std.proofs.Common.{◌≡◌, ◌+◌, ◌&&◌, ℕ, zero, suc, Bool, true, false, List, [], ◌∷◌, ◌++◌, Option, None, Some, map, refl, sym, ap, ◌∙◌, subst, arith}
use Rattle.std.specs.Prelude.{IsSomeAnd, slice_get, if◌then◌else◌}
use Rattle.std.specs.List.{AllByRecursion}
use Rattle.std.specs.Option.{option_and_then, option_map}
use Rattle.std.proofs.lemmas.Bool.{eq-eqb}
use Rattle.std.proofs.lemmas.Option.{same_Some, slice_get-map}
use Rattle.csp_ends.specs.Ends.{PlainNodeQueues, PlainSide, IsSideOf}
use Rattle.csp_lane.specs.Ends.{IsEndOf, PlainEnd, PlainLane as Queue}
use Rattle.csp_lists.specs.PlainDeck.{lane_room}
use Rattle.csp_posts.specs.Posts.{PlainPost}
use Rattle.csp_log.specs.Who.{is_who}
use Rattle.csp_log.specs.declared.who.Who.{Who}
use Rattle.csp_log.specs.declared.who.Who.TheVariants as who
use Rattle.csp_scene.specs.Scene.{PlainNode, PlainScene}
use Rattle.csp_standing.proofs.Places.{all_at, post_of}
use Rattle.csp_standing.specs.Network.{AreNodesOf, IsNetworkOf, PlainNetwork, SideName, name_of, sides_among, sides_at, sides_from}
use Rattle.csp_standing.specs.Shown.{IsWiredAt}
use Rattle.csp_topology.specs.Lanes.{PlainLane}
use Rattle.csp_topology.specs.Parties.{parties_of}
use Rattle.csp_topology.specs.Wired.{IsWire, Joins}
use Rattle.csp_topology.specs.Wires.{wire_at, wires_of}

-- a place of a list
pub record IsIn {X : Type 0} (xs : List X) (x : X) : Type 0 where
  pub place : ℕ
  pub at : slice_get xs place ≡ Some x

in_first : {X : Type 0} (xs ys : List X) (x : X) → IsIn xs x → IsIn (xs ++ ys) x
in_first {X = X} xs ys x i = record { place = i.place; at = by xs i.place i.at } where
  by : (zs : List X) (k : ℕ) → slice_get zs k ≡ Some x → slice_get (zs ++ ys) k ≡ Some x
  by [] k e = absurd cc
  by (z ∷ zs) zero e = e
  by (z ∷ zs) (suc k) e = by zs k e

in_second : {X : Type 0} (xs ys : List X) (y : X) → IsIn ys y → IsIn (xs ++ ys) y
in_second [] ys y i = i
in_second (x ∷ xs) ys y i = let r = in_second xs ys y i in record { place = suc r.place; at = r.at }

pub both_same : (a b : Bool) → a ≡ true → b ≡ true → (a && b) ≡ true
both_same true b e f = f
both_same false b e f = e

pub same_who : (w : Who) → is_who w w ≡ true
same_who (who.Router node) = eq-eqb node node refl
same_who (who.Bridge node) = eq-eqb node node refl
same_who (who.Iface node number) = both_same _ _ (eq-eqb node node refl) (eq-eqb number number refl)
same_who (who.App node number) = both_same _ _ (eq-eqb node node refl) (eq-eqb number number refl)
same_who (who.Link number) = eq-eqb number number refl

-- the end of a lane that puts, as a party calls it, and the end that gets
abbrev pub putting_end : ℕ → ℕ → PlainLane → SideName
putting_end node place l = record { queue = l.from.queue; node = node; lane = place; puts = true; carries = l.carries }

abbrev pub getting_end : ℕ → ℕ → PlainLane → SideName
getting_end node place l = record { queue = l.to.queue; node = node; lane = place; puts = false; carries = l.carries }

-- a party that uses an end of a lane has it
pub from_end : (w : Who) (node place : ℕ) (l : PlainLane) → l.from.who ≡ w → IsIn (sides_at w node place l) (putting_end node place l)
from_end w node place l at =
    let its : is_who w l.from.who ≡ true = ap (is_who w) at ∙ same_who w in
    in_first (if is_who w l.from.who then putting_end node place l ∷ [] else []) (if is_who w l.to.who then getting_end node place l ∷ [] else []) (putting_end node place l)
    (record { place = 0; at = ap (λ b. slice_get (if b then putting_end node place l ∷ [] else []) 0) its })

pub to_end : (w : Who) (node place : ℕ) (l : PlainLane) → l.to.who ≡ w → IsIn (sides_at w node place l) (getting_end node place l)
to_end w node place l at =
    let its : is_who w l.to.who ≡ true = ap (is_who w) at ∙ same_who w in
    in_second (if is_who w l.from.who then putting_end node place l ∷ [] else []) (if is_who w l.to.who then getting_end node place l ∷ [] else []) (getting_end node place l)
    (record { place = 0; at = ap (λ b. slice_get (if b then getting_end node place l ∷ [] else []) 0) its })

-- so it is among those of its node
in_lanes : (w : Who) (node base : ℕ) (ls : List PlainLane) (k : ℕ) (l : PlainLane) (name : SideName) → slice_get ls k ≡ Some l → IsIn (sides_at w node (base + k) l) name → IsIn (sides_among w node base ls) name
in_lanes w node base [] k l name e i = absurd cc
in_lanes w node base (x ∷ ls) zero l name e i =
    in_first (sides_at w node base x) (sides_among w node (base + 1) ls) name
    (subst (λ y. IsIn (sides_at w node base y) name) (sym (same_Some x l e)) (subst (λ m. IsIn (sides_at w node m l) name) (omega arith) i))
in_lanes w node base (x ∷ ls) (suc k) l name e i =
    in_second (sides_at w node base x) (sides_among w node (base + 1) ls) name
    (in_lanes w node (base + 1) ls k l name e (subst (λ m. IsIn (sides_at w node m l) name) (omega arith) i))

-- and among those of all nodes
pub in_nodes : (w : Who) (base : ℕ) (wires : List (List PlainLane)) (node k : ℕ) (l : PlainLane) (name : SideName) → option_and_then (λ ls. slice_get ls k) (slice_get wires node) ≡ Some l → IsIn (sides_at w (base + node) k l) name
    → IsIn (sides_from w base wires) name
in_nodes w base [] node k l name e i = absurd cc
in_nodes w base (ls ∷ wires) zero k l name e i =
    in_first (sides_among w base 0 ls) (sides_from w (base + 1) wires) name
    (in_lanes w base 0 ls k l name e (subst (λ m. IsIn (sides_at w m (0 + k) l) name) (omega arith) (subst (λ m. IsIn (sides_at w (base + 0) m l) name) (omega arith) i)))
in_nodes w base (ls ∷ wires) (suc node) k l name e i =
    in_second (sides_among w base 0 ls) (sides_from w (base + 1) wires) name
    (in_nodes w (base + 1) wires node k l name e (subst (λ m. IsIn (sides_at w m k l) name) (omega arith) i))

-- the end that has a name
pub record IsNamed (sides : List PlainSide) (name : SideName) : Type 0 where
  pub place : ℕ
  pub side : PlainSide
  pub at : slice_get sides place ≡ Some side
  pub named : name_of side ≡ name

pub named_side : (sides : List PlainSide) (name : SideName) → IsIn (map name_of sides) name → IsNamed sides name
named_side sides name i = by (slice_get sides i.place) refl (sym (slice_get-map name_of sides i.place) ∙ i.at) where
  by : (o : Option PlainSide) → slice_get sides i.place ≡ o → option_map name_of o ≡ Some name → IsNamed sides name
  by (Some x) at e = record { place = i.place; side = x; at = at; named = same_Some (name_of x) name e }
  by None at e = absurd cc

-- an end of a lane has the lane's room
lane_room_at : (ls : List Queue) (w : List PlainLane) (place : ℕ) (l : PlainLane) (e : PlainEnd) → map (λ x. x.room) ls ≡ map (λ x. lane_room x.queue) w → slice_get w place ≡ Some l → IsSomeAnd (slice_get ls place) (λ x. IsEndOf x e)
    → e.room ≡ lane_room l.queue
lane_room_at ls w place l e rooms at has =
    by (slice_get ls place) (sym (slice_get-map (λ x. x.room) ls place) ∙ ap (λ zs. slice_get zs place) rooms ∙ slice_get-map (λ x. lane_room x.queue) w place ∙ ap (option_map (λ x. lane_room x.queue)) at) has where
      by : (o : Option Queue) → option_map (λ x. x.room) o ≡ Some (lane_room l.queue) → IsSomeAnd o (λ x. IsEndOf x e) → e.room ≡ lane_room l.queue
      by (Some x) same is = is.room ∙ same_Some x.room (lane_room l.queue) same
      by None same is = absurd cc

room_at : (ms : List PlainNode) (wires : List (List PlainLane)) (qs : List PlainNodeQueues) (node place : ℕ) (l : PlainLane) (e : PlainEnd) → AreNodesOf ms wires qs
    → option_and_then (λ ls. slice_get ls place) (slice_get wires node) ≡ Some l → IsSomeAnd (slice_get qs node) (λ q. IsSomeAnd (slice_get q.lanes place) (λ x. IsEndOf x e)) → e.room ≡ lane_room l.queue
room_at (m ∷ ms) (w ∷ wires) (q ∷ qs) zero place l e h at has = lane_room_at q.lanes w place l e h.0.lanes at has
room_at (m ∷ ms) (w ∷ wires) (q ∷ qs) (suc node) place l e h at has = room_at ms wires qs node place l e h.1 at has
room_at [] [] [] node place l e h at has = absurd cc
room_at [] (w ∷ wires) qs node place l e h at has = absurd h
room_at [] [] (q ∷ qs) node place l e h at has = absurd h
room_at (m ∷ ms) [] qs node place l e h at has = absurd h
room_at (m ∷ ms) (w ∷ wires) [] node place l e h at has = absurd h

wired : (scene : PlainScene) (n : PlainNetwork) (posts : List PlainPost) → IsNetworkOf scene n posts → (l : PlainLane) → IsWire scene l → Joins scene l → IsWiredAt posts l
wired scene n posts net l w joins =
    let r = post_of scene n (parties_of scene) posts joins.from.place joins.from.party net.parties joins.from.at in
    let t = post_of scene n (parties_of scene) posts joins.to.place joins.to.party net.parties joins.to.at in
    let x = named_side r.post.ends.sides (putting_end l.node w.place l)
    (subst (λ names. IsIn names (putting_end l.node w.place l)) (sym r.its.sides)
    (in_nodes joins.from.party.who 0 (wires_of scene) l.node w.place l (putting_end l.node w.place l) w.at
    (subst (λ m. IsIn (sides_at joins.from.party.who m w.place l) (putting_end l.node w.place l)) (omega arith) (from_end joins.from.party.who l.node w.place l (sym joins.from.named))))) in
    let y = named_side t.post.ends.sides (getting_end l.node w.place l)
    (subst (λ names. IsIn names (getting_end l.node w.place l)) (sym t.its.sides)
    (in_nodes joins.to.party.who 0 (wires_of scene) l.node w.place l (getting_end l.node w.place l) w.at
    (subst (λ m. IsIn (sides_at joins.to.party.who m w.place l) (getting_end l.node w.place l)) (omega arith) (to_end joins.to.party.who l.node w.place l (sym joins.to.named))))) in
    let its = all_at (IsSideOf n.nodes) r.post.ends.sides x.place x.side r.its.from.of_it.sides x.at in
    record {
      i = joins.from.place;
      j = joins.to.place;
      s = r.post;
      t = t.post;
      x = x.side;
      y = y.side;
      joined = record {
        first = r.there;
        second = t.there;
        apart = joins.places;
        a = x.place;
        b = y.place;
        from = x.at;
        to = y.at;
        puts = ap (λ (m : SideName). m.puts) x.named;
        gets = ap (λ (m : SideName). m.puts) y.named;
        node = ap (λ (m : SideName). m.node) y.named ∙ sym (ap (λ (m : SideName). m.node) x.named);
        lane = ap (λ (m : SideName). m.lane) y.named ∙ sym (ap (λ (m : SideName). m.lane) x.named);
      };
      from = r.its.who ∙ joins.from.named;
      to = t.its.who ∙ joins.to.named;
      called_from = ap (λ (m : SideName). m.queue) x.named;
      called_to = ap (λ (m : SideName). m.queue) y.named;
      room = room_at scene.nodes (wires_of scene) n.nodes l.node w.place l x.side.end net.nodes w.at
          (subst (λ (m : SideName). IsSomeAnd (slice_get n.nodes m.node) (λ q. IsSomeAnd (slice_get q.lanes m.lane) (λ z. IsEndOf z x.side.end))) x.named its);
    }

-- what csp_topology says of lanes and who uses them
abbrev pub JoinsAll : PlainScene → Type 0
JoinsAll scene = (node k : ℕ) (l : PlainLane) → wire_at scene node k ≡ Some l → Joins scene l

pub all_wired : (scene : PlainScene) (n : PlainNetwork) (posts : List PlainPost) → IsNetworkOf scene n posts → JoinsAll scene → (ls : List PlainLane) → AllByRecursion (IsWire scene) ls → AllByRecursion (IsWiredAt posts) ls
all_wired scene n posts net joins [] h = tt
all_wired scene n posts net joins (l ∷ ls) h = (wired scene n posts net l h.0 (joins l.node h.0.place l h.0.at), all_wired scene n posts net joins ls h.1)
