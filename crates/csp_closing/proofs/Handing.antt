-- What is taken out of the hands of the parties.
use Rattle.std.proofs.Common.{◌≡◌, ◌≢◌, ◌+◌, ◌≤◌, ℕ, zero, suc, Option, Some, List, [], ◌∷◌, get_or, set, drop, sym, ap, ◌∙◌, subst}
use Rattle.std.specs.Prelude.{slice_get}
use Rattle.std.proofs.lemmas.Option.{same_Some, slice_get-get_or, slice_get_within}
use Rattle.csp_closing.proofs.Lists.{made_from}
use Rattle.csp_closing.proofs.Sides.{without_there}
use Rattle.csp_closing.specs.Retired.{PlainRest, all_homes, all_rest, all_sides, rest_of}
use Rattle.csp_closing.specs.Wires.{AreAllNext, AreNext, HaveRooms, IsFirstAt, without_ends, without_first}
use Rattle.csp_ends.specs.Ends.{PlainHome, PlainSide}
use Rattle.csp_lane.specs.Ends.{PlainLane}
use Rattle.csp_topology.specs.declared.wire.Wire.{Wire}
use Rattle.csp_arena.specs.Cells.{RegionName}
use Rattle.csp_posts.specs.declared.retired.Retired.{Retired}

-- the first end of a party was taken
taken_sides : (rs : List Retired) (place : ℕ) (r x : Retired) (s : PlainSide) → slice_get rs place ≡ Some r → r.ends.sides ≡ s ∷ x.ends.sides → all_sides (set rs place x) ≡ without_first place (all_sides rs)
taken_sides [] place r x s e f = absurd cc
taken_sides (y ∷ rs) zero r x s e f =
    let same : y ≡ r = same_Some y r e in
    ap (λ (ss : List PlainSide). drop 1 ss ∷ all_sides rs) (sym (ap (λ (z : Retired). z.ends.sides) same ∙ f))
taken_sides (y ∷ rs) (suc place) r x s e f = ap (λ (ss : List (List PlainSide)). y.ends.sides ∷ ss) (taken_sides rs place r x s e f)

-- nothing else of it
homes_stay : (rs : List Retired) (place : ℕ) (r x : Retired) → slice_get rs place ≡ Some r → x.ends.home ≡ r.ends.home → all_homes (set rs place x) ≡ all_homes rs
homes_stay [] place r x e f = absurd cc
homes_stay (y ∷ rs) zero r x e f = ap (λ (h : Option PlainHome). h ∷ all_homes rs) (f ∙ ap (λ (z : Retired). z.ends.home) (sym (same_Some y r e)))
homes_stay (y ∷ rs) (suc place) r x e f = ap (λ (hs : List (Option PlainHome)). y.ends.home ∷ hs) (homes_stay rs place r x e f)

rest_stays : (rs : List Retired) (place : ℕ) (r x : Retired) → slice_get rs place ≡ Some r → rest_of x ≡ rest_of r → all_rest (set rs place x) ≡ all_rest rs
rest_stays [] place r x e f = absurd cc
rest_stays (y ∷ rs) zero r x e f = ap (λ (h : PlainRest). h ∷ all_rest rs) (f ∙ ap rest_of (sym (same_Some y r e)))
rest_stays (y ∷ rs) (suc place) r x e f = ap (λ (hs : List PlainRest). rest_of y ∷ hs) (rest_stays rs place r x e f)

-- the party that has the first end at a place
pub first_of : (rs : List Retired) (place : ℕ) (s : PlainSide) → IsFirstAt (all_sides rs) place s → (r : Retired) × (slice_get rs place ≡ Some r) × (rest : List PlainSide) × (r.ends.sides ≡ s ∷ rest)
first_of rs place s f =
    let (r, at, is) = made_from (λ (r : Retired). r.ends.sides) rs place (s ∷ f.rest) f.there in
    (r, at, f.rest, is)

-- the first end of the party at a place was taken, and nothing else
pub record IsTaken (rs after : List Retired) (place : ℕ) : Type 0 where
  pub sides : all_sides after ≡ without_first place (all_sides rs)
  pub homes : all_homes after ≡ all_homes rs
  pub rest : all_rest after ≡ all_rest rs

pub taken_at : (rs : List Retired) (place : ℕ) (d x : Retired) (s t : PlainSide) → IsFirstAt (all_sides rs) place t → (get_or rs place d).ends.sides ≡ s ∷ x.ends.sides → x.ends.home ≡ (get_or rs place d).ends.home
    → rest_of x ≡ rest_of (get_or rs place d) → IsTaken rs (set rs place x) place
taken_at rs place d x s t first sides home rest =
    let found = first_of rs place t first in
    let r : Retired = get_or rs place d in
    let at : slice_get rs place ≡ Some r = slice_get-get_or rs place d (slice_get_within rs place found.0 found.1) in
    record { sides = taken_sides rs place r x s at sides; homes = homes_stay rs place r x at home; rest = rest_stays rs place r x at rest }

-- an end that comes first still does after another party's first was taken
pub still_first : (sides : List (List PlainSide)) (at other : ℕ) (s : PlainSide) → other ≢ at → IsFirstAt sides other s → IsFirstAt (without_first at sides) other s
still_first sides at other s h f = record { rest = f.rest; there = without_there at other sides h ∙ f.there }

-- the second end of a lane, once the first was taken
pub second_first : (sides after : List (List PlainSide)) (at at_code other other_code : ℕ) (s : PlainSide) → other ≢ at → at_code ≡ at → other_code ≡ other → after ≡ without_first at_code sides → IsFirstAt sides other s → IsFirstAt after other_code s
second_first sides after at at_code other other_code s apart e f taken h =
    let still = still_first sides at other s apart h in
    subst (λ (k : ℕ). IsFirstAt after k s) (sym f) (subst (λ (l : List (List PlainSide)). IsFirstAt l other s) (sym (taken ∙ ap (λ (k : ℕ). without_first k sides) e)) still)

-- what comes next of one lane and then of the others
pub next_split : (node lane : ℕ) (region : RegionName) (wires : List Wire) (lanes : List PlainLane) (sides : List (List PlainSide)) (w : Wire) (ws : List Wire) (l : PlainLane) (ls : List PlainLane) → AreAllNext node lane region wires lanes sides → wires ≡ w ∷ ws
    → lanes ≡ l ∷ ls → AreNext sides w l region node lane × AreAllNext node (lane + 1) region ws ls (without_ends w sides)
next_split node lane region wires lanes sides w ws l ls h e f = subst (λ (xs : List PlainLane). AreAllNext node lane region (w ∷ ws) xs sides) f (subst (λ (xs : List Wire). AreAllNext node lane region xs lanes sides) e h)

pub rooms_split : (lanes : List PlainLane) (rooms : List ℕ) (l : PlainLane) (ls : List PlainLane) (r : ℕ) (rs : List ℕ) → HaveRooms lanes rooms → lanes ≡ l ∷ ls → rooms ≡ r ∷ rs → (l.room ≤ r) × HaveRooms ls rs
rooms_split lanes rooms l ls r rs h e f = subst (λ (xs : List ℕ). HaveRooms (l ∷ ls) xs) f (subst (λ (xs : List PlainLane). HaveRooms xs rooms) e h)

-- they come next still where a node's memory is of the same region
pub next_at : (node lane : ℕ) (region other : RegionName) (wires : List Wire) (lanes : List PlainLane) (sides after : List (List PlainSide)) → other ≡ region → after ≡ sides → AreAllNext node lane region wires lanes sides → AreAllNext node lane other wires lanes after
next_at node lane region other wires lanes sides after e f h =
    subst (λ (r : RegionName). AreAllNext node lane r wires lanes after) (sym e) (subst (λ (ss : List (List PlainSide)). AreAllNext node lane region wires lanes ss) (sym f) h)
