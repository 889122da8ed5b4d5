-- Of which other lane of its node the marks of each lane tell.
use Rattle.std.proofs.Common.{◌≡◌, ◌+◌, ◌<◌, ℕ, zero, suc, true, List, [], ◌∷◌, ◌++◌, Option, None, Some, length, map, take, refl, sym, ap, ◌∙◌, subst, arith}
use Rattle.std.specs.Prelude.{IfSome, IsSomeAnd, slice_get}
use Rattle.std.specs.List.{AllByRecursion, range_with_len}
use Rattle.std.specs.Option.{option_map}
use Rattle.std.proofs.lemmas.Bool.{eqb-true}
use Rattle.std.proofs.lemmas.List.{append-nil, append_assoc, length-map}
use Rattle.std.proofs.lemmas.Option.{same_Some, slice_get-map, slice_get_within}
use Rattle.csp_consistent.specs.Reading.{is_queue}
use Rattle.csp_ends.specs.Ends.{PlainNodeQueues}
use Rattle.csp_ends.specs.Sides.{back_name}
use Rattle.csp_lane.specs.Ends as ways
use Rattle.csp_log.specs.declared.places.QueueId.{QueueId}
use Rattle.csp_log.specs.declared.places.QueueId.TheVariants as queue
use Rattle.csp_opening.specs.Opened.{AreTold, told_tally}
use Rattle.csp_opening.specs.declared.lanes.Pair.{Pair}
use Rattle.csp_log.specs.declared.who.Who.{Who}
use Rattle.csp_scene.proofs.Public.{AllByRecursion-append}
use Rattle.csp_scene.specs.Links.{links_at}
use Rattle.csp_scene.specs.Scene.{PlainLink, PlainNode, PlainScene}
use Rattle.csp_topology.specs.Lanes.{PlainEnd, PlainLane, leader_of, out_lane}
use Rattle.csp_topology.specs.Wired as wired
use Rattle.csp_topology.specs.Wires.{PlainJoint, down_lane, joints_at, joints_from, rx_lane, tx_lane, up_lane, wire_at, wires_from, wires_of, wires_with}

-- what is said of one lane more
pub told_more : (before pairs : List Pair) (x : Pair) → AreTold before pairs → x.producer.about ≡ told_tally x.wire.queue (before ++ pairs) → AreTold before (pairs ++ x ∷ [])
told_more before [] x h e = (e ∙ ap (told_tally x.wire.queue) (append-nil before), tt)
told_more before (y ∷ pairs) x h e = (h.0, told_more (before ++ y ∷ []) pairs x h.1 (e ∙ ap (told_tally x.wire.queue) (sym (append_assoc before (y ∷ []) pairs))))

-- and of the one at a place
pub told_at : (before pairs : List Pair) (k : ℕ) (x : Pair) → AreTold before pairs → slice_get pairs k ≡ Some x → x.producer.about ≡ told_tally x.wire.queue (before ++ take k pairs)
told_at before [] k x h e = absurd cc
told_at before (y ∷ pairs) zero x h e =
    subst (λ (z : Pair). z.producer.about ≡ told_tally z.wire.queue (before ++ [])) (same_Some y x e) (h.0 ∙ ap (told_tally y.wire.queue) (sym (append-nil before)))
told_at before (y ∷ pairs) (suc k) x h e = told_at (before ++ y ∷ []) pairs k x h.1 e ∙ ap (told_tally x.wire.queue) (append_assoc before (y ∷ []) (take k pairs))

-- an end of a lane, as its party calls it
abbrev pub named_end : Who → QueueId → PlainEnd
named_end w q = record { who = w; queue = q }

-- the ends of a lane are named like it, as far as marks go; and what goes down goes down from the hub
pub record IsNamedLane (hub : Who) (l : PlainLane) : Type 0 where
  pub from : back_name l.from.queue ≡ back_name l.queue
  pub to : back_name l.to.queue ≡ back_name l.queue
  pub down : (number : ℕ) → is_queue (queue.Down number) l.queue ≡ true → l.from ≡ named_end hub (queue.Down number)

-- the lane that the marks of this one tell of stands before it in its row, and goes the other way
pub record IsBehind (row : List PlainLane) (hub : Who) (k : ℕ) (l : PlainLane) (q : QueueId) : Type 0 where
  pub number : ℕ
  pub name : q ≡ queue.Down number
  pub hub_is : l.to.who ≡ hub
  pub place : ℕ
  pub back : PlainLane
  pub at : slice_get row place ≡ Some back
  pub before : place < k
  pub named : back.queue ≡ q
  pub from : back.from ≡ named_end hub q
  pub to : back.to ≡ named_end l.from.who q

abbrev pub StandsBehind : List PlainLane → Who → ℕ → PlainLane → Type 0
StandsBehind row hub k l = IfSome (back_name l.queue) (IsBehind row hub k l)

-- the lanes of a node
pub record IsRow (row : List PlainLane) : Type 0 where
  pub hub : Who
  pub named : AllByRecursion (IsNamedLane hub) row
  pub behind : (k : ℕ) (l : PlainLane) → slice_get row k ≡ Some l → StandsBehind row hub k l

-- marks of lanes that stand further on
is_past : (x : PlainLane) (row : List PlainLane) (hub : Who) (k : ℕ) (l : PlainLane) (o : Option QueueId) → IfSome o (IsBehind row hub k l) → IfSome o (IsBehind (x ∷ row) hub (suc k) l)
is_past x row hub k l None h = tt
is_past x row hub k l (Some q) h = record {
  number = h.number;
  name = h.name;
  hub_is = h.hub_is;
  place = suc h.place;
  back = h.back;
  at = h.at;
  before = (let low = h.before in omega (arith, low));
  named = h.named;
  from = h.from;
  to = h.to;
}

-- a lane has no marks
abbrev IsMarkless : PlainLane → Type 0
IsMarkless l = back_name l.queue ≡ None

past : (hub : Who) (xs ys : List PlainLane) → AllByRecursion IsMarkless xs → ((k : ℕ) (l : PlainLane) → slice_get ys k ≡ Some l → StandsBehind ys hub k l) → (k : ℕ) (l : PlainLane) → slice_get (xs ++ ys) k ≡ Some l
    → StandsBehind (xs ++ ys) hub k l
past hub [] ys h f k l e = f k l e
past hub (x ∷ xs) ys h f zero l e = subst (λ o. IfSome o (IsBehind (x ∷ (xs ++ ys)) hub zero l)) (sym (ap (λ (z : PlainLane). back_name z.queue) (sym (same_Some x l e)) ∙ h.0)) tt
past hub (x ∷ xs) ys h f (suc k) l e = is_past x (xs ++ ys) hub k l (back_name l.queue) (past hub xs ys h.1 f k l e)

-- an element of two lists
data Among (xs ys : List PlainLane) (k : ℕ) (l : PlainLane) : Type 0 where
  of_first : slice_get xs k ≡ Some l → Among xs ys k l
  of_second : (j : ℕ) → k ≡ length xs + j → slice_get ys j ≡ Some l → Among xs ys k l

among : (xs ys : List PlainLane) (k : ℕ) (l : PlainLane) → slice_get (xs ++ ys) k ≡ Some l → Among xs ys k l
among [] ys k l e = of_second k (omega arith) e
among (x ∷ xs) ys zero l e = of_first e
among (x ∷ xs) ys (suc k) l e = more (among xs ys k l e) where
  more : Among xs ys k l → Among (x ∷ xs) ys (suc k) l
  more (of_first f) = of_first f
  more (of_second j at f) = of_second j (omega (arith, at)) f

get_first : (xs ys : List PlainLane) (k : ℕ) (l : PlainLane) → slice_get xs k ≡ Some l → slice_get (xs ++ ys) k ≡ Some l
get_first [] ys k l e = absurd cc
get_first (x ∷ xs) ys zero l e = e
get_first (x ∷ xs) ys (suc k) l e = get_first xs ys k l e

-- the number of which a lane is made
made_of : (f : ℕ → PlainLane) (ns : List ℕ) (k : ℕ) (l : PlainLane) → slice_get (map f ns) k ≡ Some l → (n : ℕ) × (slice_get ns k ≡ Some n) × (f n ≡ l)
made_of f [] k l e = absurd cc
made_of f (n ∷ ns) zero l e = (n, refl, same_Some (f n) l e)
made_of f (n ∷ ns) (suc k) l e = made_of f ns k l e

-- what goes up stands behind what goes down
ups : (node : ℕ) (hub : Who) (ns : List ℕ) (k : ℕ) (l : PlainLane) → slice_get (map (down_lane node hub) ns ++ map (up_lane node hub) ns) k ≡ Some l
    → StandsBehind (map (down_lane node hub) ns ++ map (up_lane node hub) ns) hub k l
ups node hub ns k l e = by (among (map (down_lane node hub) ns) (map (up_lane node hub) ns) k l e) where
  by : Among (map (down_lane node hub) ns) (map (up_lane node hub) ns) k l → StandsBehind (map (down_lane node hub) ns ++ map (up_lane node hub) ns) hub k l
  by (of_first f) =
      let m = made_of (down_lane node hub) ns k l f in
      subst (λ z. StandsBehind (map (down_lane node hub) ns ++ map (up_lane node hub) ns) hub k z) m.2 tt
  by (of_second j at f) =
      let m = made_of (up_lane node hub) ns j l f in
      subst (λ z. StandsBehind (map (down_lane node hub) ns ++ map (up_lane node hub) ns) hub k z) m.2 (record {
        number = m.0;
        name = refl;
        hub_is = refl;
        place = j;
        back = down_lane node hub m.0;
        at = get_first (map (down_lane node hub) ns) (map (up_lane node hub) ns) j (down_lane node hub m.0) (slice_get-map (down_lane node hub) ns j ∙ ap (option_map (down_lane node hub)) m.1);
        before = (let long = length-map ns (down_lane node hub) in let low = slice_get_within ns j m.0 m.1 in omega (arith, at, long, low));
        named = refl;
        from = refl;
        to = refl;
      })

all_map : {A B : Type 0} → (P : B → Type 0) (f : A → B) → ((x : A) → P (f x)) → (xs : List A) → AllByRecursion P (map f xs)
all_map P f each [] = tt
all_map P f each (x ∷ xs) = (each x, all_map P f each xs)

-- what holds of each kind of lane holds of all lanes of a node
pub each_lane : (P : PlainLane → Type 0) (node : ℕ) (hub : Who) (joints : List PlainJoint) (ifaces apps : ℕ) → ((j : PlainJoint) → P (rx_lane j)) → ((j : PlainJoint) → P (tx_lane j)) → ((k : ℕ) → P (out_lane node hub k))
    → ((k : ℕ) → P (down_lane node hub k)) → ((k : ℕ) → P (up_lane node hub k)) → AllByRecursion P (wires_with node hub joints ifaces apps)
each_lane P node hub joints ifaces apps in_rx in_tx in_out in_down in_up =
    let rx = map rx_lane joints in
    let tx = map tx_lane joints in
    let out = map (out_lane node hub) (range_with_len 0 ifaces) in
    let down = map (down_lane node hub) (range_with_len 0 apps) in
    let up = map (up_lane node hub) (range_with_len 0 apps) in
    AllByRecursion-append P rx (tx ++ (out ++ (down ++ up))) (all_map P rx_lane in_rx joints)
    (AllByRecursion-append P tx (out ++ (down ++ up)) (all_map P tx_lane in_tx joints)
    (AllByRecursion-append P out (down ++ up) (all_map P (out_lane node hub) in_out (range_with_len 0 ifaces))
    (AllByRecursion-append P down up (all_map P (down_lane node hub) in_down (range_with_len 0 apps)) (all_map P (up_lane node hub) in_up (range_with_len 0 apps)))))

is_row : (node : ℕ) (hub : Who) (joints : List PlainJoint) (ifaces apps : ℕ) → IsRow (wires_with node hub joints ifaces apps)
is_row node hub joints ifaces apps =
    let rx = map rx_lane joints in
    let tx = map tx_lane joints in
    let out = map (out_lane node hub) (range_with_len 0 ifaces) in
    let down = map (down_lane node hub) (range_with_len 0 apps) in
    let up = map (up_lane node hub) (range_with_len 0 apps) in
    record {
      hub = hub;
      named = each_lane (IsNamedLane hub) node hub joints ifaces apps (λ j. record { from = refl; to = refl; down = λ n e. absurd cc }) (λ j. record { from = refl; to = refl; down = λ n e. absurd cc })
          (λ k. record { from = refl; to = refl; down = λ n e. absurd cc }) (λ k. record { from = refl; to = refl; down = λ n e. ap (λ m. named_end hub (queue.Down m)) (eqb-true k n e) })
          (λ k. record { from = refl; to = refl; down = λ n e. absurd cc });
      behind =
          past hub rx (tx ++ (out ++ (down ++ up))) (all_map IsMarkless rx_lane (λ j. refl) joints)
          (past hub tx (out ++ (down ++ up)) (all_map IsMarkless tx_lane (λ j. refl) joints)
          (past hub out (down ++ up) (all_map IsMarkless (out_lane node hub) (λ k. refl) (range_with_len 0 ifaces)) (ups node hub (range_with_len 0 apps))));
    }

rows_from : (place : ℕ) (nodes : List PlainNode) (links : List PlainLink) → AllByRecursion IsRow (wires_from place nodes links)
rows_from place [] links = tt
rows_from place (n ∷ nodes) links = (is_row place (leader_of place n.addr) (joints_at place (joints_from 0 links)) (length (links_at place links)) (length n.apps), rows_from (place + 1) nodes links)

-- so are those of each node of a scene
pub rows_are : (scene : PlainScene) → AllByRecursion IsRow (wires_of scene)
unfolding wires_of
rows_are scene = rows_from 0 scene.nodes scene.links

-- the lane that the marks of a lane tell of is one of its node, and goes the other way: its tally is that of any end of it
pub record HasBack (scene : PlainScene) (nodes : List PlainNodeQueues) (node : ℕ) (wire : PlainLane) (about : Option ℕ) (q : QueueId) : Type 0 where
  pub place : ℕ
  pub back : PlainLane
  pub at : wire_at scene node place ≡ Some back
  pub from : back.from ≡ named_end wire.to.who q
  pub to : back.to ≡ named_end wire.from.who q
  pub tally : (e : ways.PlainEnd) → IsSomeAnd (slice_get nodes node) (λ x. IsSomeAnd (slice_get x.lanes place) (λ l. ways.IsEndOf l e)) → about ≡ Some e.tally

-- what the marks of a lane tell of, by the name of that other lane
abbrev pub TellsOf : PlainScene → List PlainNodeQueues → ℕ → PlainLane → Option ℕ → Option QueueId → Type 0
TellsOf scene nodes node wire about None = about ≡ None
TellsOf scene nodes node wire about (Some q) = HasBack scene nodes node wire about q

-- what csp_topology says of names of ends
abbrev pub EndsApart : PlainScene → Type 0
EndsApart scene = (n m k j : ℕ) (l o : PlainLane) (s t : wired.Side) → wire_at scene n k ≡ Some l → wire_at scene m j ≡ Some o → wired.end_on s l ≡ wired.end_on t o → (n ≡ m) × (k ≡ j) × (s ≡ t)
