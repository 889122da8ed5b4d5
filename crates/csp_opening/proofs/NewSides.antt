-- The ends of lanes that a party has before its first turn.
use Rattle.std.proofs.Common.{◌≡◌, ◌+◌, ◌<◌, ◌==◌, ℕ, zero, suc, Bool, true, false, List, [], ◌∷◌, ◌++◌, Option, None, Some, length, map, take, refl, sym, ap, ◌∙◌, subst, arith}
use Rattle.std.specs.Prelude.{IfSome, IsSomeAnd, slice_get, if◌then◌else◌}
use Rattle.std.specs.List.{AllByRecursion, AllZip}
use Rattle.std.specs.Option.{option_and_then, option_map}
use Rattle.std.proofs.lemmas.Bool.{eqb-true}
use Rattle.std.proofs.lemmas.Option.{same_Some, slice_get-map, slice_get_within}
use Rattle.csp_arena.specs.Cells.{RegionName}
use Rattle.csp_consistent.proofs.Public.{queue_same}
use Rattle.csp_consistent.specs.Reading.{is_queue}
use Rattle.csp_ends.proofs.Public.{get_within}
use Rattle.csp_ends.specs.Ends.{IsSideOf, PlainNodeQueues, PlainSide}
use Rattle.csp_ends.specs.Sides.{back_name}
use Rattle.csp_lane.specs.Ends as ways
use Rattle.csp_log.specs.declared.places.QueueId.{QueueId}
use Rattle.csp_log.specs.declared.places.QueueId.TheVariants as queue
use Rattle.csp_opening.proofs.Backs.{EndsApart, IsBehind, IsNamedLane, IsRow, TellsOf, named_end, rows_are, told_at}
use Rattle.csp_opening.proofs.Finding.{only_of, take_at, take_from}
use Rattle.csp_opening.proofs.Zipped.{placed_at}
use Rattle.csp_opening.specs.Handed.{getting, handed_among, handed_from, handed_of, putting}
use Rattle.csp_opening.specs.Opened.{AreLanes, AreNodesWith, ends_in, pair_of, pairs_on, queues_in, region_in, tally_named, told_tally}
use Rattle.csp_opening.specs.declared.lanes.Pair.{Pair}
use Rattle.csp_opening.specs.declared.nodes.Node.{Node}
use Rattle.csp_log.specs.declared.who.Who.{Who}
use Rattle.csp_scene.proofs.Public.{AllByRecursion-append}
use Rattle.csp_scene.specs.Scene.{PlainScene}
use Rattle.csp_standing.proofs.Public.{all_at}
use Rattle.csp_standing.specs.Network.{IsSideAmong}
use Rattle.csp_topology.specs.Lanes.{PlainLane}
use Rattle.csp_topology.specs.Parties.{parties_of}
use Rattle.csp_topology.specs.Plan.{PlainNodePlan, plans_from}
use Rattle.csp_topology.specs.Wired as wired
use Rattle.csp_topology.specs.Wires.{wire_at, wires_of}
use Rattle.csp_topology.specs.Wiring.{IsWireOf}
use Rattle.csp_topology.specs.declared.wire.Wire.{Wire}

-- a pair at a place of a node, with its lane, and the lane of the scene that it is
pub record IsPairAt (R : PlainLane → Wire → Type 0) (rows : List (List PlainLane)) (xs : List Node) (node k : ℕ) (x : Pair) : Type 0 where
  pub opened : Node
  pub there : slice_get xs node ≡ Some opened
  pub lane : ways.PlainLane
  pub lane_at : slice_get opened.lanes.lanes.items k ≡ Some lane
  pub is : x ≡ pair_of (region_in opened) x.wire lane
  pub wire : PlainLane
  pub at : placed_at rows node k ≡ Some wire
  pub of : R wire x.wire

-- one of a row
record IsPairIn (R : PlainLane → Wire → Type 0) (row : List PlainLane) (region : RegionName) (lanes : List ways.PlainLane) (k : ℕ) (x : Pair) : Type 0 where
  lane : ways.PlainLane
  lane_at : slice_get lanes k ≡ Some lane
  is : x ≡ pair_of region x.wire lane
  wire : PlainLane
  at : slice_get row k ≡ Some wire
  of : R wire x.wire

pair_in : (R : PlainLane → Wire → Type 0) (row : List PlainLane) (ws : List Wire) (region : RegionName) (lanes : List ways.PlainLane) (k : ℕ) (x : Pair) → AllZip R row ws → slice_get (pairs_on region ws lanes) k ≡ Some x
    → IsPairIn R row region lanes k x
pair_in R (l ∷ row) (w ∷ ws) region (y ∷ lanes) zero x h e =
    let same : pair_of region w y ≡ x = same_Some (pair_of region w y) x e in
    record {
      lane = y;
      lane_at = refl;
      is = sym same ∙ ap (λ (v : Wire). pair_of region v y) (ap (λ (p : Pair). p.wire) same);
      wire = l;
      at = refl;
      of = subst (λ (p : Pair). R l p.wire) same h.0;
    }
pair_in R (l ∷ row) (w ∷ ws) region (y ∷ lanes) (suc k) x h e =
    let r = pair_in R row ws region lanes k x h.1 e in
    record { lane = r.lane; lane_at = r.lane_at; is = r.is; wire = r.wire; at = r.at; of = r.of }
pair_in R row [] region lanes k x h e = absurd cc
pair_in R row (w ∷ ws) region [] k x h e = absurd cc
pair_in R [] (w ∷ ws) region (y ∷ lanes) k x h e = absurd h

pub pair_at : (R : PlainLane → Wire → Type 0) (nodes : List PlainNodePlan) (wires : List (List Wire)) (xs : List Node) (rows : List (List PlainLane)) (node k : ℕ) (x : Pair) → AreNodesWith nodes wires xs
    → AllZip (AllZip R) rows wires → placed_at (map ends_in xs) node k ≡ Some x → IsPairAt R rows xs node k x
pair_at R (n ∷ nodes) (ws ∷ wires) (y ∷ xs) (row ∷ rows) zero k x h z e =
    let r = pair_in R row ws (region_in y) y.lanes.lanes.items k x z.0 (ap (λ ps. slice_get ps k) (sym h.0.lanes.ends) ∙ e) in
    record { opened = y; there = refl; lane = r.lane; lane_at = r.lane_at; is = r.is; wire = r.wire; at = r.at; of = r.of }
pair_at R (n ∷ nodes) (ws ∷ wires) (y ∷ xs) (row ∷ rows) (suc node) k x h z e =
    let r = pair_at R nodes wires xs rows node k x h.1 z.1 e in
    record { opened = r.opened; there = r.there; lane = r.lane; lane_at = r.lane_at; is = r.is; wire = r.wire; at = r.at; of = r.of }
pair_at R nodes wires [] rows node k x h z e = absurd cc
pair_at R [] [] (y ∷ xs) rows node k x h z e = absurd h
pair_at R [] (ws ∷ wires) (y ∷ xs) rows node k x h z e = absurd h
pair_at R (n ∷ nodes) [] (y ∷ xs) rows node k x h z e = absurd h
pair_at R (n ∷ nodes) (ws ∷ wires) (y ∷ xs) [] node k x h z e = absurd z

-- the lanes of a node, and those of the scene that they are
record IsRowOf (R : PlainLane → Wire → Type 0) (rows : List (List PlainLane)) (node : ℕ) (y : Node) : Type 0 where
  row : List PlainLane
  at : slice_get rows node ≡ Some row
  wires : List Wire
  zip : AllZip R row wires
  lanes : AreLanes (region_in y) wires y.lanes

row_of : (R : PlainLane → Wire → Type 0) (nodes : List PlainNodePlan) (wires : List (List Wire)) (xs : List Node) (rows : List (List PlainLane)) (node : ℕ) (y : Node) → AreNodesWith nodes wires xs → AllZip (AllZip R) rows wires
    → slice_get xs node ≡ Some y → IsRowOf R rows node y
row_of R (n ∷ nodes) (ws ∷ wires) (x ∷ xs) (row ∷ rows) zero y h z e = subst (IsRowOf R (row ∷ rows) 0) (same_Some x y e) (record { row = row; at = refl; wires = ws; zip = z.0; lanes = h.0.lanes })
row_of R (n ∷ nodes) (ws ∷ wires) (x ∷ xs) (row ∷ rows) (suc node) y h z e =
    let r = row_of R nodes wires xs rows node y h.1 z.1 e in
    record { row = r.row; at = r.at; wires = r.wires; zip = r.zip; lanes = r.lanes }
row_of R nodes wires [] rows node y h z e = absurd cc
row_of R [] [] (x ∷ xs) rows node y h z e = absurd h
row_of R [] (ws ∷ wires) (x ∷ xs) rows node y h z e = absurd h
row_of R (n ∷ nodes) [] (x ∷ xs) rows node y h z e = absurd h
row_of R (n ∷ nodes) (ws ∷ wires) (x ∷ xs) [] node y h z e = absurd z

-- a lane of a row is one of the scene
wire_in : (scene : PlainScene) (node k : ℕ) (row : List PlainLane) (l : PlainLane) → slice_get (wires_of scene) node ≡ Some row → slice_get row k ≡ Some l → wire_at scene node k ≡ Some l
wire_in scene node k row l there at = ap (option_and_then (λ (ls : List PlainLane). slice_get ls k)) there ∙ at

-- of a node one lane alone goes down to an application
only_down : (scene : PlainScene) (node : ℕ) (row : List PlainLane) (hub : Who) (ws : List Wire) (region : RegionName) (lanes : List ways.PlainLane) (q : QueueId) (number place : ℕ) (back : PlainLane) (k : ℕ) (x : Pair)
    → EndsApart scene → slice_get (wires_of scene) node ≡ Some row → AllByRecursion (IsNamedLane hub) row → AllZip (IsWireOf scene) row ws → q ≡ queue.Down number → slice_get row place ≡ Some back → back.from ≡ named_end hub q
    → slice_get (pairs_on region ws lanes) k ≡ Some x → is_queue q x.wire.queue ≡ true → k ≡ place
only_down scene node row hub ws region lanes q number place back k x apart there named zip name at from e called =
    let p = pair_in (IsWireOf scene) row ws region lanes k x zip e in
    let n = all_at (IsNamedLane hub) row k p.wire named p.at in
    let down : is_queue (queue.Down number) p.wire.queue ≡ true = ap (is_queue (queue.Down number)) (sym p.of.named) ∙ ap (λ r. is_queue r x.wire.queue) (sym name) ∙ called in
    let ends = apart node node k place p.wire back wired.putting wired.putting (wire_in scene node k row p.wire there p.at) (wire_in scene node place row back there at)
    (n.down number down ∙ ap (named_end hub) (sym name) ∙ sym from) in
    ends.1

-- the tally of a lane is that of its ends
tally_of : (xs : List Node) (node k : ℕ) (x : Node) (l : ways.PlainLane) (e : ways.PlainEnd) → slice_get xs node ≡ Some x → slice_get x.lanes.lanes.items k ≡ Some l
    → IsSomeAnd (slice_get (map queues_in xs) node) (λ q. IsSomeAnd (slice_get q.lanes k) (λ z. ways.IsEndOf z e)) → e.tally ≡ l.tally
tally_of xs node k x l e there at h =
    let a = subst (λ o. IsSomeAnd o (λ (q : PlainNodeQueues). IsSomeAnd (slice_get q.lanes k) (λ z. ways.IsEndOf z e))) (slice_get-map queues_in xs node ∙ ap (option_map queues_in) there) h in
    let b : ways.IsEndOf l e = subst (λ o. IsSomeAnd o (λ z. ways.IsEndOf z e)) at a in
    b.tally

-- what the marks of a lane tell of, by the name of that other lane
told_by : (scene : PlainScene) (xs : List Node) (node : ℕ) (opened : Node) (row : List PlainLane) (hub : Who) (ws : List Wire) (k : ℕ) (wire : PlainLane) (about : Option ℕ) (o : Option QueueId) → EndsApart scene
    → slice_get xs node ≡ Some opened → slice_get (wires_of scene) node ≡ Some row → AllByRecursion (IsNamedLane hub) row → AllZip (IsWireOf scene) row ws → ends_in opened ≡ pairs_on (region_in opened) ws opened.lanes.lanes.items
    → k < length (ends_in opened) → IfSome o (IsBehind row hub k wire) → about ≡ option_and_then (λ other. tally_named other (take k (ends_in opened))) o → TellsOf scene (map queues_in xs) node wire about o
told_by scene xs node opened row hub ws k wire about None apart here there named zip ends low h e = e
told_by scene xs node opened row hub ws k wire about (Some q) apart here there named zip ends low h e =
    let g = get_within (ends_in opened) h.place (let first = h.before in omega (arith, first, low)) in
    let y : Pair = g.0 in
    let y_at : slice_get (ends_in opened) h.place ≡ Some y = g.1 in
    let p = pair_in (IsWireOf scene) row ws (region_in opened) opened.lanes.lanes.items h.place y zip (ap (λ ps. slice_get ps h.place) (sym ends) ∙ y_at) in
    let its : y.wire.queue ≡ q = p.of.named ∙ ap (λ (l : PlainLane). l.queue) (same_Some p.wire h.back (sym p.at ∙ h.at)) ∙ h.named in
    let called : is_queue q y.wire.queue ≡ true = ap (is_queue q) its ∙ queue_same q in
    let found = only_of (λ (z : Pair). is_queue q z.wire.queue) (take k (ends_in opened)) h.place y (take_at k (ends_in opened) h.place y y_at h.before) called (λ j z f same.
    only_down scene node row hub ws (region_in opened) opened.lanes.lanes.items q h.number h.place h.back j z apart there named zip h.name h.at h.from
    (ap (λ ps. slice_get ps j) (sym ends) ∙ take_from k (ends_in opened) j z f) same) in
    let tells : about ≡ Some p.lane.tally = e ∙ ap (option_map (λ (z : Pair). z.consumer.tally)) found ∙ ap (λ (z : Pair). Some z.consumer.tally) p.is in
    record {
      place = h.place;
      back = h.back;
      at = wire_in scene node h.place row h.back there h.at;
      from = h.from ∙ ap (λ w. named_end w q) (sym h.hub_is);
      to = h.to;
      tally = λ t its_lane. tells ∙ ap (λ n. Some n) (sym (tally_of xs node h.place opened p.lane t here p.lane_at its_lane));
    }

-- what the marks of a lane of a node tell of, and that its ends are named so
record IsLaneTold (scene : PlainScene) (nodes : List PlainNodeQueues) (node : ℕ) (wire : PlainLane) (about : Option ℕ) : Type 0 where
  from : back_name wire.from.queue ≡ back_name wire.queue
  to : back_name wire.to.queue ≡ back_name wire.queue
  tells : TellsOf scene nodes node wire about (back_name wire.queue)

lane_told : (scene : PlainScene) (wires : List (List Wire)) (xs : List Node) (node k : ℕ) (x : Pair) → EndsApart scene → AreNodesWith (plans_from 0 scene.nodes scene.links) wires xs → AllZip (AllZip (IsWireOf scene)) (wires_of scene) wires
    → placed_at (map ends_in xs) node k ≡ Some x → (r : IsPairAt (IsWireOf scene) (wires_of scene) xs node k x) → IsLaneTold scene (map queues_in xs) node r.wire x.producer.about
lane_told scene wires xs node k x apart nodes rows e r =
    let y = row_of (IsWireOf scene) (plans_from 0 scene.nodes scene.links) wires xs (wires_of scene) node r.opened nodes rows r.there in
    let row = all_at IsRow (wires_of scene) node y.row (rows_are scene) y.at in
    let at : slice_get y.row k ≡ Some r.wire = ap (option_and_then (λ (ls : List PlainLane). slice_get ls k)) (sym y.at) ∙ r.at in
    let named = all_at (IsNamedLane row.hub) y.row k r.wire row.named at in
    let here : slice_get (ends_in r.opened) k ≡ Some x = ap (option_and_then (λ (ps : List Pair). slice_get ps k)) (sym (slice_get-map ends_in xs node ∙ ap (option_map ends_in) r.there)) ∙ e in
    record {
      from = named.from;
      to = named.to;
      tells = told_by scene xs node r.opened y.row row.hub y.wires k r.wire x.producer.about (back_name r.wire.queue) apart r.there y.at row.named y.zip y.lanes.ends (slice_get_within (ends_in r.opened) k x here) (row.behind k r.wire at)
          (told_at [] (ends_in r.opened) k x y.lanes.told here ∙ ap (λ q. told_tally q (take k (ends_in r.opened))) r.of.named);
    }

-- of a pair, the ends that a party is handed are so
record AreSo (P : PlainSide → Type 0) (p node k : ℕ) (x : Pair) : Type 0 where
  from : (x.wire.from.party == p) ≡ true → P (putting node k x)
  to : (x.wire.to.party == p) ≡ true → P (getting node k x)

so_one : (P : PlainSide → Type 0) (p node k : ℕ) (x : Pair) → AreSo P p node k x → AllByRecursion P (handed_of p node k x)
so_one P p node k x h = by (x.wire.from.party == p) (x.wire.to.party == p) refl refl where
  by : (c d : Bool) → (x.wire.from.party == p) ≡ c → (x.wire.to.party == p) ≡ d → AllByRecursion P ((if c then putting node k x ∷ [] else []) ++ (if d then getting node k x ∷ [] else []))
  by true true a b = (h.from a, (h.to b, tt))
  by true false a b = (h.from a, tt)
  by false true a b = (h.to b, tt)
  by false false a b = tt

so_among : (P : PlainSide → Type 0) (p node first : ℕ) (xs : List Pair) → ((k j : ℕ) (x : Pair) → slice_get xs k ≡ Some x → j ≡ first + k → AreSo P p node j x) → AllByRecursion P (handed_among p node first xs)
so_among P p node first [] h = tt
so_among P p node first (x ∷ xs) h =
    AllByRecursion-append P (handed_of p node first x) (handed_among p node (first + 1) xs) (so_one P p node first x (h 0 first x refl (omega arith)))
    (so_among P p node (first + 1) xs (λ k j y e same. h (suc k) j y e (omega (arith, same))))

so_from : (P : PlainSide → Type 0) (p first : ℕ) (pairs : List (List Pair)) → ((node j k : ℕ) (x : Pair) → placed_at pairs node k ≡ Some x → j ≡ first + node → AreSo P p j k x) → AllByRecursion P (handed_from p first pairs)
so_from P p first [] h = tt
so_from P p first (xs ∷ pairs) h =
    AllByRecursion-append P (handed_among p first 0 xs) (handed_from p (first + 1) pairs)
    (so_among P p first 0 xs (λ k j x e same. subst (λ m. AreSo P p first m x) (omega (arith, same)) (h 0 first k x e (omega arith))))
    (so_from P p (first + 1) pairs (λ node j k x e same. h (suc node) j k x e (omega (arith, same))))

-- which side of a lane an end is of
abbrev pub side_by : Bool → wired.Side
side_by true = wired.putting
side_by false = wired.getting

-- an end of a lane of a scene in the hand of a party, through which nothing went, and what its marks are to tell of
pub record IsSideNew (scene : PlainScene) (nodes : List PlainNodeQueues) (regions : List RegionName) (w : Who) (s : PlainSide) : Type 0 where
  pub of_it : IsSideOf nodes s
  pub among : IsSideAmong regions s
  pub none : s.end.items ≡ []
  pub wire : PlainLane
  pub at : wire_at scene s.node s.lane ≡ Some wire
  pub called : wired.end_on (side_by s.puts) wire ≡ record { who = w; queue = s.queue }
  pub carries : s.end.carries ≡ wire.carries
  pub marks : s.end.marks ≡ []
  pub told : TellsOf scene nodes s.node wire s.end.about (back_name s.queue)

-- the lane of an end is there
lane_there : (xs : List Node) (node k : ℕ) (x : Node) (l : ways.PlainLane) (e : ways.PlainEnd) → slice_get xs node ≡ Some x → slice_get x.lanes.lanes.items k ≡ Some l → ways.IsEndOf l e
    → IsSomeAnd (slice_get (map queues_in xs) node) (λ q. IsSomeAnd (slice_get q.lanes k) (λ z. ways.IsEndOf z e))
lane_there xs node k x l e there at is =
    subst (λ o. IsSomeAnd o (λ (q : PlainNodeQueues). IsSomeAnd (slice_get q.lanes k) (λ z. ways.IsEndOf z e))) (sym (slice_get-map queues_in xs node ∙ ap (option_map queues_in) there))
    (subst (λ o. IsSomeAnd o (λ z. ways.IsEndOf z e)) (sym at) is)

-- the party at a place
party_is : (ws : List Who) (p k : ℕ) (v w : Who) → slice_get ws p ≡ Some v → slice_get ws k ≡ Some w → (k == p) ≡ true → w ≡ v
party_is ws p k v w at there e = same_Some w v (sym there ∙ ap (slice_get ws) (eqb-true k p e) ∙ at)

both_ends : (scene : PlainScene) (wires : List (List Wire)) (xs : List Node) (p : ℕ) (v : Who) → EndsApart scene → slice_get (map (λ o. o.who) (parties_of scene)) p ≡ Some v → AreNodesWith (plans_from 0 scene.nodes scene.links) wires xs
    → AllZip (AllZip (IsWireOf scene)) (wires_of scene) wires → (node k : ℕ) (x : Pair) → placed_at (map ends_in xs) node k ≡ Some x → AreSo (IsSideNew scene (map queues_in xs) (map region_in xs) v) p node k x
both_ends scene wires xs p v apart at nodes rows node k x e =
    let r = pair_at (IsWireOf scene) (plans_from 0 scene.nodes scene.links) wires xs (wires_of scene) node k x nodes rows e in
    let region = slice_get-map region_in xs node ∙ ap (option_map region_in) r.there in
    let producer : x.producer ≡ ways.fresh_end r.lane (region_in r.opened) x.wire.carries = ap (λ (q : Pair). q.producer) r.is in
    let consumer : x.consumer ≡ ways.fresh_end r.lane (region_in r.opened) x.wire.carries = ap (λ (q : Pair). q.consumer) r.is in
    let told = lane_told scene wires xs node k x apart nodes rows e r in
    let both : x.producer.about ≡ x.consumer.about = ap (λ (z : ways.PlainEnd). z.about) (producer ∙ sym consumer) in
    record {
      from = λ its. record {
        of_it = lane_there xs node k r.opened r.lane x.producer r.there r.lane_at (record { lane = ap (λ (z : ways.PlainEnd). z.lane) producer; room = ap (λ (z : ways.PlainEnd). z.room) producer; tally = ap (λ (z : ways.PlainEnd). z.tally) producer; about = ap (λ (z : ways.PlainEnd). z.about) producer });
        among = region ∙ ap (λ (z : ways.PlainEnd). Some z.region) (sym producer);
        none = ap (λ (z : ways.PlainEnd). z.items) producer;
        wire = r.wire;
        at = r.at;
        called = (let name = party_is (map (λ o. o.who) (parties_of scene)) p x.wire.from.party v r.wire.from.who at r.of.from.party its in λ i. record { who = name i; queue = sym r.of.from.called i });
        carries = ap (λ (z : ways.PlainEnd). z.carries) producer ∙ r.of.carries;
        marks = ap (λ (z : ways.PlainEnd). z.marks) producer;
        told = subst (TellsOf scene (map queues_in xs) node r.wire x.producer.about) (sym (ap back_name r.of.from.called ∙ told.from)) told.tells;
      };
      to = λ its. record {
        of_it = lane_there xs node k r.opened r.lane x.consumer r.there r.lane_at (record { lane = ap (λ (z : ways.PlainEnd). z.lane) consumer; room = ap (λ (z : ways.PlainEnd). z.room) consumer; tally = ap (λ (z : ways.PlainEnd). z.tally) consumer; about = ap (λ (z : ways.PlainEnd). z.about) consumer });
        among = region ∙ ap (λ (z : ways.PlainEnd). Some z.region) (sym consumer);
        none = ap (λ (z : ways.PlainEnd). z.items) consumer;
        wire = r.wire;
        at = r.at;
        called = (let name = party_is (map (λ o. o.who) (parties_of scene)) p x.wire.to.party v r.wire.to.who at r.of.to.party its in λ i. record { who = name i; queue = sym r.of.to.called i });
        carries = ap (λ (z : ways.PlainEnd). z.carries) consumer ∙ r.of.carries;
        marks = ap (λ (z : ways.PlainEnd). z.marks) consumer;
        told = subst (λ about. TellsOf scene (map queues_in xs) node r.wire about (back_name x.wire.to.queue)) both
            (subst (TellsOf scene (map queues_in xs) node r.wire x.producer.about) (sym (ap back_name r.of.to.called ∙ told.to)) told.tells);
      };
    }

-- so is each end that a party is handed
pub sides_new : (scene : PlainScene) (wires : List (List Wire)) (xs : List Node) (p : ℕ) (v : Who) → EndsApart scene → slice_get (map (λ o. o.who) (parties_of scene)) p ≡ Some v → AreNodesWith (plans_from 0 scene.nodes scene.links) wires xs
    → AllZip (AllZip (IsWireOf scene)) (wires_of scene) wires → AllByRecursion (IsSideNew scene (map queues_in xs) (map region_in xs) v) (handed_from p 0 (map ends_in xs))
sides_new scene wires xs p v apart at nodes rows =
    so_from (IsSideNew scene (map queues_in xs) (map region_in xs) v) p 0 (map ends_in xs) (λ node j k x e same.
    subst (λ m. AreSo (IsSideNew scene (map queues_in xs) (map region_in xs) v) p m k x) (omega (arith, same)) (both_ends scene wires xs p v apart at nodes rows node k x e))
