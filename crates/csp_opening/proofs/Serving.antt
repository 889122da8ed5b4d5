-- What a party has in hand before its first turn is what it uses.
use Rattle.std.proofs.Common.{◌≡◌, ◌⊎◌, inl, inr, ℕ, Bool, true, false, true≢false, List, Option, None, Some, map, refl, sym, ap, ◌∙◌, subst, arith}
use Rattle.std.specs.Prelude.{IfSome, IsSomeAnd, not, slice_get, if◌then◌else◌}
use Rattle.std.specs.List.{AllByRecursion, find}
use Rattle.std.specs.Option.{option_map}
use Rattle.std.proofs.lemmas.Option.{same_Some}
use Rattle.csp_arena.specs.Cells.{RegionName}
use Rattle.csp_consistent.proofs.Public.{queue_is, queue_same}
use Rattle.csp_consistent.specs.Reading.{is_queue}
use Rattle.csp_ends.proofs.Public.{none_of}
use Rattle.csp_ends.specs.Ends.{AreApart, AreEnds, IsWithin, PlainEnds, PlainHome, PlainNodeQueues, PlainSide, region_or, rule_of, side_named}
use Rattle.csp_ends.specs.Sides.{IsBacked, back_name, is_back_by, is_turned}
use Rattle.csp_lane.specs.Ends as ways
use Rattle.csp_lists.specs.PlainDeck.{IsLinkRule}
use Rattle.csp_log.specs.declared.places.QueueId.{QueueId}
use Rattle.csp_log.specs.declared.places.QueueId.TheVariants as queue
use Rattle.csp_log.specs.declared.places.Rule.{Rule}
use Rattle.csp_log.specs.declared.places.Rule.TheVariants as rule
use Rattle.csp_opening.proofs.Backs.{EndsApart, TellsOf, named_end}
use Rattle.csp_opening.proofs.Finding.{only_of}
use Rattle.csp_opening.proofs.NewHomes.{IsHomeNew}
use Rattle.csp_opening.proofs.Named.{both_true}
use Rattle.csp_opening.proofs.NewSides.{IsSideNew, side_by}
use Rattle.csp_opening.proofs.Spread.{SameSpot}
use Rattle.csp_log.specs.Who.{node_of}
use Rattle.csp_log.specs.declared.who.Who.{Who}
use Rattle.csp_scene.specs.Scene.{PlainScene}
use Rattle.csp_standing.proofs.Public.{all_at, all_from, home_named, IsIn, both_same, from_end, in_nodes, named_side, to_end}
use Rattle.csp_standing.specs.Network.{SideName, name_of, sides_at, sides_of}
use Rattle.csp_topology.specs.Lanes.{PlainEnd, PlainLane}
use Rattle.csp_topology.specs.Wired as wired
use Rattle.csp_topology.specs.Wires.{wire_at, wires_of}

-- the end of a lane on a side, as a party calls it
abbrev puts_on : wired.Side → Bool
puts_on wired.putting = true
puts_on wired.getting = false

abbrev called_end : ℕ → ℕ → PlainLane → wired.Side → SideName
called_end node place l s = record { queue = (wired.end_on s l).queue; node = node; lane = place; puts = puts_on s; carries = l.carries }

-- a party that uses an end of a lane has it
in_lane : (w : Who) (node place : ℕ) (l : PlainLane) (s : wired.Side) → (wired.end_on s l).who ≡ w → IsIn (sides_at w node place l) (called_end node place l s)
in_lane w node place l wired.putting at = from_end w node place l at
in_lane w node place l wired.getting at = to_end w node place l at

-- what csp_topology says of where lanes are
abbrev pub AllHome : PlainScene → Type 0
AllHome scene = (node k : ℕ) (l : PlainLane) → wire_at scene node k ≡ Some l → wired.StaysHome scene node l

-- and of what lanes are called
abbrev pub AllCalled : PlainScene → Type 0
AllCalled scene = (node k : ℕ) (l : PlainLane) (s : wired.Side) → wire_at scene node k ≡ Some l → is_queue queue.Inbox (wired.end_on s l).queue ≡ false

puts_back : (c : Bool) → puts_on (side_by c) ≡ c
puts_back true = refl
puts_back false = refl

puts_same : (a b : Bool) → side_by a ≡ side_by b → a ≡ b
puts_same a b e = sym (puts_back a) ∙ ap puts_on e ∙ puts_back b

-- two ends of one name are of one spot
one_spot : (scene : PlainScene) (nodes : List PlainNodeQueues) (regions : List RegionName) (w : Who) (s t : PlainSide) → EndsApart scene → IsSideNew scene nodes regions w s → IsSideNew scene nodes regions w t
    → is_queue s.queue t.queue ≡ true → SameSpot s t
one_spot scene nodes regions w s t apart a b e =
    let same = queue_is s.queue t.queue e in
    let ends = apart s.node t.node s.lane t.lane a.wire b.wire (side_by s.puts) (side_by t.puts) a.at b.at (a.called ∙ (λ i. record { who = w; queue = same i }) ∙ sym b.called) in
    record { node = ends.0; lane = ends.1; puts = puts_same s.puts t.puts ends.2 }

-- what goes through an end is of the region of the party's home, where it is of any
within_home : (scene : PlainScene) (nodes : List PlainNodeQueues) (regions : List RegionName) (w : Who) (opened : List ℕ) (home : Option PlainHome) (s : PlainSide) → AllHome scene → IsHomeNew nodes regions w opened home
    → IsSideNew scene nodes regions w s → IsWithin (region_or home) s
within_home scene nodes regions w opened home s stays new is = λ plain. by plain (own (side_by s.puts) is.called (stays s.node s.lane is.wire is.at)) where
  own : (d : wired.Side) → wired.end_on d is.wire ≡ record { who = w; queue = s.queue } → wired.StaysHome scene s.node is.wire → (node_of w ≡ Some s.node) ⊎ IsLinkRule is.wire.carries
  own wired.putting named h = end named h.from where
    end : is.wire.from ≡ record { who = w; queue = s.queue } → wired.IsEndOf s.node is.wire is.wire.from → (node_of w ≡ Some s.node) ⊎ IsLinkRule is.wire.carries
    end name (inl o) = inl (ap (λ (e : PlainEnd). node_of e.who) (sym name) ∙ o.home)
    end name (inr l) = inr l.frames
  own wired.getting named h = end named h.to where
    end : is.wire.to ≡ record { who = w; queue = s.queue } → wired.IsEndOf s.node is.wire is.wire.to → (node_of w ≡ Some s.node) ⊎ IsLinkRule is.wire.carries
    end name (inl o) = inl (ap (λ (e : PlainEnd). node_of e.who) (sym name) ∙ o.home)
    end name (inr l) = inr l.frames

  by : (IsLinkRule s.end.carries → ⊥) → (node_of w ≡ Some s.node) ⊎ IsLinkRule is.wire.carries → s.end.region ≡ region_or home
  by plain (inr frames) = absurd (plain (subst IsLinkRule (sym is.carries) frames))
  by plain (inl at) =
      let h = home_named home s.node (new.among.node ∙ at) in
      let its : slice_get regions h.0.node ≡ Some h.0.pool.hand.region = subst (λ o. IfSome o (λ x. slice_get regions x.node ≡ Some x.pool.hand.region)) h.1 new.among.region in
      same_Some s.end.region h.0.pool.hand.region (sym is.among ∙ ap (slice_get regions) (sym h.2) ∙ its) ∙ ap region_or (sym h.1)

-- the other end of the lane that goes the other way is the same party's
end_back : (b : Bool) (w : Who) (p q : QueueId) (wire back : PlainLane) → wired.end_on (side_by b) wire ≡ named_end w p → back.from ≡ named_end wire.to.who q → back.to ≡ named_end wire.from.who q
    → wired.end_on (side_by (not b)) back ≡ named_end w q
end_back true w p q wire back called from to = to ∙ ap (λ (e : PlainEnd). named_end e.who q) called
end_back false w p q wire back called from to = from ∙ ap (λ (e : PlainEnd). named_end e.who q) called

turned : (a b : Bool) → b ≡ not a → (if a then not b else b) ≡ true
turned true b e = ap not e
turned false b e = e

-- the marks of an end tell of the party's end of that other lane
is_backed : (scene : PlainScene) (nodes : List PlainNodeQueues) (regions : List RegionName) (w : Who) (sides : List PlainSide) (s : PlainSide) (is : IsSideNew scene nodes regions w s) → map name_of sides ≡ sides_of scene w → AreApart sides
    → AllByRecursion (IsSideNew scene nodes regions w) sides → IsBacked sides s
is_backed scene nodes regions w sides s is names apart all = by (back_name s.queue) is.told where
  by : (o : Option QueueId) → TellsOf scene nodes s.node is.wire s.end.about o → s.end.about ≡ option_map (λ (t : PlainSide). t.end.tally) (find (is_back_by o s) sides)
  by None told = told ∙ ap (option_map (λ (t : PlainSide). t.end.tally)) (sym (none_of (is_back_by None s) sides (λ k t e. refl)))
  by (Some q) told =
      let d = side_by (not s.puts) in
      let end = end_back s.puts w s.queue q is.wire told.back is.called told.from told.to in
      let name = called_end s.node told.place told.back d in
      let who : (wired.end_on d told.back).who ≡ w = ap (λ (x : PlainEnd). x.who) end in
      let x = named_side sides name (subst (λ ns. IsIn ns name) (sym names) (in_nodes w 0 (wires_of scene) s.node told.place told.back name told.at
      (subst (λ m. IsIn (sides_at w m told.place told.back) name) (omega arith) (in_lane w s.node told.place told.back d who)))) in
      let t : PlainSide = x.side in
      let queue_at : t.queue ≡ q = ap (λ (n : SideName). n.queue) x.named ∙ ap (λ (e : PlainEnd). e.queue) end in
      let called : is_queue q t.queue ≡ true = ap (is_queue q) queue_at ∙ queue_same q in
      let puts : t.puts ≡ not s.puts = ap (λ (n : SideName). n.puts) x.named ∙ puts_back (not s.puts) in
      let node : t.node ≡ s.node = ap (λ (n : SideName). n.node) x.named in
      let lane : t.lane ≡ told.place = ap (λ (n : SideName). n.lane) x.named in
      let found = only_of (is_back_by (Some q) s) sides x.place t x.at (both_same (is_queue q t.queue) (is_turned s t) called (turned s.puts t.puts puts)) (λ j y f same.
      let name_is = (both_true (is_queue q y.queue) (is_turned s y) same).0 in
      apart j x.place y t f x.at (ap (λ z. is_queue z t.queue) (sym (queue_is q y.queue name_is)) ∙ called)) in
      let its = (all_at (IsSideNew scene nodes regions w) sides x.place t all x.at).of_it in
      let there = subst (λ n. IsSomeAnd (slice_get nodes n) (λ (z : PlainNodeQueues). IsSomeAnd (slice_get z.lanes told.place) (λ l. ways.IsEndOf l t.end))) node
      (subst (λ k. IsSomeAnd (slice_get nodes t.node) (λ (z : PlainNodeQueues). IsSomeAnd (slice_get z.lanes k) (λ l. ways.IsEndOf l t.end))) lane its) in
      told.tally t.end there ∙ ap (option_map (λ (z : PlainSide). z.end.tally)) (sym found)

-- what a party has in hand is what a party may have
pub are_ends : (scene : PlainScene) (nodes : List PlainNodeQueues) (regions : List RegionName) (w : Who) (opened : List ℕ) (home : Option PlainHome) (sides : List PlainSide) → EndsApart scene → AllHome scene → AllCalled scene
    → IsHomeNew nodes regions w opened home → AllByRecursion (IsSideNew scene nodes regions w) sides → map name_of sides ≡ sides_of scene w
    → ((a b : ℕ) (s t : PlainSide) → slice_get sides a ≡ Some s → slice_get sides b ≡ Some t → SameSpot s t → a ≡ b) → AreEnds (record { home = home; sides = sides })
are_ends scene nodes regions w opened home sides apart stays called new all names spots = record {
  within = all_from (IsWithin (region_or home)) sides (λ k s e. within_home scene nodes regions w opened home s stays new (all_at (IsSideNew scene nodes regions w) sides k s all e));
  inbox = new.token;
  lanes = all_from (λ (s : PlainSide). is_queue queue.Inbox s.queue ≡ false) sides (λ k s e.
      let is = all_at (IsSideNew scene nodes regions w) sides k s all e in
      ap (is_queue queue.Inbox) (sym (ap (λ (x : PlainEnd). x.queue) is.called)) ∙ called s.node s.lane is.wire (side_by s.puts) is.at);
  apart = no_two;
  backed = all_from (IsBacked sides) sides (λ k s e. is_backed scene nodes regions w sides s (all_at (IsSideNew scene nodes regions w) sides k s all e) names no_two all);
} where
  no_two : AreApart sides
  no_two a b s t e f same =
      spots a b s t e f (one_spot scene nodes regions w s t apart (all_at (IsSideNew scene nodes regions w) sides a s all e) (all_at (IsSideNew scene nodes regions w) sides b t all f) same)

-- a lane of this name carries what the party takes it to carry
lane_served : (scene : PlainScene) (w : Who) (e : PlainEnds) (q : QueueId) (r : Rule) → map name_of e.sides ≡ sides_of scene w → AreEnds e → wired.HasLane scene w q r → rule_of e q ≡ Some r
lane_served scene w e q r names ends h =
    let name = called_end h.node h.place h.wire h.side in
    let who : (wired.end_on h.side h.wire).who ≡ w = ap (λ (x : PlainEnd). x.who) h.called in
    let its : (wired.end_on h.side h.wire).queue ≡ q = ap (λ (x : PlainEnd). x.queue) h.called in
    let x = named_side e.sides name (subst (λ ns. IsIn ns name) (sym names) (in_nodes w 0 (wires_of scene) h.node h.place h.wire name h.at
    (subst (λ m. IsIn (sides_at w m h.place h.wire) name) (omega arith) (in_lane w h.node h.place h.wire h.side who)))) in
    let queue_at : x.side.queue ≡ q = ap (λ (n : SideName). n.queue) x.named ∙ its in
    let is : is_queue q x.side.queue ≡ true = ap (is_queue q) queue_at ∙ queue_same q in
    let there = only_of (λ (z : PlainSide). is_queue q z.queue) e.sides x.place x.side x.at is (λ j t f same. ends.apart j x.place t x.side f x.at (ap (λ z. is_queue z x.side.queue) (sym (queue_is q t.queue same)) ∙ is)) in
    let rule_is : rule.Lane x.side.end.carries ≡ r = ap (λ (n : SideName). rule.Lane n.carries) x.named ∙ sym h.carries in
    by q (all_at (λ (s : PlainSide). is_queue queue.Inbox s.queue ≡ false) e.sides x.place x.side ends.lanes x.at) queue_at there rule_is where
      by : (p : QueueId) → {s : PlainSide} → is_queue queue.Inbox s.queue ≡ false → s.queue ≡ p → side_named p e.sides ≡ Some s → rule.Lane s.end.carries ≡ r → rule_of e p ≡ Some r
      by queue.Inbox lane at there same = absurd (true≢false (sym (ap (is_queue queue.Inbox) at) ∙ lane))
      by (queue.Up k) lane at there same = ap (option_map (λ z. rule.Lane z.end.carries)) there ∙ ap Some same
      by (queue.Down k) lane at there same = ap (option_map (λ z. rule.Lane z.end.carries)) there ∙ ap Some same
      by (queue.Out k) lane at there same = ap (option_map (λ z. rule.Lane z.end.carries)) there ∙ ap Some same
      by (queue.Tx k) lane at there same = ap (option_map (λ z. rule.Lane z.end.carries)) there ∙ ap Some same
      by (queue.Rx k) lane at there same = ap (option_map (λ z. rule.Lane z.end.carries)) there ∙ ap Some same

-- a party has what it uses
pub is_served : (scene : PlainScene) (nodes : List PlainNodeQueues) (regions : List RegionName) (w : Who) (opened : List ℕ) (e : PlainEnds) (q : QueueId) (r : Rule) → map name_of e.sides ≡ sides_of scene w → AreEnds e
    → IsHomeNew nodes regions w opened e.home → wired.IsServed scene w q r → rule_of e q ≡ Some r
is_served scene nodes regions w opened e q r names ends new (inl h) =
    subst (λ p. rule_of e p ≡ Some r) (sym h.inbox) (new.serves h.used ∙ ap Some (sym h.takes))
is_served scene nodes regions w opened e q r names ends new (inr h) = lane_served scene w e q r names ends h
