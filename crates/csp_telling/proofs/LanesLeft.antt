-- What went through each lane, and what was left there.
use Rattle.std.proofs.Common.{◌≡◌, ◌≤◌, ℕ, zero, suc, List, [], ◌∷◌, ◌++◌, Option, None, Some, length, map, refl, sym, ap, ◌∙◌, subst, slice_get}
use Rattle.std.specs.List.{AllByRecursion}
use Rattle.std.specs.Option.{option_and_then, option_map}
use Rattle.std.specs.Prelude.{IsSomeAnd}
use Rattle.std.proofs.lemmas.List.{append-nil, append_assoc}
use Rattle.std.proofs.lemmas.Option.{same_Some, slice_get-map}
use Rattle.csp_consistent.specs.Lanes.{IsFullAfter, IsRefused}
use Rattle.csp_consistent.specs.Promises.{IsLaneKept}
use Rattle.csp_consistent.specs.Prompt.{AllAfter, HadNoRoom}
use Rattle.csp_consistent.specs.Reading.{entries_of, gets, left_in, puts}
use Rattle.csp_consistent.specs.Told.{IsLaneTold}
use Rattle.csp_ends.specs.Ends.{IsSideOf, PlainNodeQueues, PlainSide}
use Rattle.csp_ends.specs.Traced.{IsSideTraced, moved}
use Rattle.csp_lane.specs.Ends.{IsEndOf as IsEndThere, PlainEnd, PlainLane as Queue}
use Rattle.csp_lists.specs.PlainDeck.{lane_room}
use Rattle.csp_log.specs.declared.entry.Entry.{Entry}
use Rattle.csp_log.specs.declared.places.QueueId.{QueueId}
use Rattle.csp_log.specs.declared.shown.AnswerShown.TheVariants as answer
use Rattle.csp_log.specs.declared.shown.AnswerShown.{AnswerShown}
use Rattle.csp_log.specs.declared.shown.ItemShown.{ItemShown}
use Rattle.csp_log.specs.declared.shown.OpShown.TheVariants as op
use Rattle.csp_log.specs.declared.shown.OpShown.{OpShown}
use Rattle.csp_posts.specs.Posts.{PlainPost}
use Rattle.csp_posts.specs.Through.{WasCrammed}
use Rattle.csp_record.specs.Record.{PlainRecord}
use Rattle.csp_log.specs.declared.who.Who.{Who}
use Rattle.csp_scene.proofs.Public.{AllByRecursion-map}
use Rattle.csp_scene.specs.Scene.{PlainNode, PlainScene}
use Rattle.csp_standing.proofs.Public.{each_at, post_entries, IsAt, post_at}
use Rattle.csp_standing.specs.Network.{AreNodesOf, PlainNetwork, name_of}
use Rattle.csp_telling.proofs.LaneNotes.{lane_left}
use Rattle.csp_telling.proofs.Logs.{are_logged, are_logs}
use Rattle.csp_telling.proofs.Nodes.{IsAtNode, IsEnded, IsKnown, at_scene, there_too}
use Rattle.csp_telling.proofs.WireNames.{HasWire, wire_named}
use Rattle.csp_telling.specs.Remains.{IsLaneLeft}
use Rattle.csp_topology.specs.Lanes.{PlainLane}
use Rattle.csp_topology.specs.Parties.{parties_of}
use Rattle.csp_topology.specs.Wired.{IsWire}
use Rattle.csp_topology.specs.Wires.{lanes_of, wire_at, wires_of}

-- ---- a refused push

after_at : (F : List Entry → Entry → Type 0) (before bs after : List Entry) (e : Entry) → AllAfter F before (bs ++ e ∷ after) → F (before ++ bs) e
after_at F before [] after e all = subst (λ es. F es e) (sym (append-nil before)) all.0
after_at F before (b ∷ bs) after e all = subst (λ es. F es e) (append_assoc before (b ∷ []) bs) (after_at F (before ++ b ∷ []) bs after e all.1)

refused : (q : QueueId) (room : ℕ) (before : List Entry) (o : OpShown) (a : AnswerShown) → HadNoRoom q room before o a → IsRefused q o a → room ≤ length (puts q before)
refused q room before (op.Push other i) (answer.Full j) had is = had is
refused q room before _ _ had is = absurd is

full_after : (q : QueueId) (room : ℕ) (es : List Entry) → AllAfter (λ before e. HadNoRoom q room before e.op e.answer) [] es → IsFullAfter room q es
full_after q room es all before after e same is =
    refused q room before e.op e.answer
    (after_at (λ bs x. HadNoRoom q room bs x.op x.answer) [] before after e (subst (λ xs. AllAfter (λ bs x. HadNoRoom q room bs x.op x.answer) [] xs) same all)) is

-- ---- the room of a lane

room_there : (qs : List Queue) (ls : List PlainLane) (k : ℕ) (l : PlainLane) (e : PlainEnd) → map (λ x. x.room) qs ≡ map (λ x. lane_room x.queue) ls → slice_get ls k ≡ Some l → IsSomeAnd (slice_get qs k) (λ x. IsEndThere x e)
    → e.room ≡ lane_room l.queue
room_there qs ls k l e rooms at has =
    by (slice_get qs k) (sym (slice_get-map (λ x. x.room) qs k) ∙ ap (λ zs. slice_get zs k) rooms ∙ slice_get-map (λ x. lane_room x.queue) ls k ∙ ap (option_map (λ x. lane_room x.queue)) at) has
  where
    by : (o : Option Queue) → option_map (λ x. x.room) o ≡ Some (lane_room l.queue) → IsSomeAnd o (λ x. IsEndThere x e) → e.room ≡ lane_room l.queue
    by (Some x) same is = is.room ∙ same_Some x.room (lane_room l.queue) same
    by None same is = absurd is

room_at : (ms : List PlainNode) (wires : List (List PlainLane)) (qs : List PlainNodeQueues) (node k : ℕ) (ls : List PlainLane) (l : PlainLane) (e : PlainEnd) → AreNodesOf ms wires qs → slice_get wires node ≡ Some ls → slice_get ls k ≡ Some l
    → IsSomeAnd (slice_get qs node) (λ q. IsSomeAnd (slice_get q.lanes k) (λ x. IsEndThere x e)) → e.room ≡ lane_room l.queue
room_at (m ∷ ms) (w ∷ wires) (q ∷ qs) zero k ls l e h at there has = room_there q.lanes w k l e h.0.lanes (ap (λ zs. slice_get zs k) (same_Some w ls at) ∙ there) has
room_at (m ∷ ms) (w ∷ wires) (q ∷ qs) (suc node) k ls l e h at there has = room_at ms wires qs node k ls l e h.1 at there has
room_at [] [] [] node k ls l e h at there has = absurd cc
room_at [] (w ∷ wires) qs node k ls l e h at there has = absurd h
room_at [] [] (q ∷ qs) node k ls l e h at there has = absurd h
room_at (m ∷ ms) [] qs node k ls l e h at there has = absurd h
room_at (m ∷ ms) (w ∷ wires) [] node k ls l e h at there has = absurd h

-- ---- a lane of the scene

-- it is among those of its node
record IsThere (scene : PlainScene) (node k : ℕ) (l : PlainLane) : Type 0 where
  pub lanes : List PlainLane
  pub at : slice_get (wires_of scene) node ≡ Some lanes
  pub there : slice_get lanes k ≡ Some l

wire_there : (scene : PlainScene) (node k : ℕ) (l : PlainLane) → wire_at scene node k ≡ Some l → IsThere scene node k l
wire_there scene node k l e = by (slice_get (wires_of scene) node) refl e where
  by : (o : Option (List PlainLane)) → slice_get (wires_of scene) node ≡ o → option_and_then (λ ls. slice_get ls k) o ≡ Some l → IsThere scene node k l
  by (Some ls) at there = record { lanes = ls; at = at; there = there }
  by None at there = absurd cc

-- what was left in a lane, which stands at this place of its node, and what the record says of it
pub record HasLeft (posts : List PlainPost) (r : PlainRecord) (l : PlainLane) (place : ℕ) : Type 0 where
  pub left : List ItemShown
  pub is : IsLaneLeft posts l.node place left
  pub noted : left_in r l.node l.queue 0 ≡ left

module _ (scene : PlainScene) (n : PlainNetwork) (posts : List PlainPost) (r : PlainRecord) (ended : IsEnded scene n posts r) where
  -- the entries of the name of a post are its own
  pub own_entries : (i : ℕ) (s : PlainPost) (w : Who) → slice_get posts i ≡ Some s → s.who ≡ w → s.entries ≡ entries_of r w
  own_entries i s w at named =
      sym (post_entries scene r posts i s (are_logs scene n posts r ended.net ended.closed) (are_logged scene posts r ended.closed) at) ∙ ap (entries_of r) named

  module _ (l : PlainLane) (w : IsWire scene l) (left : List ItemShown) (is : IsLaneLeft posts l.node w.place left) where
    wire_of : (x : PlainSide) (v : Who) (h : HasWire scene v (name_of x)) → x.node ≡ l.node → x.lane ≡ w.place → h.wire ≡ l
    wire_of x v h node lane = same_Some h.wire l (sym h.at ∙ (λ i. wire_at scene (node i) (lane i)) ∙ w.at)

    putter : IsAt scene n (parties_of scene) is.i is.s
    putter = post_at scene n (parties_of scene) posts is.i is.s ended.net.parties is.joined.first

    getter : IsAt scene n (parties_of scene) is.j is.t
    getter = post_at scene n (parties_of scene) posts is.j is.t ended.net.parties is.joined.second

    from_wire : HasWire scene putter.party.who (name_of is.x)
    from_wire = wire_named scene putter.party.who is.s.ends.sides is.joined.a is.x putter.post.sides is.joined.from

    to_wire : HasWire scene getter.party.who (name_of is.y)
    to_wire = wire_named scene getter.party.who is.t.ends.sides is.joined.b is.y getter.post.sides is.joined.to

    from_same : from_wire.wire ≡ l
    from_same = wire_of is.x putter.party.who from_wire is.node_is is.lane_is

    to_same : to_wire.wire ≡ l
    to_same = wire_of is.y getter.party.who to_wire (is.joined.node ∙ is.node_is) (is.joined.lane ∙ is.lane_is)

    -- the parties of the ends, and what they call the lane
    pub from_who : is.s.who ≡ l.from.who
    from_who = putter.post.who ∙ sym (from_wire.end.from is.joined.puts).0 ∙ ap (λ (z : PlainLane). z.from.who) from_same

    pub to_who : is.t.who ≡ l.to.who
    to_who = getter.post.who ∙ sym (to_wire.end.to is.joined.gets).0 ∙ ap (λ (z : PlainLane). z.to.who) to_same

    pub from_called : is.x.queue ≡ l.from.queue
    from_called = sym (from_wire.end.from is.joined.puts).1 ∙ ap (λ (z : PlainLane). z.from.queue) from_same

    pub to_called : is.y.queue ≡ l.to.queue
    to_called = sym (to_wire.end.to is.joined.gets).1 ∙ ap (λ (z : PlainLane). z.to.queue) to_same

    pub from_entries : is.s.entries ≡ entries_of r l.from.who
    from_entries = own_entries is.i is.s l.from.who is.joined.first from_who

    pub to_entries : is.t.entries ≡ entries_of r l.to.who
    to_entries = own_entries is.j is.t l.to.who is.joined.second to_who

    -- what went through them
    put_there : is.x.end.items ≡ puts l.from.queue (entries_of r l.from.who)
    put_there =
        each_at (IsSideTraced is.s.entries) is.s.ends.sides is.joined.a is.x putter.post.from.traced.sides is.joined.from
        ∙ (λ i. moved (is.joined.puts i) (from_called i) (from_entries i))

    got_there : is.y.end.items ≡ gets l.to.queue (entries_of r l.to.who)
    got_there =
        each_at (IsSideTraced is.t.entries) is.t.ends.sides is.joined.b is.y getter.post.from.traced.sides is.joined.to
        ∙ (λ i. moved (is.joined.gets i) (to_called i) (to_entries i))

    room : (ls : IsThere scene l.node w.place l) → is.x.end.room ≡ lane_room l.queue
    room ls =
        let of_it : IsSideOf n.nodes is.x = each_at (IsSideOf n.nodes) is.s.ends.sides is.joined.a is.x putter.post.from.of_it.sides is.joined.from in
        room_at scene.nodes (wires_of scene) n.nodes l.node w.place ls.lanes l is.x.end ended.net.nodes ls.at ls.there
        (subst (λ k. IsSomeAnd (slice_get n.nodes l.node) (λ q. IsSomeAnd (slice_get q.lanes k) (λ z. IsEndThere z is.x.end))) is.lane_is
        (subst (λ k. IsSomeAnd (slice_get n.nodes k) (λ q. IsSomeAnd (slice_get q.lanes is.x.lane) (λ z. IsEndThere z is.x.end))) is.node_is of_it))

    crammed : (size : ℕ) → is.x.end.room ≡ size → IsFullAfter size l.from.queue (entries_of r l.from.who)
    crammed size e =
        let full : AllAfter (λ before z. HadNoRoom is.x.queue is.x.end.room before z.op z.answer) [] is.s.entries
        = each_at (WasCrammed is.s.entries) is.s.ends.sides is.joined.a is.x putter.post.full is.joined.from is.joined.puts in
        subst (λ k. IsFullAfter k l.from.queue (entries_of r l.from.who)) e
        (subst (λ q. IsFullAfter is.x.end.room q (entries_of r l.from.who)) from_called
        (subst (λ es. IsFullAfter is.x.end.room is.x.queue es) from_entries (full_after is.x.queue is.x.end.room is.s.entries full)))

    told : (ls : IsThere scene l.node w.place l) → left_in r l.node l.queue 0 ≡ left → IsLaneTold r l
    told ls noted = record {
      put = is.x.end.items;
      got = is.y.end.items;
      left = left;
      kept = subst (λ k. IsLaneKept k is.x.end.items is.y.end.items left) (room ls) is.kept;
      puts = put_there;
      gets = got_there;
      noted = sym noted;
      full = crammed (lane_room l.queue) (room ls);
    }

  -- what was left in a lane of the scene
  pub left_of : (l : PlainLane) (w : IsWire scene l) → HasLeft posts r l w.place
  left_of l w =
      let ls = wire_there scene l.node w.place l w.at in
      let c = there_too (wires_of scene) scene.nodes l.node ls.lanes ended.counted ls.at in
      let x : IsAtNode scene posts ended.closed.all l.node = at_scene scene n posts r ended l.node c.0 c.1 in
      let here : slice_get x.lanes w.place ≡ Some l = ap (λ zs. slice_get zs w.place) (same_Some x.lanes ls.lanes (sym x.at ∙ ls.at)) ∙ ls.there in
      let left = there_too x.lanes x.has.remains.lanes w.place l (sym x.has.many) here in
      record {
        left = left.0;
        is = x.has.left.lanes w.place left.0 left.1;
        noted = lane_left r (wires_of scene) ended.closed.all ended.closed.told.left l.node x.lanes x.has.remains x.at x.has.there x.names w.place l left.0 here left.1;
      }

  lane_told : (l : PlainLane) → IsWire scene l → IsLaneTold r l
  lane_told l w =
      let h = left_of l w in
      told l w h.left h.is (wire_there scene l.node w.place l w.at) h.noted

  pub lanes_told : IsKnown scene r → AllByRecursion (IsLaneTold r) (lanes_of scene)
  lanes_told known = AllByRecursion-map (IsWire scene) (IsLaneTold r) (lanes_of scene) lane_told known.wires
