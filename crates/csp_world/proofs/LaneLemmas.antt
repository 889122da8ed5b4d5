-- What came through each lane within a node is what was put there, in order.
use Rattle.std.proofs.Common.{◌≡◌, ◌<◌, ◌≤◌, ℕ, ◌==◌, ◌&&◌, Bool, true, false, Option, None, Some, List, [], ◌∷◌, ◌++◌, length, map, refl, sym, subst, ap, ◌∙◌, arith}
use Rattle.std.specs.Prelude.{slice_get, if◌then◌else◌, IsSome}
use Rattle.std.specs.Option.{option_and_then, option_map}
use Rattle.std.proofs.Math.Bool.{and-false}
use Rattle.std.proofs.lemmas.Bool.{eq-eqb, lt-ltb}
use Rattle.std.proofs.lemmas.List.{append_assoc, length-append, length-map}
use Rattle.csp_base.specs.Priority.{prio_number}
use Rattle.csp_consistent.proofs.Public.{entries_in, leader_bridge, leader_router, own_asks, queue_is}
use Rattle.csp_consistent.specs.Lanes.{IsFullAfter, IsInOrder, IsRefused}
use Rattle.csp_consistent.specs.Pools.{is_node}
use Rattle.csp_topology.proofs.Public.{OfApp, OfIface}
use Rattle.csp_topology.specs.Lanes.{PlainLane, leader_of}
use Rattle.csp_topology.specs.Parties.{PlainOpening}
use Rattle.csp_consistent.specs.Promises.{IsLaneKept}
use Rattle.csp_consistent.specs.Queues.{MayAsk, MayPop, MayPush}
use Rattle.csp_consistent.specs.Reading.{gets, is_queue, puts}
use Rattle.csp_deck.specs.Step.{entry_of}
use Rattle.csp_log.specs.Kinds.{carried_on}
use Rattle.csp_lists.specs.PlainDeck.{PlainDeck, answer_of, lane_room, shape_of}
use Rattle.csp_lists.specs.Order.{places_in, position_of}
use Rattle.csp_buffer.specs.Content.{Content}
use Rattle.csp_log.specs.declared.entry.Entry.{Entry}
use Rattle.csp_log.specs.declared.places.Carries.{Carries}
use Rattle.csp_log.specs.declared.places.End.{End}
use Rattle.csp_log.specs.declared.places.Place.{Place}
use Rattle.csp_log.specs.declared.places.Place.TheVariants as place
use Rattle.csp_log.specs.declared.places.QueueId.{QueueId}
use Rattle.csp_log.specs.declared.places.QueueId.TheVariants as queue
use Rattle.csp_log.specs.declared.shown.AnswerShown.{AnswerShown}
use Rattle.csp_log.specs.declared.shown.ItemShown.{ItemShown}
use Rattle.csp_log.specs.declared.shown.OpShown.{OpShown}
use Rattle.csp_log.specs.declared.shown.OpShown.TheVariants as op
use Rattle.csp_nodes.specs.Fresh.{fresh_buffers}
use Rattle.csp_nodes.specs.Serving.{at_end, goes, served}
use Rattle.csp_party.specs.Any.{asked, asks, events}
use Rattle.csp_log.specs.Who.{is_who, node_of}
use Rattle.csp_log.specs.declared.who.Who.{Who}
use Rattle.csp_log.specs.declared.who.Who.TheVariants as who
use Rattle.csp_scene.specs.Links.{links_at}
use Rattle.csp_scene.specs.Scene.{PlainLink, PlainNode, PlainScene}
use Rattle.csp_world.proofs.ContentLemmas.{PicksOne, content, is_named}
use Rattle.csp_world.proofs.InboxLemmas.{IsKnown, entries_step, gets-push, left_is, member_own, member_party, no_content, no_entries, puts-push, right_opening}
use Rattle.csp_world.proofs.InboxNames.{IsParty}
use Rattle.csp_world.proofs.LaneNames.{Pops, Pushes, and_true, gets_same, goes_is, own_named, puts_same, refused_there}
use Rattle.csp_world.proofs.LaneRooms.{IsFull, IsRoomy, as_full, full-push, full_none, left_few, refused_full, roomy_kept, roomy_opened}
use Rattle.csp_world.proofs.LocalLemmas.{IsLocal, local}
use Rattle.csp_world.proofs.LoggedLemmas.{AreLogged}
use Rattle.csp_world.proofs.MovedLemmas.{got_there, kept_after, moved, put_there}
use Rattle.csp_world.proofs.QueuedLemmas.{IsQueued}
use Rattle.csp_world.specs.Opening.{new_member, opened_deck}
use Rattle.csp_world.specs.Record.{member_log, record_of}
use Rattle.csp_world.specs.World.{PlainMember, PlainWorld, answered, told, turned}

-- what the links of a node carry
abbrev pub carried_at : ℕ → List PlainLink → List Carries
carried_at node links = map (λ l. carried_on l.kind) (links_at node links)

pub as_many : (node : ℕ) (links : List PlainLink) (k : ℕ) → k < length (links_at node links) → k < length (carried_at node links)
as_many node links k few = rw (length-map (links_at node links) (λ (l : PlainLink). carried_on l.kind)) few

-- a lane of a scene, where the links have these ends: its node is there and has it, and who pushes there and pops are its ends alone
pub record IsLaneOf (scene : PlainScene) (links : List (List End)) (l : PlainLane) : Type 0 where
  pub node : PlainNode
  pub there : slice_get scene.nodes l.node ≡ Some node
  pub lane : is_queue l.queue queue.Inbox ≡ false
  pub stands : IsSome (position_of (shape_of (length node.apps) (carried_at l.node scene.links)) (place.Lane l.queue))
  pub pushes : (w : Who) → IsParty scene.nodes scene.links w → Pushes links l w
  pub pops : (w : Who) → IsParty scene.nodes scene.links w → Pops links l w

-- ---- the lanes within a node

module _ (links : List (List End)) (node : ℕ) (q : QueueId) where
  -- a link pushes to an `Rx` alone, and pops a `Tx`
  link_pushed : ((k : ℕ) → is_queue q (queue.Rx k) ≡ false) → (m : ℕ) (r : QueueId) (i : ItemShown) → MayPush (who.Link m) r i → goes_is node q (goes links (who.Link m) r) ≡ false
  link_pushed away m (queue.Rx b) i may = by (slice_get links m) where
    at : (o : Option End) → goes_is node q (option_map (λ e. (e.node, queue.Rx e.iface)) o) ≡ false
    at None = refl
    at (Some e) = ap (λ t. (e.node == node) && t) (away e.iface) ∙ and-false (e.node == node)

    by : (o : Option (List End)) → goes_is node q (option_and_then (λ ends. at_end ends (queue.Rx b)) o) ≡ false
    by None = refl
    by (Some ends) = at (slice_get ends b)
  link_pushed away m queue.Inbox i may = absurd may
  link_pushed away m (queue.Up b) i may = absurd may
  link_pushed away m (queue.Down b) i may = absurd may
  link_pushed away m (queue.Out b) i may = absurd may
  link_pushed away m (queue.Tx b) i may = absurd may

  link_popped : ((k : ℕ) → is_queue q (queue.Tx k) ≡ false) → (m : ℕ) (r : QueueId) → MayPop (who.Link m) r → goes_is node q (goes links (who.Link m) r) ≡ false
  link_popped away m (queue.Tx b) may = by (slice_get links m) where
    at : (o : Option End) → goes_is node q (option_map (λ e. (e.node, queue.Tx e.iface)) o) ≡ false
    at None = refl
    at (Some e) = ap (λ t. (e.node == node) && t) (away e.iface) ∙ and-false (e.node == node)

    by : (o : Option (List End)) → goes_is node q (option_and_then (λ ends. at_end ends (queue.Tx b)) o) ≡ false
    by None = refl
    by (Some ends) = at (slice_get ends b)
  link_popped away m queue.Inbox may = absurd may
  link_popped away m (queue.Up b) may = absurd may
  link_popped away m (queue.Down b) may = absurd may
  link_popped away m (queue.Out b) may = absurd may
  link_popped away m (queue.Rx b) may = absurd may

  -- so a lane is pushed to by its user where no other party of the node may
  pub own_pushed : (Is : Who → Type 0) (user : Who) → ((k : ℕ) → is_queue q (queue.Rx k) ≡ false) → ((m : ℕ) → is_who user (who.Link m) ≡ false) → ((w : Who) → Is w → (i : ItemShown) → MayPush w q i → is_who user w ≡ is_node node (node_of w))
      → (w : Who) → Is w → (r : QueueId) (i : ItemShown) → MayPush w r i → (is_who user w && is_queue q r) ≡ goes_is node q (goes links w r)
  own_pushed Is user away none named (who.Router n) is r i may = own_named (is_who user (who.Router n)) (n == node) q r (λ s. MayPush (who.Router n) s i) may (named (who.Router n) is i)
  own_pushed Is user away none named (who.Bridge n) is r i may = own_named (is_who user (who.Bridge n)) (n == node) q r (λ s. MayPush (who.Bridge n) s i) may (named (who.Bridge n) is i)
  own_pushed Is user away none named (who.Iface n k) is r i may = own_named (is_who user (who.Iface n k)) (n == node) q r (λ s. MayPush (who.Iface n k) s i) may (named (who.Iface n k) is i)
  own_pushed Is user away none named (who.App n k) is r i may = own_named (is_who user (who.App n k)) (n == node) q r (λ s. MayPush (who.App n k) s i) may (named (who.App n k) is i)
  own_pushed Is user away none named (who.Link m) is r i may = ap (λ b. b && is_queue q r) (none m) ∙ sym (link_pushed away m r i may)

  pub own_popped : (Is : Who → Type 0) (user : Who) → ((k : ℕ) → is_queue q (queue.Tx k) ≡ false) → ((m : ℕ) → is_who user (who.Link m) ≡ false) → ((w : Who) → Is w → MayPop w q → is_who user w ≡ is_node node (node_of w))
      → (w : Who) → Is w → (r : QueueId) → MayPop w r → (is_who user w && is_queue q r) ≡ goes_is node q (goes links w r)
  own_popped Is user away none named (who.Router n) is r may = own_named (is_who user (who.Router n)) (n == node) q r (MayPop (who.Router n)) may (named (who.Router n) is)
  own_popped Is user away none named (who.Bridge n) is r may = own_named (is_who user (who.Bridge n)) (n == node) q r (MayPop (who.Bridge n)) may (named (who.Bridge n) is)
  own_popped Is user away none named (who.Iface n k) is r may = own_named (is_who user (who.Iface n k)) (n == node) q r (MayPop (who.Iface n k)) may (named (who.Iface n k) is)
  own_popped Is user away none named (who.App n k) is r may = own_named (is_who user (who.App n k)) (n == node) q r (MayPop (who.App n k)) may (named (who.App n k) is)
  own_popped Is user away none named (who.Link m) is r may = ap (λ b. b && is_queue q r) (none m) ∙ sym (link_popped away m r may)

-- a number is that of the party that uses its own lanes alone
pub numbered : (node n j k : ℕ) → k ≡ j → ((n == node) && (j == k)) ≡ (n == node)
numbered node n j k e = ap (λ b. (n == node) && b) (eq-eqb j k (sym e)) ∙ and_true (n == node)

module _ (scene : PlainScene) (links : List (List End)) (node : ℕ) (x : PlainNode) (at : slice_get scene.nodes node ≡ Some x) where
  abbrev hub : Who
  hub = leader_of node x.addr

  abbrev IsThere : Who → Type 0
  IsThere w = IsParty scene.nodes scene.links w

  no_link : (m : ℕ) → is_who hub (who.Link m) ≡ false
  no_link m = by x.addr where
    by : (addr : Option ℕ) → is_who (leader_of node addr) (who.Link m) ≡ false
    by None = refl
    by (Some a) = refl

  up_putter : (k : ℕ) (w : Who) → IsThere w → (i : ItemShown) → MayPush w (queue.Up k) i → is_who (who.App node k) w ≡ is_node node (node_of w)
  up_putter k (who.App n j) is i may = numbered node n j k may
  up_putter k (who.Router n) is i may = absurd may
  up_putter k (who.Bridge n) is i may = absurd may
  up_putter k (who.Iface n j) is i may = absurd may
  up_putter k (who.Link n) is i may = absurd may

  up_getter : (k : ℕ) (w : Who) → IsThere w → MayPop w (queue.Up k) → is_who hub w ≡ is_node node (node_of w)
  up_getter k (who.Router n) is may = leader_router scene.nodes scene.links node x at n is.party is.owner
  up_getter k (who.App n j) is may = absurd may
  up_getter k (who.Bridge n) is may = absurd may
  up_getter k (who.Iface n j) is may = absurd may
  up_getter k (who.Link n) is may = absurd may

  down_putter : (k : ℕ) (w : Who) → IsThere w → (i : ItemShown) → MayPush w (queue.Down k) i → is_who hub w ≡ is_node node (node_of w)
  down_putter k (who.Router n) is i may = leader_router scene.nodes scene.links node x at n is.party is.owner
  down_putter k (who.App n j) is i may = absurd may
  down_putter k (who.Bridge n) is i may = absurd may
  down_putter k (who.Iface n j) is i may = absurd may
  down_putter k (who.Link n) is i may = absurd may

  down_getter : (k : ℕ) (w : Who) → IsThere w → MayPop w (queue.Down k) → is_who (who.App node k) w ≡ is_node node (node_of w)
  down_getter k (who.App n j) is may = numbered node n j k may
  down_getter k (who.Router n) is may = absurd may
  down_getter k (who.Bridge n) is may = absurd may
  down_getter k (who.Iface n j) is may = absurd may
  down_getter k (who.Link n) is may = absurd may

  out_putter : (k : ℕ) (w : Who) → IsThere w → (i : ItemShown) → MayPush w (queue.Out k) i → is_who hub w ≡ is_node node (node_of w)
  out_putter k (who.Router n) is i may = leader_router scene.nodes scene.links node x at n is.party is.owner
  out_putter k (who.Bridge n) is i may = leader_bridge scene.nodes scene.links node x at n is.party is.owner
  out_putter k (who.App n j) is i may = absurd may
  out_putter k (who.Iface n j) is i may = absurd may
  out_putter k (who.Link n) is i may = absurd may

  out_getter : (k : ℕ) (w : Who) → IsThere w → MayPop w (queue.Out k) → is_who (who.Iface node k) w ≡ is_node node (node_of w)
  out_getter k (who.Iface n j) is may = numbered node n j k may
  out_getter k (who.Router n) is may = absurd may
  out_getter k (who.Bridge n) is may = absurd may
  out_getter k (who.App n j) is may = absurd may
  out_getter k (who.Link n) is may = absurd may

  pub apps_lanes : (k : ℕ) → k < length x.apps → OfApp (IsLaneOf scene links) node x k
  unfolding hub
  apps_lanes k low = (
    record {
      node = x;
      there = at;
      lane = refl;
      stands = rw (lt-ltb k (length x.apps) low) refl;
      pushes = own_pushed links node (queue.Up k) IsThere (who.App node k) (λ j. refl) (λ m. refl) (up_putter k);
      pops = own_popped links node (queue.Up k) IsThere hub (λ j. refl) no_link (up_getter k);
    },
    record {
      node = x;
      there = at;
      lane = refl;
      stands = rw (lt-ltb k (length x.apps) low) refl;
      pushes = own_pushed links node (queue.Down k) IsThere hub (λ j. refl) no_link (down_putter k);
      pops = own_popped links node (queue.Down k) IsThere (who.App node k) (λ j. refl) (λ m. refl) (down_getter k);
    },
  )

  pub outs_lanes : (k : ℕ) → k < length (links_at node scene.links) → OfIface (IsLaneOf scene links) node x k
  unfolding hub
  outs_lanes k low = record {
    node = x;
    there = at;
    lane = refl;
    stands = rw (lt-ltb k (length (carried_at node scene.links)) (as_many node scene.links k low)) refl;
    pushes = own_pushed links node (queue.Out k) IsThere hub (λ j. refl) no_link (out_putter k);
    pops = own_popped links node (queue.Out k) IsThere (who.Iface node k) (λ j. refl) (λ m. refl) (out_getter k);
  }

-- ---- what came through a lane

-- the name of a lane is that of one place
lane_is : (q : QueueId) → is_queue q queue.Inbox ≡ false → (y : Place) → IsQueued y → is_named q 0 y ≡ true → y ≡ place.Lane q
lane_is q apart (place.Inbox p) h e = by (is_queue q queue.Inbox) (prio_number p == 0) apart e where
  by : (so other : Bool) → so ≡ false → (so && other) ≡ true → place.Inbox p ≡ place.Lane q
  by true other g f = absurd cc
  by false other g f = absurd cc
lane_is q apart (place.Lane r) h e = ap place.Lane (sym (queue_is q r (first (is_queue q r) e))) where
  first : (so : Bool) → (so && true) ≡ true → so ≡ true
  first true f = refl
  first false f = f
lane_is q apart place.Pool h e = absurd h
lane_is q apart place.Router h e = absurd h
lane_is q apart (place.Iface k) h e = absurd h
lane_is q apart (place.App k) h e = absurd h

lane_one : (q : QueueId) → is_queue q queue.Inbox ≡ false → PicksOne q 0
lane_one q apart x y h g e f = lane_is q apart y g f ∙ sym (lane_is q apart x h e)

-- the lists of its node have kept the lane's promise so far, of what the logs say
pub record HasKeptLane (l : PlainLane) (decks : List PlainDeck) (ms : List PlainMember) : Type 0 where
  pub deck : PlainDeck
  pub there : slice_get decks l.node ≡ Some deck
  pub roomy : IsRoomy l.queue deck
  pub kept : IsLaneKept (lane_room l.queue) (puts l.from.queue (entries_in l.from.who (map member_log ms))) (gets l.to.queue (entries_in l.to.who (map member_log ms))) (content l.queue 0 deck)
  pub full : IsFullAfter (lane_room l.queue) l.from.queue (entries_in l.from.who (map member_log ms))

pub lane_turned : (scene : PlainScene) (os : List PlainOpening) → IsKnown scene os → (l : PlainLane) (w : PlainWorld) → IsLaneOf scene w.links l → AreLogged w.time os w.members
    → (k : ℕ) (m : PlainMember) → slice_get w.members k ≡ Some m → HasKeptLane l w.decks w.members → HasKeptLane l (turned w k m).decks (turned w k m).members
lane_turned scene os known l w is logged k m found h = record {
  deck = near.after;
  there = near.got;
  roomy = roomy;
  kept = record {
    order =
        ap (λ xs. xs ++ content l.queue 0 near.after) (ap (gets l.to.queue) (longer l.to.who) ∙ gets-push l.to.queue (old l.to.who) (is_who l.to.who m.who) e ∙ ap (λ xs. before ++ xs) (gets_same w.links l is.lane m.who (is.pops m.who party) o may h.deck r.0))
        ∙ append_assoc before got (content l.queue 0 near.after)
        ∙ ap (λ xs. before ++ xs) (moved known.stands known.keeps l.queue 0 (lane_one l.queue is.lane) h.deck h.roomy.right l.node there r near)
        ∙ sym (append_assoc before (content l.queue 0 h.deck) put)
        ∙ ap (λ xs. xs ++ put) h.kept.order
        ∙ ap (λ xs. puts l.from.queue (old l.from.who) ++ xs) (sym (puts_same w.links l is.lane m.who (is.pushes m.who party) o may r.0))
        ∙ sym (puts-push l.from.queue (old l.from.who) (is_who l.from.who m.who) e)
        ∙ ap (puts l.from.queue) (sym (longer l.from.who));
    few = left_few l.queue is.lane (lane_one l.queue is.lane) near.after roomy;
  };
  full = subst (IsFullAfter (lane_room l.queue) l.from.queue) (sym (longer l.from.who)) (full-push (lane_room l.queue) l.from.queue (old l.from.who) (is_who l.from.who m.who) e h.full filled);
} where
  o : OpShown
  o = asks m.party w.time

  r : AnswerShown × List PlainDeck
  r = answered w.decks w.links w.time m

  there : Option (ℕ × OpShown)
  there = served w.links m.who o

  near : IsLocal there r l.node h.deck
  near = local w.decks w.links m.who o l.node h.deck h.there

  roomy : IsRoomy l.queue near.after
  roomy = kept_after (IsRoomy l.queue) (roomy_kept known.queues known.shape known.keeps l.queue) h.deck h.roomy l.node there r near

  e : Entry
  e = entry_of w.time o r.0 (events (asked m.party w.time) w.time r.0)

  party : IsParty scene.nodes scene.links m.who
  party = member_party scene.nodes scene.links known.few w.time os w.members known.owned logged k m found

  may : MayAsk m.who o
  may = own_asks m.who m.party w.time (member_own w.time os w.members known.own logged k m found)

  old : Who → List Entry
  old v = entries_in v (map member_log w.members)

  before : List ItemShown
  before = gets l.to.queue (old l.to.who)

  got : List ItemShown
  got = got_there l.queue 0 h.deck l.node there r.0

  put : List ItemShown
  put = put_there l.queue 0 l.node there r.0

  longer : (v : Who) → entries_in v (map member_log (turned w k m).members) ≡ old v ++ (if is_who v m.who then e ∷ [] else [])
  longer v = entries_step v w.time os w.members known.apart logged k m (told m w.time r.0) (e ∷ []) found refl refl

  filled : is_who l.from.who m.who ≡ true → IsRefused l.from.queue o r.0 → lane_room l.queue ≤ length (puts l.from.queue (old l.from.who))
  filled this refused =
      let to = refused_there w.links l is.lane m.who (is.pushes m.who party) o may r.0 this refused in
      let same : r.0 ≡ (answer_of h.deck (op.Push l.queue to.item)).0 = (near.here (l.node, op.Push l.queue to.item) to.at refl).0 in
      let most = as_full l.queue is.lane (lane_one l.queue is.lane) h.deck h.roomy to.item (subst IsFull same (refused_full l.from.queue o r.0 refused)) in
      let long = sym (length-append before (content l.queue 0 h.deck)) ∙ ap (λ (xs : List ItemShown). length xs) h.kept.order in
      omega (arith, most, long)

pub lane_opened : (scene : PlainScene) (os : List PlainOpening) → IsKnown scene os → (links : List (List End)) (l : PlainLane) (is : IsLaneOf scene links l) (decks : List PlainDeck) → slice_get decks l.node ≡ Some (opened_deck is.node (links_at l.node scene.links))
    → HasKeptLane l decks (map new_member os)
lane_opened scene os known links l is decks at = record {
  deck = opened_deck n (links_at l.node scene.links);
  there = at;
  roomy = roomy_opened known.stands l.queue buffers n.inbox (length n.apps) carried (right_opening buffers n.inbox (length n.apps) carried) is.stands;
  kept = record {
    order =
        ap (λ es. gets l.to.queue es ++ content l.queue 0 (opened_deck n (links_at l.node scene.links))) (no_entries l.to.who os)
        ∙ nothing
        ∙ ap (puts l.from.queue) (sym (no_entries l.from.who os));
    few = subst (λ (xs : List ItemShown). length xs ≤ lane_room l.queue) (sym nothing) (omega arith);
  };
  full = subst (IsFullAfter (lane_room l.queue) l.from.queue) (sym (no_entries l.from.who os)) (full_none (lane_room l.queue) l.from.queue);
} where
  n : PlainNode
  n = is.node

  buffers : List Content
  buffers = fresh_buffers n.buffers

  carried : List Carries
  carried = carried_at l.node scene.links

  nothing : content l.queue 0 (opened_deck n (links_at l.node scene.links)) ≡ []
  nothing = no_content l.queue 0 n.inbox carried (places_in (shape_of (length n.apps) carried))

-- so the record says
pub lane_in_order : (w : PlainWorld) (scene : PlainScene) (links : List (List End)) (l : PlainLane) → IsLaneOf scene links l → HasKeptLane l w.decks w.members → IsInOrder (record_of w) l
lane_in_order w scene links l is h = record {
  kept = subst (IsLaneKept (lane_room l.queue) (puts l.from.queue (entries_in l.from.who (map member_log w.members))) (gets l.to.queue (entries_in l.to.who (map member_log w.members)))) (sym (left_is w l.node l.queue 0 h.deck h.there)) h.kept;
  full = h.full;
}
