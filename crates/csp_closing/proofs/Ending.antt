-- The end of a lane, of the queues of a node, and of those of all nodes.
use Rattle.std.proofs.Common.{◌≡◌, ◌+◌, ◌-◌, ◌*◌, ◌≤◌, ℕ, suc, Option, Some, List, [], ◌∷◌, ◌++◌, length, map, take, drop, get_or, refl, sym, ap, ◌∙◌, subst, arith, append_assoc, append-nil, length-append}
use Rattle.std.specs.Prelude.{IsSomeAnd, vec_capacity}
use Rattle.std.specs.Global.{Vec}
use Rattle.std.specs.List.{AllByRecursion, flat_map}
use Rattle.std.proofs.lemmas.List.{map-append, take_rest}
use Rattle.csp_arena.specs.Cells.{RegionName}
use Rattle.csp_base.specs.declared.priority.Prio.{Prio}
use Rattle.csp_base.specs.declared.priority.Prio.TheVariants.{Critical, High, Normal, Low}
use Rattle.csp_closing.proofs.Sides.{all_before, ends_later}
use Rattle.csp_closing.specs.Hands.{gathered, homes_at, without_home}
use Rattle.csp_closing.specs.Nodes.{CanAllEnd, CanEnd, IsLeftBy, NodeEnds, NodesEnd, all_queue_notes, queue_notes, queue_numbers}
use Rattle.csp_closing.specs.Wires.{AreNext, WireEnds, WiresEnd, wire_notes, with_notes, without_all, without_ends}
use Rattle.csp_closing.specs.declared.passes.Passes.{Passes}
use Rattle.csp_consistent.specs.Pools.{left_held}
use Rattle.csp_deck.specs.Carried.{IsCarried}
use Rattle.csp_deck.specs.Step.{item_numbers}
use Rattle.csp_ending.specs.Ends.{InboxEnds, LaneEnds, PoolEnds, with_inbox}
use Rattle.csp_ending.specs.Notes.{PlainNotes, left_note, with_queue}
use Rattle.csp_ending.specs.Stores.{PlainStore, TakesBack}
use Rattle.csp_ends.specs.Ends.{PlainHome, PlainNodeQueues, PlainSide}
use Rattle.csp_inbox.specs.Passes as inbox
use Rattle.csp_lane.specs.Ends.{PlainEnd, PlainLane}
use Rattle.csp_lane.specs.Marks.{AreHeeded}
use Rattle.csp_lists.specs.PlainDeck.{numbers_of}
use Rattle.csp_log.specs.Remains.{PlainHeld, PlainLeft}
use Rattle.csp_log.specs.declared.places.Place.{Place}
use Rattle.csp_log.specs.declared.places.Rule.TheVariants as rule
use Rattle.csp_log.specs.declared.shown.ItemShown.{ItemShown}
use Rattle.csp_log.specs.declared.shown.ItemShown.TheVariants as item
use Rattle.csp_standing.specs.declared.fabric.NodeRooms.{NodeRooms}
use Rattle.csp_standing.specs.declared.fabric.NodeStore.{NodeStore}
use Rattle.csp_telling.specs.Closed.{inbox_notes}
use Rattle.csp_telling.specs.Remains.{PlainRemains, inbox_numbers}
use Rattle.csp_topology.specs.declared.wire.Wire.{Wire}

-- an item has one buffer at most
one_number : (i : ItemShown) → length (item_numbers i) ≤ 1
one_number (item.Packet mark b) = omega arith
one_number (item.Frame f) = omega arith
one_number (item.Note n) = omega arith

pub numbers_few : (is : List ItemShown) → length (numbers_of is) ≤ length is
numbers_few [] = omega arith
numbers_few (i ∷ is) =
    let one = one_number i in
    let later = numbers_few is in
    let both = length-append (item_numbers i) (numbers_of is) in
    omega (arith, one, later, both)

-- two notes of one kind
pub notes_are : (m n : PlainNotes) → m.left ≡ n.left → m.held ≡ n.held → m.queues ≡ n.queues → m.others ≡ n.others → m ≡ n
notes_are m n left held queues others = λ i. record { left = left i; held = held i; queues = queues i; others = others i }

-- the end of a lane, by the ends that came next
pub lane_ended : (sides : List (List PlainSide)) (w : Wire) (l : PlainLane) (region : RegionName) (node number : ℕ) (m n : PlainNotes) (s t : PlainStore) (p c : PlainEnd) (next : AreNext sides w l region node number) → p ≡ next.x.end → c ≡ next.y.end
    → LaneEnds l p c node w.queue m n s t → WireEnds sides w node number m n s t
lane_ended sides w l region node number m n s t p c next is_p is_c h = record {
  left = h.left;
  whole = record {
    i = w.from.party;
    j = w.to.party;
    xs = next.x ∷ next.from.rest;
    ys = next.y ∷ next.to.rest;
    first = next.from.there;
    second = next.to.there;
    apart = next.apart;
    a = 0;
    b = 0;
    x = next.x;
    y = next.y;
    from = refl;
    to = refl;
    puts = next.puts;
    gets = next.gets;
    x_node = next.x_there.node_is;
    x_lane = next.x_there.lane_is;
    y_node = next.y_there.node_is;
    y_lane = next.y_there.lane_is;
    kept = record {
      order = sym (ap (λ (e : PlainEnd). e.items) (sym is_p) ∙ h.whole.order ∙ ap (λ (e : PlainEnd). e.items ++ h.left) is_c);
      few = (let few = h.whole.few in let room = next.x_there.of_it.room in omega (arith, few, room));
    };
    carried = subst (λ (e : PlainEnd). AllByRecursion (IsCarried (rule.Lane e.carries)) h.left) is_p h.whole.carried;
    heeded = subst (λ (e : PlainEnd). AreHeeded e.marks next.y.end.marks) is_p (subst (λ (e : PlainEnd). AreHeeded p.marks e.marks) is_c h.whole.heeded);
  };
  noted = h.noted ∙ ap (λ (a : Place). with_queue m node w.queue 0 a h.left n.queues) (sym next.named);
  rooms = h.rooms;
  back = h.back;
}

pub lane_few : (l : PlainLane) (p c : PlainEnd) (node : ℕ) (w : Wire) (m n : PlainNotes) (s t : PlainStore) → LaneEnds l p c node w.queue m n s t → length t.numbers ≤ length s.numbers + l.room
lane_few l p c node w m n s t h =
    let long : length t.numbers ≡ length s.numbers + length (numbers_of h.left) = ap (λ (ns : List ℕ). length ns) h.back.numbers ∙ length-append s.numbers (numbers_of h.left) in
    let few = h.whole.few in
    let fewer = numbers_few h.left in
    omega (arith, long, few, fewer)

-- what came back in two steps
both_back : (s t u : PlainStore) (ns ms : List ℕ) → TakesBack s ns t → TakesBack t ms u → TakesBack s (ns ++ ms) u
both_back s t u ns ms f g = record {
  region = g.region ∙ f.region;
  count = g.count ∙ f.count;
  numbers = g.numbers ∙ ap (λ (l : List ℕ). l ++ ms) f.numbers ∙ append_assoc s.numbers ns ms;
  room = g.room ∙ f.room;
}

no_back : (s t : PlainStore) → t ≡ s → TakesBack s [] t
no_back s t e = record {
  region = ap (λ (x : PlainStore). x.region) e;
  count = ap (λ (x : PlainStore). x.count) e;
  numbers = ap (λ (x : PlainStore). x.numbers) e ∙ sym (append-nil s.numbers);
  room = ap (λ (x : PlainStore). x.room) e;
}

-- what was noted in two steps
both_noted : (m n o : PlainNotes) (xs ys : List PlainLeft) → n ≡ with_notes m xs n.queues → o ≡ with_notes n ys o.queues → o ≡ with_notes m (xs ++ ys) o.queues
both_noted m n o xs ys f g =
    notes_are o (with_notes m (xs ++ ys) o.queues)
    (ap (λ (x : PlainNotes). x.left) g ∙ ap (λ (l : List PlainLeft). l ++ ys) (ap (λ (x : PlainNotes). x.left) f) ∙ append_assoc m.left xs ys)
    (ap (λ (x : PlainNotes). x.held) g ∙ ap (λ (l : List PlainHeld). l ++ map left_held ys) (ap (λ (x : PlainNotes). x.held) f) ∙ append_assoc m.held (map left_held xs) (map left_held ys)
    ∙ ap (λ (l : List PlainHeld). m.held ++ l) (sym (map-append left_held xs ys)))
    refl
    (ap (λ (x : PlainNotes). x.others) g ∙ ap (λ (x : PlainNotes). x.others) f)

none_noted : (m n : PlainNotes) → n ≡ m → n ≡ with_notes m [] n.queues
none_noted m n e =
    notes_are n (with_notes m [] n.queues)
    (ap (λ (x : PlainNotes). x.left) e ∙ sym (append-nil m.left)) (ap (λ (x : PlainNotes). x.held) e ∙ sym (append-nil m.held)) refl (ap (λ (x : PlainNotes). x.others) e)

-- the end of no lane, and of one more
pub no_wires : (sides : List (List PlainSide)) (node number : ℕ) (m n : PlainNotes) (s t : PlainStore) → n ≡ m → t ≡ s → WiresEnd sides [] node number m n s t
no_wires sides node number m n s t noted back = record {
  lefts = [];
  count = refl;
  whole = tt;
  noted = none_noted m n noted;
  rooms = (let same = ap (λ (x : PlainNotes). x.queues) noted in omega (arith, same));
  back = no_back s t back;
}

pub more_wires : (sides : List (List PlainSide)) (w : Wire) (wires : List Wire) (node number : ℕ) (m n o : PlainNotes) (s t u : PlainStore) → WireEnds sides w node number m n s t → WiresEnd (without_ends w sides) wires node (number + 1) n o t u
    → WiresEnd sides (w ∷ wires) node number m o s u
more_wires sides w wires node number m n o s t u f g = record {
  lefts = f.left ∷ g.lefts;
  count = ap suc g.count;
  whole = (f.whole, all_before (without_ends w sides) sides node (number + 1) g.lefts (ends_later w sides) g.whole);
  noted = both_noted m n o (left_note node w.queue 0 f.left ∷ []) (wire_notes node wires g.lefts) f.noted g.noted;
  rooms = (let one = f.rooms in let more = g.rooms in omega (arith, one, more));
  back = both_back s t u (numbers_of f.left) (flat_map numbers_of g.lefts) f.back g.back;
}

-- the notes of an inbox are of the kind of the others
inbox_noted : (m n : PlainNotes) (node : ℕ) (left : Prio → List ItemShown) → n ≡ with_inbox m node left n.queues → n ≡ with_notes m (inbox_notes node left) n.queues
inbox_noted m n node left e = e

-- the end of the queues of a node
pub node_ended : (node : ℕ) (q : PlainNodeQueues) (wires : List Wire) (homes : List (Option PlainHome)) (sides : List (List PlainSide)) (v : Passes) (m n o : PlainNotes) (s t : NodeStore) (a b c : PlainStore)
    → gathered (homes_at node homes) ≡ Some v → WiresEnd sides wires node 0 m n s.store a → InboxEnds q.inbox v.inbox node n o a b → (pool : PoolEnds v.pool.hand t.first t.last b c) → t.store ≡ c → t.numbers ≡ s.numbers
    → NodeEnds node q.inbox.room wires homes sides m o s t
node_ended node q wires homes sides v m n o s t a b c got lanes mail pool is numbers =
    let all : PlainRemains = record { lanes = lanes.lefts; inbox = mail.left; pool = pool.left } in
    let queues = both_back s.store a b (flat_map numbers_of lanes.lefts) (inbox_numbers all) lanes.back mail.back in
    let whole = both_back s.store b c (queue_numbers all) pool.left queues pool.back in
    let before : length b.numbers ≡ length s.store.numbers + length (queue_numbers all) = ap (λ (ns : List ℕ). length ns) queues.numbers ∙ length-append s.store.numbers (queue_numbers all) in
    let after : length c.numbers ≡ length b.numbers + length pool.left = ap (λ (ns : List ℕ). length ns) pool.back.numbers ∙ length-append b.numbers pool.left in
    record {
      remains = all;
      left = record {
        passes = subst (λ o. IsSomeAnd o (λ w. IsLeftBy q.inbox.room w all)) (sym got) (record { pool = pool.whole; inbox = mail.whole });
        count = lanes.count;
        lanes = lanes.whole;
      };
      noted = both_noted m n o (wire_notes node wires lanes.lefts) (inbox_notes node mail.left) lanes.noted (inbox_noted n o node mail.left mail.noted);
      rooms = (let one = lanes.rooms in let more = mail.rooms in omega (arith, one, more));
      back = record {
        region = ap (λ (x : PlainStore). x.region) is ∙ whole.region;
        count = ap (λ (x : PlainStore). x.count) is ∙ whole.count;
        room = ap (λ (x : PlainStore). x.room) is ∙ whole.room;
        numbers = ap (λ (x : PlainStore). x.numbers) is ∙ whole.numbers;
        first = pool.from ∙ before;
        last = pool.to ∙ after ∙ ap (λ (k : ℕ). k + length pool.left) (sym pool.from);
        unnoted = ap (λ v. v.items) numbers;
        capacity = ap (λ v. vec_capacity v) numbers;
      };
    }

-- what was left in an inbox is no more than it has room for
pub inbox_few : (x : inbox.PlainInbox) (p : inbox.PlainPass) (node : ℕ) (m n : PlainNotes) (s t : PlainStore) → InboxEnds x p node m n s t → length t.numbers ≤ length s.numbers + 4 * x.room
inbox_few x p node m n s t h =
    let all = h.left Critical ++ h.left High ++ h.left Normal ++ h.left Low in
    let long : length t.numbers ≡ length s.numbers + length (numbers_of all) = ap (λ (ns : List ℕ). length ns) h.back.numbers ∙ length-append s.numbers (numbers_of all) in
    let fewer = numbers_few all in
    let three = length-append (h.left Critical ++ h.left High ++ h.left Normal) (h.left Low) in
    let two = length-append (h.left Critical ++ h.left High) (h.left Normal) in
    let one = length-append (h.left Critical) (h.left High) in
    let a = (h.whole Critical).few in
    let b = (h.whole High).few in
    let c = (h.whole Normal).few in
    let d = (h.whole Low).few in
    omega (arith, long, fewer, one, two, three, a, b, c, d)

-- the end of those of no node, and of one more
pub no_nodes : (node : ℕ) (homes : List (Option PlainHome)) (sides : List (List PlainSide)) (m n : PlainNotes) → n ≡ m → NodesEnd node [] [] homes sides m n [] []
no_nodes node homes sides m n e = record { all = []; left = tt; noted = none_noted m n e; back = tt }

pub more_nodes : (node : ℕ) (q : PlainNodeQueues) (queues : List PlainNodeQueues) (ws : List Wire) (wires : List (List Wire)) (homes : List (Option PlainHome)) (sides : List (List PlainSide)) (m n o : PlainNotes) (s t : NodeStore) (stores after : List NodeStore)
    → NodeEnds node q.inbox.room ws homes sides m n s t → NodesEnd (node + 1) queues wires (map (without_home node) homes) (without_all ws sides) n o stores after → NodesEnd node (q ∷ queues) (ws ∷ wires) homes sides m o (s ∷ stores) (t ∷ after)
more_nodes node q queues ws wires homes sides m n o s t stores after f g = record {
  all = f.remains ∷ g.all;
  left = (f.left, g.left);
  noted = both_noted m n o (queue_notes node ws f.remains) (all_queue_notes (node + 1) wires g.all) f.noted g.noted;
  back = (f.back, g.back);
}

-- the first of several nodes, and the others
pub record NodesSplit (node : ℕ) (queues : List PlainNodeQueues) (rooms : List NodeRooms) (wires : List (Vec Wire)) (stores : List NodeStore) (homes : List (Option PlainHome)) (sides : List (List PlainSide)) (q : PlainNodeQueues) (r : NodeRooms) (ws : List Wire) (s : NodeStore) : Type 0 where
  pub first : CanEnd node q r ws s homes sides
  pub rest : CanAllEnd (node + 1) queues rooms (map (λ (v : Vec Wire). v.items) (drop 1 wires)) stores (map (without_home node) homes) (without_all ws sides)
  pub wires_are : map (λ (v : Vec Wire). v.items) wires ≡ ws ∷ map (λ (v : Vec Wire). v.items) (drop 1 wires)

pub nodes_split : (node : ℕ) (queues : List PlainNodeQueues) (rooms : List NodeRooms) (wires : List (Vec Wire)) (stores : List NodeStore) (homes : List (Option PlainHome)) (sides : List (List PlainSide)) (q : PlainNodeQueues) (qs : List PlainNodeQueues)
    (r : NodeRooms) (rs : List NodeRooms) (s : NodeStore) (later : List NodeStore) (x : Vec Wire) (ws : List Wire) → CanAllEnd node queues rooms (map (λ (v : Vec Wire). v.items) wires) stores homes sides → queues ≡ q ∷ qs → rooms ≡ r ∷ rs → stores ≡ s ∷ later
    → x ≡ get_or wires 0 x → ws ≡ x.items → NodesSplit node qs rs wires later homes sides q r ws s
nodes_split node queues rooms wires stores homes sides q qs r rs s later x ws can e f g read is = by wires can read where
  by : (wires : List (Vec Wire)) → CanAllEnd node queues rooms (map (λ (v : Vec Wire). v.items) wires) stores homes sides → x ≡ get_or wires 0 x → NodesSplit node qs rs wires later homes sides q r ws s
  by [] can read =
      absurd (subst (λ (l : List NodeStore). CanAllEnd node (q ∷ qs) (r ∷ rs) [] l homes sides) g (subst (λ (l : List NodeRooms). CanAllEnd node (q ∷ qs) l [] stores homes sides) f (subst (λ (l : List PlainNodeQueues). CanAllEnd node l rooms [] stores homes sides) e can)))
  by (y ∷ wires) can read =
      let tail = map (λ (v : Vec Wire). v.items) wires in
      let same : y.items ≡ ws = ap (λ (v : Vec Wire). v.items) (sym read) ∙ sym is in
      let all : CanEnd node q r y.items s homes sides × CanAllEnd (node + 1) qs rs tail later (map (without_home node) homes) (without_all y.items sides) =
      subst (λ (l : List NodeStore). CanAllEnd node (q ∷ qs) (r ∷ rs) (y.items ∷ tail) l homes sides) g
      (subst (λ (l : List NodeRooms). CanAllEnd node (q ∷ qs) l (y.items ∷ tail) stores homes sides) f (subst (λ (l : List PlainNodeQueues). CanAllEnd node l rooms (y.items ∷ tail) stores homes sides) e can)) in
      record {
        first = subst (λ (l : List Wire). CanEnd node q r l s homes sides) same all.0;
        rest = subst (λ (l : List Wire). CanAllEnd (node + 1) qs rs tail later (map (without_home node) homes) (without_all l sides)) same all.1;
        wires_are = ap (λ (l : List Wire). l ∷ tail) same;
      }

pub nodes_joined : (node : ℕ) (queues : List PlainNodeQueues) (wires : List (List Wire)) (stores : List NodeStore) (homes laters : List (Option PlainHome)) (sides rest : List (List PlainSide)) (q : PlainNodeQueues) (qs : List PlainNodeQueues) (ws : List Wire) (more : List (List Wire))
    (m n o : PlainNotes) (s t : NodeStore) (later after : List NodeStore) → queues ≡ q ∷ qs → wires ≡ ws ∷ more → stores ≡ s ∷ later → laters ≡ map (without_home node) homes → rest ≡ without_all ws sides → NodeEnds node q.inbox.room ws homes sides m n s t
    → NodesEnd (node + 1) qs more laters rest n o later after → NodesEnd node queues wires homes sides m o stores (t ∷ after)
nodes_joined node queues wires stores homes laters sides rest q qs ws more m n o s t later after e f g left gone one others =
    let those = subst (λ (ss : List (List PlainSide)). NodesEnd (node + 1) qs more (map (without_home node) homes) ss n o later after) gone (subst (λ (hs : List (Option PlainHome)). NodesEnd (node + 1) qs more hs rest n o later after) left others) in
    let whole = more_nodes node q qs ws more homes sides m n o s t later after one those in
    subst (λ (l : List NodeStore). NodesEnd node queues wires homes sides m o l (t ∷ after)) (sym g)
    (subst (λ (l : List (List Wire)). NodesEnd node queues l homes sides m o (s ∷ later) (t ∷ after)) (sym f) (subst (λ (l : List PlainNodeQueues). NodesEnd node l (ws ∷ more) homes sides m o (s ∷ later) (t ∷ after)) (sym e) whole))

-- where no node is left nothing is
pub none_left : (node : ℕ) (queues : List PlainNodeQueues) (rooms : List NodeRooms) (wires : List (List Wire)) (stores : List NodeStore) (homes : List (Option PlainHome)) (sides : List (List PlainSide)) → CanAllEnd node queues rooms wires stores homes sides → length stores ≡ 0
    → (queues ≡ []) × (rooms ≡ []) × (wires ≡ []) × (stores ≡ [])
none_left node [] [] [] [] homes sides can e = (refl, refl, refl, refl)
none_left node queues rooms wires (s ∷ stores) homes sides can e = absurd (omega (arith, e))
none_left node (q ∷ queues) [] wires [] homes sides can e = absurd can
none_left node (q ∷ queues) (r ∷ rooms) [] [] homes sides can e = absurd can
none_left node (q ∷ queues) (r ∷ rooms) (ws ∷ wires) [] homes sides can e = absurd can
none_left node [] (r ∷ rooms) wires [] homes sides can e = absurd can
none_left node [] [] (ws ∷ wires) [] homes sides can e = absurd can

pub nodes_none : (node : ℕ) (queues : List PlainNodeQueues) (wires : List (List Wire)) (stores : List NodeStore) (homes : List (Option PlainHome)) (sides : List (List PlainSide)) (m : PlainNotes) → queues ≡ [] → wires ≡ [] → stores ≡ []
    → NodesEnd node queues wires homes sides m m stores stores
nodes_none node queues wires stores homes sides m e f g =
    subst (λ (l : List NodeStore). NodesEnd node queues wires homes sides m m l l) (sym g)
    (subst (λ (l : List (List Wire)). NodesEnd node queues l homes sides m m [] []) (sym f) (subst (λ (l : List PlainNodeQueues). NodesEnd node l [] homes sides m m [] []) (sym e) (no_nodes node homes sides m m refl)))

-- those of the others can end
pub rest_can : (node : ℕ) (qs : List PlainNodeQueues) (rs : List NodeRooms) (wires : List (Vec Wire)) (later : List NodeStore) (homes laters : List (Option PlainHome)) (sides rest : List (List PlainSide)) (q : PlainNodeQueues) (r : NodeRooms) (ws : List Wire) (s : NodeStore)
    → NodesSplit node qs rs wires later homes sides q r ws s → laters ≡ map (without_home node) homes → rest ≡ without_all ws sides
    → CanAllEnd (node + 1) qs rs (map (λ (v : Vec Wire). v.items) (take (length wires - 1) (drop 1 wires))) later laters rest
rest_can node qs rs wires later homes laters sides rest q r ws s cut left gone =
    subst (λ (l : List (Vec Wire)). CanAllEnd (node + 1) qs rs (map (λ (v : Vec Wire). v.items) l) later laters rest) (sym (take_rest wires 1))
    (subst (λ (hs : List (Option PlainHome)). CanAllEnd (node + 1) qs rs (map (λ (v : Vec Wire). v.items) (drop 1 wires)) later hs rest) (sym left)
    (subst (λ (ss : List (List PlainSide)). CanAllEnd (node + 1) qs rs (map (λ (v : Vec Wire). v.items) (drop 1 wires)) later (map (without_home node) homes) ss) (sym gone) cut.rest))

pub rest_wires : (wires : List (Vec Wire)) → map (λ (v : Vec Wire). v.items) (take (length wires - 1) (drop 1 wires)) ≡ map (λ (v : Vec Wire). v.items) (drop 1 wires)
rest_wires wires = ap (map (λ (v : Vec Wire). v.items)) (take_rest wires 1)
