-- What each turn puts into the inbox of a node, and gets there, is what the logs of its parties say.
use Rattle.std.proofs.Common.{◌≡◌, ℕ, ◌<◌, ◌==◌, Bool, true, false, Option, None, Some, List, [], ◌∷◌, ◌++◌, refl, sym, subst, ap, ◌∙◌}
use Rattle.std.specs.Prelude.{slice_get, if◌then◌else◌}
use Rattle.std.specs.List.{AllByRecursion}
use Rattle.std.proofs.lemmas.Bool.{eq-eqb}
use Rattle.csp_base.specs.Priority.{prio_number}
use Rattle.csp_base.specs.declared.priority.Prio.{Prio}
use Rattle.csp_buffer.specs.Content.{Content}
use Rattle.csp_consistent.proofs.Public.{if_put, leader_bridge, leader_router, one_put, own_puts, priority_carried}
use Rattle.csp_topology.specs.Writers.{writer_of}
use Rattle.csp_consistent.specs.Pools.{is_node}
use Rattle.csp_topology.specs.Lanes.{leader_of}
use Rattle.csp_consistent.specs.Queues.{MayAsk, MayPush}
use Rattle.csp_consistent.specs.Reading.{got_by, is_queue, put_by, puts, with_mark, with_priority}
use Rattle.csp_deck.specs.Carried.{IsInboxItem, IsOfPriority, priority_of}
use Rattle.csp_lists.specs.PlainDeck.{PlainDeck, most_urgent}
use Rattle.csp_log.specs.declared.entry.Entry.{Entry}
use Rattle.csp_log.specs.declared.places.End.{End}
use Rattle.csp_log.specs.declared.places.QueueId.{QueueId}
use Rattle.csp_log.specs.declared.places.QueueId.TheVariants as queue
use Rattle.csp_log.specs.declared.places.TheConstants.{IFACES}
use Rattle.csp_log.specs.declared.shown.AnswerShown.{AnswerShown}
use Rattle.csp_log.specs.declared.shown.AnswerShown.TheVariants as answer
use Rattle.csp_log.specs.declared.shown.ItemShown.{ItemShown}
use Rattle.csp_log.specs.declared.shown.ItemShown.TheVariants as item
use Rattle.csp_log.specs.declared.shown.OpShown.{OpShown}
use Rattle.csp_log.specs.declared.shown.OpShown.TheVariants as op
use Rattle.csp_nodes.specs.Serving.{goes, served}
use Rattle.csp_log.specs.Who.{node_of, is_who}
use Rattle.csp_log.specs.declared.who.Who.{Who}
use Rattle.csp_log.specs.declared.who.Who.TheVariants as who
use Rattle.csp_scene.proofs.Public.{AllByRecursion-map}
use Rattle.csp_scene.specs.Scene.{PlainNode, PlainScene}
use Rattle.csp_world.proofs.ContentLemmas.{if_named, popped_out, pushed_in}
use Rattle.csp_world.proofs.InboxNames.{IsParty, iface_few, no_got_lane, no_put_lane}
use Rattle.csp_world.proofs.LaneNames.{empty_if, got_as, home_got, home_put, pop_put, push_got, put_as}
use Rattle.csp_world.proofs.MovedLemmas.{got_at, got_there, put_there}

-- ---- what is put

module _ (p : Prio) where
  -- what an entry puts of a priority
  abbrev of_it : OpShown → AnswerShown → List ItemShown
  of_it o a = with_priority p (put_by queue.Inbox o a ++ [])

  lane_put : (here : Bool) (r : QueueId) (i : ItemShown) (a : AnswerShown) → is_queue queue.Inbox r ≡ false → if_named here (of_it (op.Push r i) a) ≡ []
  lane_put here r i a lane = ap (λ is. if_named here (with_priority p (is ++ []))) (put_as queue.Inbox r i a ∙ ap (λ b. if_named b (pushed_in i a)) lane) ∙ empty_if here

  packet_put : (mk : ℕ) (b : Content) (a : AnswerShown) → if_named (prio_number (priority_of b) == prio_number p) (pushed_in (item.Packet mk b) a) ≡ of_it (op.Push queue.Inbox (item.Packet mk b)) a
  packet_put mk b answer.Pushed = by (prio_number (priority_of b) == prio_number p) where
    by : (so : Bool) → if_named so (item.Packet mk b ∷ []) ≡ if_named so (item.Packet mk b ∷ []) ++ []
    by true = refl
    by false = refl
  packet_put mk b answer.Nothing = empty_if (prio_number (priority_of b) == prio_number p)
  packet_put mk b (answer.Taken c) = empty_if (prio_number (priority_of b) == prio_number p)
  packet_put mk b answer.NoBuffer = empty_if (prio_number (priority_of b) == prio_number p)
  packet_put mk b answer.Given = empty_if (prio_number (priority_of b) == prio_number p)
  packet_put mk b (answer.PoolFull c) = empty_if (prio_number (priority_of b) == prio_number p)
  packet_put mk b (answer.Full j) = empty_if (prio_number (priority_of b) == prio_number p)
  packet_put mk b (answer.Popped j) = empty_if (prio_number (priority_of b) == prio_number p)
  packet_put mk b answer.Empty = empty_if (prio_number (priority_of b) == prio_number p)

  -- comes to the inbox of its party's node
  put_where : (ends : List (List End)) (node : ℕ) (w : Who) (o : OpShown) → MayAsk w o → (a : AnswerShown) → put_there queue.Inbox (prio_number p) node (served ends w o) a ≡ if_named (is_node node (node_of w)) (of_it o a)
  put_where ends node w op.Nothing may a = home_put queue.Inbox (prio_number p) node (node_of w) op.Nothing a refl ∙ sym (empty_if (is_node node (node_of w)))
  put_where ends node w op.Take may a = home_put queue.Inbox (prio_number p) node (node_of w) op.Take a refl ∙ sym (empty_if (is_node node (node_of w)))
  put_where ends node w (op.Give b) may a = home_put queue.Inbox (prio_number p) node (node_of w) (op.Give b) a refl ∙ sym (empty_if (is_node node (node_of w)))
  put_where ends node w (op.Pop r) may a = pop_put queue.Inbox (prio_number p) node (goes ends w r) a ∙ sym (empty_if (is_node node (node_of w)))
  put_where ends node w (op.Push (queue.Up k) i) may a = no_put_lane ends w (queue.Up k) i (prio_number p) node a refl ∙ sym (lane_put (is_node node (node_of w)) (queue.Up k) i a refl)
  put_where ends node w (op.Push (queue.Down k) i) may a = no_put_lane ends w (queue.Down k) i (prio_number p) node a refl ∙ sym (lane_put (is_node node (node_of w)) (queue.Down k) i a refl)
  put_where ends node w (op.Push (queue.Out k) i) may a = no_put_lane ends w (queue.Out k) i (prio_number p) node a refl ∙ sym (lane_put (is_node node (node_of w)) (queue.Out k) i a refl)
  put_where ends node w (op.Push (queue.Tx k) i) may a = no_put_lane ends w (queue.Tx k) i (prio_number p) node a refl ∙ sym (lane_put (is_node node (node_of w)) (queue.Tx k) i a refl)
  put_where ends node w (op.Push (queue.Rx k) i) may a = no_put_lane ends w (queue.Rx k) i (prio_number p) node a refl ∙ sym (lane_put (is_node node (node_of w)) (queue.Rx k) i a refl)
  put_where ends node (who.Router n) (op.Push queue.Inbox (item.Packet mk b)) may a = ap (if_named (n == node)) (packet_put mk b a)
  put_where ends node (who.Iface n k) (op.Push queue.Inbox (item.Packet mk b)) may a = ap (if_named (n == node)) (packet_put mk b a)
  put_where ends node (who.Router n) (op.Push queue.Inbox (item.Frame f)) may a = absurd may
  put_where ends node (who.Router n) (op.Push queue.Inbox (item.Note f)) may a = absurd may
  put_where ends node (who.Iface n k) (op.Push queue.Inbox (item.Frame f)) may a = absurd may
  put_where ends node (who.Iface n k) (op.Push queue.Inbox (item.Note f)) may a = absurd may
  put_where ends node (who.Bridge n) (op.Push queue.Inbox i) may a = absurd may
  put_where ends node (who.App n k) (op.Push queue.Inbox i) may a = absurd may
  put_where ends node (who.Link l) (op.Push queue.Inbox i) may a = absurd may

-- with a mark it is what the party puts whose mark it is
pub put_same : (scene : PlainScene) (ends : List (List End)) (node : ℕ) (x : PlainNode) → slice_get scene.nodes node ≡ Some x → (w : Who) → IsParty scene.nodes scene.links w → (e : Entry) → MayAsk w e.op → (p : Prio) (mark : ℕ)
    → with_priority p (puts queue.Inbox (if is_who (writer_of node (leader_of node x.addr) mark) w then e ∷ [] else [])) ≡ with_mark mark (put_there queue.Inbox (prio_number p) node (served ends w e.op) e.answer)
put_same scene ends node x at w is e may p mark =
    sym (if_put p (is_who (writer_of node (leader_of node x.addr) mark) w) (e ∷ []))
    ∙ sym (one_put scene is.few node x at mark p w is.party (e ∷ []) is.owner (may, tt))
    ∙ ap (with_mark mark) (sym (put_where p ends node w e.op may e.answer))

-- each packet that is put is one that an inbox carries
abbrev pub AllOf : Prio → List ItemShown → Type 0
AllOf p is = AllByRecursion (IsOfPriority p) is

put_item : (scene : PlainScene) (w : Who) → IsParty scene.nodes scene.links w → (i : ItemShown) → MayPush w queue.Inbox i → IsInboxItem i
put_item scene (who.Router n) is (item.Packet mk b) may = λ away. absurd (away may)
put_item scene (who.Iface n k) is (item.Packet mk b) may = λ away. subst (λ j. j < IFACES) (sym may) (iface_few scene.nodes scene.links n k is)
put_item scene (who.Router n) is (item.Frame f) may = absurd may
put_item scene (who.Router n) is (item.Note f) may = absurd may
put_item scene (who.Iface n k) is (item.Frame f) may = absurd may
put_item scene (who.Iface n k) is (item.Note f) may = absurd may
put_item scene (who.Bridge n) is i may = absurd may
put_item scene (who.App n k) is i may = absurd may
put_item scene (who.Link l) is i may = absurd may

pub put_carried : (scene : PlainScene) (ends : List (List End)) (node : ℕ) (w : Who) → IsParty scene.nodes scene.links w → (e : Entry) → MayAsk w e.op → (p : Prio) → AllOf p (put_there queue.Inbox (prio_number p) node (served ends w e.op) e.answer)
put_carried scene ends node w is e may p =
    subst (AllOf p) (sym (put_where p ends node w e.op may e.answer)) (by (is_node node (node_of w)))
  where
    all : AllOf p (with_priority p (puts queue.Inbox (e ∷ [])))
    all = priority_carried p (puts queue.Inbox (e ∷ [])) (AllByRecursion-map (MayPush w queue.Inbox) IsInboxItem (puts queue.Inbox (e ∷ [])) (put_item scene w is) (own_puts w (e ∷ []) (may, tt)))

    by : (here : Bool) → AllOf p (if_named here (with_priority p (puts queue.Inbox (e ∷ []))))
    by true = all
    by false = tt

-- ---- what is got

same_prio : (u : Prio) → (prio_number u == prio_number u) ≡ true
same_prio u = eq-eqb (prio_number u) (prio_number u) refl

-- a pop of an inbox takes from the queue of the most urgent priority
abbrev pub got_urgent : PlainDeck → ℕ → Option (ℕ × OpShown) → AnswerShown → List ItemShown
got_urgent d node there a = got_there queue.Inbox (prio_number (most_urgent d)) d node there a

got_inbox : (d : PlainDeck) (here : Bool) (a : AnswerShown)
    → if_named here (got_by queue.Inbox (op.Pop queue.Inbox) a) ≡ if_named here (if_named (prio_number (most_urgent d) == prio_number (most_urgent d)) (popped_out a))
got_inbox d here a = ap (if_named here) (got_as queue.Inbox queue.Inbox a ∙ ap (λ b. if_named b (popped_out a)) (sym (same_prio (most_urgent d))))

lane_got : (so : Bool) (r : QueueId) (a : AnswerShown) → is_queue queue.Inbox r ≡ false → if_named so (got_by queue.Inbox (op.Pop r) a) ≡ []
lane_got so r a lane = ap (if_named so) (got_as queue.Inbox r a ∙ ap (λ b. if_named b (popped_out a)) lane) ∙ empty_if so

module _ (scene : PlainScene) (ends : List (List End)) (node : ℕ) (x : PlainNode) (at : slice_get scene.nodes node ≡ Some x) (d : PlainDeck) (a : AnswerShown) where
  abbrev hub : Who
  hub = leader_of node x.addr

  pub got_same : (w : Who) → IsParty scene.nodes scene.links w → (o : OpShown) → MayAsk w o → (if is_who hub w then got_by queue.Inbox o a else []) ≡ got_urgent d node (served ends w o) a
  got_same w is op.Nothing may = empty_if (is_who hub w) ∙ sym (home_got queue.Inbox (prio_number (most_urgent d)) node (node_of w) op.Nothing d a refl)
  got_same w is op.Take may = empty_if (is_who hub w) ∙ sym (home_got queue.Inbox (prio_number (most_urgent d)) node (node_of w) op.Take d a refl)
  got_same w is (op.Give b) may = empty_if (is_who hub w) ∙ sym (home_got queue.Inbox (prio_number (most_urgent d)) node (node_of w) (op.Give b) d a refl)
  got_same w is (op.Push r i) may = empty_if (is_who hub w) ∙ sym (push_got queue.Inbox (prio_number (most_urgent d)) node (goes ends w r) i d a)
  got_same w is (op.Pop (queue.Up k)) may = lane_got (is_who hub w) (queue.Up k) a refl ∙ sym (no_got_lane ends w (queue.Up k) (prio_number (most_urgent d)) d node a refl)
  got_same w is (op.Pop (queue.Down k)) may = lane_got (is_who hub w) (queue.Down k) a refl ∙ sym (no_got_lane ends w (queue.Down k) (prio_number (most_urgent d)) d node a refl)
  got_same w is (op.Pop (queue.Out k)) may = lane_got (is_who hub w) (queue.Out k) a refl ∙ sym (no_got_lane ends w (queue.Out k) (prio_number (most_urgent d)) d node a refl)
  got_same w is (op.Pop (queue.Tx k)) may = lane_got (is_who hub w) (queue.Tx k) a refl ∙ sym (no_got_lane ends w (queue.Tx k) (prio_number (most_urgent d)) d node a refl)
  got_same w is (op.Pop (queue.Rx k)) may = lane_got (is_who hub w) (queue.Rx k) a refl ∙ sym (no_got_lane ends w (queue.Rx k) (prio_number (most_urgent d)) d node a refl)
  got_same (who.Router n) is (op.Pop queue.Inbox) may = ap (λ so. if_named so (got_by queue.Inbox (op.Pop queue.Inbox) a)) (leader_router scene.nodes scene.links node x at n is.party is.owner) ∙ got_inbox d (n == node) a
  got_same (who.Bridge n) is (op.Pop queue.Inbox) may = ap (λ so. if_named so (got_by queue.Inbox (op.Pop queue.Inbox) a)) (leader_bridge scene.nodes scene.links node x at n is.party is.owner) ∙ got_inbox d (n == node) a
  got_same (who.Iface n k) is (op.Pop queue.Inbox) may = absurd may
  got_same (who.App n k) is (op.Pop queue.Inbox) may = absurd may
  got_same (who.Link l) is (op.Pop queue.Inbox) may = absurd may

-- what is popped is of that priority, and so of no other
abbrev pub IsUrgent : PlainDeck → ℕ → Option (ℕ × OpShown) → AnswerShown → Type 0
IsUrgent d node there a = AllOf (most_urgent d) (got_urgent d node there a)

urgent_packet : (u p : Prio) (i : ItemShown) → IsOfPriority u i → with_priority p (i ∷ []) ≡ if_named (prio_number u == prio_number p) (i ∷ [])
urgent_packet u p (item.Packet mk b) h = ap (λ (q : Prio). with_one q) h.1 ∙ by (prio_number u == prio_number p) where
  with_one : Prio → List ItemShown
  with_one q = (if prio_number q == prio_number p then item.Packet mk b ∷ [] else []) ++ []

  by : (so : Bool) → (if so then item.Packet mk b ∷ [] else []) ++ [] ≡ if_named so (item.Packet mk b ∷ [])
  by true = refl
  by false = refl
urgent_packet u p (item.Frame f) h = absurd h
urgent_packet u p (item.Note f) h = absurd h

urgent_popped : (u p : Prio) (a : AnswerShown) → AllOf u (popped_out a) → with_priority p (popped_out a) ≡ if_named (prio_number u == prio_number p) (popped_out a)
urgent_popped u p a h = by a h where
  none : (so : Bool) → [] ≡ if_named so []
  none true = refl
  none false = refl

  by : (y : AnswerShown) → AllOf u (popped_out y) → with_priority p (popped_out y) ≡ if_named (prio_number u == prio_number p) (popped_out y)
  by (answer.Popped i) g = urgent_packet u p i g.0
  by answer.Nothing g = none _
  by (answer.Taken c) g = none _
  by answer.NoBuffer g = none _
  by answer.Given g = none _
  by (answer.PoolFull c) g = none _
  by answer.Pushed g = none _
  by (answer.Full j) g = none _
  by answer.Empty g = none _

urgent_at : (p : Prio) (d : PlainDeck) (o : OpShown) (a : AnswerShown) → AllOf (most_urgent d) (got_at queue.Inbox (prio_number (most_urgent d)) d o a)
    → with_priority p (got_at queue.Inbox (prio_number (most_urgent d)) d o a) ≡ got_at queue.Inbox (prio_number p) d o a
urgent_at p d op.Nothing a h = refl
urgent_at p d op.Take a h = refl
urgent_at p d (op.Give b) a h = refl
urgent_at p d (op.Push to i) a h = refl
urgent_at p d (op.Pop (queue.Up k)) a h = refl
urgent_at p d (op.Pop (queue.Down k)) a h = refl
urgent_at p d (op.Pop (queue.Out k)) a h = refl
urgent_at p d (op.Pop (queue.Tx k)) a h = refl
urgent_at p d (op.Pop (queue.Rx k)) a h = refl
urgent_at p d (op.Pop queue.Inbox) a h =
    let all : if_named (prio_number (most_urgent d) == prio_number (most_urgent d)) (popped_out a) ≡ popped_out a = ap (λ (so : Bool). if_named so (popped_out a)) (same_prio (most_urgent d)) in
    ap (with_priority p) all ∙ urgent_popped (most_urgent d) p a (subst (AllOf (most_urgent d)) all h)

pub urgent_alone : (p : Prio) (d : PlainDeck) (node : ℕ) (there : Option (ℕ × OpShown)) (a : AnswerShown) → IsUrgent d node there a → with_priority p (got_urgent d node there a) ≡ got_there queue.Inbox (prio_number p) d node there a
urgent_alone p d node None a urgent = refl
urgent_alone p d node (Some t) a urgent = by (t.0 == node) urgent where
  at : Prio → Bool → List ItemShown
  at q here = (if here then got_at queue.Inbox (prio_number q) d t.1 a else [])

  by : (here : Bool) → AllOf (most_urgent d) (at (most_urgent d) here) → with_priority p (at (most_urgent d) here) ≡ at p here
  by true h = urgent_at p d t.1 a h
  by false h = refl

-- a packet of a priority is one that an inbox carries
pub in_inbox : (p : Prio) (i : ItemShown) → IsOfPriority p i → IsInboxItem i
in_inbox p (item.Packet mk b) h = h.0
in_inbox p (item.Frame f) h = absurd h
in_inbox p (item.Note f) h = absurd h
