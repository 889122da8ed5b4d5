-- What holds between rounds, with the floors reached, read off a record: of each lane, each inbox and each pool of the scene.
use Rattle.std.proofs.Common.{◌≡◌, ◌⊎◌, inl, inr, ℕ, ◌+◌, ◌≤◌, ◌==◌, Bool, true, false, Option, Some, None, List, [], ◌∷◌, ◌++◌, length, map, slice_get, refl, sym, ap, ◌∙◌, subst, arith, le_trans, eqb-true, eq-eqb}
use Rattle.std.proofs.lemmas.Grind.{flat_map-append}
use Rattle.std.specs.Prelude.{⊤, if◌then◌else◌, nat_lt}
use Rattle.std.specs.List.{AllByRecursion}
use Rattle.csp_base.specs.Priority.{prio_number}
use Rattle.csp_base.specs.declared.priority.Prio.{Prio}
use Rattle.csp_buffer.specs.Content.{Content}
use Rattle.csp_consistent.proofs.Public.{each_filter, HasNone, none_there, uses}
use Rattle.csp_topology.specs.Writers.{writer_of}
use Rattle.csp_consistent.specs.Pools.{given, given_at, is_node, taken, taken_at}
use Rattle.csp_consistent.specs.Prompt.{AllAfter, CrammedAt, IsInboxPrompt, IsPoolPrompt, IsPrompt, IsPromptAt, LackedAt, PassedNone, PassesNone, early_log, gives_at, inbox_puts, takes_at}
use Rattle.csp_consistent.specs.Queues.{MayAsk, MayPush, UsesItsQueues}
use Rattle.csp_consistent.specs.Reading.{entries_of, gets, of_mark, of_priority, put_by, puts, with_mark, with_priority}
use Rattle.csp_consistent.specs.Rounds.{early}
use Rattle.csp_consistent.specs.Runs.{AreLogsOf}
use Rattle.csp_deck.specs.Carried.{priority_of}
use Rattle.csp_ends.specs.Ends.{PlainHome, PlainNodeQueues}
use Rattle.csp_ends.specs.Moves.{room_among}
use Rattle.csp_inbox.specs.Marks.{mark_of}
use Rattle.csp_inbox.specs.Passes as inbox
use Rattle.csp_lists.specs.PlainDeck.{lane_room}
use Rattle.csp_log.specs.declared.entry.Entry.{Entry}
use Rattle.csp_log.specs.declared.places.QueueId.TheVariants as queue
use Rattle.csp_log.specs.declared.places.TheConstants.{UNMARKED}
use Rattle.csp_log.specs.declared.shown.AnswerShown.{AnswerShown}
use Rattle.csp_log.specs.declared.shown.AnswerShown.TheVariants as answer
use Rattle.csp_log.specs.declared.shown.ItemShown.{ItemShown}
use Rattle.csp_log.specs.declared.shown.ItemShown.TheVariants as item
use Rattle.csp_log.specs.declared.shown.OpShown.{OpShown}
use Rattle.csp_log.specs.declared.shown.OpShown.TheVariants as op
use Rattle.csp_posts.specs.Between.{AreAllTraced, AreInRounds, IsInboxBetween, IsMarked, PassesMarked, all_put, all_taken, early_given, early_taken, over_home}
use Rattle.csp_posts.specs.Posts.{PlainPost}
use Rattle.csp_record.specs.Record.{PlainPartyLog, PlainRecord}
use Rattle.csp_log.specs.Who.{node_of}
use Rattle.csp_log.specs.declared.who.Who.{Who}
use Rattle.csp_log.specs.declared.who.Who.TheVariants as who
use Rattle.csp_scene.proofs.Public.{AllByRecursion-map}
use Rattle.csp_scene.specs.Scene.{PlainNode, PlainScene}
use Rattle.csp_standing.proofs.Early.{after_map}
use Rattle.csp_standing.proofs.ListPlaces.{each_at, each_both, each_from, mapped_some, zip_after, zip_before}
use Rattle.csp_standing.proofs.Logged.{AtHome, IsPostAt, find_post, flat_mapped, inbox_reached, lengths, post_entries}
use Rattle.csp_standing.proofs.Onward.{lane_named}
use Rattle.csp_standing.proofs.PoolRounds.{puts_told, takes_told}
use Rattle.csp_standing.specs.Shown.{AreLoggedBy, AreOfScene, AreReached, HasPassAt, IsLoggedBy, IsReadAt, IsWiredAt, all_kept}
use Rattle.csp_topology.specs.Lanes.{PlainLane, leader_of}
use Rattle.csp_topology.specs.Wires.{lanes_of}
use Rattle.csp_topology.specs.Parties.{parties_of}

-- where nothing was put, nothing is passed over
none_passed : (p : Prio) (mark : ℕ) (before : List Entry) (o : OpShown) (a : AnswerShown) → PassedNone p mark 0 before o a
none_passed p mark before (op.Pop queue.Inbox) answer.Empty = omega arith
none_passed p mark before (op.Pop queue.Inbox) (answer.Popped (item.Packet m b)) = λ h. omega arith
none_passed p mark before _ _ = tt

passes_nothing : (p : Prio) (mark : ℕ) (before es : List Entry) → AllAfter (λ bs e. PassedNone p mark (length (with_priority p (puts queue.Inbox (early e.time [])))) bs e.op e.answer) before es
passes_nothing p mark before [] = tt
passes_nothing p mark before (e ∷ es) = (none_passed p mark before e.op e.answer, passes_nothing p mark (before ++ e ∷ []) es)

-- what a router, a bridge or an interface pushes to its inbox has its mark
hub_marked : (node : ℕ) (addr : Option ℕ) (i : ItemShown) → MayPush (leader_of node addr) queue.Inbox i → mark_of i ≡ UNMARKED
hub_marked node (Some addr) (item.Packet m b) may = may
hub_marked node (Some addr) (item.Frame f) may = absurd may
hub_marked node (Some addr) (item.Note n) may = absurd may
hub_marked node None (item.Packet m b) may = absurd may
hub_marked node None (item.Frame f) may = absurd may
hub_marked node None (item.Note n) may = absurd may

iface_marked : (node number : ℕ) (i : ItemShown) → MayPush (who.Iface node number) queue.Inbox i → mark_of i ≡ number
iface_marked node number (item.Packet m b) may = may
iface_marked node number (item.Frame f) may = absurd may
iface_marked node number (item.Note n) may = absurd may

-- a party marks what it pushes to its inbox so
abbrev Marks : Who → ℕ → Type 0
Marks w mark = (i : ItemShown) → MayPush w queue.Inbox i → mark_of i ≡ mark

crammed_marked : (w : Who) (mark : ℕ) (p : Prio) (least puts : ℕ) (o : OpShown) (a : AnswerShown) → Marks w mark → MayAsk w o → (IsMarked mark o → CrammedAt p least puts o a) → CrammedAt p least puts o a
crammed_marked w mark p least puts (op.Push queue.Inbox i) (answer.Full j) marks may crammed = crammed (marks i may)
crammed_marked w mark p least puts _ _ marks may crammed = tt

crammed_by : (p : Prio) (least n m : ℕ) (o : OpShown) (a : AnswerShown) → n ≤ m → CrammedAt p least n o a → CrammedAt p least m o a
crammed_by p least n m (op.Push queue.Inbox i) (answer.Full j) h crammed = λ some. le_trans (crammed some) h
crammed_by p least n m _ _ h crammed = tt

lacked_by : (a b c d e f g h : ℕ) (o : OpShown) (x : AnswerShown) → (a ≤ b → e ≤ f) → (c ≤ d → g ≤ h) → LackedAt a b c d o x → LackedAt e f g h o x
lacked_by a b c d e f g h op.Take answer.NoBuffer takes gives lacked = takes lacked
lacked_by a b c d e f g h (op.Give i) (answer.PoolFull j) takes gives lacked = gives lacked
lacked_by a b c d e f g h _ _ takes gives lacked = tt

node_is : (node : ℕ) (o : Option ℕ) → is_node node o ≡ true → o ≡ Some node
node_is node None e = absurd cc
node_is node (Some k) e = ap Some (eqb-true k node e)

-- all that a party puts into its inbox has its mark
packet_marked : (mark m : ℕ) (b : Content) (here : Bool) → m ≡ mark → with_mark mark ((if here then item.Packet m b ∷ [] else []) ++ []) ≡ (if here then item.Packet m b ∷ [] else []) ++ []
packet_marked mark m b true e = ap (λ c. (if c then item.Packet m b ∷ [] else []) ++ []) (eq-eqb m mark e)
packet_marked mark m b false e = refl

put_marked : (w : Who) (mark : ℕ) (p : Prio) (o : OpShown) (a : AnswerShown) → Marks w mark → MayAsk w o → with_mark mark (with_priority p (put_by queue.Inbox o a)) ≡ with_priority p (put_by queue.Inbox o a)
put_marked w mark p (op.Push queue.Inbox (item.Packet m b)) answer.Pushed marks may = packet_marked mark m b (prio_number (priority_of b) == prio_number p) (marks (item.Packet m b) may)
put_marked w mark p (op.Push queue.Inbox (item.Frame f)) answer.Pushed marks may = refl
put_marked w mark p (op.Push queue.Inbox (item.Note n)) answer.Pushed marks may = refl
put_marked w mark p (op.Push q i) answer.Pushed marks may = refl
put_marked w mark p _ _ marks may = refl

all_marked : (w : Who) (mark : ℕ) (p : Prio) (es : List Entry) → Marks w mark → AllByRecursion (λ e. MayAsk w e.op) es
    → with_mark mark (with_priority p (puts queue.Inbox es)) ≡ with_priority p (puts queue.Inbox es)
all_marked w mark p [] marks all = refl
all_marked w mark p (e ∷ es) marks all =
    ap (with_mark mark) (flat_map-append (of_priority p) (put_by queue.Inbox e.op e.answer) (puts queue.Inbox es))
    ∙ flat_map-append (of_mark mark) (with_priority p (put_by queue.Inbox e.op e.answer)) (with_priority p (puts queue.Inbox es))
    ∙ ap (λ is. is ++ with_mark mark (with_priority p (puts queue.Inbox es))) (put_marked w mark p e.op e.answer marks all.0)
    ∙ ap (λ is. with_priority p (put_by queue.Inbox e.op e.answer) ++ is) (all_marked w mark p es marks all.1)
    ∙ sym (flat_map-append (of_priority p) (put_by queue.Inbox e.op e.answer) (puts queue.Inbox es))

-- so nothing that it put was passed over
passes_all : (w : Who) (mark : ℕ) (p : Prio) (es fs : List Entry) → Marks w mark → AllByRecursion (λ e. MayAsk w e.op) es → PassesMarked p mark es fs → PassesNone p mark es fs
passes_all w mark p es fs marks all passed =
    after_map (λ bs e. PassedNone p mark (length (with_mark mark (with_priority p (puts queue.Inbox (early e.time es))))) bs e.op e.answer)
    (λ bs e. PassedNone p mark (length (with_priority p (puts queue.Inbox (early e.time es)))) bs e.op e.answer) (λ e. ⊤) [] fs
    (λ bs e _ one. subst (λ is. PassedNone p mark (length is) bs e.op e.answer) (all_marked w mark p (early e.time es) marks (each_filter (λ (x : Entry). MayAsk w x.op) (λ x. nat_lt x.time e.time) es all)) one)
    (each_from (λ (e : Entry). ⊤) fs (λ k e at. tt)) passed

-- a party that writes to the inbox of a node, with this mark
record IsWriterAt (posts : List PlainPost) (w : Who) (place mark room : ℕ) : Type 0 where
  pub at : ℕ
  pub post : PlainPost
  pub there : slice_get posts at ≡ Some post
  pub who : post.who ≡ w
  pub has : HasPassAt post place mark room
  pub marks : Marks w mark

module _ (scene : PlainScene) (r : PlainRecord) (nodes : List PlainNodeQueues) (opened : Who → List ℕ) (time : ℕ) (posts : List PlainPost) (are : AreLogsOf (parties_of scene) r.parties)
    (logged : AreLoggedBy posts r.parties) (of_it : AreOfScene scene nodes posts) (told : AreAllTraced nodes opened posts) (past : AreInRounds nodes time posts) (reached : AreReached posts) where
  own : (i : ℕ) (s : PlainPost) → slice_get posts i ≡ Some s → entries_of r s.who ≡ s.entries
  own i s at = post_entries scene r posts i s are logged at

  named : (i : ℕ) (s : PlainPost) (w : Who) → slice_get posts i ≡ Some s → s.who ≡ w → s.entries ≡ entries_of r w
  named i s w at name = sym (own i s at) ∙ ap (entries_of r) name

  lane_shown : (l : PlainLane) → IsWiredAt posts l → IsPromptAt r l
  lane_shown l w =
      lane_named w.x.end.room (lane_room l.queue) w.x.queue l.from.queue w.s.entries (entries_of r l.from.who) w.y.queue l.to.queue w.t.entries (entries_of r l.to.who)
      w.room w.called_from (named w.i w.s l.from.who w.joined.first w.from) w.called_to (named w.j w.t l.to.who w.joined.second w.to) (past.lanes w.i w.j w.s w.t w.x w.y w.joined)

  -- one who writes with this mark, if there is one
  writer_there : (node : ℕ) (n : PlainNode) (there : slice_get scene.nodes node ≡ Some n) (mark : ℕ) (b : Bool) → (mark == UNMARKED) ≡ b
      → HasNone (if b then leader_of node n.addr else who.Iface node mark) (parties_of scene) ⊎ IsWriterAt posts (if b then leader_of node n.addr else who.Iface node mark) node mark n.inbox
  writer_there node n there mark true e =
      let hub : IsReadAt posts (leader_of node n.addr) node n.inbox = of_it.hubs node n there in
      let same : mark ≡ UNMARKED = eqb-true mark UNMARKED e in
      inr (record {
        at = hub.at;
        post = hub.post;
        there = hub.there;
        who = hub.who;
        has = subst (λ m. HasPassAt hub.post node m n.inbox) (sym same) hub.has;
        marks = λ i may. hub_marked node n.addr i may ∙ sym same;
      })
  writer_there node n there mark false e =
      found (find_post (who.Iface node mark) (parties_of scene) r.parties posts are logged)
    where
      found : HasNone (who.Iface node mark) (parties_of scene) ⊎ IsPostAt posts (who.Iface node mark) → HasNone (who.Iface node mark) (parties_of scene) ⊎ IsWriterAt posts (who.Iface node mark) node mark n.inbox
      found (inl none) = inl none
      found (inr f) = inr (record { at = f.at; post = f.post; there = f.there; who = f.who; has = of_it.ifaces node n there f.at mark f.post f.there f.who; marks = iface_marked node mark })

  -- of the party that reads the inbox, and one that writes
  between : (node : ℕ) (n : PlainNode) (w : Who) (mark : ℕ) (hub : IsReadAt posts (leader_of node n.addr) node n.inbox) (f : IsWriterAt posts w node mark n.inbox) (p : Prio) → IsInboxBetween hub.post f.post f.has.pass p
  between node n w mark hub f p =
      past.inboxes hub.at f.at hub.post f.post hub.has.pass f.has.pass p
      (record { first = hub.there; second = f.there; g = hub.has.home; h = f.has.home; hub_home = hub.has.there; home = f.has.there; node = f.has.node ∙ sym hub.has.node; hub_pass = hub.has.inbox; pass = f.has.inbox; reads = hub.reads })

  -- what a party asks is on its own queues
  asks_own : (i : ℕ) (s : PlainPost) → slice_get posts i ≡ Some s → AllByRecursion (λ e. MayAsk s.who e.op) s.entries
  asks_own i s at =
      let log : (l : PlainPartyLog) × (slice_get r.parties i ≡ Some l) × IsLoggedBy s l = zip_after IsLoggedBy posts r.parties i s logged at in
      subst (λ w. AllByRecursion (λ e. MayAsk w e.op) s.entries) log.2.who
      (subst (λ es. AllByRecursion (λ e. MayAsk log.0.who e.op) es) log.2.entries (each_at UsesItsQueues r.parties i log.0 (uses scene r.parties are) log.1))

  passed_shown : (node : ℕ) (n : PlainNode) (p : Prio) (mark : ℕ) (w : Who) → IsReadAt posts (leader_of node n.addr) node n.inbox → HasNone w (parties_of scene) ⊎ IsWriterAt posts w node mark n.inbox
      → PassesNone p mark (entries_of r w) (entries_of r (leader_of node n.addr))
  passed_shown node n p mark w hub (inl none) =
      subst (λ es. PassesNone p mark es (entries_of r (leader_of node n.addr))) (sym (none_there w (parties_of scene) r.parties are none)) (passes_nothing p mark [] (entries_of r (leader_of node n.addr)))
  passed_shown node n p mark w hub (inr f) =
      subst (λ es. PassesNone p mark (entries_of r w) es) (named hub.at hub.post (leader_of node n.addr) hub.there hub.who)
      (subst (λ es. PassesNone p mark es hub.post.entries) (named f.at f.post w f.there f.who)
      (passes_all w mark p f.post.entries hub.post.entries f.marks (subst (λ u. AllByRecursion (λ e. MayAsk u e.op) f.post.entries) f.who (asks_own f.at f.post f.there))
      (subst (λ m. PassesMarked p m f.post.entries hub.post.entries) f.has.marked (between node n w mark hub f p).passed)))

  floor_reached : (node : ℕ) (n : PlainNode) (w : Who) (mark : ℕ) (f : IsWriterAt posts w node mark n.inbox) (p : Prio) → (inbox.mail_at f.has.pass p).puts_floor ≤ length (inbox_puts r node p)
  floor_reached node n w mark f p =
      le_trans (reached.inboxes f.at f.post f.has.home f.has.pass p f.there f.has.there f.has.inbox)
      (subst (λ k. all_kept k p posts ≤ length (inbox_puts r node p)) (sym f.has.node) (inbox_reached node p opened posts r.parties told.each of_it.homes logged))

  full_shown : (node : ℕ) (n : PlainNode) (p : Prio) (mark : ℕ) (w : Who) → IsReadAt posts (leader_of node n.addr) node n.inbox → HasNone w (parties_of scene) ⊎ IsWriterAt posts w node mark n.inbox
      → AllByRecursion (λ e. CrammedAt p (n.inbox + length (with_priority p (gets queue.Inbox (early e.time (entries_of r (leader_of node n.addr)))))) (length (inbox_puts r node p)) e.op e.answer) (entries_of r w)
  full_shown node n p mark w hub (inl none) =
      subst (λ es. AllByRecursion (λ e. CrammedAt p (n.inbox + length (with_priority p (gets queue.Inbox (early e.time (entries_of r (leader_of node n.addr)))))) (length (inbox_puts r node p)) e.op e.answer) es)
      (sym (none_there w (parties_of scene) r.parties are none)) tt
  full_shown node n p mark w hub (inr f) =
      subst (λ es. AllByRecursion (λ e. CrammedAt p (n.inbox + length (with_priority p (gets queue.Inbox (early e.time (entries_of r (leader_of node n.addr)))))) (length (inbox_puts r node p)) e.op e.answer) es) (named f.at f.post w f.there f.who)
      (each_both (λ e. MayAsk f.post.who e.op)
      (λ e. IsMarked f.has.pass.role.mark e.op → CrammedAt p (f.has.pass.role.room + length (with_priority p (gets queue.Inbox (early e.time hub.post.entries)))) (inbox.mail_at f.has.pass p).puts_floor e.op e.answer)
      (λ e. CrammedAt p (n.inbox + length (with_priority p (gets queue.Inbox (early e.time (entries_of r (leader_of node n.addr)))))) (length (inbox_puts r node p)) e.op e.answer) f.post.entries
      (λ e may crammed.
      crammed_by p (n.inbox + length (with_priority p (gets queue.Inbox (early e.time (entries_of r (leader_of node n.addr)))))) (inbox.mail_at f.has.pass p).puts_floor (length (inbox_puts r node p)) e.op e.answer (floor_reached node n w mark f p)
      (subst (λ es. CrammedAt p (n.inbox + length (with_priority p (gets queue.Inbox (early e.time es)))) (inbox.mail_at f.has.pass p).puts_floor e.op e.answer) (named hub.at hub.post (leader_of node n.addr) hub.there hub.who)
      (subst (λ k. CrammedAt p (k + length (with_priority p (gets queue.Inbox (early e.time hub.post.entries)))) (inbox.mail_at f.has.pass p).puts_floor e.op e.answer) f.has.roomy
      (crammed_marked w mark p (f.has.pass.role.room + length (with_priority p (gets queue.Inbox (early e.time hub.post.entries)))) (inbox.mail_at f.has.pass p).puts_floor e.op e.answer f.marks
      (subst (λ u. MayAsk u e.op) f.who may)
      (subst (λ m. IsMarked m e.op → CrammedAt p (f.has.pass.role.room + length (with_priority p (gets queue.Inbox (early e.time hub.post.entries)))) (inbox.mail_at f.has.pass p).puts_floor e.op e.answer) f.has.marked crammed)))))
      (asks_own f.at f.post f.there) (between node n w mark hub f p).full)

  inbox_shown : (node : ℕ) (n : PlainNode) → slice_get scene.nodes node ≡ Some n → (p : Prio) → IsInboxPrompt r node n.inbox (leader_of node n.addr) p
  inbox_shown node n there p = record {
    passed = λ mark. passed_shown node n p mark (writer_of node (leader_of node n.addr) mark) (of_it.hubs node n there) (writer_there node n there mark (mark == UNMARKED) refl);
    full = λ mark. full_shown node n p mark (writer_of node (leader_of node n.addr) mark) (of_it.hubs node n there) (writer_there node n there mark (mark == UNMARKED) refl);
  }

  -- counts over the posts and over the logs
  early_gives : (node t : ℕ) → early_given node t posts ≡ gives_at node (map (early_log t) r.parties)
  early_gives node t = lengths node (λ es. given (early t es)) posts r.parties of_it.homes logged ∙ ap length (sym (flat_mapped (given_at node) (early_log t) r.parties))

  early_takes : (node t : ℕ) → early_taken node t posts ≡ takes_at node (map (early_log t) r.parties)
  early_takes node t = lengths node (λ es. taken (early t es)) posts r.parties of_it.homes logged ∙ ap length (sym (flat_mapped (taken_at node) (early_log t) r.parties))

  all_takes : (node : ℕ) → all_taken node posts ≡ takes_at node r.parties
  all_takes node = takes_told node opened posts told.each ∙ lengths node taken posts r.parties of_it.homes logged

  all_gives : (node : ℕ) → all_put node posts ≡ room_among (slice_get nodes node) + gives_at node r.parties
  all_gives node =
      puts_told node opened posts told.each ∙ ap (λ k. k + over_home node (λ s. length (given s.entries)) posts) (told.whole node)
      ∙ ap (λ k. room_among (slice_get nodes node) + k) (lengths node given posts r.parties of_it.homes logged)

  pool_entry : (node : ℕ) (n : PlainNode) → slice_get scene.nodes node ≡ Some n → (i : ℕ) (s : PlainPost) (h : PlainHome) → slice_get posts i ≡ Some s → s.ends.home ≡ Some h → h.node ≡ node → (e : Entry)
      → LackedAt (room_among (slice_get nodes h.node) + early_given h.node e.time posts) h.pool.hand.takes.floor (room_among (slice_get nodes h.node) + early_taken h.node e.time posts) h.pool.hand.puts.floor e.op e.answer
      → LackedAt (n.buffers + gives_at node (map (early_log e.time) r.parties)) (takes_at node r.parties) (takes_at node (map (early_log e.time) r.parties)) (gives_at node r.parties) e.op e.answer
  pool_entry node n there i s h at home same e lacked =
      let takes : h.pool.hand.takes.floor ≤ takes_at node r.parties = subst (λ k. h.pool.hand.takes.floor ≤ k) (ap (λ k. all_taken k posts) same ∙ all_takes node) (reached.takes i s h at home) in
      let gives : h.pool.hand.puts.floor ≤ room_among (slice_get nodes node) + gives_at node r.parties = subst (λ k. h.pool.hand.puts.floor ≤ k) (ap (λ k. all_put k posts) same ∙ all_gives node) (reached.puts i s h at home) in
      let put_early : room_among (slice_get nodes h.node) + early_given h.node e.time posts ≡ n.buffers + gives_at node (map (early_log e.time) r.parties)
      = ap (λ k. room_among (slice_get nodes k) + early_given k e.time posts) same ∙ ap (λ k. k + early_given node e.time posts) (of_it.rooms node n there) ∙ ap (λ k. n.buffers + k) (early_gives node e.time) in
      let taken_early : room_among (slice_get nodes h.node) + early_taken h.node e.time posts ≡ room_among (slice_get nodes node) + takes_at node (map (early_log e.time) r.parties)
      = ap (λ k. room_among (slice_get nodes k) + early_taken k e.time posts) same ∙ ap (λ k. room_among (slice_get nodes node) + k) (early_takes node e.time) in
      lacked_by (room_among (slice_get nodes h.node) + early_given h.node e.time posts) h.pool.hand.takes.floor (room_among (slice_get nodes h.node) + early_taken h.node e.time posts) h.pool.hand.puts.floor
      (n.buffers + gives_at node (map (early_log e.time) r.parties)) (takes_at node r.parties) (takes_at node (map (early_log e.time) r.parties)) (gives_at node r.parties) e.op e.answer
      (λ k. le_trans (subst (λ m. m ≤ h.pool.hand.takes.floor) put_early k) takes)
      (λ k. less (room_among (slice_get nodes node)) (takes_at node (map (early_log e.time) r.parties)) (gives_at node r.parties) (le_trans (subst (λ m. m ≤ h.pool.hand.puts.floor) taken_early k) gives)) lacked
    where
      less : (a b c : ℕ) → a + b ≤ a + c → b ≤ c
      less a b c h = omega (arith, h)

  pool_shown : (node : ℕ) (n : PlainNode) → slice_get scene.nodes node ≡ Some n → IsPoolPrompt r node n.buffers
  pool_shown node n there =
      each_from (λ (log : PlainPartyLog). is_node node (node_of log.who) ≡ true → AllByRecursion (λ (e : Entry). LackedAt (n.buffers + gives_at node (map (early_log e.time) r.parties)) (takes_at node r.parties)
      (takes_at node (map (early_log e.time) r.parties)) (gives_at node r.parties) e.op e.answer) log.entries) r.parties
      (λ k log at mine.
      let s : (u : PlainPost) × (slice_get posts k ≡ Some u) × IsLoggedBy u log = zip_before IsLoggedBy posts r.parties k log logged at in
      let h : (g : PlainHome) × (s.0.ends.home ≡ Some g) × (g.node ≡ node)
      = mapped_some (λ (g : PlainHome). g.node) s.0.ends.home node (each_at AtHome posts k s.0 of_it.homes s.1 ∙ ap node_of (sym s.2.who) ∙ node_is node (node_of log.who) mine) in
      subst (λ es. AllByRecursion (λ (e : Entry). LackedAt (n.buffers + gives_at node (map (early_log e.time) r.parties)) (takes_at node r.parties)
      (takes_at node (map (early_log e.time) r.parties)) (gives_at node r.parties) e.op e.answer) es) (sym s.2.entries)
      (AllByRecursion-map
      (λ (e : Entry). LackedAt (room_among (slice_get nodes h.0.node) + early_given h.0.node e.time posts) h.0.pool.hand.takes.floor (room_among (slice_get nodes h.0.node) + early_taken h.0.node e.time posts) h.0.pool.hand.puts.floor e.op e.answer)
      (λ e. LackedAt (n.buffers + gives_at node (map (early_log e.time) r.parties)) (takes_at node r.parties) (takes_at node (map (early_log e.time) r.parties)) (gives_at node r.parties) e.op e.answer) s.0.entries
      (pool_entry node n there k s.0 h.0 s.1 h.1 h.2) (past.pools k s.0 h.0 s.1 h.1)))

  pub all_shown : IsPrompt scene r
  all_shown = record { lanes = AllByRecursion-map (IsWiredAt posts) (IsPromptAt r) (lanes_of scene) lane_shown of_it.lanes; inboxes = inbox_shown; pools = pool_shown }
