-- Each packet of a consistent record that a router hears is as its maker sent it: of the maker's address, for one node, with a tag of the maker's flow, an
-- index that the flow has come to, and acknowledging no more than the peer's flow has.
use Rattle.std.proofs.Common.{◌≡◌, ◌⊎◌, inl, inr, ℕ, zero, suc, ◌+◌, ◌-◌, ◌<◌, ◌≤◌, true, Some, List, [], ◌∷◌, ◌++◌, length, slice_get, refl, sym, ap, ◌∙◌, subst, arith}
use Rattle.std.specs.Prelude.{IfSome}
use Rattle.std.specs.List.{AllByRecursion}
use Rattle.csp_base.specs.declared.traces.Tag.{Tag}
use Rattle.csp_buffer.specs.Content.{Content}
use Rattle.csp_conn.specs.declared.slot.Connection.{Connection}
use Rattle.csp_header.specs.Word.{header_at}
use Rattle.csp_log.specs.declared.entry.Entry.{Entry}
use Rattle.csp_log.specs.declared.places.QueueId.TheVariants as queue
use Rattle.csp_log.specs.declared.shown.AnswerShown.{AnswerShown}
use Rattle.csp_log.specs.declared.shown.AnswerShown.TheVariants as answer
use Rattle.csp_log.specs.declared.shown.ItemShown.{ItemShown}
use Rattle.csp_log.specs.declared.shown.ItemShown.TheVariants as item
use Rattle.csp_log.specs.declared.shown.OpShown.{OpShown}
use Rattle.csp_log.specs.declared.shown.OpShown.TheVariants as op
use Rattle.csp_rdp.specs.Machine.{flow_of}
use Rattle.csp_record.specs.Passed.{passed}
use Rattle.csp_record.specs.Record.{PlainRecord}
use Rattle.csp_log.specs.declared.who.Who.TheVariants as who
use Rattle.csp_scene.specs.Links.{links_at}
use Rattle.csp_scene.specs.Ranges.{IsNode, IsScene}
use Rattle.csp_scene.specs.Scene.{PlainNode, PlainScene}
use Rattle.csp_ports.specs.Asking.{is_reliable}
use Rattle.csp_stack.specs.Readings.{broadcast}
use Rattle.csp_stack.specs.Router.{Facts}
use Rattle.csp_stack.specs.Rules.{connection_of}
use Rattle.csp_topology.specs.Parties.{config_of}
use Rattle.csp_consistent.proofs.Public.{each_at}
use Rattle.csp_consistent.specs.Consistent.{IsConsistent}
use Rattle.csp_consistent.specs.Reading.{entries_of, gets}
use Rattle.csp_prefix.specs.Flows.{IsGenuine}
use Rattle.csp_prefix.specs.Routers.{HearsOnly, IsHeard, IsOfKind, PushesSo, SendsOnly}
use Rattle.csp_prefix.proofs.Public.{said_so, are_shown, flows_in, genuine_like, true_router, hears_only, RouterThere, true_routers, found_any, all_fresh, Aim, IsAim, ComesUp, past, run_known, PushedSo}
use Rattle.csp_peers.specs.Addressed.{AreAddressedApart}
use Rattle.csp_peers.specs.Clear.{HasClearFlows}
use Rattle.csp_peers.specs.Nearness.{AreShort as AreFlowsShort, half}
use Rattle.csp_peers.specs.Sent.{IsSentIn, packets_sent, sent_by}
use Rattle.csp_peers.specs.Unforged.{ComesWell, GetsWell}
use Rattle.csp_peers.proofs.AppWishes.{router_gets_each}
use Rattle.csp_peers.proofs.RouterMakes.{AllowsOne, AreShort, IsFromBelow, IsMade, IsOwn, maker_aim, maker_is_aim}
use Rattle.csp_peers.proofs.RouterNear.{AcksWithin, IsOfPeer, peer_aim, peer_is_aim}
use Rattle.csp_stack.specs.Config.{opening_state}

-- ---- what a log sent, entry by entry

get_more : {X : Type 0} (xs ys : List X) (i : ℕ) (x : X) → slice_get xs i ≡ Some x → slice_get (xs ++ ys) i ≡ Some x
get_more [] ys i x e = absurd cc
get_more (z ∷ zs) ys zero x e = e
get_more (z ∷ zs) ys (suc i) x e = get_more zs ys i x e

pub get_past : {X : Type 0} (xs ys : List X) (i : ℕ) → slice_get (xs ++ ys) (length xs + i) ≡ slice_get ys i
get_past {X} [] ys i = let same : length {A = X} [] + i ≡ i = omega arith in ap (slice_get ys) same
get_past (x ∷ xs) ys i = let same : length (x ∷ xs) + i ≡ suc (length xs + i) = omega arith in ap (slice_get (x ∷ (xs ++ ys))) same ∙ get_past xs ys i

sent_first : (e : Entry) (es : List Entry) (b : Content) → sent_by e.op e.answer ≡ b ∷ [] → IsSentIn (e ∷ es) b
sent_first e es b same = record { at = 0; there = ap (λ xs. slice_get (xs ++ packets_sent es) 0) same }

sent_later : (e : Entry) (es : List Entry) (b : Content) → IsSentIn es b → IsSentIn (e ∷ es) b
sent_later e es b s = record { at = length (sent_by e.op e.answer) + s.at; there = get_past (sent_by e.op e.answer) (packets_sent es) s.at ∙ s.there }

-- each packet that a log sent is of a kind where two things are known of each, of which one goes on to the kind
both_sent : (P Q R : Content → Type 0) (all : List Entry) (hears : Content → Type 0) (o : OpShown) (a : AnswerShown) → ((b : Content) → sent_by o a ≡ b ∷ [] → P b → Q b → R b) → ((b : Content) → hears b → IsHeard all b)
    → PushesSo P all o a → PushesSo Q all o a → PushesSo R all o a
both_sent P Q R all hears (op.Push queue.Inbox (item.Packet mark b)) answer.Pushed join heard p q = join b refl p q
both_sent P Q R all hears (op.Push (queue.Out k) (item.Packet mark b)) answer.Pushed join heard p q =
    by p q
  where
    by : P b ⊎ IsHeard all b → Q b ⊎ IsHeard all b → R b ⊎ IsHeard all b
    by (inl x) (inl y) = inl (join b refl x y)
    by (inl x) (inr y) = inr y
    by (inr x) y = inr x
both_sent P Q R all hears _ _ join heard p q = tt

pub sends_both : (P Q R : Content → Type 0) (all es : List Entry) → ((b : Content) → IsSentIn es b → P b → Q b → R b) → AllByRecursion (λ e. PushesSo P all e.op e.answer) es → AllByRecursion (λ e. PushesSo Q all e.op e.answer) es
    → AllByRecursion (λ e. PushesSo R all e.op e.answer) es
sends_both P Q R all [] join p q = tt
sends_both P Q R all (e ∷ es) join p q = (
  both_sent P Q R all (IsHeard all) e.op e.answer (λ b same. join b (sent_first e es b same)) (λ b h. h) p.0 q.0,
  sends_both P Q R all es (λ b s. join b (sent_later e es b s)) p.1 q.1,
)

-- what an aim says of what was pushed
pushes_good : (g : Aim) (all : List Entry) → ((b : Content) → g.hears b → IsHeard all b) → (o : OpShown) (a : AnswerShown) → PushedSo g o a → PushesSo g.good all o a
pushes_good g all heard (op.Push queue.Inbox (item.Packet mark b)) answer.Pushed p = p
pushes_good g all heard (op.Push (queue.Out k) (item.Packet mark b)) answer.Pushed (inl x) = inl x
pushes_good g all heard (op.Push (queue.Out k) (item.Packet mark b)) answer.Pushed (inr x) = inr (heard b x)
pushes_good g all heard _ _ p = tt

pub sends_good : (g : Aim) (all es : List Entry) → ((b : Content) → g.hears b → IsHeard all b) → AllByRecursion (λ e. PushedSo g e.op e.answer) es → AllByRecursion (λ e. PushesSo g.good all e.op e.answer) es
sends_good g all [] heard p = tt
sends_good g all (e ∷ es) heard p = (pushes_good g all heard e.op e.answer p.0, sends_good g all es heard p.1)

-- what came from applications
comes_well : (g : Aim) → ((i : ItemShown) → ComesWell i → g.comes i) → (o : OpShown) (a : AnswerShown) → GetsWell o a → ComesUp g o a
comes_well g well (op.Pop (queue.Up k)) (answer.Popped i) c = well i c
comes_well g well _ _ c = tt

pub all_well : (g : Aim) → ((i : ItemShown) → ComesWell i → g.comes i) → (es : List Entry) → AllByRecursion (λ e. GetsWell e.op e.answer) es → AllByRecursion (λ e. ComesUp g e.op e.answer) es
all_well g well [] c = tt
all_well g well (e ∷ es) c = (comes_well g well e.op e.answer c.0, all_well g well es c.1)

-- a packet that was heard is of a kind that all are
pub of_kind : (P : Content → Type 0) (es : List Entry) → HearsOnly P es → (b : Content) → IsHeard es b → P b
of_kind P es only b h = each_at (IsOfKind P) (gets queue.Inbox es) h.at (item.Packet h.mark b) only h.there

-- ---- the packets of a record

-- the index that a flow may come to at most: one less than half of all numbers
abbrev pub last_index : ℕ
last_index = half - 1

-- a packet with a tag was made by the router of the tag's node: it shows the address of that node, is for an address below a bound, has an index within
-- the last; and that router sent one with its header and tag
pub record IsOfMaker (scene : PlainScene) (r : PlainRecord) (top : ℕ) (b : Content) (t : Tag) : Type 0 where
  pub node : PlainNode
  pub there : slice_get scene.nodes t.node ≡ Some node
  pub called : node.addr ≡ Some (header_at b.header).src
  pub dst : (header_at b.header).dst < top
  pub index : t.index ≤ last_index
  pub shown : Content
  pub sent : IsSentIn (entries_of r (who.Router t.node)) shown
  pub header : shown.header ≡ b.header
  pub tag : shown.trace.tag ≡ b.trace.tag

pub record IsSound (scene : PlainScene) (r : PlainRecord) (top : ℕ) (b : Content) : Type 0 where
  pub genuine : IsGenuine (flows_in scene r) b
  pub tagged : is_reliable (header_at b.header).flags.0 ≡ true → (t : Tag) × (b.trace.tag ≡ Some t)
  pub made : (t : Tag) → b.trace.tag ≡ Some t → IsOfMaker scene r top b t

sound_like : (scene : PlainScene) (r : PlainRecord) (top : ℕ) (b c : Content) → b.header ≡ c.header → b.payload ≡ c.payload → b.trace.tag ≡ c.trace.tag → IsSound scene r top c → IsSound scene r top b
sound_like scene r top b c headers payloads tags s = record {
  genuine = genuine_like (flows_in scene r) b c headers payloads tags s.genuine;
  tagged = λ e. let t = s.tagged (ap (λ h. is_reliable (header_at h).flags.0) (sym headers) ∙ e) in (t.0, tags ∙ t.1);
  made = λ t e.
      let m = s.made t (sym tags ∙ e) in
      record {
        node = m.node;
        there = m.there;
        called = m.called ∙ ap (λ h. Some (header_at h).src) (sym headers);
        dst = subst (λ h. (header_at h).dst < top) (sym headers) m.dst;
        index = m.index;
        shown = m.shown;
        sent = m.sent;
        header = m.header ∙ sym headers;
        tag = m.tag ∙ sym tags;
      };
}

module _ (scene : PlainScene) (r : PlainRecord) (is : IsScene scene) (con : IsConsistent scene r) (same : passed r ≡ 0) (apart : AreAddressedApart scene.nodes) (clear : HasClearFlows scene r) where
  abbrev log_of : ℕ → List Entry
  log_of place = entries_of r (who.Router place)

  abbrev pub facts_of : (place : ℕ) → RouterThere scene r place → Facts
  facts_of place t = (config_of place t.addr t.node (links_at place scene.links)).facts

  -- the flows of each log are short, and so are those of the record
  pub log_short : (place : ℕ) → AreShort last_index (log_of place)
  log_short place app nth x flow = let few = clear.short place app nth x (record { at = flow.at; there = flow.there }) flow.numbered in omega (arith, few)

  pub flows_short : (flow : ℕ × ℕ) → length ((flows_in scene r).said flow) + 1 ≤ last_index
  flows_short flow = said_so (λ said. length said + 1 ≤ last_index) (log_of flow.0) flow.1 (omega arith) (λ app x of. log_short flow.0 app flow.1 x of)

  -- a node's address is one of its own
  own_addr : (place : ℕ) (n : PlainNode) (addr : ℕ) → slice_get scene.nodes place ≡ Some n → n.addr ≡ Some addr → addr < broadcast
  own_addr place n addr there called =
      let within = subst (λ o. IfSome o (λ a. a ≤ 30)) called (each_at IsNode scene.nodes place n is.nodes there).addr in
      omega (arith, within)

  -- what a router sends on the connections of its node
  makes : (top place : ℕ) (t : RouterThere scene r place) (hears : Content → Type 0) → top ≤ 32 → AllowsOne top → ((b : Content) → hears b → IsFromBelow top b) → ((b : Content) → hears b → IsHeard (log_of place) b) → ((b : Content) → IsHeard (log_of place) b → hears b)
      → SendsOnly (IsOwn (facts_of place t) top last_index) (log_of place)
  makes top place t hears few allows from back heard =
      let f : Facts = facts_of place t in
      let g : Aim = maker_aim f top last_index hears in
      let low = own_addr place t.node t.addr t.there t.called in
      let k : IsAim g f (past (log_of place)) = maker_is_aim f (log_of place) top last_index hears (omega (arith, low)) few allows (omega arith) (log_short place) from in
      let run = run_known g f t.node.routes (log_of place) k t.log (λ at mark b e. heard b (record { at = at; mark = mark; there = e })) (all_well g (λ i c. c) (log_of place) (router_gets_each scene r is con clear.unforged clear.to_one place)) (all_fresh (log_of place)) (found_any f (opening_state f.apps t.node.routes) (log_of place)) in
      sends_good g (log_of place) (log_of place) back run.pushed

  of_maker : (top place : ℕ) (t : RouterThere scene r place) (b : Content) (tag : Tag) → IsSentIn (log_of place) b → IsMade (facts_of place t) top last_index b tag → IsOfMaker scene r top b tag
  of_maker top place t b tag s m = record {
    node = t.node;
    there = ap (slice_get scene.nodes) m.node ∙ t.there;
    called = t.called ∙ ap Some (sym m.src);
    dst = m.dst;
    index = m.index;
    shown = b;
    sent = subst (λ n. IsSentIn (entries_of r (who.Router n)) b) (sym m.node) s;
    header = refl;
    tag = refl;
  }

  sends_sound : (top place : ℕ) (t : RouterThere scene r place) → SendsOnly (IsOwn (facts_of place t) top last_index) (log_of place) → SendsOnly (IsSound scene r top) (log_of place)
  sends_sound top place t own =
      sends_both (IsGenuine (flows_in scene r)) (IsOwn (facts_of place t) top last_index) (IsSound scene r top) (log_of place) (log_of place)
      (λ b s genuine o. record { genuine = genuine; tagged = o.tagged; made = λ tag e. of_maker top place t b tag s (o.made tag e) })
      ((true_router scene r is con same true_routers place t).sends (flows_in scene r) (are_shown scene r is con same true_routers place t)) own

  -- first, that each was sent by a node of the scene: so none came from the broadcast address
  abbrev any_address : ℕ
  any_address = 32

  allows_any : AllowsOne any_address
  allows_any dest low other = low

  hears_from : (place : ℕ) (t : RouterThere scene r place) → HearsOnly (IsSound scene r any_address) (log_of place)
  hears_from =
      hears_only scene r is con same (IsSound scene r any_address) (sound_like scene r any_address) λ place t.
      sends_sound any_address place t (makes any_address place t (IsHeard (log_of place)) (omega arith) allows_any (λ b h reliable. omega arith) (λ b h. h) (λ b h. h))

  -- then, that each is for one node
  pub allows_one : AllowsOne broadcast
  allows_one dest low other = omega (arith, low, other)

  from_own : (top : ℕ) (b : Content) → IsSound scene r top b → IsFromBelow broadcast b
  from_own top b s reliable =
      let t = s.tagged reliable in
      let m = s.made t.0 t.1 in
      own_addr t.0.node m.node (header_at b.header).src m.there m.called

  pub hears_sound : (place : ℕ) (t : RouterThere scene r place) → HearsOnly (IsSound scene r broadcast) (log_of place)
  hears_sound =
      hears_only scene r is con same (IsSound scene r broadcast) (sound_like scene r broadcast) λ place t.
      sends_sound broadcast place t
      (makes broadcast place t (IsHeard (log_of place)) (omega arith) allows_one (λ b h. from_own any_address b (of_kind (IsSound scene r any_address) (log_of place) (hears_from place t) b h)) (λ b h. h) (λ b h. h))

  -- ---- the peers of a node's connections

  -- a flow is the peer of a connection of a node with this address: the flow's node has the connection's address, and a packet of the flow shows the ports
  pub record IsPeerOf (addr : ℕ) (c : Connection) (flow : ℕ × ℕ) : Type 0 where
    pub node : PlainNode
    pub there : slice_get scene.nodes flow.0 ≡ Some node
    pub called : node.addr ≡ Some c.peer
    pub shown : Content
    pub tag : Tag
    pub sent : IsSentIn (log_of flow.0) shown
    pub tagged : shown.trace.tag ≡ Some tag
    pub of : flow_of tag ≡ flow
    pub dst : (header_at shown.header).dst ≡ addr
    pub dport : (header_at shown.header).dport ≡ c.own_port
    pub sport : (header_at shown.header).sport ≡ c.peer_port

  pub one_peer : (addr : ℕ) (c : Connection) (a b : ℕ × ℕ) → IsPeerOf addr c a → IsPeerOf addr c b → a ≡ b
  one_peer addr c a b x y =
      let nodes : a.0 ≡ b.0 = apart a.0 b.0 x.node y.node c.peer x.there y.there x.called y.called in
      let sent = subst (λ n. IsSentIn (log_of n) y.shown) (sym nodes) y.sent in
      let nths = clear.apart a.0 x.shown y.shown x.tag y.tag x.sent sent x.tagged y.tagged (ap (λ f. f.0) x.of) (ap (λ f. f.0) y.of ∙ sym nodes)
      (record { dst = x.dst ∙ sym y.dst; dport = x.dport ∙ sym y.dport; sport = x.sport ∙ sym y.sport }) in
      λ i. (nodes i, (sym (ap (λ f. f.1) x.of) ∙ nths ∙ ap (λ f. f.1) y.of) i)

  peer_of : (addr : ℕ) (b : Content) (t : Tag) → IsOfMaker scene r broadcast b t → b.trace.tag ≡ Some t → (header_at b.header).dst ≡ addr → IsPeerOf addr (connection_of (header_at b.header)) (flow_of t)
  peer_of addr b t m e dst = record {
    node = m.node;
    there = m.there;
    called = m.called;
    shown = m.shown;
    tag = t;
    sent = m.sent;
    tagged = m.tag ∙ e;
    of = refl;
    dst = ap (λ h. (header_at h).dst) m.header ∙ dst;
    dport = ap (λ h. (header_at h).dport) m.header;
    sport = ap (λ h. (header_at h).sport) m.header;
  }

  pub is_of_peer : (addr : ℕ) (b : Content) → IsSound scene r broadcast b → IsOfPeer (flows_in scene r) (IsPeerOf addr) addr broadcast last_index b
  is_of_peer addr b s = record {
    genuine = s.genuine;
    from = from_own broadcast b s;
    tagged = s.tagged;
    peer = λ t e dst. peer_of addr b t (s.made t e) e dst;
    dst = λ t e. (s.made t e).dst;
    index = λ t e. (s.made t e).index;
  }

  pub all_short : AreFlowsShort (flows_in scene r)
  all_short flow = let few = flows_short flow in omega (arith, few)

  pub all_far : (flow : ℕ × ℕ) → length ((flows_in scene r).said flow) ≤ last_index
  all_far flow = let few = flows_short flow in omega (arith, few)

  -- ---- what packets acknowledge

  abbrev pub Acking : Content → Type 0
  Acking b = IsSound scene r broadcast b × AcksWithin last_index b

  acking_like : (b c : Content) → b.header ≡ c.header → b.payload ≡ c.payload → b.trace.tag ≡ c.trace.tag → Acking c → Acking b
  acking_like b c headers payloads tags a = (sound_like scene r broadcast b c headers payloads tags a.0, λ t e. a.1 t (sym tags ∙ e))

  heard_sound : (place : ℕ) (t : RouterThere scene r place) (b : Content) → IsHeard (log_of place) b → IsOfPeer (flows_in scene r) (IsPeerOf t.addr) t.addr broadcast last_index b
  heard_sound place t b h = is_of_peer t.addr b (of_kind (IsSound scene r broadcast) (log_of place) (hears_sound place t) b h)

  sends_acking : (place : ℕ) (t : RouterThere scene r place) → SendsOnly Acking (log_of place)
  sends_acking place t =
      let f : Facts = facts_of place t in
      let es : List Entry = log_of place in
      let g : Aim = peer_aim f broadcast last_index (flows_in scene r) (IsPeerOf t.addr) (IsHeard es) in
      let k : IsAim g f (past es) = peer_is_aim f es broadcast last_index (flows_in scene r) (IsPeerOf t.addr) (IsHeard es) (omega arith) allows_one (omega arith) (one_peer t.addr) all_short all_far (heard_sound place t) in
      let run = run_known g f t.node.routes es k t.log (λ at mark b e. record { at = at; mark = mark; there = e }) (all_well g (λ i c. c) es (router_gets_each scene r is con clear.unforged clear.to_one place)) (all_fresh es) (found_any f (opening_state f.apps t.node.routes) es) in
      sends_both (IsSound scene r broadcast) (AcksWithin last_index) Acking es es (λ b s sound acks. (sound, acks))
      (sends_sound broadcast place t
      (makes broadcast place t (IsHeard es) (omega arith) allows_one (λ b h. from_own any_address b (of_kind (IsSound scene r any_address) es (hears_from place t) b h)) (λ b h. h) (λ b h. h)))
      (sends_good g es es (λ b h. h) run.pushed)

  pub hears_acking : (place : ℕ) (t : RouterThere scene r place) → HearsOnly Acking (log_of place)
  hears_acking = hears_only scene r is con same Acking acking_like sends_acking
