-- A data packet that a router's last entry handed to a connection is within the window of its sender: by what the sender's router sent, what that heard of the
-- connection's acknowledgements, and what the connection had delivered when it made them.
use Rattle.std.proofs.Common.{◌≡◌, ◌≢◌, ◌⊎◌, inl, inr, ℕ, ◌+◌, ◌<◌, ◌≤◌, ◌==◌, Bool, true, false, Option, None, Some, List, [], ◌∷◌, ◌++◌, length, flat_map, slice_get, refl, sym, ap, ◌∙◌, subst, arith}
use Rattle.std.specs.List.{AllByRecursion}
use Rattle.std.specs.Option.{unwrap_or}
use Rattle.std.specs.Prelude.{⊤}
use Rattle.std.proofs.lemmas.Bool.{eqb-false, eqb-true}
use Rattle.std.proofs.lemmas.Grind.{flat_map-append}
use Rattle.csp_base.specs.declared.traces.Tag.{Tag}
use Rattle.csp_buffer.specs.Content.{Content}
use Rattle.csp_deck.specs.Runs.{IsRun, IsStep, state_after}
use Rattle.csp_header.specs.Word.{header_at}
use Rattle.csp_log.specs.PlainLog.{all_events}
use Rattle.csp_log.specs.declared.entry.Entry.{Entry}
use Rattle.csp_log.specs.declared.event.Event.{Event}
use Rattle.csp_log.specs.declared.event.Event.TheVariants as event
use Rattle.csp_log.specs.declared.places.QueueId.TheVariants as queue
use Rattle.csp_log.specs.declared.shown.AnswerShown.TheVariants as answer
use Rattle.csp_log.specs.declared.shown.ItemShown.TheVariants as item
use Rattle.csp_log.specs.declared.shown.OpShown.TheVariants as op
use Rattle.csp_ports.specs.PlainPorts.{PlainPorts, machine_at}
use Rattle.csp_rdp.specs.Machine.{PlainRdp, flow_of}
use Rattle.csp_record.specs.Passed.{passed}
use Rattle.csp_record.specs.Record.{PlainPartyLog, PlainRecord}
use Rattle.csp_record.specs.Stale.{is_stale, stale}
use Rattle.csp_log.specs.declared.who.Who.TheVariants as who
use Rattle.csp_route.specs.Routes.{Routes}
use Rattle.csp_scene.specs.Links.{links_at}
use Rattle.csp_scene.specs.Ranges.{IsScene}
use Rattle.csp_scene.specs.Scene.{PlainScene}
use Rattle.csp_stack.specs.Config.{opening_state}
use Rattle.csp_stack.specs.Router.{Facts, Router, State, flows_of}
use Rattle.csp_stack.specs.Rules.{connection_of}
use Rattle.csp_stack.specs.Turn.{asked_at, timed, told_at}
use Rattle.csp_topology.specs.Parties.{config_of}
use Rattle.csp_consistent.proofs.Public.{each_at, each_first, each_last, Logged, IsOf, logged}
use Rattle.csp_consistent.specs.Consistent.{IsConsistent}
use Rattle.csp_consistent.specs.Reading.{entries_of, got_by, gets}
use Rattle.csp_rdp_header.specs.Head.{head_bytes}
use Rattle.csp_stack.specs.Readings.{is_checked}
use Rattle.csp_prefix.specs.Flows.{IsGenuine, with_checksum}
use Rattle.csp_prefix.specs.Routers.{HasNoStale, HearsOnly, IsHeard, IsRouterLog, SendsOnly, opening_router, router_steps}
use Rattle.csp_prefix.proofs.Public.{are_shown, flows_in, hears_genuine, hears_only, RouterThere, router_there, events_of, none_counted, Past, no_past, fed_tag, found_there, true_routers, AreFound, IsCome, found_any, part_of, past_of, past_with, step_stands, all_fresh, sender_aim, sender_is_aim, Aim, IsAim, IsPart, Stands, all_come, each_comes, heard_all, opening_stands, part_all, past, stands_timed, sender-opens, sender-kept, IsOfPopped, TellsAt, entry_tells, ports_kept}
use Rattle.csp_prefix.specs.Machines.{IsSender, whatever}
use Rattle.csp_peers.specs.Window.{HadWindow, HasAsPeer, IsDataHanded, IsDataPacket, IsWithinWindow, LastIsWithinWindow}
use Rattle.csp_peers.proofs.PacketsMade.{get_past, of_kind, sends_both}
use Rattle.csp_peers.proofs.WindowAcks.{acks_sent, owns_tags}
use Rattle.csp_peers.proofs.WindowFacts.{Acknowledges, HasHeard, IsAck, IsAllowed, IsAllowedData, IsBefore}
use Rattle.csp_peers.proofs.WindowPast.{past_found}
use Rattle.csp_peers.proofs.WindowSends.{data_allowed}

-- ---- the parts of a run

facts_stay : (s : Router) (es : List Entry) → (state_after router_steps s es).facts ≡ s.facts
facts_stay s [] = refl
facts_stay s (e ∷ es) = facts_stay (record s { state = (told_at s.facts (asked_at s.facts s.state e.time) e.time e.answer).state }) es

run_before : (time : ℕ) (s : Router) (before after : List Entry) → IsRun router_steps time s (before ++ after) → IsRun router_steps time s before
run_before time s [] after run = tt
run_before time s (e ∷ before) after run = (run.0, run.1, run_before e.time (record s { state = (told_at s.facts (asked_at s.facts s.state e.time) e.time e.answer).state }) before after run.2)

run_step : (time : ℕ) (s : Router) (before : List Entry) (e : Entry) (after : List Entry) → IsRun router_steps time s (before ++ e ∷ after) → IsStep router_steps (state_after router_steps s before) e
run_step time s [] e after run = run.1
run_step time s (d ∷ before) e after run = run_step d.time (record s { state = (told_at s.facts (asked_at s.facts s.state d.time) d.time d.answer).state }) before e after run.2

log_before : (f : Facts) (routes : Routes) (before after : List Entry) → IsRouterLog f routes (before ++ after) → IsRouterLog f routes before
log_before f routes before after log = record {
  few = log.few;
  run = run_before 0 (opening_router f routes) before after log.run;
  comes = each_first _ before after log.comes;
}

-- a router that stands stands after its turns
stands_after : (g : Aim) (f : Facts) (whole : Past) (k : IsAim g f whole) (es : List Entry) (time : ℕ) (h : Past) (s : State) → IsRun router_steps time (record { facts = f; state = s }) es → AreFound g.at f s es → AllByRecursion (IsCome g) es → IsPart (past_of es h) whole
    → Stands g f h s.ports s.out → Stands g f (past_of es h) (state_after router_steps (record { facts = f; state = s }) es).state.ports (state_after router_steps (record { facts = f; state = s }) es).state.out
stands_after g f whole k [] time h s run found come part w = w
stands_after g f whole k (e ∷ es) time h s run found come part w =
    stands_after g f whole k es e.time (past_with e h) (told_at f (asked_at f s e.time) e.time e.answer).state run.2 found.1 come.1 part
    (step_stands g f whole k e h s found.0 run.1 come.0 (part_of es (past_with e h) whole part) w).0

-- the last packet that was popped was heard
heard_last : (before : List Entry) (e : Entry) (mark : ℕ) (b : Content) → e.op ≡ op.Pop queue.Inbox → e.answer ≡ answer.Popped (item.Packet mark b) → IsHeard (before ++ e ∷ []) b
heard_last before e mark b asked answered =
    let got : got_by queue.Inbox e.op e.answer ≡ item.Packet mark b ∷ [] = ap (λ o. got_by queue.Inbox o e.answer) asked ∙ ap (got_by queue.Inbox (op.Pop queue.Inbox)) answered in
    record {
      at = length (gets queue.Inbox before) + 0;
      mark = mark;
      there = ap (λ is. slice_get is (length (gets queue.Inbox before) + 0)) (flat_map-append (λ (x : Entry). got_by queue.Inbox x.op x.answer) before (e ∷ []))
          ∙ get_past (gets queue.Inbox before) (gets queue.Inbox (e ∷ [])) 0 ∙ ap (λ is. slice_get (is ++ []) 0) got;
    }

-- no event of the last entry tells of a stale copy where none of all does
last_events : (before : List Entry) (e : Entry) → HasNoStale (before ++ e ∷ []) → AllByRecursion (λ v. is_stale v ≡ false) e.events.items
last_events before e none =
    each_first (λ v. is_stale v ≡ false) e.events.items []
    (each_last (λ v. is_stale v ≡ false) (all_events before) (all_events (e ∷ [])) (subst (AllByRecursion (λ v. is_stale v ≡ false)) (flat_map-append (λ (x : Entry). x.events.items) before (e ∷ [])) none))

not_empty : {X : Type 0} (xs : List X) (x : X) → xs ++ x ∷ [] ≡ [] → ⊥
not_empty [] x e = cc
not_empty (y ∷ xs) x e = cc

-- ---- kinds of packets

ack_like : (r : PlainRecord) (scene : PlainScene) (own peer : ℕ × ℕ) (cur : ℕ) (b c : Content) → b.header ≡ c.header → b.payload ≡ c.payload → b.trace.tag ≡ c.trace.tag → Acknowledges (flows_in scene r) own peer cur c → Acknowledges (flows_in scene r) own peer cur b
ack_like r scene own peer cur b c headers payloads tags a t e of =
    let x : IsAck (flows_in scene r) peer cur c t = a t (sym tags ∙ e) of in
    record {
      far = x.far;
      head = x.head;
      bytes = x.bytes;
      seq_range = x.seq_range;
      ack_range = x.ack_range;
      payload = payloads ∙ x.payload ∙ ap (λ h. with_checksum (is_checked (header_at h)) (x.bytes ++ head_bytes x.head)) (sym headers);
      number = x.number;
    }

data_like : (b c : Content) (t : Tag) → b.header ≡ c.header → b.payload ≡ c.payload → b.trace.tag ≡ c.trace.tag → IsDataPacket b t → IsDataPacket c t
data_like b c t headers payloads tags d = record {
  tagged = sym tags ∙ d.tagged;
  head = d.head;
  bytes = d.bytes;
  seq_range = d.seq_range;
  ack_range = d.ack_range;
  payload = sym payloads ∙ d.payload ∙ ap (λ h. with_checksum (is_checked (header_at h)) (d.bytes ++ head_bytes d.head)) headers;
  is_data = d.is_data;
}

-- where packets of one kind alone are sent, so are packets of a wider one
sends_wider : (P Q : Content → Type 0) (es : List Entry) → ((b : Content) → P b → Q b) → SendsOnly P es → SendsOnly Q es
sends_wider P Q es wider sends = sends_both P P Q es es (λ b s p q. wider b p) sends sends

module _ (scene : PlainScene) (r : PlainRecord) (is : IsScene scene) (con : IsConsistent scene r) (fresh : stale r ≡ 0) (same : passed r ≡ 0) where
  abbrev log_of : ℕ → List Entry
  log_of place = entries_of r (who.Router place)

  abbrev facts_of : (place : ℕ) → RouterThere scene r place → Facts
  facts_of place t = (config_of place t.addr t.node (links_at place scene.links)).facts

  no_stale : (place : ℕ) → HasNoStale (log_of place)
  no_stale place = events_of (λ e. is_stale e ≡ false) (who.Router place) r.parties (none_counted is_stale (flat_map (λ (log : PlainPartyLog). all_events log.entries) r.parties) fresh)

  genuine : (place : ℕ) (t : RouterThere scene r place) → HearsOnly (IsGenuine (flows_in scene r)) (log_of place)
  genuine place t = hears_genuine scene r is con same true_routers place t

  -- what the routers of other nodes send has no tag of a node's
  others : (place node : ℕ) (t : RouterThere scene r place) (P : Content → Type 0) → place ≢ node → ((b : Content) → ((tag : Tag) → b.trace.tag ≡ Some tag → tag.node ≡ node → ⊥) → P b) → SendsOnly P (log_of place)
  others place node t P differ none =
      sends_wider (λ b. (tag : Tag) → b.trace.tag ≡ Some tag → tag.node ≡ place) P (log_of place) (λ b owns. none b (λ tag e is. differ (sym (owns tag e) ∙ is)))
      (owns_tags (facts_of place t) t.node.routes (log_of place) t.log)

  module _ (place nth cur : ℕ) (peer : ℕ × ℕ) (tag : Tag) (before : List Entry) (e : Entry) (whole : log_of place ≡ before ++ e ∷ []) (handed : IsDataHanded e nth peer tag cur) (back : HasAsPeer r peer (place, nth)) (t : RouterThere scene r place) where
    abbrev f : Facts
    f = facts_of place t

    log : IsRouterLog f t.node.routes (before ++ e ∷ [])
    log = subst (IsRouterLog f t.node.routes) whole t.log

    abbrev last : Router
    last = state_after router_steps (opening_router f t.node.routes) before

    abbrev ports : PlainPorts
    ports = (timed last.state e.time).ports

    -- what the entry tells of the connection
    popped : IsOfPopped f ports e.op e.answer (event.Handed nth (Some peer) (Some tag) cur handed.una)
    popped =
        let step : IsStep router_steps last e = run_step 0 (opening_router f t.node.routes) before e [] log.run in
        subst (λ (x : Facts). IsOfPopped x ports e.op e.answer (event.Handed nth (Some peer) (Some tag) cur handed.una)) (facts_stay (opening_router f t.node.routes) before)
        (each_at (TellsAt last.facts ports e.op e.answer) e.events.items handed.at (event.Handed nth (Some peer) (Some tag) cur handed.una) (entry_tells last e step) handed.told)

    abbrev machine : PlainRdp
    machine = machine_at ports popped.handing.seat

    -- of a Handed event: the number, the peer, and how far the connection was
    abbrev number_in : Event → ℕ
    number_in (event.Handed n p g c u) = n
    number_in _ = 0

    abbrev peer_in : Event → Option (ℕ × ℕ)
    peer_in (event.Handed n p g c u) = p
    peer_in _ = None

    abbrev cur_in : Event → ℕ
    cur_in (event.Handed n p g c u) = c
    cur_in _ = 0

    nth_is : nth ≡ machine.nth
    nth_is = ap number_in popped.handing.told

    peer_is : Some peer ≡ machine.peer
    peer_is = ap peer_in popped.handing.told

    cur_is : cur ≡ machine.recv.cur
    cur_is = ap cur_in popped.handing.told

    -- it is on a slot of the node
    abbrev base : Aim
    base = sender_aim f before (λ b. ⊤)

    base_is_aim : IsAim base f (past before)
    base_is_aim = sender_is_aim f before (λ b. ⊤) (ports_kept (flows_of f) whatever (IsSender (flows_of f)) (sender-kept (flows_of f))) (sender-opens (flows_of f)) (λ b none. tt) (λ h m books p s time j b c part tells o there known found owed. tt)

    standing : Stands base f (past before) last.state.ports last.state.out
    standing =
        let early : IsRouterLog f t.node.routes before = log_before f t.node.routes before (e ∷ []) log in
        stands_after base f (past before) base_is_aim before 0 no_past (opening_state f.apps t.node.routes) early.run (found_any f (opening_state f.apps t.node.routes) before)
        (all_come base before early.comes (heard_all base before (λ at mark b q. record { at = at; mark = mark; there = q }) (each_comes base (λ i. tt) before)) (all_fresh before)) (part_all (past before)) (opening_stands base f before base_is_aim early.few)

    found : AreFound (IsBefore machine) f (opening_state f.apps t.node.routes) (log_of place)
    found =
        let w = stands_timed base f (past before) base_is_aim (past before) last.state e.time standing in
        let x = found_there ports.conns (connection_of (header_at popped.packet.header)) popped.handing.seat w.good.conns popped.handing.at in
        subst (AreFound (IsBefore machine) f (opening_state f.apps t.node.routes)) (sym whole)
        (past_found f t.node.routes before e popped.handing.seat log (subst (λ n. popped.handing.seat.app < n) w.apps x.app_there) x.slot_there (record { connection = connection_of (header_at popped.packet.header); there = x.is_open; reliable = popped.handing.kind }))

    -- each packet of the connection that is heard anywhere acknowledges no more than it has delivered
    abbrev Acks : Content → Type 0
    Acks = Acknowledges (flows_in scene r) (place, nth) peer cur

    own_acks : SendsOnly Acks (log_of place)
    own_acks =
        subst (λ n. SendsOnly (Acknowledges (flows_in scene r) (place, n) peer cur) (log_of place)) (sym nth_is)
        (subst (λ c. SendsOnly (Acknowledges (flows_in scene r) (place, machine.nth) peer c) (log_of place)) (sym cur_is)
        (acks_sent f t.node.routes (log_of place) (flows_in scene r) machine peer t.log (are_shown scene r is con same true_routers place t) (genuine place t) (no_stale place) (sym peer_is) found))

    all_acks : (at : ℕ) → RouterThere scene r at → SendsOnly Acks (log_of at)
    all_acks at there =
        by (at == place) refl
      where
        by : (b : Bool) → (at == place) ≡ b → SendsOnly Acks (log_of at)
        by true q = subst (λ n. SendsOnly Acks (log_of n)) (sym (eqb-true at place q)) own_acks
        by false q = others at place there Acks (eqb-false at place q) (λ b none g tagged of. absurd (none g tagged (ap (λ x. x.0) of)))

    hears_acks : (at : ℕ) → RouterThere scene r at → HearsOnly Acks (log_of at)
    hears_acks = hears_only scene r is con same Acks (ack_like r scene (place, nth) peer cur) all_acks

    -- so each data packet of its peer's flow is within the window
    abbrev Within : Content → Type 0
    Within b = (g : Tag) → IsDataPacket b g → flow_of g ≡ peer → IsWithinWindow scene r g (place, nth) cur

    within : (there : RouterThere scene r peer.0) (g : Tag) → flow_of g ≡ peer → IsAllowed (facts_of peer.0 there) there.node.routes (log_of peer.0) peer.1 (place, nth) g.index → IsWithinWindow scene r g (place, nth) cur
    within there g of a = record {
      window = a.machine.send.window;
      had = subst (λ x. HadWindow scene r x (place, nth) a.machine.send.window) (sym of)
          (record { node = there.node; addr = there.addr; there = there.there; called = there.called; machine = a.machine; had = a.had; numbered = a.numbered; meets = a.met; wide = refl });
      within = by a.within;
    }
      where
        by : (g.index ≤ a.machine.send.window) ⊎ ((x : Tag) × HasHeard (log_of peer.0) (place, nth) x × (g.index ≤ x.ack + a.machine.send.window)) → g.index ≤ cur + a.machine.send.window
        by (inl low) = omega (arith, low)
        by (inr near) =
            let heard : HasHeard (log_of peer.0) (place, nth) near.0 = near.1 in
            let ack : IsAck (flows_in scene r) peer cur heard.packet near.0 = of_kind Acks (log_of peer.0) (hears_acks peer.0 there) heard.packet heard.heard near.0 heard.tagged heard.of in
            let far = ack.far in
            let low = near.2 in
            omega (arith, far, low)

    peers_data : (there : RouterThere scene r peer.0) → SendsOnly Within (log_of peer.0)
    peers_data there =
        sends_wider (IsAllowedData (facts_of peer.0 there) there.node.routes (log_of peer.0) peer (place, nth)) Within (log_of peer.0) (λ b allowed g d of. within there g of (allowed g d of))
        (data_allowed (facts_of peer.0 there) there.node.routes (log_of peer.0) (flows_in scene r) peer (place, nth) cur there.log (are_shown scene r is con same true_routers peer.0 there) refl
        (λ app y of. back app y (record { at = of.at; there = of.there }, of.numbered)) (no_stale peer.0) (genuine peer.0 there) (λ b h. of_kind Acks (log_of peer.0) (hears_acks peer.0 there) b h))

    all_data : (at : ℕ) → RouterThere scene r at → SendsOnly Within (log_of at)
    all_data at there =
        by (at == peer.0) refl
      where
        by : (b : Bool) → (at == peer.0) ≡ b → SendsOnly Within (log_of at)
        by true q = let i : at ≡ peer.0 = eqb-true at peer.0 q in subst (λ n. SendsOnly Within (log_of n)) (sym i) (peers_data (subst (RouterThere scene r) i there))
        by false q = others at peer.0 there Within (eqb-false at peer.0 q) (λ b none g d of. absurd (none g d.tagged (ap (λ x. x.0) of)))

    hears_data : HearsOnly Within (log_of place)
    hears_data = hears_only scene r is con same Within (λ b c headers payloads tags w g d of. w g (data_like b c g headers payloads tags d) of) all_data place t

    last_within : IsWithinWindow scene r tag (place, nth) cur
    last_within =
        let told : is_stale (event.Handed nth (Some peer) (Some tag) cur handed.una) ≡ false = told_fresh in
        let names = fed_tag (Some tag) peer cur handed.una told in
        let tag_is : tag ≡ names.0 = ap (λ o. unwrap_or o tag) names.1 in
        of_kind Within (log_of place) hears_data handed.packet (subst (λ es. IsHeard es handed.packet) (sym whole) (heard_last before e handed.mark handed.packet handed.asked handed.answered)) tag handed.carries (ap flow_of tag_is ∙ names.2)
      where
        told_fresh : is_stale (event.Handed nth (Some peer) (Some tag) cur handed.una) ≡ false
        told_fresh = each_at (λ v. is_stale v ≡ false) e.events.items handed.at (event.Handed nth (Some peer) (Some tag) cur handed.una) (last_events before e (subst HasNoStale whole (no_stale place))) handed.told

  pub window_holds : LastIsWithinWindow scene r
  window_holds place nth cur peer tag before e whole handed back =
      by (logged scene r (who.Router place) con.runs)
    where
      by : (log_of place ≡ []) ⊎ Logged (IsOf scene) (who.Router place) r.parties → IsWithinWindow scene r tag (place, nth) cur
      by (inl none) = absurd (not_empty before e (sym whole ∙ none))
      by (inr l) = last_within place nth cur peer tag before e whole handed back (router_there scene r place is con.runs con.lanes l)
