-- Where each router sends only packets of a kind, but for what it passes on, and links change nothing, each router hears only such: by induction on the links that a packet crossed.
use Rattle.std.proofs.Common.{◌≡◌, ◌⊎◌, inl, inr, ℕ, zero, suc, ◌+◌, ◌<◌, ◌==◌, ◌&&◌, Bool, true, false, not, Option, Some, None, List, [], ◌∷◌, flat_map, slice_get, refl, sym, ap, ◌∙◌, subst, arith, eqb-true, le_refl}
use Rattle.std.specs.Prelude.{if◌then◌else◌}
use Rattle.std.specs.List.{AllByRecursion}
use Rattle.std.specs.Option.{option_and_then}
use Rattle.std.specs.Str.{bytes_eq}
use Rattle.std.proofs.lemmas.Option.{slice_get_within}
use Rattle.std.proofs.lemmas.Slice.Eq.{bytes_eq-Decides}
use Rattle.csp_base.specs.Priority.{prio_number}
use Rattle.csp_base.specs.declared.traces.Origin.{Origin}
use Rattle.csp_bridge.specs.PlainBridge as plain_bridge
use Rattle.csp_buffer.specs.Content.{Content}
use Rattle.csp_log.specs.declared.entry.Entry.{Entry}
use Rattle.csp_log.specs.declared.places.End.{End}
use Rattle.csp_log.specs.declared.places.QueueId.TheVariants as queue
use Rattle.csp_log.specs.declared.places.TheConstants.{UNMARKED}
use Rattle.csp_log.specs.declared.shown.ItemShown.{ItemShown}
use Rattle.csp_log.specs.declared.shown.ItemShown.TheVariants as item
use Rattle.csp_party.specs.Any.{a_bridge, an_iface}
use Rattle.csp_record.specs.Passed.{accepted_by, differs, is_changed, passed}
use Rattle.csp_record.specs.Record.{PlainRecord}
use Rattle.csp_record.specs.Transmissions.{iface_entries, shown_in, transmission}
use Rattle.csp_log.specs.declared.who.Who.{Who}
use Rattle.csp_log.specs.declared.who.Who.TheVariants as who
use Rattle.csp_scene.proofs.Public.{AllByRecursion-map}
use Rattle.csp_scene.specs.Links.{links_at}
use Rattle.csp_scene.specs.Ranges.{IsScene}
use Rattle.csp_scene.specs.Scene.{PlainNode, PlainScene}
use Rattle.csp_consistent.specs.Consistent.{IsConsistent}
use Rattle.csp_consistent.specs.Inboxes.{came_through}
use Rattle.csp_topology.specs.Writers.{writer_of}
use Rattle.csp_consistent.specs.Lanes.{IsInOrder}
use Rattle.csp_topology.specs.Parties.{heeded, iface_opening}
use Rattle.csp_topology.specs.Lanes.{leader_of, out_lane}
use Rattle.csp_consistent.specs.Origins.{IsSent}
use Rattle.csp_consistent.specs.Reading.{entries_of, gets, left_in, puts, with_priority}
use Rattle.csp_prefix.specs.Routers.{HearsOnly, IsOfKind, SendsOnly}
use Rattle.csp_consistent.proofs.Public.{through, each_at, each_first, first_given, Logged, IsBridgeAt, IsIfaceAt, IsOf, logged}
use Rattle.csp_prefix.proofs.HubLogs.{bridge_keeps, bridge_puts, iface_shows, router_keeps, router_sends}
use Rattle.csp_prefix.proofs.NodeLanes.{RouterThere, out_lane_there, owner_of, router_there, run_of}
use Rattle.csp_prefix.proofs.PacketLists.{accepted_of, by_mark, by_priority, each_any, each_both, each_of_priority, iface_entries_in, none_counted}

both_hold : (x y : Bool) → not (x && y) ≡ false → (x ≡ true) × (y ≡ true)
both_hold true true e = (refl, refl)
both_hold true false e = absurd cc
both_hold false y e = absurd cc

-- a packet is of the kind where one with its header, payload and tag is; and each router sends only such, but for what it passes on
module _ (scene : PlainScene) (r : PlainRecord) (is : IsScene scene) (con : IsConsistent scene r) (same : passed r ≡ 0) (P : Content → Type 0)
    (alike : (b c : Content) → b.header ≡ c.header → b.payload ≡ c.payload → b.trace.tag ≡ c.trace.tag → P c → P b)
    (sends : (place : ℕ) (t : RouterThere scene r place) → SendsOnly P (entries_of r (who.Router place))) where
  -- a packet that crossed fewer links than so many is of the kind
  abbrev IsBelow : ℕ → Content → Type 0
  IsBelow n b = b.trace.hops < n → P b

  abbrev Below : ℕ → ItemShown → Type 0
  Below n = IsOfKind (IsBelow n)

  none_below : (i : ItemShown) → Below 0 i
  none_below (item.Packet mark b) = λ low. absurd (omega (arith, low))
  none_below (item.Frame _) = tt
  none_below (item.Note _) = tt

  below_any : (n : ℕ) (i : ItemShown) → IsOfKind P i → Below n i
  below_any n (item.Packet mark b) p = λ low. p
  below_any n (item.Frame _) p = tt
  below_any n (item.Note _) p = tt

  from_below : (i : ItemShown) → ((n : ℕ) → Below n i) → IsOfKind P i
  from_below (item.Packet mark b) h = h (suc b.trace.hops) (le_refl (suc b.trace.hops))
  from_below (item.Frame _) h = tt
  from_below (item.Note _) h = tt

  all_from_below : (items : List ItemShown) → ((n : ℕ) → AllByRecursion (Below n) items) → AllByRecursion (IsOfKind P) items
  all_from_below [] h = tt
  all_from_below (i ∷ items) h = (from_below i (λ n. (h n).0), all_from_below items (λ n. (h n).1))

  -- all that hubs hear is of the kind, if it crossed fewer links than so many
  abbrev HearBelow : ℕ → Type 0
  HearBelow n = (place : ℕ) (node : PlainNode) → slice_get scene.nodes place ≡ Some node → AllByRecursion (Below n) (gets queue.Inbox (entries_of r (leader_of place node.addr)))

  -- then so is what they put into an `Out`
  router_below : (n place k : ℕ) → AllByRecursion (Below n) (gets queue.Inbox (entries_of r (who.Router place))) → (entries_of r (who.Router place) ≡ []) ⊎ Logged (IsOf scene) (who.Router place) r.parties
      → AllByRecursion (Below n) (puts (queue.Out k) (entries_of r (who.Router place)))
  router_below n place k got (inl none) = subst (λ es. AllByRecursion (Below n) (puts (queue.Out k) es)) (sym none) tt
  router_below n place k got (inr l) =
      let es : List Entry = entries_of r (who.Router place) in
      let t : RouterThere scene r place = router_there scene r place is con.runs con.lanes l in
      router_sends P (IsBelow n) es k es (λ b p low. p) (λ b h. each_at (Below n) (gets queue.Inbox es) h.at (item.Packet h.mark b) got h.there) (sends place t)

  bridge_below : (n place k : ℕ) → AllByRecursion (Below n) (gets queue.Inbox (entries_of r (who.Bridge place))) → (entries_of r (who.Bridge place) ≡ []) ⊎ Logged (IsOf scene) (who.Bridge place) r.parties
      → AllByRecursion (Below n) (puts (queue.Out k) (entries_of r (who.Bridge place)))
  bridge_below n place k got (inl none) = subst (λ es. AllByRecursion (Below n) (puts (queue.Out k) es)) (sym none) tt
  bridge_below n place k got (inr l) =
      let at : IsBridgeAt scene.nodes place l.opening.party = owner_of scene r (who.Bridge place) l in
      bridge_puts (IsBelow n) (queue.Out k) (entries_of r (who.Bridge place)) 0 plain_bridge.opening (run_of scene r (who.Bridge place) (a_bridge plain_bridge.opening) l at.party) tt got

  hub_below : (n place k : ℕ) (addr : Option ℕ) → AllByRecursion (Below n) (gets queue.Inbox (entries_of r (leader_of place addr))) → AllByRecursion (Below n) (puts (queue.Out k) (entries_of r (leader_of place addr)))
  hub_below n place k (Some addr) got = router_below n place k got (logged scene r (who.Router place) con.runs)
  hub_below n place k None got = bridge_below n place k got (logged scene r (who.Bridge place) con.runs)

  -- what they put into their own inboxes is of the kind
  router_inbox : (place : ℕ) → (entries_of r (who.Router place) ≡ []) ⊎ Logged (IsOf scene) (who.Router place) r.parties → AllByRecursion (IsOfKind P) (puts queue.Inbox (entries_of r (who.Router place)))
  router_inbox place (inl none) = subst (λ es. AllByRecursion (IsOfKind P) (puts queue.Inbox es)) (sym none) tt
  router_inbox place (inr l) =
      let es : List Entry = entries_of r (who.Router place) in
      let t : RouterThere scene r place = router_there scene r place is con.runs con.lanes l in
      router_keeps P es es (sends place t)

  bridge_inbox : (place : ℕ) → (entries_of r (who.Bridge place) ≡ []) ⊎ Logged (IsOf scene) (who.Bridge place) r.parties → AllByRecursion (IsOfKind P) (puts queue.Inbox (entries_of r (who.Bridge place)))
  bridge_inbox place (inl none) = subst (λ es. AllByRecursion (IsOfKind P) (puts queue.Inbox es)) (sym none) tt
  bridge_inbox place (inr l) =
      let at : IsBridgeAt scene.nodes place l.opening.party = owner_of scene r (who.Bridge place) l in
      bridge_keeps P (entries_of r (who.Bridge place)) 0 plain_bridge.opening (run_of scene r (who.Bridge place) (a_bridge plain_bridge.opening) l at.party)

  hub_inbox : (place : ℕ) (addr : Option ℕ) → AllByRecursion (IsOfKind P) (puts queue.Inbox (entries_of r (leader_of place addr)))
  hub_inbox place (Some addr) = router_inbox place (logged scene r (who.Router place) con.runs)
  hub_inbox place None = bridge_inbox place (logged scene r (who.Bridge place) con.runs)

  -- what a transmission shows
  shows_below : (n node number serial : ℕ) → HearBelow n → (entries_of r (who.Iface node number) ≡ []) ⊎ Logged (IsOf scene) (who.Iface node number) r.parties
      → AllByRecursion (λ e. (b : Content) → shown_in serial e ≡ Some b → IsBelow n b) (entries_of r (who.Iface node number))
  shows_below n node number serial hear (inl none) = subst (AllByRecursion (λ (e : Entry). (b : Content) → shown_in serial e ≡ Some b → IsBelow n b)) (sym none) tt
  shows_below n node number serial hear (inr l) =
      let at : IsIfaceAt scene.nodes scene.links node number l.opening.party = owner_of scene r (who.Iface node number) l in
      let lane : IsInOrder r (out_lane node (leader_of node at.node.addr) number) = out_lane_there scene r node number at.node con.lanes at.there (slice_get_within (links_at node scene.links) number at.link at.on) in
      iface_shows (IsBelow n) node number serial at.link.kind at.link.mtu (heeded at.node.addr at.link) (entries_of r (who.Iface node number))
      (run_of scene r (who.Iface node number) (an_iface (iface_opening node number at.link.kind at.link.mtu (heeded at.node.addr at.link))) l at.party)
      (through (Below n) r (out_lane node (leader_of node at.node.addr) number) lane (hub_below n node number at.node.addr (hear node at.node at.there)))

  sent_below : (n : ℕ) → HearBelow n → (o : Origin) (sent : Content) → transmission r o ≡ Some sent → IsBelow n sent
  sent_below n hear o sent shown =
      first_given (IsBelow n) (shown_in o.serial) (iface_entries r.parties o.node o.iface) sent shown
      (subst (AllByRecursion (λ (e : Entry). (b : Content) → shown_in o.serial e ≡ Some b → IsBelow n b)) (sym (iface_entries_in r.parties o.node o.iface))
      (shows_below n o.node o.iface o.serial hear (logged scene r (who.Iface o.node o.iface) con.runs)))

  as_sent : (n : ℕ) → HearBelow n → (b : Content) (o : Origin) (sent : Content) → option_and_then (transmission r) b.trace.origin ≡ Some sent → transmission r o ≡ Some sent → b.trace.tag ≡ sent.trace.tag
      → b.trace.hops ≡ sent.trace.hops + 1 → is_changed r b ≡ false → IsBelow (suc n) b
  as_sent n hear b o sent named shown tag hops unchanged low =
      let both : ((b.header == sent.header) ≡ true) × (bytes_eq b.payload sent.payload ≡ true) = both_hold (b.header == sent.header) (bytes_eq b.payload sent.payload) (sym (ap (λ x. differs x b) named) ∙ unchanged) in
      alike b sent (eqb-true b.header sent.header both.0) ((bytes_eq-Decides b.payload sent.payload).0 both.1) tag (sent_below n hear o sent shown (omega (arith, low, hops)))

  -- what an interface put into an inbox crossed one link more than what was sent beyond, and is as that was
  came_below : (n : ℕ) (end : End) → HearBelow n → (i : ItemShown) → IsSent scene r end i → IsOfKind (λ b. is_changed r b ≡ false) i → Below (suc n) i
  came_below n end hear (item.Packet mark b) s unchanged = as_sent n hear b s.origin s.sent (ap (option_and_then (transmission r)) s.named ∙ s.shown) s.shown s.tag s.hops unchanged
  came_below n end hear (item.Frame _) s unchanged = tt
  came_below n end hear (item.Note _) s unchanged = tt

  iface_below : (n place mark : ℕ) → HearBelow n → AllByRecursion (Below (suc n)) (puts queue.Inbox (entries_of r (who.Iface place mark)))
  iface_below n place mark hear =
      let end : End = record { node = place; iface = mark } in
      each_both (IsSent scene r end) (IsOfKind (λ b. is_changed r b ≡ false)) (Below (suc n)) (puts queue.Inbox (entries_of r (who.Iface place mark))) (came_below n end hear)
      (con.origins end) (accepted_of (λ b. is_changed r b ≡ false) place mark r.parties (none_counted (is_changed r) (flat_map accepted_by r.parties) same))

  -- what was put into an inbox with a mark
  writer_below : (n place mark : ℕ) (addr : Option ℕ) → HearBelow n → AllByRecursion (Below (suc n)) (puts queue.Inbox (entries_of r (writer_of place (leader_of place addr) mark)))
  writer_below n place mark addr hear =
      by (mark == UNMARKED)
    where
      by : (c : Bool) → AllByRecursion (Below (suc n)) (puts queue.Inbox (entries_of r (if c then leader_of place addr else who.Iface place mark)))
      by true = AllByRecursion-map (IsOfKind P) (Below (suc n)) (puts queue.Inbox (entries_of r (leader_of place addr))) (below_any (suc n)) (hub_inbox place addr)
      by false = iface_below n place mark hear

  hear_next : (n : ℕ) → HearBelow n → HearBelow (suc n)
  hear_next n hear place node there =
      let hub : Who = leader_of place node.addr in
      by_priority (IsBelow (suc n)) (gets queue.Inbox (entries_of r hub)) λ p.
      each_first (Below (suc n)) (with_priority p (gets queue.Inbox (entries_of r hub))) (left_in r place queue.Inbox (prio_number p))
      (by_mark (IsBelow (suc n)) (came_through r place hub p) λ mark.
      subst (AllByRecursion (Below (suc n))) (sym (((con.inboxes place node there).priorities p).order mark))
      (each_of_priority (Below (suc n)) p (puts queue.Inbox (entries_of r (writer_of place hub mark))) (writer_below n place mark node.addr hear)))

  hear_below : (n : ℕ) → HearBelow n
  hear_below zero place node there = each_any (Below 0) (gets queue.Inbox (entries_of r (leader_of place node.addr))) none_below
  hear_below (suc n) place node there = hear_next n (hear_below n) place node there

  -- all that a router hears is of the kind
  pub hears_only : (place : ℕ) (t : RouterThere scene r place) → HearsOnly P (entries_of r (who.Router place))
  hears_only place t =
      subst (λ a. AllByRecursion (IsOfKind P) (gets queue.Inbox (entries_of r (leader_of place a)))) t.called
      (all_from_below (gets queue.Inbox (entries_of r (leader_of place t.node.addr))) (λ n. hear_below n place t.node t.there))
