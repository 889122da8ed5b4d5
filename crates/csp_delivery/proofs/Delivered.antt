-- What comes to an interface on a hub are frames of transmissions of the other ends, which name where these go next; so what it accepts is for its node.
use Rattle.std.proofs.Common.{◌≡◌, ◌⊎◌, inl, inr, ℕ, ◌+◌, ◌≤◌, ◌==◌, ◌||◌, Bool, true, false, Option, None, Some, List, [], length, count_by, filter_map, slice_get, unwrap_or, refl, sym, ap, ◌∙◌, subst, arith, eqb-true}
use Rattle.std.specs.Prelude.{if◌then◌else◌}
use Rattle.std.specs.List.{AllByRecursion}
use Rattle.csp_base.specs.declared.limits.TheConstants.{MAX_PAYLOAD}
use Rattle.csp_base.specs.declared.traces.Trace.{Trace}
use Rattle.csp_buffer.specs.Content.{Content}
use Rattle.csp_can.specs.Identifiers.{identifier_of}
use Rattle.csp_deck.specs.Runs.{IsRun}
use Rattle.csp_iface.specs.Heeding.{is_for}
use Rattle.csp_iface.specs.Sending.{next_node}
use Rattle.csp_base.specs.declared.address.TheConstants.{BROADCAST}
use Rattle.csp_link.specs.Copies.{damaged}
use Rattle.csp_link.specs.Fates.{fate_of}
use Rattle.csp_log.specs.Moving.{moved_in}
use Rattle.csp_log.specs.declared.entry.Entry.{Entry}
use Rattle.csp_log.specs.declared.frame.Frame.{Frame}
use Rattle.csp_log.specs.declared.places.End.{End}
use Rattle.csp_log.specs.declared.places.LinkKind.TheVariants as link
use Rattle.csp_log.specs.declared.places.QueueId.TheVariants as queue
use Rattle.csp_log.specs.declared.shown.ItemShown.{ItemShown}
use Rattle.csp_log.specs.declared.shown.ItemShown.TheVariants as item
use Rattle.csp_party.specs.Any.{an_iface}
use Rattle.csp_record.specs.Passed.{put_in}
use Rattle.csp_record.specs.Record.{PlainRecord}
use Rattle.csp_record.specs.Transmissions.{shown_in, transmission}
use Rattle.csp_log.specs.declared.who.Who.TheVariants as who
use Rattle.csp_scene.proofs.Public.{AllByRecursion-map}
use Rattle.csp_scene.specs.Ranges.{IsLink, IsScene}
use Rattle.csp_scene.specs.Scene.{PlainLink, PlainNode, PlainScene}
use Rattle.csp_topology.proofs.Public.{home_ranged}
use Rattle.csp_topology.specs.Parties.{heeded, iface_opening, party_steps}
use Rattle.csp_consistent.specs.Addressed.{AreHopsOut, addressed_in, addressee}
use Rattle.csp_consistent.specs.Consistent.{IsConsistent}
use Rattle.csp_consistent.specs.Reading.{entries_of, gets, puts}
use Rattle.csp_consistent.proofs.Public.{IsIfaceRun, IsJoint, IsOfOther, came_from_others, entries_alike, iface_run, Logged, IsOf, logged, IsPacketOf, IsSuchFrame, IsSuchIfHeeded, such_also, IsSentIn}
use Rattle.csp_ordinary.specs.AsSent.{IsAsSent, IsPacketAsSent}
use Rattle.csp_ordinary.specs.Ordinary.{IsOrdinaryOn}
use Rattle.csp_ordinary.specs.Words.{HasWords}
use Rattle.csp_ordinary.proofs.Public.{ShowsWithin, bus_piece, on_bus, IsPacketWith, accepted_all, link_there, on_link, run_on, sends}
use Rattle.csp_delivery.specs.Delivery.{AreFirstsCopied, IsFirstCopied, firsts, frames_got, names, origin_at}
use Rattle.csp_delivery.specs.Hubs.{IsCopied, IsDelivery, IsFor, IsOfAnother, accepted}
use Rattle.csp_delivery.proofs.HeededPackets.{HasArrived, heeded_traces}
use Rattle.csp_delivery.proofs.ReceivingOnce.{accepts_once}

-- ---- frames of transmissions of an end

-- a frame is of a transmission of this end, and its identifier names where that goes next
record IsGoing (r : PlainRecord) (from : End) (f : Frame) : Type 0 where
  serial : ℕ
  named : f.trace.origin ≡ Some (origin_at from serial)
  sent : Content
  shown : transmission r (origin_at from serial) ≡ Some sent
  next : ℕ
  goes : addressee r (origin_at from serial) ≡ Some next
  dest : (identifier_of (unwrap_or f.can 0)).dest ≡ next

going : (r : PlainRecord) (from : End) (mtu : ℕ) → mtu ≤ MAX_PAYLOAD → ShowsWithin r from → (f : Frame) → IsSentIn from.node from.iface link.Can mtu (entries_of r (who.Iface from.node from.iface)) f → IsGoing r from f
going r from mtu most shows f s =
    let own : List Entry = entries_of r (who.Iface from.node from.iface) in
    let short : length s.packet.payload ≤ MAX_PAYLOAD = omega (arith, s.fits, most) in
    record {
      serial = s.serial;
      named = sym (ap (λ (g : Frame). g.trace.origin) (on_bus from.node from.iface mtu own f s).1.1);
      sent = s.packet;
      shown = ap (λ es. slice_get (filter_map (shown_in s.serial) es) 0) (entries_alike from.node from.iface r.parties) ∙ s.shown;
      next = next_node s.mark s.packet.header;
      goes = ap (λ es. slice_get (filter_map (addressed_in s.serial) es) 0) (entries_alike from.node from.iface r.parties) ∙ s.to;
      dest = (bus_piece from.node from.iface mtu own f s (shows.low s.serial (next_node s.mark s.packet.header) s.to) short).dest_is;
    }

-- whatever the plan does to it
going_still : (r : PlainRecord) (from : End) (flip : Option ℕ) (f : Frame) → IsGoing r from f → IsGoing r from (damaged flip f)
going_still r from None f g = g
going_still r from (Some bit) f g = record { serial = g.serial; named = g.named; sent = g.sent; shown = g.shown; next = g.next; goes = g.goes; dest = g.dest }

-- an interface that heeds its node's address heeds what is for that node
for_node : (addr dest : ℕ) → ((dest == addr) || (dest == BROADCAST)) ≡ true → IsFor addr dest
for_node addr dest e =
    by (dest == addr) refl e
  where
    by : (b : Bool) → (dest == addr) ≡ b → (b || (dest == BROADCAST)) ≡ true → IsFor addr dest
    by true is f = inl (eqb-true dest addr is)
    by false is f = inr (eqb-true dest BROADCAST f)

of_another : (r : PlainRecord) (l : PlainLink) (at addr : ℕ) (heeds : Option ℕ) → heeds ≡ Some addr → (f : Frame) → IsOfOther l at (λ from. IsGoing r from f) → IsSuchIfHeeded heeds (λ f. IsOfAnother r l at addr f.trace) f
of_another r l at addr heeds same f come for = record {
  place = come.place;
  apart = come.apart;
  end = come.end;
  there = come.there;
  serial = come.holds.serial;
  named = come.holds.named;
  sent = come.holds.sent;
  shown = come.holds.shown;
  next = come.holds.next;
  goes = come.holds.goes;
  here = for_node addr come.holds.next (subst (λ n. ((n == addr) || (n == BROADCAST)) ≡ true) come.holds.dest (ap (λ h. is_for h f) (sym same) ∙ for));
}

-- a packet has the origin of the frame that it came in
arrived_of : (r : PlainRecord) (l : PlainLink) (at addr : ℕ) (i : ItemShown) → IsPacketOf (HasArrived (IsOfAnother r l at addr)) i → IsPacketWith (λ b. IsOfAnother r l at addr b.trace) i
arrived_of r l at addr (item.Packet mark b) come =
    let a : IsOfAnother r l at addr come.before = come.kind in
    record { place = a.place; apart = a.apart; end = a.end; there = a.there; serial = a.serial; named = ap (λ (t : Trace). t.origin) come.is ∙ a.named; sent = a.sent; shown = a.shown; next = a.next; goes = a.goes; here = a.here }
arrived_of r l at addr (item.Frame _) come = come
arrived_of r l at addr (item.Note _) come = come

packet_as_sent : (r : PlainRecord) (i : ItemShown) → IsPacketAsSent r i → IsPacketWith (λ b. IsAsSent r b.header b.payload b.trace) i
packet_as_sent r (item.Packet mark b) is = is
packet_as_sent r (item.Frame _) is = is
packet_as_sent r (item.Note _) is = is

-- ---- an end of a hub

module _ (scene : PlainScene) (r : PlainRecord) (ranges : IsScene scene) (con : IsConsistent scene r) (words : HasWords r) (hops : AreHopsOut r) (copied : AreFirstsCopied scene r)
    (number : ℕ) (l : PlainLink) (at : ℕ) (end : End) (there : slice_get scene.links number ≡ Some l) (is_hub : l.hub ≡ true) (on : slice_get l.ends at ≡ Some end) where
  abbrev own : List Entry
  own = entries_of r (who.Iface end.node end.iface)

  of_link : IsLink scene.nodes scene.links l
  of_link = link_there scene r ranges con words hops l number there

  on_can : l.kind ≡ link.Can
  on_can = (of_link.shape.bus is_hub).0

  -- what came to it
  came : AllByRecursion (IsSuchFrame (λ f. IsOfOther l at (λ from. IsGoing r from f))) (gets (queue.Rx end.iface) own)
  came =
      let j : IsJoint scene.links l end = record { number = number; there = there; at = at; on = on; shape = of_link.shape } in
      let most : l.mtu ≤ MAX_PAYLOAD = omega (arith, of_link.mtu.1) in
      came_from_others scene r l end (λ from. IsSentIn from.node from.iface l.kind l.mtu (entries_of r (who.Iface from.node from.iface))) (IsGoing r) (home_ranged scene ranges) con.runs con.lanes j
      (λ place k from f apart joined popped sent. going_still r from (fate_of place (k + 1) l.plan).flip f
      (going r from l.mtu most (sends scene r ranges con words hops l number place from there joined).1 f
      (subst (λ kind. IsSentIn from.node from.iface kind l.mtu (entries_of r (who.Iface from.node from.iface)) f) on_can sent)))
      (λ place from apart joined. (sends scene r ranges con words hops l number place from there joined).0)

  -- its own log, where it has one
  abbrev Runs : Option ℕ → Type 0
  Runs heeds = IsRun party_steps 0 (an_iface (iface_opening end.node end.iface link.Can l.mtu heeds)) own

  runs : (log : IsIfaceRun scene r end.node end.iface) → Runs log.heeds
  runs log = subst (λ kind. IsRun party_steps 0 (an_iface (iface_opening end.node end.iface kind l.mtu log.heeds)) own) on_can (run_on scene r ranges con words hops l end log (on_link scene r ranges con words hops l number at end there on))

  -- it heeds the address of its node
  heeds_node : (node : PlainNode) (addr : ℕ) → slice_get scene.nodes end.node ≡ Some node → node.addr ≡ Some addr → (log : IsIfaceRun scene r end.node end.iface) → log.heeds ≡ Some addr
  heeds_node node addr at_node has log =
      let same : log.link ≡ l = ap (λ o. unwrap_or o l) (sym log.on ∙ on_link scene r ranges con words hops l number at end there on) in
      log.of_node node at_node ∙ ap (heeded node.addr) same ∙ hub_heeds l.hub is_hub ∙ has
    where
      hub_heeds : (b : Bool) → b ≡ true → (if b then node.addr else None) ≡ node.addr
      hub_heeds true e = refl
      hub_heeds false e = absurd cc

  abbrev IsOwn : Type 0
  IsOwn = (own ≡ []) ⊎ Logged (IsOf scene) (who.Iface end.node end.iface) r.parties

  all_of_another : (node : PlainNode) (addr : ℕ) → slice_get scene.nodes end.node ≡ Some node → node.addr ≡ Some addr → IsOwn → AllByRecursion (λ b. IsOfAnother r l at addr b.trace) (accepted r end)
  all_of_another node addr at_node has (inl none) = subst (λ es. AllByRecursion (λ b. IsOfAnother r l at addr b.trace) (filter_map (λ e. put_in (moved_in e)) es)) (sym none) tt
  all_of_another node addr at_node has (inr found) =
      let log : IsIfaceRun scene r end.node end.iface = iface_run scene r end.node end.iface found in
      accepted_all (λ b. IsOfAnother r l at addr b.trace) own
      (AllByRecursion-map (IsPacketOf (HasArrived (IsOfAnother r l at addr))) (IsPacketWith (λ b. IsOfAnother r l at addr b.trace)) (puts queue.Inbox own) (arrived_of r l at addr)
      (heeded_traces (IsOfAnother r l at addr) end.node end.iface link.Can l.mtu log.heeds own (runs log)
      (AllByRecursion-map (IsSuchFrame (λ f. IsOfOther l at (λ from. IsGoing r from f))) (IsSuchFrame (IsSuchIfHeeded log.heeds (λ f. IsOfAnother r l at addr f.trace))) (gets (queue.Rx end.iface) own)
      (such_also (λ f. IsOfOther l at (λ from. IsGoing r from f)) (IsSuchIfHeeded log.heeds (λ f. IsOfAnother r l at addr f.trace)) (of_another r l at addr log.heeds (heeds_node node addr at_node has log))) came)))

  -- no more packets of a transmission are accepted than first frames of it came
  few : (serial : ℕ) (from : End) → IsOwn → count_by (λ b. names (origin_at from serial) b.trace) (accepted r end) ≤ firsts (origin_at from serial) (frames_got r end)
  few serial from (inl none) =
      let nothing : count_by (λ b. names (origin_at from serial) b.trace) (accepted r end) ≡ 0 = ap (λ es. count_by (λ b. names (origin_at from serial) b.trace) (filter_map (λ e. put_in (moved_in e)) es)) none in
      omega (arith, nothing)
  few serial from (inr found) =
      let log : IsIfaceRun scene r end.node end.iface = iface_run scene r end.node end.iface found in
      accepts_once (origin_at from serial) end.node end.iface l.mtu log.heeds own (runs log)

  is_copied : (place serial : ℕ) (from : End) → slice_get l.ends place ≡ Some from → IsCopied r number l place (origin_at from serial) end
  is_copied place serial from joined =
      let first : IsFirstCopied r number l place (origin_at from serial) = copied number l place from serial there is_hub joined in
      let came_few : firsts (origin_at from serial) (frames_got r end) ≤ first.many = first.few at end on in
      let taken_few : count_by (λ b. names (origin_at from serial) b.trace) (accepted r end) ≤ firsts (origin_at from serial) (frames_got r end) = few serial from (logged scene r (who.Iface end.node end.iface) con.runs) in
      record { copies = first.many; makes = first.makes; alone = first.alone; most = omega (arith, came_few, taken_few) }

  pub is_delivery : (node : PlainNode) (addr : ℕ) → slice_get scene.nodes end.node ≡ Some node → node.addr ≡ Some addr → (IsOrdinaryOn r number l → AllByRecursion (IsPacketAsSent r) (puts queue.Inbox own)) → IsDelivery r number l at end addr
  is_delivery node addr at_node has as_sent = record {
    of_another = all_of_another node addr at_node has (logged scene r (who.Iface end.node end.iface) con.runs);
    copied = is_copied;
    as_sent = λ ordinary. accepted_all (λ b. IsAsSent r b.header b.payload b.trace) own
        (AllByRecursion-map (IsPacketAsSent r) (IsPacketWith (λ b. IsAsSent r b.header b.payload b.trace)) (puts queue.Inbox own) (packet_as_sent r) (as_sent ordinary));
  }
