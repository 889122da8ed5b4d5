-- On an ordinary link or hub each packet that an interface handed to its inbox is as it was sent, and so in an ordinary run none is counted as changed.
use Rattle.std.proofs.Common.{◌≡◌, ◌⊎◌, inl, inr, ℕ, ◌+◌, ◌≤◌, Bool, true, false, Option, Some, List, [], length, filter_map, slice_get, unwrap_or, refl, sym, ap, ◌∙◌, subst, arith}
use Rattle.std.specs.List.{AllByRecursion}
use Rattle.csp_base.specs.declared.limits.TheConstants.{MAX_PAYLOAD}
use Rattle.csp_deck.specs.Runs.{IsRun}
use Rattle.csp_iface.specs.declared.sender.TheConstants.{IDS}
use Rattle.csp_link.specs.Fates.{fate_of}
use Rattle.csp_log.specs.declared.entry.Entry.{Entry}
use Rattle.csp_log.specs.declared.frame.Frame.{Frame}
use Rattle.csp_log.specs.declared.places.End.{End}
use Rattle.csp_log.specs.declared.places.LinkKind.{LinkKind}
use Rattle.csp_log.specs.declared.places.LinkKind.TheVariants as link
use Rattle.csp_log.specs.declared.places.QueueId.TheVariants as queue
use Rattle.csp_log.specs.declared.shown.ItemShown.{ItemShown}
use Rattle.csp_log.specs.declared.shown.ItemShown.TheVariants as item
use Rattle.csp_party.specs.Any.{an_iface}
use Rattle.csp_record.specs.Passed.{is_changed, passed}
use Rattle.csp_record.specs.Record.{PlainRecord}
use Rattle.csp_record.specs.Transmissions.{shown_in}
use Rattle.csp_log.specs.declared.who.Who.TheVariants as who
use Rattle.csp_scene.proofs.Public.{AllByRecursion-map}
use Rattle.csp_scene.specs.Kept.{AreLinksAfter}
use Rattle.csp_scene.specs.Links.{links_at}
use Rattle.csp_scene.specs.Ranges.{IsEnd, IsLink, IsScene}
use Rattle.csp_scene.specs.Scene.{PlainLink, PlainScene}
use Rattle.csp_topology.proofs.Public.{home_ranged}
use Rattle.csp_topology.specs.Parties.{iface_opening, party_steps}
use Rattle.csp_consistent.specs.Addressed.{AreHopsOut, addressed_in}
use Rattle.csp_consistent.specs.Consistent.{IsConsistent}
use Rattle.csp_consistent.specs.Reading.{entries_of, gets, puts}
use Rattle.csp_consistent.proofs.Public.{IsIfaceRun, IsJoint, IsOfOther, came_from_others, iface_run, joint, each_at, IsListeningSo, Logged, IsOf, logged, IsPacketSo, IsSuchFrame, received_so, such_also, IsSentIn, sent_frames}
use Rattle.csp_ordinary.specs.AsSent.{IsAsSent, IsPacketAsSent}
use Rattle.csp_ordinary.specs.Ordinary.{AreApartOn, AreSourcesApart, HasNoHubs, IsOrdinary, IsOrdinaryOn, transmissions}
use Rattle.csp_ordinary.specs.Words.{HasWords}
use Rattle.csp_ordinary.proofs.AsSent.{unchanged}
use Rattle.csp_ordinary.proofs.Buses.{AreOthersApart, IsCanOf, IsPartSent, bus_hears, bus_rests, others_apart}
use Rattle.csp_ordinary.proofs.Coming.{IsComeTo, ShowsWithin, comes}
use Rattle.csp_ordinary.proofs.Counting.{IsPacketWith, counts_none}
use Rattle.csp_ordinary.proofs.Headers.{none_some}
use Rattle.csp_ordinary.proofs.Hops.{goes_next_low}
use Rattle.csp_ordinary.proofs.Serials.{serial_below}
use Rattle.csp_ordinary.proofs.Streams.{IsKissOf, IsStreamSo, stream_hears, stream_rests}

-- ---- an interface that hears harmless frames alone

hears_as_sent : (r : PlainRecord) (l : PlainLink) (at : ℕ) → AreOthersApart r l at → (node number mtu : ℕ) (kind : LinkKind) (heeds : Option ℕ) (es : List Entry) → IsRun party_steps 0 (an_iface (iface_opening node number kind mtu heeds)) es
    → AllByRecursion (IsSuchFrame (IsComeTo r l at mtu kind)) (gets (queue.Rx number) es) → AllByRecursion (IsPacketSo (IsAsSent r)) (puts queue.Inbox es)
hears_as_sent r l at apart node number mtu link.Kiss heeds es run got =
    received_so (IsAsSent r) (IsStreamSo false mtu) (IsKissOf (IsAsSent r) false mtu) (stream_hears (IsAsSent r) false mtu) (stream_rests (IsAsSent r) false mtu) node number link.Kiss mtu heeds es
    (record { read = refl; between = tt; cover_is = refl; mtu_is = refl }) run got
hears_as_sent r l at apart node number mtu link.KissHeader heeds es run got =
    received_so (IsAsSent r) (IsStreamSo true mtu) (IsKissOf (IsAsSent r) true mtu) (stream_hears (IsAsSent r) true mtu) (stream_rests (IsAsSent r) true mtu) node number link.KissHeader mtu heeds es
    (record { read = refl; between = tt; cover_is = refl; mtu_is = refl }) run got
hears_as_sent r l at apart node number mtu link.Can heeds es run got =
    received_so (IsAsSent r) (IsListeningSo (IsPartSent r l at)) (IsCanOf r l at) (bus_hears r l at apart) (bus_rests r l at apart) node number link.Can mtu heeds es tt run got

as_sent_item : (r : PlainRecord) (i : ItemShown) → IsPacketSo (IsAsSent r) i → IsPacketAsSent r i
as_sent_item r (item.Packet mark b) is = is
as_sent_item r (item.Frame _) is = is
as_sent_item r (item.Note _) is = is

unchanged_item : (r : PlainRecord) (i : ItemShown) → IsPacketAsSent r i → IsPacketWith (λ b. is_changed r b ≡ false) i
unchanged_item r (item.Packet mark b) is = unchanged r b is
unchanged_item r (item.Frame _) is = is
unchanged_item r (item.Note _) is = is

not_both : (b : Bool) → b ≡ false → b ≡ true → ⊥
not_both b none is = cc

-- ---- a record

module _ (scene : PlainScene) (r : PlainRecord) (ranges : IsScene scene) (con : IsConsistent scene r) (words : HasWords r) (hops : AreHopsOut r) where
  pub link_there : (l : PlainLink) (number : ℕ) → slice_get scene.links number ≡ Some l → IsLink scene.nodes scene.links l
  link_there l number there = each_at (IsLink scene.nodes scene.links) scene.links number l ranges.links there

  -- the interface at an end is one of the node's, on the link
  pub on_link : (l : PlainLink) (number at : ℕ) (end : End) → slice_get scene.links number ≡ Some l → slice_get l.ends at ≡ Some end → slice_get (links_at end.node scene.links) end.iface ≡ Some l
  on_link l number at end there on = (each_at (IsEnd scene.nodes scene.links l) l.ends at end (link_there l number there).ends on).iface

  pub run_on : (l : PlainLink) (end : End) (own : IsIfaceRun scene r end.node end.iface) → slice_get (links_at end.node scene.links) end.iface ≡ Some l
      → IsRun party_steps 0 (an_iface (iface_opening end.node end.iface l.kind l.mtu own.heeds)) (entries_of r (who.Iface end.node end.iface))
  run_on l end own on =
      subst (λ (x : PlainLink). IsRun party_steps 0 (an_iface (iface_opening end.node end.iface x.kind x.mtu own.heeds)) (entries_of r (who.Iface end.node end.iface))) (ap (λ o. unwrap_or o l) (sym own.on ∙ on)) own.run

  -- what an end put on its link, with what that end shows
  abbrev pub Sends : PlainLink → End → Type 0
  Sends l from = AllByRecursion (IsSuchFrame (IsSentIn from.node from.iface l.kind l.mtu (entries_of r (who.Iface from.node from.iface)))) (puts (queue.Tx from.iface) (entries_of r (who.Iface from.node from.iface))) × ShowsWithin r from

  sends_by : (l : PlainLink) (from : End) → slice_get (links_at from.node scene.links) from.iface ≡ Some l → (entries_of r (who.Iface from.node from.iface) ≡ []) ⊎ Logged (IsOf scene) (who.Iface from.node from.iface) r.parties → Sends l from
  sends_by l from on (inl none) = (
    subst (λ es. AllByRecursion (IsSuchFrame (IsSentIn from.node from.iface l.kind l.mtu es)) (puts (queue.Tx from.iface) es)) (sym none) tt,
    record {
      below = λ n b is. absurd (none_some b (ap (λ es. slice_get (filter_map (shown_in n) es) 0) (sym none) ∙ is));
      low = λ n to is. absurd (none_some to (ap (λ es. slice_get (filter_map (addressed_in n) es) 0) (sym none) ∙ is));
    },
  )
  sends_by l from on (inr log) =
      let own : IsIfaceRun scene r from.node from.iface = iface_run scene r from.node from.iface log in
      let es : List Entry = entries_of r (who.Iface from.node from.iface) in
      let run : IsRun party_steps 0 (an_iface (iface_opening from.node from.iface l.kind l.mtu own.heeds)) es = run_on l from own on in (
        sent_frames from.node from.iface l.kind l.mtu own.heeds es run,
        record { below = serial_below from.node from.iface l.kind l.mtu own.heeds es run; low = goes_next_low from.node from.iface l.kind l.mtu own.heeds es run (hops from.node from.iface) },
      )

  pub sends : (l : PlainLink) (number place : ℕ) (from : End) → slice_get scene.links number ≡ Some l → slice_get l.ends place ≡ Some from → Sends l from
  sends l number place from there on = sends_by l from (on_link l number place from there on) (logged scene r (who.Iface from.node from.iface) con.runs)

  -- what came to an interface over an ordinary link or hub, and so what it handed to its inbox
  module _ (number : ℕ) (l : PlainLink) (at : ℕ) (end : End) (there : slice_get scene.links number ≡ Some l) (on : slice_get l.ends at ≡ Some end) (ordinary : IsOrdinaryOn r number l) where
    abbrev Comes : Frame → Type 0
    Comes f = IsComeTo r l at l.mtu l.kind f

    came_over : AllByRecursion (IsSuchFrame Comes) (gets (queue.Rx end.iface) (entries_of r (who.Iface end.node end.iface)))
    came_over =
        let is : IsLink scene.nodes scene.links l = link_there l number there in
        let j : IsJoint scene.links l end = record { number = number; there = there; at = at; on = on; shape = is.shape } in
        let most : l.mtu ≤ MAX_PAYLOAD = omega (arith, is.mtu.1) in
        AllByRecursion-map (IsSuchFrame (λ f. IsOfOther l at (λ from. Comes f))) (IsSuchFrame Comes) (gets (queue.Rx end.iface) (entries_of r (who.Iface end.node end.iface)))
        (such_also (λ f. IsOfOther l at (λ from. Comes f)) Comes (λ f come. come.holds))
        (came_from_others scene r l end (λ from. IsSentIn from.node from.iface l.kind l.mtu (entries_of r (who.Iface from.node from.iface))) (λ from f. Comes f) (home_ranged scene ranges) con.runs con.lanes j
        (λ place k from f apart joined popped sent. comes r from l.mtu words most l at place apart joined l.kind (fate_of place (k + 1) l.plan).flip f
        (λ can. each_at (λ (x : End). transmissions (entries_of r (who.Iface x.node x.iface)) ≤ IDS) l.ends place from (ordinary.numbers can) joined) (sends l number place from there joined).1 sent
        (ordinary.undamaged place k f popped))
        (λ place from apart joined. (sends l number place from there joined).0))

    as_sent_by : (entries_of r (who.Iface end.node end.iface) ≡ []) ⊎ Logged (IsOf scene) (who.Iface end.node end.iface) r.parties → AllByRecursion (IsPacketSo (IsAsSent r)) (puts queue.Inbox (entries_of r (who.Iface end.node end.iface)))
    as_sent_by (inl none) = subst (λ es. AllByRecursion (IsPacketSo (IsAsSent r)) (puts queue.Inbox es)) (sym none) tt
    as_sent_by (inr log) =
        let own : IsIfaceRun scene r end.node end.iface = iface_run scene r end.node end.iface log in
        hears_as_sent r l at (others_apart r l at end (link_there l number there).shape on ordinary.sources) end.node end.iface l.mtu l.kind own.heeds (entries_of r (who.Iface end.node end.iface))
        (run_on l end own (on_link l number at end there on)) came_over

    pub as_sent : AllByRecursion (IsPacketAsSent r) (puts queue.Inbox (entries_of r (who.Iface end.node end.iface)))
    as_sent =
        AllByRecursion-map (IsPacketSo (IsAsSent r)) (IsPacketAsSent r) (puts queue.Inbox (entries_of r (who.Iface end.node end.iface))) (as_sent_item r) (as_sent_by (logged scene r (who.Iface end.node end.iface) con.runs))

  -- ---- an ordinary run

  ordinary_on : IsOrdinary scene r → (number : ℕ) (l : PlainLink) → slice_get scene.links number ≡ Some l → IsOrdinaryOn r number l
  ordinary_on ordinary number l there = record {
    undamaged = λ end. ordinary.undamaged number l end there;
    numbers = λ can. AllByRecursion-map (IsEnd scene.nodes scene.links l) (λ (end : End). transmissions (entries_of r (who.Iface end.node end.iface)) ≤ IDS) l.ends (λ end is. ordinary.numbers end.node end.iface l is.iface can) (link_there l number there).ends;
    sources = each_at (λ (x : PlainLink). x.hub ≡ true → AreApartOn r x) scene.links number l ordinary.sources there;
  }

  all_as_sent : AreLinksAfter (length scene.nodes) [] scene.links → IsOrdinary scene r → (node number : ℕ) → (entries_of r (who.Iface node number) ≡ []) ⊎ Logged (IsOf scene) (who.Iface node number) r.parties
      → AllByRecursion (IsPacketAsSent r) (puts queue.Inbox (entries_of r (who.Iface node number)))
  all_as_sent after ordinary node number (inl none) = subst (λ es. AllByRecursion (IsPacketAsSent r) (puts queue.Inbox es)) (sym none) tt
  all_as_sent after ordinary node number (inr log) =
      let own : IsIfaceRun scene r node number = iface_run scene r node number log in
      let first : 0 + number ≡ number = omega arith in
      let j : IsJoint scene.links own.link (record { node = node; iface = number }) =
      subst (λ k. IsJoint scene.links own.link (record { node = node; iface = k })) first (joint (length scene.nodes) node scene.links [] number own.link after own.on) in
      as_sent j.number own.link j.at (record { node = node; iface = number }) j.there j.on (ordinary_on ordinary j.number own.link j.there)

  pub passed_none : AreLinksAfter (length scene.nodes) [] scene.links → IsOrdinary scene r → passed r ≡ 0
  passed_none after ordinary =
      counts_none scene r con.runs (λ node number.
      AllByRecursion-map (IsPacketAsSent r) (IsPacketWith (λ b. is_changed r b ≡ false)) (puts queue.Inbox (entries_of r (who.Iface node number))) (unchanged_item r)
      (all_as_sent after ordinary node number (logged scene r (who.Iface node number) con.runs)))

-- where there are no hubs their sources are apart
pub apart_alone : (scene : PlainScene) (r : PlainRecord) → HasNoHubs scene → AreSourcesApart scene r
apart_alone scene r alone = AllByRecursion-map (λ (l : PlainLink). l.hub ≡ false) (λ (l : PlainLink). l.hub ≡ true → AreApartOn r l) scene.links (λ l none is. absurd (not_both l.hub none is)) alone
