-- What is known of a reliable connection that receives is kept by each step.
use Rattle.std.proofs.Common.{◌≡◌, ℕ, ◌+◌, Bool, true, false, List, [], ◌∷◌, ◌++◌, take, drop, Option, Some, None, refl, ap, ◌∙◌, sym, subst, arith}
use Rattle.std.specs.Prelude.{◌≢◌}
use Rattle.std.specs.Option.{option_map}
use Rattle.std.proofs.lemmas.List.{take-append-drop}
use Rattle.std.proofs.lemmas.Option.{slice_get_within}
use Rattle.csp_base.specs.declared.traces.Tag.{Tag}
use Rattle.csp_buffer.specs.PlainBuffer.{PlainBuffer}
use Rattle.csp_ports.specs.declared.flows.OwnFlows.{OwnFlows}
use Rattle.csp_rdp_header.specs.Head.{has_flag}
use Rattle.csp_rdp_header.specs.declared.head.RdpHead.{RdpHead}
use Rattle.csp_rdp_header.specs.declared.head.TheConstants.{SYN}
use Rattle.csp_rdp_window.specs.Receiving.{PlainRecv, confirmed, with_kept, without_next}
use Rattle.csp_rdp.specs.Holding.{recv_rested, rested}
use Rattle.csp_rdp.specs.Jobs.{admitting, closing, delivery, keeping_again, sent, ticked, without_delivery}
use Rattle.csp_rdp.specs.Machine.{PlainRdp, flow_of}
use Rattle.csp_rdp.specs.Table.{after_packet}
use Rattle.csp_rdp.specs.declared.answers.State.{State}
use Rattle.csp_rdp.specs.declared.answers.State.TheVariants.{Closed, SynSent, SynRcvd, Open, CloseWait}
use Rattle.csp_prefix.specs.Flows.{Flows, IsSaid}
use Rattle.csp_prefix.specs.Machines.{HasDelivered, HasPeersStart, HasReceivedNothing, IsFed, IsInvited, IsReceiver, IsReceiving, IsToldSo, IsUntold, Receives, ReceivesIn, true_packets}
use Rattle.csp_prefix.specs.Prefix.{IsBeginning}
use Rattle.csp_prefix.specs.Slots.{IsKept, Now, Opens, after_delivering, after_opening, after_sending, waiting_for, with_machine}
use Rattle.csp_prefix.proofs.MachineHearing.{hears-handed}
use Rattle.csp_prefix.proofs.MachineKept.{AreSaid, data-said, next-found, place-next, said-found, said-none, said-taken, said-with, take-next}
use Rattle.csp_prefix.proofs.MachineOpens.{IsEarly, early-is, opens-not, opens-rcvd, opens-sent, ways-not}
use Rattle.csp_prefix.proofs.MachineSender.{both}
use Rattle.csp_prefix.proofs.MachineSteps.{Becomes, Delivers, Goes, Hears, Ways, answers, delivers, enters, enters_keeping, delivers-both, delivers-open, goes-kept-again, goes-rested, goes-sent, keeps, moves, on, over, off, resets, ways-closing, ways-ticked}

-- a window that kept nothing keeps nothing, and what is kept was
record IsNoMore (v w : PlainRecv) : Type 1 where
  start : w.start ≡ v.start
  cur : w.cur ≡ v.cur
  kept : (said : List (List ℕ)) → AreSaid said v.kept → AreSaid said w.kept
  none : v.kept ≡ [] → w.kept ≡ []

no-more : (w : PlainRecv) → IsNoMore w w
no-more w = record { start = refl; cur = refl; kept = λ said all. all; none = λ e. e }

no-more-emptied : (w : PlainRecv) → IsNoMore w (record w { kept = [] })
no-more-emptied w = record { start = refl; cur = refl; kept = λ said all. said-none said [] refl; none = λ e. refl }

no-more-rested : (s : State) (w : PlainRecv) → IsNoMore w (recv_rested s w)
no-more-rested SynSent w = no-more-emptied w
no-more-rested SynRcvd w = no-more-emptied w
no-more-rested Open w = no-more w
no-more-rested CloseWait w = no-more-emptied w
no-more-rested Closed w = no-more-emptied w

-- the peer that is told
abbrev peer_told : Option (Option ℕ × Option (ℕ × ℕ)) → Option (Option (ℕ × ℕ))
peer_told None = None
peer_told (Some x) = Some x.1

-- a packet that opens a connection shows the start of its flow
invited-start : (flows : Flows) (h : RdpHead) (tag : Option Tag) → IsInvited flows h tag → (flow : ℕ × ℕ) → option_map flow_of tag ≡ Some flow → h.seq.0 ≡ flows.start flow
invited-start flows h None invited flow e = absurd cc
invited-start flows h (Some t) invited flow e = let same : flow_of t ≡ flow = cc in invited t refl ∙ ap flows.start same

-- the same was received on it
record IsReceivingSo (a b : Now) : Type 0 where
  state : b.machine.state ≡ a.machine.state
  nth : b.machine.nth ≡ a.machine.nth
  peer : b.machine.peer ≡ a.machine.peer
  was_open : b.machine.was_open ≡ a.machine.was_open
  recv : b.machine.recv ≡ a.machine.recv
  opened : b.book.opened ≡ a.book.opened
  down : b.book.down ≡ a.book.down

module _ (flows : Flows) where
  told-on : (s : State) (w : PlainRecv) (n : Now) (b : PlainRdp) → Goes s w n.machine b → IsToldSo n → IsToldSo (with_machine b n)
  told-on s w n b g i = (
    λ e. rw (g.own.nth, g.peer) (i.0 (sym g.was_open ∙ e)),
    λ e. let u = i.1 (sym g.was_open ∙ e) in record { book = u.book; waits = u.waits },
  )

  start-on : (a b : PlainRdp) → b.peer ≡ a.peer → b.recv.start ≡ a.recv.start → HasPeersStart flows a → HasPeersStart flows b
  start-on a b e f i = λ flow peer. f ∙ i flow (sym e ∙ peer)

  received-on : (w : PlainRecv) (n : Now) (b : PlainRdp) → b.recv ≡ w → IsNoMore n.machine.recv w → HasReceivedNothing n → HasReceivedNothing (with_machine b n)
  received-on w n b e more i = record { cur = ap (λ v. v.cur) e ∙ more.cur ∙ i.cur; kept = ap (λ v. v.kept) e ∙ more.none i.kept }

  receiving-on : (w : PlainRecv) (n : Now) (b : PlainRdp) (flow : ℕ × ℕ) → b.recv ≡ w → w.cur ≡ n.machine.recv.cur → AreSaid (flows.said flow) w.kept → IsReceiving flows n flow → IsReceiving flows (with_machine b n) flow
  receiving-on w n b flow e cur kept i =
      let same : b.recv.cur ≡ n.machine.recv.cur = ap (λ v. v.cur) e ∙ cur in
      record {
        kept = subst (λ v. AreSaid (flows.said flow) v.kept) (sym e) kept;
        down = rw same i.down;
        far = rw same i.far;
      }

  abbrev IsDone : Now → Type 0
  IsDone n = IsToldSo n × (n.machine.was_open ≡ true → HasDelivered flows n)

  done-on : (s : State) (w : PlainRecv) (n : Now) (b : PlainRdp) → Goes s w n.machine b → IsDone n → IsDone (with_machine b n)
  done-on s w n b g i = (told-on s w n b g i.0, λ e flow f. i.1 (sym g.was_open ∙ e) flow (sym g.peer ∙ f))

  begins : (n : Now) (flow : ℕ × ℕ) → IsReceiving flows n flow → IsBeginning n.book.down (flows.said flow)
  begins n flow i = record {
    rest = drop n.machine.recv.cur (flows.said flow);
    whole = ap (λ l. l ++ drop n.machine.recv.cur (flows.said flow)) i.down ∙ take-append-drop n.machine.recv.cur (flows.said flow);
  }

  -- whatever its state, it is such as one that is over
  receives-over : (s : State) (n : Now) → ReceivesIn s flows n → IsDone n
  receives-over SynSent n i = ((λ e. absurd cc, λ e. i.0), λ e. absurd cc)
  receives-over SynRcvd n i = ((λ e. absurd cc, λ e. i.0), λ e. absurd cc)
  receives-over Open n i = (i.0, λ e flow f. begins n flow (i.3 flow f))
  receives-over CloseWait n i = i
  receives-over Closed n i = i

  receives-on : (s z : State) (w : PlainRecv) (n : Now) (b : PlainRdp) → Goes z w n.machine b → IsNoMore n.machine.recv w → ReceivesIn s flows n → ReceivesIn s flows (with_machine b n)
  receives-on SynSent z w n b g more i = (record { book = i.0.book; waits = i.0.waits }, received-on w n b g.recv_is more i.1, g.was_open ∙ i.2, g.peer ∙ i.3)
  receives-on SynRcvd z w n b g more i = (
    record { book = i.0.book; waits = i.0.waits },
    received-on w n b g.recv_is more i.1,
    g.was_open ∙ i.2,
    start-on n.machine b g.peer (ap (λ v. v.start) g.recv_is ∙ more.start) i.3,
  )
  receives-on Open z w n b g more i = (
    told-on z w n b g i.0,
    g.was_open ∙ i.1,
    start-on n.machine b g.peer (ap (λ v. v.start) g.recv_is ∙ more.start) i.2,
    λ flow f. let r = i.3 flow (sym g.peer ∙ f) in receiving-on w n b flow g.recv_is more.cur (more.kept (flows.said flow) r.kept) r,
  )
  receives-on CloseWait z w n b g more i = done-on z w n b g i
  receives-on Closed z w n b g more i = done-on z w n b g i

  abbrev In : Now → Type 0
  In n = ReceivesIn n.machine.state flows n

  -- a step that leaves the state, or comes to an end
  receiver-on : (w : PlainRecv) (n : Now) (b : PlainRdp) → Goes n.machine.state w n.machine b → IsNoMore n.machine.recv w → In n → In (with_machine b n)
  receiver-on w n b g more i = subst (λ s. ReceivesIn s flows (with_machine b n)) (sym g.state_is) (receives-on n.machine.state n.machine.state w n b g more i)

  receiver-ways : (n : Now) (b : PlainRdp) → Ways n.machine b → In n → In (with_machine b n)
  receiver-ways n b (on g) i = receiver-on n.machine.recv n b g (no-more n.machine.recv) i
  receiver-ways n b (over g) i = subst (λ s. ReceivesIn s flows (with_machine b n)) (sym g.state_is) (done-on Closed n.machine.recv n b g (receives-over n.machine.state n i))
  receiver-ways n b (off g) i = subst (λ s. ReceivesIn s flows (with_machine b n)) (sym g.state_is) (done-on CloseWait n.machine.recv n b g (receives-over n.machine.state n i))

  -- ---- a packet is handed to it

  -- in Open it is kept
  receives-kept : (t : ℕ) (p : PlainBuffer) (n : Now) (b : PlainRdp) → Goes Open (with_kept t p n.machine.recv) n.machine b
      → ((flow : ℕ × ℕ) → n.machine.peer ≡ Some flow → IsSaid (flows.said flow) t p.picture.payload) → ReceivesIn Open flows n → ReceivesIn Open flows (with_machine b n)
  receives-kept t p n b g said i = (
    told-on Open _ n b g i.0,
    g.was_open ∙ i.1,
    start-on n.machine b g.peer (ap (λ v. v.start) g.recv_is) i.2,
    λ flow f.
        let peer = sym g.peer ∙ f in
        let r = i.3 flow peer in
        receiving-on (with_kept t p n.machine.recv) n b flow g.recv_is refl (said-with (flows.said flow) t p n.machine.recv.kept (said flow peer) r.kept) r,
  )

  -- it becomes open: nothing was delivered yet
  becomes : (peer : Option (ℕ × ℕ)) (w : PlainRecv) (n : Now) (b : PlainRdp) → Becomes peer w n.machine b → IsUntold n → w.cur ≡ 0 → HasPeersStart flows b
      → ((flow : ℕ × ℕ) → b.peer ≡ Some flow → AreSaid (flows.said flow) w.kept) → In (after_opening (with_machine b n))
  becomes peer w n b g untold cur start kept =
      let none : b.recv.cur ≡ 0 = ap (λ v. v.cur) g.recv_is ∙ cur in
      subst (λ s. ReceivesIn s flows (after_opening (with_machine b n))) (sym g.state_is) (
        (λ e. refl, λ e. absurd (let was = g.was_open in cc)),
        g.was_open,
        start,
        λ flow f. record {
          kept = subst (λ v. AreSaid (flows.said flow) v.kept) (sym g.recv_is) (kept flow f);
          down = ap (λ k. k.down) untold.book ∙ ap (λ k. take k (flows.said flow)) (sym none);
          far = omega (arith, none);
        },
      )

  hears-on : (h : RdpHead) (tag : Option Tag) (p : PlainBuffer) (n : Now) (b : PlainRdp) → IsFed flows n.machine h tag p.picture.payload → Hears h tag p n.machine b
      → (Opens n.machine.state b.state → ⊥) → In n → In (with_machine b n)
  hears-on h tag p n b fed (moves w) shut i = receiver-ways n b w i
  hears-on h tag p n b fed (keeps t e c g) shut i =
      let is = subst (λ s. ReceivesIn s flows n) e i in
      subst (λ s. ReceivesIn s flows (with_machine b n)) (sym g.state_is)
      (receives-kept t p n b g (λ flow peer. data-said flows n.machine h tag p.picture.payload t flow fed peer (is.2 flow peer) c) is)
  hears-on h tag p n b fed (answers e f g) shut i = absurd (shut (opens-sent n.machine.state b.state e g.state_is))
  hears-on h tag p n b fed (enters e g) shut i = absurd (shut (opens-rcvd n.machine.state b.state e g.state_is))
  hears-on h tag p n b fed (enters_keeping t e c g) shut i = absurd (shut (opens-rcvd n.machine.state b.state e g.state_is))

  -- the answer has a tag of the peer, and shows its start
  answered-start : (h : RdpHead) (tag : Option Tag) (bytes : List ℕ) (r : PlainRdp) → IsFed flows r h tag bytes → has_flag h SYN ≡ true → (flow : ℕ × ℕ) → option_map flow_of tag ≡ Some flow → h.seq.0 ≡ flows.start flow
  answered-start h None bytes r fed syn flow e = absurd cc
  answered-start h (Some t) bytes r fed syn flow e = let same : flow_of t ≡ flow = cc in (fed.genuine t refl).syn syn ∙ ap flows.start same

  hears-opening : (h : RdpHead) (tag : Option Tag) (p : PlainBuffer) (n : Now) (b : PlainRdp) → IsFed flows n.machine h tag p.picture.payload → Hears h tag p n.machine b
      → Opens n.machine.state b.state → In n → In (after_opening (with_machine b n))
  hears-opening h tag p n b fed (moves w) opening i = absurd (ways-not n.machine b w opening)
  hears-opening h tag p n b fed (keeps t e c g) opening i = absurd (opens-not n.machine.state b.state (g.state_is ∙ sym e) opening)
  hears-opening h tag p n b fed (answers e f g) opening i =
      let is = subst (λ s. ReceivesIn s flows n) e i in
      becomes _ _ n b g is.0 refl
      (λ flow peer. ap (λ v. v.start) g.recv_is ∙ answered-start h tag p.picture.payload n.machine fed f flow (sym g.peer_is ∙ peer))
      (λ flow peer. said-none (flows.said flow) [] refl)
  hears-opening h tag p n b fed (enters e g) opening i =
      let is = subst (λ s. ReceivesIn s flows n) e i in
      becomes _ _ n b g is.0 is.1.cur (start-on n.machine b g.peer_is (ap (λ v. v.start) g.recv_is) is.3) (λ flow peer. said-none (flows.said flow) n.machine.recv.kept is.1.kept)
  hears-opening h tag p n b fed (enters_keeping t e c g) opening i =
      let is = subst (λ s. ReceivesIn s flows n) e i in
      becomes _ _ n b g is.0 is.1.cur (start-on n.machine b g.peer_is (ap (λ v. v.start) g.recv_is) is.3)
      (λ flow peer.
      let was = sym g.peer_is ∙ peer in
      said-with (flows.said flow) t p n.machine.recv.kept (data-said flows n.machine h tag p.picture.payload t flow fed was (is.3 flow was) c)
      (said-none (flows.said flow) n.machine.recv.kept is.1.kept))

  -- ---- a payload is sent on it: nothing of what is received changes

  sends-open : (n c : Now) → IsReceivingSo n c → n.machine.state ≡ Open → In n → In c
  sends-open n c same is_open i =
      let is = subst (λ s. ReceivesIn s flows n) is_open i in
      subst (λ s. ReceivesIn s flows c) (sym (same.state ∙ is_open)) (
        (λ e. rw (same.opened, same.nth, same.peer) (is.0.0 is.1), λ e. absurd (let was = same.was_open ∙ is.1 in cc)),
        same.was_open ∙ is.1,
        start-on n.machine c.machine same.peer (ap (λ v. v.start) same.recv) is.2,
        λ flow f.
            let r = is.3 flow (sym same.peer ∙ f) in
            record { kept = subst (λ v. AreSaid (flows.said flow) v.kept) (sym same.recv) r.kept; down = rw (same.recv, same.down) r.down; far = rw same.recv r.far },
      )

  -- ---- what waits is dropped

  receives-dropped : (s : State) (n : Now) → s ≢ Open → ReceivesIn s flows n → ReceivesIn s flows (waiting_for None n)
  receives-dropped SynSent n shut i = (record { book = i.0.book; waits = refl }, record { cur = i.1.cur; kept = i.1.kept }, i.2, i.3)
  receives-dropped SynRcvd n shut i = (record { book = i.0.book; waits = refl }, record { cur = i.1.cur; kept = i.1.kept }, i.2, i.3)
  receives-dropped Open n shut i = absurd (shut refl)
  receives-dropped CloseWait n shut i = ((λ e. i.0.0 e, λ e. record { book = (i.0.1 e).book; waits = refl }), i.1)
  receives-dropped Closed n shut i = ((λ e. i.0.0 e, λ e. record { book = (i.0.1 e).book; waits = refl }), i.1)

  -- ---- a packet is delivered on it

  module _ (n : Now) (b : PlainBuffer) (found : delivery n.machine ≡ Some b) (i : In n) where
    open_now : n.machine.state ≡ Open
    open_now = delivers-open n.machine.state n.machine b found

    is : ReceivesIn Open flows n
    is = subst (λ s. ReceivesIn s flows n) open_now i

    said-next : (flow : ℕ × ℕ) → n.machine.peer ≡ Some flow → IsSaid (flows.said flow) (n.machine.recv.cur + 1) b.picture.payload
    said-next flow f = said-found (flows.said flow) (n.machine.recv.cur + 1) b n.machine.recv.kept (is.3 flow f).kept (next-found n.machine.state n.machine b found)

    told-delivered : (s : State) (w : PlainRecv) (r : PlainRdp) → Goes s w n.machine r → IsToldSo (after_delivering b.picture.payload (with_machine r n))
    told-delivered s w r g = (λ e. rw (g.own.nth, g.peer) (is.0.0 is.1), λ e. absurd (let was = g.was_open ∙ is.1 in cc))

    receiving-delivered : (s : State) (r : PlainRdp) → Goes s (confirmed (without_next n.machine.recv)) n.machine r
        → (flow : ℕ × ℕ) → r.peer ≡ Some flow → IsReceiving flows (after_delivering b.picture.payload (with_machine r n)) flow
    receiving-delivered s r g flow f =
        let peer = sym g.peer ∙ f in
        let before = is.3 flow peer in
        let here = said-next flow peer in
        let cur : r.recv.cur ≡ n.machine.recv.cur + 1 = ap (λ v. v.cur) g.recv_is in
        let within = slice_get_within (flows.said flow) n.machine.recv.cur b.picture.payload (place-next (flows.said flow) n.machine.recv.cur b.picture.payload here) in
        record {
          kept = subst (λ v. AreSaid (flows.said flow) v.kept) (sym g.recv_is) (said-taken (flows.said flow) (n.machine.recv.cur + 1) n.machine.recv.kept before.kept);
          down = ap (λ l. l ++ b.picture.payload ∷ []) before.down ∙ sym (take-next (flows.said flow) n.machine.recv.cur b.picture.payload here) ∙ ap (λ k. take k (flows.said flow)) (sym cur);
          far = omega (arith, cur, within);
        }

    receiver-delivers : (r : PlainRdp) → Delivers (confirmed (without_next n.machine.recv)) n.machine r → In (after_delivering b.picture.payload (with_machine r n))
    receiver-delivers r (delivers g) = subst (λ s. ReceivesIn s flows (after_delivering b.picture.payload (with_machine r n))) (sym g.state_is) (
      told-delivered Open _ r g,
      g.was_open ∙ is.1,
      start-on n.machine r g.peer (ap (λ v. v.start) g.recv_is) is.2,
      λ flow f. receiving-delivered Open r g flow f,
    )
    receiver-delivers r (resets g) = subst (λ s. ReceivesIn s flows (after_delivering b.picture.payload (with_machine r n))) (sym g.state_is) (
      told-delivered Closed _ r g,
      λ e flow f. begins (after_delivering b.picture.payload (with_machine r n)) flow (receiving-delivered Closed r g flow f),
    )

    -- or it is kept again
    receiver-keeps : (c : PlainBuffer) → c.picture ≡ b.picture → In (with_machine (keeping_again c (without_delivery n.machine)) n)
    receiver-keeps c same =
        let r = keeping_again c (without_delivery n.machine) in
        let w = with_kept (n.machine.recv.cur + 1) c (without_next n.machine.recv) in
        let g = goes-kept-again c n.machine open_now in
        subst (λ s. ReceivesIn s flows (with_machine r n)) (sym g.state_is) (
          told-on Open w n r g is.0,
          g.was_open ∙ is.1,
          start-on n.machine r g.peer (ap (λ v. v.start) g.recv_is) is.2,
          λ flow f.
              let peer = sym g.peer ∙ f in
              let before = is.3 flow peer in
              let here = subst (λ p. IsSaid (flows.said flow) (n.machine.recv.cur + 1) p.payload) (sym same) (said-next flow peer) in
              receiving-on w n r flow g.recv_is refl
              (said-with (flows.said flow) (n.machine.recv.cur + 1) c (without_next n.machine.recv).kept here (said-taken (flows.said flow) (n.machine.recv.cur + 1) n.machine.recv.kept before.kept))
              before,
        )

  -- ---- nothing is told of one that never was open

  receives-early : (s : State) (n : Now) → IsEarly s → ReceivesIn s flows n → IsUntold n
  receives-early SynSent n e i = i.0
  receives-early SynRcvd n e i = i.0
  receives-early Open n e i = absurd e
  receives-early CloseWait n e i = absurd e
  receives-early Closed n e i = absurd e

  -- ---- what was delivered is a beginning

  begins-told : (n : Now) (nth : ℕ) (flow : ℕ × ℕ) → IsDone n → n.book.opened ≡ Some (Some nth, Some flow) → IsBeginning n.book.down (flows.said flow)
  begins-told n nth flow i e = go n.machine.was_open refl
    where
      go : (b : Bool) → n.machine.was_open ≡ b → IsBeginning n.book.down (flows.said flow)
      go true f =
          let told : Some n.machine.peer ≡ Some (Some flow) = ap peer_told (sym (i.0.0 f) ∙ e) in
          i.1 f flow cc
      go false f = let none = ap (λ k. k.opened) (i.0.1 f).book in absurd cc

-- ---- all of it

pub receiver-kept : (o : OwnFlows) (flows : Flows) → IsKept o (true_packets flows) (IsReceiver flows)
receiver-kept o flows = record {
  grows = λ m later seat n g i. i;
  connects = λ m seat ordinal time c flags home asked. (record { book = refl; waits = refl }, record { cur = refl; kept = refl }, refl, refl);
  accepts = λ m seat ordinal time c flags h tag options home syn invited. (
    record { book = refl; waits = refl },
    record { cur = refl; kept = refl },
    refl,
    λ flow f. invited-start flows h tag invited flow f,
  );
  early = λ m seat n i e. both n (receives-early flows n.machine.state n (early-is n.machine.state e) i);
  never = λ m seat n i e. both n ((receives-over flows n.machine.state n i).0.1 e);
  rests = λ m seat n i. receiver-on flows (recv_rested n.machine.state n.machine.recv) n (rested n.machine) (goes-rested n.machine) (no-more-rested n.machine.state n.machine.recv) i;
  ticks = λ m seat n time i. receiver-ways flows n (ticked time n.machine) (ways-ticked time n.machine) i;
  closes = λ m seat n time i. receiver-ways flows n (closing time n.machine) (ways-closing time n.machine) i;
  makes = λ m seat n time j job i. receiver-on flows n.machine.recv n (sent j time n.machine) (goes-sent j time n.machine) (no-more n.machine.recv) i;
  hears = λ m seat n h tag b time fed shut i. hears-on flows h tag b n (after_packet h tag b time n.machine) fed (hears-handed h tag b time n.machine) shut i;
  opens = λ m seat n h tag b time fed opening i. hears-opening flows h tag b n (after_packet h tag b time n.machine) fed (hears-handed h tag b time n.machine) opening i;
  admits = λ m seat n b time is_open room waits i.
      sends-open flows n (after_sending b.picture.payload (with_machine (admitting b time n.machine) n)) (record { state = refl; nth = refl; peer = refl; was_open = refl; recv = refl; opened = refl; down = refl }) is_open i;
  delays = λ m seat n payload is_open waits i.
      sends-open flows n (after_sending payload (waiting_for (Some payload) n)) (record { state = refl; nth = refl; peer = refl; was_open = refl; recv = refl; opened = refl; down = refl }) is_open i;
  settles = λ m seat n b time is_open room waits i.
      sends-open flows n (waiting_for None (with_machine (admitting b time n.machine) n)) (record { state = refl; nth = refl; peer = refl; was_open = refl; recv = refl; opened = refl; down = refl }) is_open i;
  drops = λ m seat n shut i. receives-dropped flows n.machine.state n shut i;
  delivers = λ m seat n b time found i. receiver-delivers flows n b found i _ (delivers-both time n.machine (delivers-open n.machine.state n.machine b found));
  keeps = λ m seat n b c found same i. receiver-keeps flows n b found i c same;
}

pub receiver-begins : (flows : Flows) → Receives (IsReceiver flows) flows
receiver-begins flows m seat n nth flow i e = begins-told flows n nth flow (receives-over flows n.machine.state n i) e
