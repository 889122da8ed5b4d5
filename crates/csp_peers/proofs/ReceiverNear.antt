-- What is known of a reliable connection as one that hears its peer's packets is kept by each step, and none of these packets is stale.
use Rattle.std.proofs.Common.{◌≡◌, ℕ, ◌+◌, ◌<◌, ◌≤◌, true, false, not, List, length, Option, Some, None, refl, ap, ◌∙◌, sym, subst, arith}
use Rattle.std.specs.Prelude.{◌==◌, ◌||◌}
use Rattle.std.specs.Int.{abs_diff}
use Rattle.std.specs.Option.{option_map}
use Rattle.std.proofs.lemmas.Bool.{and_from, eq-eqb, lt-leb, not_from_true, or_from}
use Rattle.std.proofs.lemmas.Int.{ints}
use Rattle.std.proofs.lemmas.Option.{slice_get_within}
use Rattle.csp_base.specs.declared.seat.Seat.{Seat}
use Rattle.csp_base.specs.declared.traces.Tag.{Tag}
use Rattle.csp_buffer.specs.PlainBuffer.{PlainBuffer}
use Rattle.csp_conn.specs.declared.slot.Connection.{Connection}
use Rattle.csp_ports.specs.declared.flows.OwnFlows.{OwnFlows}
use Rattle.csp_record.specs.Stale.{is_far, is_stale_at, names}
use Rattle.csp_rdp_header.specs.declared.head.RdpHead.{RdpHead}
use Rattle.csp_rdp_window.specs.Receiving.{PlainRecv, confirmed, without_next}
use Rattle.csp_rdp.specs.Holding.{recv_rested, rested}
use Rattle.csp_rdp.specs.Jobs.{closing, delivering, delivery, keeping_again, sent, ticked, without_delivery}
use Rattle.csp_rdp.specs.Machine.{PlainRdp, flow_of, una_of}
use Rattle.csp_rdp.specs.Table.{after_packet}
use Rattle.csp_rdp.specs.declared.answers.State.{State}
use Rattle.csp_rdp.specs.declared.answers.State.TheVariants.{Closed, SynSent, SynRcvd, Open, CloseWait}
use Rattle.csp_prefix.specs.Flows.{Flows, IsTrueOf}
use Rattle.csp_prefix.specs.Machines.{IsFed, IsInvited, ReceivesIn}
use Rattle.csp_peers.specs.Nearness.{AreShort, HasOnePeer, IsHearer, IsAlone, IsPeered, half, of_peers}
use Rattle.csp_prefix.specs.Slots.{IsKept, Now, Numbering, after_delivering, after_opening, with_machine}
use Rattle.csp_prefix.proofs.Public.{hears-handed, next-found, place-next, said-found, receiver-kept, Delivers, Goes, Hears, Ways, answers, delivers, enters, enters_keeping, delivers-both, delivers-open, goes-kept-again, goes-rested, goes-sent, keeps, moves, on, over, off, resets, ways-closing, ways-ticked}

-- indices less than half of all numbers are not far from each other
near-each : (a b : ℕ) → a < half → b < half → is_far a b ≡ false
near-each a b below other = lt-leb half (abs_diff a b) (omega (arith, ints, below, other))

rested-cur : (s : State) (w : PlainRecv) → (recv_rested s w).cur ≡ w.cur
rested-cur SynSent w = refl
rested-cur SynRcvd w = refl
rested-cur Open w = refl
rested-cur CloseWait w = refl
rested-cur Closed w = refl

-- a connection that is open, or about to be, has a peer
alone-open : (s : State) → s ≡ Open → IsAlone s → ⊥
alone-open s e i = subst IsAlone e i

alone-rcvd : (s : State) → s ≡ SynRcvd → IsAlone s → ⊥
alone-rcvd s e i = subst IsAlone e i

module _ (flows : Flows) (R : Connection → ℕ × ℕ → Type 0) where
  -- ---- a step that leaves the peer, and how many were delivered

  peered-on : (n : Now) (b : PlainRdp) → b.peer ≡ n.machine.peer → b.recv.cur ≡ n.machine.recv.cur → (IsAlone n.machine.state → IsAlone b.state) → IsPeered flows R n → IsPeered flows R (with_machine b n)
  peered-on n b peer cur state i = record {
    right = λ flow f. i.right flow (sym peer ∙ f);
    near = λ flow f. rw cur (i.near flow (sym peer ∙ f));
    fresh = λ f. cur ∙ i.fresh (sym peer ∙ f);
    alone = λ f. state (i.alone (sym peer ∙ f));
  }

  peered-goes : (s : State) (w : PlainRecv) (n : Now) (b : PlainRdp) → Goes s w n.machine b → w.cur ≡ n.machine.recv.cur → (IsAlone n.machine.state → IsAlone s) → IsPeered flows R n → IsPeered flows R (with_machine b n)
  peered-goes s w n b g cur state i = peered-on n b g.peer (ap (λ v. v.cur) g.recv_is ∙ cur) (λ a. subst IsAlone (sym g.state_is) (state a)) i

  peered-ways : (n : Now) (b : PlainRdp) → Ways n.machine b → IsPeered flows R n → IsPeered flows R (with_machine b n)
  peered-ways n b (on g) i = peered-goes n.machine.state n.machine.recv n b g refl (λ a. a) i
  peered-ways n b (over g) i = peered-goes Closed n.machine.recv n b g refl (λ a. tt) i
  peered-ways n b (off g) i = peered-goes CloseWait n.machine.recv n b g refl (λ a. tt) i

  -- that is told, and else leaves all
  peered-opened : (n : Now) → IsPeered flows R n → IsPeered flows R (after_opening n)
  peered-opened n i = record { right = i.right; near = i.near; fresh = i.fresh; alone = i.alone }

  peered-delivered : (payload : List ℕ) (n : Now) → IsPeered flows R n → IsPeered flows R (after_delivering payload n)
  peered-delivered payload n i = record { right = i.right; near = i.near; fresh = i.fresh; alone = i.alone }

  -- ---- a packet is handed to it

  -- with a tag of a right flow
  right-tag : (c : Connection) (tag : Option Tag) (t : Tag) → tag ≡ Some t → R c (flow_of t) → (flow : ℕ × ℕ) → option_map flow_of tag ≡ Some flow → R c flow
  right-tag c tag t e right flow f =
      let both : Some (flow_of t) ≡ Some flow = ap (option_map flow_of) (sym e) ∙ f in
      let same : flow_of t ≡ flow = cc in
      subst (λ g. R c g) same right

  tagged : (tag : Option Tag) (t : Tag) → tag ≡ Some t → option_map flow_of tag ≡ None → ⊥
  tagged tag t e f = let both : Some (flow_of t) ≡ None = ap (option_map flow_of) (sym e) ∙ f in cc

  peered-heard : (h : RdpHead) (tag : Option Tag) (p : PlainBuffer) (n : Now) (b : PlainRdp) → (t : Tag) → tag ≡ Some t → R n.connection (flow_of t) → Hears h tag p n.machine b
      → IsPeered flows R n → IsPeered flows R (with_machine b n)
  peered-heard h tag p n b t e right (moves w) i = peered-ways n b w i
  peered-heard h tag p n b t e right (keeps u is c g) i = peered-goes Open _ n b g refl (λ a. alone-open n.machine.state is a) i
  peered-heard h tag p n b t e right (answers is syn g) i = record {
    right = λ flow f. right-tag n.connection tag t e right flow (sym g.peer_is ∙ f);
    near = λ flow f. let none : b.recv.cur ≡ 0 = ap (λ v. v.cur) g.recv_is in omega (arith, none);
    fresh = λ f. absurd (tagged tag t e (sym g.peer_is ∙ f));
    alone = λ f. absurd (tagged tag t e (sym g.peer_is ∙ f));
  }
  peered-heard h tag p n b t e right (enters is g) i = peered-on n b g.peer_is (ap (λ v. v.cur) g.recv_is) (λ a. absurd (alone-rcvd n.machine.state is a)) i
  peered-heard h tag p n b t e right (enters_keeping u is c g) i = peered-on n b g.peer_is (ap (λ v. v.cur) g.recv_is) (λ a. absurd (alone-rcvd n.machine.state is a)) i

  -- what it is handed is fed to a receiver
  module _ (bound : ℕ) (few : bound < half) (one : HasOnePeer R) (short : AreShort flows) where
    abbrev Fed : Connection → PlainRdp → RdpHead → Option Tag → List ℕ → Type 0
    Fed = (of_peers flows R bound).fed

    near-cur : (n : Now) (flow : ℕ × ℕ) → n.machine.peer ≡ Some flow → IsPeered flows R n → n.machine.recv.cur < half
    near-cur n flow f i = let near = i.near flow f in let low = short flow in omega (arith, near, low)

    near-index : (n : Now) (flow : ℕ × ℕ) (index : ℕ) → n.machine.peer ≡ Some flow → IsPeered flows R n → index ≤ bound → is_far index n.machine.recv.cur ≡ false
    near-index n flow index f i le = near-each index n.machine.recv.cur (omega (arith, le, few)) (near-cur n flow f i)

    feeds : (n : Now) (h : RdpHead) (tag : Option Tag) (bytes : List ℕ) → Fed n.connection n.machine h tag bytes → IsPeered flows R n → IsFed flows n.machine h tag bytes
    feeds n h tag bytes fed i = record {
      genuine = λ t e. let both : Some fed.0 ≡ Some t = sym fed.1 ∙ e in let same : fed.0 ≡ t = cc in subst (λ u. IsTrueOf flows u h bytes) same fed.2;
      peer = λ flow f. (fed.0, fed.1, one n.connection (flow_of fed.0) flow fed.3 (i.right flow f), near-index n flow fed.0.index f i fed.4);
    }

    invites : (c : Connection) (flags : ℕ) (h : RdpHead) (tag : Option Tag) → (of_peers flows R bound).invites c flags h tag → IsInvited flows h tag
    invites c flags h tag invited = λ t e.
        let both : Some invited.0 ≡ Some t = sym invited.1 ∙ e in
        let same : invited.0 ≡ t = cc in
        subst (λ u. h.seq.0 ≡ flows.start (flow_of u)) same invited.2

  -- ---- a packet is delivered on it

  module _ (n : Now) (b : PlainBuffer) (found : delivery n.machine ≡ Some b) (is : ReceivesIn n.machine.state flows n) (i : IsPeered flows R n) where
    is_open : ReceivesIn Open flows n
    is_open = subst (λ s. ReceivesIn s flows n) (delivers-open n.machine.state n.machine b found) is

    not-alone : IsAlone n.machine.state → ⊥
    not-alone a = alone-open n.machine.state (delivers-open n.machine.state n.machine b found) a

    near-next : (flow : ℕ × ℕ) → n.machine.peer ≡ Some flow → n.machine.recv.cur < length (flows.said flow)
    near-next flow f =
        slice_get_within (flows.said flow) n.machine.recv.cur b.picture.payload
        (place-next (flows.said flow) n.machine.recv.cur b.picture.payload
        (said-found (flows.said flow) (n.machine.recv.cur + 1) b n.machine.recv.kept (is_open.3 flow f).kept (next-found n.machine.state n.machine b found)))

    peered-next : (s : State) (r : PlainRdp) → Goes s (confirmed (without_next n.machine.recv)) n.machine r → IsPeered flows R (with_machine r n)
    peered-next s r g = record {
      right = λ flow f. i.right flow (sym g.peer ∙ f);
      near = λ flow f.
          let cur : r.recv.cur ≡ n.machine.recv.cur + 1 = ap (λ v. v.cur) g.recv_is in
          let within = near-next flow (sym g.peer ∙ f) in
          omega (arith, cur, within);
      fresh = λ f. absurd (not-alone (i.alone (sym g.peer ∙ f)));
      alone = λ f. absurd (not-alone (i.alone (sym g.peer ∙ f)));
    }

    peered-delivers : (r : PlainRdp) → Delivers (confirmed (without_next n.machine.recv)) n.machine r → IsPeered flows R (after_delivering b.picture.payload (with_machine r n))
    peered-delivers r (delivers g) = peered-delivered b.picture.payload (with_machine r n) (peered-next Open r g)
    peered-delivers r (resets g) = peered-delivered b.picture.payload (with_machine r n) (peered-next Closed r g)

-- ---- all of it

-- where a connection has one peer at most, and neither the flows nor the packets' indices reach half of all numbers
pub hearer-kept : (o : OwnFlows) (flows : Flows) (R : Connection → ℕ × ℕ → Type 0) (bound : ℕ) → bound < half → HasOnePeer R → AreShort flows → IsKept o (of_peers flows R bound) (IsHearer flows R)
hearer-kept o flows R bound few one short =
    let kept = receiver-kept o flows in
    record {
      grows = λ m later s n g i. (kept.grows m later s n g i.0, i.1);
      connects = λ m s ordinal time c flags home asked. (
        kept.connects m s ordinal time c flags home tt,
        record { right = λ flow f. absurd cc; near = λ flow f. omega arith; fresh = λ f. refl; alone = λ f. tt },
      );
      accepts = λ m s ordinal time c flags h tag options home syn invited. (
        kept.accepts m s ordinal time c flags h tag options home syn (invites flows R bound few one short c flags h tag invited),
        record {
          right = λ flow f. right-tag flows R c tag invited.0 invited.1 invited.3 flow f;
          near = λ flow f. omega arith;
          fresh = λ f. refl;
          alone = λ f. absurd (tagged flows R tag invited.0 invited.1 f);
        },
      );
      early = λ m s n i e. kept.early m s n i.0 e;
      never = λ m s n i e. kept.never m s n i.0 e;
      rests = λ m s n i. (
        kept.rests m s n i.0,
        peered-goes flows R n.machine.state _ n (rested n.machine) (goes-rested n.machine) (rested-cur n.machine.state n.machine.recv) (λ a. a) i.1,
      );
      ticks = λ m s n time i. (kept.ticks m s n time i.0, peered-ways flows R n (ticked time n.machine) (ways-ticked time n.machine) i.1);
      closes = λ m s n time i. (kept.closes m s n time i.0, peered-ways flows R n (closing time n.machine) (ways-closing time n.machine) i.1);
      makes = λ m s n time j job i. (
        kept.makes m s n time j job i.0,
        peered-goes flows R n.machine.state n.machine.recv n (sent j time n.machine) (goes-sent j time n.machine) refl (λ a. a) i.1,
      );
      hears = λ m s n h tag b time fed shut i. (
        kept.hears m s n h tag b time (feeds flows R bound few one short n h tag b.picture.payload fed i.1) shut i.0,
        peered-heard flows R h tag b n (after_packet h tag b time n.machine) fed.0 fed.1 fed.3 (hears-handed h tag b time n.machine) i.1,
      );
      opens = λ m s n h tag b time fed opening i. (
        kept.opens m s n h tag b time (feeds flows R bound few one short n h tag b.picture.payload fed i.1) opening i.0,
        peered-opened flows R (with_machine (after_packet h tag b time n.machine) n)
            (peered-heard flows R h tag b n (after_packet h tag b time n.machine) fed.0 fed.1 fed.3 (hears-handed h tag b time n.machine) i.1),
      );
      admits = λ m s n b time is_open room waits i. (kept.admits m s n b time is_open room waits i.0, record { right = i.1.right; near = i.1.near; fresh = i.1.fresh; alone = i.1.alone });
      delays = λ m s n payload is_open waits i. (kept.delays m s n payload is_open waits i.0, record { right = i.1.right; near = i.1.near; fresh = i.1.fresh; alone = i.1.alone });
      settles = λ m s n b time is_open room waits i. (kept.settles m s n b time is_open room waits i.0, record { right = i.1.right; near = i.1.near; fresh = i.1.fresh; alone = i.1.alone });
      drops = λ m s n shut i. (kept.drops m s n shut i.0, record { right = i.1.right; near = i.1.near; fresh = i.1.fresh; alone = i.1.alone });
      delivers = λ m s n b time found i. (
        kept.delivers m s n b time found i.0,
        peered-delivers flows R n b found i.0 i.1 (delivering time (without_delivery n.machine)) (delivers-both time n.machine (delivers-open n.machine.state n.machine b found)),
      );
      keeps = λ m s n b c found same i. (
        kept.keeps m s n b c found same i.0,
        peered-goes flows R Open _ n (keeping_again c (without_delivery n.machine)) (goes-kept-again c n.machine (delivers-open n.machine.state n.machine b found)) refl
            (λ a. alone-open n.machine.state (delivers-open n.machine.state n.machine b found) a) i.1,
      );
    }

-- ---- no packet of such a flow is stale

-- how many were delivered is less than half of all numbers, with a peer or without
pub hearer-cur : (flows : Flows) (R : Connection → ℕ × ℕ → Type 0) → AreShort flows → (m : Numbering) (s : Seat) (n : Now) → IsHearer flows R m s n → n.machine.recv.cur < half
hearer-cur flows R short m s n i = go n.machine.peer refl
  where
    go : (peer : Option (ℕ × ℕ)) → n.machine.peer ≡ peer → n.machine.recv.cur < half
    go None e = let none = i.1.fresh e in omega (arith, none)
    go (Some flow) e = let near = i.1.near flow e in let low = short flow in omega (arith, near, low)

names-own : (t : Tag) (flow : ℕ × ℕ) → flow_of t ≡ flow → names t flow ≡ true
names-own t flow e = and_from (t.node == flow.0) (t.nth == flow.1) (eq-eqb t.node flow.0 (ap (λ f. f.0) e)) (eq-eqb t.nth flow.1 (ap (λ f. f.1) e))

not-stale-from : (flows : Flows) (R : Connection → ℕ × ℕ → Type 0) (bound : ℕ) → bound < half → HasOnePeer R → AreShort flows → (n : Now) (t : Tag) → IsPeered flows R n
    → R n.connection (flow_of t) → t.index ≤ bound → t.ack < half → una_of n.machine < half
    → (peer : Option (ℕ × ℕ)) → n.machine.peer ≡ peer → is_stale_at peer (Some t) n.machine.recv.cur (una_of n.machine) ≡ false
not-stale-from flows R bound few one short n t i right le ack una None e = refl
not-stale-from flows R bound few one short n t i right le ack una (Some flow) e =
    let same = one n.connection (flow_of t) flow right (i.right flow e) in
    or_from (not (names t flow) || is_far t.index n.machine.recv.cur) (is_far t.ack (una_of n.machine))
    (or_from (not (names t flow)) (is_far t.index n.machine.recv.cur) (not_from_true (names t flow) (names-own t flow same)) (near-index flows R bound few one short n flow t.index e i le))
    (near-each t.ack (una_of n.machine) ack una)

-- on such a connection
pub not-stale : (flows : Flows) (R : Connection → ℕ × ℕ → Type 0) (bound : ℕ) → bound < half → HasOnePeer R → AreShort flows → (m : Numbering) (s : Seat) (n : Now) (tag : Option Tag) (t : Tag)
    → IsHearer flows R m s n → tag ≡ Some t → R n.connection (flow_of t) → t.index ≤ bound → t.ack < half → una_of n.machine < half
    → is_stale_at n.machine.peer tag n.machine.recv.cur (una_of n.machine) ≡ false
not-stale flows R bound few one short m s n tag t i e right le ack una =
    subst (λ o. is_stale_at n.machine.peer o n.machine.recv.cur (una_of n.machine) ≡ false) (sym e) (not-stale-from flows R bound few one short n t i.1 right le ack una n.machine.peer refl)
