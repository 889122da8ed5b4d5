-- What is known of a reliable connection that sends is kept by each step.
use Rattle.std.proofs.Common.{◌≡◌, ℕ, ◌+◌, true, List, [], ◌∷◌, ◌++◌, length, Option, Some, None, refl, ap, ◌∙◌, sym, subst, arith}
use Rattle.std.specs.Prelude.{◌≢◌}
use Rattle.std.specs.Option.{option_to_list}
use Rattle.std.proofs.lemmas.List.{append-nil, length-append}
use Rattle.std.proofs.lemmas.List.Elements.{All-nil, All-push, All-same}
use Rattle.csp_base.specs.declared.seat.Seat.{Seat}
use Rattle.csp_base.specs.declared.traces.Tag.{Tag}
use Rattle.csp_buffer.specs.PlainBuffer.{PlainBuffer}
use Rattle.csp_ports.specs.declared.flows.OwnFlows.{OwnFlows}
use Rattle.csp_rdp_header.specs.declared.head.RdpHead.{RdpHead}
use Rattle.csp_rdp_window.specs.Receiving.{PlainRecv}
use Rattle.csp_rdp_window.specs.Sending.{fresh}
use Rattle.csp_rdp.specs.Holding.{recv_rested, rested}
use Rattle.csp_rdp.specs.Jobs.{admitting, closing, keeping_again, sent, ticked, without_delivery}
use Rattle.csp_rdp.specs.Machine.{PlainRdp}
use Rattle.csp_rdp.specs.Table.{after_packet}
use Rattle.csp_rdp.specs.declared.answers.State.{State}
use Rattle.csp_rdp.specs.declared.answers.State.TheVariants.{Closed, SynSent, SynRcvd, Open, CloseWait}
use Rattle.csp_prefix.specs.Flows.{IsSaid}
use Rattle.csp_prefix.specs.Machines.{HasSentNothing, IsNumbered, IsOpeningOf, IsOver, IsSender, IsSending, IsUntold, SendsIn, WasOpened, whatever}
use Rattle.csp_prefix.specs.Slots.{GoesOn, IsKept, Now, Numbering, Opens, after_delivering, after_opening, after_sending, blank, waiting_for, with_machine}
use Rattle.csp_prefix.proofs.MachineLists.{all-said-more, said-last}
use Rattle.csp_prefix.proofs.MachineOpens.{IsEarly, early-is, opens-not, opens-rcvd, opens-sent, ways-not}
use Rattle.csp_prefix.proofs.MachineWindows.{IsSameSend}
use Rattle.csp_prefix.proofs.MachineSteps.{Becomes, Delivers, Goes, Hears, IsSameOwn, Ways, answers, delivers, enters, enters_keeping, delivers-both, delivers-open, goes-kept-again, goes-rested, goes-sent, goes-to, keeps, moves, on, over, off, resets, ways-closing, ways-ticked}
use Rattle.csp_prefix.proofs.MachineHearing.{hears-handed}

module _ (o : OwnFlows) (m : Numbering) (seat : Seat) where
  numbered-on : (n : Now) (b : PlainRdp) → IsSameOwn n.machine b → IsNumbered o m seat n → IsNumbered o m seat (with_machine b n)
  numbered-on n b same i = record {
    node = same.node ∙ i.node;
    start = rw (same.send.start, same.nth) i.start;
    made = rw same.nth i.made;
    home = rw same.nth i.home;
  }

  opened-on : (s : State) (w : PlainRecv) (n : Now) (b : PlainRdp) → Goes s w n.machine b → WasOpened m seat n → WasOpened m seat (with_machine b n)
  opened-on s w n b g i = record {
    opened = rw (g.own.nth, g.peer) i.opened;
    numbered = rw g.own.nth i.numbered;
  }

  sending-on : (n : Now) (b : PlainRdp) → IsSameSend n.machine.send b.send → IsSending n → IsSending (with_machine b n)
  sending-on n b same i = record {
    admitted = i.admitted;
    sent = i.sent;
    next = same.next ∙ i.next;
    said = same.packets (λ index payload. IsSaid n.book.sent index payload) i.said;
  }

  nothing-on : (n : Now) (b : PlainRdp) → IsSameSend n.machine.send b.send → HasSentNothing n → HasSentNothing (with_machine b n)
  nothing-on n b same i = record { next = same.next ∙ i.next; packets = same.none i.packets }

  untold-on : (n : Now) (b : PlainRdp) → IsUntold n → IsUntold (with_machine b n)
  untold-on n b i = record { book = i.book; waits = i.waits }

  over-on : (s : State) (w : PlainRecv) (n : Now) (b : PlainRdp) → Goes s w n.machine b → IsOver m seat n → IsOver m seat (with_machine b n)
  over-on s w n b g i = (λ e. opened-on s w n b g (i.0 (sym g.was_open ∙ e)), λ e. untold-on n b (i.1 (sym g.was_open ∙ e)))

  -- whatever its state, it is such as one that is over
  pub sends-over : (s : State) (n : Now) → SendsIn s o m seat n → IsOver m seat n
  sends-over SynSent n i = (λ e. absurd cc, λ e. i.1)
  sends-over SynRcvd n i = (λ e. absurd cc, λ e. i.1)
  sends-over Open n i = (λ e. i.1, λ e. absurd cc)
  sends-over CloseWait n i = i
  sends-over Closed n i = i

  sends-on : (s z : State) (w : PlainRecv) (n : Now) (b : PlainRdp) → Goes z w n.machine b → SendsIn s o m seat n → SendsIn s o m seat (with_machine b n)
  sends-on SynSent z w n b g i = (numbered-on n b g.own i.0, untold-on n b i.1, nothing-on n b g.own.send i.2, g.was_open ∙ i.3)
  sends-on SynRcvd z w n b g i = (numbered-on n b g.own i.0, untold-on n b i.1, nothing-on n b g.own.send i.2, g.was_open ∙ i.3)
  sends-on Open z w n b g i = (numbered-on n b g.own i.0, opened-on z w n b g i.1, sending-on n b g.own.send i.2, g.was_open ∙ i.3)
  sends-on CloseWait z w n b g i = over-on z w n b g i
  sends-on Closed z w n b g i = over-on z w n b g i

  -- a step that leaves the state, or comes to an end
  pub sender-on : (w : PlainRecv) (n : Now) (b : PlainRdp) → Goes n.machine.state w n.machine b → IsSender o m seat n → IsSender o m seat (with_machine b n)
  sender-on w n b g i = subst (λ s. SendsIn s o m seat (with_machine b n)) (sym g.state_is) (sends-on n.machine.state n.machine.state w n b g i)

  pub sender-closed : (w : PlainRecv) (n : Now) (b : PlainRdp) → Goes Closed w n.machine b → IsSender o m seat n → IsSender o m seat (with_machine b n)
  sender-closed w n b g i = subst (λ s. SendsIn s o m seat (with_machine b n)) (sym g.state_is) (over-on Closed w n b g (sends-over n.machine.state n i))

  pub sender-waits : (w : PlainRecv) (n : Now) (b : PlainRdp) → Goes CloseWait w n.machine b → IsSender o m seat n → IsSender o m seat (with_machine b n)
  sender-waits w n b g i = subst (λ s. SendsIn s o m seat (with_machine b n)) (sym g.state_is) (over-on CloseWait w n b g (sends-over n.machine.state n i))

  pub sender-ways : (n : Now) (b : PlainRdp) → Ways n.machine b → IsSender o m seat n → IsSender o m seat (with_machine b n)
  sender-ways n b (on g) i = sender-on n.machine.recv n b g i
  sender-ways n b (over g) i = sender-closed n.machine.recv n b g i
  sender-ways n b (off g) i = sender-waits n.machine.recv n b g i

  -- ---- it becomes open

  becomes : (peer : Option (ℕ × ℕ)) (w : PlainRecv) (n : Now) (b : PlainRdp) → Becomes peer w n.machine b → SendsIn SynSent o m seat n → SendsIn Open o m seat (after_opening (with_machine b n))
  becomes peer w n b g i =
      let numbered = numbered-on n b g.own i.0 in
      let packets = g.own.send.none i.2.packets in (
        record { node = numbered.node; start = numbered.start; made = numbered.made; home = numbered.home },
        record { opened = refl; numbered = record { made = numbered.made; home = numbered.home } },
        record {
          admitted = [];
          sent = ap (λ k. k.sent) i.1.book ∙ ap (λ w. option_to_list w) (sym i.1.waits);
          next = g.own.send.next ∙ i.2.next;
          said = All-same (λ p. IsSaid n.book.sent p.index p.buffer.picture.payload) b.send.packets [] packets (All-nil (λ p. IsSaid n.book.sent p.index p.buffer.picture.payload));
        },
        g.was_open,
      )

  pub sender-becomes : (peer : Option (ℕ × ℕ)) (w : PlainRecv) (n : Now) (b : PlainRdp) → Becomes peer w n.machine b → SendsIn SynSent o m seat n → IsSender o m seat (after_opening (with_machine b n))
  sender-becomes peer w n b g i = subst (λ s. SendsIn s o m seat (after_opening (with_machine b n))) (sym g.state_is) (becomes peer w n b g i)

  -- ---- a payload is sent on it

  module _ (n : Now) (is_open : n.machine.state ≡ Open) (i : IsSender o m seat n) where
    opened : SendsIn Open o m seat n
    opened = subst (λ s. SendsIn s o m seat n) is_open i

    sent-all : n.waits ≡ None → n.book.sent ≡ opened.2.admitted
    sent-all e = opened.2.sent ∙ ap (λ w. opened.2.admitted ++ option_to_list w) e ∙ append-nil opened.2.admitted

    next-all : (payload : List ℕ) → n.machine.send.nxt + 1 ≡ length (opened.2.admitted ++ payload ∷ []) + 1
    next-all payload = let e = opened.2.next in let l = length-append opened.2.admitted (payload ∷ []) in omega (arith, e, l)

    pub sender-admits : (b : PlainBuffer) (time : ℕ) → n.waits ≡ None → IsSender o m seat (after_sending b.picture.payload (with_machine (admitting b time n.machine) n))
    sender-admits b time e = subst (λ s. SendsIn s o m seat (after_sending b.picture.payload (with_machine (admitting b time n.machine) n))) (sym is_open) (
      record { node = opened.0.node; start = opened.0.start; made = opened.0.made; home = opened.0.home },
      record { opened = opened.1.opened; numbered = opened.1.numbered },
      record {
        admitted = opened.2.admitted ++ b.picture.payload ∷ [];
        sent = ap (λ l. l ++ b.picture.payload ∷ []) (sent-all e) ∙ sym (append-nil (opened.2.admitted ++ b.picture.payload ∷ []))
            ∙ ap (λ w. (opened.2.admitted ++ b.picture.payload ∷ []) ++ option_to_list w) (sym e);
        next = next-all b.picture.payload;
        said = All-push (λ p. IsSaid (n.book.sent ++ b.picture.payload ∷ []) p.index p.buffer.picture.payload) n.machine.send.packets (fresh n.machine.send.nxt b)
            (all-said-more n.book.sent (b.picture.payload ∷ []) n.machine.send.packets opened.2.said)
            (said-last n.book.sent b.picture.payload n.machine.send.nxt (opened.2.next ∙ ap (λ l. length l + 1) (sym (sent-all e))));
      },
      opened.3,
    )

    pub sender-delays : (payload : List ℕ) → n.waits ≡ None → IsSender o m seat (after_sending payload (waiting_for (Some payload) n))
    sender-delays payload e = subst (λ s. SendsIn s o m seat (after_sending payload (waiting_for (Some payload) n))) (sym is_open) (
      record { node = opened.0.node; start = opened.0.start; made = opened.0.made; home = opened.0.home },
      record { opened = opened.1.opened; numbered = opened.1.numbered },
      record {
        admitted = opened.2.admitted;
        sent = ap (λ l. l ++ payload ∷ []) (sent-all e);
        next = opened.2.next;
        said = all-said-more n.book.sent (payload ∷ []) n.machine.send.packets opened.2.said;
      },
      opened.3,
    )

    sent-last : (payload : List ℕ) → n.waits ≡ Some payload → n.book.sent ≡ opened.2.admitted ++ payload ∷ []
    sent-last payload e = opened.2.sent ∙ ap (λ w. opened.2.admitted ++ option_to_list w) e

    pub sender-settles : (b : PlainBuffer) (time : ℕ) → n.waits ≡ Some b.picture.payload → IsSender o m seat (waiting_for None (with_machine (admitting b time n.machine) n))
    sender-settles b time e = subst (λ s. SendsIn s o m seat (waiting_for None (with_machine (admitting b time n.machine) n))) (sym is_open) (
      record { node = opened.0.node; start = opened.0.start; made = opened.0.made; home = opened.0.home },
      record { opened = opened.1.opened; numbered = opened.1.numbered },
      record {
        admitted = opened.2.admitted ++ b.picture.payload ∷ [];
        sent = sent-last b.picture.payload e ∙ sym (append-nil (opened.2.admitted ++ b.picture.payload ∷ []));
        next = next-all b.picture.payload;
        said = All-push (λ p. IsSaid n.book.sent p.index p.buffer.picture.payload) n.machine.send.packets (fresh n.machine.send.nxt b) opened.2.said
            (subst (λ l. IsSaid l n.machine.send.nxt b.picture.payload) (sym (sent-last b.picture.payload e)) (said-last opened.2.admitted b.picture.payload n.machine.send.nxt opened.2.next));
      },
      opened.3,
    )

    -- ---- a packet is delivered on it

    told-open : (w : PlainRecv) (r : PlainRdp) (payload : List ℕ) → Goes Open w n.machine r → SendsIn Open o m seat (after_delivering payload (with_machine r n))
    told-open w r payload g =
        let on = sends-on Open Open w n r g opened in (
          record { node = on.0.node; start = on.0.start; made = on.0.made; home = on.0.home },
          record { opened = on.1.opened; numbered = on.1.numbered },
          record { admitted = on.2.admitted; sent = on.2.sent; next = on.2.next; said = on.2.said },
          on.3,
        )

    told-closed : (w : PlainRecv) (r : PlainRdp) (payload : List ℕ) → Goes Closed w n.machine r → SendsIn Closed o m seat (after_delivering payload (with_machine r n))
    told-closed w r payload g =
        let on = opened-on Closed w n r g opened.1 in
        let was : r.was_open ≡ true = g.was_open ∙ opened.3 in
        (λ e. record { opened = on.opened; numbered = on.numbered }, λ e. absurd cc)

    pub sender-delivers : (w : PlainRecv) (r : PlainRdp) (payload : List ℕ) → Delivers w n.machine r → IsSender o m seat (after_delivering payload (with_machine r n))
    sender-delivers w r payload (delivers g) = subst (λ s. SendsIn s o m seat (after_delivering payload (with_machine r n))) (sym g.state_is) (told-open w r payload g)
    sender-delivers w r payload (resets g) = subst (λ s. SendsIn s o m seat (after_delivering payload (with_machine r n))) (sym g.state_is) (told-closed w r payload g)

  -- ---- what waits is dropped

  sends-dropped : (s : State) (n : Now) → s ≢ Open → SendsIn s o m seat n → SendsIn s o m seat (waiting_for None n)
  sends-dropped SynSent n shut i = (record { node = i.0.node; start = i.0.start; made = i.0.made; home = i.0.home }, record { book = i.1.book; waits = refl }, record { next = i.2.next; packets = i.2.packets }, i.3)
  sends-dropped SynRcvd n shut i = (record { node = i.0.node; start = i.0.start; made = i.0.made; home = i.0.home }, record { book = i.1.book; waits = refl }, record { next = i.2.next; packets = i.2.packets }, i.3)
  sends-dropped Open n shut i = absurd (shut refl)
  sends-dropped CloseWait n shut i = (λ e. let w = i.0 e in record { opened = w.opened; numbered = w.numbered }, λ e. record { book = (i.1 e).book; waits = refl })
  sends-dropped Closed n shut i = (λ e. let w = i.0 e in record { opened = w.opened; numbered = w.numbered }, λ e. record { book = (i.1 e).book; waits = refl })

  pub sender-drops : (n : Now) → n.machine.state ≢ Open → IsSender o m seat n → IsSender o m seat (waiting_for None n)
  sender-drops n shut i = sends-dropped n.machine.state n shut i

  -- ---- a packet is handed to it

  hears-on : (h : RdpHead) (tag : Option Tag) (p : PlainBuffer) (n : Now) (b : PlainRdp) → Hears h tag p n.machine b → (Opens n.machine.state b.state → ⊥) → IsSender o m seat n → IsSender o m seat (with_machine b n)
  hears-on h tag p n b (moves w) shut i = sender-ways n b w i
  hears-on h tag p n b (keeps t e c g) shut i = sender-on _ n b (goes-to Open n.machine.state _ n.machine b (sym e) g) i
  hears-on h tag p n b (answers e f g) shut i = absurd (shut (opens-sent n.machine.state b.state e g.state_is))
  hears-on h tag p n b (enters e g) shut i = absurd (shut (opens-rcvd n.machine.state b.state e g.state_is))
  hears-on h tag p n b (enters_keeping t e c g) shut i = absurd (shut (opens-rcvd n.machine.state b.state e g.state_is))

  hears-opening : (h : RdpHead) (tag : Option Tag) (p : PlainBuffer) (n : Now) (b : PlainRdp) → Hears h tag p n.machine b → Opens n.machine.state b.state → IsSender o m seat n → IsSender o m seat (after_opening (with_machine b n))
  hears-opening h tag p n b (moves w) opening i = absurd (ways-not n.machine b w opening)
  hears-opening h tag p n b (keeps t e c g) opening i = absurd (opens-not n.machine.state b.state (g.state_is ∙ sym e) opening)
  hears-opening h tag p n b (answers e f g) opening i = sender-becomes _ _ n b g (subst (λ s. SendsIn s o m seat n) e i)
  hears-opening h tag p n b (enters e g) opening i = sender-becomes _ _ n b g (subst (λ s. SendsIn s o m seat n) e i)
  hears-opening h tag p n b (enters_keeping t e c g) opening i = sender-becomes _ _ n b g (subst (λ s. SendsIn s o m seat n) e i)

-- ---- other connections are made

opening-grows : (m later : Numbering) (seat : Seat) (ordinal nth : ℕ) → GoesOn m later → IsOpeningOf m seat ordinal nth → IsOpeningOf later seat ordinal nth
opening-grows m later seat ordinal nth g i = record { made = let more = g.more in let low = i.made in omega (arith, more, low); home = g.same nth i.made ∙ i.home }

numbered-grows : (o : OwnFlows) (m later : Numbering) (seat : Seat) (n : Now) → GoesOn m later → IsNumbered o m seat n → IsNumbered o later seat n
numbered-grows o m later seat n g i = record { node = i.node; start = i.start; made = let more = g.more in let low = i.made in omega (arith, more, low); home = g.same n.machine.nth i.made ∙ i.home }

opened-grows : (m later : Numbering) (seat : Seat) (n : Now) → GoesOn m later → WasOpened m seat n → WasOpened later seat n
opened-grows m later seat n g i = record { opened = i.opened; numbered = opening-grows m later seat n.ordinal n.machine.nth g i.numbered }

sends-grows : (s : State) (o : OwnFlows) (m later : Numbering) (seat : Seat) (n : Now) → GoesOn m later → SendsIn s o m seat n → SendsIn s o later seat n
sends-grows SynSent o m later seat n g i = (numbered-grows o m later seat n g i.0, i.1, i.2, i.3)
sends-grows SynRcvd o m later seat n g i = (numbered-grows o m later seat n g i.0, i.1, i.2, i.3)
sends-grows Open o m later seat n g i = (numbered-grows o m later seat n g i.0, opened-grows m later seat n g i.1, i.2, i.3)
sends-grows CloseWait o m later seat n g i = (λ e. opened-grows m later seat n g (i.0 e), i.1)
sends-grows Closed o m later seat n g i = (λ e. opened-grows m later seat n g (i.0 e), i.1)

-- ---- nothing is told of one that never was open

sends-early : (s : State) (o : OwnFlows) (m : Numbering) (seat : Seat) (n : Now) → IsEarly s → SendsIn s o m seat n → IsUntold n
sends-early SynSent o m seat n e i = i.1
sends-early SynRcvd o m seat n e i = i.1
sends-early Open o m seat n e i = absurd e
sends-early CloseWait o m seat n e i = absurd e
sends-early Closed o m seat n e i = absurd e

pub both : (n : Now) → IsUntold n → (n.book ≡ blank) × (n.waits ≡ None)
both n i = (i.book, i.waits)

-- ---- all of it

pub sender-kept : (o : OwnFlows) → IsKept o whatever (IsSender o)
sender-kept o = record {
  grows = λ m later seat n g i. sends-grows n.machine.state o m later seat n g i;
  connects = λ m seat ordinal time c flags home asked. (
    record { node = refl; start = refl; made = omega arith; home = home },
    record { book = refl; waits = refl },
    record { next = refl; packets = refl },
    refl,
  );
  accepts = λ m seat ordinal time c flags h tag options home syn invited. (
    record { node = refl; start = refl; made = omega arith; home = home },
    record { book = refl; waits = refl },
    record { next = refl; packets = refl },
    refl,
  );
  early = λ m seat n i e. both n (sends-early n.machine.state o m seat n (early-is n.machine.state e) i);
  never = λ m seat n i e. both n ((sends-over o m seat n.machine.state n i).1 e);
  rests = λ m seat n i. sender-on o m seat (recv_rested n.machine.state n.machine.recv) n (rested n.machine) (goes-rested n.machine) i;
  ticks = λ m seat n time i. sender-ways o m seat n (ticked time n.machine) (ways-ticked time n.machine) i;
  closes = λ m seat n time i. sender-ways o m seat n (closing time n.machine) (ways-closing time n.machine) i;
  makes = λ m seat n time j job i. sender-on o m seat n.machine.recv n (sent j time n.machine) (goes-sent j time n.machine) i;
  hears = λ m seat n h tag b time fed shut i. hears-on o m seat h tag b n (after_packet h tag b time n.machine) (hears-handed h tag b time n.machine) shut i;
  opens = λ m seat n h tag b time fed opening i. hears-opening o m seat h tag b n (after_packet h tag b time n.machine) (hears-handed h tag b time n.machine) opening i;
  admits = λ m seat n b time is_open room waits i. sender-admits o m seat n is_open i b time waits;
  delays = λ m seat n payload is_open waits i. sender-delays o m seat n is_open i payload waits;
  settles = λ m seat n b time is_open room waits i. sender-settles o m seat n is_open i b time waits;
  drops = λ m seat n shut i. sender-drops o m seat n shut i;
  delivers = λ m seat n b time e i.
      let is_open = delivers-open n.machine.state n.machine b e in
      sender-delivers o m seat n is_open i _ _ b.picture.payload (delivers-both time n.machine is_open);
  keeps = λ m seat n b c e same i.
      let is_open = delivers-open n.machine.state n.machine b e in
      sender-on o m seat _ n (keeping_again c (without_delivery n.machine)) (goes-to Open n.machine.state _ n.machine _ (sym is_open) (goes-kept-again c n.machine is_open)) i;
}
