-- What bounds a reliable connection's own indices is kept by each step, and its packets show no others.
use Rattle.std.proofs.Common.{◌≡◌, ℕ, ◌+◌, ◌<◌, ◌≤◌, Bool, true, false, cond, List, [], ◌∷◌, ◌++◌, length, Option, Some, None, refl, ap, ◌∙◌, arith}
use Rattle.std.specs.Prelude.{◌==◌, if◌then◌else◌, nat_le, nat_lt, unwrap_or}
use Rattle.std.specs.List.{All, find}
use Rattle.std.specs.Option.{option_map, option_to_list}
use Rattle.std.proofs.lemmas.Bool.{and_parts, ltb-true}
use Rattle.std.proofs.lemmas.List.{length-append}
use Rattle.std.proofs.lemmas.List.Elements.{All-head, All-nil, All-push, All-tail, All-weaker}
use Rattle.csp_base.specs.declared.seat.Seat.{Seat}
use Rattle.csp_base.specs.declared.traces.Tag.{Tag}
use Rattle.csp_buffer.specs.PlainBuffer.{PlainBuffer}
use Rattle.csp_ports.specs.declared.flows.OwnFlows.{OwnFlows}
use Rattle.csp_rdp_header.specs.declared.head.RdpHead.{RdpHead}
use Rattle.csp_rdp_window.specs.Receiving.{PlainRecv}
use Rattle.csp_rdp_window.specs.Sending.{PlainSend, acked_at, fresh, is_due, is_inside, with_mark}
use Rattle.csp_rdp_window.specs.Shown.{shown}
use Rattle.csp_rdp_window.specs.Times.{has_passed}
use Rattle.csp_rdp_window.specs.declared.pending.Mark.TheVariants.{Acknowledged}
use Rattle.csp_rdp_window.specs.declared.pending.Pending.{Pending}
use Rattle.csp_rdp.specs.Holding.{rested}
use Rattle.csp_rdp.specs.Jobs.{admitting, closed_in, closing, delivering, job_of, keeping_again, reset_after, says, sent, syn_in, taken_in, ticked, timed_out, without_delivery}
use Rattle.csp_rdp.specs.Machine.{PlainRdp, broken, left, owes_rst}
use Rattle.csp_rdp.specs.Table.{acknowledged, after, entered_from, after_packet, listing, row_of}
use Rattle.csp_rdp.specs.declared.answers.State.{State}
use Rattle.csp_rdp.specs.declared.answers.State.TheVariants.{Closed, SynSent, SynRcvd, Open, CloseWait}
use Rattle.csp_rdp.specs.declared.jobs.Job.{Job}
use Rattle.csp_rdp.specs.declared.jobs.Job.TheVariants as job
use Rattle.csp_rdp.specs.declared.rows.StateRow.{StateRow}
use Rattle.csp_rdp.specs.declared.rows.StateRow.TheVariants as row
use Rattle.csp_peers.specs.Nearness.{IsBounded, IsMaker, SaysNear, addressable}
use Rattle.csp_prefix.specs.Slots.{IsKept, Now, Numbering, after_delivering, after_opening, after_sending, waiting_for, with_machine}
use Rattle.csp_prefix.proofs.Public.{hears-handed, sender-kept, Delivers, Hears, IsSameOwn, Ways, answers, delivers, enters, enters_keeping, delivers-both, delivers-open, goes-kept-again, goes-rested, goes-sent, keeps, moves, on, over, off, resets, ways-closing, ways-ticked}

-- ---- una is at most the next index

abbrev IsOrdered : PlainSend → Type 0
IsOrdered w = w.una ≤ w.nxt

-- an acknowledgement moves it to one past an index that was admitted
ordered-acked : (o : Option ℕ) (w : PlainSend) → IsOrdered w → IsOrdered (acked_at o w)
ordered-acked None w i = i
ordered-acked (Some t) w i = go (is_inside w t) refl
  where
    go : (b : Bool) → is_inside w t ≡ b → IsOrdered (if b then record (with_mark (Acknowledged t) w) { una = t + 1 } else w)
    go true e = let below = ltb-true t w.nxt (and_parts (nat_le w.una (t + 1)) (nat_lt t w.nxt) e).1 in omega (arith, below)
    go false e = i

ordered-entered : (s : State) (time : ℕ) (r : PlainRdp) → IsOrdered r.send → IsOrdered (entered_from s time r).send
ordered-entered SynSent time r i = i
ordered-entered SynRcvd time r i = i
ordered-entered Open time r i = i
ordered-entered CloseWait time r i = i
ordered-entered Closed time r i = i

-- in each state an acknowledgement enters first
ordered-acknowledged : (number time : ℕ) (r : PlainRdp) → IsOrdered r.send → IsOrdered (acknowledged number time (entered_from r.state time r)).send
ordered-acknowledged number time r i =
    let e = entered_from r.state time r in
    ordered-acked (shown number e.send.start e.send.una) e.send (ordered-entered r.state time r i)

ordered-listing : (b : Bool) (bytes : List ℕ) (time : ℕ) (r : PlainRdp) → IsOrdered r.send → IsOrdered (listing b bytes time r).send
ordered-listing true bytes time r i = i
ordered-listing false bytes time r i = i

ordered-after : (w : StateRow) (h : RdpHead) (tag : Option Tag) (p : PlainBuffer) (time : ℕ) (r : PlainRdp) → IsOrdered r.send → IsOrdered (after w h tag p time r).send
ordered-after row.Stray h tag p time r i = i
ordered-after row.Refused h tag p time r i = i
ordered-after row.Answered h tag p time r i = i
ordered-after row.Repeated h tag p time r i = i
ordered-after row.Late h tag p time r i = i
ordered-after row.Reset h tag p time r i = i
ordered-after (row.ResetAt t) h tag p time r i = i
ordered-after row.Broken h tag p time r i = i
ordered-after row.Ended h tag p time r i = i
ordered-after row.Acknowledges h tag p time r i = ordered-acknowledged h.ack.0 time r i
ordered-after row.Lists h tag p time r i = ordered-listing _ p.picture.payload time (acknowledged h.ack.0 time (entered_from r.state time r)) (ordered-acknowledged h.ack.0 time r i)
ordered-after row.Outside h tag p time r i = ordered-entered r.state time r i
ordered-after row.Duplicate h tag p time r i = ordered-acknowledged h.ack.0 time r i
ordered-after (row.Data t) h tag p time r i = ordered-acknowledged h.ack.0 time r i

ordered-timed : (s : State) (time : ℕ) (r : PlainRdp) → IsOrdered r.send → IsOrdered (timed_out s time r).send
ordered-timed SynSent time r i = i
ordered-timed SynRcvd time r i = i
ordered-timed CloseWait time r i = i
ordered-timed Closed time r i = i
ordered-timed Open time r i = go (r.send.una == r.send.nxt)
  where
    go : (b : Bool) → IsOrdered (if b then r else broken time r).send
    go true = i
    go false = i

ordered-ticked : (time : ℕ) (r : PlainRdp) → IsOrdered r.send → IsOrdered (ticked time r).send
ordered-ticked time r i = go (has_passed (Some r.since) r.options.conn_timeout time)
  where
    go : (b : Bool) → IsOrdered (if b then timed_out r.state time r else r).send
    go true = ordered-timed r.state time r i
    go false = i

ordered-closed : (s : State) (time : ℕ) (r : PlainRdp) → IsOrdered r.send → IsOrdered (closed_in s time r).send
ordered-closed SynSent time r i = i
ordered-closed SynRcvd time r i = i
ordered-closed Open time r i = i
ordered-closed CloseWait time r i = i
ordered-closed Closed time r i = i

ordered-sent : (j : Job) (time : ℕ) (r : PlainRdp) → IsOrdered r.send → IsOrdered (sent j time r).send
ordered-sent job.Rst time r i = i
ordered-sent job.Syn time r i = i
ordered-sent job.Deliver time r i = i
ordered-sent job.Eak time r i = i
ordered-sent job.Data time r i = i
ordered-sent job.Ack time r i = i

ordered-taken : (s : State) (r : PlainRdp) → IsOrdered r.send → IsOrdered (taken_in s r).send
ordered-taken SynSent r i = i
ordered-taken SynRcvd r i = i
ordered-taken Open r i = i
ordered-taken CloseWait r i = i
ordered-taken Closed r i = i

ordered-reset : (o : Option ℕ) (time : ℕ) (r : PlainRdp) → IsOrdered r.send → IsOrdered (reset_after o time r).send
ordered-reset None time r i = i
ordered-reset (Some t) time r i = go (nat_le t (r.recv.cur + 1))
  where
    go : (b : Bool) → IsOrdered (if b then owes_rst (left Closed time r) else r).send
    go true = i
    go false = i

ordered-delivering : (time : ℕ) (r : PlainRdp) → IsOrdered r.send → IsOrdered (delivering time r).send
ordered-delivering time r i = ordered-reset r.reset_at time _ i

-- ---- a step keeps the bounds

pub own-ways : (a b : PlainRdp) → Ways a b → IsSameOwn a b
own-ways a b (on g) = g.own
own-ways a b (over g) = g.own
own-ways a b (off g) = g.own

pub own-heard : (h : RdpHead) (tag : Option Tag) (p : PlainBuffer) (a b : PlainRdp) → Hears h tag p a b → IsSameOwn a b
own-heard h tag p a b (moves w) = own-ways a b w
own-heard h tag p a b (keeps t e c g) = g.own
own-heard h tag p a b (answers e f g) = g.own
own-heard h tag p a b (enters e g) = g.own
own-heard h tag p a b (enters_keeping t e c g) = g.own

pub own-delivered : (w : PlainRecv) (a b : PlainRdp) → Delivers w a b → IsSameOwn a b
own-delivered w a b (delivers g) = g.own
own-delivered w a b (resets g) = g.own

module _ (top : ℕ) (o : OwnFlows) where
  -- that leaves the connection's own side, but for una
  bounded-on : (n : Now) (b : PlainRdp) → IsSameOwn n.machine b → IsOrdered b.send → IsBounded top o n → IsBounded top o (with_machine b n)
  bounded-on n b same ordered i = record {
    node = same.node ∙ i.node;
    order = ordered;
    below = rw same.send.next (same.send.packets (λ index payload. index < n.machine.send.nxt) i.below);
    admitted = rw same.send.next i.admitted;
    addressable = i.addressable;
  }

  bounded-handed : (n : Now) (h : RdpHead) (tag : Option Tag) (b : PlainBuffer) (time : ℕ) → IsBounded top o n → IsBounded top o (with_machine (after_packet h tag b time n.machine) n)
  bounded-handed n h tag b time i = bounded-on n (after_packet h tag b time n.machine) (own-heard h tag b n.machine _ (hears-handed h tag b time n.machine))
      (ordered-after (row_of n.machine h b.picture.payload) h tag b time n.machine i.order) i

  -- that is told, and else leaves all
  bounded-opened : (n : Now) → IsBounded top o n → IsBounded top o (after_opening n)
  bounded-opened n i = record { node = i.node; order = i.order; below = i.below; admitted = i.admitted; addressable = i.addressable }

  bounded-delivered : (payload : List ℕ) (n : Now) → IsBounded top o n → IsBounded top o (after_delivering payload n)
  bounded-delivered payload n i = record { node = i.node; order = i.order; below = i.below; admitted = i.admitted; addressable = i.addressable }

  -- a payload is sent
  below-more : (n : Now) (b : PlainBuffer) → IsBounded top o n → All (λ p. p.index < n.machine.send.nxt + 1) (n.machine.send.packets ++ fresh n.machine.send.nxt b ∷ [])
  below-more n b i = All-push (λ p. p.index < n.machine.send.nxt + 1) n.machine.send.packets (fresh n.machine.send.nxt b)
      (All-weaker (λ p. p.index < n.machine.send.nxt) (λ p. p.index < n.machine.send.nxt + 1) (λ p h. omega (arith, h)) n.machine.send.packets i.below) (omega arith)

  order-more : (n : Now) → IsBounded top o n → n.machine.send.una ≤ n.machine.send.nxt + 1
  order-more n i = let h = i.order in omega (arith, h)

  bounded-admits : (n : Now) (b : PlainBuffer) (time : ℕ) → IsBounded top o n → IsBounded top o (after_sending b.picture.payload (with_machine (admitting b time n.machine) n))
  bounded-admits n b time i = record {
    node = i.node;
    order = order-more n i;
    below = below-more n b i;
    admitted = let h = i.admitted in let l = length-append n.book.sent (b.picture.payload ∷ []) in omega (arith, h, l);
    addressable = i.addressable;
  }

  bounded-delays : (n : Now) (payload : List ℕ) → IsBounded top o n → IsBounded top o (after_sending payload (waiting_for (Some payload) n))
  bounded-delays n payload i = record {
    node = i.node;
    order = i.order;
    below = i.below;
    admitted = let h = i.admitted in let l = length-append n.book.sent (payload ∷ []) in omega (arith, h, l);
    addressable = i.addressable;
  }

  bounded-settles : (n : Now) (b : PlainBuffer) (time : ℕ) → n.waits ≡ Some b.picture.payload → IsBounded top o n → IsBounded top o (waiting_for None (with_machine (admitting b time n.machine) n))
  bounded-settles n b time e i = record {
    node = i.node;
    order = order-more n i;
    below = below-more n b i;
    admitted = let h = i.admitted in let one : length (option_to_list n.waits) ≡ 1 = ap (λ w. length (option_to_list w)) e in omega (arith, h, one);
    addressable = i.addressable;
  }

  bounded-drops : (n : Now) → IsBounded top o n → IsBounded top o (waiting_for None n)
  bounded-drops n i = record {
    node = i.node;
    order = i.order;
    below = i.below;
    admitted = let h = i.admitted in omega (arith, h);
    addressable = i.addressable;
  }

-- the next index is at most one past all that was sent
pub next-sent : (top : ℕ) (o : OwnFlows) (n : Now) → IsBounded top o n → n.machine.send.nxt ≤ length n.book.sent + 1
next-sent top o n i = let h = i.admitted in omega (arith, h)

-- ---- all of it

pub maker-kept : (top : ℕ) (o : OwnFlows) → IsKept o (addressable top) (IsMaker top o)
maker-kept top o = record {
  grows = λ m later s n g i. ((sender-kept o).grows m later s n g i.0, i.1);
  connects = λ m s ordinal time c flags home asked. (
    (sender-kept o).connects m s ordinal time c flags home tt,
    record { node = refl; order = omega arith; below = All-nil (λ p. p.index < 1); admitted = omega arith; addressable = asked },
  );
  accepts = λ m s ordinal time c flags h tag options home syn invited. (
    (sender-kept o).accepts m s ordinal time c flags h tag options home syn tt,
    record { node = refl; order = omega arith; below = All-nil (λ p. p.index < 1); admitted = omega arith; addressable = invited },
  );
  early = λ m s n i e. (sender-kept o).early m s n i.0 e;
  never = λ m s n i e. (sender-kept o).never m s n i.0 e;
  rests = λ m s n i. ((sender-kept o).rests m s n i.0, bounded-on top o n (rested n.machine) (goes-rested n.machine).own i.1.order i.1);
  ticks = λ m s n time i. (
    (sender-kept o).ticks m s n time i.0,
    bounded-on top o n (ticked time n.machine) (own-ways n.machine _ (ways-ticked time n.machine)) (ordered-ticked time n.machine i.1.order) i.1,
  );
  closes = λ m s n time i. (
    (sender-kept o).closes m s n time i.0,
    bounded-on top o n (closing time n.machine) (own-ways n.machine _ (ways-closing time n.machine)) (ordered-closed n.machine.state time n.machine i.1.order) i.1,
  );
  makes = λ m s n time j job i. (
    (sender-kept o).makes m s n time j job i.0,
    bounded-on top o n (sent j time n.machine) (goes-sent j time n.machine).own (ordered-sent j time n.machine i.1.order) i.1,
  );
  hears = λ m s n h tag b time fed shut i. ((sender-kept o).hears m s n h tag b time tt shut i.0, bounded-handed top o n h tag b time i.1);
  opens = λ m s n h tag b time fed opening i. (
    (sender-kept o).opens m s n h tag b time tt opening i.0,
    bounded-opened top o (with_machine (after_packet h tag b time n.machine) n) (bounded-handed top o n h tag b time i.1),
  );
  admits = λ m s n b time is_open room waits i. ((sender-kept o).admits m s n b time is_open room waits i.0, bounded-admits top o n b time i.1);
  delays = λ m s n payload is_open waits i. ((sender-kept o).delays m s n payload is_open waits i.0, bounded-delays top o n payload i.1);
  settles = λ m s n b time is_open room waits i. ((sender-kept o).settles m s n b time is_open room waits i.0, bounded-settles top o n b time waits i.1);
  drops = λ m s n shut i. ((sender-kept o).drops m s n shut i.0, bounded-drops top o n i.1);
  delivers = λ m s n b time e i.
      let r = delivering time (without_delivery n.machine) in (
        (sender-kept o).delivers m s n b time e i.0,
        bounded-delivered top o b.picture.payload (with_machine r n)
            (bounded-on top o n r (own-delivered _ n.machine r (delivers-both time n.machine (delivers-open n.machine.state n.machine b e)))
            (ordered-delivering time (without_delivery n.machine) (ordered-taken n.machine.state n.machine i.1.order)) i.1),
      );
  keeps = λ m s n b c e same i. (
    (sender-kept o).keeps m s n b c e same i.0,
    bounded-on top o n (keeping_again c (without_delivery n.machine)) (goes-kept-again c n.machine (delivers-open n.machine.state n.machine b e)).own (ordered-taken n.machine.state n.machine i.1.order) i.1,
  );
}

-- ---- what its packets say

-- the index of a packet that is found is below what all are
found-below : (test : Pending → Bool) (bound : ℕ) (ps : List Pending) → All (λ p. p.index < bound) ps → unwrap_or (option_map (λ p. p.index) (find test ps)) 0 ≤ bound
found-below test bound [] all = omega arith
found-below test bound (p ∷ ps) all = go (test p) (found-below test bound ps (All-tail (λ p. p.index < bound) p ps all))
  where
    go : (b : Bool) → unwrap_or (option_map (λ p. p.index) (find test ps)) 0 ≤ bound → unwrap_or (option_map (λ p. p.index) (cond b (Some p) (find test ps))) 0 ≤ bound
    go true rest = let h = All-head (λ p. p.index < bound) p ps all in omega (arith, h)
    go false rest = rest

syn-index : (s : State) (r : PlainRdp) → (syn_in s r).index ≤ r.send.nxt
syn-index SynSent r = omega arith
syn-index SynRcvd r = omega arith
syn-index Open r = omega arith
syn-index CloseWait r = omega arith
syn-index Closed r = omega arith

syn-ack : (s : State) (r : PlainRdp) → (syn_in s r).ack ≤ r.recv.cur
syn-ack SynSent r = omega arith
syn-ack SynRcvd r = omega arith
syn-ack Open r = omega arith
syn-ack CloseWait r = omega arith
syn-ack Closed r = omega arith

una-below : (was_open : Bool) (una nxt : ℕ) → una ≤ nxt → (if was_open then una else 0) ≤ nxt
una-below true una nxt i = i
una-below false una nxt i = omega arith

module _ (top : ℕ) (o : OwnFlows) (n : Now) (time : ℕ) (i : IsBounded top o n) where
  says-index : (j : Job) → (says j time n.machine).index ≤ n.machine.send.nxt
  says-index job.Rst = omega arith
  says-index job.Syn = syn-index n.machine.state n.machine
  says-index job.Deliver = omega arith
  says-index job.Eak = omega arith
  says-index job.Data = found-below (is_due time n.machine.options.packet_timeout) n.machine.send.nxt n.machine.send.packets i.below
  says-index job.Ack = omega arith

  says-ack : (j : Job) → (says j time n.machine).ack ≤ n.machine.recv.cur
  says-ack job.Rst = omega arith
  says-ack job.Syn = syn-ack n.machine.state n.machine
  says-ack job.Deliver = omega arith
  says-ack job.Eak = omega arith
  says-ack job.Data = omega arith
  says-ack job.Ack = omega arith

-- in the packet of the job that is owed, as in that of any other
pub maker-says : (top : ℕ) (o : OwnFlows) (m : Numbering) (s : Seat) (n : Now) (time : ℕ) (j : Job) → IsMaker top o m s n → job_of time n.machine ≡ Some j → SaysNear n time j
maker-says top o m s n time j i owed = record {
  index = says-index top o n time i.1 j;
  ack = says-ack top o n time i.1 j;
  una = una-below n.machine.was_open n.machine.send.una n.machine.send.nxt i.1.order;
}
