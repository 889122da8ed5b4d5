-- A reliable connection admits no packet past its window, which is counted from the start of its flow, or from what a packet of its peer acknowledged.
use Rattle.std.proofs.Common.{◌≡◌, ◌⊎◌, inl, inr, ℕ, pos, ◌+◌, ◌-◌, ◌<◌, ◌≤◌, Bool, true, false, not, ◌&&◌, ◌||◌, cond, List, [], ◌∷◌, length, Option, Some, None, refl, ap, ◌∙◌, sym, subst, arith}
use Rattle.std.specs.Prelude.{◌==◌, if◌then◌else◌, nat_le, nat_lt, ⊤}
use Rattle.std.specs.Int.{abs_diff}
use Rattle.std.specs.List.{All, find}
use Rattle.std.specs.Option.{option_map_or}
use Rattle.std.proofs.lemmas.Bool.{and_parts, eqb-true, leb-false, leb-true, lt-leb, ltb-true, not-true}
use Rattle.std.proofs.lemmas.Int.{ints}
use Rattle.std.proofs.lemmas.List.Elements.{All-head, All-nil, All-push, All-tail, All-weaker}
use Rattle.csp_base.specs.declared.seat.Seat.{Seat}
use Rattle.csp_base.specs.Sequence.{near, number_of}
use Rattle.csp_base.specs.declared.traces.Tag.{Tag}
use Rattle.csp_base.proofs.Public.{near_is}
use Rattle.csp_buffer.specs.PlainBuffer.{PlainBuffer}
use Rattle.csp_ports.specs.PlainPorts.{is_open, start_of}
use Rattle.csp_ports.specs.Steps.{has_room}
use Rattle.csp_ports.specs.declared.flows.OwnFlows.{OwnFlows}
use Rattle.csp_record.specs.Stale.{is_far}
use Rattle.csp_rdp_header.specs.Head.{has_flag}
use Rattle.csp_rdp_header.specs.declared.head.RdpHead.{RdpHead}
use Rattle.csp_rdp_header.specs.declared.head.TheConstants.{ACK, EAK, RST, SYN}
use Rattle.csp_rdp_window.specs.Receiving.{PlainRecv, first_missing, index_in, is_awaited, is_kept}
use Rattle.csp_rdp_window.specs.Sending.{PlainSend, acked, acked_at, acknowledges, fresh, is_full, is_inside, with_mark}
use Rattle.csp_rdp_window.specs.Shown.{index_of, shown}
use Rattle.csp_rdp_window.specs.Times.{has_passed}
use Rattle.csp_rdp_window.specs.declared.pending.Mark.TheVariants.{Acknowledged}
use Rattle.csp_rdp_window.specs.declared.pending.Pending.{Pending}
use Rattle.csp_rdp.specs.Holding.{rested}
use Rattle.csp_rdp.specs.Jobs.{admitting, closed_in, closing, delivering, head_for, keeping_again, reset_after, says, sending_index, sent, syn_in, taken_in, ticked, timed_out, without_delivery}
use Rattle.csp_rdp.specs.Machine.{PlainRdp, broken, left, owes_rst, una_of}
use Rattle.csp_rdp.specs.Table.{ack_row, acknowledged, after, close_wait_row, data_row, entered_from, after_packet, is_bad_list, listing, open_row, reset_row, row_in, syn_rcvd_row, syn_sent_row}
use Rattle.csp_rdp.specs.declared.answers.State.{State}
use Rattle.csp_rdp.specs.declared.answers.State.TheVariants.{Closed, SynSent, SynRcvd, Open, CloseWait}
use Rattle.csp_rdp.specs.declared.jobs.Job.{Job}
use Rattle.csp_rdp.specs.declared.jobs.Job.TheVariants as job
use Rattle.csp_rdp.specs.declared.rows.StateRow.TheVariants as row
use Rattle.csp_prefix.specs.Flows.{is_data}
use Rattle.csp_prefix.specs.Machines.{IsSender, SendsIn}
use Rattle.csp_prefix.specs.Slots.{Coming, IsKept, Now, Numbering}
use Rattle.csp_prefix.proofs.Public.{hears-handed, sender-kept, Delivers, Hears, IsSameOwn, Ways, answers, delivers, enters, enters_keeping, delivers-both, delivers-open, goes-kept-again, goes-rested, goes-sent, keeps, moves, on, over, off, resets, ways-closing, ways-ticked}

-- ---- what is known of a connection's window

-- an index is the first of the flow, or one past what a packet of this kind acknowledges, at the most
abbrev pub HasCome : (Tag → Type 0) → ℕ → Type 0
HasCome H una = (una ≤ 1) ⊎ ((t : Tag) × H t × (una ≤ t.ack + 1))

-- each packet in the window is below the next index, which is no further past una than the window; and una of the connection with this number, where
-- it has this peer, is where packets of this kind brought it
pub record IsWindowed (H : Tag → Type 0) (nth : ℕ) (peer : ℕ × ℕ) (r : PlainRdp) : Type 0 where
  pub order : r.send.una ≤ r.send.nxt
  pub below : All (λ p. p.index < r.send.nxt) r.send.packets
  pub room : r.send.nxt ≤ r.send.una + r.send.window
  pub come : r.nth ≡ nth → r.peer ≡ Some peer → HasCome H r.send.una

-- a packet that is handed to the connection with this number while it has this peer is of this kind: it acknowledges an index not far from una, and
-- where it is no reset its number shows that index
pub record IsFedWell (H : Tag → Type 0) (start : ℕ) (r : PlainRdp) (h : RdpHead) : Type 0 where
  pub tag : Tag
  pub is : H tag
  pub near : is_far tag.ack (una_of r) ≡ false
  pub number : has_flag h ACK ≡ true → has_flag h RST ≡ false → h.ack.0 ≡ number_of start (pos tag.ack)

-- such packets come to that connection, and others to others
abbrev pub acknowledging : OwnFlows → (Tag → Type 0) → (nth : ℕ) → (peer : ℕ × ℕ) → Coming
acknowledging o H nth peer = record {
  fed = λ c r h tag bytes. r.nth ≡ nth → r.peer ≡ Some peer → IsFedWell H (start_of o.seed r.nth) r h;
  invites = λ c flags h tag. ⊤;
  asked = λ c flags. ⊤;
}

-- what is known of a reliable connection as one that keeps to its window
abbrev pub IsKeeping : OwnFlows → (Tag → Type 0) → (nth : ℕ) → (peer : ℕ × ℕ) → Numbering → Seat → Now → Type 0
IsKeeping o H nth peer m s n = IsSender o m s n × IsWindowed H nth peer n.machine

-- ---- steps that leave una, the window and the peer

record IsStill (a b : PlainRdp) : Type 0 where
  una : b.send.una ≡ a.send.una
  window : b.send.window ≡ a.send.window
  peer : b.peer ≡ a.peer

still : (r : PlainRdp) → IsStill r r
still r = record { una = refl; window = refl; peer = refl }

still-left : (s : State) (time : ℕ) (r : PlainRdp) → IsStill r (left s time r)
still-left s time r = record { una = refl; window = refl; peer = refl }

still-broken : (time : ℕ) (r : PlainRdp) → IsStill r (broken time r)
still-broken time r = record { una = refl; window = refl; peer = refl }

still-timed : (s : State) (time : ℕ) (r : PlainRdp) → IsStill r (timed_out s time r)
still-timed SynSent time r = still-left Closed time r
still-timed SynRcvd time r = still-left Closed time r
still-timed CloseWait time r = still-left Closed time r
still-timed Closed time r = still r
still-timed Open time r = go (r.send.una == r.send.nxt)
  where
    go : (b : Bool) → IsStill r (if b then r else broken time r)
    go true = still r
    go false = still-broken time r

still-ticked : (time : ℕ) (r : PlainRdp) → IsStill r (ticked time r)
still-ticked time r = go (has_passed (Some r.since) r.options.conn_timeout time)
  where
    go : (b : Bool) → IsStill r (if b then timed_out r.state time r else r)
    go true = still-timed r.state time r
    go false = still r

still-closed : (s : State) (time : ℕ) (r : PlainRdp) → IsStill r (closed_in s time r)
still-closed SynSent time r = still-left Closed time r
still-closed SynRcvd time r = still-broken time r
still-closed Open time r = still-broken time r
still-closed CloseWait time r = still r
still-closed Closed time r = still r

still-sent : (j : Job) (time : ℕ) (r : PlainRdp) → IsStill r (sent j time r)
still-sent job.Rst time r = record { una = refl; window = refl; peer = refl }
still-sent job.Syn time r = record { una = refl; window = refl; peer = refl }
still-sent job.Deliver time r = still r
still-sent job.Eak time r = record { una = refl; window = refl; peer = refl }
still-sent job.Data time r = record { una = refl; window = refl; peer = refl }
still-sent job.Ack time r = record { una = refl; window = refl; peer = refl }

still-taken : (s : State) (r : PlainRdp) → IsStill r (taken_in s r)
still-taken SynSent r = still r
still-taken SynRcvd r = still r
still-taken Open r = record { una = refl; window = refl; peer = refl }
still-taken CloseWait r = still r
still-taken Closed r = still r

still-reset : (o : Option ℕ) (time : ℕ) (r : PlainRdp) → IsStill r (reset_after o time r)
still-reset None time r = still r
still-reset (Some t) time r = go (nat_le t (r.recv.cur + 1))
  where
    go : (b : Bool) → IsStill r (if b then owes_rst (left Closed time r) else r)
    go true = record { una = refl; window = refl; peer = refl }
    go false = still r

still-delivering : (time : ℕ) (r : PlainRdp) → IsStill r (delivering time (without_delivery r))
still-delivering time r =
    let taken = without_delivery r in
    let first = still-taken r.state r in
    let last = still-reset taken.reset_at time _ in
    record { una = last.una ∙ first.una; window = last.window ∙ first.window; peer = last.peer ∙ first.peer }

still-kept-again : (b : PlainBuffer) (r : PlainRdp) → IsStill r (keeping_again b (without_delivery r))
still-kept-again b r = let first = still-taken r.state r in record { una = first.una; window = first.window; peer = first.peer }

-- ---- what a packet that is handed to it moves

-- in these states acknowledgements are heard
abbrev IsHearing : State → Type 0
IsHearing SynSent = ⊥
IsHearing SynRcvd = ⊤
IsHearing Open = ⊤
IsHearing CloseWait = ⊥
IsHearing Closed = ⊥

-- a head acknowledges, and is no reset
record IsAcking (h : RdpHead) : Type 0 where
  acks : has_flag h ACK ≡ true
  resets : has_flag h RST ≡ false

-- una, the window and the peer stay; or a connection that was asked for gets its peer; or an acknowledgement moves una
data Shifts (h : RdpHead) (a b : PlainRdp) : Type 0 where
  stands : IsStill a b → Shifts h a b
  begins : a.state ≡ SynSent → b.send.una ≡ a.send.una → b.send.window ≡ a.send.window → Shifts h a b
  shifts : IsHearing a.state → IsAcking h → b.send.una ≡ (acked h.ack.0 a.send).una → b.send.window ≡ a.send.window → b.peer ≡ a.peer → Shifts h a b

-- the connection in this state
abbrev at : State → PlainRdp → PlainRdp
at s r = record r { state = s }

window-acked : (o : Option ℕ) (w : PlainSend) → (acked_at o w).window ≡ w.window
window-acked None w = refl
window-acked (Some t) w = go (is_inside w t)
  where
    go : (b : Bool) → (if b then record (with_mark (Acknowledged t) w) { una = t + 1 } else w).window ≡ w.window
    go true = refl
    go false = refl

still-entered : (s : State) (time : ℕ) (r : PlainRdp) → (entered_from s time r).send ≡ r.send
still-entered SynSent time r = refl
still-entered SynRcvd time r = refl
still-entered Open time r = refl
still-entered CloseWait time r = refl
still-entered Closed time r = refl

peer-entered : (s : State) (time : ℕ) (r : PlainRdp) → (entered_from s time r).peer ≡ r.peer
peer-entered SynSent time r = refl
peer-entered SynRcvd time r = refl
peer-entered Open time r = refl
peer-entered CloseWait time r = refl
peer-entered Closed time r = refl

still-listing : (b : Bool) (bytes : List ℕ) (time : ℕ) (r : PlainRdp) → IsStill r (listing b bytes time r)
still-listing true bytes time r = record { una = refl; window = refl; peer = refl }
still-listing false bytes time r = still r

module _ (s : State) (r : PlainRdp) (h : RdpHead) (tag : Option Tag) (p : PlainBuffer) (time : ℕ) (hearing : IsHearing s) (acking : IsAcking h) where
  -- whatever follows the acknowledgement
  shifted : (b : PlainRdp) → IsStill (acknowledged h.ack.0 time (entered_from s time (at s r))) b → Shifts h (at s r) b
  shifted b g =
      let send : (entered_from s time (at s r)).send ≡ r.send = still-entered s time (at s r) in
      shifts hearing acking
      (g.una ∙ ap (λ (w : PlainSend). (acked h.ack.0 w).una) send)
      (g.window ∙ ap (λ (w : PlainSend). (acked h.ack.0 w).window) send ∙ window-acked (shown h.ack.0 r.send.start r.send.una) r.send)
      (g.peer ∙ peer-entered s time (at s r))

  outside : Shifts h (at s r) (after row.Outside h tag p time (at s r))
  outside =
      let send : (entered_from s time (at s r)).send ≡ r.send = still-entered s time (at s r) in
      stands (record { una = ap (λ (w : PlainSend). w.una) send; window = ap (λ (w : PlainSend). w.window) send; peer = peer-entered s time (at s r) })

  shifts-data : (o : Option ℕ) → Shifts h (at s r) (after (data_row (at s r) o) h tag p time (at s r))
  shifts-data None = outside
  shifts-data (Some t) = go (is_awaited r.recv t) (is_kept r.recv t)
    where
      go : (a b : Bool) → Shifts h (at s r) (after (if not a then row.Outside else if b then row.Duplicate else row.Data t) h tag p time (at s r))
      go false b = outside
      go true true = shifted _ (still _)
      go true false = shifted _ (record { una = refl; window = refl; peer = refl })

  shifts-row : Shifts h (at s r) (after (ack_row (at s r) h p.picture.payload) h tag p time (at s r))
  shifts-row = go (has_flag h EAK) (length p.picture.payload == 0)
    where
      go : (a b : Bool) → Shifts h (at s r) (after (if a then row.Lists else if b then row.Acknowledges else data_row (at s r) (index_in r.recv h.seq.0)) h tag p time (at s r))
      go true b = shifted _ (still-listing (acknowledges r.send h.ack.0) p.picture.payload time (acknowledged h.ack.0 time (entered_from s time (at s r))))
      go false true = shifted _ (still _)
      go false false = shifts-data (index_in r.recv h.seq.0)

-- a head that neither opens nor lacks an acknowledgement
is-acking : (h : RdpHead) → has_flag h RST ≡ false → (has_flag h SYN || not (has_flag h ACK)) ≡ false → IsAcking h
is-acking h r e = go (has_flag h SYN) (has_flag h ACK) refl e
  where
    go : (syn ack : Bool) → has_flag h ACK ≡ ack → (syn || not ack) ≡ false → IsAcking h
    go true ack a f = absurd cc
    go false true a f = record { acks = a; resets = r }
    go false false a f = absurd cc

module _ (h : RdpHead) (tag : Option Tag) (p : PlainBuffer) (time : ℕ) where
  shifts-reset : (r : PlainRdp) (o : Option ℕ) → Shifts h r (after (reset_row r o) h tag p time r)
  shifts-reset r None = stands (still r)
  shifts-reset r (Some t) = go (t == first_missing r.recv) (t == r.recv.cur + 1)
    where
      go : (a b : Bool) → Shifts h r (after (if not a then row.Stray else if b then row.Reset else row.ResetAt t) h tag p time r)
      go false b = stands (still r)
      go true true = stands (record { una = refl; window = refl; peer = refl })
      go true false = stands (record { una = refl; window = refl; peer = refl })

  shifts-sent : (r : PlainRdp) → Shifts h (at SynSent r) (after (syn_sent_row (at SynSent r) h) h tag p time (at SynSent r))
  shifts-sent r = go (has_flag h RST) (has_flag h SYN) (has_flag h ACK) (h.ack.0 == r.send.start)
    where
      go : (a b c d : Bool) → Shifts h (at SynSent r) (after (if a then row.Refused else if b && c && d then row.Answered else row.Stray) h tag p time (at SynSent r))
      go true b c d = stands (still-left Closed time (at SynSent r))
      go false true true true = begins refl refl refl
      go false true true false = stands (still (at SynSent r))
      go false true false d = stands (still (at SynSent r))
      go false false c d = stands (still (at SynSent r))

  shifts-rcvd : (r : PlainRdp) → Shifts h (at SynRcvd r) (after (syn_rcvd_row (at SynRcvd r) h p.picture.payload) h tag p time (at SynRcvd r))
  shifts-rcvd r =
      go (has_flag h RST) (has_flag h SYN && not (has_flag h ACK) && h.seq.0 == r.recv.start) (has_flag h SYN || not (has_flag h ACK)) (is_bad_list h p.picture.payload) (h.ack.0 == r.send.start) refl refl
    where
      go : (a b c d f : Bool) → has_flag h RST ≡ a → (has_flag h SYN || not (has_flag h ACK)) ≡ c → Shifts h (at SynRcvd r)
          (after (if a then reset_row (at SynRcvd r) (index_in r.recv h.seq.0) else if b then row.Repeated else if c then row.Broken else if d then row.Stray else if f then ack_row (at SynRcvd r) h p.picture.payload else row.Stray) h tag p time (at SynRcvd r))
      go true b c d f e g = shifts-reset (at SynRcvd r) (index_in r.recv h.seq.0)
      go false true c d f e g = stands (record { una = refl; window = refl; peer = refl })
      go false false true d f e g = stands (still-broken time (at SynRcvd r))
      go false false false true f e g = stands (still (at SynRcvd r))
      go false false false false true e g = shifts-row SynRcvd r h tag p time tt (is-acking h e g)
      go false false false false false e g = stands (still (at SynRcvd r))

  shifts-open : (r : PlainRdp) → Shifts h (at Open r) (after (open_row (at Open r) h p.picture.payload) h tag p time (at Open r))
  shifts-open r = go (has_flag h RST) (has_flag h SYN && h.seq.0 == r.recv.start) (has_flag h SYN || not (has_flag h ACK)) (is_bad_list h p.picture.payload) refl refl
    where
      go : (a b c d : Bool) → has_flag h RST ≡ a → (has_flag h SYN || not (has_flag h ACK)) ≡ c → Shifts h (at Open r)
          (after (if a then reset_row (at Open r) (index_in r.recv h.seq.0) else if b then row.Late else if c then row.Broken else if d then row.Stray else ack_row (at Open r) h p.picture.payload) h tag p time (at Open r))
      go true b c d e g = shifts-reset (at Open r) (index_in r.recv h.seq.0)
      go false true c d e g = stands (record { una = refl; window = refl; peer = refl })
      go false false true d e g = stands (still-broken time (at Open r))
      go false false false true e g = stands (still (at Open r))
      go false false false false e g = shifts-row Open r h tag p time tt (is-acking h e g)

  shifts-waiting : (r : PlainRdp) → Shifts h (at CloseWait r) (after (close_wait_row h) h tag p time (at CloseWait r))
  shifts-waiting r = go (has_flag h RST)
    where
      go : (a : Bool) → Shifts h (at CloseWait r) (after (if a then row.Ended else row.Stray) h tag p time (at CloseWait r))
      go true = stands (still-left Closed time (at CloseWait r))
      go false = stands (still (at CloseWait r))

  shifts-in : (s : State) (r : PlainRdp) → Shifts h (at s r) (after (row_in s (at s r) h p.picture.payload) h tag p time (at s r))
  shifts-in SynSent r = shifts-sent r
  shifts-in SynRcvd r = shifts-rcvd r
  shifts-in Open r = shifts-open r
  shifts-in CloseWait r = shifts-waiting r
  shifts-in Closed r = stands (still (at Closed r))

  shifts-handed : (r : PlainRdp) → Shifts h r (after_packet h tag p time r)
  shifts-handed r = shifts-in r.state r

-- ---- where una comes to

-- it stays, or comes to one past the index that is shown, which was inside
data Comes (shows : Option ℕ) (w : PlainSend) (una : ℕ) : Type 0 where
  rests : una ≡ w.una → Comes shows w una
  passes : (t : ℕ) → shows ≡ Some t → w.una ≤ t + 1 → t < w.nxt → una ≡ t + 1 → Comes shows w una

comes-acked : (o : Option ℕ) (w : PlainSend) → Comes o w (acked_at o w).una
comes-acked None w = rests refl
comes-acked (Some t) w = go (is_inside w t) refl
  where
    go : (b : Bool) → is_inside w t ≡ b → Comes (Some t) w (if b then record (with_mark (Acknowledged t) w) { una = t + 1 } else w).una
    go true e = let parts = and_parts (nat_le w.una (t + 1)) (nat_lt t w.nxt) e in passes t refl (leb-true w.una (t + 1) parts.0) (ltb-true t w.nxt parts.1) refl
    go false e = rests refl

-- a number not far from una shows its index
shown-near : (start una index n : ℕ) → is_far index una ≡ false → n ≡ number_of start (pos index) → shown n start una ≡ Some index
shown-near start una index n far e =
    let close = leb-false 32768 (abs_diff index una) far in
    let is : near n start (pos una) ≡ pos index = near_is n start (pos una) (pos index) (record { shown = sym e; above = omega (arith, ints, close); below = omega (arith, ints, close) }) in
    ap index_of is

-- while acknowledgements are heard, una is that of the connection, or at most 1
near-una : (s : State) (o : OwnFlows) (m : Numbering) (seat : Seat) (n : Now) (index : ℕ) → IsHearing s → SendsIn s o m seat n → n.machine.send.una ≤ n.machine.send.nxt → is_far index (una_of n.machine) ≡ false
    → is_far index n.machine.send.una ≡ false
near-una SynSent o m seat n index hearing i order far = absurd hearing
near-una SynRcvd o m seat n index hearing i order far =
    let next = i.2.next in
    let none : is_far index 0 ≡ false = subst (λ (b : Bool). is_far index (if b then n.machine.send.una else 0) ≡ false) i.3 far in
    let close = leb-false 32768 (abs_diff index 0) none in
    lt-leb 32768 (abs_diff index n.machine.send.una) (omega (arith, ints, close, next, order))
near-una Open o m seat n index hearing i order far = subst (λ (b : Bool). is_far index (if b then n.machine.send.una else 0) ≡ false) i.3 far
near-una CloseWait o m seat n index hearing i order far = absurd hearing
near-una Closed o m seat n index hearing i order far = absurd hearing

start-is : (s : State) (o : OwnFlows) (m : Numbering) (seat : Seat) (n : Now) → IsHearing s → SendsIn s o m seat n → n.machine.send.start ≡ start_of o.seed n.machine.nth
start-is SynSent o m seat n hearing i = absurd hearing
start-is SynRcvd o m seat n hearing i = i.0.start
start-is Open o m seat n hearing i = i.0.start
start-is CloseWait o m seat n hearing i = absurd hearing
start-is Closed o m seat n hearing i = absurd hearing

-- before a connection is answered nothing was admitted
next-first : (s : State) (o : OwnFlows) (m : Numbering) (seat : Seat) (n : Now) → s ≡ SynSent → SendsIn s o m seat n → n.machine.send.nxt ≡ 1
next-first SynSent o m seat n e i = i.2.next
next-first SynRcvd o m seat n e i = i.2.next
next-first Open o m seat n e i = absurd cc
next-first CloseWait o m seat n e i = absurd cc
next-first Closed o m seat n e i = absurd cc

-- ---- a step keeps it

same-ways : (a b : PlainRdp) → Ways a b → IsSameOwn a b
same-ways a b (on g) = g.own
same-ways a b (over g) = g.own
same-ways a b (off g) = g.own

same-heard : (h : RdpHead) (tag : Option Tag) (p : PlainBuffer) (a b : PlainRdp) → Hears h tag p a b → IsSameOwn a b
same-heard h tag p a b (moves w) = same-ways a b w
same-heard h tag p a b (keeps t e c g) = g.own
same-heard h tag p a b (answers e f g) = g.own
same-heard h tag p a b (enters e g) = g.own
same-heard h tag p a b (enters_keeping t e c g) = g.own

same-delivered : (w : PlainRecv) (a b : PlainRdp) → Delivers w a b → IsSameOwn a b
same-delivered w a b (delivers g) = g.own
same-delivered w a b (resets g) = g.own

-- there is room in an open connection's window
room-in : (s : State) (r : PlainRdp) → is_open s && not (is_full r.send) ≡ true → r.send.nxt - r.send.una < r.send.window
room-in SynSent r e = absurd cc
room-in SynRcvd r e = absurd cc
room-in Open r e = leb-false r.send.window (r.send.nxt - r.send.una) (not-true (is_full r.send) e)
room-in CloseWait r e = absurd cc
room-in Closed r e = absurd cc

module _ (H : Tag → Type 0) (nth : ℕ) (peer : ℕ × ℕ) where
  -- that leaves una, the window and the peer
  windowed-still : (a b : PlainRdp) → IsSameOwn a b → IsStill a b → IsWindowed H nth peer a → IsWindowed H nth peer b
  windowed-still a b same g i = record {
    order = rw (same.send.next, g.una) i.order;
    below = rw same.send.next (same.send.packets (λ index payload. index < a.send.nxt) i.below);
    room = rw (same.send.next, g.una, g.window) i.room;
    come = λ e f. subst (HasCome H) (sym g.una) (i.come (sym same.nth ∙ e) (sym g.peer ∙ f));
  }

  -- that admits a packet
  windowed-admits : (r : PlainRdp) (b : PlainBuffer) (time : ℕ) → has_room r ≡ true → IsWindowed H nth peer r → IsWindowed H nth peer (admitting b time r)
  windowed-admits r b time free i = record {
    order = let h = i.order in omega (arith, h);
    below = All-push (λ p. p.index < r.send.nxt + 1) r.send.packets (fresh r.send.nxt b)
        (All-weaker (λ p. p.index < r.send.nxt) (λ p. p.index < r.send.nxt + 1) (λ p h. omega (arith, h)) r.send.packets i.below) (omega arith);
    room = let h = i.order in let f = room-in r.state r free in omega (arith, h, f);
    come = i.come;
  }

  -- a new connection
  windowed-made : (r : PlainRdp) → r.send.una ≡ 1 → r.send.nxt ≡ 1 → r.send.packets ≡ [] → IsWindowed H nth peer r
  windowed-made r una next none = record {
    order = omega (arith, una, next);
    below = subst (All (λ p. p.index < r.send.nxt)) (sym none) (All-nil (λ p. p.index < r.send.nxt));
    room = omega (arith, una, next);
    come = λ e f. inl (omega (arith, una));
  }

  -- that hears a packet
  module _ (o : OwnFlows) (m : Numbering) (seat : Seat) (n : Now) (h : RdpHead) (is : IsSender o m seat n) (fed : n.machine.nth ≡ nth → n.machine.peer ≡ Some peer → IsFedWell H (start_of o.seed n.machine.nth) n.machine h) where
    -- where una passes, it passes what the packet's tag acknowledges
    passed : IsHearing n.machine.state → IsAcking h → IsWindowed H nth peer n.machine → (t : ℕ) → shown h.ack.0 n.machine.send.start n.machine.send.una ≡ Some t → n.machine.nth ≡ nth → n.machine.peer ≡ Some peer → HasCome H (t + 1)
    passed hearing acking i t shows e f =
        let well = fed e f in
        let near = near-una n.machine.state o m seat n well.tag.ack hearing is i.order well.near in
        let number : h.ack.0 ≡ number_of n.machine.send.start (pos well.tag.ack) =
        well.number acking.acks acking.resets ∙ ap (λ s. number_of s (pos well.tag.ack)) (sym (start-is n.machine.state o m seat n hearing is)) in
        let both : Some well.tag.ack ≡ Some t = sym (shown-near n.machine.send.start n.machine.send.una well.tag.ack h.ack.0 near number) ∙ shows in
        let same : well.tag.ack ≡ t = cc in
        inr (well.tag, well.is, omega (arith, same))

    windowed-shifts : (b : PlainRdp) → IsSameOwn n.machine b → Shifts h n.machine b → IsWindowed H nth peer n.machine → IsWindowed H nth peer b
    windowed-shifts b same (stands g) i = windowed-still n.machine b same g i
    windowed-shifts b same (begins e una window) i = record {
      order = rw (same.send.next, una) i.order;
      below = rw same.send.next (same.send.packets (λ index payload. index < n.machine.send.nxt) i.below);
      room = rw (same.send.next, una, window) i.room;
      come = λ f g. let first = next-first n.machine.state o m seat n e is in let order = i.order in inl (omega (arith, una, first, order));
    }
    windowed-shifts b same (shifts hearing acking una window peers) i =
        go (comes-acked (shown h.ack.0 n.machine.send.start n.machine.send.una) n.machine.send)
      where
        go : Comes (shown h.ack.0 n.machine.send.start n.machine.send.una) n.machine.send (acked h.ack.0 n.machine.send).una → IsWindowed H nth peer b
        go (rests q) = windowed-still n.machine b same (record { una = una ∙ q; window = window; peer = peers }) i
        go (passes t shows low high q) =
            let is_una : b.send.una ≡ t + 1 = una ∙ q in
            let next = same.send.next in
            let room = i.room in record {
              order = omega (arith, is_una, next, high);
              below = rw same.send.next (same.send.packets (λ index payload. index < n.machine.send.nxt) i.below);
              room = omega (arith, is_una, next, low, room, window);
              come = λ e f. subst (HasCome H) (sym is_una) (passed hearing acking i t shows (sym same.nth ∙ e) (sym peers ∙ f));
            }

    windowed-handed : (tag : Option Tag) (b : PlainBuffer) (time : ℕ) → IsWindowed H nth peer n.machine → IsWindowed H nth peer (after_packet h tag b time n.machine)
    windowed-handed tag b time i = windowed-shifts (after_packet h tag b time n.machine) (same-heard h tag b n.machine _ (hears-handed h tag b time n.machine)) (shifts-handed h tag b time n.machine) i

-- ---- all of it

pub keeping-kept : (o : OwnFlows) (H : Tag → Type 0) (nth : ℕ) (peer : ℕ × ℕ) → IsKept o (acknowledging o H nth peer) (IsKeeping o H nth peer)
keeping-kept o H nth peer = record {
  grows = λ m later s n g i. ((sender-kept o).grows m later s n g i.0, i.1);
  connects = λ m s ordinal time c flags home asked. ((sender-kept o).connects m s ordinal time c flags home tt, windowed-made H nth peer _ refl refl refl);
  accepts = λ m s ordinal time c flags h tag options home syn invited. ((sender-kept o).accepts m s ordinal time c flags h tag options home syn tt, windowed-made H nth peer _ refl refl refl);
  early = λ m s n i e. (sender-kept o).early m s n i.0 e;
  never = λ m s n i e. (sender-kept o).never m s n i.0 e;
  rests = λ m s n i. ((sender-kept o).rests m s n i.0, windowed-still H nth peer n.machine (rested n.machine) (goes-rested n.machine).own (record { una = refl; window = refl; peer = refl }) i.1);
  ticks = λ m s n time i. (
    (sender-kept o).ticks m s n time i.0,
    windowed-still H nth peer n.machine (ticked time n.machine) (same-ways n.machine _ (ways-ticked time n.machine)) (still-ticked time n.machine) i.1,
  );
  closes = λ m s n time i. (
    (sender-kept o).closes m s n time i.0,
    windowed-still H nth peer n.machine (closing time n.machine) (same-ways n.machine _ (ways-closing time n.machine)) (still-closed n.machine.state time n.machine) i.1,
  );
  makes = λ m s n time j job i. (
    (sender-kept o).makes m s n time j job i.0,
    windowed-still H nth peer n.machine (sent j time n.machine) (goes-sent j time n.machine).own (still-sent j time n.machine) i.1,
  );
  hears = λ m s n h tag b time fed shut i. ((sender-kept o).hears m s n h tag b time tt shut i.0, windowed-handed H nth peer o m s n h i.0 fed tag b time i.1);
  opens = λ m s n h tag b time fed opening i. ((sender-kept o).opens m s n h tag b time tt opening i.0, windowed-handed H nth peer o m s n h i.0 fed tag b time i.1);
  admits = λ m s n b time is_open room waits i. ((sender-kept o).admits m s n b time is_open room waits i.0, windowed-admits H nth peer n.machine b time room i.1);
  delays = λ m s n payload is_open waits i. ((sender-kept o).delays m s n payload is_open waits i.0, i.1);
  settles = λ m s n b time is_open room waits i. ((sender-kept o).settles m s n b time is_open room waits i.0, windowed-admits H nth peer n.machine b time room i.1);
  drops = λ m s n shut i. ((sender-kept o).drops m s n shut i.0, i.1);
  delivers = λ m s n b time e i. (
    (sender-kept o).delivers m s n b time e i.0,
    windowed-still H nth peer n.machine _ (same-delivered _ n.machine _ (delivers-both time n.machine (delivers-open n.machine.state n.machine b e))) (still-delivering time n.machine) i.1,
  );
  keeps = λ m s n b c e same i. (
    (sender-kept o).keeps m s n b c e same i.0,
    windowed-still H nth peer n.machine _ (goes-kept-again c n.machine (delivers-open n.machine.state n.machine b e)).own (still-kept-again c n.machine) i.1,
  );
}

-- ---- what its packets say

abbrev payload_in : Option Pending → List ℕ
payload_in o = option_map_or (λ p. p.buffer.picture.payload) o []

-- a packet that has a payload is in the window, below what all are
found-low : (bound : ℕ) (ps : List Pending) (index : ℕ) → All (λ p. p.index < bound) ps → not (length (payload_in (find (λ p. p.index == index) ps)) == 0) ≡ true → index < bound
found-low bound [] index all e = absurd cc
found-low bound (p ∷ ps) index all e =
    go (p.index == index) refl e (found-low bound ps index (All-tail (λ p. p.index < bound) p ps all))
  where
    go : (b : Bool) → (p.index == index) ≡ b → not (length (payload_in (cond b (Some p) (find (λ p. p.index == index) ps))) == 0) ≡ true
        → (not (length (payload_in (find (λ p. p.index == index) ps)) == 0) ≡ true → index < bound) → index < bound
    go true same f rest = let is = eqb-true p.index index same in let low = All-head (λ p. p.index < bound) p ps all in omega (arith, is, low)
    go false same f rest = rest f

opening-not : (s : State) (r : PlainRdp) → is_data (head_for (syn_in s r) r) (syn_in s r).bytes ≡ false
opening-not SynSent r = refl
opening-not SynRcvd r = refl
opening-not Open r = refl
opening-not CloseWait r = refl
opening-not Closed r = refl

-- a packet with data has an index that was admitted
pub data-low : (j : Job) (time : ℕ) (r : PlainRdp) → All (λ p. p.index < r.send.nxt) r.send.packets → is_data (head_for (says j time r) r) (says j time r).bytes ≡ true → (says j time r).index < r.send.nxt
data-low job.Rst time r all e = absurd cc
data-low job.Syn time r all e = absurd (let f = opening-not r.state r in cc)
data-low job.Deliver time r all e = absurd cc
data-low job.Eak time r all e = absurd cc
data-low job.Data time r all e = found-low r.send.nxt r.send.packets (sending_index time r) all e
data-low job.Ack time r all e = absurd cc

-- so it is within the window of where una came to
pub data-within : (H : Tag → Type 0) (nth : ℕ) (peer : ℕ × ℕ) (j : Job) (time : ℕ) (r : PlainRdp) → IsWindowed H nth peer r → r.nth ≡ nth → r.peer ≡ Some peer → is_data (head_for (says j time r) r) (says j time r).bytes ≡ true
    → ((says j time r).index ≤ r.send.window) ⊎ ((t : Tag) × H t × ((says j time r).index ≤ t.ack + r.send.window))
data-within H nth peer j time r i e f carries =
    go (i.come e f)
  where
    go : HasCome H r.send.una → ((says j time r).index ≤ r.send.window) ⊎ ((t : Tag) × H t × ((says j time r).index ≤ t.ack + r.send.window))
    go (inl first) = let low = data-low j time r i.below carries in let room = i.room in inl (omega (arith, first, low, room))
    go (inr x) = let low = data-low j time r i.below carries in let room = i.room in let far = x.2 in inr (x.0, x.1, omega (arith, far, low, room))
