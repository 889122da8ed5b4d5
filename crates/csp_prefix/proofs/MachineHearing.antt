-- What a packet makes of a reliable connection, by its state and the row that the packet comes to.
use Rattle.std.proofs.Common.{◌≡◌, ℕ, ◌+◌, Bool, true, false, not, ◌&&◌, ◌||◌, List, length, Option, Some, None, refl}
use Rattle.std.specs.Prelude.{◌==◌, if◌then◌else◌}
use Rattle.csp_base.specs.declared.traces.Tag.{Tag}
use Rattle.csp_buffer.specs.PlainBuffer.{PlainBuffer}
use Rattle.csp_rdp_header.specs.Head.{has_flag}
use Rattle.csp_rdp_header.specs.Numbers.{numbers_of}
use Rattle.csp_rdp_header.specs.declared.head.RdpHead.{RdpHead}
use Rattle.csp_rdp_header.specs.declared.head.TheConstants.{RST, EAK, ACK, SYN}
use Rattle.csp_rdp_window.specs.Receiving.{first_missing, index_in, is_awaited, is_kept, with_kept}
use Rattle.csp_rdp_window.specs.Sending.{acknowledges}
use Rattle.csp_rdp_window.specs.Shown.{shown}
use Rattle.csp_rdp.specs.Machine.{PlainRdp, opened, owes_ack, owes_eak, owes_syn}
use Rattle.csp_rdp.specs.Table.{ack_row, acknowledged, after, close_wait_row, data_row, entered_from, after_packet, is_bad_list, keeping, listing, open_row, reset_row, row_in, syn_rcvd_row, syn_sent_row}
use Rattle.csp_rdp.specs.declared.answers.State.{State}
use Rattle.csp_rdp.specs.declared.answers.State.TheVariants.{Closed, SynSent, SynRcvd, Open, CloseWait}
use Rattle.csp_rdp.specs.declared.rows.StateRow.TheVariants as row
use Rattle.csp_prefix.specs.Flows.{is_data}
use Rattle.csp_prefix.proofs.MachineWindows.{same-acked, same-heard, same-send}
use Rattle.csp_prefix.proofs.MachineSteps.{Acks, hears, takes, Goes, Hears, answers, enters, enters_keeping, keeps, moves, on, over, off, goes-after, goes-broken, goes-left, goes-reset, stays, owed-else}

-- the connection in this state
abbrev at : State → PlainRdp → PlainRdp
at s r = record r { state = s }

-- the flags of data
pub data-flags : (h : RdpHead) (bytes : List ℕ) → has_flag h ACK ≡ true → has_flag h RST ≡ false → has_flag h SYN ≡ false → has_flag h EAK ≡ false → (length bytes == 0) ≡ false → is_data h bytes ≡ true
data-flags h bytes a r s e l = rw (a, r, s, e, l)

-- ---- acknowledgements

goes-acknowledged : (number time : ℕ) (r : PlainRdp) → Goes r.state r.recv r (acknowledged number time r)
goes-acknowledged number time r = record {
  state_is = refl;
  was_open = refl;
  peer = refl;
  own = record { node = refl; nth = refl; send = same-acked (shown number r.send.start r.send.una) r.send };
  recv_is = refl;
}

goes-listing : (b : Bool) (bytes : List ℕ) (time : ℕ) (r : PlainRdp) → Goes r.state r.recv r (listing b bytes time r)
goes-listing false bytes time r = stays r
goes-listing true bytes time r = record {
  state_is = refl;
  was_open = refl;
  peer = refl;
  own = record { node = refl; nth = refl; send = same-heard (numbers_of bytes) time r.options.packet_timeout r.send };
  recv_is = refl;
}

goes-keeping : (t : ℕ) (p : PlainBuffer) (number time : ℕ) (r : PlainRdp) → Goes r.state (with_kept t p r.recv) r (keeping t p (acknowledged number time r))
goes-keeping t p number time r = record {
  state_is = refl;
  was_open = refl;
  peer = refl;
  own = record { node = refl; nth = refl; send = same-acked (shown number r.send.start r.send.una) r.send };
  recv_is = refl;
}

goes-outside : (r : PlainRdp) → Goes r.state r.recv r (owes_eak r)
goes-outside r = owed-else r (owes_eak r) refl

-- the flags that an acknowledgement without a bad list has
record IsQuiet (h : RdpHead) : Type 0 where
  acks : has_flag h ACK ≡ true
  resets : has_flag h RST ≡ false
  opens : has_flag h SYN ≡ false

module _ (s : State) (r : PlainRdp) (h : RdpHead) (tag : Option Tag) (p : PlainBuffer) (time : ℕ) (quiet : IsQuiet h) where
  acks-data : has_flag h EAK ≡ false → (length p.picture.payload == 0) ≡ false → (o : Option ℕ) → index_in r.recv h.seq.0 ≡ o
      → Acks r h p (entered_from s time (at s r)) (after (data_row (at s r) o) h tag p time (at s r))
  acks-data e l None found = hears (goes-outside (entered_from s time (at s r)))
  acks-data e l (Some t) found = go (is_awaited r.recv t) (is_kept r.recv t)
    where
      go : (a b : Bool) → Acks r h p (entered_from s time (at s r)) (after (if not a then row.Outside else if b then row.Duplicate else row.Data t) h tag p time (at s r))
      go false b = hears (goes-outside (entered_from s time (at s r)))
      go true true = hears (goes-acknowledged h.ack.0 time (entered_from s time (at s r)))
      go true false = takes t (record { shown = found; data_is = data-flags h p.picture.payload quiet.acks quiet.resets quiet.opens e l }) (goes-keeping t p h.ack.0 time (entered_from s time (at s r)))

  acks-row : Acks r h p (entered_from s time (at s r)) (after (ack_row (at s r) h p.picture.payload) h tag p time (at s r))
  acks-row = go (has_flag h EAK) (length p.picture.payload == 0) refl refl
    where
      go : (a b : Bool) → has_flag h EAK ≡ a → (length p.picture.payload == 0) ≡ b
          → Acks r h p (entered_from s time (at s r)) (after (if a then row.Lists else if b then row.Acknowledges else data_row (at s r) (index_in r.recv h.seq.0)) h tag p time (at s r))
      go true b e l =
          let e1 = entered_from s time (at s r) in
          let e2 = acknowledged h.ack.0 time e1 in
          hears (goes-after e1.state e1.recv e1.state e1.recv e1 e2 (listing (acknowledges r.send h.ack.0) p.picture.payload time e2) (goes-acknowledged h.ack.0 time e1) (goes-listing (acknowledges r.send h.ack.0) p.picture.payload time e2))
      go false true e l = hears (goes-acknowledged h.ack.0 time (entered_from s time (at s r)))
      go false false e l = acks-data e l (index_in r.recv h.seq.0) refl

-- ---- by state

-- neither opens nor lacks an acknowledgement
is-quiet : (h : RdpHead) → has_flag h RST ≡ false → (has_flag h SYN || not (has_flag h ACK)) ≡ false → IsQuiet h
is-quiet h r e = go (has_flag h SYN) (has_flag h ACK) refl refl e
  where
    go : (syn ack : Bool) → has_flag h SYN ≡ syn → has_flag h ACK ≡ ack → (syn || not ack) ≡ false → IsQuiet h
    go true ack s a f = absurd cc
    go false true s a f = record { acks = a; resets = r; opens = s }
    go false false s a f = absurd cc

module _ (h : RdpHead) (tag : Option Tag) (p : PlainBuffer) (time : ℕ) where
  hears-reset : (r : PlainRdp) (o : Option ℕ) → Hears h tag p r (after (reset_row r o) h tag p time r)
  hears-reset r None = moves (on (stays r))
  hears-reset r (Some t) = go (t == first_missing r.recv) (t == r.recv.cur + 1)
    where
      go : (a b : Bool) → Hears h tag p r (after (if not a then row.Stray else if b then row.Reset else row.ResetAt t) h tag p time r)
      go false b = moves (on (stays r))
      go true true = moves (over (goes-reset time r))
      go true false = moves (on (record { state_is = refl; was_open = refl; peer = refl; own = record { node = refl; nth = refl; send = same-send r.send }; recv_is = refl }))

  hears-sent : (r : PlainRdp) → Hears h tag p (at SynSent r) (after (syn_sent_row (at SynSent r) h) h tag p time (at SynSent r))
  hears-sent r = go (has_flag h RST) (has_flag h SYN) (has_flag h ACK) (h.ack.0 == r.send.start) refl
    where
      go : (a b c d : Bool) → has_flag h SYN ≡ b → Hears h tag p (at SynSent r) (after (if a then row.Refused else if b && c && d then row.Answered else row.Stray) h tag p time (at SynSent r))
      go true b c d e = moves (over (goes-left Closed time (at SynSent r)))
      go false true true true e = answers refl e (record { state_is = refl; was_open = refl; peer_is = refl; own = record { node = refl; nth = refl; send = same-send r.send }; recv_is = refl })
      go false true true false e = moves (on (stays (at SynSent r)))
      go false true false d e = moves (on (stays (at SynSent r)))
      go false false c d e = moves (on (stays (at SynSent r)))

  -- an acknowledgement in SynRcvd opens it
  entering : (r b : PlainRdp) → Acks r h p (opened time (at SynRcvd r)) b → Hears h tag p (at SynRcvd r) b
  entering r b (hears g) = enters refl (record { state_is = g.state_is; was_open = g.was_open; peer_is = g.peer; own = record { node = g.own.node; nth = g.own.nth; send = g.own.send }; recv_is = g.recv_is })
  entering r b (takes t c g) =
      enters_keeping t refl (record { shown = c.shown; data_is = c.data_is })
      (record { state_is = g.state_is; was_open = g.was_open; peer_is = g.peer; own = record { node = g.own.node; nth = g.own.nth; send = g.own.send }; recv_is = g.recv_is })

  -- and one in Open leaves it so
  resting : (r b : PlainRdp) → Acks r h p (at Open r) b → Hears h tag p (at Open r) b
  resting r b (hears g) = moves (on g)
  resting r b (takes t c g) = keeps t refl (record { shown = c.shown; data_is = c.data_is }) g

  hears-rcvd : (r : PlainRdp) → Hears h tag p (at SynRcvd r) (after (syn_rcvd_row (at SynRcvd r) h p.picture.payload) h tag p time (at SynRcvd r))
  hears-rcvd r =
      go (has_flag h RST) (has_flag h SYN && not (has_flag h ACK) && h.seq.0 == r.recv.start) (has_flag h SYN || not (has_flag h ACK)) (is_bad_list h p.picture.payload) (h.ack.0 == r.send.start) refl refl
    where
      go : (a b c d f : Bool) → has_flag h RST ≡ a → (has_flag h SYN || not (has_flag h ACK)) ≡ c → Hears h tag p (at SynRcvd r)
          (after (if a then reset_row (at SynRcvd r) (index_in r.recv h.seq.0) else if b then row.Repeated else if c then row.Broken else if d then row.Stray else if f then ack_row (at SynRcvd r) h p.picture.payload else row.Stray) h tag p time (at SynRcvd r))
      go true b c d f e g = hears-reset (at SynRcvd r) (index_in r.recv h.seq.0)
      go false true c d f e g = moves (on (owed-else (at SynRcvd r) (owes_syn (at SynRcvd r)) refl))
      go false false true d f e g = moves (off (goes-broken time (at SynRcvd r)))
      go false false false true f e g = moves (on (stays (at SynRcvd r)))
      go false false false false true e g = entering r _ (acks-row SynRcvd r h tag p time (is-quiet h e g))
      go false false false false false e g = moves (on (stays (at SynRcvd r)))

  hears-open : (r : PlainRdp) → Hears h tag p (at Open r) (after (open_row (at Open r) h p.picture.payload) h tag p time (at Open r))
  hears-open r = go (has_flag h RST) (has_flag h SYN && h.seq.0 == r.recv.start) (has_flag h SYN || not (has_flag h ACK)) (is_bad_list h p.picture.payload) refl refl
    where
      go : (a b c d : Bool) → has_flag h RST ≡ a → (has_flag h SYN || not (has_flag h ACK)) ≡ c → Hears h tag p (at Open r)
          (after (if a then reset_row (at Open r) (index_in r.recv h.seq.0) else if b then row.Late else if c then row.Broken else if d then row.Stray else ack_row (at Open r) h p.picture.payload) h tag p time (at Open r))
      go true b c d e g = hears-reset (at Open r) (index_in r.recv h.seq.0)
      go false true c d e g = moves (on (owed-else (at Open r) (owes_ack (at Open r)) refl))
      go false false true d e g = moves (off (goes-broken time (at Open r)))
      go false false false true e g = moves (on (stays (at Open r)))
      go false false false false e g = resting r _ (acks-row Open r h tag p time (is-quiet h e g))

  hears-waiting : (r : PlainRdp) → Hears h tag p (at CloseWait r) (after (close_wait_row h) h tag p time (at CloseWait r))
  hears-waiting r = go (has_flag h RST)
    where
      go : (a : Bool) → Hears h tag p (at CloseWait r) (after (if a then row.Ended else row.Stray) h tag p time (at CloseWait r))
      go true = moves (over (goes-left Closed time (at CloseWait r)))
      go false = moves (on (stays (at CloseWait r)))

  hears-in : (s : State) (r : PlainRdp) → Hears h tag p (at s r) (after (row_in s (at s r) h p.picture.payload) h tag p time (at s r))
  hears-in SynSent r = hears-sent r
  hears-in SynRcvd r = hears-rcvd r
  hears-in Open r = hears-open r
  hears-in CloseWait r = hears-waiting r
  hears-in Closed r = moves (on (stays (at Closed r)))

  pub hears-handed : (r : PlainRdp) → Hears h tag p r (after_packet h tag p time r)
  hears-handed r = hears-in r.state r
