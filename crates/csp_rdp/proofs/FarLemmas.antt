-- how many packets went through a connection
use Rattle.std.proofs.Common.{◌≡◌, ℕ, ◌+◌, Bool, true, false, List, [], ◌∷◌, Option, Some, None, arith, refl}
use Rattle.std.specs.Prelude.{◌==◌, if◌then◌else◌, nat_le}
use Rattle.csp_base.specs.declared.traces.Tag.{Tag}
use Rattle.csp_buffer.specs.PlainBuffer.{PlainBuffer}
use Rattle.csp_rdp_header.specs.declared.head.RdpHead.{RdpHead}
use Rattle.csp_rdp_window.specs.Receiving.{PlainRecv, confirmed}
use Rattle.csp_rdp_window.specs.Sending.{PlainSend, acked_at, acknowledges, is_inside, with_mark}
use Rattle.csp_rdp_window.specs.Shown.{shown}
use Rattle.csp_rdp_window.specs.Times.{has_passed}
use Rattle.csp_rdp_window.specs.declared.pending.Mark.TheVariants.{Acknowledged}
use Rattle.csp_rdp_window.specs.declared.pending.Pending.{Pending}
use Rattle.csp_rdp.specs.Counts.{IsFar}
use Rattle.csp_rdp.specs.Holding.{recv_rested, rested, taken_out, taken_out_of}
use Rattle.csp_rdp.specs.Jobs.{closed_in, one_more_delivered, delivering, reset_after, sent, taken_in, timed_out, ticked}
use Rattle.csp_rdp.specs.Machine.{PlainRdp, broken, left, owes_rst}
use Rattle.csp_rdp.specs.Table.{acknowledged, after, entered, entered_from, listing}
use Rattle.csp_rdp.specs.declared.answers.State.{State}
use Rattle.csp_rdp.specs.declared.answers.State.TheVariants.{Closed, SynSent, SynRcvd, Open, CloseWait}
use Rattle.csp_rdp.specs.declared.jobs.Job.{Job}
use Rattle.csp_rdp.specs.declared.jobs.Job.TheVariants as job
use Rattle.csp_rdp.specs.declared.rows.StateRow.{StateRow}
use Rattle.csp_rdp.specs.declared.rows.StateRow.TheVariants as row

-- another state of it, which is as far
far-left : (n : ℕ) (state : State) (time : ℕ) (r : PlainRdp) → IsFar n r → IsFar n (left state time r)
far-left n state time r far = record { admitted = far.admitted; delivered = far.delivered }

far-broken : (n time : ℕ) (r : PlainRdp) → IsFar n r → IsFar n (broken time r)
far-broken n time r far = record { admitted = far.admitted; delivered = far.delivered }

far-reset : (n time : ℕ) (r : PlainRdp) → IsFar n r → IsFar n (owes_rst (left Closed time r))
far-reset n time r far = record { admitted = far.admitted; delivered = far.delivered }

far-entered : (n : ℕ) (state : State) (time : ℕ) (r : PlainRdp) → IsFar n r → IsFar n (entered_from state time r)
far-entered n SynSent time r far = far
far-entered n SynRcvd time r far = record { admitted = far.admitted; delivered = far.delivered }
far-entered n Open time r far = far
far-entered n CloseWait time r far = far
far-entered n Closed time r far = far

nxt-acked : (o : Option ℕ) (w : PlainSend) → (acked_at o w).nxt ≡ w.nxt
nxt-acked None w = refl
nxt-acked (Some t) w = go (is_inside w t)
  where
    go : (b : Bool) → (if b then record (with_mark (Acknowledged t) w) { una = t + 1 } else w).nxt ≡ w.nxt
    go true = refl
    go false = refl

far-acknowledged : (n number time : ℕ) (r : PlainRdp) → IsFar n r → IsFar n (acknowledged number time r)
far-acknowledged n number time r far = record { admitted = rw (nxt-acked (shown number r.send.start r.send.una) r.send) far.admitted; delivered = far.delivered }

far-listing : (n : ℕ) (b : Bool) (bytes : List ℕ) (time : ℕ) (r : PlainRdp) → IsFar n r → IsFar n (listing b bytes time r)
far-listing n false bytes time r far = far
far-listing n true bytes time r far = record { admitted = far.admitted; delivered = far.delivered }

far-heard : (n : ℕ) (h : RdpHead) (time : ℕ) (r : PlainRdp) → IsFar n r → IsFar n (acknowledged h.ack.0 time (entered time r))
far-heard n h time r far = far-acknowledged n h.ack.0 time (entered time r) (far-entered n r.state time r far)

pub far-after : (n : ℕ) (y : StateRow) (h : RdpHead) (tag : Option Tag) (p : PlainBuffer) (time : ℕ) (r : PlainRdp) → IsFar n r → IsFar n (after y h tag p time r)
far-after n row.Stray h tag p time r far = far
far-after n row.Refused h tag p time r far = far-left n Closed time r far
far-after n row.Answered h tag p time r far = record { admitted = far.admitted; delivered = omega arith }
far-after n row.Repeated h tag p time r far = record { admitted = far.admitted; delivered = far.delivered }
far-after n row.Late h tag p time r far = record { admitted = far.admitted; delivered = far.delivered }
far-after n row.Reset h tag p time r far = far-reset n time r far
far-after n (row.ResetAt t) h tag p time r far = record { admitted = far.admitted; delivered = far.delivered }
far-after n row.Broken h tag p time r far = far-broken n time r far
far-after n row.Ended h tag p time r far = far-left n Closed time r far
far-after n row.Acknowledges h tag p time r far = far-heard n h time r far
far-after n row.Lists h tag p time r far = far-listing n (acknowledges r.send h.ack.0) p.picture.payload time _ (far-heard n h time r far)
far-after n row.Outside h tag p time r far = let done = far-entered n r.state time r far in record { admitted = done.admitted; delivered = done.delivered }
far-after n row.Duplicate h tag p time r far = far-heard n h time r far
far-after n (row.Data t) h tag p time r far = let done = far-heard n h time r far in record { admitted = done.admitted; delivered = done.delivered }

pub far-sent : (n : ℕ) (j : Job) (time : ℕ) (r : PlainRdp) → IsFar n r → IsFar n (sent j time r)
far-sent n job.Rst time r far = record { admitted = far.admitted; delivered = far.delivered }
far-sent n job.Syn time r far = record { admitted = far.admitted; delivered = far.delivered }
far-sent n job.Deliver time r far = far
far-sent n job.Eak time r far = record { admitted = far.admitted; delivered = far.delivered }
far-sent n job.Data time r far = record { admitted = far.admitted; delivered = far.delivered }
far-sent n job.Ack time r far = record { admitted = far.admitted; delivered = far.delivered }

pub far-taken : (n : ℕ) (state : State) (r : PlainRdp) → IsFar n r → IsFar n (taken_in state r)
far-taken n SynSent r far = far
far-taken n SynRcvd r far = far
far-taken n Open r far = record { admitted = far.admitted; delivered = far.delivered }
far-taken n CloseWait r far = far
far-taken n Closed r far = far

far-reached : (n : ℕ) (o : Option ℕ) (time : ℕ) (r : PlainRdp) → IsFar n r → IsFar n (reset_after o time r)
far-reached n None time r far = far
far-reached n (Some t) time r far = go (nat_le t (r.recv.cur + 1))
  where
    go : (b : Bool) → IsFar n (if b then owes_rst (left Closed time r) else r)
    go true = far-reset n time r far
    go false = far

pub far-delivered : (n time : ℕ) (r : PlainRdp) → IsFar n r → IsFar (n + 1) (delivering time r)
far-delivered n time r far =
    let sent = far.admitted in
    let cur = far.delivered in
    far-reached (n + 1) r.reset_at time (record r { recv = confirmed r.recv; owed = one_more_delivered time r.owed }) (record { admitted = omega (arith, sent); delivered = omega (arith, cur) })

far-timed : (n : ℕ) (state : State) (time : ℕ) (r : PlainRdp) → IsFar n r → IsFar n (timed_out state time r)
far-timed n SynSent time r far = far-left n Closed time r far
far-timed n SynRcvd time r far = far-left n Closed time r far
far-timed n CloseWait time r far = far-left n Closed time r far
far-timed n Closed time r far = far
far-timed n Open time r far = go (r.send.una == r.send.nxt)
  where
    go : (b : Bool) → IsFar n (if b then r else broken time r)
    go true = far
    go false = far-broken n time r far

pub far-ticked : (n time : ℕ) (r : PlainRdp) → IsFar n r → IsFar n (ticked time r)
far-ticked n time r far = go (has_passed (Some r.since) r.options.conn_timeout time)
  where
    go : (b : Bool) → IsFar n (if b then timed_out r.state time r else r)
    go true = far-timed n r.state time r far
    go false = far

pub far-closed : (n : ℕ) (state : State) (time : ℕ) (r : PlainRdp) → IsFar n r → IsFar n (closed_in state time r)
far-closed n SynSent time r far = far-left n Closed time r far
far-closed n SynRcvd time r far = far-broken n time r far
far-closed n Open time r far = far-broken n time r far
far-closed n CloseWait time r far = far
far-closed n Closed time r far = far

cur-rested : (s : State) (w : PlainRecv) → (recv_rested s w).cur ≡ w.cur
cur-rested SynSent w = refl
cur-rested SynRcvd w = refl
cur-rested Open w = refl
cur-rested CloseWait w = refl
cur-rested Closed w = refl

pub far-rested : (n : ℕ) (r : PlainRdp) → IsFar n r → IsFar n (rested r)
far-rested n r far = record { admitted = far.admitted; delivered = rw (cur-rested r.state r.recv) far.delivered }

far-out : (n : ℕ) (ps : List Pending) (r : PlainRdp) → IsFar n r → IsFar n (taken_out_of ps r)
far-out n [] r far = record { admitted = far.admitted; delivered = far.delivered }
far-out n (p ∷ ps) r far = record { admitted = far.admitted; delivered = far.delivered }

pub far-taken-out : (n : ℕ) (r : PlainRdp) → IsFar n r → IsFar n (taken_out r)
far-taken-out n r far = far-out n r.send.packets r far
