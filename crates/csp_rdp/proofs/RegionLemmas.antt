-- the buffers of a connection stay in their region
use Rattle.std.proofs.Common.{◌≡◌, ℕ, ◌+◌, Bool, true, false, not, cond, List, [], ◌∷◌, ◌++◌, map, Option, Some, None, ap, subst, ◌∙◌}
use Rattle.std.specs.List.{filter, find, list_any}
use Rattle.std.specs.Option.{option_map}
use Rattle.std.specs.Prelude.{◌==◌, if◌then◌else◌, nat_lt, nat_le}
use Rattle.csp_arena.specs.Cells.{RegionName}
use Rattle.csp_base.specs.declared.sequence.Seq.{Seq}
use Rattle.csp_base.specs.declared.traces.Tag.{Tag}
use Rattle.csp_buffer.specs.PlainBuffer.{PlainBuffer}
use Rattle.csp_rdp_header.specs.Numbers.{numbers_of}
use Rattle.csp_rdp_header.specs.declared.head.RdpHead.{RdpHead}
use Rattle.csp_rdp_window.specs.Receiving.{Kept, PlainRecv, first_buffer, kept_with, without_first}
use Rattle.csp_rdp_window.specs.Sending.{PlainSend, acked_at, acknowledges, admitted, fresh, list_heard, is_inside, is_loose, listed, loose_buffer, marked, needed_if, newest_of, with_mark, without_listed, without_loose}
use Rattle.csp_rdp_window.specs.Shown.{shown}
use Rattle.csp_rdp_window.specs.Times.{has_passed}
use Rattle.csp_rdp_window.specs.declared.pending.Mark.{Mark}
use Rattle.csp_rdp_window.specs.declared.pending.Mark.TheVariants.{Acknowledged, Abandoned, Sent, Missed}
use Rattle.csp_rdp_window.specs.declared.pending.Pending.{Pending}
use Rattle.csp_rdp.specs.Holding.{handing_out, rdp_buffers, recv_rested, rested, taken_out, taken_out_of, unneeded, unneeded_in, unneeded_or, useless_buffers, without_kept}
use Rattle.csp_rdp.specs.Jobs.{closed_in, delivery_in, reset_after, sending_index, sent, taken_in, timed_out, ticked}
use Rattle.csp_rdp.specs.Machine.{PlainRdp, broken, left, owes_rst}
use Rattle.csp_rdp.specs.Regions.{AreAllIn, AreIn, IsIn}
use Rattle.csp_rdp.specs.Table.{acknowledged, after, entered, entered_from, listing}
use Rattle.csp_rdp.specs.declared.answers.State.{State}
use Rattle.csp_rdp.specs.declared.answers.State.TheVariants.{Closed, SynSent, SynRcvd, Open, CloseWait}
use Rattle.csp_rdp.specs.declared.jobs.Job.{Job}
use Rattle.csp_rdp.specs.declared.jobs.Job.TheVariants as job
use Rattle.csp_rdp.specs.declared.rows.StateRow.{StateRow}
use Rattle.csp_rdp.specs.declared.rows.StateRow.TheVariants as row
use Rattle.csp_rdp.proofs.SoundLemmas.{marked-buffer}

-- the buffers of packets, and of what is kept
abbrev sending : List Pending → List PlainBuffer
sending ps = map (λ p. p.buffer) ps

abbrev keeping_ : List Kept → List PlainBuffer
keeping_ ks = map (λ k. k.buffer) ks

-- ---- the send window

in-marked : (name : RegionName) (m : Mark) (ps : List Pending) → AreIn name (sending ps) → AreIn name (sending (map (marked m) ps))
in-marked name m [] in_ = tt
in-marked name m (p ∷ ps) in_ = (ap (λ b. b.region) (marked-buffer m p) ∙ in_.0, in-marked name m ps in_.1)

in-listed : (name : RegionName) (ts : List ℕ) (ps : List Pending) → AreIn name (sending ps) → AreIn name (sending (map (λ p. needed_if (not (list_any (λ t. t == p.index) ts)) p) ps))
in-listed name ts [] in_ = tt
in-listed name ts (p ∷ ps) in_ = (in_.0, in-listed name ts ps in_.1)

in-acked : (name : RegionName) (o : Option ℕ) (w : PlainSend) → AreIn name (sending w.packets) → AreIn name (sending (acked_at o w).packets)
in-acked name None w in_ = in_
in-acked name (Some t) w in_ = go (is_inside w t)
  where
    go : (b : Bool) → AreIn name (sending (if b then record (with_mark (Acknowledged t) w) { una = t + 1 } else w).packets)
    go true = in-marked name (Acknowledged t) w.packets in_
    go false = in_

in-heard : (name : RegionName) (ns : List Seq) (time timeout : ℕ) (w : PlainSend) → AreIn name (sending w.packets) → AreIn name (sending (list_heard ns time timeout w).packets)
in-heard name ns time timeout w in_ =
    in-marked name (Missed (newest_of (listed w ns)) time timeout) (without_listed (listed w ns) w).packets (in-listed name (listed w ns) w.packets in_)

in-more : (name : RegionName) (ps : List Pending) (p : Pending) → AreIn name (sending ps) → p.buffer.region ≡ name → AreIn name (sending (ps ++ p ∷ []))
in-more name [] p in_ e = (e, tt)
in-more name (q ∷ ps) p in_ e = (in_.0, in-more name ps p in_.1 e)

in-drained : (name : RegionName) (ps : List Pending) → AreIn name (sending ps) → AreIn name (sending (without_loose ps)) × IsIn name (option_map (λ p. p.buffer) (find is_loose ps))
in-drained name [] in_ = (tt, tt)
in-drained name (p ∷ ps) in_ = go p.needed (in-drained name ps in_.1)
  where
    go : (b : Bool) → AreIn name (sending (without_loose ps)) × IsIn name (option_map (λ q. q.buffer) (find is_loose ps)) →
        AreIn name (sending (if b then p ∷ without_loose ps else ps)) × IsIn name (option_map (λ q. q.buffer) (cond (not b) (Some p) (find is_loose ps)))
    go true rest = ((in_.0, rest.0), rest.1)
    go false rest = (in_.1, in_.0)

-- ---- the receive window

in-kept : (name : RegionName) (t : ℕ) (b : PlainBuffer) (ks : List Kept) → AreIn name (keeping_ ks) → b.region ≡ name → AreIn name (keeping_ (kept_with t b ks))
in-kept name t b [] in_ e = (e, tt)
in-kept name t b (k ∷ ks) in_ e = go (nat_lt t k.index) (in-kept name t b ks in_.1 e)
  where
    go : (c : Bool) → AreIn name (keeping_ (kept_with t b ks)) → AreIn name (keeping_ (if c then record { index = t; buffer = b } ∷ k ∷ ks else k ∷ kept_with t b ks))
    go true rest = (e, in_)
    go false rest = (in_.0, rest)

in-filtered : {T : Type 0} (name : RegionName) (buffer : T → PlainBuffer) (test : T → Bool) (xs : List T) → AreIn name (map buffer xs) → AreIn name (map buffer (filter test xs))
in-filtered name buffer test [] in_ = tt
in-filtered name buffer test (x ∷ xs) in_ = go (test x) (in-filtered name buffer test xs in_.1)
  where
    go : (c : Bool) → AreIn name (map buffer (filter test xs)) → AreIn name (map buffer (cond c (x ∷ filter test xs) (filter test xs)))
    go true rest = (in_.0, rest)
    go false rest = rest

in-found : (name : RegionName) (test : Kept → Bool) (ks : List Kept) → AreIn name (keeping_ ks) → IsIn name (option_map (λ k. k.buffer) (find test ks))
in-found name test [] in_ = tt
in-found name test (k ∷ ks) in_ = go (test k) (in-found name test ks in_.1)
  where
    go : (c : Bool) → IsIn name (option_map (λ q. q.buffer) (find test ks)) → IsIn name (option_map (λ q. q.buffer) (cond c (Some k) (find test ks)))
    go true rest = in_.0
    go false rest = rest

in-first : (name : RegionName) (ks : List Kept) → AreIn name (keeping_ ks) → AreIn name (keeping_ (without_first ks)) × IsIn name (first_buffer ks)
in-first name [] in_ = (tt, tt)
in-first name (k ∷ ks) in_ = (in_.1, in_.0)

-- ---- the machine

in-left : (name : RegionName) (state : State) (time : ℕ) (r : PlainRdp) → AreAllIn name r → AreAllIn name (left state time r)
in-left name state time r all = record { sending = in-marked name Abandoned r.send.packets all.sending; kept = all.kept }

in-broken : (name : RegionName) (time : ℕ) (r : PlainRdp) → AreAllIn name r → AreAllIn name (broken time r)
in-broken name time r all = let done = in-left name CloseWait time r all in record { sending = done.sending; kept = done.kept }

in-reset : (name : RegionName) (time : ℕ) (r : PlainRdp) → AreAllIn name r → AreAllIn name (owes_rst (left Closed time r))
in-reset name time r all = let done = in-left name Closed time r all in record { sending = done.sending; kept = done.kept }

in-entered : (name : RegionName) (state : State) (time : ℕ) (r : PlainRdp) → AreAllIn name r → AreAllIn name (entered_from state time r)
in-entered name SynSent time r all = all
in-entered name SynRcvd time r all = record { sending = all.sending; kept = all.kept }
in-entered name Open time r all = all
in-entered name CloseWait time r all = all
in-entered name Closed time r all = all

in-acknowledged : (name : RegionName) (number time : ℕ) (r : PlainRdp) → AreAllIn name r → AreAllIn name (acknowledged number time r)
in-acknowledged name number time r all = record { sending = in-acked name (shown number r.send.start r.send.una) r.send all.sending; kept = all.kept }

in-listing : (name : RegionName) (b : Bool) (bytes : List ℕ) (time : ℕ) (r : PlainRdp) → AreAllIn name r → AreAllIn name (listing b bytes time r)
in-listing name false bytes time r all = all
in-listing name true bytes time r all = record { sending = in-heard name (numbers_of bytes) time r.options.packet_timeout r.send all.sending; kept = all.kept }

in-heard-now : (name : RegionName) (h : RdpHead) (time : ℕ) (r : PlainRdp) → AreAllIn name r → AreAllIn name (acknowledged h.ack.0 time (entered time r))
in-heard-now name h time r all = in-acknowledged name h.ack.0 time (entered time r) (in-entered name r.state time r all)

pub in-after : (name : RegionName) (y : StateRow) (h : RdpHead) (tag : Option Tag) (p : PlainBuffer) (time : ℕ) (r : PlainRdp) → AreAllIn name r → p.region ≡ name →
    AreAllIn name (after y h tag p time r)
in-after name row.Stray h tag p time r all e = all
in-after name row.Refused h tag p time r all e = in-left name Closed time r all
in-after name row.Answered h tag p time r all e = record { sending = all.sending; kept = tt }
in-after name row.Repeated h tag p time r all e = record { sending = all.sending; kept = all.kept }
in-after name row.Late h tag p time r all e = record { sending = all.sending; kept = all.kept }
in-after name row.Reset h tag p time r all e = in-reset name time r all
in-after name (row.ResetAt t) h tag p time r all e = record { sending = all.sending; kept = all.kept }
in-after name row.Broken h tag p time r all e = in-broken name time r all
in-after name row.Ended h tag p time r all e = in-left name Closed time r all
in-after name row.Acknowledges h tag p time r all e = in-heard-now name h time r all
in-after name row.Lists h tag p time r all e = in-listing name (acknowledges r.send h.ack.0) p.picture.payload time _ (in-heard-now name h time r all)
in-after name row.Outside h tag p time r all e = let done = in-entered name r.state time r all in record { sending = done.sending; kept = done.kept }
in-after name row.Duplicate h tag p time r all e = in-heard-now name h time r all
in-after name (row.Data t) h tag p time r all e =
    let done = in-heard-now name h time r all in
    record { sending = done.sending; kept = in-kept name t p (acknowledged h.ack.0 time (entered time r)).recv.kept done.kept e }

pub in-admitting : (name : RegionName) (b : PlainBuffer) (r : PlainRdp) → AreAllIn name r → b.region ≡ name → AreIn name (sending (admitted b r.send).packets)
in-admitting name b r all e = in-more name r.send.packets (fresh r.send.nxt b) all.sending e

pub in-sent : (name : RegionName) (j : Job) (time : ℕ) (r : PlainRdp) → AreAllIn name r → AreAllIn name (sent j time r)
in-sent name job.Rst time r all = record { sending = all.sending; kept = all.kept }
in-sent name job.Syn time r all = record { sending = all.sending; kept = all.kept }
in-sent name job.Deliver time r all = all
in-sent name job.Eak time r all = record { sending = all.sending; kept = all.kept }
in-sent name job.Data time r all = record { sending = in-marked name (Sent (sending_index time r) time) r.send.packets all.sending; kept = all.kept }
in-sent name job.Ack time r all = record { sending = all.sending; kept = all.kept }

pub in-taken : (name : RegionName) (state : State) (r : PlainRdp) → AreAllIn name r → AreAllIn name (taken_in state r) × IsIn name (delivery_in state r)
in-taken name Open r all = (
  record { sending = all.sending; kept = in-filtered name (λ k. k.buffer) (λ k. not (k.index == r.recv.cur + 1)) r.recv.kept all.kept },
  in-found name (λ k. k.index == r.recv.cur + 1) r.recv.kept all.kept,
)
in-taken name SynSent r all = (all, tt)
in-taken name SynRcvd r all = (all, tt)
in-taken name CloseWait r all = (all, tt)
in-taken name Closed r all = (all, tt)

in-reset-after : (name : RegionName) (o : Option ℕ) (time : ℕ) (r : PlainRdp) → AreAllIn name r → AreAllIn name (reset_after o time r)
in-reset-after name None time r all = all
in-reset-after name (Some t) time r all = go (nat_le t (r.recv.cur + 1))
  where
    go : (b : Bool) → AreAllIn name (if b then owes_rst (left Closed time r) else r)
    go true = in-reset name time r all
    go false = all

pub in-delivered : (name : RegionName) (o : Option ℕ) (time : ℕ) (r : PlainRdp) → AreAllIn name r → AreAllIn name (reset_after o time r)
in-delivered name o time r all = in-reset-after name o time r all

pub in-kept-again : (name : RegionName) (b : PlainBuffer) (r : PlainRdp) → AreAllIn name r → b.region ≡ name → AreIn name (keeping_ (kept_with (r.recv.cur + 1) b r.recv.kept))
in-kept-again name b r all e = in-kept name (r.recv.cur + 1) b r.recv.kept all.kept e

in-timed : (name : RegionName) (state : State) (time : ℕ) (r : PlainRdp) → AreAllIn name r → AreAllIn name (timed_out state time r)
in-timed name SynSent time r all = in-left name Closed time r all
in-timed name SynRcvd time r all = in-left name Closed time r all
in-timed name CloseWait time r all = in-left name Closed time r all
in-timed name Closed time r all = all
in-timed name Open time r all = go (r.send.una == r.send.nxt)
  where
    go : (b : Bool) → AreAllIn name (if b then r else broken time r)
    go true = all
    go false = in-broken name time r all

pub in-ticked : (name : RegionName) (time : ℕ) (r : PlainRdp) → AreAllIn name r → AreAllIn name (ticked time r)
in-ticked name time r all = go (has_passed (Some r.since) r.options.conn_timeout time)
  where
    go : (b : Bool) → AreAllIn name (if b then timed_out r.state time r else r)
    go true = in-timed name r.state time r all
    go false = all

pub in-closed : (name : RegionName) (state : State) (time : ℕ) (r : PlainRdp) → AreAllIn name r → AreAllIn name (closed_in state time r)
in-closed name SynSent time r all = in-left name Closed time r all
in-closed name SynRcvd time r all = in-broken name time r all
in-closed name Open time r all = in-broken name time r all
in-closed name CloseWait time r all = all
in-closed name Closed time r all = all

in-unneeded : (name : RegionName) (state : State) (r : PlainRdp) → AreAllIn name r → AreAllIn name (without_kept state r) × IsIn name (unneeded_in state r)
in-unneeded name Open r all = (all, tt)
in-unneeded name SynSent r all = let f = in-first name r.recv.kept all.kept in (record { sending = all.sending; kept = f.0 }, f.1)
in-unneeded name SynRcvd r all = let f = in-first name r.recv.kept all.kept in (record { sending = all.sending; kept = f.0 }, f.1)
in-unneeded name CloseWait r all = let f = in-first name r.recv.kept all.kept in (record { sending = all.sending; kept = f.0 }, f.1)
in-unneeded name Closed r all = let f = in-first name r.recv.kept all.kept in (record { sending = all.sending; kept = f.0 }, f.1)

pub in-handed-out : (name : RegionName) (o : Option PlainBuffer) (r : PlainRdp) → loose_buffer r.send ≡ o → AreAllIn name r →
    AreAllIn name (handing_out o r) × IsIn name (unneeded_or o r)
in-handed-out name (Some b) r e all =
    let d = in-drained name r.send.packets all.sending in
    let P : Option PlainBuffer → Type 0 = λ x. IsIn name x in
    (record { sending = d.0; kept = all.kept }, subst P e d.1)
in-handed-out name None r e all = in-unneeded name r.state r all

-- ---- all of it

in-both : (name : RegionName) (bs cs : List PlainBuffer) → AreIn name bs → AreIn name cs → AreIn name (bs ++ cs)
in-both name [] cs p q = q
in-both name (b ∷ bs) cs p q = (p.0, in-both name bs cs p.1 q)

pub in-buffers : (name : RegionName) (r : PlainRdp) → AreAllIn name r → AreIn name (rdp_buffers r)
in-buffers name r all = in-both name (sending r.send.packets) (keeping_ r.recv.kept) all.sending all.kept

in-useless : (name : RegionName) (state : State) (w : PlainRecv) → AreIn name (keeping_ w.kept) → AreIn name (keeping_ (recv_rested state w).kept) × AreIn name (useless_buffers state w)
in-useless name Open w in_ = (in_, tt)
in-useless name SynSent w in_ = (tt, in_)
in-useless name SynRcvd w in_ = (tt, in_)
in-useless name CloseWait w in_ = (tt, in_)
in-useless name Closed w in_ = (tt, in_)

pub in-rested : (name : RegionName) (r : PlainRdp) → AreAllIn name r → AreAllIn name (rested r) × AreIn name (unneeded r)
in-rested name r all =
    let kept = in-useless name r.state r.recv all.kept in
    let needed = in-filtered name (λ p. p.buffer) (λ p. p.needed) r.send.packets all.sending in
    let loose = in-filtered name (λ p. p.buffer) is_loose r.send.packets all.sending in
    (record { sending = needed; kept = kept.0 }, in-both name (sending (filter is_loose r.send.packets)) (useless_buffers r.state r.recv) loose kept.1)

in-out : (name : RegionName) (ps : List Pending) (r : PlainRdp) → AreIn name (sending ps) → AreAllIn name r → AreAllIn name (taken_out_of ps r)
in-out name [] r in_ all = record { sending = all.sending; kept = (in-first name r.recv.kept all.kept).0 }
in-out name (p ∷ ps) r in_ all = record { sending = in_.1; kept = all.kept }

pub in-taken-out : (name : RegionName) (r : PlainRdp) → AreAllIn name r → AreAllIn name (taken_out r)
in-taken-out name r all = in-out name r.send.packets r all.sending all
