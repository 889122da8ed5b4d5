-- What a step makes of a reliable connection: its state, its flow, and what its receive window keeps.
use Rattle.std.proofs.Common.{◌≡◌, ℕ, ◌+◌, Bool, true, false, List, Option, Some, None, refl, ap, ◌∙◌, subst}
use Rattle.std.specs.Option.{option_map}
use Rattle.std.specs.Prelude.{◌==◌, if◌then◌else◌, nat_le}
use Rattle.csp_base.specs.declared.traces.Tag.{Tag}
use Rattle.csp_buffer.specs.PlainBuffer.{PlainBuffer}
use Rattle.csp_rdp_header.specs.Head.{has_flag}
use Rattle.csp_rdp_header.specs.declared.head.RdpHead.{RdpHead}
use Rattle.csp_rdp_header.specs.declared.head.TheConstants.{SYN}
use Rattle.csp_rdp_window.specs.Receiving.{PlainRecv, index_in, confirmed, opening_recv, with_kept, without_next}
use Rattle.csp_rdp_window.specs.Times.{has_passed}
use Rattle.csp_rdp_window.specs.declared.pending.Mark.TheVariants.{Abandoned, Sent}
use Rattle.csp_rdp.specs.Holding.{recv_rested, rested}
use Rattle.csp_rdp.specs.Jobs.{closed_in, closing, one_more_delivered, delivering, delivery_in, keeping_again, reset_after, sending_index, sent, taken_in, without_delivery, ticked, timed_out}
use Rattle.csp_rdp.specs.Machine.{PlainRdp, broken, flow_of, left, owes_rst}
use Rattle.csp_rdp.specs.declared.answers.State.{State}
use Rattle.csp_rdp.specs.declared.answers.State.TheVariants.{Closed, SynSent, SynRcvd, Open, CloseWait}
use Rattle.csp_rdp.specs.declared.jobs.Job.{Job}
use Rattle.csp_rdp.specs.declared.jobs.Job.TheVariants as job
use Rattle.csp_prefix.specs.Flows.{is_data}
use Rattle.csp_prefix.proofs.MachineWindows.{IsSameSend, same-after, same-filtered, same-marked, same-send}

-- it has the number that it had, and its send window is as before
pub record IsSameOwn (a b : PlainRdp) : Type 1 where
  pub node : b.node ≡ a.node
  pub nth : b.nth ≡ a.nth
  pub send : IsSameSend a.send b.send

-- it comes to this state and this receive window, and else is as it was
pub record Goes (state : State) (recv : PlainRecv) (a b : PlainRdp) : Type 1 where
  pub state_is : b.state ≡ state
  pub was_open : b.was_open ≡ a.was_open
  pub peer : b.peer ≡ a.peer
  pub own : IsSameOwn a b
  pub recv_is : b.recv ≡ recv

-- it becomes open, with this peer and this receive window
pub record Becomes (peer : Option (ℕ × ℕ)) (recv : PlainRecv) (a b : PlainRdp) : Type 1 where
  pub state_is : b.state ≡ Open
  pub was_open : b.was_open ≡ true
  pub peer_is : b.peer ≡ peer
  pub own : IsSameOwn a b
  pub recv_is : b.recv ≡ recv

pub same-own : (r : PlainRdp) → IsSameOwn r r
same-own r = record { node = refl; nth = refl; send = same-send r.send }

pub own-after : (a b c : PlainRdp) → IsSameOwn a b → IsSameOwn b c → IsSameOwn a c
own-after a b c f g = record { node = g.node ∙ f.node; nth = g.nth ∙ f.nth; send = same-after a.send b.send c.send f.send g.send }

pub goes-after : (z : State) (v : PlainRecv) (s : State) (w : PlainRecv) (a b c : PlainRdp) → Goes z v a b → Goes s w b c → Goes s w a c
goes-after z v s w a b c f g = record {
  state_is = g.state_is;
  was_open = g.was_open ∙ f.was_open;
  peer = g.peer ∙ f.peer;
  own = own-after a b c f.own g.own;
  recv_is = g.recv_is;
}

pub stays : (r : PlainRdp) → Goes r.state r.recv r r
stays r = record { state_is = refl; was_open = refl; peer = refl; own = same-own r; recv_is = refl }

own-left : (s : State) (time : ℕ) (r : PlainRdp) → IsSameOwn r (left s time r)
own-left s time r = record { node = refl; nth = refl; send = same-marked Abandoned r.send }

pub goes-left : (s : State) (time : ℕ) (r : PlainRdp) → Goes s r.recv r (left s time r)
goes-left s time r = record { state_is = refl; was_open = refl; peer = refl; own = own-left s time r; recv_is = refl }

pub goes-reset : (time : ℕ) (r : PlainRdp) → Goes Closed r.recv r (owes_rst (left Closed time r))
goes-reset time r = record { state_is = refl; was_open = refl; peer = refl; own = record { node = refl; nth = refl; send = same-marked Abandoned r.send }; recv_is = refl }

pub goes-broken : (time : ℕ) (r : PlainRdp) → Goes CloseWait r.recv r (broken time r)
goes-broken time r = record { state_is = refl; was_open = refl; peer = refl; own = record { node = refl; nth = refl; send = same-marked Abandoned r.send }; recv_is = refl }

-- ---- steps of the connection itself

-- it stays in its state, is closed, or broken off
pub data Ways (a b : PlainRdp) : Type 1 where
  on : Goes a.state a.recv a b → Ways a b
  over : Goes Closed a.recv a b → Ways a b
  off : Goes CloseWait a.recv a b → Ways a b

ways-timed : (s : State) (time : ℕ) (r : PlainRdp) → Ways r (timed_out s time r)
ways-timed SynSent time r = over (goes-left Closed time r)
ways-timed SynRcvd time r = over (goes-left Closed time r)
ways-timed CloseWait time r = over (goes-left Closed time r)
ways-timed Closed time r = on (stays r)
ways-timed Open time r = go (r.send.una == r.send.nxt)
  where
    go : (b : Bool) → Ways r (if b then r else broken time r)
    go true = on (stays r)
    go false = off (goes-broken time r)

pub ways-ticked : (time : ℕ) (r : PlainRdp) → Ways r (ticked time r)
ways-ticked time r = go (has_passed (Some r.since) r.options.conn_timeout time)
  where
    go : (b : Bool) → Ways r (if b then timed_out r.state time r else r)
    go true = ways-timed r.state time r
    go false = on (stays r)

ways-closed : (s : State) (time : ℕ) (r : PlainRdp) → Ways r (closed_in s time r)
ways-closed SynSent time r = over (goes-left Closed time r)
ways-closed SynRcvd time r = off (goes-broken time r)
ways-closed Open time r = off (goes-broken time r)
ways-closed CloseWait time r = on (stays r)
ways-closed Closed time r = on (stays r)

pub ways-closing : (time : ℕ) (r : PlainRdp) → Ways r (closing time r)
ways-closing time r = ways-closed r.state time r

-- by a reset that waited
pub ways-reset : (o : Option ℕ) (time : ℕ) (r : PlainRdp) → Ways r (reset_after o time r)
ways-reset None time r = on (stays r)
ways-reset (Some t) time r = go (nat_le t (r.recv.cur + 1))
  where
    go : (b : Bool) → Ways r (if b then owes_rst (left Closed time r) else r)
    go true = over (goes-reset time r)
    go false = on (stays r)

-- what is owed alone changes
pub owed-else : (a b : PlainRdp) → b ≡ record a { owed = b.owed } → Goes a.state a.recv a b
owed-else a b e = rw e (record { state_is = refl; was_open = refl; peer = refl; own = record { node = refl; nth = refl; send = same-send a.send }; recv_is = refl })

pub goes-sent : (j : Job) (time : ℕ) (r : PlainRdp) → Goes r.state r.recv r (sent j time r)
goes-sent job.Rst time r = owed-else r (sent job.Rst time r) refl
goes-sent job.Syn time r = owed-else r (sent job.Syn time r) refl
goes-sent job.Deliver time r = stays r
goes-sent job.Eak time r = owed-else r (sent job.Eak time r) refl
goes-sent job.Ack time r = owed-else r (sent job.Ack time r) refl
goes-sent job.Data time r = record {
  state_is = refl;
  was_open = refl;
  peer = refl;
  own = record { node = refl; nth = refl; send = same-marked (Sent (sending_index time r) time) r.send };
  recv_is = refl;
}

-- ---- a packet is handed to it

-- data of this index
pub record Carries (r : PlainRdp) (h : RdpHead) (bytes : List ℕ) (t : ℕ) : Type 0 where
  pub shown : index_in r.recv h.seq.0 ≡ Some t
  pub data_is : is_data h bytes ≡ true

-- it stays in its state, is closed or broken off, keeps data, or becomes open: by an answer, or by an acknowledgement, which may be data
pub data Hears (h : RdpHead) (tag : Option Tag) (p : PlainBuffer) (a b : PlainRdp) : Type 1 where
  moves : Ways a b → Hears h tag p a b
  keeps : (t : ℕ) → a.state ≡ Open → Carries a h p.picture.payload t → Goes Open (with_kept t p a.recv) a b → Hears h tag p a b
  answers : a.state ≡ SynSent → has_flag h SYN ≡ true → Becomes (option_map flow_of tag) (opening_recv h.seq.0 a.options.window) a b → Hears h tag p a b
  enters : a.state ≡ SynRcvd → Becomes a.peer a.recv a b → Hears h tag p a b
  enters_keeping : (t : ℕ) → a.state ≡ SynRcvd → Carries a h p.picture.payload t → Becomes a.peer (with_kept t p a.recv) a b → Hears h tag p a b

-- an acknowledgement leaves it so, or keeps data
pub data Acks (r : PlainRdp) (h : RdpHead) (p : PlainBuffer) (a b : PlainRdp) : Type 1 where
  hears : Goes a.state a.recv a b → Acks r h p a b
  takes : (t : ℕ) → Carries r h p.picture.payload t → Goes a.state (with_kept t p a.recv) a b → Acks r h p a b

-- ---- deliveries

taken-open : (s : State) (r : PlainRdp) → s ≡ Open → Goes r.state (without_next r.recv) r (taken_in s r)
taken-open SynSent r e = absurd cc
taken-open SynRcvd r e = absurd cc
taken-open Open r e = record { state_is = refl; was_open = refl; peer = refl; own = record { node = refl; nth = refl; send = same-send r.send }; recv_is = refl }
taken-open CloseWait r e = absurd cc
taken-open Closed r e = absurd cc

-- the next packet is taken out
pub goes-taken : (r : PlainRdp) → r.state ≡ Open → Goes Open (without_next r.recv) r (without_delivery r)
goes-taken r e = subst (λ s. Goes s (without_next r.recv) r (without_delivery r)) e (taken-open r.state r e)

-- and delivered: it stays open, or a reset that waited closes it
pub data Delivers (w : PlainRecv) (a b : PlainRdp) : Type 1 where
  delivers : Goes Open w a b → Delivers w a b
  resets : Goes Closed w a b → Delivers w a b

goes-as : (s z : State) (v w : PlainRecv) (a b : PlainRdp) → s ≡ z → v ≡ w → Goes s v a b → Goes z w a b
goes-as s z v w a b e f g = record { state_is = g.state_is ∙ e; was_open = g.was_open; peer = g.peer; own = g.own; recv_is = g.recv_is ∙ f }

-- the state that it comes to is told otherwise
pub goes-to : (s z : State) (v : PlainRecv) (a b : PlainRdp) → s ≡ z → Goes s v a b → Goes z v a b
goes-to s z v a b e g = goes-as s z v v a b e refl g

goes-counted : (time : ℕ) (r : PlainRdp) → Goes r.state (confirmed r.recv) r (record r { recv = confirmed r.recv; owed = one_more_delivered time r.owed })
goes-counted time r = record { state_is = refl; was_open = refl; peer = refl; own = record { node = refl; nth = refl; send = same-send r.send }; recv_is = refl }

delivers-reached : (w : PlainRecv) (a b : PlainRdp) → Goes Open w a b → (o : Option ℕ) (time : ℕ) → Delivers w a (reset_after o time b)
delivers-reached w a b g None time = delivers g
delivers-reached w a b g (Some t) time = go (nat_le t (b.recv.cur + 1))
  where
    go : (c : Bool) → Delivers w a (if c then owes_rst (left Closed time b) else b)
    go true = resets (goes-as Closed Closed b.recv w a _ refl g.recv_is (goes-after Open w Closed b.recv a b _ g (goes-reset time b)))
    go false = delivers g

pub delivers-both : (time : ℕ) (r : PlainRdp) → r.state ≡ Open → Delivers (confirmed (without_next r.recv)) r (delivering time (without_delivery r))
delivers-both time r e =
    let taken = goes-taken r e in
    let d = without_delivery r in
    let c = record d { recv = confirmed d.recv; owed = one_more_delivered time d.owed } in
    delivers-reached (confirmed (without_next r.recv)) r c
    (goes-as d.state Open (confirmed d.recv) (confirmed (without_next r.recv)) r c taken.state_is (ap confirmed taken.recv_is)
    (goes-after Open (without_next r.recv) d.state (confirmed d.recv) r d c taken (goes-counted time d)))
    d.reset_at time

-- or kept again
pub goes-kept-again : (b : PlainBuffer) (r : PlainRdp) → r.state ≡ Open → Goes Open (with_kept (r.recv.cur + 1) b (without_next r.recv)) r (keeping_again b (without_delivery r))
goes-kept-again b r e =
    let taken = goes-taken r e in
    record {
      state_is = taken.state_is;
      was_open = taken.was_open;
      peer = taken.peer;
      own = record { node = taken.own.node; nth = taken.own.nth; send = taken.own.send };
      recv_is = ap (λ w. with_kept (w.cur + 1) b w) taken.recv_is;
    }

-- something is delivered in Open alone
pub delivers-open : (s : State) (r : PlainRdp) (b : PlainBuffer) → delivery_in s r ≡ Some b → s ≡ Open
delivers-open SynSent r b e = absurd cc
delivers-open SynRcvd r b e = absurd cc
delivers-open Open r b e = refl
delivers-open CloseWait r b e = absurd cc
delivers-open Closed r b e = absurd cc

-- ---- what is not needed any more is handed out

pub goes-rested : (r : PlainRdp) → Goes r.state (recv_rested r.state r.recv) r (rested r)
goes-rested r = record { state_is = refl; was_open = refl; peer = refl; own = record { node = refl; nth = refl; send = same-filtered (λ p. p.needed) r.send }; recv_is = refl }
