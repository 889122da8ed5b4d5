-- what a connection owes, and the packets that it makes
use Rattle.std.specs.Prelude.{ℕ, pos, ◌+◌, ◌==◌, ◌&&◌, ◌||◌, Bool, false, nat_lt, nat_le, is_some, unwrap_or, if◌then◌else◌, List, [], ◌++◌, Option, Some, None}
use Rattle.std.specs.List.{flat_map}
use Rattle.csp_base.specs.Sequence.{number_of}
use Rattle.csp_base.specs.declared.traces.Tag.{Tag}
use Rattle.csp_buffer.specs.PlainBuffer.{PlainBuffer, with_picture}
use Rattle.csp_rdp_header.specs.Head.{head_bytes, seq_bytes}
use Rattle.csp_rdp_header.specs.Options.{option_bytes}
use Rattle.csp_rdp_header.specs.declared.head.RdpHead.{RdpHead}
use Rattle.csp_rdp_header.specs.declared.head.TheConstants.{RST, EAK, ACK, SYN}
use Rattle.csp_rdp_window.specs.Receiving.{confirmed, kept_numbers, next_buffer, with_kept, without_next}
use Rattle.csp_rdp_window.specs.Sending.{admitted, due_index, payload_at, with_mark}
use Rattle.csp_rdp_window.specs.Times.{has_passed}
use Rattle.csp_rdp_window.specs.declared.pending.Mark.TheVariants.{Sent}
use Rattle.csp_rdp.specs.Machine.{PlainRdp, left, owes_rst, broken}
use Rattle.csp_rdp.specs.declared.answers.State.{State}
use Rattle.csp_rdp.specs.declared.answers.State.TheVariants.{Closed, SynSent, SynRcvd, Open, CloseWait}
use Rattle.csp_rdp.specs.declared.jobs.Job.{Job}
use Rattle.csp_rdp.specs.declared.jobs.Job.TheVariants as job
use Rattle.csp_rdp.specs.declared.jobs.Owed.{Owed}

-- ---- which job is owed

-- the opening packet or its answer: owed, or again after each packet timeout
abbrev pub is_syn_due : ℕ → PlainRdp → Bool
is_syn_due time r = r.owed.syn || has_passed r.owed.syn_sent r.options.packet_timeout time

-- an acknowledgement: owed at once, or of delivered packets: with delayed acknowledgements off, of more than the acknowledgement count, or since the acknowledgement timeout
abbrev pub is_ack_due : ℕ → PlainRdp → Bool
is_ack_due time r =
    r.owed.ack
    || (nat_lt 0 r.owed.delivered
    && (r.options.delayed == 0 || nat_lt r.options.ack_count r.owed.delivered || has_passed r.owed.first r.options.ack_timeout time))

-- by state: the first that is owed
abbrev pub job_in : State → ℕ → PlainRdp → Option Job
job_in SynSent time r = if is_syn_due time r then Some job.Syn else None
job_in SynRcvd time r = if is_syn_due time r then Some job.Syn else None
job_in Open time r =
    if is_some (next_buffer r.recv) then Some job.Deliver
    else if r.owed.eak then Some job.Eak
    else if is_some (due_index time r.options.packet_timeout r.send) then Some job.Data
    else if is_ack_due time r then Some job.Ack
    else None
job_in CloseWait time r = None
job_in Closed time r = None

-- a reset comes before all, in any state
abbrev pub job_of : ℕ → PlainRdp → Option Job
job_of time r = if r.owed.rst then Some job.Rst else job_in r.state time r

-- ---- the packet of a job

-- what a packet says: its flags, the true indices of its two numbers, and what stands before its head
pub record Says : Type 0 where
  pub flags : ℕ
  pub index : ℕ
  pub ack : ℕ
  pub bytes : List ℕ

-- the opening packet carries the options, and acknowledges nothing; its answer carries no data
abbrev pub syn_in : State → PlainRdp → Says
syn_in SynSent r = record { flags = SYN; index = 0; ack = 0; bytes = option_bytes r.options }
syn_in _ r = record { flags = SYN + ACK; index = 0; ack = r.recv.cur; bytes = [] }

-- the index of the packet that is due
abbrev pub sending_index : ℕ → PlainRdp → ℕ
sending_index time r = unwrap_or (due_index time r.options.packet_timeout r.send) 0

-- packets without an index of their own show the next one
abbrev pub says : Job → ℕ → PlainRdp → Says
says job.Rst time r = record { flags = RST + ACK; index = r.send.nxt; ack = r.recv.cur; bytes = [] }
says job.Syn time r = syn_in r.state r
says job.Deliver time r = record { flags = ACK; index = r.send.nxt; ack = r.recv.cur; bytes = [] }
says job.Eak time r = record { flags = EAK + ACK; index = r.send.nxt; ack = r.recv.cur; bytes = flat_map seq_bytes (kept_numbers r.recv) }
says job.Data time r = let index = sending_index time r in record { flags = ACK; index = index; ack = r.recv.cur; bytes = payload_at r.send index }
says job.Ack time r = record { flags = ACK; index = r.send.nxt; ack = r.recv.cur; bytes = [] }

-- the acknowledgement number: none in the opening packet
abbrev pub ack_number : Says → PlainRdp → ℕ
ack_number s r = if s.flags == SYN then 0 else number_of r.recv.start (pos s.ack)

-- a packet shows its indices as numbers
abbrev pub head_for : Says → PlainRdp → RdpHead
head_for s r = record { flags = s.flags; seq = record { 0 = number_of r.send.start (pos s.index) }; ack = record { 0 = ack_number s r } }

-- the record knows them by the tag
abbrev pub tag_for : Says → PlainRdp → Tag
tag_for s r = record { node = r.node; nth = r.nth; index = s.index; ack = s.ack }

-- a buffer filled with a packet: its bytes and its head, and its tag
abbrev pub headed : Says → RdpHead → PlainRdp → PlainBuffer → PlainBuffer
headed s h r b = with_picture b (record b.picture { payload = s.bytes ++ head_bytes h; trace = record { origin = None; hops = 0; tag = Some (tag_for s r) } })

-- a buffer filled with a packet that says this
abbrev pub filled_with : Says → PlainRdp → PlainBuffer → PlainBuffer
filled_with s r b = headed s (head_for s r) r b

-- a buffer filled with the packet of a job
abbrev pub filled : Job → ℕ → PlainRdp → PlainBuffer → PlainBuffer
filled j time r b = filled_with (says j time r) r b

-- ---- the connection once a packet is filled

-- a packet that acknowledges clears what is owed so
abbrev pub without_ack : Owed → Owed
without_ack o = record o { ack = false; delivered = 0; first = None }

-- what is owed once the opening packet was made
abbrev pub syn_owed_after : State → ℕ → Owed → Owed
syn_owed_after SynSent time o = record o { syn = false; syn_sent = Some time }
syn_owed_after _ time o = without_ack (record o { syn = false; syn_sent = Some time })

-- the connection once a job's packet was made
abbrev pub sent : Job → ℕ → PlainRdp → PlainRdp
sent job.Rst time r = record r { owed = without_ack (record r.owed { rst = false }) }
sent job.Syn time r = record r { owed = syn_owed_after r.state time r.owed }
sent job.Deliver time r = r
sent job.Eak time r = record r { owed = without_ack (record r.owed { eak = false }) }
sent job.Data time r = record r { send = with_mark (Sent (sending_index time r) time) r.send; owed = without_ack r.owed }
sent job.Ack time r = record r { owed = without_ack r.owed }

-- ---- the application's packets, deliveries, the timer, the close

-- a packet is admitted; the first that waits begins the timer anew
abbrev pub admitting : PlainBuffer → ℕ → PlainRdp → PlainRdp
admitting b time r = record r { send = admitted b r.send; since = if r.send.una == r.send.nxt then time else r.since }

-- in Open the next packet is delivered, where it is kept
abbrev pub delivery_in : State → PlainRdp → Option PlainBuffer
delivery_in Open r = next_buffer r.recv
delivery_in _ r = None

-- the packet that is delivered next, in Open, where it is kept
abbrev pub delivery : PlainRdp → Option PlainBuffer
delivery r = delivery_in r.state r

-- in Open, the receive window without the packet to be delivered
abbrev pub taken_in : State → PlainRdp → PlainRdp
taken_in Open r = record r { recv = without_next r.recv }
taken_in _ r = r

-- the connection while a packet is being delivered
abbrev pub without_delivery : PlainRdp → PlainRdp
without_delivery r = taken_in r.state r

-- a packet that its queue refused is kept again
abbrev pub keeping_again : PlainBuffer → PlainRdp → PlainRdp
keeping_again b r = record r { recv = with_kept (r.recv.cur + 1) b r.recv }

-- one more packet is delivered
abbrev pub one_more_delivered : ℕ → Owed → Owed
one_more_delivered time o = record o { delivered = o.delivered + 1; first = Some (unwrap_or o.first time) }

-- a reset that waits, once all before it is delivered
abbrev pub reset_after : Option ℕ → ℕ → PlainRdp → PlainRdp
reset_after None time r = r
reset_after (Some t) time r = if nat_le t (r.recv.cur + 1) then owes_rst (left Closed time r) else r

-- the connection once a packet was delivered
abbrev pub delivering : ℕ → PlainRdp → PlainRdp
delivering time r = reset_after r.reset_at time (record r { recv = confirmed r.recv; owed = one_more_delivered time r.owed })

-- what the timer does, by state
abbrev pub timed_out : State → ℕ → PlainRdp → PlainRdp
timed_out SynSent time r = left Closed time r
timed_out SynRcvd time r = left Closed time r
timed_out Open time r = if r.send.una == r.send.nxt then r else broken time r
timed_out CloseWait time r = left Closed time r
timed_out Closed time r = r

-- where the connection timeout has passed
abbrev pub ticked : ℕ → PlainRdp → PlainRdp
ticked time r = if has_passed (Some r.since) r.options.conn_timeout time then timed_out r.state time r else r

-- the application's close, by state
abbrev pub closed_in : State → ℕ → PlainRdp → PlainRdp
closed_in SynSent time r = left Closed time r
closed_in SynRcvd time r = broken time r
closed_in Open time r = broken time r
closed_in CloseWait time r = r
closed_in Closed time r = r

-- the application's close
abbrev pub closing : ℕ → PlainRdp → PlainRdp
closing time r = closed_in r.state time r
