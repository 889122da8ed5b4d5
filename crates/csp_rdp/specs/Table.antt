-- the table of states: what happens to a packet, one row a case
use Rattle.std.specs.Prelude.{ℕ, ◌+◌, ◌==◌, ◌&&◌, ◌||◌, Bool, true, false, not, min, if◌then◌else◌, List, length, Option, Some, None}
use Rattle.csp_base.specs.declared.traces.Tag.{Tag}
use Rattle.csp_buffer.specs.PlainBuffer.{PlainBuffer}
use Rattle.csp_rdp_header.specs.Head.{has_flag}
use Rattle.csp_rdp_header.specs.Numbers.{is_malformed, numbers_of}
use Rattle.csp_rdp_header.specs.declared.head.RdpHead.{RdpHead}
use Rattle.csp_rdp_header.specs.declared.head.TheConstants.{RST, EAK, ACK, SYN}
use Rattle.csp_rdp_window.specs.Receiving.{index_in, is_awaited, is_kept, first_missing, with_kept}
use Rattle.csp_rdp_window.specs.Sending.{acked, acknowledges, list_heard}
use Rattle.csp_rdp.specs.Machine.{PlainRdp, started, opened, left, owes_rst, owes_syn, owes_eak, owes_ack, broken}
use Rattle.csp_rdp.specs.declared.answers.State.{State}
use Rattle.csp_rdp.specs.declared.answers.State.TheVariants.{Closed, SynSent, SynRcvd, Open, CloseWait}
use Rattle.csp_rdp.specs.declared.rows.StateRow.{StateRow}
use Rattle.csp_rdp.specs.declared.rows.StateRow.TheVariants as row

-- ---- which row a packet comes to

-- SynRcvd, Open: a reset is in sequence where its index is the first after cur that is not kept
abbrev pub reset_row : PlainRdp → Option ℕ → StateRow
reset_row r None = row.Stray
reset_row r (Some t) =
    if not (t == first_missing r.recv) then row.Stray
    else if t == r.recv.cur + 1 then row.Reset
    else row.ResetAt t

-- Open: data, by its index
abbrev pub data_row : PlainRdp → Option ℕ → StateRow
data_row r None = row.Outside
data_row r (Some t) =
    if not (is_awaited r.recv t) then row.Outside
    else if is_kept r.recv t then row.Duplicate
    else row.Data t

-- Open: an acknowledgement, with a list, without data, or with data
abbrev pub ack_row : PlainRdp → RdpHead → List ℕ → StateRow
ack_row r h bytes =
    if has_flag h EAK then row.Lists
    else if length bytes == 0 then row.Acknowledges
    else data_row r (index_in r.recv h.seq.0)

-- a list that is none
abbrev pub is_bad_list : RdpHead → List ℕ → Bool
is_bad_list h bytes = has_flag h EAK && is_malformed bytes

-- SynSent: a reset, the answer that acknowledges the start, any other
abbrev pub syn_sent_row : PlainRdp → RdpHead → StateRow
syn_sent_row r h =
    if has_flag h RST then row.Refused
    else if has_flag h SYN && has_flag h ACK && h.ack.0 == r.send.start then row.Answered
    else row.Stray

-- SynRcvd: a reset, the first packet once more, what breaks it off, a bad list, an acknowledgement of the start, any other
abbrev pub syn_rcvd_row : PlainRdp → RdpHead → List ℕ → StateRow
syn_rcvd_row r h bytes =
    if has_flag h RST then reset_row r (index_in r.recv h.seq.0)
    else if has_flag h SYN && not (has_flag h ACK) && h.seq.0 == r.recv.start then row.Repeated
    else if has_flag h SYN || not (has_flag h ACK) then row.Broken
    else if is_bad_list h bytes then row.Stray
    else if h.ack.0 == r.send.start then ack_row r h bytes
    else row.Stray

-- Open: a reset, the first packet once more, what breaks it off, a bad list, an acknowledgement
abbrev pub open_row : PlainRdp → RdpHead → List ℕ → StateRow
open_row r h bytes =
    if has_flag h RST then reset_row r (index_in r.recv h.seq.0)
    else if has_flag h SYN && h.seq.0 == r.recv.start then row.Late
    else if has_flag h SYN || not (has_flag h ACK) then row.Broken
    else if is_bad_list h bytes then row.Stray
    else ack_row r h bytes

-- CloseWait: a reset, any other
abbrev pub close_wait_row : RdpHead → StateRow
close_wait_row h = if has_flag h RST then row.Ended else row.Stray

-- by state; a reset is tried before SYN and ACK
abbrev pub row_in : State → PlainRdp → RdpHead → List ℕ → StateRow
row_in SynSent r h bytes = syn_sent_row r h
row_in SynRcvd r h bytes = syn_rcvd_row r h bytes
row_in Open r h bytes = open_row r h bytes
row_in CloseWait r h bytes = close_wait_row h
row_in Closed r h bytes = row.Stray

-- the row of the table of states that a packet comes to
abbrev pub row_of : PlainRdp → RdpHead → List ℕ → StateRow
row_of r h bytes = row_in r.state r h bytes

-- ---- what happens in it

-- an acknowledgement opens a connection in SynRcvd
abbrev pub entered_from : State → ℕ → PlainRdp → PlainRdp
entered_from SynRcvd time r = opened time r
entered_from _ time r = r

-- a connection that was waiting for its opening is open; another stays as it is
abbrev pub entered : ℕ → PlainRdp → PlainRdp
entered time r = entered_from r.state time r

-- where una moved, the timer begins anew
abbrev pub since_moved : ℕ → ℕ → ℕ → ℕ → ℕ
since_moved before after time since = if after == before then since else time

-- the send window hears the acknowledgement number
abbrev pub acknowledged : ℕ → ℕ → PlainRdp → PlainRdp
acknowledged number time r = let send = acked number r.send in record r { send = send; since = since_moved r.send.una send.una time r.since }

-- and the list, where the number was inside
abbrev pub listing : Bool → List ℕ → ℕ → PlainRdp → PlainRdp
listing false bytes time r = r
listing true bytes time r = record r { send = list_heard (numbers_of bytes) time r.options.packet_timeout r.send }

-- the least index of a reset that waits
abbrev pub least : Option ℕ → ℕ → Option ℕ
least None t = Some t
least (Some s) t = Some (min s t)

-- a packet is kept; where it is not the next, an extended acknowledgement is owed
abbrev pub keeping : ℕ → PlainBuffer → PlainRdp → PlainRdp
keeping t p r = record r { recv = with_kept t p r.recv; owed = record r.owed { eak = r.owed.eak || not (t == r.recv.cur + 1) } }

-- the connection after a packet with this head and tag, which came to this row
abbrev pub after : StateRow → RdpHead → Option Tag → PlainBuffer → ℕ → PlainRdp → PlainRdp
after row.Stray h tag p time r = r
after row.Refused h tag p time r = left Closed time r
after row.Answered h tag p time r = owes_ack (opened time (started h.seq.0 tag r))
after row.Repeated h tag p time r = owes_syn r
after row.Late h tag p time r = owes_ack r
after row.Reset h tag p time r = owes_rst (left Closed time r)
after (row.ResetAt t) h tag p time r = record r { reset_at = least r.reset_at t }
after row.Broken h tag p time r = broken time r
after row.Ended h tag p time r = left Closed time r
after row.Acknowledges h tag p time r = acknowledged h.ack.0 time (entered time r)
after row.Lists h tag p time r = listing (acknowledges r.send h.ack.0) p.picture.payload time (acknowledged h.ack.0 time (entered time r))
after row.Outside h tag p time r = owes_eak (entered time r)
after row.Duplicate h tag p time r = acknowledged h.ack.0 time (entered time r)
after (row.Data t) h tag p time r = keeping t p (acknowledged h.ack.0 time (entered time r))

-- the connection has no use for the packet
abbrev pub is_stray : StateRow → Bool
is_stray row.Stray = true
is_stray row.Late = true
is_stray row.Outside = true
is_stray row.Duplicate = true
is_stray row.Refused = false
is_stray row.Answered = false
is_stray row.Repeated = false
is_stray row.Reset = false
is_stray (row.ResetAt _) = false
is_stray row.Broken = false
is_stray row.Ended = false
is_stray row.Acknowledges = false
is_stray row.Lists = false
is_stray (row.Data _) = false

-- the packet's buffer is handed back, where it is not kept
abbrev pub back_of : StateRow → PlainBuffer → Option PlainBuffer
back_of (row.Data _) p = None
back_of _ p = Some p

-- the connection after a packet, by the row that it comes to
abbrev pub after_packet : RdpHead → Option Tag → PlainBuffer → ℕ → PlainRdp → PlainRdp
after_packet h tag p time r = after (row_of r h p.picture.payload) h tag p time r
