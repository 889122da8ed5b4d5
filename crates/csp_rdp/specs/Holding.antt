-- the buffers of a connection
use Rattle.std.specs.Prelude.{ℕ, map, filter, List, [], ◌∷◌, ◌++◌, Option, Some, None}
use Rattle.csp_buffer.specs.PlainBuffer.{PlainBuffer}
use Rattle.csp_rdp_window.specs.Receiving.{PlainRecv, first_buffer, recv_numbers, without_first}
use Rattle.csp_rdp_window.specs.Sending.{PlainSend, drained, is_loose, loose_buffer, send_numbers}
use Rattle.csp_rdp_window.specs.declared.pending.Pending.{Pending}
use Rattle.csp_rdp.specs.Machine.{PlainRdp}
use Rattle.csp_rdp.specs.declared.answers.State.{State}
use Rattle.csp_rdp.specs.declared.answers.State.TheVariants.{Open}

-- the numbers of the buffers that its windows hold
abbrev pub rdp_numbers : PlainRdp → List ℕ
rdp_numbers r = send_numbers r.send ++ recv_numbers r.recv

-- the buffers that they hold: of the packets of the send window, then of what the receive window keeps
abbrev pub rdp_buffers : PlainRdp → List PlainBuffer
rdp_buffers r = map (λ p. p.buffer) r.send.packets ++ map (λ k. k.buffer) r.recv.kept

-- ---- all that it does not need any more

-- of the send window: the packets that are not needed
abbrev pub loose_buffers : PlainSend → List PlainBuffer
loose_buffers w = map (λ p. p.buffer) (filter is_loose w.packets)

-- of the receive window: all that is kept, where the connection is not open
abbrev pub useless_buffers : State → PlainRecv → List PlainBuffer
useless_buffers Open w = []
useless_buffers _ w = map (λ k. k.buffer) w.kept

-- all that a connection does not need any more, in the order in which it is handed out
abbrev pub unneeded : PlainRdp → List PlainBuffer
unneeded r = loose_buffers r.send ++ useless_buffers r.state r.recv

-- and the connection without it
abbrev pub recv_rested : State → PlainRecv → PlainRecv
recv_rested Open w = w
recv_rested _ w = record w { kept = [] }

-- the connection without all of that
abbrev pub rested : PlainRdp → PlainRdp
rested r = record r { send = record r.send { packets = filter (λ p. p.needed) r.send.packets }; recv = recv_rested r.state r.recv }

-- ---- the next that it hands out

-- what it does not need any more, by what the send window does not need: first that, then, once it is not open, what the receive window keeps
abbrev pub unneeded_in : State → PlainRdp → Option PlainBuffer
unneeded_in Open r = None
unneeded_in _ r = first_buffer r.recv.kept

-- this buffer, if there is one, and else what the receive window does not need
abbrev pub unneeded_or : Option PlainBuffer → PlainRdp → Option PlainBuffer
unneeded_or (Some b) r = Some b
unneeded_or None r = unneeded_in r.state r

-- the next buffer that a connection does not need any more, if there is one
abbrev pub unneeded_buffer : PlainRdp → Option PlainBuffer
unneeded_buffer r = unneeded_or (loose_buffer r.send) r

-- a connection that is not open, without the first packet that its receive window keeps
abbrev pub without_kept : State → PlainRdp → PlainRdp
without_kept Open r = r
without_kept _ r = record r { recv = record r.recv { kept = without_first r.recv.kept } }

-- the connection once that buffer was handed out, from either window
abbrev pub handing_out : Option PlainBuffer → PlainRdp → PlainRdp
handing_out (Some _) r = record r { send = drained r.send }
handing_out None r = without_kept r.state r

-- the connection without the next buffer that it does not need
abbrev pub without_unneeded : PlainRdp → PlainRdp
without_unneeded r = handing_out (loose_buffer r.send) r

-- ---- the end of a run: the first buffer is taken out, whatever it is

-- the first of the send window's packets; without one the first of what is kept
abbrev pub taken_out_of : List Pending → PlainRdp → PlainRdp
taken_out_of [] r = record r { recv = record r.recv { kept = without_first r.recv.kept } }
taken_out_of (_ ∷ ps) r = record r { send = record r.send { packets = ps } }

-- the connection without its first buffer, at the end of a run
abbrev pub taken_out : PlainRdp → PlainRdp
taken_out r = taken_out_of r.send.packets r
