-- the send window: packets that are not acknowledged yet, by their true indices
use Rattle.std.specs.Prelude.{ℕ, ◌+◌, ◌-◌, ◌==◌, ◌&&◌, ◌||◌, Bool, true, false, not, nat_lt, nat_le, max, fold, map, find, if◌then◌else◌, List, [], ◌∷◌, ◌++◌, Option, Some, None}
use Rattle.std.specs.List.{filter_map, list_any}
use Rattle.std.specs.Option.{option_map, option_map_or}
use Rattle.csp_base.specs.declared.sequence.Seq.{Seq}
use Rattle.csp_buffer.specs.PlainBuffer.{PlainBuffer}
use Rattle.csp_rdp_window.specs.Shown.{shown}
use Rattle.csp_rdp_window.specs.Times.{has_passed}
use Rattle.csp_rdp_window.specs.declared.pending.Mark.{Mark}
use Rattle.csp_rdp_window.specs.declared.pending.Mark.TheVariants.{Acknowledged, Listed, Abandoned, Sent, Missed}
use Rattle.csp_rdp_window.specs.declared.pending.Pending.{Pending}

-- a send window: the start of its flow, how many packets may be unacknowledged, the least unacknowledged index, the next index,
-- and the packets that it holds, in order of their indices; those that it does not need any more wait to be handed out
pub record PlainSend : Type 0 where
  pub start : ℕ
  pub window : ℕ
  pub una : ℕ
  pub nxt : ℕ
  pub packets : List Pending

-- a window without packets: index 0 is that of the packet that opens the connection, so data begins at 1
abbrev pub opening_send : ℕ → ℕ → PlainSend
opening_send start window = record { start = start; window = window; una = 1; nxt = 1; packets = [] }

-- the numbers of the buffers that it holds
abbrev pub send_numbers : PlainSend → List ℕ
send_numbers w = map (λ p. p.buffer.picture.number) w.packets

-- ---- what befalls a packet

-- it is needed only if it was and this holds
abbrev pub needed_if : Bool → Pending → Pending
needed_if stays p = record p { needed = p.needed && stays }

-- it is sent: nothing makes it due any more but the time
abbrev pub sent_at : ℕ → Pending → Pending
sent_at time p = record p { sent = Some time; due = false }

-- the receiver misses it: it is due again
abbrev pub missed_at : ℕ → Pending → Pending
missed_at time p = record p { due = true; asked = Some time }

-- acknowledged up to an index; listed as received; abandoned; sent; missed where it is needed and before the newest listed one, at most once per packet timeout
abbrev pub marked : Mark → Pending → Pending
marked (Acknowledged last) p = needed_if (nat_lt last p.index) p
marked (Listed index) p = needed_if (not (index == p.index)) p
marked Abandoned p = record p { needed = false }
marked (Sent index time) p = if p.index == index then sent_at time p else p
marked (Missed newest time timeout) p = if p.needed && nat_lt p.index newest && has_passed p.asked timeout time then missed_at time p else p

-- a window once this befell each of its packets
abbrev pub with_mark : Mark → PlainSend → PlainSend
with_mark m w = record w { packets = map (marked m) w.packets }

-- ---- admission

-- as many packets are unacknowledged as may be
abbrev pub is_full : PlainSend → Bool
is_full w = nat_le w.window (w.nxt - w.una)

-- a packet that was never sent
abbrev pub fresh : ℕ → PlainBuffer → Pending
fresh index buffer = record { index = index; buffer = buffer; needed = true; sent = None; due = false; asked = None }

-- a packet is admitted with the next index
abbrev pub admitted : PlainBuffer → PlainSend → PlainSend
admitted b w = record w { nxt = w.nxt + 1; packets = w.packets ++ fresh w.nxt b ∷ [] }

-- ---- acknowledgement

-- an index from una - 1 to nxt - 1
abbrev pub is_inside : PlainSend → ℕ → Bool
is_inside w t = nat_le w.una (t + 1) && nat_lt t w.nxt

-- an acknowledgement number is inside where the index that it shows is
abbrev pub acknowledges : PlainSend → ℕ → Bool
acknowledges w number = option_map_or (is_inside w) (shown number w.start w.una) false

-- an index inside moves una to one past it and frees older packets, an index outside moves nothing
abbrev pub acked_at : Option ℕ → PlainSend → PlainSend
acked_at None w = w
acked_at (Some t) w = if is_inside w t then record (with_mark (Acknowledged t) w) { una = t + 1 } else w

-- the window once a number was acknowledged
abbrev pub acked : ℕ → PlainSend → PlainSend
acked number w = acked_at (shown number w.start w.una) w

-- ---- extended acknowledgement

-- the index that a listed number shows, where it is from una to nxt - 1
abbrev pub among : PlainSend → ℕ → Option ℕ
among w t = if nat_le w.una t && nat_lt t w.nxt then Some t else None

-- the index that a listed number shows, if the window has it
abbrev pub listed_at : PlainSend → Option ℕ → Option ℕ
listed_at w None = None
listed_at w (Some t) = among w t

-- the listed indices; numbers that show others are ignored
abbrev pub listed : PlainSend → List Seq → List ℕ
listed w numbers = filter_map (λ n. listed_at w (shown n.0 w.start w.una)) numbers

-- the newest of them, 0 where there is none
abbrev pub newest_of : List ℕ → ℕ
newest_of ts = fold max 0 ts

-- the listed packets are freed
abbrev pub without_listed : List ℕ → PlainSend → PlainSend
without_listed ts w = record w { packets = map (λ p. needed_if (not (list_any (λ t. t == p.index) ts)) p) w.packets }

-- an extended acknowledgement: listed packets are not needed any more, and those that are still needed and older than the newest listed one are due again
abbrev pub list_heard : List Seq → ℕ → ℕ → PlainSend → PlainSend
list_heard numbers time timeout w = let ts = listed w numbers in with_mark (Missed (newest_of ts) time timeout) (without_listed ts w)

-- ---- sending

-- a packet is to be sent: it was never sent, an extended acknowledgement made it due, or the packet timeout has passed since it was last sent
abbrev pub is_due : ℕ → ℕ → Pending → Bool
is_due time timeout p = p.needed && (p.due || has_passed p.sent timeout time)

-- the least index that is due
abbrev pub due_index : ℕ → ℕ → PlainSend → Option ℕ
due_index time timeout w = option_map (λ p. p.index) (find (is_due time timeout) w.packets)

-- the packet of an index
abbrev pub packet_at : PlainSend → ℕ → Option Pending
packet_at w index = find (λ p. p.index == index) w.packets

-- the payload of the packet of an index
abbrev pub payload_at : PlainSend → ℕ → List ℕ
payload_at w index = option_map_or (λ p. p.buffer.picture.payload) (packet_at w index) []

-- ---- what is no longer needed

-- a packet is not needed any more
abbrev pub is_loose : Pending → Bool
is_loose p = not p.needed

-- the buffer that is handed out: that of the first packet that is not needed
abbrev pub loose_buffer : PlainSend → Option PlainBuffer
loose_buffer w = option_map (λ p. p.buffer) (find is_loose w.packets)

-- the packets without that one
abbrev pub without_loose : List Pending → List Pending
without_loose [] = []
without_loose (p ∷ ps) = if p.needed then p ∷ without_loose ps else ps

-- the window without the first packet that is not needed
abbrev pub drained : PlainSend → PlainSend
drained w = record w { packets = without_loose w.packets }

-- ---- the end of a run

-- the buffer of the first packet, whatever it is
abbrev pub first_pending : List Pending → Option PlainBuffer
first_pending [] = None
first_pending (p ∷ ps) = Some p.buffer
