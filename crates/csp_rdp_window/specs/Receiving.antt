-- the receive window: packets that came and are not delivered yet, by their true indices
use Rattle.std.specs.Prelude.{ℕ, pos, ◌+◌, ◌*◌, ◌==◌, ◌&&◌, Bool, not, nat_lt, nat_le, map, find, filter, if◌then◌else◌, List, [], ◌∷◌, Option, Some, None}
use Rattle.std.specs.List.{list_any}
use Rattle.std.specs.Option.{option_map}
use Rattle.csp_base.specs.Sequence.{number_of}
use Rattle.csp_base.specs.declared.sequence.Seq.{Seq}
use Rattle.csp_buffer.specs.PlainBuffer.{PlainBuffer}
use Rattle.csp_rdp_window.specs.Shown.{shown}
use Rattle.csp_rdp_window.specs.declared.receive.Offer.{Offer}
use Rattle.csp_rdp_window.specs.declared.receive.Offer.TheVariants as offer

-- a packet that is kept, with its true index
pub record Kept : Type 0 where
  pub index : ℕ
  pub buffer : PlainBuffer

-- a receive window: the start of its flow, how many packets may be unacknowledged at the sender, the last index that was delivered,
-- and what is kept, in order of the indices
pub record PlainRecv : Type 0 where
  pub start : ℕ
  pub window : ℕ
  pub cur : ℕ
  pub kept : List Kept

-- a window without packets: index 0 is that of the packet that opened the connection
abbrev pub opening_recv : ℕ → ℕ → PlainRecv
opening_recv start window = record { start = start; window = window; cur = 0; kept = [] }

-- the numbers of the buffers that it holds
abbrev pub recv_numbers : PlainRecv → List ℕ
recv_numbers w = map (λ k. k.buffer.picture.number) w.kept

-- ---- keeping

-- the true index that a number shows
abbrev pub index_in : PlainRecv → ℕ → Option ℕ
index_in w number = shown number w.start w.cur

-- an index from cur + 1 to cur + 2W
abbrev pub is_awaited : PlainRecv → ℕ → Bool
is_awaited w t = nat_lt w.cur t && nat_le t (w.cur + 2 * w.window)

-- the packet of this index is kept
abbrev pub is_kept : PlainRecv → ℕ → Bool
is_kept w t = list_any (λ k. k.index == t) w.kept

-- what is kept, with a packet more in its order
abbrev pub kept_with : ℕ → PlainBuffer → List Kept → List Kept
kept_with t b [] = record { index = t; buffer = b } ∷ []
kept_with t b (k ∷ ks) = if nat_lt t k.index then record { index = t; buffer = b } ∷ k ∷ ks else k ∷ kept_with t b ks

-- the window with a packet more, in the order of indices
abbrev pub with_kept : ℕ → PlainBuffer → PlainRecv → PlainRecv
with_kept t b w = record w { kept = kept_with t b w.kept }

-- a packet that is offered is outside, kept already, or kept from now on
abbrev pub offered_at : Option ℕ → PlainBuffer → PlainRecv → Offer × PlainRecv
offered_at None b w = (offer.Outside b, w)
offered_at (Some t) b w =
    if not (is_awaited w t) then (offer.Outside b, w)
    else if is_kept w t then (offer.Duplicate b, w)
    else (offer.Kept, with_kept t b w)

-- what becomes of a packet with this number, and the window then
abbrev pub offered : ℕ → PlainBuffer → PlainRecv → Offer × PlainRecv
offered number b w = offered_at (index_in w number) b w

-- ---- delivery

-- the next packet in order, where it is kept
abbrev pub next_buffer : PlainRecv → Option PlainBuffer
next_buffer w = option_map (λ k. k.buffer) (find (λ k. k.index == w.cur + 1) w.kept)

-- the window without the packet that is delivered next
abbrev pub without_next : PlainRecv → PlainRecv
without_next w = record w { kept = filter (λ k. not (k.index == w.cur + 1)) w.kept }

-- the window once that packet is delivered
abbrev pub confirmed : PlainRecv → PlainRecv
confirmed w = record w { cur = w.cur + 1 }

-- ---- what is kept

-- the numbers of the packets kept, in order
abbrev pub kept_numbers : PlainRecv → List Seq
kept_numbers w = map (λ k. record { 0 = number_of w.start (pos k.index) }) w.kept

-- the first index from this one on that is not among those kept, which are in order
abbrev pub missing_from : ℕ → List Kept → ℕ
missing_from t [] = t
missing_from t (k ∷ ks) = if k.index == t then missing_from (t + 1) ks else t

-- the first index after cur that is not kept
abbrev pub first_missing : PlainRecv → ℕ
first_missing w = missing_from (w.cur + 1) w.kept

-- the first of what is kept, and the rest
abbrev pub first_buffer : List Kept → Option PlainBuffer
first_buffer [] = None
first_buffer (k ∷ ks) = Some k.buffer

-- what is kept without its first packet
abbrev pub without_first : List Kept → List Kept
without_first [] = []
without_first (k ∷ ks) = ks
