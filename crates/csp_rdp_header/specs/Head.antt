-- the head of the reliable transport
use Rattle.std.specs.Prelude.{ℕ, ◌-◌, ◌==◌, Bool, not, bit_and, nat_lt, if◌then◌else◌, List, ◌∷◌, ◌++◌, length, take, drop, slice_index, Option, Some, None}
use Rattle.std.specs.Int.{to_be_bytes, from_be_bytes, w16}
use Rattle.csp_base.specs.declared.sequence.Seq.{Seq}
use Rattle.csp_rdp_header.specs.declared.head.RdpHead.{RdpHead}
use Rattle.csp_rdp_header.specs.declared.head.TheConstants.{HEAD_LEN}

-- a sequence number as two bytes, the most significant first
abbrev pub seq_bytes : Seq → List ℕ
seq_bytes s = to_be_bytes w16 s.0

-- the sequence number that two bytes are
abbrev pub seq_of : List ℕ → Seq
seq_of bytes = record { 0 = from_be_bytes w16 bytes }

-- the five bytes of a head: the flags, the sequence number, the acknowledgement number
abbrev pub head_bytes : RdpHead → List ℕ
head_bytes h = h.flags ∷ seq_bytes h.seq ++ seq_bytes h.ack

-- the head that five bytes are
abbrev pub head_of : List ℕ → RdpHead
head_of bytes = record { flags = slice_index bytes 0; seq = seq_of (take 2 (drop 1 bytes)); ack = seq_of (drop 3 bytes) }

-- a payload parted: what stands before its head, and the head; there is none where it is shorter than a head
abbrev pub parted : List ℕ → Option (List ℕ × RdpHead)
parted payload =
    let before = length payload - HEAD_LEN in
    if nat_lt (length payload) HEAD_LEN then None else Some (take before payload, head_of (drop before payload))

-- a head has this flag
abbrev pub has_flag : RdpHead → ℕ → Bool
has_flag h flag = not (bit_and h.flags flag == 0)
