-- Flows: each reliable connection of a node has one, of the payloads that it sends. What a packet with a tag says is true of the tag's flow.
use Rattle.std.specs.Prelude.{◌≡◌, ℕ, pos, ◌-◌, ◌<◌, ◌≤◌, ◌==◌, ◌&&◌, ◌++◌, Bool, true, false, not, Some, List, length, slice_get}
use Rattle.csp_base.specs.Sequence.{number_of}
use Rattle.csp_base.specs.declared.traces.Tag.{Tag}
use Rattle.csp_buffer.specs.Content.{Content}
use Rattle.csp_crc.specs.Crc.{checked}
use Rattle.csp_header.specs.Word.{header_at}
use Rattle.csp_rdp.specs.Machine.{flow_of}
use Rattle.csp_rdp_header.specs.Head.{has_flag, head_bytes}
use Rattle.csp_rdp_header.specs.declared.head.RdpHead.{RdpHead}
use Rattle.csp_rdp_header.specs.declared.head.TheConstants.{ACK, EAK, RST, SYN}
use Rattle.csp_stack.specs.Readings.{is_checked}

-- of each flow, named by its node and its number there: all that was sent on it, and the number that shows its index 0
pub record Flows : Type 0 where
  pub said : ℕ × ℕ → List (List ℕ)
  pub start : ℕ × ℕ → ℕ

-- the payload of this index, from 1 up
pub record IsSaid (said : List (List ℕ)) (index : ℕ) (payload : List ℕ) : Type 0 where
  pub low : 1 ≤ index
  pub there : slice_get said (index - 1) ≡ Some payload

-- a packet that carries a payload: an acknowledgement that is nothing else, with at least one byte
abbrev pub is_data : RdpHead → List ℕ → Bool
is_data h bytes = has_flag h ACK && not (has_flag h RST) && not (has_flag h SYN) && not (has_flag h EAK) && not (length bytes == 0)

-- what a head and the bytes before it say is true of the tag's flow: an opening packet shows the start, and one with a payload the payload's
-- index; and both its numbers are of sixteen bits
pub record IsTrueOf (flows : Flows) (tag : Tag) (h : RdpHead) (bytes : List ℕ) : Type 0 where
  pub range : (h.seq.0 < 65536) × (h.ack.0 < 65536)
  pub syn : has_flag h SYN ≡ true → h.seq.0 ≡ flows.start (flow_of tag)
  pub number : is_data h bytes ≡ true → h.seq.0 ≡ number_of (flows.start (flow_of tag)) (pos tag.index)
  pub payload : is_data h bytes ≡ true → IsSaid (flows.said (flow_of tag)) tag.index bytes

-- bytes with their checksum, where there is to be one
abbrev pub with_checksum : (is_checked : Bool) → List ℕ → List ℕ
with_checksum true bytes = checked bytes
with_checksum false bytes = bytes

-- a packet with this tag is filled with such bytes and such a head, and has a checksum where its header says so
pub record IsFilledFor (flows : Flows) (b : Content) (tag : Tag) : Type 0 where
  pub head : RdpHead
  pub bytes : List ℕ
  pub payload : b.payload ≡ with_checksum (is_checked (header_at b.header)) (bytes ++ head_bytes head)
  pub true_of : IsTrueOf flows tag head bytes

-- a packet is genuine: where it has a tag, it is filled so
abbrev pub IsGenuine : Flows → Content → Type 0
IsGenuine flows b = (tag : Tag) → b.trace.tag ≡ Some tag → IsFilledFor flows b tag
