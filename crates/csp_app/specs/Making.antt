-- the packets that steps send, and what an item has in it
use Rattle.std.specs.Prelude.{ℕ, ◌+◌, ◌*◌, ◌%◌, List, [], map, Option, Some, None}
use Rattle.std.specs.List.{range_with_len}
use Rattle.csp_app.specs.PlainStep.{PlainStep}
use Rattle.csp_app.specs.PlainStep as step
use Rattle.csp_app.specs.declared.packets.TheConstants.{FIRST_BYTE}
use Rattle.csp_base.specs.Trace.{no_trace}
use Rattle.csp_buffer.specs.Content.{Content}
use Rattle.csp_log.specs.declared.note.Note.{Note}
use Rattle.csp_log.specs.declared.places.TheConstants.{UNMARKED}
use Rattle.csp_log.specs.declared.shown.ItemShown.{ItemShown}
use Rattle.csp_log.specs.declared.shown.ItemShown.TheVariants as item
use Rattle.csp_sfp.specs.Pieces.{piece_at, piece_count}

-- the packets of one step: their mark and header word, how many they are, and the bytes of each by its number from 0
pub record Batch : Type 0 where
  pub mark : ℕ
  pub header : ℕ
  pub count : ℕ
  pub bytes : ℕ → List ℕ

-- packets for a slot: the router writes their headers
abbrev pub to_slot : ℕ → ℕ → (ℕ → List ℕ) → Batch
to_slot slot count bytes = record { mark = slot; header = 0; count = count; bytes = bytes }

-- one packet that is sent as it is
abbrev pub as_it_is : ℕ → List ℕ → Batch
as_it_is header bytes = record { mark = UNMARKED; header = header; count = 1; bytes = λ _. bytes }

-- no packets
abbrev pub no_packets : Batch
no_packets = record { mark = UNMARKED; header = 0; count = 0; bytes = λ _. [] }

-- packet j of a burst has as many bytes as the step says: j + i mod 256 for i from 0 up
abbrev pub burst_bytes : ℕ → ℕ → List ℕ
burst_bytes len j = map (λ i. (j + i) % 256) (range_with_len 0 len)

-- the bytes of a blob of this length: FIRST_BYTE + i mod 256 for i from 0 up
abbrev pub blob_bytes : (len : ℕ) → List ℕ
blob_bytes len = burst_bytes len FIRST_BYTE

-- packet j of a blob is its j-th piece
abbrev pub blob_piece : (len size j : ℕ) → List ℕ
blob_piece len size j = piece_at (blob_bytes len) size (j * size)

-- what each step sends
abbrev pub batch_of : PlainStep → Batch
batch_of step.Take = no_packets
batch_of step.Give = no_packets
batch_of (step.Bind _ _) = no_packets
batch_of (step.Connect _ _ _ _ _ _) = no_packets
batch_of (step.Send slot bytes) = to_slot slot 1 (λ _. bytes)
batch_of (step.Burst slot count len) = to_slot slot count (burst_bytes len)
batch_of (step.Blob slot len size) = to_slot slot (piece_count len size) (blob_piece len size)
batch_of (step.Raw header bytes) = as_it_is header bytes
batch_of (step.Recv _ _ _) = no_packets
batch_of (step.Collect _ _ _) = no_packets
batch_of (step.Close _) = no_packets
batch_of (step.Wait _) = no_packets

-- and the present one, where there is one
abbrev pub batch_at : Option PlainStep → Batch
batch_at None = no_packets
batch_at (Some step) = batch_of step

-- packet j of these, in this buffer
abbrev pub filled : Batch → ℕ → Content → Content
filled p j b = record { number = b.number; header = p.header; payload = p.bytes j; trace = no_trace }

-- the buffer, the mark and the note in an item
abbrev pub packet_in : ItemShown → Option Content
packet_in (item.Packet _ b) = Some b
packet_in (item.Frame _) = None
packet_in (item.Note _) = None

-- the mark of the packet in an item, and none in a frame or a note
abbrev pub mark_in : ItemShown → ℕ
mark_in (item.Packet mark _) = mark
mark_in (item.Frame _) = UNMARKED
mark_in (item.Note _) = UNMARKED

-- the note in an item, if it is one
abbrev pub note_in : ItemShown → Option Note
note_in (item.Packet _ _) = None
note_in (item.Frame _) = None
note_in (item.Note n) = Some n
