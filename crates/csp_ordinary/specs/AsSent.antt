-- A packet that is as it was sent, by the transmission that its origin names.
use Rattle.std.specs.Prelude.{◌≡◌, ℕ, Some, List}
use Rattle.csp_base.specs.declared.traces.Origin.{Origin}
use Rattle.csp_base.specs.declared.traces.Trace.{Trace}
use Rattle.csp_buffer.specs.Content.{Content}
use Rattle.csp_log.specs.declared.shown.ItemShown.{ItemShown}
use Rattle.csp_log.specs.declared.shown.ItemShown.TheVariants as item
use Rattle.csp_record.specs.Record.{PlainRecord}
use Rattle.csp_record.specs.Transmissions.{transmission}

-- a header and a payload are those of the transmission that a trace names
pub record IsAsSent (r : PlainRecord) (header : ℕ) (payload : List ℕ) (t : Trace) : Type 0 where
  pub origin : Origin
  pub named : t.origin ≡ Some origin
  pub sent : Content
  pub shown : transmission r origin ≡ Some sent
  pub header_is : sent.header ≡ header
  pub payload_is : sent.payload ≡ payload

-- an item is a packet with the header and the payload of the transmission that its trace names
abbrev pub IsPacketAsSent : PlainRecord → ItemShown → Type 0
IsPacketAsSent r (item.Packet mark b) = IsAsSent r b.header b.payload b.trace
IsPacketAsSent r (item.Frame _) = ⊥
IsPacketAsSent r (item.Note _) = ⊥
