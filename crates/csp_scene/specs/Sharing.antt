-- Which steps may share a slot of an application.
use Rattle.std.specs.Prelude.{ℕ, ◌≡◌, ◌==◌, ◌&&◌, Bool, true, false, List}
use Rattle.std.specs.List.{list_any}
use Rattle.csp_app.specs.Collecting.{collects_on}
use Rattle.csp_app.specs.PlainStep.{PlainStep}
use Rattle.csp_app.specs.PlainStep as step

-- a step sends packets on this slot, each as the step says
abbrev pub sends_packets : (slot : ℕ) → PlainStep → Bool
sends_packets slot (step.Send own bytes) = own == slot
sends_packets slot (step.Burst own count len) = own == slot
sends_packets slot _ = false

-- a step sends a blob on this slot
abbrev pub sends_blobs : (slot : ℕ) → PlainStep → Bool
sends_blobs slot (step.Blob own len size) = own == slot
sends_blobs slot _ = false

-- a step waits for packets of this slot
abbrev pub takes_packets : (slot : ℕ) → PlainStep → Bool
takes_packets slot (step.Recv own count rounds) = own == slot
takes_packets slot _ = false

-- two steps of one application that never stand together: on the same slot `blob` beside `send` or `burst`, and `collect` beside `recv`
abbrev pub excludes : PlainStep → PlainStep → Bool
excludes (step.Send slot bytes) other = sends_blobs slot other
excludes (step.Burst slot count len) other = sends_blobs slot other
excludes (step.Blob slot len size) other = sends_packets slot other
excludes (step.Recv slot count rounds) other = collects_on slot other
excludes (step.Collect slot count rounds) other = takes_packets slot other
excludes _ other = false

-- two steps use one slot in the same way, or the first uses none so: beside the second stands nothing that the first excludes
abbrev pub joins : PlainStep → PlainStep → Bool
joins (step.Send slot bytes) other = sends_packets slot other
joins (step.Burst slot count len) other = sends_packets slot other
joins (step.Blob slot len size) other = sends_blobs slot other
joins (step.Recv slot count rounds) other = takes_packets slot other
joins (step.Collect slot count rounds) other = collects_on slot other
joins _ other = true

-- on no slot of an application stands `blob` beside `send` or `burst`, and on none `collect` beside `recv`
pub record AreUnmixed (steps : List PlainStep) : Type 0 where
  pub sent : (slot : ℕ) → (list_any (sends_packets slot) steps && list_any (sends_blobs slot) steps) ≡ false
  pub taken : (slot : ℕ) → (list_any (takes_packets slot) steps && list_any (collects_on slot) steps) ≡ false
