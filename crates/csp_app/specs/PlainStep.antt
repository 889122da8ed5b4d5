-- the steps of a script as contracts see them, each with the bytes of its packet
use Rattle.std.specs.Prelude.{ℕ, ◌≤◌, Option, List, [], length}
use Rattle.csp_base.specs.declared.limits.TheConstants.{MAX_PAYLOAD}
use Rattle.csp_base.specs.declared.priority.Prio.{Prio}

-- a step: the variants of `Step`
pub data PlainStep : Type 0 where
  Take : PlainStep
  Give : PlainStep
  Bind : (port need : ℕ) → PlainStep
  Connect : (slot dest port : ℕ) → (prio : Prio) → (flags : ℕ) → (from : Option ℕ) → PlainStep
  Send : (slot : ℕ) → (bytes : List ℕ) → PlainStep
  Burst : (slot count len : ℕ) → PlainStep
  Blob : (slot len size : ℕ) → PlainStep
  Raw : (header : ℕ) → (bytes : List ℕ) → PlainStep
  Recv : (slot count : ℕ) → (rounds : Option ℕ) → PlainStep
  Collect : (slot count : ℕ) → (rounds : Option ℕ) → PlainStep
  Close : (slot : ℕ) → PlainStep
  Wait : (rounds : ℕ) → PlainStep

-- the bytes that a step gives for its packet, or none
abbrev pub bytes_of : PlainStep → List ℕ
bytes_of (Send _ bytes) = bytes
bytes_of (Raw _ bytes) = bytes
bytes_of Take = []
bytes_of Give = []
bytes_of (Bind _ _) = []
bytes_of (Connect _ _ _ _ _ _) = []
bytes_of (Burst _ _ _) = []
bytes_of (Blob _ _ _) = []
bytes_of (Recv _ _ _) = []
bytes_of (Collect _ _ _) = []
bytes_of (Close _) = []
bytes_of (Wait _) = []

-- they are no more than those of a packet
abbrev pub IsOfPacket : PlainStep → Type 0
IsOfPacket step = length (bytes_of step) ≤ MAX_PAYLOAD
