-- the region of the buffers of a connection
use Rattle.std.specs.Prelude.{◌≡◌, ⊤, List, [], ◌∷◌, map, Option, IfSome}
use Rattle.csp_arena.specs.Cells.{RegionName}
use Rattle.csp_buffer.specs.PlainBuffer.{PlainBuffer}
use Rattle.csp_rdp.specs.Machine.{PlainRdp}

-- buffers are all of this region
abbrev pub AreIn : RegionName → List PlainBuffer → Type 0
AreIn name [] = ⊤
AreIn name (b ∷ bs) = (b.region ≡ name) × AreIn name bs

-- a buffer is, if there is one
abbrev pub IsIn : RegionName → Option PlainBuffer → Type 0
IsIn name o = IfSome o (λ b. b.region ≡ name)

-- the buffers of both windows are
pub record AreAllIn (name : RegionName) (r : PlainRdp) : Type 0 where
  pub sending : AreIn name (map (λ p. p.buffer) r.send.packets)
  pub kept : AreIn name (map (λ k. k.buffer) r.recv.kept)
