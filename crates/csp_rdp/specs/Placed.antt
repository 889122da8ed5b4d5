-- the machine of a connection whose buffers lie in another region: no step of it looks at where they lie
use Rattle.std.specs.Prelude.{map}
use Rattle.csp_arena.specs.Cells.{RegionName}
use Rattle.csp_buffer.specs.PlainBuffer.{PlainBuffer}
use Rattle.csp_rdp_window.specs.Receiving.{Kept}
use Rattle.csp_rdp_window.specs.declared.pending.Pending.{Pending}
use Rattle.csp_rdp.specs.Machine.{PlainRdp}

-- a buffer with the same picture, of this region
abbrev pub placed_buffer : RegionName → PlainBuffer → PlainBuffer
placed_buffer n b = record { picture = b.picture; region = n }

-- the packets of the two windows in such buffers
abbrev pub placed_pending : RegionName → Pending → Pending
placed_pending n p = record p { buffer = placed_buffer n p.buffer }

-- a kept packet in a buffer of another region
abbrev pub placed_kept : RegionName → Kept → Kept
placed_kept n k = record k { buffer = placed_buffer n k.buffer }

-- the machine with all its buffers of this region
abbrev pub placed : RegionName → PlainRdp → PlainRdp
placed n r = record r {
  send = record r.send { packets = map (placed_pending n) r.send.packets };
  recv = record r.recv { kept = map (placed_kept n) r.recv.kept };
}
