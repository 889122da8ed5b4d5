use Rattle.std.specs.Prelude.{◌≡◌, ◌+◌, length}
use Rattle.csp_base.specs.declared.limits.TheConstants.{MAX_PAYLOAD}
use Rattle.csp_arena.specs.Cells.{RegionName, PlainCell}
use Rattle.csp_buffer.specs.Content.{Content, cleared}

-- a packet buffer: the picture of what it holds, and the region that its cell is of
pub record PlainBuffer : Type 0 where
  pub picture : Content
  pub region : RegionName

-- the buffer with this picture in place of its own; its region stays
abbrev pub with_picture : PlainBuffer → Content → PlainBuffer
with_picture b picture = record { picture = picture; region = b.region }

-- the buffer with nothing in it: its number and its region stay
abbrev pub emptied : PlainBuffer → PlainBuffer
emptied b = with_picture b (cleared b.picture.number)

-- the cleared buffer that a cell makes: of its number and of its region
abbrev pub buffer_of : PlainCell → PlainBuffer
buffer_of c = record { picture = cleared c.number; region = c.region }

-- a cell is fit for a buffer: it has room for a payload and a header word
abbrev pub IsBufferCell : PlainCell → Type 0
IsBufferCell c = length c.bytes ≡ MAX_PAYLOAD + 4
