-- what an interface keeps of what it sends, and of the stream that it receives on a KISS link
use Rattle.std.specs.Prelude.{ℕ, Bool, Option, List}
use Rattle.csp_arena.specs.Cells.{RegionName}
use Rattle.csp_base.specs.declared.traces.Trace.{Trace}
use Rattle.csp_buffer.specs.Content.{Content}
use Rattle.csp_kiss.specs.Reading.{Reading}
use Rattle.csp_log.specs.declared.frame.Frame.{Frame}

-- what an interface keeps of the packet whose transmission has begun
pub record PlainSender : Type 0 where
  -- the region of its buffer
  pub region : RegionName
  -- the packet whose transmission has begun
  pub packet : Option Content
  -- its frames that are left, the next first
  pub frames : List Frame
  -- whether the next one is made and here
  pub loaded : Bool

-- what an interface keeps of a KISS stream, and of the frame in hand
pub record PlainStream : Type 0 where
  -- what is kept of the stream so far
  pub reading : Reading
  -- the bytes of the frame in hand that are not read
  pub rest : List ℕ
  -- the trace of what is read in that frame
  pub trace : Trace
