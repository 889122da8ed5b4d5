-- how a bridge is emptied at the end of a run
use Rattle.std.specs.Prelude.{Option, Some, None}
use Rattle.csp_bridge.specs.PlainBridge.{PlainBridge}
use Rattle.csp_buffer.specs.Content.{Content}

-- the bridge without the first of its buffers: one discarded, one that is to go out. Where it holds none it stays
abbrev pub without_first : (trash out : Option Content) → PlainBridge → PlainBridge
without_first (Some _) out s = record s { trash = None }
without_first None (Some _) s = record s { out = None }
without_first None None s = s

-- the bridge without the first buffer that it holds, at the end of a run
abbrev pub drained : PlainBridge → PlainBridge
drained s = without_first s.trash s.out s
