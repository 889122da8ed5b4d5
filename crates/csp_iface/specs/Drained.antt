-- how an interface is emptied at the end of a run
use Rattle.std.specs.Prelude.{Option, Some, None}
use Rattle.csp_buffer.specs.Content.{Content}
use Rattle.csp_iface.specs.PlainIface.{PlainIface}

-- the interface without the first of its buffers: one to be given back, one that is sent, one accepted. Where it holds none it stays
abbrev pub without_first : (back sending accepted : Option Content) → PlainIface → PlainIface
without_first (Some _) sending accepted s = record s { back = None }
without_first None (Some _) accepted s = record s { sending = None }
without_first None None (Some _) s = record s { accepted = None }
without_first None None None s = s

-- the interface without the first buffer that it holds, at the end of a run
abbrev pub drained : PlainIface → PlainIface
drained s = without_first s.back s.sending s.accepted s
