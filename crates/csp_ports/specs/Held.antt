-- the buffers that a node's ports hold
use Rattle.std.specs.Prelude.{List, [], ◌∷◌, ◌++◌, Option, None, Some}
use Rattle.std.specs.List.{flat_map}
use Rattle.std.specs.Option.{option_map, option_to_list}
use Rattle.csp_buffer.specs.Content.{Content}
use Rattle.csp_buffer.specs.PlainBuffer.{PlainBuffer}
use Rattle.csp_ports.specs.Came.{pictures}
use Rattle.csp_ports.specs.PlainPorts.{PlainPorts, machine_in}
use Rattle.csp_ports.specs.declared.terms.SlotState.{SlotState}
use Rattle.csp_rdp.specs.Holding.{rdp_buffers, taken_out}

-- those of a slot: that of the packet that waits there, then those of its machine
abbrev pub slot_buffers : SlotState → List PlainBuffer
slot_buffers s = option_to_list s.stalled ++ rdp_buffers (machine_in s)

-- those of all slots, in their order
abbrev pub held_buffers : PlainPorts → List PlainBuffer
held_buffers p = flat_map slot_buffers p.slots

-- the buffers that a node's ports hold, in order
abbrev pub held : PlainPorts → List Content
held p = pictures (held_buffers p)

-- ---- at the end of a run they are taken out, one by one

-- a slot hands out its first buffer: the packet that waits, or else the first that its machine holds
abbrev pub handed_out : (waiting : Option PlainBuffer) → SlotState → SlotState
handed_out (Some _) s = record s { stalled = None }
handed_out None s = record s { machine = option_map taken_out s.machine }

-- the first slot that holds a buffer hands out its first
abbrev pub first_out : List PlainBuffer → SlotState → List SlotState → (rest : List SlotState) → List SlotState
first_out [] s ss rest = s ∷ rest
first_out (_ ∷ _) s ss rest = handed_out s.stalled s ∷ ss

-- the slots without the first buffer that any of them holds
abbrev pub without_held : List SlotState → List SlotState
without_held [] = []
without_held (s ∷ ss) = first_out (slot_buffers s) s ss (without_held ss)

-- the ports without the first buffer that they hold, at the end of a run
abbrev pub emptied : PlainPorts → PlainPorts
emptied p = record p { slots = without_held p.slots }
