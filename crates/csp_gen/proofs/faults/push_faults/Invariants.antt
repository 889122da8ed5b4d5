use Rattle.std.proofs.Common.{◌≡◌, ◌≤◌, ◌+◌, ◌*◌, ◌++◌, map}
use Rattle.std.specs.List.{range_with_len}
use Rattle.std.specs.String.{string_bytes}
use Rattle.csp_gen.specs.Lines.{text_of}
use Rattle.csp_gen.specs.GenText.{number_at, frame_at, fault_line}
use Rattle.csp_gen.proofs.faults.push_faults.Given as goal

-- after so many faults: the number and the frame of the last, and the lines of all of them
abbrev pub invariant-loop-fault : goal.invariant-loop-fault
invariant-loop-fault l = record {
  number : l.number ≡ number_at l.packets l.fault;
  frame : l.frame ≡ frame_at l.packets l.fault;
  low : l.frame ≤ 10 + 29 * l.fault;
  text : string_bytes l.out ≡ string_bytes l.initial.out ++ text_of (map (fault_line l.packets) (range_with_len 1 l.fault));
}
