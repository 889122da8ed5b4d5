use Rattle.std.proofs.Common.{◌≡◌, Some, map}
use Rattle.std.specs.String.{string_bytes}
use Rattle.csp_trace.proofs.Owing.{owes_named}
use Rattle.csp_trace.specs.Modes.{mode_of}
use Rattle.csp_trace.proofs.command.trace_main.Goals as goal

pub returns-in-Some-clause-owes : goal.returns-in-Some-clause-owes
returns-in-Some-clause-owes g c = λ k named.
    let e = c.write_trace.ensures in
    let is : mode_of (map string_bytes c.args.words.now) ≡ Some c.in-Some.mode = cc in
    owes_named (mode_of (map string_bytes c.args.words.now)) c.in-Some.mode k _ _ _ is named (record {
      done = e.done;
      read = e.read;
      part = e.part;
      part_read = e.part_read;
      names = e.names;
      names_read = e.names_read;
      scene = e.scene;
      scene_read = e.scene_read;
      entries = e.entries;
      entries_read = e.entries_read;
      complete = e.complete;
    })
