use Rattle.std.proofs.Common.{◌≡◌, Ok, map}
use Rattle.std.specs.String.{string_bytes}
use Rattle.csp_top.proofs.Owing.{owes_named}
use Rattle.csp_words.specs.Grammar.{command_of}
use Rattle.csp_words.specs.declared.grammar.Command.TheVariants as command
use Rattle.csp_top.proofs.command.csp_main.Goals as goal

pub returns-in-Ok-Sim-clause-owes : goal.returns-in-Ok-Sim-clause-owes
returns-in-Ok-Sim-clause-owes g c = λ k named.
    let e = c.sim_main.ensures in
    let is : command_of (map string_bytes c.args.words.now) ≡ Ok command.Sim = cc in
    owes_named (command_of (map string_bytes c.args.words.now)) command.Sim k _ _ _ is named (record {
      report = record { done = e.done; places = e.places; reliable = e.reliable; read = e.read; part = e.part; part_read = e.part_read; scene = e.scene; scene_read = e.scene_read };
      entries = e.entries;
      entries_read = e.entries_read;
      complete = e.complete;
    })

pub returns-in-Ok-Run-clause-owes : goal.returns-in-Ok-Run-clause-owes
returns-in-Ok-Run-clause-owes g c = λ k named.
    let e = c.run_main.ensures in
    let is : command_of (map string_bytes c.args.words.now) ≡ Ok (command.Run c.in-Ok-Run.workers) = cc in
    owes_named (command_of (map string_bytes c.args.words.now)) (command.Run c.in-Ok-Run.workers) k _ _ _ is named (record {
      report = record { done = e.done; places = e.places; reliable = e.reliable; read = e.read; part = e.part; part_read = e.part_read; scene = e.scene; scene_read = e.scene_read };
      no_entries = e.no_entries;
      complete = e.complete;
    })

pub returns-in-Ok-Gen-clause-owes : goal.returns-in-Ok-Gen-clause-owes
returns-in-Ok-Gen-clause-owes g c = λ k named.
    let e = c.gen_main.ensures in
    let is : command_of (map string_bytes c.args.words.now) ≡ Ok (command.Gen c.in-Ok-Gen.packets) = cc in
    owes_named (command_of (map string_bytes c.args.words.now)) (command.Gen c.in-Ok-Gen.packets) k _ _ _ is named (record {
      done = e.done;
      places = e.places;
      part = e.part;
      no_reading = e.no_reading;
      no_scene = e.no_scene;
      no_limit = e.no_limit;
      report = e.report;
      complete = e.complete;
    })

pub returns-in-Ok-Tap-clause-owes : goal.returns-in-Ok-Tap-clause-owes
returns-in-Ok-Tap-clause-owes g c = λ k named.
    let e = c.tap_main.ensures in
    let is : command_of (map string_bytes c.args.words.now) ≡ Ok (command.Tap c.in-Ok-Tap.cover) = cc in
    owes_named (command_of (map string_bytes c.args.words.now)) (command.Tap c.in-Ok-Tap.cover) k _ _ _ is named (record {
      done = e.done;
      read = e.read;
      part = e.part;
      part_read = e.part_read;
      no_scene = e.no_scene;
      no_entries = e.no_entries;
      complete = e.complete;
    })
