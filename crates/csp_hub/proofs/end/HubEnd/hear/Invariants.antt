use Rattle.std.proofs.Common.{◌≡◌, ◌+◌, length}
use Rattle.std.specs.Prelude.{replicate}
use Rattle.csp_hub.specs.Telling.{copies_held}
use Rattle.csp_link.specs.Copies.{held_until}
use Rattle.csp_hub.proofs.end.HubEnd.hear.Given as goal

abbrev pub invariant-loop : goal.invariant-loop
invariant-loop l = record {
  held : l.self ≡ copies_held (replicate l.counter (held_until l.due l.frame)) l.initial.self;
  long : length l.self.held ≡ length l.initial.self.held + l.counter;
  boxes : l.initial.spares.boxes ≡ l.spares.boxes + l.counter;
  room : l.spares.room ≡ l.initial.spares.room;
}
