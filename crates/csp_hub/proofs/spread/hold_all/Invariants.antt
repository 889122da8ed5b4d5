use Rattle.std.proofs.Common.{◌≡◌, ◌+◌, ◌*◌, ◌++◌, map, take, drop}
use Rattle.std.specs.Prelude.{replicate}
use Rattle.csp_hub.specs.Telling.{copies_held}
use Rattle.csp_link.specs.Copies.{held_until}
use Rattle.csp_hub.proofs.spread.hold_all.Given as goal

abbrev pub invariant-loop-end : goal.invariant-loop-end
invariant-loop-end l = record {
  held : l.ends ≡ map (copies_held (replicate l.copies (held_until l.due l.frame))) (take l.end-index l.fn.ends) ++ drop l.end-index l.fn.ends;
  boxes : l.initial.spares.boxes ≡ l.spares.boxes + l.end-index * l.copies;
  room : l.spares.room ≡ l.initial.spares.room;
}
