use Rattle.std.proofs.Common.{ap, sym, ◌∙◌, refl}
use Rattle.csp_deck.specs.Keeping.{PlainPile}
use Rattle.csp_ports.proofs.Letting.{next_in, next_joins, next_room}
use Rattle.csp_rdp.specs.Holding.{unneeded}
use Rattle.csp_ports.proofs.steps.let_go.Goals as goal

pub add-requires-clause-room : goal.add-requires-clause-room
add-requires-clause-room c =
    let l = c.loop-buffer in
    rw l.invariant.2 (next_room l.trash.contents c.args.trash.now.contents (unneeded l.machine) (unneeded c.args.machine.now) (unneeded c.drain.new.self) c.in-Some.buffer c.args.trash.now.room l.invariant.1 c.in-Some.ensures.all.0 c.requires.room)

pub add-requires-clause-of_it : goal.add-requires-clause-of_it
add-requires-clause-of_it c =
    let l = c.loop-buffer in
    let name = c.args.trash.now.region in
    next_in name (unneeded l.machine) (unneeded c.drain.new.self) c.in-Some.buffer (c.keeps_region.ensures.rested name l.machine l.invariant.3).1 c.in-Some.ensures.all.0
    ∙ sym (ap (λ (p : PlainPile). p.region) l.invariant.2)

pub loop-buffer-preserved : goal.loop-buffer-preserved
loop-buffer-preserved c =
    let l = c.loop-buffer in
    let name = c.args.trash.now.region in (
      c.in-Some.ensures.all.1 ∙ l.invariant.0,
      rw c.add.ensures (next_joins l.trash.contents _ (unneeded l.machine) (unneeded c.drain.new.self) c.in-Some.buffer l.invariant.1 c.in-Some.ensures.all.0),
      rw (c.add.ensures, l.invariant.2) refl,
      rw c.in-Some.ensures.state (c.keeps_region.ensures.drained name l.machine l.invariant.3).0,
    )
