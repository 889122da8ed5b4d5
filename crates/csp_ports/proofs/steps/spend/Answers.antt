use Rattle.std.proofs.Common.{ap, ◌∙◌}
use Rattle.csp_deck.specs.Keeping.{with_contents}
use Rattle.csp_deck.specs.Regions.{nowhere}
use Rattle.csp_ports.proofs.Letting.{all_joined, as_buffers, next_room, pictures_placed}
use Rattle.csp_ports.specs.Came.{pictures}
use Rattle.csp_rdp.specs.Holding.{rdp_buffers}
use Rattle.csp_rdp.specs.Placed.{placed}
use Rattle.csp_ports.proofs.steps.spend.Goals as goal

pub add-requires-clause-room : goal.add-requires-clause-room
add-requires-clause-room c =
    let l = c.loop-buffer in
    rw l.invariant.1 (next_room l.trash.contents c.args.trash.now.contents (rdp_buffers l.machine) (rdp_buffers c.args.machine) (rdp_buffers c.take_out.new.self) c.in-Some.buffer c.args.trash.now.room l.invariant.0 c.in-Some.ensures.buffers
    (as_buffers c.args.machine c.args.trash.now.contents c.args.trash.now.room (c.numbers.ensures.buffers c.args.machine) c.requires.room))

pub returns : goal.returns
returns c =
    let l = c.loop-buffer in
    let m = c.args.machine in
    l.invariant.1 ∙ ap (with_contents c.args.trash.now)
    (all_joined c.args.trash.now.contents l.trash.contents (rdp_buffers l.machine) (rdp_buffers m) (pictures (rdp_buffers (placed nowhere m))) l.invariant.0 c.in_default.ensures.buffers.0
    (ap pictures (c.sees_no_region.ensures.buffers nowhere m) ∙ pictures_placed nowhere (rdp_buffers m)))
