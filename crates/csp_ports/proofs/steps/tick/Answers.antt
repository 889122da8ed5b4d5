use Rattle.std.proofs.Common.{◌≡◌, List, ◌++◌, ap, sym, ◌∙◌}
use Rattle.csp_buffer.specs.Content.{Content}
use Rattle.csp_deck.specs.Keeping.{with_contents}
use Rattle.csp_deck.specs.Regions.{nowhere}
use Rattle.csp_ports.proofs.Letting.{let_size, pictures_placed}
use Rattle.csp_ports.specs.Came.{pictures}
use Rattle.csp_rdp.specs.Holding.{rdp_numbers, rested, unneeded}
use Rattle.csp_rdp.specs.Jobs.{ticked}
use Rattle.csp_rdp.specs.Machine.{PlainRdp}
use Rattle.csp_rdp.specs.Placed.{placed}
use Rattle.csp_ports.proofs.steps.tick.Goals as goal

pub returns-then-not-is_late-clause-machine : goal.returns-then-not-is_late-clause-machine
returns-then-not-is_late-clause-machine c =
    let r = c.args.machine.now in
    let still : ticked c.args.now r ≡ r = c.is_late.ensures.rest c.if-not-is_late.true in
    sym (ap rested (sym (c.sees_no_region.ensures.ticked nowhere c.args.now r) ∙ ap (placed nowhere) still)
    ∙ sym (c.sees_no_region.ensures.rested nowhere r) ∙ ap (placed nowhere) (c.keeps_rest.ensures.still r c.requires.housed.rested))

pub let_go-requires-clause-of_it : goal.let_go-requires-clause-of_it
let_go-requires-clause-of_it c = rw c.tick-change.ensures.state (c.keeps_region.ensures.ticked c.args.trash.now.region c.args.now c.args.machine.now c.requires.housed.region)

pub returns-clause-machine : goal.returns-clause-machine
returns-clause-machine c =
    let r = c.args.machine.now in
    rw (c.let_go.ensures.machine, c.tick-change.ensures.state)
    (c.sees_no_region.ensures.rested nowhere (ticked c.args.now r) ∙ ap rested (c.sees_no_region.ensures.ticked nowhere c.args.now r))

pub returns-clause-trash : goal.returns-clause-trash
returns-clause-trash c =
    let r = c.args.machine.now in
    rw (c.let_go.ensures.trash, c.tick-change.ensures.state)
    (ap (λ (us : List Content). with_contents c.args.trash.now (c.args.trash.now.contents ++ us))
    (sym (ap (λ (q : PlainRdp). pictures (unneeded q)) (sym (c.sees_no_region.ensures.ticked nowhere c.args.now r)) ∙ ap pictures (c.sees_no_region.ensures.unneeded nowhere (ticked c.args.now r)) ∙ pictures_placed nowhere (unneeded (ticked c.args.now r)))))

pub returns-clause-size : goal.returns-clause-size
returns-clause-size c =
    let r = c.tick-change.new.self in
    rw (c.let_go.ensures.trash, c.let_go.ensures.machine)
    (let_size c.args.trash.now.contents r c.args.machine.now (c.conserves.ensures.parted r) (ap rdp_numbers c.tick-change.ensures.state ∙ c.conserves.ensures.ticked c.args.now c.args.machine.now))
