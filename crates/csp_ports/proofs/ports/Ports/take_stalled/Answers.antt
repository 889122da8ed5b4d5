use Rattle.std.specs.Prelude.{None, Option}
use Rattle.std.specs.Option.{option_map}
use Rattle.std.proofs.Common.{◌<◌, length, arith, ap, subst, ◌∙◌}
use Rattle.std.proofs.lemmas.List.{length-map}
use Rattle.csp_buffer.specs.PlainBuffer.{PlainBuffer}
use Rattle.csp_conn.specs.PlainConns.{place_of}
use Rattle.csp_deck.specs.Regions.{nowhere}
use Rattle.csp_ports.proofs.Keeping.{none_after, stalled_kept, stalled_set}
use Rattle.csp_ports.proofs.Sizing.{stalled_size}
use Rattle.csp_ports.proofs.Slots.{placed_state}
use Rattle.csp_ports.proofs.Stalling.{stalls_less}
use Rattle.csp_ports.specs.Held.{held}
use Rattle.csp_ports.specs.Kept.{plain_ports, ports_at}
use Rattle.csp_ports.specs.PlainPorts.{PortsAt, stalls, with_ports_at, with_stalled}
use Rattle.csp_rdp.specs.Placed.{placed_buffer}
use Rattle.csp_ports.proofs.ports.Ports.take_stalled.Goals as goal

pub invariant_of-self : goal.invariant_of-self
invariant_of-self c =
    rw c.take.ensures.after
    (stalled_kept c.self.inside c.args.seat c.place.result c.index_mut.result.now None c.place.ensures.value c.requires.there.of_app c.place.ensures.inside c.self.invariant c.index_mut.ensures.value tt (omega (arith, c.self.invariant.alone c.args.seat.app)))

pub returns-clause-ports : goal.returns-clause-ports
returns-clause-ports c =
    let p = c.self.inside in
    stalled_set p c.args.seat c.place.result c.index_mut.result.now c.take.new.self c.place.ensures.value c.place.ensures.inside c.self.invariant c.index_mut.ensures.value
    ∙ (ap (λ (o : Option PlainBuffer). with_ports_at (ports_at p) (with_stalled (plain_ports p) c.args.seat (option_map (placed_buffer nowhere) o))) c.take.ensures.after
    ∙ ap (λ (x : PortsAt). with_ports_at x (with_stalled x.ports c.args.seat None)) c.self.view_is)

pub returns-clause-none : goal.returns-clause-none
returns-clause-none c =
    rw c.take.ensures.after
    (none_after c.self.inside c.args.seat c.place.result c.index_mut.result.now c.take.result c.take.ensures.value c.place.ensures.value c.requires.there.of_app c.place.ensures.inside c.self.invariant c.index_mut.ensures.value)

pub returns-clause-size : goal.returns-clause-size
returns-clause-size c =
    let p = c.self.inside in
    let there = subst (λ (x : PortsAt). place_of c.args.seat < length x.ports.slots) c.self.view_is (omega (arith, c.place.ensures.value, c.place.ensures.inside, c.self.invariant.slots, length-map p.slots.items (placed_state nowhere))) in
    omega (arith, ap (λ (x : PortsAt). length (held x.ports)) (returns-clause-ports c), stalled_size c.args.self.now.ports c.args.seat there)

pub returns-clause-few : goal.returns-clause-few
returns-clause-few c =
    let p = c.self.inside in
    let there = subst (λ (x : PortsAt). place_of c.args.seat < length x.ports.slots) c.self.view_is (omega (arith, c.place.ensures.value, c.place.ensures.inside, c.self.invariant.slots, length-map p.slots.items (placed_state nowhere))) in
    omega (arith, ap (λ (x : PortsAt). stalls x.ports.slots) (returns-clause-ports c), stalls_less c.args.self.now.ports c.args.seat there)
