use Rattle.std.specs.Prelude.{Option, Some}
use Rattle.std.specs.Option.{option_map}
use Rattle.std.proofs.Common.{◌≡◌, arith, ap, subst, sym, ◌∙◌}
use Rattle.csp_buffer.specs.PlainBuffer.{PlainBuffer}
use Rattle.csp_deck.specs.Regions.{nowhere}
use Rattle.csp_ports.proofs.Keeping.{none_waits, stalled_kept, stalled_set}
use Rattle.csp_ports.specs.Kept.{plain_ports, ports_at}
use Rattle.csp_ports.specs.PlainPorts.{PortsAt, anywhere, with_ports_at, with_stalled}
use Rattle.csp_rdp.specs.Placed.{placed_buffer}
use Rattle.csp_ports.proofs.ports.Ports.stall.Goals as goal

pub put-requires : goal.put-requires
put-requires c =
    (none_waits c.self.inside c.args.self.now c.args.seat c.place.result c.index_mut.result.now c.self.view_is c.place.ensures.value c.requires.there.of_app c.place.ensures.inside c.self.invariant c.index_mut.ensures.value c.requires.none).1

pub invariant_of-self : goal.invariant_of-self
invariant_of-self c =
    let none = none_waits c.self.inside c.args.self.now c.args.seat c.place.result c.index_mut.result.now c.self.view_is c.place.ensures.value c.requires.there.of_app c.place.ensures.inside c.self.invariant c.index_mut.ensures.value c.requires.none in
    rw c.put.ensures
    (stalled_kept c.self.inside c.args.seat c.place.result c.index_mut.result.now (Some c.args.packet) c.place.ensures.value c.requires.there.of_app c.place.ensures.inside c.self.invariant c.index_mut.ensures.value
    (record { region = subst (λ (x : PortsAt). c.args.packet.region ≡ x.region) (sym c.self.view_is) c.requires.of_it; short = c.requires.short }) (omega (arith, none.0)))

pub returns : goal.returns
returns c =
    let p = c.self.inside in
    stalled_set p c.args.seat c.place.result c.index_mut.result.now c.put.new.place c.place.ensures.value c.place.ensures.inside c.self.invariant c.index_mut.ensures.value
    ∙ (ap (λ (o : Option PlainBuffer). with_ports_at (ports_at p) (with_stalled (plain_ports p) c.args.seat (option_map (placed_buffer nowhere) o))) c.put.ensures
    ∙ ap (λ (x : PortsAt). with_ports_at x (with_stalled x.ports c.args.seat (Some (anywhere c.args.packet.picture)))) c.self.view_is)
