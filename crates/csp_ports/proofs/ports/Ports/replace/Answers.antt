use Rattle.std.proofs.Common.{◌++◌, length, arith, ap, refl, subst, sym, ◌∙◌}
use Rattle.std.specs.Prelude.{IfSome, Option, unwrap_or}
use Rattle.std.specs.Option.{option_map}
use Rattle.csp_deck.specs.Keeping.{PlainPile, with_contents}
use Rattle.csp_deck.specs.Regions.{nowhere}
use Rattle.csp_ports.proofs.Keeping.{machine_absent, machine_seen, machine_set, machines_kept}
use Rattle.csp_ports.proofs.Sizing.{joined_count, none_held, part_of, roomy_in}
use Rattle.std.specs.Vec.{with_item}
use Rattle.std.proofs.lemmas.List.{append-nil, length-append}
use Rattle.csp_ports.specs.Came.{pictures}
use Rattle.csp_ports.specs.Kept.{IsHoused, IsRoomy, ports_at}
use Rattle.csp_ports.specs.PlainPorts.{PortsAt, with_machine_or, with_ports_at}
use Rattle.csp_rdp.specs.Holding.{rdp_buffers, rdp_numbers}
use Rattle.csp_rdp.specs.Machine.{PlainRdp, idle}
use Rattle.csp_rdp.specs.Placed.{placed}
use Rattle.csp_ports.proofs.ports.Ports.replace.Goals as goal

pub invariant_of-self : goal.invariant_of-self
invariant_of-self c =
    machines_kept c.self.inside c.args.seat c.place.result c.index_mut.result.now c.replace-old.new.dest c.place.ensures.value c.place.ensures.inside c.index_mut.ensures.value
    (rw c.replace-old.ensures.after (subst (λ (x : PortsAt). IfSome c.args.machine (IsHoused x.region)) (sym c.self.view_is) c.requires.housed)) c.self.invariant

pub invariant_of-self-2 : goal.invariant_of-self-2
invariant_of-self-2 c =
    machines_kept c.self.inside c.args.seat c.place.result c.index_mut.result.now c.replace-old.new.dest c.place.ensures.value c.place.ensures.inside c.index_mut.ensures.value
    (rw c.replace-old.ensures.after (subst (λ (x : PortsAt). IfSome c.args.machine (IsHoused x.region)) (sym c.self.view_is) c.requires.housed)) c.self.invariant

pub spend-requires-clause-room : goal.spend-requires-clause-room
spend-requires-clause-room c =
    let roomy = subst (λ (x : PortsAt). IsRoomy 0 x c.args.trash.now) (sym c.self.view_is) c.requires.roomy in
    omega (arith, roomy.room, part_of c.self.inside c.args.seat c.place.result c.index_mut.result.now c.in-Some.old c.place.ensures.value c.place.ensures.inside c.self.invariant c.index_mut.ensures.value (sym c.in-Some.is ∙ c.replace-old.ensures.value))

pub returns-in_default-clause-comes : goal.returns-in_default-clause-comes
returns-in_default-clause-comes c =
    let p = c.self.inside in
    let none = machine_absent c.self.inside c.args.self.now c.args.seat c.place.result c.index_mut.result.now c.self.view_is c.place.ensures.value c.place.ensures.inside c.self.invariant c.index_mut.ensures.value (sym c.replace-old.ensures.value ∙ c.in_default.is) in
    record {
      ports =
          ap (λ (o : Option PlainRdp). ports_at (record p { slots = with_item p.slots c.place.result (record c.index_mut.result.now { machine = o }) })) c.replace-old.ensures.after
          ∙ (machine_set p c.args.seat c.place.result c.index_mut.result.now c.args.machine c.place.ensures.value c.place.ensures.inside c.self.invariant c.index_mut.ensures.value
          ∙ ap (λ (x : PortsAt). with_ports_at x (with_machine_or x.ports c.args.seat (option_map (placed nowhere) c.args.machine))) c.self.view_is);
      trash = ap (with_contents c.args.trash.now) (sym (append-nil c.args.trash.now.contents)) ∙ ap (λ (r : PlainRdp). with_contents c.args.trash.now (c.args.trash.now.contents ++ pictures (rdp_buffers r))) (sym none);
      events = refl;
    }

pub returns-in_default-clause-roomy : goal.returns-in_default-clause-roomy
returns-in_default-clause-roomy c =
    roomy_in 0 0 c.self.inside c.args.seat c.place.result c.index_mut.result.now c.replace-old.new.dest c.args.trash.now c.args.trash.now c.place.ensures.value c.place.ensures.inside c.self.invariant c.index_mut.ensures.value
    (subst (λ (x : PortsAt). IsRoomy 0 x c.args.trash.now) (sym c.self.view_is) c.requires.roomy) refl refl
    (omega (arith, none_held c.args.machine c.requires.empty, ap (λ (o : Option PlainRdp). length (rdp_numbers (unwrap_or o idle))) c.replace-old.ensures.after))

pub returns-clause-comes : goal.returns-clause-comes
returns-clause-comes c =
    let p = c.self.inside in
    let old = machine_seen c.self.inside c.args.self.now c.args.seat c.place.result c.index_mut.result.now c.in-Some.old c.self.view_is c.place.ensures.value c.place.ensures.inside c.self.invariant c.index_mut.ensures.value (sym c.in-Some.is ∙ c.replace-old.ensures.value) in
    record {
      ports =
          ap (λ (o : Option PlainRdp). ports_at (record p { slots = with_item p.slots c.place.result (record c.index_mut.result.now { machine = o }) })) c.replace-old.ensures.after
          ∙ (machine_set p c.args.seat c.place.result c.index_mut.result.now c.args.machine c.place.ensures.value c.place.ensures.inside c.self.invariant c.index_mut.ensures.value
          ∙ ap (λ (x : PortsAt). with_ports_at x (with_machine_or x.ports c.args.seat (option_map (placed nowhere) c.args.machine))) c.self.view_is);
      trash = c.spend.ensures ∙ ap (λ (r : PlainRdp). with_contents c.args.trash.now (c.args.trash.now.contents ++ pictures (rdp_buffers r))) old;
      events = refl;
    }

pub returns-clause-roomy : goal.returns-clause-roomy
returns-clause-roomy c =
    roomy_in 0 0 c.self.inside c.args.seat c.place.result c.index_mut.result.now c.replace-old.new.dest c.args.trash.now c.spend.new.trash c.place.ensures.value c.place.ensures.inside c.self.invariant c.index_mut.ensures.value
    (subst (λ (x : PortsAt). IsRoomy 0 x c.args.trash.now) (sym c.self.view_is) c.requires.roomy)
    (ap (λ (t : PlainPile). t.region) c.spend.ensures) (ap (λ (t : PlainPile). t.room) c.spend.ensures)
    (omega (
      arith,
      ap (λ (t : PlainPile). length t.contents) c.spend.ensures,
      length-append c.args.trash.now.contents (pictures (rdp_buffers (placed nowhere c.in-Some.old))),
      joined_count c.in-Some.old,
      ap (λ (o : Option PlainRdp). length (rdp_numbers (unwrap_or o idle))) (sym c.in-Some.is ∙ c.replace-old.ensures.value),
      ap (λ (o : Option PlainRdp). length (rdp_numbers (unwrap_or o idle))) c.replace-old.ensures.after,
      none_held c.args.machine c.requires.empty,
    ))
