use Rattle.std.proofs.Common.{◌≡◌, ◌∙◌, ◌+◌, ◌≤◌, List, ap, arith, map, subst, sym, length}
use Rattle.std.specs.List.{All}
use Rattle.std.specs.Vec.{with_items}
use Rattle.std.proofs.lemmas.List.{with_items_is}
use Rattle.csp_base.specs.Seat.{seat}
use Rattle.csp_base.specs.declared.limits.TheConstants.{SLOTS}
use Rattle.csp_conn.specs.PlainConns.{place_of}
use Rattle.csp_deck.specs.Regions.{nowhere}
use Rattle.csp_ports.specs.Held.{emptied, held, without_held}
use Rattle.csp_ports.specs.Kept.{IsKept, plain_ports, ports_at, wishes}
use Rattle.csp_ports.specs.PlainPorts.{stalls_of, waiting, with_ports_at}
use Rattle.csp_ports.proofs.Slots.{placed_state}
use Rattle.csp_ports.specs.declared.ports.TheConstants.{ANSWERS}
use Rattle.csp_ports.specs.declared.terms.SlotState.{SlotState}
use Rattle.csp_ports.specs.declared.terms.Terms.{Terms}
use Rattle.csp_ports.proofs.Holding.{Takes, held-seen, placed-without, slots-without, stalls-without, taken-region, taken-seen, taken-without, terms-placed, terms-without}
use Rattle.csp_ports.proofs.Serving.{keeps_out_or}
use Rattle.csp_ports.proofs.ports.Ports.take_out.Goals.{After-take_held}
use Rattle.csp_ports.proofs.ports.Ports.take_out.Goals as goal

-- what is taken out of the slots, and what they are then
takes : (c : After-take_held) → Takes c.self.inside.slots.items c.take_held.new.slots c.take_held.result
takes c = subst (λ (ss : List SlotState). Takes ss c.take_held.new.slots c.take_held.result) c.deref_mut.ensures.value c.take_held.ensures.buffers

left : (c : After-take_held) → c.take_held.new.slots ≡ without_held c.self.inside.slots.items
left c = taken-without c.self.inside.slots.items c.take_held.new.slots c.take_held.result (takes c)

same : (c : After-take_held) → (with_items c.self.inside.slots c.take_held.new.slots).items ≡ c.take_held.new.slots
same c =
    let slots = c.self.inside.slots in
    with_items_is slots c.take_held.new.slots
    (ap length (left c) ∙ (slots-without c.self.inside.token.name slots.items c.self.invariant.kept).1 ∙ sym (ap length c.deref_mut.ensures.value) ∙ c.deref_mut.ensures.len)

pub invariant_of-self : goal.invariant_of-self
invariant_of-self b =
    let c = (goal.at.invariant_of-self b).After-take_held in
    let is = c.self.invariant in
    let name = c.self.inside.token.name in
    let slots = c.self.inside.slots.items in
    let items = same c ∙ left c in
    let kept = slots-without name slots is.kept in
    record {
      few = is.few;
      apps = is.apps;
      room = is.room;
      owners = is.owners;
      owed = is.owed;
      due = λ app. subst (λ (ts : List Terms). waiting app c.self.inside.owed.items + wishes app ts ≤ ANSWERS) (sym (terms-placed (with_items c.self.inside.slots c.take_held.new.slots).items ∙ (ap (map (λ s. s.terms)) items ∙ (terms-without slots ∙ sym (terms-placed slots))))) (is.due app);
      slots = ap length items ∙ kept.1 ∙ is.slots;
      kept = subst (All (IsKept name)) (sym items) kept.0;
      alone = λ app. omega (arith, ap (stalls_of app) items, stalls-without SLOTS (place_of (seat app 0)) slots, is.alone app);
    }

pub returns-clause-buffers : goal.returns-clause-buffers
returns-clause-buffers b =
    let c = (goal.at.returns-clause-buffers b).After-take_held in
    taken-seen c.self.inside.slots.items c.take_held.new.slots c.take_held.result c.args.self.now (with_ports_at (ports_at c.self.inside) (record (plain_ports c.self.inside) { slots = map (placed_state nowhere) (with_items c.self.inside.slots c.take_held.new.slots).items })) (takes c)
    (ap (λ p. held p.ports) (sym c.self.view_is) ∙ held-seen c.self.inside.slots.items)
    (ap (λ ss. held (record (plain_ports c.self.inside) { slots = map (placed_state nowhere) ss })) (same c) ∙ held-seen c.take_held.new.slots)
    (λ is. ap (λ ss. with_ports_at (ports_at c.self.inside) (record (plain_ports c.self.inside) { slots = map (placed_state nowhere) ss })) (same c ∙ is) ∙ c.self.view_is)

pub returns-clause-ports : goal.returns-clause-ports
returns-clause-ports b =
    let c = (goal.at.returns-clause-ports b).After-take_held in
    ap (λ ss. with_ports_at (ports_at c.self.inside) (record (plain_ports c.self.inside) { slots = map (placed_state nowhere) ss })) (same c ∙ left c)
    ∙ ap (λ ss. with_ports_at (ports_at c.self.inside) (record (plain_ports c.self.inside) { slots = ss })) (sym (placed-without nowhere c.self.inside.slots.items))
    ∙ ap (λ p. with_ports_at p (emptied p.ports)) c.self.view_is

pub returns-clause-of_it : goal.returns-clause-of_it
returns-clause-of_it b =
    let c = (goal.at.returns-clause-of_it b).After-take_held in
    rw (← c.self.view_is) (taken-region c.self.inside.token.name c.self.inside.slots.items c.take_held.new.slots c.take_held.result c.self.invariant.kept (takes c))

pub returns-clause-keeps : goal.returns-clause-keeps
returns-clause-keeps c = keeps_out_or c.args.self.now _ c.take_held.result (returns-clause-buffers c) (returns-clause-ports c)
