-- packets that wait for room, and what becomes of them
use Rattle.std.specs.Prelude.{Bool, Err, None, Option, Result, Some, false, get_or, slice_set, true}
use Rattle.std.specs.Option.{option_map}
use Rattle.std.specs.Vec.{with_item}
use Rattle.std.proofs.Common.{◌≡◌, ℕ, zero, suc, ◌<◌, List, [], ◌∷◌, ap, refl, subst, sym, ◌∙◌}
use Rattle.std.proofs.lemmas.List.{set-get_or}
use Rattle.csp_base.specs.declared.seat.Seat.{Seat}
use Rattle.csp_buffer.specs.PlainBuffer.{PlainBuffer}
use Rattle.csp_conn.specs.PlainConns.{place_of}
use Rattle.csp_deck.specs.Regions.{nowhere}
use Rattle.csp_ports.proofs.Keeping.{machine_in_place, machine_seen, machine_stepped}
use Rattle.csp_ports.proofs.Settling.{by_settled, true_false}
use Rattle.csp_ports.proofs.Slots.{machine_unstalled}
use Rattle.csp_ports.specs.Kept.{Admits, ArePorts, ports_at}
use Rattle.csp_ports.specs.PlainPorts.{PlainPorts, PortsAt, anywhere, machine_at, stalled_at, stalls_of, state_at, untouched, with_ports_at, with_stalled}
use Rattle.csp_ports.specs.declared.terms.SlotState.{SlotState}
use Rattle.csp_ports.specs.Steps.{admitted, has_room, settled}
use Rattle.csp_ports.specs.declared.ports.Ports.TheInside.{Inside}
use Rattle.csp_rdp.specs.Jobs.{admitting}
use Rattle.csp_rdp.specs.Machine.{PlainRdp}
use Rattle.csp_rdp.specs.Placed.{placed}

-- a packet is admitted on a slot's connection, or handed back
abbrev pub AdmitsIn : (room : Bool) → Result Unit PlainBuffer → (old new : PortsAt) → Seat → PlainBuffer → (time : ℕ) → Type 0
AdmitsIn room answer old new seat b time = Admits room answer b (new ≡ with_ports_at old (admitted time seat (anywhere b.picture) old.ports)) (new ≡ old)

-- a machine that admits a packet, or does not, in the place of a slot
admits_by : (p : Inside) (at : PortsAt) (seat : Seat) (place : ℕ) (s : SlotState) (r new : PlainRdp) (b : PlainBuffer) (time : ℕ) (room : Bool) (answer : Result Unit PlainBuffer) → ports_at p ≡ at → place ≡ place_of seat → place < 16 → ArePorts p → s ≡ get_or p.slots.items place s → Some r ≡ s.machine
    → Admits room answer b (placed nowhere new ≡ admitting (anywhere b.picture) time (placed nowhere r)) (placed nowhere new ≡ placed nowhere r) → AdmitsIn room answer at (ports_at (record p { slots = with_item p.slots place (record s { machine = Some new }) })) seat b time
admits_by p at seat place s r new b time true answer view e there a value some h =
    (h.0, machine_stepped p at seat place s r new (admitting (anywhere b.picture) time) view e there a value some h.1)
admits_by p at seat place s r new b time false answer view e there a value some h =
    let seen = machine_in_place p at seat place s view e there a value in
    let own : Some (machine_at at.ports seat) ≡ (state_at at.ports seat).machine = ap Some (sym (machine_seen p at seat place s r view e there a value some)) ∙ (ap (option_map (placed nowhere)) some ∙ seen) in (
      h.0,
      machine_stepped p at seat place s r new (λ q. q) view e there a value some h.1
          ∙ ap (λ (ss : List SlotState). with_ports_at at (record at.ports { slots = ss }))
          (ap (λ (o : Option PlainRdp). slice_set at.ports.slots (place_of seat) (record (state_at at.ports seat) { machine = o })) own ∙ set-get_or at.ports.slots (place_of seat) untouched),
    )

pub admits_in : (p : Inside) (at : PortsAt) (seat : Seat) (place : ℕ) (s : SlotState) (r new : PlainRdp) (b : PlainBuffer) (time : ℕ) (answer : Result Unit PlainBuffer) → ports_at p ≡ at → place ≡ place_of seat → place < 16 → ArePorts p → s ≡ get_or p.slots.items place s → Some r ≡ s.machine
    → Admits (has_room (placed nowhere r)) answer b (placed nowhere new ≡ admitting (anywhere b.picture) time (placed nowhere r)) (placed nowhere new ≡ placed nowhere r) → AdmitsIn (has_room (machine_at at.ports seat)) answer at (ports_at (record p { slots = with_item p.slots place (record s { machine = Some new }) })) seat b time
admits_in p at seat place s r new b time answer view e there a value some h =
    subst (λ (room : Bool). AdmitsIn room answer at (ports_at (record p { slots = with_item p.slots place (record s { machine = Some new }) })) seat b time) (ap has_room (machine_seen p at seat place s r view e there a value some))
    (admits_by p at seat place s r new b time (has_room (placed nowhere r)) answer view e there a value some h)

-- where it is not admitted none waits as before
pub none_left : (mid new : PortsAt) (seat : Seat) (b back : PlainBuffer) (time : ℕ) (room : Bool) → stalls_of seat.app mid.ports.slots ≡ 0 → AdmitsIn room (Err back) mid new seat b time → stalls_of seat.app new.ports.slots ≡ 0
none_left mid new seat b back time true none h = absurd cc
none_left mid new seat b back time false none h = ap (λ (x : PortsAt). stalls_of seat.app x.ports.slots) h.1 ∙ none

-- a packet that is taken out waits again
put_back : (ss : List SlotState) (k : ℕ) → let gone = slice_set ss k (record (get_or ss k untouched) { stalled = None }) in slice_set gone k (record (get_or gone k untouched) { stalled = (get_or ss k untouched).stalled }) ≡ ss
put_back [] k = refl
put_back (s ∷ ss) zero = refl
put_back (s ∷ ss) (suc k) = ap (λ (l : List SlotState). s ∷ l) (put_back ss k)

stalled_again : (p : PlainPorts) (seat : Seat) (o : Option PlainBuffer) → stalled_at p seat ≡ o → with_stalled (with_stalled p seat None) seat o ≡ p
stalled_again p seat o e =
    ap (λ (x : Option PlainBuffer). with_stalled (with_stalled p seat None) seat x) (sym e)
    ∙ ap (λ (ss : List SlotState). record p { slots = ss }) (put_back p.slots (place_of seat))

settled_back : (old mid out new : PortsAt) (seat : Seat) (b back : PlainBuffer) (time : ℕ) (room : Bool) → mid ≡ with_ports_at old (with_stalled old.ports seat None) → stalled_at old.ports seat ≡ Some (anywhere b.picture) → AdmitsIn room (Err back) mid out seat b time
    → new ≡ with_ports_at out (with_stalled out.ports seat (Some (anywhere back.picture))) → (room ≡ false) × (new ≡ old)
settled_back old mid out new seat b back time true e waits h put = absurd cc
settled_back old mid out new seat b back time false e waits h put =
    let given : back ≡ b = cc in (
      refl,
      put
          ∙ (ap (λ (x : PortsAt). with_ports_at x (with_stalled x.ports seat (Some (anywhere back.picture)))) (h.1 ∙ e)
          ∙ ap (with_ports_at old) (stalled_again old.ports seat (Some (anywhere back.picture)) (waits ∙ ap (λ (c : PlainBuffer). Some (anywhere c.picture)) (sym given)))),
    )

pub settled_err : (old mid out new : PortsAt) (seat : Seat) (b back : PlainBuffer) (time : ℕ) → mid ≡ with_ports_at old (with_stalled old.ports seat None) → Some (anywhere b.picture) ≡ stalled_at old.ports seat → AdmitsIn (has_room (machine_at mid.ports seat)) (Err back) mid out seat b time
    → new ≡ with_ports_at out (with_stalled out.ports seat (Some (anywhere back.picture))) → new ≡ with_ports_at old (settled time seat old.ports)
settled_err old mid out new seat b back time e waits h put =
    let k = settled_back old mid out new seat b back time _ e (sym waits) h put in
    let full : has_room (machine_at old.ports seat) ≡ false = sym (ap (λ (x : PortsAt). has_room (machine_at x.ports seat)) e ∙ ap has_room (machine_unstalled old.ports seat None seat)) ∙ k.0 in
    k.1 ∙ by_settled (λ q. old ≡ with_ports_at old q) time seat old.ports refl (λ c f room. absurd (true_false (sym room ∙ full)))
