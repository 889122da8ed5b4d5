-- one step after another
use Rattle.std.specs.List.{range_with_len}
use Rattle.std.proofs.Common.{◌≡◌, ℕ, suc, ◌+◌, ◌-◌, ◌<◌, Bool, true, false, List, [], ◌∷◌, ◌++◌, arith, ap, refl, subst, sym, ◌∙◌}
use Rattle.std.proofs.lemmas.List.{append-nil, append_assoc}
use Rattle.csp_base.specs.declared.seat.Seat.{Seat}
use Rattle.csp_deck.specs.Keeping.{PlainPile, with_contents}
use Rattle.csp_log.specs.declared.event.Event.{Event}
use Rattle.csp_ports.specs.Came.{Came, Comes, come, then, at_work}
use Rattle.csp_ports.specs.PlainPorts.{PlainPorts, PortsAt, with_ports_at}
use Rattle.csp_ports.specs.Steps.{changed, stepped, went, where_machine}
use Rattle.csp_rdp.specs.Changes.{change_between}
use Rattle.csp_rdp.specs.Machine.{PlainRdp}
use Rattle.csp_rdp.specs.declared.answers.Change.{Change}
use Rattle.csp_rdp.specs.declared.answers.Change.TheVariants as change
use Rattle.csp_rdp.specs.declared.answers.State.{State}
use Rattle.csp_rdp.specs.declared.answers.Cause.{Cause as Why}

pub then_comes : (old mid new : PortsAt) (first second last : PlainPile) (e f g : List Event) (c : Came) (next : PlainPorts → Came) → Comes (at_work old first e) (at_work mid second f) c → Comes (at_work mid second f) (at_work new last g) (next mid.ports) → Comes (at_work old first e) (at_work new last g) (then c next)
then_comes old mid new first second last e f g c next h k = record {
  ports = k.ports ∙ ap (λ (x : PortsAt). with_ports_at x (next x.ports).ports) h.ports;
  trash =
      k.trash
      ∙ (ap (λ (t : PlainPile). with_contents t (t.contents ++ (next mid.ports).loose)) h.trash
      ∙ (ap (λ (x : PortsAt). with_contents first ((first.contents ++ c.loose) ++ (next x.ports).loose)) h.ports
      ∙ ap (with_contents first) (append_assoc first.contents c.loose (next c.ports).loose)));
  events =
      k.events
      ∙ (ap (λ (x : PortsAt). f ++ (next x.ports).events) h.ports
      ∙ (ap (λ (es : List Event). es ++ (next c.ports).events) h.events
      ∙ append_assoc e c.events (next c.ports).events));
}

-- a step of a slot's machine, where it has one, and what it changed
pub went_comes : (has : Bool) (old mid new : PortsAt) (first second last : PlainPile) (e f : List Event) (before : State) (why : Why) (seat : Seat) (r : PlainRdp) → (has ≡ false → change_between before r.state why ≡ change.None)
    → Comes (at_work old first []) (at_work mid second []) (where_machine has (stepped seat r) old.ports) → Comes (at_work mid second e) (at_work new last f) (changed (change_between before r.state why) seat mid.ports) → Comes (at_work old first e) (at_work new last f) (where_machine has (went before why seat r) old.ports)
went_comes true old mid new first second last e f before why seat r none h k =
    then_comes old mid new first second last e e f (stepped seat r old.ports) (changed (change_between before r.state why) seat) (record { ports = h.ports; trash = h.trash; events = sym (append-nil e) }) k
went_comes false old mid new first second last e f before why seat r none h k =
    then_comes old mid new first second last e e f (come old.ports) come (record { ports = h.ports; trash = h.trash; events = sym (append-nil e) })
    (subst (λ (x : Change). Comes (at_work mid second e) (at_work new last f) (changed x seat mid.ports)) (none refl) k)

pub where_apps : (has : Bool) (seat : Seat) (r : PlainRdp) (p : PlainPorts) → (where_machine has (stepped seat r) p).ports.conns.apps ≡ p.conns.apps
where_apps true seat r p = refl
where_apps false seat r p = refl

gone : (a n : ℕ) → a < n → n - a ≡ suc (n - (a + 1))
gone a n h = omega (arith, h)

-- the next of several places
pub range_next : (a n : ℕ) → a < n → range_with_len a (n - a) ≡ a ∷ range_with_len (a + 1) (n - (a + 1))
range_next a n h = ap (range_with_len a) (gone a n h)
