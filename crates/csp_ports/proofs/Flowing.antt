-- no step of ports loses a buffer or uses it twice, and none counts further than it may
use Rattle.std.specs.Prelude.{None, Option, Some, unwrap_or}
use Rattle.std.specs.List.{All}
use Rattle.std.proofs.Common.{◌≡◌, ℕ, ◌+◌, ◌<◌, ◌≤◌, List, [], ◌++◌, length, arith, ap, subst, sym, ◌∙◌}
use Rattle.std.proofs.lemmas.List.{length-append, length-map, length-set}
use Rattle.std.proofs.lemmas.List.Elements.{All-set, All-weaker}
use Rattle.csp_base.specs.declared.seat.Seat.{Seat}
use Rattle.csp_buffer.specs.Content.{Content}
use Rattle.csp_conn.specs.PlainConns.{place_of}
use Rattle.csp_deck.specs.Keeping.{PlainPile}
use Rattle.csp_log.specs.declared.event.Event.{Event}
use Rattle.csp_ports.proofs.Counting.{all_or, far_machine_at, far_machine_or}
use Rattle.csp_ports.proofs.Slots.{machine_listed, machines_of_machine}
use Rattle.csp_ports.proofs.Weighing.{long, machine_tallied, parted_tally, tally, tally_none, weigh, weigh_append}
use Rattle.csp_ports.proofs.Wholes.{idle_whole}
use Rattle.csp_ports.specs.Came.{Came, Comes, pictures, at_work}
use Rattle.csp_ports.specs.Counts.{AreFar}
use Rattle.csp_ports.specs.Held.{held}
use Rattle.csp_ports.specs.Keeps.{AreWhole, Keeps, at_hand}
use Rattle.csp_ports.specs.PlainPorts.{PlainPorts, PortsAt, machine_at, machine_in, machines_of, state_at, terms_of, with_machine, with_machine_or}
use Rattle.csp_rdp.specs.Balance.{IsWhole}
use Rattle.csp_rdp.specs.Counts.{IsFar}
use Rattle.csp_rdp.specs.Holding.{rdp_numbers, rested, unneeded}
use Rattle.csp_rdp.specs.Machine.{PlainRdp, idle}
use Rattle.csp_rdp.proofs.Public.{whole-rested, far-rested}

-- ---- how far ports have come

pub machine_later : (m n : ℕ) (r : PlainRdp) → m ≤ n → IsFar m r → IsFar n r
machine_later m n r more h = record { admitted = omega (arith, more, h.admitted); delivered = omega (arith, more, h.delivered) }

pub far_later : (m n : ℕ) (p : PlainPorts) → m ≤ n → AreFar m p → AreFar n p
far_later m n p more h = record {
  machines = All-weaker (IsFar m) (IsFar n) (λ r far. machine_later m n r more far) (machines_of p) h.machines;
  made = omega (arith, more, h.made);
  ends = All-weaker (λ t. t.ordinal ≤ m) (λ t. t.ordinal ≤ n) (λ t one. omega (arith, more, one)) (terms_of p) h.ends;
}

-- ---- a step of ports: what is let go, and the numbers that came

pub record Flows (m : ℕ) (p q : PlainPorts) (loose : List Content) (came : List ℕ) : Type 0 where
  pub counts : (o : Option ℕ) → weigh o loose + weigh o (held q) ≡ weigh o (held p) + tally o came
  pub far : (n : ℕ) → AreFar n p → AreFar (n + m) q
  pub whole : AreWhole q

-- one step after another
pub flows_then : (k m n : ℕ) (p q r : PlainPorts) (first second : List Content) (came : List ℕ) → k + m ≡ n → Flows k p q first came → Flows m q r second [] → Flows n p r (first ++ second) came
flows_then k m n p q r first second came sum f g = record {
  counts = λ o. omega (arith, f.counts o, g.counts o, weigh_append o first second, tally_none o);
  far = λ a h. far_later ((a + k) + m) (a + n) r (omega (arith, sum)) (g.far (a + k) (f.far a h));
  whole = g.whole;
}

-- so it goes where the machines, and all that is held, stay as they are
pub same_whole : (p q : PlainPorts) → q.conns.apps ≡ p.conns.apps → machines_of q ≡ machines_of p → AreWhole p → AreWhole q
same_whole p q a b h = record {
  few = rw a h.few;
  slots = sym (length-map q.slots machine_in) ∙ (ap length b ∙ (length-map p.slots machine_in ∙ h.slots));
  machines = subst (All IsWhole) (sym b) h.machines;
}

pub flows_still : (m : ℕ) (p q : PlainPorts) → q.conns.apps ≡ p.conns.apps → machines_of q ≡ machines_of p → held q ≡ held p → ((n : ℕ) → AreFar n p → AreFar (n + m) q) → AreWhole p → Flows m p q [] []
flows_still m p q a b c far h = record {
  counts = λ o. omega (arith, ap (weigh o) c, tally_none o);
  far = far;
  whole = same_whole p q a b h;
}

-- another machine in the place of a slot's, or none
pub machine_whole_or : (p : PlainPorts) (seat : Seat) (o : Option PlainRdp) → IsWhole (unwrap_or o idle) → AreWhole p → AreWhole (with_machine_or p seat o)
machine_whole_or p seat o one h = record {
  few = h.few;
  slots = length-set p.slots (place_of seat) (record (state_at p seat) { machine = o }) ∙ h.slots;
  machines = subst (All IsWhole) (sym (machines_of_machine p seat o)) (All-set IsWhole (machines_of p) (place_of seat) (unwrap_or o idle) one h.machines);
}

pub machine_whole : (p : PlainPorts) (seat : Seat) (r : PlainRdp) → IsWhole r → AreWhole p → AreWhole (with_machine p seat r)
machine_whole p seat r one h = machine_whole_or p seat (Some r) one h

pub machine_far : (m n : ℕ) (p : PlainPorts) (seat : Seat) (o : Option PlainRdp) → IsFar (n + m) (unwrap_or o idle) → AreFar n p → AreFar (n + m) (with_machine_or p seat o)
machine_far m n p seat o one h = far_machine_or (n + m) p seat o one (far_later n (n + m) p (omega arith) h)

pub flows_machine : (m : ℕ) (p : PlainPorts) (seat : Seat) (r : PlainRdp) (loose : List Content) (came : List ℕ) → place_of seat < 16 → AreWhole p → IsWhole r → ((n : ℕ) → IsFar n (machine_at p seat) → IsFar (n + m) r)
    → ((o : Option ℕ) → weigh o loose + tally o (rdp_numbers r) ≡ tally o (rdp_numbers (machine_at p seat)) + tally o came) → Flows m p (with_machine p seat r) loose came
flows_machine m p seat r loose came there h whole far even = record {
  counts = λ o. omega (arith, machine_tallied o p seat (Some r) (omega (arith, there, h.slots)), even o);
  far = λ n k. machine_far m n p seat (Some r) (far n (far_machine_at n p seat k)) k;
  whole = machine_whole p seat r whole h;
}

-- what it does not need any more is let go
pub flows_rested : (m : ℕ) (p : PlainPorts) (seat : Seat) (r : PlainRdp) (back : List Content) (came : List ℕ) → place_of seat < 16 → AreWhole p → IsWhole r → ((n : ℕ) → IsFar n (machine_at p seat) → IsFar (n + m) r)
    → ((o : Option ℕ) → weigh o back + tally o (rdp_numbers r) ≡ tally o (rdp_numbers (machine_at p seat)) + tally o came) → Flows m p (with_machine p seat (rested r)) (back ++ pictures (unneeded r)) came
flows_rested m p seat r back came there h whole far even =
    flows_machine m p seat (rested r) (back ++ pictures (unneeded r)) came there h (whole-rested r whole) (λ n one. far-rested (n + m) r (far n one))
    (λ o. omega (arith, even o, parted_tally o r, weigh_append o back (pictures (unneeded r))))

-- the machine of a slot is whole
pub whole_at : (p : PlainPorts) (seat : Seat) → AreWhole p → IsWhole (machine_at p seat)
whole_at p seat h = subst IsWhole (sym (machine_listed p seat)) (all_or IsWhole (machines_of p) (place_of seat) idle h.machines idle_whole)

-- ---- and what comes of it

pub keeps_from : (m : ℕ) (p q : PlainPorts) (before loose : List Content) (came : List ℕ) → Flows m p q loose came → Keeps m (at_hand p before) (at_hand q (before ++ loose)) came
keeps_from m p q before loose came h = record {
  numbers = λ k. omega (arith, h.counts (Some k), weigh_append (Some k) before loose);
  size = omega (arith, h.counts None, length-append before loose, long loose, long (held p), long (held q));
  far = h.far;
}

pub keeps_of : (m : ℕ) (old new : PortsAt) (before after : PlainPile) (e f : List Event) (c : Came) (came : List ℕ) → Comes (at_work old before e) (at_work new after f) c → Flows m old.ports c.ports c.loose came → Keeps m (at_hand old.ports before.contents) (at_hand new.ports after.contents) came
keeps_of m old new before after e f c came h flows =
    subst (λ (x : PortsAt). Keeps m (at_hand old.ports before.contents) (at_hand x.ports after.contents) came) (sym h.ports)
    (subst (λ (x : PlainPile). Keeps m (at_hand old.ports before.contents) (at_hand c.ports x.contents) came) (sym h.trash) (keeps_from m old.ports c.ports before.contents c.loose came flows))
