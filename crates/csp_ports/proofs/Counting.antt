-- what follows a step of a machine counts no further
use Rattle.std.specs.Prelude.{ℕ, Bool, true, false, Option, None, Some, get_or, unwrap_or}
use Rattle.std.specs.List.{All}
use Rattle.std.proofs.Common.{zero, suc, ◌≤◌, List, [], ◌∷◌, arith, subst, sym}
use Rattle.std.proofs.lemmas.List.Elements.{All-head, All-set, All-tail}
use Rattle.csp_base.specs.declared.seat.Seat.{Seat}
use Rattle.csp_buffer.specs.PlainBuffer.{PlainBuffer}
use Rattle.csp_conn.specs.PlainConns.{place_of, with_slot}
use Rattle.csp_conn.specs.declared.slot.Slot.TheVariants.{Free}
use Rattle.csp_ports.proofs.Settling.{by_dropped}
use Rattle.csp_ports.proofs.Slots.{machine_listed, machines_of_machine, machines_of_stalled, machines_of_terms, terms_listed, terms_of_machine, terms_of_stalled, terms_of_terms}
use Rattle.csp_ports.specs.Counts.{AreFar}
use Rattle.csp_ports.specs.PlainPorts.{PlainPorts, fresh, machine_at, machines_of, terms_at, terms_of, with_machine, with_machine_or, with_stalled, with_terms}
use Rattle.csp_ports.specs.Steps.{changed, closed_by, connected_by, dropped, freed, refused_by}
use Rattle.csp_ports.specs.declared.terms.Terms.{Terms}
use Rattle.csp_ports.specs.declared.terms.Wish.{Wish}
use Rattle.csp_ports.specs.declared.terms.Wish.TheVariants as wish
use Rattle.csp_rdp.specs.Counts.{IsFar}
use Rattle.csp_rdp.specs.Machine.{PlainRdp, idle}
use Rattle.csp_rdp.specs.declared.answers.Change.{Change}
use Rattle.csp_rdp.specs.declared.answers.Change.TheVariants as change
use Rattle.csp_rdp.specs.declared.answers.Cause.{Cause}

-- what holds of all, and of what stands for one that is not there, holds at each place
pub all_or : {A : Type 0} → (P : A → Type 0) (xs : List A) (k : ℕ) (d : A) → All P xs → P d → P (get_or xs k d)
all_or P [] k d all one = one
all_or P (x ∷ xs) zero d all one = All-head P x xs all
all_or P (x ∷ xs) (suc k) d all one = all_or P xs k d (All-tail P x xs all) one

-- another machine in the place of a slot's, or none
pub far_machine_or : (n : ℕ) (p : PlainPorts) (seat : Seat) (o : Option PlainRdp) → IsFar n (unwrap_or o idle) → AreFar n p → AreFar n (with_machine_or p seat o)
far_machine_or n p seat o one h = record {
  machines = subst (All (IsFar n)) (sym (machines_of_machine p seat o)) (All-set (IsFar n) (machines_of p) (place_of seat) (unwrap_or o idle) one h.machines);
  made = h.made;
  ends = subst (All (λ t. t.ordinal ≤ n)) (sym (terms_of_machine p seat o)) h.ends;
}

pub far_machine : (n : ℕ) (p : PlainPorts) (seat : Seat) (r : PlainRdp) → IsFar n r → AreFar n p → AreFar n (with_machine p seat r)
far_machine n p seat r one h = far_machine_or n p seat (Some r) one h

-- other terms
pub far_terms : (n : ℕ) (p : PlainPorts) (seat : Seat) (t : Terms) → t.ordinal ≤ n → AreFar n p → AreFar n (with_terms p seat t)
far_terms n p seat t one h = record {
  machines = subst (All (IsFar n)) (sym (machines_of_terms p seat t)) h.machines;
  made = h.made;
  ends = subst (All (λ t. t.ordinal ≤ n)) (sym (terms_of_terms p seat t)) (All-set (λ t. t.ordinal ≤ n) (terms_of p) (place_of seat) t one h.ends);
}

-- the terms of a slot
pub far_at : (n : ℕ) (p : PlainPorts) (seat : Seat) → AreFar n p → (terms_at p seat).ordinal ≤ n
far_at n p seat h = subst (λ (t : Terms). t.ordinal ≤ n) (sym (terms_listed p seat)) (all_or (λ t. t.ordinal ≤ n) (terms_of p) (place_of seat) fresh h.ends (omega arith))

pub far_idle : (n : ℕ) → IsFar n idle
far_idle n = record { admitted = omega arith; delivered = omega arith }

pub far_machine_at : (n : ℕ) (p : PlainPorts) (seat : Seat) → AreFar n p → IsFar n (machine_at p seat)
far_machine_at n p seat h = subst (IsFar n) (sym (machine_listed p seat)) (all_or (IsFar n) (machines_of p) (place_of seat) idle h.machines (far_idle n))

pub far_freed : (n : ℕ) (p : PlainPorts) (seat : Seat) → AreFar n p → AreFar n (freed (terms_at p seat).ordinal seat p).ports
far_freed n p seat h =
    let free : PlainPorts = record p { conns = with_slot p.conns seat Free } in
    let t : Terms = record (terms_at p seat) { wish = wish.Nothing; is_down = false } in
    far_machine_or n (with_terms free seat t) seat None (far_idle n)
    (far_terms n free seat t (far_at n p seat h) (record { machines = h.machines; made = h.made; ends = h.ends }))

far_wish : (n : ℕ) (p : PlainPorts) (seat : Seat) (w : Wish) → AreFar n p → AreFar n (with_terms p seat (record (terms_at p seat) { wish = w }))
far_wish n p seat w h = far_terms n p seat (record (terms_at p seat) { wish = w }) (far_at n p seat h) h

pub far_connected : (n : ℕ) (w : Wish) (p : PlainPorts) (seat : Seat) → AreFar n p → AreFar n (connected_by w seat p)
far_connected n wish.Connection p seat h = let k = far_wish n p seat wish.Nothing h in record { machines = k.machines; made = k.made; ends = k.ends }
far_connected n wish.Nothing p seat h = h
far_connected n wish.End p seat h = h
far_connected n wish.Ended p seat h = h

far_refused : (n : ℕ) (w : Wish) (why : Cause) (p : PlainPorts) (seat : Seat) → AreFar n p → AreFar n (refused_by w why seat p).ports
far_refused n wish.Connection why p seat h = let k = far_freed n p seat h in record { machines = k.machines; made = k.made; ends = k.ends }
far_refused n wish.Nothing why p seat h = far_freed n p seat h
far_refused n wish.End why p seat h = far_freed n p seat h
far_refused n wish.Ended why p seat h = far_freed n p seat h

pub far_closed : (n : ℕ) (w : Wish) (was_open : Bool) (p : PlainPorts) (seat : Seat) → AreFar n p → AreFar n (closed_by w was_open seat p).ports
far_closed n wish.End o p seat h = let k = far_wish n p seat wish.Ended h in record { machines = k.machines; made = k.made; ends = k.ends }
far_closed n wish.Nothing true p seat h = h
far_closed n wish.Nothing false p seat h = far_freed n p seat h
far_closed n wish.Connection o p seat h = h
far_closed n wish.Ended o p seat h = h

-- what a change of the connection comes to
pub far_changed : (n : ℕ) (ch : Change) (p : PlainPorts) (seat : Seat) → AreFar n p → AreFar n (changed ch seat p).ports
far_changed n change.None p seat h = h
far_changed n change.Opened p seat h = far_connected n (terms_at p seat).wish p seat h
far_changed n (change.Refused why) p seat h = far_refused n (terms_at p seat).wish why p seat h
far_changed n change.Down p seat h = far_terms n p seat (record (terms_at p seat) { is_down = true }) (far_at n p seat h) h
far_changed n change.Closed p seat h = far_closed n (terms_at p seat).wish (machine_at p seat).was_open p seat h

-- another packet that waits, or none
pub far_stalled : (n : ℕ) (p : PlainPorts) (seat : Seat) (o : Option PlainBuffer) → AreFar n p → AreFar n (with_stalled p seat o)
far_stalled n p seat o h = record {
  machines = subst (All (IsFar n)) (sym (machines_of_stalled p seat o)) h.machines;
  made = h.made;
  ends = subst (All (λ t. t.ordinal ≤ n)) (sym (terms_of_stalled p seat o)) h.ends;
}

pub far_dropped : (n : ℕ) (seat : Seat) (p : PlainPorts) → AreFar n p → AreFar n (dropped seat p).ports
far_dropped n seat p h = by_dropped (λ c. AreFar n c.ports) seat p (λ opens. h) (λ b e shut. far_stalled n p seat None h)
