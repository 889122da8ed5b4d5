-- connections that begin
use Rattle.std.specs.Prelude.{◌==◌, Bool, true, false, None, Option, Some, if◌then◌else◌, unwrap_or}
use Rattle.std.specs.Option.{option_map}
use Rattle.std.proofs.Common.{◌≡◌, ℕ, ◌+◌, ◌<◌, List, arith, ap, refl, sym, subst, ◌∙◌}
use Rattle.std.proofs.lemmas.Bool.{eq-eqb, eqb-true}
use Rattle.csp_base.specs.declared.seat.Seat.{Seat}
use Rattle.csp_base.specs.declared.priority.Prio.{Prio}
use Rattle.csp_conn.specs.Opening.{is_refused, opened, own_port_of}
use Rattle.csp_conn.specs.PlainConns.{slot_at, with_slot}
use Rattle.csp_conn.specs.Slots.{between, is_free}
use Rattle.csp_base.specs.declared.limits.TheConstants.{SLOTS}
use Rattle.csp_conn.specs.declared.slot.Connection.{Connection}
use Rattle.csp_conn.specs.declared.slot.Slot.{Slot}
use Rattle.csp_conn.specs.declared.slot.Slot.TheVariants as has
use Rattle.csp_log.specs.declared.note.Note.TheVariants as note
use Rattle.csp_log.specs.declared.note.Why.{Why}
use Rattle.csp_log.specs.declared.note.Why.TheVariants as why
use Rattle.csp_ports.specs.Asking.{asking, connect, joined, linked, plain, unjoined}
use Rattle.csp_ports.specs.Asking.{is_reliable}
use Rattle.csp_ports.specs.Came.{Came, come}
use Rattle.csp_ports.specs.Packets.{accepted, invited}
use Rattle.csp_ports.specs.PlainPorts.{PlainPorts, begun, start_of, terms_at}
use Rattle.csp_ports.specs.Steps.{replaced}
use Rattle.csp_ports.specs.declared.handing.Invitation.{Invitation}
use Rattle.csp_ports.specs.declared.flows.OwnFlows.{OwnFlows}
use Rattle.csp_ports.specs.declared.request.Request.{Request}
use Rattle.csp_ports.specs.declared.terms.Wish.{Wish}
use Rattle.csp_ports.specs.declared.terms.Wish.TheVariants as wish
use Rattle.csp_rdp.specs.Machine.{PlainRdp, accepting, connecting}
use Rattle.csp_rdp_header.specs.Head.{has_flag}
use Rattle.csp_rdp_header.specs.declared.head.TheConstants.{SYN}
use Rattle.csp_prefix.proofs.PortChanges.{IsUse, nothing_ended, use_fine}
use Rattle.csp_prefix.proofs.PortFacts.{All, fine_of, good_of, grown_but}
use Rattle.csp_prefix.proofs.PortQuiet.{owing_good}
use Rattle.csp_prefix.proofs.PortSlots.{AreFineBut, IsFine, book_but, look, machine_but, none_some, owing_but, slot_but, terms_but, whole}
use Rattle.csp_prefix.proofs.PortViews.{View, is_free-free, now_of, view}
use Rattle.csp_prefix.specs.Ports.{AreGood, Books, Comes, ComesWith, IsAskedSo, IsInUse, IsSlot, IsVacant, Ordinals, ends_due, with_opened}
use Rattle.csp_prefix.specs.Slots.{Book, Coming, GoesOn, IsKept, Now, Numbering, blank}
use Rattle.csp_prefix.specs.Slots.{begun as new_connection}

-- a connection is on the slot, with terms of its own
abbrev pub taken : Connection → Prio → ℕ → Wish → View → View
taken c prio flags what v = record v { what = has.Open c; terms = record v.terms { prio = prio; flags = flags; wish = what; is_down = false } }

connection_ended : wish.Connection ≡ wish.Ended → ⊥
connection_ended e = cc

-- what a free slot shows
free_slot : (Is : Numbering → Seat → Now → Type 0) (m : Numbering) (seat : Seat) (v : View) → v.what ≡ has.Free → IsSlot Is v.what v.terms m seat (now_of v) → IsVacant (now_of v) × (v.terms.wish ≡ wish.Nothing)
free_slot Is m seat v e h = subst (λ (w : Slot). IsSlot Is w v.terms m seat (now_of v)) e h

module _ {Is : Numbering → Seat → Now → Type 0} {m : Numbering} {ordinals : Ordinals} {books : Books} {p : PlainPorts} {seat : Seat} (h : AreFineBut Is All m ordinals books p seat (view p books seat)) where
  taken_but : (c : Connection) (last : ℕ) (prio : Prio) (flags : ℕ) (what : Wish)
      → AreFineBut Is All m ordinals books (begun (record p { conns = record (with_slot p.conns seat (has.Open c)) { last = last } }) seat prio flags what) seat (taken c prio flags what (view p books seat))
  taken_but c last prio flags what = terms_but (slot_but h (has.Open c) last) (record (terms_at p seat) { prio = prio; flags = flags; wish = what; is_down = false })

  -- an application's, from an own port that was chosen or asked for
  linked_but : (c : Connection) (from : Option ℕ) (prio : Prio) (flags : ℕ) (what : Wish)
      → AreFineBut Is All m ordinals books (begun (record p { conns = opened p.conns seat c from }) seat prio flags what) seat (taken c prio flags what (view p books seat))
  linked_but c None prio flags what = taken_but c c.own_port prio flags what
  linked_but c (Some port) prio flags what = taken_but c p.conns.last prio flags what

pub linked_apps : (p : PlainPorts) (seat : Seat) (c : Connection) (from : Option ℕ) → (opened p.conns seat c from).apps ≡ p.conns.apps
linked_apps p seat c None = refl
linked_apps p seat c (Some port) = refl

-- ---- plain ones

-- it is told open
abbrev plain_view : Connection → Prio → ℕ → View → View
plain_view c prio flags v = record (taken c prio flags wish.Nothing v) { book = record v.book { opened = Some (None, None) } }

plain_fine : {Is : Numbering → Seat → Now → Type 0} {m : Numbering} {ordinal : ℕ} {seat : Seat} (c : Connection) (prio : Prio) (flags : ℕ) (v : View) → v.what ≡ has.Free → is_reliable flags ≡ false → IsFine Is All m ordinal seat v → IsFine Is All m ordinal seat (plain_view c prio flags v)
plain_fine {Is} {m} {ordinal} {seat} c prio flags v free plain f =
    let k = free_slot Is m seat v free f.holds in
    record {
      counted = f.counted;
      ends = f.ends ∙ ap ends_due k.1;
      over = λ e. absurd (nothing_ended e);
      waits = λ t payload e. absurd (none_some payload (sym k.0.waits ∙ e));
      holds = subst (λ (b : Bool). IsInUse Is b m seat (now_of (plain_view c prio flags v))) (sym plain) (record { machine = k.0.machine; waits = k.0.waits; opened = refl });
    }

module _ {Is : Numbering → Seat → Now → Type 0} {m : Numbering} {ordinals : Ordinals} {books : Books} {p : PlainPorts} (seat : Seat) (here : seat.app < p.conns.apps) (there : seat.slot < SLOTS) (g : AreGood Is m ordinals books p) where
  pub accepted_good : (c : Connection) (prio : Prio) (flags : ℕ) → slot_at p.conns seat ≡ has.Free → is_reliable flags ≡ false → AreGood Is m ordinals (with_opened seat (None, None) books) (accepted p seat c prio flags)
  accepted_good c prio flags free plain =
      let h = fine_of g in
      good_of
      (whole (book_but (taken_but (look seat here there h) c p.conns.last prio flags wish.Nothing) (record (books seat) { opened = Some (None, None) }))
      (plain_fine c prio flags (view p books seat) free plain (h.slots seat here there)))

-- no connection is made
unmade : {Is : Numbering → Seat → Now → Type 0} {m : Numbering} {ordinals : Ordinals} {books : Books} {apps : ℕ} {c : Came} → Comes Is m ordinals books apps c → ComesWith Is m ordinals books apps c
unmade {m = m} h = record { after = m; goes_on = record { more = omega arith; same = λ n l. refl }; comes = h }

-- ---- reliable ones

-- a number more is at home here
abbrev with_home : (seat : Seat) (ordinal : ℕ) → Numbering → Numbering
with_home seat ordinal m = record { made = m.made; home = λ n. if n == m.made then (seat, ordinal) else m.home n }

abbrev numbered : (seat : Seat) (ordinal : ℕ) → Numbering → Numbering
numbered seat ordinal m = record { made = m.made + 1; home = λ n. if n == m.made then (seat, ordinal) else m.home n }

home_here : (seat : Seat) (ordinal : ℕ) (m : Numbering) → (with_home seat ordinal m).home m.made ≡ (seat, ordinal)
home_here seat ordinal m = ap (λ (b : Bool). if b then (seat, ordinal) else m.home m.made) (eq-eqb m.made m.made refl)

numbered_goes_on : (seat : Seat) (ordinal : ℕ) (m : Numbering) → GoesOn m (numbered seat ordinal m)
numbered_goes_on seat ordinal m = record { more = omega arith; same = λ n l. go n l (n == m.made) refl }
  where
    go : (n : ℕ) → n < m.made → (b : Bool) → (n == m.made) ≡ b → (if b then (seat, ordinal) else m.home n) ≡ m.home n
    go n l true e =
        let same : n ≡ m.made = eqb-true n m.made e in
        absurd (omega (arith, same, l))
    go n l false e = refl

module _ {o : OwnFlows} {C : Coming} {Is : Numbering → Seat → Now → Type 0} (kept : IsKept o C Is)
    {m : Numbering} {ordinals : Ordinals} {books : Books} {p : PlainPorts} (seat : Seat) (here : seat.app < p.conns.apps) (there : seat.slot < SLOTS) (g : AreGood Is m ordinals books p) where
  -- one with this machine begins on a free slot
  begins : (q : PlainPorts) (c : Connection) (prio : Prio) (flags : ℕ) (what : Wish) (r : PlainRdp) → AreFineBut Is All m ordinals books q seat (taken c prio flags what (view p books seat)) → q.conns.apps ≡ p.conns.apps
      → slot_at p.conns seat ≡ has.Free → is_reliable flags ≡ true → ends_due what ≡ 0 → (what ≡ wish.Ended → ⊥)
      → Is (numbered seat (terms_at p seat).ordinal m) seat (new_connection c flags r (terms_at p seat).ordinal) → ComesWith Is m ordinals books p.conns.apps (replaced seat (Some r) (record q { made = q.made + 1 }))
  begins q c prio flags what r h same free reliable none other is =
      let x = view p books seat in
      let y : View = record (taken c prio flags what x) { machine = r } in
      let f : IsFine Is All m (ordinals seat) seat x = (fine_of g).slots seat here there in
      let k : IsVacant (now_of x) × (x.terms.wish ≡ wish.Nothing) = free_slot Is m seat x free f.holds in
      let new : Numbering = numbered seat x.terms.ordinal m in
      let now : Is new seat (now_of y) =
      subst (λ (b : Book). Is new seat (record { connection = c; flags = flags; machine = r; ordinal = x.terms.ordinal; waits = x.waits; book = b })) (sym k.0.book)
      (subst (λ (w : Option (List ℕ)). Is new seat (record { connection = c; flags = flags; machine = r; ordinal = x.terms.ordinal; waits = w; book = blank })) (sym k.0.waits) is) in
      let u : IsUse Is new (ordinals seat) seat y (now_of y) = record {
        connection = c;
        what = refl;
        reliable = reliable;
        counted = f.counted;
        ends = (f.ends ∙ ap ends_due k.1) ∙ sym none;
        over = λ e. absurd (other e);
        holds = now;
      } in
      record {
        after = new;
        goes_on = numbered_goes_on seat x.terms.ordinal m;
        comes = record {
          same = same;
          new = tt;
          good = good_of (whole (machine_but (grown_but kept new (numbered_goes_on seat x.terms.ordinal m) refl h) r) (use_fine {v = y} (λ t payload e. absurd (none_some payload (sym k.0.waits ∙ e))) u));
        };
      }

  -- one that is asked of the node
  pub invited_comes : (c : Connection) (prio : Prio) (flags : ℕ) (i : Invitation) (time : ℕ) → slot_at p.conns seat ≡ has.Free → is_reliable flags ≡ true → has_flag i.head SYN ≡ true → C.invites c flags i.head i.tag
      → ComesWith Is m ordinals books p.conns.apps (invited o i seat time (accepted p seat c prio flags))
  invited_comes c prio flags i time free reliable syn invites =
      let k = (terms_at p seat).ordinal in
      begins (accepted p seat c prio flags) c prio flags wish.Nothing (accepting (start_of o.seed p.made) i.options i.head.seq.0 i.tag o.node p.made time) (taken_but (look seat here there (fine_of g)) c p.conns.last prio flags wish.Nothing) refl free reliable refl nothing_ended
      (subst (λ (made : ℕ). Is (numbered seat k m) seat (new_connection c flags (accepting (start_of o.seed made) i.options i.head.seq.0 i.tag o.node made time) k)) (sym g.made)
      (kept.accepts (with_home seat k m) seat k time c flags i.head i.tag i.options (home_here seat k m) syn invites))

-- ---- what an application asks for

module _ {o : OwnFlows} {C : Coming} {Is : Numbering → Seat → Now → Type 0} (kept : IsKept o C Is)
    {m : Numbering} {ordinals : Ordinals} {books : Books} {p : PlainPorts} (r : Request) (here : r.seat.app < p.conns.apps) (there : r.seat.slot < SLOTS) (asked : IsAskedSo C p r) (g : AreGood Is m ordinals books p) where
  joined_by : (b : Bool) (own time : ℕ) → slot_at p.conns r.seat ≡ has.Free → is_reliable r.flags ≡ b → own_port_of p.conns r.dest r.from ≡ Some own
      → ComesWith Is m ordinals books p.conns.apps (if b then asking o r.seat time (linked wish.Connection p r own) else plain p r own)
  joined_by false own time free unreliable chosen =
      let c = between r.dest r.port own in
      let x = view p books r.seat in
      let h = fine_of g in
      let f = h.slots r.seat here there in
      let k : IsVacant (now_of x) × (x.terms.wish ≡ wish.Nothing) = free_slot Is m r.seat x free f.holds in
      unmade (record {
        same = linked_apps p r.seat c r.from;
        new = ((here, there, ap (λ (b : Book). b.opened) k.0.book), tt);
        good =
            good_of
            (whole (owing_but (book_but (linked_but (look r.seat here there h) c r.from r.prio r.flags wish.Nothing) (record (books r.seat) { opened = Some (None, None) })) r.seat.app (note.Connected r.seat.slot) (subst (λ (n : ℕ). r.seat.app < n) (sym (linked_apps p r.seat c r.from)) here) there (λ s. refl))
            (plain_fine c r.prio r.flags x free unreliable f));
      })
  joined_by true own time free reliable chosen =
      let c = between r.dest r.port own in
      let k = (terms_at p r.seat).ordinal in
      begins kept r.seat here there g (linked wish.Connection p r own) c r.prio r.flags wish.Connection (connecting (start_of o.seed p.made) o.options o.node p.made time)
      (linked_but (look r.seat here there (fine_of g)) c r.from r.prio r.flags wish.Connection) (linked_apps p r.seat c r.from) free reliable refl connection_ended
      (subst (λ (made : ℕ). Is (numbered r.seat k m) r.seat (new_connection c r.flags (connecting (start_of o.seed made) o.options o.node made time) k)) (sym g.made)
      (kept.connects (with_home r.seat k m) r.seat k time c r.flags (home_here r.seat k m) (asked reliable own chosen)))

  refused_comes : (reason : Why) → ComesWith Is m ordinals books p.conns.apps (unjoined p r reason)
  refused_comes reason = unmade (record { same = refl; new = tt; good = owing_good g r.seat.app (note.Refused reason) here tt (λ s. refl) })

  connect_on : (free refused : Bool) (own : Option ℕ) (time : ℕ) → is_free (slot_at p.conns r.seat) ≡ free → own_port_of p.conns r.dest r.from ≡ own
      → ComesWith Is m ordinals books p.conns.apps (if free then (if refused then unjoined p r why.PortBusy else unwrap_or (option_map (λ own. joined o p r own time) own) (come p)) else unjoined p r why.Busy)
  connect_on true true own time e f = refused_comes why.PortBusy
  connect_on true false (Some own) time e f = joined_by (is_reliable r.flags) own time (is_free-free (slot_at p.conns r.seat) e) refl f
  connect_on true false None time e f = unmade (record { same = refl; new = tt; good = g })
  connect_on false refused own time e f = refused_comes why.Busy

  pub connect_comes : (time : ℕ) → ComesWith Is m ordinals books p.conns.apps (connect o p r time)
  connect_comes time = connect_on (is_free (slot_at p.conns r.seat)) (is_refused p.conns r.dest r.from) (own_port_of p.conns r.dest r.from) time refl refl
