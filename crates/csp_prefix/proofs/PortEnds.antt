-- the end of a slot: its close, and the answer to it
use Rattle.std.specs.Prelude.{Bool, true, false, None}
use Rattle.std.proofs.Common.{◌≡◌, ℕ, ◌+◌, ◌<◌, ap, refl, sym, subst, ◌∙◌}
use Rattle.csp_base.specs.declared.seat.Seat.{Seat}
use Rattle.csp_conn.specs.Slots.{is_free}
use Rattle.csp_conn.specs.PlainConns.{slot_at}
use Rattle.csp_base.specs.declared.limits.TheConstants.{SLOTS}
use Rattle.csp_conn.specs.declared.slot.Connection.{Connection}
use Rattle.csp_conn.specs.declared.slot.Slot.{Slot}
use Rattle.csp_conn.specs.declared.slot.Slot.TheVariants as has
use Rattle.csp_ports.proofs.Public.{machine_none}
use Rattle.csp_ports.specs.Asking.{close, close_by, ending_in, held_by}
use Rattle.csp_ports.specs.Asking.{is_reliable}
use Rattle.csp_ports.specs.Came.{come, then}
use Rattle.csp_ports.specs.PlainPorts.{PlainPorts, has_machine, is_closing, machine_at, stalled_at, terms_at, with_terms}
use Rattle.csp_ports.specs.Steps.{stepped, where_machine}
use Rattle.csp_ports.specs.declared.flows.OwnFlows.{OwnFlows}
use Rattle.csp_ports.specs.declared.terms.Terms.{Terms}
use Rattle.csp_ports.specs.declared.terms.Wish.{Wish}
use Rattle.csp_ports.specs.declared.terms.Wish.TheVariants as wish
use Rattle.csp_rdp.specs.Holding.{rested}
use Rattle.csp_rdp.specs.Jobs.{closing}
use Rattle.csp_rdp.specs.Machine.{PlainRdp, idle}
use Rattle.csp_rdp.specs.declared.answers.State.{State}
use Rattle.csp_rdp.specs.declared.answers.State.TheVariants as state
use Rattle.csp_prefix.proofs.PortChanges.{at_view}
use Rattle.csp_prefix.proofs.PortFacts.{All, Leaves, comes_of, fine_of, used, using}
use Rattle.csp_prefix.proofs.PortSlots.{AreFine, AreFineBut, ended_but, look, machine_but, none_some, slot_but, terms_but, whole}
use Rattle.csp_prefix.proofs.PortViews.{View, now_of, view}
use Rattle.csp_prefix.specs.Ports.{AreGood, Books, Comes, IsInUse, IsPlain, IsSlot, IsVacant, Ordinals, ends_due, waiting_payload}
use Rattle.csp_prefix.specs.Slots.{Coming, IsKept, Now, Numbering}
use Rattle.csp_prefix.specs.Slots.{with_machine}

-- ---- the close

end_ended : wish.End ≡ wish.Ended → ⊥
end_ended e = cc

-- other terms, by what they are
pub terms_by : {Is : Numbering → Seat → Now → Type 0} {Tight : Seat → Type 0} {m : Numbering} {ordinals : Ordinals} {books : Books} {p : PlainPorts} {seat : Seat} {v : View} (f : Terms → Terms) → AreFineBut Is Tight m ordinals books p seat v
    → AreFineBut Is Tight m ordinals books (with_terms p seat (f (terms_at p seat))) seat (record v { terms = f v.terms })
terms_by {Is} {Tight} {m} {ordinals} {books} {p} {seat} {v} f h =
    subst (λ (v : View). AreFineBut Is Tight m ordinals books (with_terms p seat (f (terms_at p seat))) seat (record v { terms = f v.terms })) h.seen (terms_but (at_view h) (f (terms_at p seat)))

-- the slot is as it was but for what its application waits for
module _ {Is : Numbering → Seat → Now → Type 0} {m : Numbering} {ordinals : Ordinals} {books : Books} {q : PlainPorts} {seat : Seat} {v : View} (h : AreFineBut Is All m ordinals books q seat v)
    (counted : v.terms.ordinal ≡ ordinals seat) (ends : v.ends ≡ 0) (none : v.waits ≡ None) (holds : (w : Wish) → IsSlot Is v.what (record v.terms { wish = w }) m seat (now_of v)) where
  later_fine : AreFine Is All m ordinals books (with_terms q seat (record (terms_at q seat) { wish = wish.End }))
  later_fine =
      whole (terms_by (λ (t : Terms). record t { wish = wish.End }) h)
      (record { counted = counted; ends = ends; over = λ e. absurd (end_ended e); waits = λ t payload e. absurd (none_some payload (sym none ∙ e)); holds = holds wish.End })

  ending_fine : (s : State) → v.machine.state ≡ s → AreFine Is All m ordinals books (ending_in s seat q)
  ending_fine state.Closed e =
      whole (ended_but (terms_by (λ (t : Terms). record t { wish = wish.Ended }) h))
      (record { counted = counted; ends = ap (λ (k : ℕ). k + 1) ends; over = λ _. e; waits = λ t payload e. absurd (none_some payload (sym none ∙ e)); holds = holds wish.Ended })
  ending_fine state.SynSent e = later_fine
  ending_fine state.SynRcvd e = later_fine
  ending_fine state.Open e = later_fine
  ending_fine state.CloseWait e = later_fine

ending_apps : (s : State) (seat : Seat) (q : PlainPorts) → (ending_in s seat q).conns.apps ≡ q.conns.apps
ending_apps state.Closed seat q = refl
ending_apps state.SynSent seat q = refl
ending_apps state.SynRcvd seat q = refl
ending_apps state.Open seat q = refl
ending_apps state.CloseWait seat q = refl

-- before the close no answer to it is owed
none_due : (w : Wish) → is_closing w ≡ false → ends_due w ≡ 0
none_due wish.Nothing e = refl
none_due wish.Connection e = refl
none_due wish.End e = refl
none_due wish.Ended e = absurd cc

-- an idle machine stays so
still : (time : ℕ) (r : PlainRdp) → r ≡ idle → rested (closing time r) ≡ idle
still time r e = ap (λ (r : PlainRdp). rested (closing time r)) e

module _ {o : OwnFlows} {C : Coming} {Is : Numbering → Seat → Now → Type 0} (kept : IsKept o C Is)
    {m : Numbering} {ordinals : Ordinals} {books : Books} {p : PlainPorts} (seat : Seat) (time : ℕ) (here : seat.app < p.conns.apps) (there : seat.slot < SLOTS) (none : stalled_at p seat ≡ None) (g : AreGood Is m ordinals books p) where
  -- a slot with a connection
  closed_use : (c : Connection) (b : Bool) (w : Wish) → let x = view p books seat in x.what ≡ has.Open c → is_reliable x.terms.flags ≡ b
      → IsSlot Is x.what (record x.terms { wish = w }) m seat (now_of (record x { machine = rested (closing time x.machine) }))
  closed_use c true w e f =
      let x = view p books seat in
      let n = now_of (record x { machine = rested (closing time x.machine) }) in
      let is : Is m seat (now_of x) = used Is m seat x.what x.terms (now_of x) c e f (g.slots seat here there) in
      using Is m seat x.what (record x.terms { wish = w }) n c e f (kept.rests m seat (with_machine (closing time x.machine) (now_of x)) (kept.closes m seat (now_of x) time is))
  closed_use c false w e f =
      let x = view p books seat in
      let n = now_of (record x { machine = rested (closing time x.machine) }) in
      let k : IsPlain (now_of x) = subst (λ (b : Bool). IsInUse Is b m seat (now_of x)) f (subst (λ (w : Slot). IsSlot Is w x.terms m seat (now_of x)) e (g.slots seat here there)) in
      let l : IsPlain n = record { machine = still time x.machine k.machine; waits = k.waits; opened = k.opened } in
      subst (λ (s : Slot). IsSlot Is s (record x.terms { wish = w }) m seat n) (sym e) (subst (λ (b : Bool). IsInUse Is b m seat n) (sym f) l)

  vacant_still : let x = view p books seat in IsVacant (now_of x) → IsVacant (now_of (record x { machine = rested (closing time x.machine) }))
  vacant_still k = record { machine = still time (machine_at p seat) k.machine; waits = k.waits; book = k.book }

  none_waits : waiting_payload (stalled_at p seat) ≡ None
  none_waits = ap waiting_payload none

  -- what comes of it on ports where the slot is held
  abbrev Closes : PlainPorts → Type 0
  Closes q =
      let r = closing time (machine_at p seat) in
      Leaves Is All m ordinals books p.conns.apps (then (where_machine (has_machine p seat) (stepped seat r) q) (λ q. come (ending_in r.state seat q)))

  -- the machine is closed, where the slot has one
  close_by_machine : (q : PlainPorts) (v : View) → q.conns.apps ≡ p.conns.apps → AreFineBut Is All m ordinals books q seat v → v.machine ≡ machine_at p seat → v.terms.ordinal ≡ ordinals seat → v.ends ≡ 0 → v.waits ≡ None
      → ((w : Wish) → IsSlot Is v.what (record v.terms { wish = w }) m seat (now_of (record v { machine = rested (closing time (machine_at p seat)) }))) → Closes q
  close_by_machine q v apps h is counted due nothing holds = go (has_machine p seat) refl
    where
      go : (b : Bool) → has_machine p seat ≡ b
          → Leaves Is All m ordinals books p.conns.apps (then (where_machine b (stepped seat (closing time (machine_at p seat))) q) (λ q. come (ending_in (closing time (machine_at p seat)).state seat q)))
      go true e =
          let r = closing time (machine_at p seat) in
          record {
            same = ending_apps r.state seat (stepped seat r q).ports ∙ apps;
            new = tt;
            fine = ending_fine (machine_but h (rested r)) counted due nothing holds r.state refl;
          }
      go false e =
          let r = closing time (machine_at p seat) in
          let f : machine_at p seat ≡ idle = machine_none p seat e in
          record {
            same = ending_apps r.state seat q ∙ apps;
            new = tt;
            fine =
                ending_fine h counted due nothing
                (λ w. subst (λ (s : PlainRdp). IsSlot Is v.what (record v.terms { wish = w }) m seat (now_of (record v { machine = s }))) (still time (machine_at p seat) f ∙ sym (is ∙ f)) (holds w))
                r.state (ap (λ (s : PlainRdp). s.state) (is ∙ f) ∙ sym (ap (λ (s : PlainRdp). (closing time s).state) f));
          }

  -- one that is free, and any other
  close_free : let x = view p books seat in x.ends ≡ 0 → x.what ≡ has.Free → Closes (held_by true p seat)
  close_free due e =
      let x = view p books seat in
      let k : IsVacant (now_of x) × (x.terms.wish ≡ wish.Nothing) = subst (λ (w : Slot). IsSlot Is w x.terms m seat (now_of x)) e (g.slots seat here there) in
      close_by_machine (held_by true p seat) (record x { what = has.Held }) refl (slot_but (look seat here there (fine_of g)) has.Held p.conns.last) refl (g.counted seat here there) due none_waits
      (λ _. let v = vacant_still k.0 in record { machine = v.machine; waits = v.waits; book = v.book })

  close_used : let x = view p books seat in x.ends ≡ 0 → ((w : Wish) → IsSlot Is x.what (record x.terms { wish = w }) m seat (now_of (record x { machine = rested (closing time x.machine) }))) → Closes (held_by false p seat)
  close_used due holds = close_by_machine (held_by false p seat) (view p books seat) refl (look seat here there (fine_of g)) refl (g.counted seat here there) due none_waits holds

  close_slot : (w : Slot) → let x = view p books seat in x.ends ≡ 0 → x.what ≡ w → Closes (held_by (is_free w) p seat)
  close_slot has.Free due e = close_free due e
  close_slot has.Held due e =
      let x = view p books seat in
      let n = now_of (record x { machine = rested (closing time x.machine) }) in
      let k : IsVacant (now_of x) = subst (λ (w : Slot). IsSlot Is w x.terms m seat (now_of x)) e (g.slots seat here there) in
      close_used due (λ w. subst (λ (s : Slot). IsSlot Is s (record x.terms { wish = w }) m seat n) (sym e) (vacant_still k))
  close_slot (has.Open c) due e = close_used due (λ w. closed_use c _ w e refl)

  close_on : (b : Bool) → is_closing (terms_at p seat).wish ≡ b → Leaves Is All m ordinals books p.conns.apps (close_by b p seat time)
  close_on true e = record { same = refl; new = tt; fine = fine_of g }
  close_on false e = close_slot (slot_at p.conns seat) (g.ends seat here there ∙ none_due (terms_at p seat).wish e) refl

  pub close_comes : Comes Is m ordinals books p.conns.apps (close p seat time)
  close_comes = comes_of (close_on (is_closing (terms_at p seat).wish) refl) (λ _. tt)
