-- what is known of each slot of a node's ports in the middle of a step, and what a change on one leaves of that
use Rattle.std.specs.Prelude.{◌==◌, ◌&&◌, Bool, true, false, IfSome, None, Option, Some, count_by, slice_set, unwrap_or}
use Rattle.std.specs.List.{AllByRecursion}
use Rattle.std.proofs.Common.{◌≡◌, ℕ, ◌+◌, ◌*◌, ◌<◌, ◌≤◌, List, length, arith, ap, refl, sym, subst, ◌∙◌, add-zero}
use Rattle.std.proofs.lemmas.List.{length-set}
use Rattle.csp_base.specs.declared.seat.Seat.{Seat}
use Rattle.csp_buffer.specs.PlainBuffer.{PlainBuffer}
use Rattle.csp_conn.specs.PlainConns.{place_of, with_slot}
use Rattle.csp_base.specs.declared.limits.TheConstants.{MAX_APPS, SLOTS, ALL_SLOTS}
use Rattle.csp_conn.specs.declared.slot.Slot.{Slot}
use Rattle.csp_conn.specs.declared.slot.Slot.TheVariants as has
use Rattle.csp_deck.specs.Carried.{IsReply}
use Rattle.csp_log.specs.declared.note.Note.{Note}
use Rattle.csp_log.specs.declared.note.Note.TheVariants as note
use Rattle.csp_ports.specs.Kept.{IsOwed}
use Rattle.csp_ports.specs.PlainPorts.{PlainPorts, owing, state_at, untouched, with_machine, with_machine_or, with_stalled, with_terms}
use Rattle.csp_ports.specs.declared.owed.Owed.{Owed}
use Rattle.csp_ports.specs.declared.terms.SlotState.{SlotState}
use Rattle.csp_ports.specs.declared.terms.Terms.{Terms}
use Rattle.csp_ports.specs.declared.terms.Wish.TheVariants as wish
use Rattle.csp_rdp.specs.Machine.{PlainRdp, idle}
use Rattle.csp_rdp.specs.declared.answers.State.TheVariants.{Closed, Open}
use Rattle.csp_scene.proofs.Public.{AllByRecursion-push}
use Rattle.csp_socket.specs.Bound.{owner_of}
use Rattle.csp_prefix.proofs.PortViews.{IsOther, View, alike, book_other, book_same, by_seat, count_more, get_other, get_same, now_of, ordinal_other, unlike, view, with_state}
use Rattle.csp_prefix.specs.Ports.{Books, IsSlot, Ordinals, ends_due, is_end, is_end_of, waiting_payload, with_book, with_ordinal}
use Rattle.csp_prefix.specs.Slots.{Book, Now, Numbering}

-- of the ports as a whole
pub record IsShaped (most : ℕ) (p : PlainPorts) : Type 0 where
  pub few : p.conns.apps ≤ MAX_APPS
  pub conns : length p.conns.slots ≡ p.conns.apps * SLOTS
  pub states : length p.slots ≡ ALL_SLOTS
  pub made : p.made ≡ most
  pub owners : (port : ℕ) → IfSome (owner_of p.bound port) (λ o. o.0 < p.conns.apps)
  pub owed : AllByRecursion (IsOwed p.conns.apps) p.owed

-- of a slot; the connection of a packet that waits is open only where the slot is to be tight
pub record IsFine (Is : Numbering → Seat → Now → Type 0) (Tight : Seat → Type 0) (m : Numbering) (ordinal : ℕ) (seat : Seat) (v : View) : Type 0 where
  pub counted : v.terms.ordinal ≡ ordinal
  pub ends : v.ends ≡ ends_due v.terms.wish
  pub over : v.terms.wish ≡ wish.Ended → v.machine.state ≡ Closed
  pub waits : Tight seat → (payload : List ℕ) → v.waits ≡ Some payload → v.machine.state ≡ Open
  pub holds : IsSlot Is v.what v.terms m seat (now_of v)

-- of all slots
pub record AreFine (Is : Numbering → Seat → Now → Type 0) (Tight : Seat → Type 0) (m : Numbering) (ordinals : Ordinals) (books : Books) (p : PlainPorts) : Type 0 where
  pub shape : IsShaped m.made p
  pub slots : (a : Seat) → a.app < p.conns.apps → a.slot < SLOTS → IsFine Is Tight m (ordinals a) a (view p books a)

-- of all but one, which is as seen
pub record AreFineBut (Is : Numbering → Seat → Now → Type 0) (Tight : Seat → Type 0) (m : Numbering) (ordinals : Ordinals) (books : Books) (p : PlainPorts) (seat : Seat) (v : View) : Type 0 where
  pub shape : IsShaped m.made p
  pub here : seat.app < p.conns.apps
  pub there : seat.slot < SLOTS
  pub seen : view p books seat ≡ v
  pub others : (a : Seat) → a.app < p.conns.apps → a.slot < SLOTS → IsOther seat a → IsFine Is Tight m (ordinals a) a (view p books a)

-- ---- a slot is looked at, and is fine again

pub look : {Is : Numbering → Seat → Now → Type 0} {Tight : Seat → Type 0} {m : Numbering} {ordinals : Ordinals} {books : Books} {p : PlainPorts} (seat : Seat) → seat.app < p.conns.apps → seat.slot < SLOTS → AreFine Is Tight m ordinals books p
    → AreFineBut Is Tight m ordinals books p seat (view p books seat)
look seat here there h = record { shape = h.shape; here = here; there = there; seen = refl; others = λ a k l o. h.slots a k l }

pub whole : {Is : Numbering → Seat → Now → Type 0} {Tight : Seat → Type 0} {m : Numbering} {ordinals : Ordinals} {books : Books} {p : PlainPorts} {seat : Seat} {v : View} → AreFineBut Is Tight m ordinals books p seat v → IsFine Is Tight m (ordinals seat) seat v
    → AreFine Is Tight m ordinals books p
whole {Is} {Tight} {m} {ordinals} {books} {p} {seat} {v} h fine = record {
  shape = h.shape;
  slots =
      by_seat seat (λ (a : Seat) _. a.app < p.conns.apps → a.slot < SLOTS → IsFine Is Tight m (ordinals a) a (view p books a))
      (λ k l. subst (IsFine Is Tight m (ordinals seat) seat) (sym h.seen) fine)
      (λ a o k l. h.others a k l o);
}

-- fewer slots may be tight
fine_under : {Is : Numbering → Seat → Now → Type 0} {Loose Tight : Seat → Type 0} {m : Numbering} {ordinal : ℕ} {seat : Seat} {v : View} → (Tight seat → Loose seat) → IsFine Is Loose m ordinal seat v → IsFine Is Tight m ordinal seat v
fine_under wider f = record { counted = f.counted; ends = f.ends; over = f.over; waits = λ t. f.waits (wider t); holds = f.holds }

pub looser : {Is : Numbering → Seat → Now → Type 0} {Loose Tight : Seat → Type 0} {m : Numbering} {ordinals : Ordinals} {books : Books} {p : PlainPorts} → ((a : Seat) → a.app < p.conns.apps → a.slot < SLOTS → Tight a → Loose a) → AreFine Is Loose m ordinals books p
    → AreFine Is Tight m ordinals books p
looser wider h = record { shape = h.shape; slots = λ a k l. fine_under (wider a k l) (h.slots a k l) }

pub looser_but : {Is : Numbering → Seat → Now → Type 0} {Loose Tight : Seat → Type 0} {m : Numbering} {ordinals : Ordinals} {books : Books} {p : PlainPorts} {seat : Seat} {v : View} → ((a : Seat) → a.slot < SLOTS → Tight a → IsOther seat a → Loose a)
    → AreFineBut Is Loose m ordinals books p seat v → AreFineBut Is Tight m ordinals books p seat v
looser_but wider h = record { shape = h.shape; here = h.here; there = h.there; seen = h.seen; others = λ a k l o. fine_under (λ t. wider a l t o) (h.others a k l o) }

-- ---- lists and options

-- other connections and states of slots, as many as there were, and other answers that are owed
pub reshaped : {most : ℕ} {p : PlainPorts} (slots : List Slot) (last : ℕ) (states : List SlotState) (owed : List Owed) → length slots ≡ length p.conns.slots → length states ≡ length p.slots
    → AllByRecursion (IsOwed p.conns.apps) owed → IsShaped most p → IsShaped most (record p { conns = record p.conns { slots = slots; last = last }; slots = states; owed = owed })
reshaped slots last states owed one two all h = record {
  few = h.few;
  conns = one ∙ h.conns;
  states = two ∙ h.states;
  made = h.made;
  owners = h.owners;
  owed = all;
}

pub owing_shape : {n : ℕ} {p : PlainPorts} (app : ℕ) (answer : Note) → IsShaped n p → app < p.conns.apps → IsReply answer → IsShaped n (owing p app answer)
owing_shape {n} {p} app answer h here reply =
    reshaped p.conns.slots p.conns.last p.slots _ refl refl (AllByRecursion-push (IsOwed p.conns.apps) p.owed (record { app = app; note = answer }) h.owed (record { app = here; reply = reply })) h

pub and_false : (x y : Bool) → y ≡ false → (x && y) ≡ false
and_false true y e = e
and_false false y e = refl

owing_none : (p : PlainPorts) (books : Books) (app : ℕ) (answer : Note) (a : Seat) → is_end_of a (record { app = app; note = answer }) ≡ false → view (owing p app answer) books a ≡ view p books a
owing_none p books app answer a e =
    ap (λ (n : ℕ). record (view p books a) { ends = n }) (count_more (is_end_of a) p.owed (record { app = app; note = answer }) false e ∙ add-zero (count_by (is_end_of a) p.owed))

-- an answer that is none to a close
abbrev pub IsQuiet : Note → Type 0
IsQuiet answer = (s : ℕ) → is_end s answer ≡ false

pub owing_quiet : (p : PlainPorts) (books : Books) (app : ℕ) (answer : Note) (a : Seat) → IsQuiet answer → view (owing p app answer) books a ≡ view p books a
owing_quiet p books app answer a none = owing_none p books app answer a (and_false (app == a.app) (is_end a.slot answer) (none a.slot))

pub none_some : {X : Type 0} (x : X) → ◌≡◌ {A = Option X} None (Some x) → ⊥
none_some x e = cc

-- ---- changes on the slot

module _ {Is : Numbering → Seat → Now → Type 0} {Tight : Seat → Type 0} {m : Numbering} {ordinals : Ordinals} {books : Books} {p : PlainPorts} {seat : Seat} {v : View} (h : AreFineBut Is Tight m ordinals books p seat v) where
  -- other ports, which differ on the slot alone
  moved : (q : PlainPorts) (others : Books) (w : View) → IsShaped m.made q → q.conns.apps ≡ p.conns.apps
      → ((a : Seat) → a.slot < SLOTS → IsOther seat a → view q others a ≡ view p books a) → view q others seat ≡ w → AreFineBut Is Tight m ordinals others q seat w
  moved q others w shape same far near = record {
    shape = shape;
    here = subst (λ (n : ℕ). seat.app < n) (sym same) h.here;
    there = h.there;
    seen = near;
    others = λ a k l o. subst (IsFine Is Tight m (ordinals a) a) (sym (far a l o)) (h.others a (subst (λ (n : ℕ). a.app < n) same k) l o);
  }

  few_here : seat.app < 4
  few_here = omega (arith, h.here, h.shape.few)

  -- another state of the slot
  state_but : (x : SlotState) → AreFineBut Is Tight m ordinals books (record p { slots = slice_set p.slots (place_of seat) x }) seat (with_state x (view p books seat))
  state_but x =
      moved (record p { slots = slice_set p.slots (place_of seat) x }) books (with_state x (view p books seat))
      (reshaped p.conns.slots p.conns.last _ p.owed refl (length-set p.slots (place_of seat) x) h.shape.owed h.shape)
      refl
      (λ a l o. ap (λ (x : SlotState). with_state x (view p books a)) (get_other p.slots seat a x untouched h.there l o))
      (ap (λ (x : SlotState). with_state x (view p books seat)) (get_same p.slots seat 4 x untouched h.shape.states few_here h.there))

  -- another machine, or none
  pub machine_or_but : (o : Option PlainRdp) → AreFineBut Is Tight m ordinals books (with_machine_or p seat o) seat (record v { machine = unwrap_or o idle })
  machine_or_but o = subst (λ (v : View). AreFineBut Is Tight m ordinals books (with_machine_or p seat o) seat (record v { machine = unwrap_or o idle })) h.seen (state_but (record (state_at p seat) { machine = o }))

  pub machine_but : (r : PlainRdp) → AreFineBut Is Tight m ordinals books (with_machine p seat r) seat (record v { machine = r })
  machine_but r = machine_or_but (Some r)

  -- other terms
  pub terms_but : (t : Terms) → AreFineBut Is Tight m ordinals books (with_terms p seat t) seat (record v { terms = t })
  terms_but t = subst (λ (v : View). AreFineBut Is Tight m ordinals books (with_terms p seat t) seat (record v { terms = t })) h.seen (state_but (record (state_at p seat) { terms = t }))

  -- another packet that waits, or none
  pub stalled_but : (o : Option PlainBuffer) → AreFineBut Is Tight m ordinals books (with_stalled p seat o) seat (record v { waits = waiting_payload o })
  stalled_but o = subst (λ (v : View). AreFineBut Is Tight m ordinals books (with_stalled p seat o) seat (record v { waits = waiting_payload o })) h.seen (state_but (record (state_at p seat) { stalled = o }))

  -- something else in the slot
  pub slot_but : (what : Slot) (last : ℕ) → AreFineBut Is Tight m ordinals books (record p { conns = record (with_slot p.conns seat what) { last = last } }) seat (record v { what = what })
  slot_but what last =
      moved (record p { conns = record (with_slot p.conns seat what) { last = last } }) books (record v { what = what })
      (reshaped _ last p.slots p.owed (length-set p.conns.slots (place_of seat) what) refl h.shape.owed h.shape)
      refl
      (λ a l o. ap (λ (x : Slot). record (view p books a) { what = x }) (get_other p.conns.slots seat a what has.Free h.there l o))
      (ap (λ (x : Slot). record (view p books seat) { what = x }) (get_same p.conns.slots seat p.conns.apps what has.Free h.shape.conns h.here h.there) ∙ ap (λ (v : View). record v { what = what }) h.seen)

  -- another book
  pub book_but : (b : Book) → AreFineBut Is Tight m ordinals (with_book seat b books) p seat (record v { book = b })
  book_but b =
      moved p (with_book seat b books) (record v { book = b }) h.shape refl
      (λ a l o. ap (λ (b : Book). record (view p books a) { book = b }) (book_other seat a b books o))
      (ap (λ (b : Book). record (view p books seat) { book = b }) (book_same seat b books) ∙ ap (λ (v : View). record v { book = b }) h.seen)

  -- an answer more that is owed: none to a close
  pub owing_but : (other : ℕ) (answer : Note) → other < p.conns.apps → IsReply answer → IsQuiet answer → AreFineBut Is Tight m ordinals books (owing p other answer) seat v
  owing_but other answer here reply none =
      moved (owing p other answer) books v (owing_shape other answer h.shape here reply) refl
      (λ a l o. owing_quiet p books other answer a none)
      (owing_quiet p books other answer seat none ∙ h.seen)

  -- that to the close of the slot
  pub ended_but : AreFineBut Is Tight m ordinals books (owing p seat.app (note.Closed seat.slot)) seat (record v { ends = v.ends + 1 })
  ended_but =
      moved (owing p seat.app (note.Closed seat.slot)) books (record v { ends = v.ends + 1 }) (owing_shape seat.app (note.Closed seat.slot) h.shape h.here h.there) refl
      (λ a l o. owing_none p books seat.app (note.Closed seat.slot) a (unlike seat a o))
      (ap (λ (n : ℕ). record (view p books seat) { ends = n }) (count_more (is_end_of seat) p.owed (record { app = seat.app; note = note.Closed seat.slot }) true (alike seat)) ∙ ap (λ (v : View). record v { ends = v.ends + 1 }) h.seen)

  -- another ordinal
  pub ordinal_but : (k : ℕ) → AreFineBut Is Tight m (with_ordinal seat k ordinals) books p seat v
  ordinal_but k = record {
    shape = h.shape;
    here = h.here;
    there = h.there;
    seen = h.seen;
    others = λ a l t o. subst (λ (n : ℕ). IsFine Is Tight m n a (view p books a)) (sym (ordinal_other seat a k ordinals o)) (h.others a l t o);
  }
