-- ports that are good, by their slots; one step after another; and what is on a slot
use Rattle.std.specs.Prelude.{Bool, true, false, None, ⊤}
use Rattle.std.proofs.Common.{◌≡◌, ◌⊎◌, inl, inr, ℕ, ◌+◌, List, [], ◌∷◌, ◌++◌, ap, refl, sym, subst, ◌∙◌}
use Rattle.csp_base.specs.declared.seat.Seat.{Seat}
use Rattle.csp_conn.specs.declared.slot.Connection.{Connection}
use Rattle.csp_conn.specs.declared.slot.Slot.{Slot}
use Rattle.csp_conn.specs.declared.slot.Slot.TheVariants as has
use Rattle.csp_log.specs.declared.event.Event.{Event}
use Rattle.csp_ports.specs.Asking.{is_reliable}
use Rattle.csp_ports.specs.Came.{Came, come, then}
use Rattle.csp_ports.specs.PlainPorts.{PlainPorts}
use Rattle.csp_ports.specs.Steps.{where_machine}
use Rattle.csp_ports.specs.declared.flows.OwnFlows.{OwnFlows}
use Rattle.csp_ports.specs.declared.terms.Terms.{Terms}
use Rattle.csp_ports.specs.declared.terms.Wish.TheVariants as wish
use Rattle.csp_rdp.specs.Machine.{idle}
use Rattle.csp_prefix.proofs.PortSlots.{AreFine, AreFineBut, looser}
use Rattle.csp_prefix.proofs.PortViews.{View, now_of, view}
use Rattle.csp_prefix.specs.Ports.{AreGood, AreNew, Books, Comes, IsInUse, IsPlain, IsSlot, IsVacant, Ordinals, noted, noted_by}
use Rattle.csp_prefix.specs.Slots.{Coming, GoesOn, IsKept, Now, Numbering}

-- every slot
abbrev pub All : Seat → Type 0
All _ = ⊤

-- ---- good ports are fine on each slot, and the other way round

module _ {Is : Numbering → Seat → Now → Type 0} {m : Numbering} {ordinals : Ordinals} {books : Books} {p : PlainPorts} where
  pub fine_of : AreGood Is m ordinals books p → AreFine Is All m ordinals books p
  fine_of g = record {
    shape = record {
      few = g.few;
      conns = g.conns;
      states = g.states;
      made = g.made;
      owners = g.owners;
      owed = g.owed;
    };
    slots = λ a k l. record {
      counted = g.counted a k l;
      ends = g.ends a k l;
      over = g.over a k l;
      waits = λ t. g.waits a k l;
      holds = g.slots a k l;
    };
  }

  pub good_of : AreFine Is All m ordinals books p → AreGood Is m ordinals books p
  good_of h = record {
    few = h.shape.few;
    conns = h.shape.conns;
    states = h.shape.states;
    made = h.shape.made;
    owners = h.shape.owners;
    owed = h.shape.owed;
    counted = λ a k l. (h.slots a k l).counted;
    waits = λ a k l. (h.slots a k l).waits tt;
    ends = λ a k l. (h.slots a k l).ends;
    over = λ a k l. (h.slots a k l).over;
    slots = λ a k l. (h.slots a k l).holds;
  }

-- ---- steps

-- what comes leaves every slot fine, with what is reported noted
pub record Leaves (Is : Numbering → Seat → Now → Type 0) (Tight : Seat → Type 0) (m : Numbering) (ordinals : Ordinals) (books : Books) (apps : ℕ) (c : Came) : Type 0 where
  pub same : c.ports.conns.apps ≡ apps
  pub new : AreNew apps c.events books
  pub fine : AreFine Is Tight m ordinals (noted c.events books) c.ports

new_both : (apps : ℕ) (es fs : List Event) (books : Books) → AreNew apps es books → AreNew apps fs (noted es books) → AreNew apps (es ++ fs) books
new_both apps [] fs books h k = k
new_both apps (e ∷ es) fs books h k = (h.0, new_both apps es fs (noted_by e books) h.1 k)

noted_both : (es fs : List Event) (books : Books) → noted fs (noted es books) ≡ noted (es ++ fs) books
noted_both [] fs books = refl
noted_both (e ∷ es) fs books = noted_both es fs (noted_by e books)

module _ {Is : Numbering → Seat → Now → Type 0} {Tight : Seat → Type 0} {m : Numbering} {ordinals : Ordinals} {books : Books} {apps : ℕ} where
  pub comes_of : {c : Came} → Leaves Is Tight m ordinals books apps c → ((a : Seat) → Tight a) → Comes Is m ordinals books apps c
  comes_of h tight = record { same = h.same; new = h.new; good = good_of (looser (λ a k l t. tight a) h.fine) }

  pub then_leaves : {Loose : Seat → Type 0} (c : Came) (next : PlainPorts → Came) → Leaves Is Loose m ordinals books apps c
      → Leaves Is Tight m ordinals (noted c.events books) apps (next c.ports) → Leaves Is Tight m ordinals books apps (then c next)
  then_leaves c next h k = record {
    same = k.same;
    new = new_both apps c.events (next c.ports).events books h.new k.new;
    fine = subst (λ (bs : Books). AreFine Is Tight m ordinals bs (next c.ports).ports) (noted_both c.events (next c.ports).events books) k.fine;
  }

  -- a slot with a machine makes its step, and one without makes none
  pub where_leaves : (b : Bool) (step : PlainPorts → Came) {p : PlainPorts} → Leaves Is Tight m ordinals books apps (step p) → Leaves Is Tight m ordinals books apps (come p) → Leaves Is Tight m ordinals books apps (where_machine b step p)
  where_leaves true step h k = h
  where_leaves false step h k = k

-- ---- what is on a slot

-- it has no reliable connection
pub record IsResting (v : View) : Type 0 where
  pub machine : v.machine ≡ idle
  pub waits : v.waits ≡ None

-- it has one
pub record IsReliable (Is : Numbering → Seat → Now → Type 0) (m : Numbering) (seat : Seat) (v : View) : Type 0 where
  pub connection : Connection
  pub what : v.what ≡ has.Open connection
  pub reliable : is_reliable v.terms.flags ≡ true
  pub holds : Is m seat (now_of v)

module _ (Is : Numbering → Seat → Now → Type 0) (m : Numbering) (seat : Seat) where
  pub used : (w : Slot) (t : Terms) (n : Now) (c : Connection) → w ≡ has.Open c → is_reliable t.flags ≡ true → IsSlot Is w t m seat n → Is m seat n
  used w t n c e f h = subst (λ (b : Bool). IsInUse Is b m seat n) f (subst (λ (w : Slot). IsSlot Is w t m seat n) e h)

  pub using : (w : Slot) (t : Terms) (n : Now) (c : Connection) → w ≡ has.Open c → is_reliable t.flags ≡ true → Is m seat n → IsSlot Is w t m seat n
  using w t n c e f h = subst (λ (w : Slot). IsSlot Is w t m seat n) (sym e) (subst (λ (b : Bool). IsInUse Is b m seat n) (sym f) h)

  pub either : (v : View) → IsSlot Is v.what v.terms m seat (now_of v) → IsResting v ⊎ IsReliable Is m seat v
  either v h = by_slot v.what refl
    where
      by_flags : (c : Connection) (b : Bool) → v.what ≡ has.Open c → is_reliable v.terms.flags ≡ b → IsResting v ⊎ IsReliable Is m seat v
      by_flags c true e f = inr (record { connection = c; what = e; reliable = f; holds = used v.what v.terms (now_of v) c e f h })
      by_flags c false e f =
          let k : IsPlain (now_of v) = subst (λ (b : Bool). IsInUse Is b m seat (now_of v)) f (subst (λ (w : Slot). IsSlot Is w v.terms m seat (now_of v)) e h) in
          inl (record { machine = k.machine; waits = k.waits })

      by_slot : (w : Slot) → v.what ≡ w → IsResting v ⊎ IsReliable Is m seat v
      by_slot has.Free e =
          let k : IsVacant (now_of v) × (v.terms.wish ≡ wish.Nothing) = subst (λ (w : Slot). IsSlot Is w v.terms m seat (now_of v)) e h in
          inl (record { machine = k.0.machine; waits = k.0.waits })
      by_slot has.Held e =
          let k : IsVacant (now_of v) = subst (λ (w : Slot). IsSlot Is w v.terms m seat (now_of v)) e h in
          inl (record { machine = k.machine; waits = k.waits })
      by_slot (has.Open c) e = by_flags c (is_reliable v.terms.flags) e refl

-- ---- other connections are made

module _ {o : OwnFlows} {C : Coming} {Is : Numbering → Seat → Now → Type 0} (kept : IsKept o C Is) where
  grown_use : (b : Bool) (old new : Numbering) (seat : Seat) (n : Now) → GoesOn old new → IsInUse Is b old seat n → IsInUse Is b new seat n
  grown_use true old new seat n g h = kept.grows old new seat n g h
  grown_use false old new seat n g h = h

  grown_slot : (w : Slot) (t : Terms) (old new : Numbering) (seat : Seat) (n : Now) → GoesOn old new → IsSlot Is w t old seat n → IsSlot Is w t new seat n
  grown_slot has.Free t old new seat n g h = h
  grown_slot has.Held t old new seat n g h = h
  grown_slot (has.Open c) t old new seat n g h = grown_use (is_reliable t.flags) old new seat n g h

  pub grown_but : {Tight : Seat → Type 0} {old : Numbering} {ordinals : Ordinals} {books : Books} {p : PlainPorts} {seat : Seat} {v : View} (new : Numbering) → GoesOn old new → new.made ≡ old.made + 1 → AreFineBut Is Tight old ordinals books p seat v
      → AreFineBut Is Tight new ordinals books (record p { made = p.made + 1 }) seat v
  grown_but {old = old} {books = books} {p = p} new g more h = record {
    shape = record {
      few = h.shape.few;
      conns = h.shape.conns;
      states = h.shape.states;
      made = ap (λ (k : ℕ). k + 1) h.shape.made ∙ sym more;
      owners = h.shape.owners;
      owed = h.shape.owed;
    };
    here = h.here;
    there = h.there;
    seen = h.seen;
    others = λ a k l t.
        let f = h.others a k l t in
        let x = view p books a in
        record { counted = f.counted; ends = f.ends; over = f.over; waits = f.waits; holds = grown_slot x.what x.terms old new a (now_of x) g f.holds };
  }
