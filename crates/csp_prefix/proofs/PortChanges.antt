-- what a step of a slot's reliable connection leaves
use Rattle.std.specs.Prelude.{Bool, true, false, None, Option, Some}
use Rattle.std.proofs.Common.{◌≡◌, ◌⊎◌, inl, inr, ℕ, ◌+◌, List, ap, refl, sym, subst, ◌∙◌}
use Rattle.csp_base.specs.declared.seat.Seat.{Seat}
use Rattle.csp_conn.specs.declared.slot.Connection.{Connection}
use Rattle.csp_conn.specs.declared.slot.Slot.TheVariants as has
use Rattle.csp_log.specs.declared.note.Note.TheVariants as note
use Rattle.csp_ports.specs.Asking.{is_reliable}
use Rattle.csp_ports.specs.Came.{come}
use Rattle.csp_ports.specs.PlainPorts.{PlainPorts, terms_at, with_machine}
use Rattle.csp_ports.specs.Steps.{changed, closed_by, connected_by, freed, reason_of, refused_by, went}
use Rattle.csp_ports.specs.declared.flows.OwnFlows.{OwnFlows}
use Rattle.csp_ports.specs.declared.terms.Wish.{Wish}
use Rattle.csp_ports.specs.declared.terms.Wish.TheVariants as wish
use Rattle.csp_rdp.specs.Changes.{change_between}
use Rattle.csp_rdp.specs.Holding.{rested}
use Rattle.csp_rdp.specs.Machine.{PlainRdp, idle}
use Rattle.csp_rdp.specs.declared.answers.Change.TheVariants as change
use Rattle.csp_rdp.specs.declared.answers.State.{State}
use Rattle.csp_rdp.specs.declared.answers.State.TheVariants.{Closed, CloseWait, Open, SynRcvd, SynSent}
use Rattle.csp_rdp.specs.declared.answers.Cause.{Cause}
use Rattle.csp_prefix.proofs.PortFacts.{Leaves, using}
use Rattle.csp_prefix.proofs.PortSlots.{AreFine, AreFineBut, IsFine, book_but, ended_but, machine_but, machine_or_but, none_some, owing_but, slot_but, terms_but, whole}
use Rattle.csp_prefix.proofs.PortViews.{View, now_of, view}
use Rattle.csp_prefix.specs.Ports.{Books, Ordinals, ends_due, with_opened}
use Rattle.csp_prefix.specs.Slots.{Book, Coming, IsKept, Now, Numbering, Opens, after_opening, blank}

-- ---- a reliable connection on a slot

pub record IsUse (Is : Numbering → Seat → Now → Type 0) (m : Numbering) (ordinal : ℕ) (seat : Seat) (v : View) (n : Now) : Type 0 where
  pub connection : Connection
  pub what : v.what ≡ has.Open connection
  pub reliable : is_reliable v.terms.flags ≡ true
  pub counted : v.terms.ordinal ≡ ordinal
  pub ends : v.ends ≡ ends_due v.terms.wish
  pub over : v.terms.wish ≡ wish.Ended → v.machine.state ≡ Closed
  pub holds : Is m seat n

pub nothing_ended : wish.Nothing ≡ wish.Ended → ⊥
nothing_ended e = cc

ends_none : (w : Wish) → (w ≡ wish.Ended → ⊥) → ends_due w ≡ 0
ends_none wish.Nothing h = refl
ends_none wish.Connection h = refl
ends_none wish.End h = refl
ends_none wish.Ended h = absurd (h refl)

module _ {Is : Numbering → Seat → Now → Type 0} {m : Numbering} {ordinal : ℕ} {seat : Seat} {v : View} where
  pub use_fine : {Tight : Seat → Type 0} → (Tight seat → (payload : List ℕ) → v.waits ≡ Some payload → v.machine.state ≡ Open) → IsUse Is m ordinal seat v (now_of v) → IsFine Is Tight m ordinal seat v
  use_fine waits u = record {
    counted = u.counted;
    ends = u.ends;
    over = u.over;
    waits = waits;
    holds = using Is m seat v.what v.terms (now_of v) u.connection u.what u.reliable u.holds;
  }

  -- its application waits for something else, and so many answers to a close are owed
  pub use_wish : {n : Now} (w : Wish) (k : ℕ) → k ≡ ends_due w → (w ≡ wish.Ended → v.machine.state ≡ Closed) → IsUse Is m ordinal seat v n → IsUse Is m ordinal seat (record v { terms = record v.terms { wish = w }; ends = k }) n
  use_wish w k e over u = record {
    connection = u.connection;
    what = u.what;
    reliable = u.reliable;
    counted = u.counted;
    ends = e;
    over = over;
    holds = u.holds;
  }

-- ---- a slot without a connection

abbrev pub vacant : ℕ → View → View
vacant k v = record v { what = has.Free; terms = record v.terms { wish = wish.Nothing; is_down = false; ordinal = k }; machine = idle }

module _ {Is : Numbering → Seat → Now → Type 0} {Tight : Seat → Type 0} {m : Numbering} {ordinals : Ordinals} {books : Books} {p : PlainPorts} {seat : Seat} {v : View} (h : AreFineBut Is Tight m ordinals books p seat v) where
  pub at_view : AreFineBut Is Tight m ordinals books p seat (view p books seat)
  at_view = record { shape = h.shape; here = h.here; there = h.there; seen = refl; others = h.others }

  pub freed_but : (k : ℕ) → AreFineBut Is Tight m ordinals books (freed k seat p).ports seat (vacant k v)
  freed_but k =
      subst (λ (v : View). AreFineBut Is Tight m ordinals books (freed k seat p).ports seat (vacant k v)) h.seen
      (machine_or_but (terms_but (slot_but at_view has.Free p.conns.last) (record (terms_at p seat) { wish = wish.Nothing; is_down = false; ordinal = k })) None)

  pub vacant_fine : (k : ℕ) → k ≡ ordinals seat → v.waits ≡ None → v.book ≡ blank → v.ends ≡ 0 → IsFine Is Tight m (ordinals seat) seat (vacant k v)
  vacant_fine k counted waits book ends = record {
    counted = counted;
    ends = ends;
    over = λ e. absurd (nothing_ended e);
    waits = λ t payload e. absurd (none_some payload (sym waits ∙ e));
    holds = (record { machine = refl; waits = waits; book = book }, refl);
  }

  ordinal_seen : v.terms.ordinal ≡ ordinals seat → (terms_at p seat).ordinal ≡ ordinals seat
  ordinal_seen e = ap (λ (v : View). v.terms.ordinal) h.seen ∙ e

  pub freed_leaves : v.terms.ordinal ≡ ordinals seat → v.waits ≡ None → v.book ≡ blank → v.ends ≡ 0 → Leaves Is Tight m ordinals books p.conns.apps (freed (terms_at p seat).ordinal seat p)
  freed_leaves counted waits book ends =
      let k = (terms_at p seat).ordinal in
      record { same = refl; new = tt; fine = whole (freed_but k) (vacant_fine k (ordinal_seen counted) waits book ends) }

  pub refused_leaves : (w : Wish) (why : Cause) → v.terms.ordinal ≡ ordinals seat → v.waits ≡ None → v.book ≡ blank → v.ends ≡ 0 → Leaves Is Tight m ordinals books p.conns.apps (refused_by w why seat p)
  refused_leaves wish.Connection why counted waits book ends =
      let k = (terms_at p seat).ordinal in
      record { same = refl; new = tt; fine = whole (owing_but (freed_but k) seat.app (note.Refused (reason_of why)) h.here tt (λ s. refl)) (vacant_fine k (ordinal_seen counted) waits book ends) }
  refused_leaves wish.Nothing why counted waits book ends = freed_leaves counted waits book ends
  refused_leaves wish.End why counted waits book ends = freed_leaves counted waits book ends
  refused_leaves wish.Ended why counted waits book ends = freed_leaves counted waits book ends

  -- ---- changes

  rest_leaves : (Tight seat → ⊥) → IsUse Is m (ordinals seat) seat v (now_of v) → Leaves Is Tight m ordinals books p.conns.apps (come p)
  rest_leaves loose u = record { same = refl; new = tt; fine = whole h (use_fine (λ t. absurd (loose t)) u) }

  down_leaves : (Tight seat → ⊥) → IsUse Is m (ordinals seat) seat v (now_of v) → Leaves Is Tight m ordinals books p.conns.apps (changed change.Down seat p)
  down_leaves loose u =
      let x = view p books seat in
      let k : IsUse Is m (ordinals seat) seat x (now_of x) = subst (λ (v : View). IsUse Is m (ordinals seat) seat v (now_of v)) (sym h.seen) u in
      let y : View = record x { terms = record x.terms { is_down = true } } in
      let l : IsUse Is m (ordinals seat) seat y (now_of y) = record { connection = k.connection; what = k.what; reliable = k.reliable; counted = k.counted; ends = k.ends; over = k.over; holds = k.holds } in
      record { same = refl; new = tt; fine = whole (terms_but at_view (record (terms_at p seat) { is_down = true })) (use_fine (λ t. absurd (loose t)) l) }

-- the connection is closed; its slot may be free then
module _ {Is : Numbering → Seat → Now → Type 0} {Tight : Seat → Type 0} {m : Numbering} {ordinals : Ordinals} {books : Books} {p : PlainPorts} {seat : Seat} {v : View} (h : AreFineBut Is Tight m ordinals books p seat v) where
  closed_on : let x = view p books seat in (w : Wish) (b : Bool) → x.terms.wish ≡ w → x.machine.was_open ≡ b → (Tight seat → ⊥) → x.machine.state ≡ Closed → IsUse Is m (ordinals seat) seat x (now_of x) → (x.machine.was_open ≡ false → (x.book ≡ blank) × (x.waits ≡ None))
      → Leaves Is Tight m ordinals books p.conns.apps (closed_by w b seat p)
  closed_on wish.End b e f loose over u never =
      let x = view p books seat in
      let ends : x.ends + 1 ≡ 1 = ap (λ (k : ℕ). k + 1) (u.ends ∙ ap ends_due e) in
      record {
        same = refl;
        new = tt;
        fine =
            whole (ended_but (terms_but (at_view h) (record (terms_at p seat) { wish = wish.Ended })))
            (use_fine {v = record x { terms = record x.terms { wish = wish.Ended }; ends = x.ends + 1 }} (λ t. absurd (loose t)) (use_wish {v = x} wish.Ended (x.ends + 1) ends (λ _. over) u));
      }
  closed_on wish.Nothing true e f loose over u never = rest_leaves (at_view h) loose u
  closed_on wish.Nothing false e f loose over u never = freed_leaves (at_view h) u.counted (never f).1 (never f).0 (u.ends ∙ ap ends_due e)
  closed_on wish.Connection b e f loose over u never = rest_leaves (at_view h) loose u
  closed_on wish.Ended b e f loose over u never = rest_leaves (at_view h) loose u

  closed_leaves : (Tight seat → ⊥) → v.machine.state ≡ Closed → IsUse Is m (ordinals seat) seat v (now_of v) → (v.machine.was_open ≡ false → (v.book ≡ blank) × (v.waits ≡ None))
      → Leaves Is Tight m ordinals books p.conns.apps (changed change.Closed seat p)
  closed_leaves loose over u never =
      subst
      (λ (v : View). v.machine.state ≡ Closed → IsUse Is m (ordinals seat) seat v (now_of v) → (v.machine.was_open ≡ false → (v.book ≡ blank) × (v.waits ≡ None)) → Leaves Is Tight m ordinals books p.conns.apps (changed change.Closed seat p))
      h.seen (closed_on _ _ refl refl loose) over u never

  -- it is open: that is told
  connected_on : (w : Wish) (bs : Books) (y : View) → (terms_at p seat).wish ≡ w → AreFineBut Is Tight m ordinals bs p seat y → y.terms ≡ terms_at p seat → (Tight seat → ⊥) → IsUse Is m (ordinals seat) seat y (now_of y)
      → AreFine Is Tight m ordinals bs (connected_by w seat p)
  connected_on wish.Connection bs y e k same loose u =
      subst (λ (y : View). IsUse Is m (ordinals seat) seat y (now_of y) → AreFine Is Tight m ordinals bs (connected_by wish.Connection seat p)) k.seen
      (λ u.
      let x = view p bs seat in
      whole (owing_but (terms_but (at_view k) (record (terms_at p seat) { wish = wish.Nothing })) seat.app (note.Connected seat.slot) h.here h.there (λ s. refl))
      (use_fine {v = record x { terms = record x.terms { wish = wish.Nothing } }} (λ t. absurd (loose t)) (use_wish {v = x} wish.Nothing x.ends (u.ends ∙ ap ends_due e) (λ f. absurd (nothing_ended f)) u)))
      u
  connected_on wish.Nothing bs y e k same loose u = whole k (use_fine (λ t. absurd (loose t)) u)
  connected_on wish.End bs y e k same loose u = whole k (use_fine (λ t. absurd (loose t)) u)
  connected_on wish.Ended bs y e k same loose u = whole k (use_fine (λ t. absurd (loose t)) u)

  opened_on : let x = view p books seat in (Tight seat → ⊥) → x.book ≡ blank → IsUse Is m (ordinals seat) seat x (after_opening (now_of x)) → Leaves Is Tight m ordinals books p.conns.apps (changed change.Opened seat p)
  opened_on loose none u =
      let x = view p books seat in
      let how : Option ℕ × Option (ℕ × ℕ) = (Some x.machine.nth, x.machine.peer) in
      let y : View = record x { book = record x.book { opened = Some how } } in
      let l : IsUse Is m (ordinals seat) seat y (now_of y) = record { connection = u.connection; what = u.what; reliable = u.reliable; counted = u.counted; ends = u.ends; over = u.over; holds = u.holds } in
      record {
        same = same_apps (terms_at p seat).wish;
        new = ((h.here, h.there, ap (λ (b : Book). b.opened) none), tt);
        fine = connected_on (terms_at p seat).wish (with_opened seat how books) y refl (book_but (at_view h) (record (books seat) { opened = Some how })) refl loose l;
      }
    where
      same_apps : (w : Wish) → (connected_by w seat p).conns.apps ≡ p.conns.apps
      same_apps wish.Connection = refl
      same_apps wish.Nothing = refl
      same_apps wish.End = refl
      same_apps wish.Ended = refl

  opened_leaves : (Tight seat → ⊥) → v.book ≡ blank → IsUse Is m (ordinals seat) seat v (after_opening (now_of v)) → Leaves Is Tight m ordinals books p.conns.apps (changed change.Opened seat p)
  opened_leaves loose none u =
      subst (λ (v : View). v.book ≡ blank → IsUse Is m (ordinals seat) seat v (after_opening (now_of v)) → Leaves Is Tight m ordinals books p.conns.apps (changed change.Opened seat p)) h.seen (opened_on loose) none u

  refused_changed : (why : Cause) → v.terms.ordinal ≡ ordinals seat → v.waits ≡ None → v.book ≡ blank → v.ends ≡ 0 → Leaves Is Tight m ordinals books p.conns.apps (changed (change.Refused why) seat p)
  refused_changed why counted waits book ends = refused_leaves h (terms_at p seat).wish why counted waits book ends

-- ---- a step of the connection

-- from a state to a machine, where the slot has this
pub record IsEdge (Is : Numbering → Seat → Now → Type 0) (m : Numbering) (ordinal : ℕ) (seat : Seat) (before : State) (r : PlainRdp) (v : View) : Type 0 where
  pub connection : Connection
  pub what : v.what ≡ has.Open connection
  pub reliable : is_reliable v.terms.flags ≡ true
  pub counted : v.terms.ordinal ≡ ordinal
  pub ends : v.ends ≡ ends_due v.terms.wish
  pub over : v.terms.wish ≡ wish.Ended → before ≡ Closed
  pub stays : before ≡ Closed → r.state ≡ Closed
  pub early : (before ≡ SynSent) ⊎ (before ≡ SynRcvd) → (v.book ≡ blank) × (v.waits ≡ None)
  pub opens : Opens before r.state → Is m seat (after_opening (now_of (record v { machine = rested r })))
  pub rests : (Opens before r.state → ⊥) → Is m seat (now_of (record v { machine = rested r }))

syn_sent_closed : SynSent ≡ Closed → ⊥
syn_sent_closed e = cc

module _ {o : OwnFlows} {C : Coming} {Is : Numbering → Seat → Now → Type 0} (kept : IsKept o C Is)
    {Tight : Seat → Type 0} {m : Numbering} {ordinals : Ordinals} {books : Books} {p : PlainPorts} {seat : Seat} {v : View} (h : AreFineBut Is Tight m ordinals books p seat v)
    (before : State) (why : Cause) (r : PlainRdp) (loose : Tight seat → ⊥) (edge : IsEdge Is m (ordinals seat) seat before r v) where
  stepped_but : AreFineBut Is Tight m ordinals books (with_machine p seat (rested r)) seat (record v { machine = rested r })
  stepped_but = machine_but h (rested r)

  use_after : (n : Now) → Is m seat n → IsUse Is m (ordinals seat) seat (record v { machine = rested r }) n
  use_after n is = record {
    connection = edge.connection;
    what = edge.what;
    reliable = edge.reliable;
    counted = edge.counted;
    ends = edge.ends;
    over = λ e. edge.stays (edge.over e);
    holds = is;
  }

  -- by both states
  abbrev After : State → State → Type 0
  After b a = Leaves Is Tight m ordinals books p.conns.apps (changed (change_between b a why) seat (with_machine p seat (rested r)))

  none_open : (b a : State) → before ≡ b → r.state ≡ a → (Opens b a → ⊥) → Opens before r.state → ⊥
  none_open b a e f none k = none (subst (λ (b : State). Opens b a) e (subst (Opens before) f k))

  does_open : (b a : State) → before ≡ b → r.state ≡ a → Opens b a → Opens before r.state
  does_open b a e f k = subst (Opens before) (sym f) (subst (λ (b : State). Opens b a) (sym e) k)

  use_rested : (b a : State) → before ≡ b → r.state ≡ a → (Opens b a → ⊥) → IsUse Is m (ordinals seat) seat (record v { machine = rested r }) (now_of (record v { machine = rested r }))
  use_rested b a e f none = use_after (now_of (record v { machine = rested r })) (edge.rests (none_open b a e f none))

  rest_after : (b a : State) → before ≡ b → r.state ≡ a → (Opens b a → ⊥) → Leaves Is Tight m ordinals books p.conns.apps (come (with_machine p seat (rested r)))
  rest_after b a e f none = rest_leaves stepped_but loose (use_rested b a e f none)

  opened_after : (b : State) → before ≡ b → r.state ≡ Open → Opens b Open → (before ≡ SynSent) ⊎ (before ≡ SynRcvd) → Leaves Is Tight m ordinals books p.conns.apps (changed change.Opened seat (with_machine p seat (rested r)))
  opened_after b e f opens early = opened_leaves stepped_but loose (edge.early early).0 (use_after (after_opening (now_of (record v { machine = rested r }))) (edge.opens (does_open b Open e f opens)))

  closed_after : (b : State) → before ≡ b → r.state ≡ Closed → (Opens b Closed → ⊥) → Leaves Is Tight m ordinals books p.conns.apps (changed change.Closed seat (with_machine p seat (rested r)))
  closed_after b e f none =
      let u = use_rested b Closed e f none in
      closed_leaves stepped_but loose f u (λ g. kept.never m seat (now_of (record v { machine = rested r })) u.holds g)

  down_after : (b a : State) → before ≡ b → r.state ≡ a → (Opens b a → ⊥) → Leaves Is Tight m ordinals books p.conns.apps (changed change.Down seat (with_machine p seat (rested r)))
  down_after b a e f none = down_leaves stepped_but loose (use_rested b a e f none)

  refused_after : before ≡ SynSent → Leaves Is Tight m ordinals books p.conns.apps (changed (change.Refused why) seat (with_machine p seat (rested r)))
  refused_after e =
      let early = edge.early (inl e) in
      refused_changed stepped_but why edge.counted early.1 early.0 (edge.ends ∙ ends_none v.terms.wish (λ f. syn_sent_closed (sym e ∙ edge.over f)))

  by_states : (b a : State) → before ≡ b → r.state ≡ a → After b a
  by_states SynSent Open e f = opened_after SynSent e f tt (inl e)
  by_states SynRcvd Open e f = opened_after SynRcvd e f tt (inr e)
  by_states SynSent Closed e f = refused_after e
  by_states Open CloseWait e f = down_after Open CloseWait e f (λ k. k)
  by_states Open Closed e f = down_after Open Closed e f (λ k. k)
  by_states SynRcvd Closed e f = closed_after SynRcvd e f (λ k. k)
  by_states CloseWait Closed e f = closed_after CloseWait e f (λ k. k)
  by_states SynSent SynSent e f = rest_after SynSent SynSent e f (λ k. k)
  by_states SynSent SynRcvd e f = rest_after SynSent SynRcvd e f (λ k. k)
  by_states SynSent CloseWait e f = rest_after SynSent CloseWait e f (λ k. k)
  by_states SynRcvd SynSent e f = rest_after SynRcvd SynSent e f (λ k. k)
  by_states SynRcvd SynRcvd e f = rest_after SynRcvd SynRcvd e f (λ k. k)
  by_states SynRcvd CloseWait e f = rest_after SynRcvd CloseWait e f (λ k. k)
  by_states Open SynSent e f = rest_after Open SynSent e f (λ k. k)
  by_states Open SynRcvd e f = rest_after Open SynRcvd e f (λ k. k)
  by_states Open Open e f = rest_after Open Open e f (λ k. k)
  by_states CloseWait SynSent e f = rest_after CloseWait SynSent e f (λ k. k)
  by_states CloseWait SynRcvd e f = rest_after CloseWait SynRcvd e f (λ k. k)
  by_states CloseWait Open e f = rest_after CloseWait Open e f (λ k. k)
  by_states CloseWait CloseWait e f = rest_after CloseWait CloseWait e f (λ k. k)
  by_states Closed SynSent e f = rest_after Closed SynSent e f (λ k. k)
  by_states Closed SynRcvd e f = rest_after Closed SynRcvd e f (λ k. k)
  by_states Closed Open e f = rest_after Closed Open e f (λ k. k)
  by_states Closed CloseWait e f = rest_after Closed CloseWait e f (λ k. k)
  by_states Closed Closed e f = rest_after Closed Closed e f (λ k. k)

  pub went_leaves : Leaves Is Tight m ordinals books p.conns.apps (went before why seat r p)
  went_leaves =
      let k = by_states before r.state refl refl in
      record { same = k.same; new = k.new; fine = k.fine }
