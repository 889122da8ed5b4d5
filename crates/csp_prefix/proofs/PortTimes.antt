-- the timers of all reliable connections
use Rattle.std.specs.Prelude.{◌==◌, Bool, true, false, Some, if◌then◌else◌, nat_lt}
use Rattle.std.specs.List.{AllByRecursion, range_with_len}
use Rattle.std.proofs.Common.{◌≡◌, ◌⊎◌, inl, inr, ℕ, zero, suc, ◌+◌, ◌*◌, ◌/◌, ◌%◌, ◌<◌, ◌≤◌, List, [], ◌∷◌, arith, refl, sym, subst}
use Rattle.std.proofs.lemmas.Bool.{ltb-false, ltb-true}
use Rattle.csp_base.specs.declared.seat.Seat.{Seat}
use Rattle.csp_base.specs.declared.limits.TheConstants.{SLOTS}
use Rattle.csp_conn.specs.PlainConns.{place_of, seat_of}
use Rattle.csp_ports.specs.PlainPorts.{PlainPorts, has_machine, machine_at}
use Rattle.csp_ports.specs.Steps.{dropped, dropped_in, timed, timed_at, timed_in, went}
use Rattle.csp_ports.specs.declared.flows.OwnFlows.{OwnFlows}
use Rattle.csp_rdp.specs.Holding.{rested}
use Rattle.csp_rdp.specs.Jobs.{ticked, timed_out}
use Rattle.csp_rdp.specs.Machine.{PlainRdp, broken, idle}
use Rattle.csp_rdp.specs.declared.answers.State.{State}
use Rattle.csp_rdp.specs.declared.answers.State.TheVariants.{Closed, CloseWait, Open, SynRcvd, SynSent}
use Rattle.csp_rdp.specs.declared.answers.Cause.TheVariants as machine_why
use Rattle.csp_rdp_window.specs.Times.{has_passed}
use Rattle.csp_prefix.proofs.PortChanges.{IsEdge, went_leaves}
use Rattle.csp_prefix.proofs.PortFacts.{All, IsReliable, IsResting, Leaves, comes_of, either, fine_of, then_leaves, where_leaves}
use Rattle.csp_prefix.proofs.PortRoom.{dropped_leaves}
use Rattle.csp_prefix.proofs.PortSlots.{AreFine, IsFine, look, looser, machine_but, whole}
use Rattle.csp_prefix.proofs.PortViews.{IsOther, now_of, seats_same, view}
use Rattle.csp_prefix.specs.Ports.{AreGood, Books, Comes, Ordinals}
use Rattle.csp_prefix.specs.Slots.{Coming, IsKept, Now, Numbering, Opens}
use Rattle.csp_prefix.specs.Slots.{with_machine}

-- no slot
abbrev Never : Seat → Type 0
Never _ = ⊥

-- ---- one timer

-- it never opens a connection, and one that is closed stays so
abbrev Ticks : State → State → Type 0
Ticks before after = (Opens before after → ⊥) × (before ≡ Closed → after ≡ Closed)

stays_as : (s : State) → Ticks s s
stays_as SynSent = (λ k. k, λ e. e)
stays_as SynRcvd = (λ k. k, λ e. e)
stays_as Open = (λ k. k, λ e. e)
stays_as CloseWait = (λ k. k, λ e. e)
stays_as Closed = (λ k. k, λ e. e)

times_out : (s : State) (time : ℕ) (r : PlainRdp) → r.state ≡ s → Ticks s (timed_out s time r).state
times_out SynSent time r e = (λ k. k, λ e. refl)
times_out SynRcvd time r e = (λ k. k, λ e. refl)
times_out Open time r e = go (r.send.una == r.send.nxt)
  where
    go : (b : Bool) → Ticks Open (if b then r else broken time r).state
    go true = subst (Ticks Open) (sym e) (stays_as Open)
    go false = (λ k. k, λ e. absurd cc)
times_out CloseWait time r e = (λ k. k, λ e. refl)
times_out Closed time r e = subst (Ticks Closed) (sym e) (stays_as Closed)

ticks : (time : ℕ) (r : PlainRdp) → Ticks r.state (ticked time r).state
ticks time r = go (has_passed (Some r.since) r.options.conn_timeout time)
  where
    go : (b : Bool) → Ticks r.state (if b then timed_out r.state time r else r).state
    go true = times_out r.state time r refl
    go false = stays_as r.state

idle_ticks : (time : ℕ) → ticked time idle ≡ idle
idle_ticks time = go (has_passed (Some 0) idle.options.conn_timeout time)
  where
    go : (b : Bool) → (if b then idle else idle) ≡ idle
    go true = refl
    go false = refl

module _ {o : OwnFlows} {C : Coming} {Is : Numbering → Seat → Now → Type 0} (kept : IsKept o C Is)
    {m : Numbering} {ordinals : Ordinals} {books : Books} {p : PlainPorts} (time : ℕ) (seat : Seat) (here : seat.app < p.conns.apps) (there : seat.slot < SLOTS) (h : AreFine Is Never m ordinals books p) where
  -- what comes of the step of its machine
  abbrev Ticked : Type 0
  Ticked = let r = machine_at p seat in Leaves Is Never m ordinals books p.conns.apps (went r.state machine_why.Timeout seat (ticked time r) p)

  idle_timed : machine_at p seat ≡ idle → Ticked
  idle_timed e =
      let x = view p books seat in
      let f = h.slots seat here there in
      subst (λ (r : PlainRdp). Leaves Is Never m ordinals books p.conns.apps (went r.state machine_why.Timeout seat (ticked time r) p)) (sym e)
      (subst (λ (r : PlainRdp). Leaves Is Never m ordinals books p.conns.apps (went idle.state machine_why.Timeout seat r p)) (sym (idle_ticks time))
      (record {
        same = refl;
        new = tt;
        fine =
            whole (machine_but (look seat here there h) (rested idle))
            (subst (λ (r : PlainRdp). IsFine Is Never m (ordinals seat) seat (record x { machine = r })) e f);
      }))

  ticked_edge : IsReliable Is m seat (view p books seat) → IsEdge Is m (ordinals seat) seat (machine_at p seat).state (ticked time (machine_at p seat)) (view p books seat)
  ticked_edge k =
      let x = view p books seat in
      let f = h.slots seat here there in
      let t = ticks time x.machine in
      record {
        connection = k.connection;
        what = k.what;
        reliable = k.reliable;
        counted = f.counted;
        ends = f.ends;
        over = f.over;
        stays = t.1;
        early = kept.early m seat (now_of x) k.holds;
        opens = λ s. absurd (t.0 s);
        rests = λ _. kept.rests m seat (with_machine (ticked time x.machine) (now_of x)) (kept.ticks m seat (now_of x) time k.holds);
      }

  timed_leaves : Leaves Is Never m ordinals books p.conns.apps (timed_at time seat p)
  timed_leaves =
      let r = machine_at p seat in
      where_leaves (has_machine p seat) (went r.state machine_why.Timeout seat (ticked time r)) (go (either Is m seat (view p books seat) (h.slots seat here there).holds)) (record { same = refl; new = tt; fine = h })
    where
      go : IsResting (view p books seat) ⊎ IsReliable Is m seat (view p books seat) → Ticked
      go (inl r) = idle_timed r.machine
      go (inr k) = went_leaves kept (look seat here there h) (machine_at p seat).state machine_why.Timeout (ticked time (machine_at p seat)) (λ n. n) (ticked_edge k)

-- ---- all timers

divides : (k n : ℕ) → k < n * 4 → (k / 4 < n) × (k % 4 < 4)
divides k n h = (omega (arith, h), omega arith)

range_below : (a n most : ℕ) → a + n ≡ most → AllByRecursion (λ k. k < most) (range_with_len a n)
range_below a zero most e = tt
range_below a (suc n) most e = (omega (arith, e), range_below (a + 1) n most (omega (arith, e)))

-- the slots before this place
abbrev Before : ℕ → Seat → Type 0
Before k a = place_of a < k

before_next : (k : ℕ) (a : Seat) → a.slot < 4 → Before (k + 1) a → IsOther (seat_of k) a → Before k a
before_next k a low t other = by_test (nat_lt (place_of a) k) refl
  where
    by_test : (b : Bool) → nat_lt (place_of a) k ≡ b → place_of a < k
    by_test true e = ltb-true (place_of a) k e
    by_test false e =
        let past : k ≤ place_of a = ltb-false (place_of a) k e in
        absurd (other (seats_same (seat_of k) a (omega (arith, t, past, low)) (omega (arith, t, past, low))))

module _ {o : OwnFlows} {C : Coming} {Is : Numbering → Seat → Now → Type 0} (kept : IsKept o C Is) {m : Numbering} {ordinals : Ordinals} (time apps : ℕ) where
  timed_one : {books : Books} {p : PlainPorts} (k : ℕ) → k < apps * 4 → p.conns.apps ≡ apps → AreFine Is Never m ordinals books p → Leaves Is Never m ordinals books apps (timed_at time (seat_of k) p)
  timed_one {books} {p} k below same h =
      let d = divides k apps below in
      subst (λ (n : ℕ). Leaves Is Never m ordinals books n (timed_at time (seat_of k) p)) same
      (timed_leaves kept time (seat_of k) (subst (λ (n : ℕ). k / SLOTS < n) (sym same) d.0) d.1 h)

  timed_all : (ks : List ℕ) {books : Books} {p : PlainPorts} → AllByRecursion (λ k. k < apps * 4) ks → p.conns.apps ≡ apps → AreFine Is Never m ordinals books p → Leaves Is Never m ordinals books apps (timed_in time ks p)
  timed_all [] below same h = record { same = same; new = tt; fine = h }
  timed_all (k ∷ ks) {books} {p} below same h =
      let first : Leaves Is Never m ordinals books apps (timed_at time (seat_of k) p) = timed_one k below.0 same h in
      then_leaves (timed_at time (seat_of k) p) (timed_in time ks) first (timed_all ks below.1 first.same first.fine)

  dropped_one : {books : Books} {p : PlainPorts} (k : ℕ) → k < apps * 4 → p.conns.apps ≡ apps → AreFine Is (Before k) m ordinals books p → Leaves Is (Before (k + 1)) m ordinals books apps (dropped (seat_of k) p)
  dropped_one {books} {p} k below same h =
      let d = divides k apps below in
      subst (λ (n : ℕ). Leaves Is (Before (k + 1)) m ordinals books n (dropped (seat_of k) p)) same
      (dropped_leaves kept (seat_of k) (subst (λ (n : ℕ). k / SLOTS < n) (sym same) d.0) d.1 h {Tight = Before (k + 1)} (before_next k))

  dropped_all : (n k : ℕ) {books : Books} {p : PlainPorts} → k + n ≡ apps * 4 → p.conns.apps ≡ apps → AreFine Is (Before k) m ordinals books p → Leaves Is All m ordinals books apps (dropped_in (range_with_len k n) p)
  dropped_all zero k {books} {p} e same h = record { same = same; new = tt; fine = looser (λ a here low t. omega (arith, e, same, here, low)) h }
  dropped_all (suc n) k {books} {p} e same h =
      let first : Leaves Is (Before (k + 1)) m ordinals books apps (dropped (seat_of k) p) = dropped_one k (omega (arith, e)) same h in
      then_leaves (dropped (seat_of k) p) (dropped_in (range_with_len (k + 1) n)) first (dropped_all n (k + 1) (omega (arith, e)) first.same first.fine)

module _ {o : OwnFlows} {C : Coming} {Is : Numbering → Seat → Now → Type 0} (kept : IsKept o C Is) {m : Numbering} {ordinals : Ordinals} {books : Books} {p : PlainPorts} (g : AreGood Is m ordinals books p) (time : ℕ) where
  all_timed : Leaves Is Never m ordinals books p.conns.apps (timed_in time (range_with_len 0 (p.conns.apps * SLOTS)) p)
  all_timed = timed_all kept time p.conns.apps (range_with_len 0 (p.conns.apps * SLOTS)) (range_below 0 (p.conns.apps * 4) (p.conns.apps * 4) (omega arith)) refl (looser (λ a k l t. tt) (fine_of g))

  all_dropped : {bs : Books} {q : PlainPorts} → q.conns.apps ≡ p.conns.apps → AreFine Is Never m ordinals bs q → Leaves Is All m ordinals bs p.conns.apps (dropped_in (range_with_len 0 (q.conns.apps * SLOTS)) q)
  all_dropped {bs} {q} same h =
      subst (λ (n : ℕ). Leaves Is All m ordinals bs n (dropped_in (range_with_len 0 (q.conns.apps * SLOTS)) q)) same
      (dropped_all kept time q.conns.apps (q.conns.apps * 4) 0 (omega arith) refl (looser (λ a k l t. absurd (omega (arith, t))) h))

  pub timed_comes : Comes Is m ordinals books p.conns.apps (timed time p)
  timed_comes =
      comes_of
      (then_leaves (timed_in time (range_with_len 0 (p.conns.apps * SLOTS)) p) (λ p. dropped_in (range_with_len 0 (p.conns.apps * SLOTS)) p) all_timed (all_dropped all_timed.same all_timed.fine))
      (λ _. tt)
