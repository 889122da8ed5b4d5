-- the timers open no connection, and so report nothing but the packets that are discarded
use Rattle.std.specs.Prelude.{Bool, true, false, if◌then◌else◌, ◌==◌}
use Rattle.std.proofs.Common.{◌≡◌, ℕ, List, [], ◌∷◌, ◌++◌, refl, ap, ap₂, sym, ◌∙◌}
use Rattle.csp_deck.specs.Keeping.{PlainPile}
use Rattle.csp_log.specs.declared.event.Event.{Event}
use Rattle.csp_ports.proofs.Holding.{nil-left, nil-right}
use Rattle.csp_ports.proofs.Settling.{by_dropped}
use Rattle.csp_ports.specs.Came.{Comes, at_work}
use Rattle.csp_ports.specs.PlainPorts.{PlainPorts, PortsAt, machine_at, terms_at}
use Rattle.csp_ports.specs.Steps.{changed, closed_by, dropped, dropped_in, refused_by}
use Rattle.csp_ports.specs.declared.terms.Wish.{Wish}
use Rattle.csp_ports.specs.declared.terms.Wish.TheVariants as wish
use Rattle.csp_rdp.specs.Changes.{change_between}
use Rattle.csp_rdp.specs.Jobs.{ticked, timed_out}
use Rattle.csp_rdp.specs.Machine.{PlainRdp, broken}
use Rattle.csp_rdp.specs.declared.answers.Change.{Change}
use Rattle.csp_rdp.specs.declared.answers.Change.TheVariants as change
use Rattle.csp_rdp.specs.declared.answers.State.{State}
use Rattle.csp_rdp.specs.declared.answers.State.TheVariants.{Closed, SynSent, SynRcvd, Open, CloseWait}
use Rattle.csp_rdp.specs.declared.answers.Cause.{Cause}
use Rattle.csp_rdp_window.specs.Times.{has_passed}
use Rattle.std.specs.Prelude.{Some}
use Rattle.csp_base.specs.declared.seat.Seat.{Seat}
use Rattle.csp_conn.specs.PlainConns.{seat_of}

closed_quiet : (w : Wish) (was : Bool) (seat : Seat) (p : PlainPorts) → (closed_by w was seat p).events ≡ []
closed_quiet wish.End was seat p = refl
closed_quiet wish.Nothing true seat p = refl
closed_quiet wish.Nothing false seat p = refl
closed_quiet wish.Connection was seat p = refl
closed_quiet wish.Ended was seat p = refl

refused_quiet : (w : Wish) (why : Cause) (seat : Seat) (p : PlainPorts) → (refused_by w why seat p).events ≡ []
refused_quiet wish.End why seat p = refl
refused_quiet wish.Nothing why seat p = refl
refused_quiet wish.Connection why seat p = refl
refused_quiet wish.Ended why seat p = refl

-- only an opening is reported
pub changed_quiet : (x : Change) (seat : Seat) (p : PlainPorts) → (x ≡ change.Opened → ⊥) → (changed x seat p).events ≡ []
changed_quiet change.None seat p h = refl
changed_quiet change.Opened seat p h = absurd (h refl)
changed_quiet (change.Refused why) seat p h = refused_quiet (terms_at p seat).wish why seat p
changed_quiet change.Down seat p h = refl
changed_quiet change.Closed seat p h = closed_quiet (terms_at p seat).wish (machine_at p seat).was_open seat p

-- what a timer can come to
broke : (b : Bool) (time : ℕ) (r : PlainRdp) (why : Cause) → r.state ≡ Open → change_between Open (if b then r else broken time r).state why ≡ change.Opened → ⊥
broke true time r why e h = absurd (go r.state e h)
  where
    go : (s : State) → s ≡ Open → change_between Open s why ≡ change.Opened → ⊥
    go Open e h = cc
    go Closed e h = cc
    go SynSent e h = cc
    go SynRcvd e h = cc
    go CloseWait e h = cc
broke false time r why e h = cc

ran_out : (s : State) (time : ℕ) (r : PlainRdp) (why : Cause) → r.state ≡ s → change_between s (timed_out s time r).state why ≡ change.Opened → ⊥
ran_out SynSent time r why e h = cc
ran_out SynRcvd time r why e h = cc
ran_out Open time r why e h = broke (r.send.una == r.send.nxt) time r why e h
ran_out CloseWait time r why e h = cc
ran_out Closed time r why e h = same r.state e h
  where
    same : (t : State) → t ≡ Closed → change_between Closed t why ≡ change.Opened → ⊥
    same Closed e h = cc
    same SynSent e h = cc
    same SynRcvd e h = cc
    same Open e h = cc
    same CloseWait e h = cc

stays : (s : State) (why : Cause) → change_between s s why ≡ change.Opened → ⊥
stays SynSent why h = cc
stays SynRcvd why h = cc
stays Open why h = cc
stays CloseWait why h = cc
stays Closed why h = cc

pub never_opens : (time : ℕ) (r : PlainRdp) (why : Cause) → change_between r.state (ticked time r).state why ≡ change.Opened → ⊥
never_opens time r why h = go (has_passed (Some r.since) r.options.conn_timeout time) h
  where
    go : (b : Bool) → change_between r.state (if b then timed_out r.state time r else r).state why ≡ change.Opened → ⊥
    go true h = ran_out r.state time r why refl h
    go false h = stays r.state why h

-- where a packet that waits is discarded its buffer is let go, so that nothing is reported where nothing is let go
dropped_quiet : (seat : Seat) (p : PlainPorts) → (dropped seat p).loose ≡ [] → (dropped seat p).events ≡ []
dropped_quiet seat p = by_dropped (λ c. c.loose ≡ [] → c.events ≡ []) seat p (λ opens none. refl) (λ b e shut none. absurd cc)

dropped_in_quiet : (ks : List ℕ) (p : PlainPorts) → (dropped_in ks p).loose ≡ [] → (dropped_in ks p).events ≡ []
dropped_in_quiet [] p none = refl
dropped_in_quiet (k ∷ ks) p none =
    let d = dropped (seat_of k) p in
    let rest = dropped_in ks d.ports in
    ap₂ (λ xs ys. xs ++ ys) (dropped_quiet (seat_of k) p (nil-left d.loose rest.loose none)) (dropped_in_quiet ks d.ports (nil-right d.loose rest.loose none))

pub drops_quietly : (old new : PortsAt) (before after : PlainPile) (earlier later : List Event) (ks : List ℕ) (p : PlainPorts) → Comes (at_work old before earlier) (at_work new after later) (dropped_in ks p) →
    earlier ≡ [] → after.contents ≡ [] → later ≡ []
drops_quietly old new before after earlier later ks p comes first none =
    let all = ap (λ (t : PlainPile). t.contents) comes.trash in
    let loose = nil-right before.contents (dropped_in ks p).loose (sym all ∙ none) in
    comes.events ∙ ap₂ (λ xs ys. xs ++ ys) first (dropped_in_quiet ks p loose)
