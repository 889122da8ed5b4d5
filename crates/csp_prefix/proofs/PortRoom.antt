-- packets that wait for room in a window
use Rattle.std.specs.Prelude.{◌&&◌, not, Bool, true, false, None, Option, Some}
use Rattle.std.proofs.Common.{◌≡◌, ◌≢◌, ◌⊎◌, inl, inr, ℕ, ◌<◌, List, ap, refl, sym, subst, ◌∙◌}
use Rattle.csp_base.specs.declared.seat.Seat.{Seat}
use Rattle.csp_base.specs.declared.limits.TheConstants.{SLOTS}
use Rattle.csp_buffer.specs.PlainBuffer.{PlainBuffer}
use Rattle.csp_log.specs.declared.event.Discard.TheVariants as why
use Rattle.csp_ports.proofs.Public.{by_dropped, by_settled}
use Rattle.csp_ports.specs.Came.{come, discarding}
use Rattle.csp_ports.specs.PlainPorts.{PlainPorts, is_open, machine_at, stalled_at, with_stalled}
use Rattle.csp_ports.specs.Steps.{admitted, dropped, has_room, settled}
use Rattle.csp_ports.specs.declared.flows.OwnFlows.{OwnFlows}
use Rattle.csp_rdp.specs.Jobs.{admitting}
use Rattle.csp_rdp_window.specs.Sending.{is_full}
use Rattle.csp_rdp.specs.Machine.{PlainRdp}
use Rattle.csp_rdp.specs.declared.answers.State.{State}
use Rattle.csp_rdp.specs.declared.answers.State.TheVariants.{Closed, CloseWait, Open, SynRcvd, SynSent}
use Rattle.csp_prefix.proofs.PortChanges.{use_fine}
use Rattle.csp_prefix.proofs.PortFacts.{All, IsReliable, IsResting, Leaves, either}
use Rattle.csp_prefix.proofs.PortQuiet.{machine_by}
use Rattle.csp_prefix.proofs.PortSlots.{AreFine, AreFineBut, look, looser_but, none_some, stalled_but, whole}
use Rattle.csp_prefix.proofs.PortViews.{IsOther, View, now_of, view}
use Rattle.csp_prefix.specs.Ports.{Books, Ordinals, waiting_payload}
use Rattle.csp_prefix.specs.Slots.{Coming, IsKept, Now, Numbering}

-- a connection is open where its state is
state_open : (s : State) → is_open s ≡ true → s ≡ Open
state_open Open e = refl
state_open SynSent e = absurd cc
state_open SynRcvd e = absurd cc
state_open CloseWait e = absurd cc
state_open Closed e = absurd cc

state_shut : (s : State) → is_open s ≡ false → s ≢ Open
state_shut s shut e = absurd (subst (λ (t : State). is_open t ≡ false → ⊥) (sym e) (λ f. cc) shut)

-- where a packet waits for an open connection, so does its payload
waits_open : (o : Option PlainBuffer) (s : State) → ((b : PlainBuffer) → o ≡ Some b → is_open s ≡ true) → (payload : List ℕ) → waiting_payload o ≡ Some payload → s ≡ Open
waits_open None s opens payload e = absurd (none_some payload e)
waits_open (Some b) s opens payload e = state_open s (opens b refl)

module _ {o : OwnFlows} {C : Coming} {Is : Numbering → Seat → Now → Type 0} (kept : IsKept o C Is)
    {Loose : Seat → Type 0} {m : Numbering} {ordinals : Ordinals} {books : Books} {p : PlainPorts} (seat : Seat) (here : seat.app < p.conns.apps) (there : seat.slot < SLOTS) (h : AreFine Is Loose m ordinals books p) where
  -- it waits for a reliable connection
  waits_on : (b : PlainBuffer) → stalled_at p seat ≡ Some b → IsReliable Is m seat (view p books seat)
  waits_on b e = go (either Is m seat (view p books seat) (h.slots seat here there).holds)
    where
      go : IsResting (view p books seat) ⊎ IsReliable Is m seat (view p books seat) → IsReliable Is m seat (view p books seat)
      go (inl r) = absurd (none_some b.picture.payload (sym r.waits ∙ ap waiting_payload e))
      go (inr k) = k

  -- it is taken out
  without_but : AreFineBut Is Loose m ordinals books (with_stalled p seat None) seat (record (view p books seat) { waits = None })
  without_but = stalled_but (look seat here there h) None

  module _ {Tight : Seat → Type 0} (wider : (a : Seat) → a.slot < SLOTS → Tight a → IsOther seat a → Loose a) where
    rest_leaves : ((b : PlainBuffer) → stalled_at p seat ≡ Some b → is_open (machine_at p seat).state ≡ true) → Leaves Is Tight m ordinals books p.conns.apps (come p)
    rest_leaves opens =
        let f = h.slots seat here there in
        record {
          same = refl;
          new = tt;
          fine =
              whole (looser_but wider (look seat here there h))
              (record { counted = f.counted; ends = f.ends; over = f.over; waits = λ t. waits_open (stalled_at p seat) (machine_at p seat).state opens; holds = f.holds });
        }

    discarded_leaves : (b : PlainBuffer) → stalled_at p seat ≡ Some b → (machine_at p seat).state ≢ Open → Leaves Is Tight m ordinals books p.conns.apps (discarding why.NoConn b.picture (with_stalled p seat None))
    discarded_leaves b e closed =
        let x = view p books seat in
        let f = h.slots seat here there in
        let k : IsReliable Is m seat x = waits_on b e in
        record {
          same = refl;
          new = (tt, tt);
          fine =
              whole (looser_but wider without_but)
              (use_fine {v = record x { waits = None }} (λ t payload e. absurd (none_some payload e))
              (record { connection = k.connection; what = k.what; reliable = k.reliable; counted = f.counted; ends = f.ends; over = f.over; holds = kept.drops m seat (now_of x) closed k.holds }));
        }

    pub dropped_leaves : Leaves Is Tight m ordinals books p.conns.apps (dropped seat p)
    dropped_leaves = by_dropped (Leaves Is Tight m ordinals books p.conns.apps) seat p rest_leaves (λ b e shut. discarded_leaves b e (λ f. state_shut (machine_at p seat).state shut f))

-- ---- where there is room it is admitted

room_open : (r : PlainRdp) → has_room r ≡ true → r.state ≡ Open
room_open r e = go (is_open r.state) refl e
  where
    go : (b : Bool) → is_open r.state ≡ b → b && not (is_full r.send) ≡ true → r.state ≡ Open
    go true f e = state_open r.state f
    go false f e = absurd cc

module _ {o : OwnFlows} {C : Coming} {Is : Numbering → Seat → Now → Type 0} (kept : IsKept o C Is)
    {m : Numbering} {ordinals : Ordinals} {books : Books} {p : PlainPorts} (seat : Seat) (here : seat.app < p.conns.apps) (there : seat.slot < SLOTS) (h : AreFine Is All m ordinals books p) (time : ℕ) where
  settled_room : (b : PlainBuffer) → stalled_at p seat ≡ Some b → has_room (machine_at p seat) ≡ true → Leaves Is All m ordinals books p.conns.apps (come (admitted time seat b (with_stalled p seat None)))
  settled_room b e room =
      let x = view p books seat in
      let y : View = record x { waits = None; machine = admitting b time x.machine } in
      let f = h.slots seat here there in
      let k : IsReliable Is m seat x = waits_on kept seat here there h b e in
      record {
        same = refl;
        new = tt;
        fine =
            whole (machine_by (admitting b time) (without_but kept seat here there h))
            (use_fine {v = y} (λ t payload e. absurd (none_some payload e))
            (record {
              connection = k.connection;
              what = k.what;
              reliable = k.reliable;
              counted = f.counted;
              ends = f.ends;
              over = f.over;
              holds = kept.settles m seat (now_of x) b time (room_open x.machine room) room (ap waiting_payload e) k.holds;
            }));
      }

  pub settled_leaves : Leaves Is All m ordinals books p.conns.apps (come (settled time seat p))
  settled_leaves = by_settled (λ q. Leaves Is All m ordinals books p.conns.apps (come q)) time seat p (record { same = refl; new = tt; fine = h }) settled_room
