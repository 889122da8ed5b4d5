-- packets of an application on a reliable connection
use Rattle.std.specs.Prelude.{Bool, true, false, None, Some}
use Rattle.std.proofs.Common.{◌≡◌, ◌≢◌, ℕ, ◌<◌, [], ◌∷◌, ◌++◌, ap, refl, sym, subst}
use Rattle.csp_base.specs.declared.seat.Seat.{Seat}
use Rattle.csp_buffer.specs.Content.{Content}
use Rattle.csp_base.specs.declared.limits.TheConstants.{SLOTS}
use Rattle.csp_log.specs.declared.event.Discard.TheVariants as why
use Rattle.csp_log.specs.declared.event.Event.TheVariants as event
use Rattle.csp_ports.specs.Packets.{admitting_by, submitting, submitting_in}
use Rattle.csp_ports.specs.PlainPorts.{PlainPorts, anywhere, machine_at, stalled_at, terms_at}
use Rattle.csp_ports.specs.Steps.{has_room}
use Rattle.csp_ports.specs.declared.flows.OwnFlows.{OwnFlows}
use Rattle.csp_rdp.specs.Jobs.{admitting}
use Rattle.csp_rdp.specs.declared.answers.State.{State}
use Rattle.csp_rdp.specs.declared.answers.State.TheVariants.{Closed, CloseWait, Open, SynRcvd, SynSent}
use Rattle.csp_prefix.proofs.PortChanges.{use_fine}
use Rattle.csp_prefix.proofs.PortFacts.{fine_of, good_of, used}
use Rattle.csp_prefix.proofs.PortSlots.{book_but, look, machine_but, stalled_but, whole}
use Rattle.csp_prefix.proofs.PortViews.{now_of, view}
use Rattle.csp_prefix.specs.Ports.{AreGood, Books, IsReliableOn, Ordinals, Submits, waiting_payload, with_sent}
use Rattle.csp_prefix.specs.Slots.{Book, Coming, IsKept, Now, Numbering}

submitting_apps : (s : State) (p : PlainPorts) (seat : Seat) (b : Content) (time : ℕ) → (submitting_in s p seat b time).ports.conns.apps ≡ p.conns.apps
submitting_apps Open p seat b time = go (has_room (machine_at p seat))
  where
    go : (room : Bool) → (admitting_by room p seat b time).conns.apps ≡ p.conns.apps
    go true = refl
    go false = refl
submitting_apps SynSent p seat b time = refl
submitting_apps SynRcvd p seat b time = refl
submitting_apps CloseWait p seat b time = refl
submitting_apps Closed p seat b time = refl

module _ {o : OwnFlows} {C : Coming} {Is : Numbering → Seat → Now → Type 0} (kept : IsKept o C Is)
    {m : Numbering} {ordinals : Ordinals} {books : Books} {p : PlainPorts} (seat : Seat) (b : Content) (time : ℕ) (here : seat.app < p.conns.apps) (there : seat.slot < SLOTS) (on : IsReliableOn p seat) (none : stalled_at p seat ≡ None) (g : AreGood Is m ordinals books p) where
  is_there : Is m seat (now_of (view p books seat))
  is_there = let x = view p books seat in used Is m seat x.what x.terms (now_of x) on.connection on.there on.reliable (g.slots seat here there)

  none_waits : waiting_payload (stalled_at p seat) ≡ None
  none_waits = ap waiting_payload none

  -- it is told sent
  abbrev sent_book : Book
  sent_book = record (books seat) { sent = (books seat).sent ++ b.payload ∷ [] }

  admitting_good : (room : Bool) → has_room (machine_at p seat) ≡ room → (machine_at p seat).state ≡ Open → AreGood Is m ordinals (with_sent seat b.payload books) (admitting_by room p seat b time)
  admitting_good true room opened =
      let x = view p books seat in
      let r = admitting (anywhere b) time x.machine in
      good_of
      (whole (book_but (machine_but (look seat here there (fine_of g)) r) sent_book)
      (use_fine {v = record x { machine = r; book = sent_book }} (λ t payload e. opened)
      (record {
        connection = on.connection;
        what = on.there;
        reliable = on.reliable;
        counted = g.counted seat here there;
        ends = g.ends seat here there;
        over = g.over seat here there;
        holds = kept.admits m seat (now_of x) (anywhere b) time opened room none_waits is_there;
      })))
  admitting_good false room opened =
      let x = view p books seat in
      good_of
      (whole (book_but (stalled_but (look seat here there (fine_of g)) (Some (anywhere b))) sent_book)
      (use_fine {v = record x { waits = Some b.payload; book = sent_book }} (λ t payload e. opened)
      (record {
        connection = on.connection;
        what = on.there;
        reliable = on.reliable;
        counted = g.counted seat here there;
        ends = g.ends seat here there;
        over = g.over seat here there;
        holds = kept.delays m seat (now_of x) b.payload opened none_waits is_there;
      })))

  abbrev Sends : State → Type 0
  Sends s = ((submitting_in s p seat b time).events ≡ event.Sent seat.slot (terms_at p seat).ordinal ∷ []) × AreGood Is m ordinals (with_sent seat b.payload books) (submitting_in s p seat b time).ports

  abbrev Discards : State → Type 0
  Discards s = ((submitting_in s p seat b time).events ≡ event.Discarded why.NoConn ∷ []) × AreGood Is m ordinals books (submitting_in s p seat b time).ports

  discards : (s : State) → s ≢ Open → Discards s
  discards Open other = absurd (other refl)
  discards SynSent other = (refl, g)
  discards SynRcvd other = (refl, g)
  discards CloseWait other = (refl, g)
  discards Closed other = (refl, g)

  pub submitted_submits : Submits Is m ordinals books p seat b (submitting p seat b time)
  submitted_submits = record {
    same = submitting_apps (machine_at p seat).state p seat b time;
    sent = λ e. subst Sends (sym e) (refl, admitting_good (has_room (machine_at p seat)) refl e);
    not_sent = λ e. discards (machine_at p seat).state e;
  }
