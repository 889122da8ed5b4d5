-- steps of the ports that tell the log nothing
use Rattle.std.specs.Prelude.{◌==◌, Bool, true, false, IfSome, None, Option, Some, get_or, if◌then◌else◌, is_some, nat_lt, replicate, slice_set}
use Rattle.std.proofs.Common.{◌≡◌, ◌⊎◌, inl, inr, ℕ, zero, suc, ◌*◌, ◌<◌, ◌≤◌, List, length, ap, refl, sym, subst, ◌∙◌}
use Rattle.std.proofs.Math.ListN.{length-replicate}
use Rattle.std.proofs.lemmas.Bool.{eqb-false, eqb-true, ltb-false, ltb-true}
use Rattle.std.proofs.lemmas.List.{get_or-set_other, get_or-set_same, length-set, set_past}
use Rattle.csp_base.specs.declared.seat.Seat.{Seat}
use Rattle.csp_buffer.specs.PlainBuffer.{PlainBuffer}
use Rattle.csp_conn.specs.PlainConns.{place_of}
use Rattle.csp_base.specs.declared.limits.TheConstants.{MAX_APPS, SLOTS}
use Rattle.csp_conn.specs.declared.slot.Slot.{Slot}
use Rattle.csp_conn.specs.declared.slot.Slot.TheVariants as has
use Rattle.csp_deck.specs.Carried.{IsReply}
use Rattle.csp_log.specs.declared.note.Note.{Note}
use Rattle.csp_log.specs.declared.note.Note.TheVariants as note
use Rattle.csp_log.specs.declared.note.Why.TheVariants as why
use Rattle.csp_ports.specs.Asking.{bind}
use Rattle.csp_ports.specs.PlainPorts.{PlainPorts, anywhere, machine_at, machine_in, owing, ports_of, state_at, terms_at, untouched, with_machine}
use Rattle.csp_ports.specs.Tasks.{kept_again, making, told_down, turned, without_packet}
use Rattle.csp_ports.specs.declared.flows.OwnFlows.{OwnFlows}
use Rattle.csp_ports.specs.declared.terms.SlotState.{SlotState}
use Rattle.csp_ports.specs.declared.terms.Terms.{Terms}
use Rattle.csp_rdp.specs.Jobs.{delivery, job_of, keeping_again, sent, taken_in, without_delivery}
use Rattle.csp_rdp.specs.Machine.{PlainRdp, idle}
use Rattle.csp_rdp.specs.declared.answers.State.{State}
use Rattle.csp_rdp.specs.declared.answers.State.TheVariants.{Closed, CloseWait, Open, SynRcvd, SynSent}
use Rattle.csp_rdp.specs.declared.jobs.Job.{Job}
use Rattle.csp_rdp.specs.declared.jobs.Job.TheVariants as job
use Rattle.csp_socket.specs.Bound.{owner_of, with_owner}
use Rattle.csp_prefix.proofs.PortChanges.{IsUse, at_view, use_fine}
use Rattle.csp_prefix.proofs.PortFacts.{All, IsReliable, IsResting, either, fine_of, good_of}
use Rattle.csp_prefix.proofs.PortSlots.{AreFine, AreFineBut, IsFine, IsQuiet, look, machine_but, none_some, owing_quiet, owing_shape, reshaped, whole}
use Rattle.csp_prefix.proofs.PortViews.{View, now_of, view, with_state}
use Rattle.csp_prefix.specs.Ports.{AreGood, Books, IsReliableOn, IsSlot, Ordinals, ends_due, now_at, waiting_payload}
use Rattle.csp_prefix.specs.Slots.{Coming, IsKept, Now, Numbering, blank}

-- ---- lists with another element

pub set_all : {X : Type 0} (xs : List X) (k j : ℕ) (x d : X) (P : X → Type 0) → (j ≡ k → P x) → P (get_or xs j d) → P (get_or (slice_set xs k x) j d)
set_all xs k j x d P new old = go (j == k) refl
  where
    inside : (b : Bool) → nat_lt k (length xs) ≡ b → j ≡ k → P (get_or (slice_set xs k x) j d)
    inside true f e = subst P (sym (ap (λ (j : ℕ). get_or (slice_set xs k x) j d) e ∙ get_or-set_same xs k x d (ltb-true k (length xs) f))) (new e)
    inside false f e = subst P (sym (ap (λ (ys : List _). get_or ys j d) (set_past xs k x (ltb-false k (length xs) f)))) old

    go : (b : Bool) → (j == k) ≡ b → P (get_or (slice_set xs k x) j d)
    go true e = inside (nat_lt k (length xs)) refl (eqb-true j k e)
    go false e = subst P (sym (get_or-set_other xs k j x d (λ f. eqb-false j k e f))) old

replicate_get : {X : Type 0} (n i : ℕ) (x : X) → get_or (replicate n x) i x ≡ x
replicate_get zero i x = refl
replicate_get (suc n) zero x = refl
replicate_get (suc n) (suc i) x = replicate_get n i x

-- ---- a look past a slot, and a note that is told

-- a slot of which no note is owed
abbrev untold : SlotState → SlotState
untold x = record x { terms = record x.terms { is_down = false } }

module _ {Is : Numbering → Seat → Now → Type 0} {m : Numbering} {ordinals : Ordinals} {books : Books} {p : PlainPorts} (g : AreGood Is m ordinals books p) where
  pub turned_good : (seat : Seat) → AreGood Is m ordinals books (turned seat p)
  turned_good seat = record {
    few = g.few;
    conns = g.conns;
    states = g.states;
    made = g.made;
    owners = g.owners;
    owed = g.owed;
    counted = g.counted;
    waits = g.waits;
    ends = g.ends;
    over = g.over;
    slots = g.slots;
  }

  pub told_good : (seat : Seat) → AreGood Is m ordinals books (told_down seat p)
  told_good seat =
      let h = fine_of g in
      good_of (record {
        shape = reshaped p.conns.slots p.conns.last _ p.owed refl (length-set p.slots (place_of seat) (untold (state_at p seat))) g.owed h.shape;
        slots = λ a k l.
            let f = h.slots a k l in
            set_all p.slots (place_of seat) (place_of a) (untold (state_at p seat)) untouched
            (λ (x : SlotState). IsFine Is All m (ordinals a) a (with_state x (view p books a)))
            (λ e. subst (λ (k : ℕ). IsFine Is All m (ordinals a) a (with_state (untold (get_or p.slots k untouched)) (view p books a))) e
            (told_fine (view p books a) f))
            f;
      })
    where
      told_slot : (w : Slot) (t : Terms) (a : Seat) (n : Now) → IsSlot Is w t m a n → IsSlot Is w (record t { is_down = false }) m a n
      told_slot has.Free t a n h = h
      told_slot has.Held t a n h = h
      told_slot (has.Open c) t a n h = h

      told_fine : {ordinal : ℕ} {a : Seat} (v : View) → IsFine Is All m ordinal a v → IsFine Is All m ordinal a (record v { terms = record v.terms { is_down = false } })
      told_fine {ordinal} {a} v f = record { counted = f.counted; ends = f.ends; over = f.over; waits = f.waits; holds = told_slot v.what v.terms a (now_of v) f.holds }

  -- ---- ports

  pub owing_good : (app : ℕ) (answer : Note) → app < p.conns.apps → IsReply answer → IsQuiet answer → AreGood Is m ordinals books (owing p app answer)
  owing_good app answer here reply none =
      let h = fine_of g in
      good_of (record {
        shape = owing_shape app answer h.shape here reply;
        slots = λ a k l. subst (IsFine Is All m (ordinals a) a) (sym (owing_quiet p books app answer a none)) (h.slots a k l);
      })

  owned_good : (app port need : ℕ) → app < p.conns.apps → AreGood Is m ordinals books (record p { bound = with_owner p.bound port app need })
  owned_good app port need here = record {
    few = g.few;
    conns = g.conns;
    states = g.states;
    made = g.made;
    owners = λ q. set_all p.bound port q (Some (app, need)) None (λ (x : Option (ℕ × ℕ)). IfSome x (λ o. o.0 < p.conns.apps)) (λ _. here) (g.owners q);
    owed = g.owed;
    counted = g.counted;
    waits = g.waits;
    ends = g.ends;
    over = g.over;
    slots = g.slots;
  }

-- a port is bound, or not
module _ {Is : Numbering → Seat → Now → Type 0} {m : Numbering} {ordinals : Ordinals} {books : Books} {p : PlainPorts} (g : AreGood Is m ordinals books p) where
  chosen_good : (b : Bool) {x y : PlainPorts} → AreGood Is m ordinals books x → AreGood Is m ordinals books y → AreGood Is m ordinals books (if b then x else y)
  chosen_good true h k = h
  chosen_good false h k = k

  pub bound_good : (app port need : ℕ) → app < p.conns.apps → AreGood Is m ordinals books (bind p app port need)
  bound_good app port need here =
      chosen_good _
      (chosen_good (is_some (owner_of p.bound port)) (owing_good g app (note.Refused why.InUse) here tt (λ s. refl)) (owing_good (owned_good g app port need here) app note.Bound here tt (λ s. refl)))
      (owing_good g app (note.Refused why.NotBindable) here tt (λ s. refl))

-- ---- the opening

pub opens_good : (Is : Numbering → Seat → Now → Type 0) (apps : ℕ) (home : ℕ → Seat × ℕ) → apps ≤ MAX_APPS → AreGood Is (record { made = 0; home = home }) (λ _. 0) (λ _. blank) (ports_of apps)
opens_good Is apps home few = record {
  few = few;
  conns = length-replicate (apps * SLOTS) has.Free;
  states = refl;
  made = refl;
  owners = λ port. subst (λ (x : Option (ℕ × ℕ)). IfSome x (λ o. o.0 < apps)) (sym (replicate_get 48 port None)) tt;
  owed = tt;
  counted = λ a k l. ap (λ (x : SlotState). x.terms.ordinal) (replicate_get 16 (place_of a) untouched);
  waits = λ a k l payload e. absurd (none_some payload (sym (ap (λ (x : SlotState). waiting_payload x.stalled) (replicate_get 16 (place_of a) untouched)) ∙ e));
  ends = λ a k l. ap (λ (x : SlotState). ends_due x.terms.wish) (sym (replicate_get 16 (place_of a) untouched));
  over = λ a k l e. ap (λ (x : SlotState). (machine_in x).state) (replicate_get 16 (place_of a) untouched);
  slots = λ a k l.
      subst (λ (w : Slot). IsSlot Is w (terms_at (ports_of apps) a) (record { made = 0; home = home }) a (now_at (ports_of apps) (λ _. blank) a)) (sym (replicate_get (apps * SLOTS) (place_of a) has.Free))
      (record { machine = ap machine_in (replicate_get 16 (place_of a) untouched); waits = ap (λ (x : SlotState). waiting_payload x.stalled) (replicate_get 16 (place_of a) untouched); book = refl }, ap (λ (x : SlotState). x.terms.wish) (replicate_get 16 (place_of a) untouched));
}

-- ---- the connection of a slot as it is

-- it owes something only where it is a reliable one
pub idle_job : (time : ℕ) (r : PlainRdp) (j : Job) → r ≡ idle → job_of time r ≡ Some j → ⊥
idle_job time r j e f = none_some j (sym (ap (job_of time) e) ∙ f)

pub idle_delivery : (r : PlainRdp) (b : PlainBuffer) → r ≡ idle → delivery r ≡ Some b → ⊥
idle_delivery r b e f = none_some b (sym (ap delivery e) ∙ f)

pub sent_state : (j : Job) (time : ℕ) (r : PlainRdp) → (sent j time r).state ≡ r.state
sent_state job.Rst time r = refl
sent_state job.Syn time r = refl
sent_state job.Deliver time r = refl
sent_state job.Eak time r = refl
sent_state job.Data time r = refl
sent_state job.Ack time r = refl

pub taken_state : (r : PlainRdp) → (without_delivery r).state ≡ r.state
taken_state r = go r.state
  where
    go : (s : State) → (taken_in s r).state ≡ r.state
    go Open = refl
    go SynSent = refl
    go SynRcvd = refl
    go CloseWait = refl
    go Closed = refl

-- a reliable connection on a fine slot, where there is one
pub use_of : {Is : Numbering → Seat → Now → Type 0} {Tight : Seat → Type 0} {m : Numbering} {ordinal : ℕ} {seat : Seat} {v : View} → IsFine Is Tight m ordinal seat v → IsReliable Is m seat v → IsUse Is m ordinal seat v (now_of v)
use_of f r = record { connection = r.connection; what = r.what; reliable = r.reliable; counted = f.counted; ends = f.ends; over = f.over; holds = r.holds }

-- another machine by a step that leaves its state
pub stepped_fine : {Is : Numbering → Seat → Now → Type 0} {Tight : Seat → Type 0} {m : Numbering} {ordinals : Ordinals} {books : Books} {seat : Seat} (q : PlainPorts) (v : View) (r : PlainRdp) → AreFineBut Is Tight m ordinals books q seat (record v { machine = r })
    → r.state ≡ v.machine.state → IsFine Is Tight m (ordinals seat) seat v → IsReliable Is m seat v → Is m seat (now_of (record v { machine = r })) → AreFine Is Tight m ordinals books q
stepped_fine q v r h same f k is =
    whole h
    (use_fine {v = record v { machine = r }} (λ t payload e. same ∙ f.waits t payload e)
    (record { connection = k.connection; what = k.what; reliable = k.reliable; counted = f.counted; ends = f.ends; over = λ e. same ∙ f.over e; holds = is }))

pub used_on : {Is : Numbering → Seat → Now → Type 0} {m : Numbering} {ordinals : Ordinals} {books : Books} {p : PlainPorts} (seat : Seat) → seat.app < p.conns.apps → seat.slot < SLOTS → AreGood Is m ordinals books p → ((machine_at p seat ≡ idle) → ⊥) → IsReliable Is m seat (view p books seat)
used_on {Is} {m} {ordinals} {books} {p} seat here there g busy = go (either Is m seat (view p books seat) (g.slots seat here there))
  where
    go : IsResting (view p books seat) ⊎ IsReliable Is m seat (view p books seat) → IsReliable Is m seat (view p books seat)
    go (inl r) = absurd (busy r.machine)
    go (inr k) = k

-- another machine, by what is there
pub machine_by : {Is : Numbering → Seat → Now → Type 0} {Tight : Seat → Type 0} {m : Numbering} {ordinals : Ordinals} {books : Books} {p : PlainPorts} {seat : Seat} {v : View} (f : PlainRdp → PlainRdp) → AreFineBut Is Tight m ordinals books p seat v
    → AreFineBut Is Tight m ordinals books (with_machine p seat (f (machine_at p seat))) seat (record v { machine = f v.machine })
machine_by {Is} {Tight} {m} {ordinals} {books} {p} {seat} {v} f h =
    subst (λ (v : View). AreFineBut Is Tight m ordinals books (with_machine p seat (f (machine_at p seat))) seat (record v { machine = f v.machine })) h.seen (machine_but (at_view h) (f (machine_at p seat)))

module _ {o : OwnFlows} {C : Coming} {Is : Numbering → Seat → Now → Type 0} (kept : IsKept o C Is)
    {m : Numbering} {ordinals : Ordinals} {books : Books} {p : PlainPorts} (seat : Seat) (here : seat.app < p.conns.apps) (there : seat.slot < SLOTS) (g : AreGood Is m ordinals books p) where
  pub owes_good : (time : ℕ) (j : Job) → job_of time (machine_at p seat) ≡ Some j → IsReliableOn p seat × Is m seat (now_at p books seat)
  owes_good time j e =
      let k : IsReliable Is m seat (view p books seat) = used_on seat here there g (λ f. idle_job time (machine_at p seat) j f e) in
      (record { connection = k.connection; there = k.what; reliable = k.reliable }, k.holds)

  pub makes_good : (time : ℕ) (j : Job) → job_of time (machine_at p seat) ≡ Some j → AreGood Is m ordinals books (making j time seat p)
  makes_good time j e =
      let x = view p books seat in
      let h = fine_of g in
      let k : IsReliable Is m seat x = used_on seat here there g (λ f. idle_job time (machine_at p seat) j f e) in
      good_of
      (stepped_fine (making j time seat p) x (sent j time x.machine) (machine_but (look seat here there h) (sent j time x.machine)) (sent_state j time x.machine) (h.slots seat here there) k
      (kept.makes m seat (now_of x) time j e k.holds))

  pub keeps_good : (b : PlainBuffer) → delivery (machine_at p seat) ≡ Some b → AreGood Is m ordinals books (kept_again seat b.picture (without_packet seat p))
  keeps_good b e =
      let x = view p books seat in
      let h = fine_of g in
      let r = keeping_again (anywhere b.picture) (without_delivery x.machine) in
      let k : IsReliable Is m seat x = used_on seat here there g (λ f. idle_delivery (machine_at p seat) b f e) in
      good_of
      (stepped_fine (kept_again seat b.picture (without_packet seat p)) x r (machine_by (keeping_again (anywhere b.picture)) (machine_but (look seat here there h) (without_delivery x.machine))) (taken_state x.machine) (h.slots seat here there) k
      (kept.keeps m seat (now_of x) b (anywhere b.picture) e refl k.holds))
