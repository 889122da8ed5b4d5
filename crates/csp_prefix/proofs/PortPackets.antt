-- packets that are handed to a reliable connection, and packets that it delivers
use Rattle.std.specs.Prelude.{Bool, true, false, None, Option, Some}
use Rattle.std.proofs.Common.{◌≡◌, ◌⊎◌, inl, inr, ℕ, ◌<◌, [], ◌∷◌, ◌++◌, ap, refl, sym, subst, ◌∙◌}
use Rattle.csp_base.specs.declared.seat.Seat.{Seat}
use Rattle.csp_base.specs.declared.traces.Tag.{Tag}
use Rattle.csp_buffer.specs.Content.{Content}
use Rattle.csp_buffer.specs.PlainBuffer.{PlainBuffer}
use Rattle.csp_base.specs.declared.limits.TheConstants.{SLOTS}
use Rattle.csp_ports.specs.Came.{Came, come, reporting, then}
use Rattle.csp_ports.specs.Packets.{back_by, handing, handing_event}
use Rattle.csp_ports.specs.PlainPorts.{PlainPorts, anywhere, has_machine, machine_at}
use Rattle.csp_ports.specs.Steps.{dropped, settled, went, where_machine}
use Rattle.csp_ports.specs.Tasks.{delivered, without_packet}
use Rattle.csp_ports.specs.declared.flows.OwnFlows.{OwnFlows}
use Rattle.csp_rdp.specs.Jobs.{delivering, delivery, delivery_in, without_delivery}
use Rattle.csp_rdp.specs.Machine.{PlainRdp}
use Rattle.csp_rdp.specs.Table.{after, back_of, after_packet, is_stray, row_in, row_of}
use Rattle.csp_rdp.specs.declared.answers.State.{State}
use Rattle.csp_rdp.specs.declared.answers.State.TheVariants.{Closed, CloseWait, Open, SynRcvd, SynSent}
use Rattle.csp_rdp.specs.declared.answers.Cause.TheVariants as machine_why
use Rattle.csp_rdp_header.specs.declared.head.RdpHead.{RdpHead}
use Rattle.csp_prefix.proofs.PortChanges.{IsEdge, went_leaves}
use Rattle.csp_prefix.proofs.PortFacts.{All, IsReliable, Leaves, comes_of, fine_of, then_leaves, used, where_leaves}
use Rattle.csp_prefix.proofs.PortQuiet.{idle_delivery, taken_state, used_on}
use Rattle.csp_prefix.proofs.PortRoom.{dropped_leaves, settled_leaves}
use Rattle.csp_prefix.proofs.PortSlots.{AreFine, AreFineBut, book_but, look, looser, machine_but, none_some}
use Rattle.csp_prefix.proofs.PortViews.{IsOther, View, now_of, view}
use Rattle.csp_prefix.specs.Ports.{AreGood, Books, Comes, IsReliableOn, Ordinals, connection_in, with_down}
use Rattle.csp_prefix.specs.Slots.{Coming, IsKept, Now, Numbering, Opens, after_delivering, after_opening}
use Rattle.csp_prefix.specs.Slots.{with_machine}
use Rattle.csp_conn.specs.PlainConns.{slot_at}

-- after the step of a connection the packet that waits for it is looked at
module _ {o : OwnFlows} {C : Coming} {Is : Numbering → Seat → Now → Type 0} (kept : IsKept o C Is)
    {m : Numbering} {ordinals : Ordinals} {apps : ℕ} (seat : Seat) (here : seat.app < apps) (there : seat.slot < SLOTS) where
  dropped_next : {books : Books} {q : PlainPorts} → q.conns.apps ≡ apps → AreFine Is (IsOther seat) m ordinals books q → Leaves Is All m ordinals books apps (dropped seat q)
  dropped_next {books} {q} same h =
      subst (λ (n : ℕ). Leaves Is All m ordinals books n (dropped seat q)) same
      (dropped_leaves kept seat (subst (λ (n : ℕ). seat.app < n) (sym same) here) there h {Tight = All} (λ a l t o. o))

  then_dropped : {books : Books} (c : Came) → Leaves Is (IsOther seat) m ordinals books apps c → Leaves Is All m ordinals books apps (then c (dropped seat))
  then_dropped c h = then_leaves c (dropped seat) h (dropped_next h.same h.fine)

  settled_next : {books : Books} {q : PlainPorts} (time : ℕ) → q.conns.apps ≡ apps → AreFine Is All m ordinals books q → Leaves Is All m ordinals books apps (come (settled time seat q))
  settled_next {books} {q} time same h =
      subst (λ (n : ℕ). Leaves Is All m ordinals books n (come (settled time seat q))) same
      (settled_leaves kept seat (subst (λ (n : ℕ). seat.app < n) (sym same) here) there h time)

  then_settled : {books : Books} (c : Came) (time : ℕ) → Leaves Is (IsOther seat) m ordinals books apps c → Leaves Is All m ordinals books apps (then c (λ p. then (dropped seat p) (λ p. come (settled time seat p))))
  then_settled c time h =
      let k = dropped_next h.same h.fine in
      then_leaves c (λ p. then (dropped seat p) (λ p. come (settled time seat p))) h (then_leaves (dropped seat c.ports) (λ p. come (settled time seat p)) k (settled_next time k.same k.fine))

-- ---- a packet is handed over

closed_stays : (h : RdpHead) (tag : Option Tag) (b : PlainBuffer) (time : ℕ) (r : PlainRdp) → r.state ≡ Closed → (after_packet h tag b time r).state ≡ Closed
closed_stays h tag b time r e = ap (λ (s : State). (after (row_in s r h b.picture.payload) h tag b time r).state) e ∙ e

-- its buffer may be handed back, which is told
module _ {Is : Numbering → Seat → Now → Type 0} {Tight : Seat → Type 0} {m : Numbering} {ordinals : Ordinals} {books : Books} {apps : ℕ} where
  backed : (back : Option PlainBuffer) (stray : Bool) (p : PlainPorts) (next : PlainPorts → Came) → Leaves Is Tight m ordinals books apps (next p) → Leaves Is Tight m ordinals books apps (then (back_by back stray p) next)
  backed None stray p next k = record { same = k.same; new = k.new; fine = k.fine }
  backed (Some b) true p next k = record { same = k.same; new = (tt, k.new); fine = k.fine }
  backed (Some b) false p next k = record { same = k.same; new = k.new; fine = k.fine }

  told_handed : (r : PlainRdp) (tag : Option Tag) (c : Came) → Leaves Is Tight m ordinals books apps c → Leaves Is Tight m ordinals books apps (reporting (handing_event r tag) c)
  told_handed r tag c k = record { same = k.same; new = (tt, k.new); fine = k.fine }

module _ {o : OwnFlows} {C : Coming} {Is : Numbering → Seat → Now → Type 0} (kept : IsKept o C Is)
    {m : Numbering} {ordinals : Ordinals} {books : Books} {p : PlainPorts} (seat : Seat) (here : seat.app < p.conns.apps) (there : seat.slot < SLOTS) (g : AreGood Is m ordinals books p) where
  handed_edge : (h : RdpHead) (b : Content) (time : ℕ) → IsReliableOn p seat → C.fed (connection_in (slot_at p.conns seat)) (machine_at p seat) h b.trace.tag b.payload
      → IsEdge Is m (ordinals seat) seat (machine_at p seat).state (after_packet h b.trace.tag (anywhere b) time (machine_at p seat)) (view p books seat)
  handed_edge h b time on fed =
      let x = view p books seat in
      let r = after_packet h b.trace.tag (anywhere b) time x.machine in
      let f = (fine_of g).slots seat here there in
      let is : Is m seat (now_of x) = used Is m seat x.what x.terms (now_of x) on.connection on.there on.reliable f.holds in
      record {
        connection = on.connection;
        what = on.there;
        reliable = on.reliable;
        counted = f.counted;
        ends = f.ends;
        over = f.over;
        stays = closed_stays h b.trace.tag (anywhere b) time x.machine;
        early = kept.early m seat (now_of x) is;
        opens = λ k. kept.rests m seat (after_opening (with_machine r (now_of x))) (kept.opens m seat (now_of x) h b.trace.tag (anywhere b) time fed k is);
        rests = λ k. kept.rests m seat (with_machine r (now_of x)) (kept.hears m seat (now_of x) h b.trace.tag (anywhere b) time fed k is);
      }

  pub handed_comes : (h : RdpHead) (b : Content) (time : ℕ) → IsReliableOn p seat → C.fed (connection_in (slot_at p.conns seat)) (machine_at p seat) h b.trace.tag b.payload → Comes Is m ordinals books p.conns.apps (handing p seat h b time)
  handed_comes h b time on fed =
      let r = machine_at p seat in
      let row = row_of r h b.payload in
      let new = after_packet h b.trace.tag (anywhere b) time r in
      let step : PlainPorts → Came = went r.state machine_why.Reset seat new in
      let c = where_machine (has_machine p seat) step p in
      let next : PlainPorts → Came =
      λ p. then (where_machine (has_machine p seat) step p) (λ p. then (dropped seat p) (λ p. come (settled time seat p))) in
      comes_of
      (told_handed r b.trace.tag (then (back_by (back_of row (anywhere b)) (is_stray row) p) next)
      (backed (back_of row (anywhere b)) (is_stray row) p next
      (then_settled kept seat here there c time
      (where_leaves (has_machine p seat) step (went_leaves kept (look seat here there (looser (λ a k l t. tt) (fine_of g))) r.state machine_why.Reset new (λ k. k refl) (handed_edge h b time on fed)) (record { same = refl; new = tt; fine = looser (λ a k l t. tt) (fine_of g) })))))
      (λ _. tt)

-- ---- a packet is delivered

open_closed : Open ≡ Closed → ⊥
open_closed e = cc

open_before : (s : State) → Open ≡ s → (s ≡ SynSent) ⊎ (s ≡ SynRcvd) → ⊥
open_before s e (inl f) = sent_open (e ∙ f)
  where
    sent_open : Open ≡ SynSent → ⊥
    sent_open e = cc
open_before s e (inr f) = rcvd_open (e ∙ f)
  where
    rcvd_open : Open ≡ SynRcvd → ⊥
    rcvd_open e = cc

delivery_open : (r : PlainRdp) (b : PlainBuffer) → delivery r ≡ Some b → r.state ≡ Open
delivery_open r b e = go r.state e
  where
    go : (s : State) → delivery_in s r ≡ Some b → s ≡ Open
    go Open e = refl
    go SynSent e = absurd (none_some b e)
    go SynRcvd e = absurd (none_some b e)
    go CloseWait e = absurd (none_some b e)
    go Closed e = absurd (none_some b e)

module _ {o : OwnFlows} {C : Coming} {Is : Numbering → Seat → Now → Type 0} (kept : IsKept o C Is)
    {m : Numbering} {ordinals : Ordinals} {books : Books} {p : PlainPorts} (seat : Seat) (here : seat.app < p.conns.apps) (there : seat.slot < SLOTS) (g : AreGood Is m ordinals books p) where
  -- what the slot shows then
  abbrev delivered_view : PlainBuffer → View
  delivered_view b = let x = view p books seat in record x { machine = without_delivery x.machine; book = record x.book { down = x.book.down ++ b.picture.payload ∷ [] } }

  delivered_edge : (time : ℕ) (b : PlainBuffer) → delivery (machine_at p seat) ≡ Some b
      → IsEdge Is m (ordinals seat) seat (without_delivery (machine_at p seat)).state (delivering time (without_delivery (machine_at p seat))) (delivered_view b)
  delivered_edge time b e =
      let x = view p books seat in
      let r = delivering time (without_delivery x.machine) in
      let f = (fine_of g).slots seat here there in
      let k : IsReliable Is m seat x = used_on seat here there g (λ f. idle_delivery (machine_at p seat) b f e) in
      let opened : Open ≡ (without_delivery x.machine).state = sym (taken_state x.machine ∙ delivery_open x.machine b e) in
      record {
        connection = k.connection;
        what = k.what;
        reliable = k.reliable;
        counted = f.counted;
        ends = f.ends;
        over = λ w. taken_state x.machine ∙ f.over w;
        stays = λ c. absurd (open_closed (opened ∙ c));
        early = λ s. absurd (open_before (without_delivery x.machine).state opened s);
        opens = λ s. absurd (subst (λ (b : State). Opens b r.state) (sym opened) s);
        rests = λ _. kept.rests m seat (after_delivering b.picture.payload (with_machine r (now_of x))) (kept.delivers m seat (now_of x) b time e k.holds);
      }

  pub delivered_comes : (time : ℕ) (b : PlainBuffer) → delivery (machine_at p seat) ≡ Some b
      → Comes Is m ordinals (with_down seat b.picture.payload books) p.conns.apps (delivered time seat (without_packet seat p))
  delivered_comes time b e =
      let x = view p books seat in
      let q = without_packet seat p in
      let h : AreFineBut Is (IsOther seat) m ordinals (with_down seat b.picture.payload books) q seat (delivered_view b) =
      book_but (machine_but (look seat here there (looser (λ a k l t. tt) (fine_of g))) (without_delivery x.machine)) (record (books seat) { down = (books seat).down ++ b.picture.payload ∷ [] }) in
      subst (λ (r : PlainRdp). Comes Is m ordinals (with_down seat b.picture.payload books) p.conns.apps (then (went r.state machine_why.Reset seat (delivering time r) q) (dropped seat))) (sym (ap (λ (v : View). v.machine) h.seen))
      (comes_of
      (then_dropped kept seat here there (went (without_delivery x.machine).state machine_why.Reset seat (delivering time (without_delivery x.machine)) q)
      (went_leaves kept h (without_delivery x.machine).state machine_why.Reset (delivering time (without_delivery x.machine)) (λ k. k refl) (delivered_edge time b e)))
      (λ _. tt))
