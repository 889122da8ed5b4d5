-- The machine of a reliable connection stays light.
use Rattle.std.proofs.Common.{◌≡◌, ℕ, ◌+◌, ◌*◌, ◌≤◌, Bool, true, false, not, cond, List, [], ◌∷◌, Option, None, Some, refl, sym, subst, arith}
use Rattle.std.proofs.lemmas.Bool.{leb-true}
use Rattle.std.proofs.lemmas.List.Elements.{All-filter, All-head, All-nil, All-push, All-tail}
use Rattle.std.specs.List.{find}
use Rattle.std.specs.Option.{option_map}
use Rattle.std.specs.Prelude.{◌==◌, ◌&&◌, IfSome, if◌then◌else◌, nat_le, nat_lt}
use Rattle.csp_base.specs.declared.traces.Tag.{Tag}
use Rattle.csp_buffer.specs.PlainBuffer.{PlainBuffer}
use Rattle.csp_ports.proofs.Public.{admitted_whole, closed_whole, idle_whole, sent_whole, ticked_whole}
use Rattle.csp_prefix.proofs.Public.{same-acked, same-heard, same-marked}
use Rattle.csp_rdp.proofs.Public.{whole-again, whole-delivered, whole-handed, whole-rested, whole-taken, data-fresh, entered-recv}
use Rattle.csp_rdp.specs.Holding.{recv_rested, rested}
use Rattle.csp_rdp.specs.Jobs.{admitting, closed_in, closing, delivering, delivery, delivery_in, keeping_again, reset_after, sending_index, sent, taken_in, ticked, timed_out, without_delivery}
use Rattle.csp_rdp.specs.Machine.{PlainRdp, accepting, broken, connecting, idle, left, owes_rst}
use Rattle.csp_rdp.specs.Table.{acknowledged, after, back_of, entered, entered_from, after_packet, keeping, listing, row_in}
use Rattle.csp_rdp.specs.declared.answers.State.TheVariants.{Closed, SynSent, SynRcvd, Open, CloseWait}
use Rattle.csp_rdp.specs.declared.answers.State.{State}
use Rattle.csp_rdp.specs.declared.jobs.Job.TheVariants as job
use Rattle.csp_rdp.specs.declared.jobs.Job.{Job}
use Rattle.csp_rdp.specs.declared.rows.StateRow.TheVariants as row
use Rattle.csp_rdp.specs.declared.rows.StateRow.{StateRow}
use Rattle.csp_rdp_header.specs.Numbers.{numbers_of}
use Rattle.csp_rdp_header.specs.declared.head.RdpHead.{RdpHead}
use Rattle.csp_rdp_header.specs.declared.options.Options.{Options}
use Rattle.csp_rdp_window.specs.Receiving.{Kept, PlainRecv, is_awaited, is_kept}
use Rattle.csp_rdp_window.specs.Sending.{acknowledges}
use Rattle.csp_rdp_window.specs.Shown.{shown}
use Rattle.csp_rdp_window.specs.Times.{has_passed}
use Rattle.csp_rdp_window.specs.declared.pending.Mark.TheVariants.{Abandoned, Sent}
use Rattle.csp_sizes.proofs.LightHolding.{AreKept, kept_later, kept_more, same_data}
use Rattle.csp_sizes.specs.Light.{IsData, IsLight, IsLightKept, IsLightMachine, IsSized}

-- ---- steps

sized_left : (s : State) (time : ℕ) (r : PlainRdp) → IsSized r → IsSized (left s time r)
sized_left s time r h = record { sends = same_data r.send _ (same-marked Abandoned r.send) h.sends; keeps = h.keeps; narrow = h.narrow; options = h.options }

sized_broken : (time : ℕ) (r : PlainRdp) → IsSized r → IsSized (broken time r)
sized_broken time r h = let l = sized_left CloseWait time r h in record { sends = l.sends; keeps = l.keeps; narrow = l.narrow; options = l.options }

sized_timed : (s : State) (time : ℕ) (r : PlainRdp) → IsSized r → IsSized (timed_out s time r)
sized_timed SynSent time r h = sized_left Closed time r h
sized_timed SynRcvd time r h = sized_left Closed time r h
sized_timed Open time r h = go (r.send.una == r.send.nxt)
  where
    go : (b : Bool) → IsSized (if b then r else broken time r)
    go true = h
    go false = sized_broken time r h
sized_timed CloseWait time r h = sized_left Closed time r h
sized_timed Closed time r h = h

pub ticked_light : (time : ℕ) (r : PlainRdp) → IsLightMachine r → IsLightMachine (ticked time r)
ticked_light time r h = record { whole = ticked_whole time r h.whole; sized = go (has_passed (Some r.since) r.options.conn_timeout time) }
  where
    go : (b : Bool) → IsSized (if b then timed_out r.state time r else r)
    go true = sized_timed r.state time r h.sized
    go false = h.sized

sized_closed : (s : State) (time : ℕ) (r : PlainRdp) → IsSized r → IsSized (closed_in s time r)
sized_closed SynSent time r h = sized_left Closed time r h
sized_closed SynRcvd time r h = sized_broken time r h
sized_closed Open time r h = sized_broken time r h
sized_closed CloseWait time r h = h
sized_closed Closed time r h = h

pub closing_light : (time : ℕ) (r : PlainRdp) → IsLightMachine r → IsLightMachine (closing time r)
closing_light time r h = record { whole = closed_whole r.state time r h.whole; sized = sized_closed r.state time r h.sized }

pub admitting_light : (b : PlainBuffer) (time : ℕ) (r : PlainRdp) → IsData b.picture → IsLightMachine r → IsLightMachine (admitting b time r)
admitting_light b time r short h = record {
  whole = admitted_whole b time r h.whole;
  sized = record { sends = All-push (λ p. IsData p.buffer.picture) r.send.packets _ h.sized.sends short; keeps = h.sized.keeps; narrow = h.sized.narrow; options = h.sized.options };
}

sized_sent : (j : Job) (time : ℕ) (r : PlainRdp) → IsSized r → IsSized (sent j time r)
sized_sent job.Rst time r h = record { sends = h.sends; keeps = h.keeps; narrow = h.narrow; options = h.options }
sized_sent job.Syn time r h = record { sends = h.sends; keeps = h.keeps; narrow = h.narrow; options = h.options }
sized_sent job.Deliver time r h = h
sized_sent job.Eak time r h = record { sends = h.sends; keeps = h.keeps; narrow = h.narrow; options = h.options }
sized_sent job.Data time r h = record { sends = same_data r.send _ (same-marked (Sent (sending_index time r) time) r.send) h.sends; keeps = h.keeps; narrow = h.narrow; options = h.options }
sized_sent job.Ack time r h = record { sends = h.sends; keeps = h.keeps; narrow = h.narrow; options = h.options }

pub sent_light : (j : Job) (time : ℕ) (r : PlainRdp) → IsLightMachine r → IsLightMachine (sent j time r)
sent_light j time r h = record { whole = sent_whole j time r h.whole; sized = sized_sent j time r h.sized }

kept_rested : (s : State) (w : PlainRecv) → AreKept w.cur w.kept → AreKept (recv_rested s w).cur (recv_rested s w).kept
kept_rested Open w all = all
kept_rested SynSent w all = All-nil (IsLightKept w.cur)
kept_rested SynRcvd w all = All-nil (IsLightKept w.cur)
kept_rested CloseWait w all = All-nil (IsLightKept w.cur)
kept_rested Closed w all = All-nil (IsLightKept w.cur)

narrow_rested : (s : State) (w : PlainRecv) → w.window ≤ 20 → (recv_rested s w).window ≤ 20
narrow_rested Open w h = h
narrow_rested SynSent w h = h
narrow_rested SynRcvd w h = h
narrow_rested CloseWait w h = h
narrow_rested Closed w h = h

pub rested_light : (r : PlainRdp) → IsLightMachine r → IsLightMachine (rested r)
rested_light r h = record {
  whole = whole-rested r h.whole;
  sized = record {
    sends = All-filter (λ p. p.needed) (λ p. IsData p.buffer.picture) r.send.packets h.sized.sends;
    keeps = kept_rested r.state r.recv h.sized.keeps;
    narrow = narrow_rested r.state r.recv h.sized.narrow;
    options = h.sized.options;
  };
}

-- ---- a packet is handed to it

sized_entered : (s : State) (time : ℕ) (r : PlainRdp) → IsSized r → IsSized (entered_from s time r)
sized_entered SynSent time r h = h
sized_entered SynRcvd time r h = record { sends = h.sends; keeps = h.keeps; narrow = h.narrow; options = h.options }
sized_entered Open time r h = h
sized_entered CloseWait time r h = h
sized_entered Closed time r h = h

sized_acknowledged : (number time : ℕ) (r : PlainRdp) → IsSized r → IsSized (acknowledged number time r)
sized_acknowledged number time r h = record {
  sends = same_data r.send _ (same-acked (shown number r.send.start r.send.una) r.send) h.sends;
  keeps = h.keeps;
  narrow = h.narrow;
  options = h.options;
}

sized_listing : (b : Bool) (bytes : List ℕ) (time : ℕ) (r : PlainRdp) → IsSized r → IsSized (listing b bytes time r)
sized_listing false bytes time r h = h
sized_listing true bytes time r h = record {
  sends = same_data r.send _ (same-heard (numbers_of bytes) time r.options.packet_timeout r.send) h.sends;
  keeps = h.keeps;
  narrow = h.narrow;
  options = h.options;
}

sized_keeping : (t : ℕ) (p : PlainBuffer) (r : PlainRdp) → t ≤ r.recv.cur + 41 → IsLight p.picture → IsSized r → IsSized (keeping t p r)
sized_keeping t p r near light h = record { sends = h.sends; keeps = kept_more r.recv.cur t p r.recv.kept near light h.keeps; narrow = h.narrow; options = h.options }

-- an awaited index is near
awaited_near : (w : PlainRecv) (t : ℕ) → is_awaited w t ≡ true → w.window ≤ 20 → t ≤ w.cur + 41
awaited_near w t e narrow = go (nat_lt w.cur t) (nat_le t (w.cur + 2 * w.window)) refl e
  where
    go : (a b : Bool) → nat_le t (w.cur + 2 * w.window) ≡ b → (a && b) ≡ true → t ≤ w.cur + 41
    go false b p q = cc
    go true false p q = cc
    go true true p q = let low = leb-true t (w.cur + 2 * w.window) p in omega (arith, low, narrow)

sized_after : (y : StateRow) (h : RdpHead) (tag : Option Tag) (p : PlainBuffer) (time : ℕ) (r : PlainRdp) → row_in r.state r h p.picture.payload ≡ y → IsLight p.picture → IsSized r → IsSized (after y h tag p time r)
sized_after row.Stray h tag p time r e light z = z
sized_after row.Refused h tag p time r e light z = sized_left Closed time r z
sized_after row.Answered h tag p time r e light z = record { sends = z.sends; keeps = All-nil (IsLightKept 0); narrow = z.options; options = z.options }
sized_after row.Repeated h tag p time r e light z = record { sends = z.sends; keeps = z.keeps; narrow = z.narrow; options = z.options }
sized_after row.Late h tag p time r e light z = record { sends = z.sends; keeps = z.keeps; narrow = z.narrow; options = z.options }
sized_after row.Reset h tag p time r e light z = let l = sized_left Closed time r z in record { sends = l.sends; keeps = l.keeps; narrow = l.narrow; options = l.options }
sized_after (row.ResetAt t) h tag p time r e light z = record { sends = z.sends; keeps = z.keeps; narrow = z.narrow; options = z.options }
sized_after row.Broken h tag p time r e light z = sized_broken time r z
sized_after row.Ended h tag p time r e light z = sized_left Closed time r z
sized_after row.Acknowledges h tag p time r e light z = sized_acknowledged h.ack.0 time (entered time r) (sized_entered r.state time r z)
sized_after row.Lists h tag p time r e light z = sized_listing (acknowledges r.send h.ack.0) p.picture.payload time (acknowledged h.ack.0 time (entered time r)) (sized_acknowledged h.ack.0 time (entered time r) (sized_entered r.state time r z))
sized_after row.Outside h tag p time r e light z = let n = sized_entered r.state time r z in record { sends = n.sends; keeps = n.keeps; narrow = n.narrow; options = n.options }
sized_after row.Duplicate h tag p time r e light z = sized_acknowledged h.ack.0 time (entered time r) (sized_entered r.state time r z)
sized_after (row.Data t) h tag p time r e light z =
    let fresh = data-fresh r h p.picture.payload t time e in
    let near : t ≤ (entered time r).recv.cur + 41 = subst (λ (w : PlainRecv). t ≤ w.cur + 41) (sym (entered-recv r.state time r)) (awaited_near r.recv t fresh.awaited z.narrow) in
    sized_keeping t p (acknowledged h.ack.0 time (entered time r)) near light (sized_acknowledged h.ack.0 time (entered time r) (sized_entered r.state time r z))

pub handed_light : (h : RdpHead) (tag : Option Tag) (p : PlainBuffer) (time : ℕ) (r : PlainRdp) → IsLight p.picture → IsLightMachine r → IsLightMachine (after_packet h tag p time r)
handed_light h tag p time r light z = record {
  whole = whole-handed (row_in r.state r h p.picture.payload) h tag p time r refl z.whole;
  sized = sized_after (row_in r.state r h p.picture.payload) h tag p time r refl light z.sized;
}

-- and what comes back is the packet
pub back_light : (y : StateRow) (p : PlainBuffer) → IsLight p.picture → IfSome (back_of y p) (λ b. IsLight b.picture)
back_light row.Stray p light = light
back_light row.Refused p light = light
back_light row.Answered p light = light
back_light row.Repeated p light = light
back_light row.Late p light = light
back_light row.Reset p light = light
back_light (row.ResetAt t) p light = light
back_light row.Broken p light = light
back_light row.Ended p light = light
back_light row.Acknowledges p light = light
back_light row.Lists p light = light
back_light row.Outside p light = light
back_light row.Duplicate p light = light
back_light (row.Data t) p light = tt

-- ---- deliveries

sized_taken : (s : State) (r : PlainRdp) → IsSized r → IsSized (taken_in s r)
sized_taken Open r h = record {
  sends = h.sends;
  keeps = All-filter (λ k. not (k.index == r.recv.cur + 1)) (IsLightKept r.recv.cur) r.recv.kept h.keeps;
  narrow = h.narrow;
  options = h.options;
}
sized_taken SynSent r h = h
sized_taken SynRcvd r h = h
sized_taken CloseWait r h = h
sized_taken Closed r h = h

pub taken_light : (r : PlainRdp) → IsLightMachine r → IsLightMachine (without_delivery r)
taken_light r h = record { whole = whole-taken r.state r refl h.whole; sized = sized_taken r.state r h.sized }

sized_reset : (o : Option ℕ) (time : ℕ) (r : PlainRdp) → IsSized r → IsSized (reset_after o time r)
sized_reset None time r h = h
sized_reset (Some t) time r h = go (nat_le t (r.recv.cur + 1))
  where
    go : (b : Bool) → IsSized (if b then owes_rst (left Closed time r) else r)
    go true = let l = sized_left Closed time r h in record { sends = l.sends; keeps = l.keeps; narrow = l.narrow; options = l.options }
    go false = h

pub delivering_light : (time : ℕ) (r : PlainRdp) → r.state ≡ Open → is_kept r.recv (r.recv.cur + 1) ≡ false → IsLightMachine r → IsLightMachine (delivering time r)
delivering_light time r e none h = record {
  whole = whole-delivered time r e none h.whole;
  sized = sized_reset r.reset_at time _
      (record { sends = h.sized.sends; keeps = kept_later r.recv.cur (r.recv.cur + 1) r.recv.kept (omega arith) h.sized.keeps; narrow = h.sized.narrow; options = h.sized.options });
}

pub again_light : (b : PlainBuffer) (r : PlainRdp) → r.state ≡ Open → is_kept r.recv (r.recv.cur + 1) ≡ false → IsLight b.picture → IsLightMachine r → IsLightMachine (keeping_again b r)
again_light b r e none light h = record {
  whole = whole-again b r e none h.whole;
  sized = record { sends = h.sized.sends; keeps = kept_more r.recv.cur (r.recv.cur + 1) b r.recv.kept (omega arith) light h.sized.keeps; narrow = h.sized.narrow; options = h.sized.options };
}

-- what is delivered is light
found_light : (cur : ℕ) (test : Kept → Bool) (ks : List Kept) → AreKept cur ks → IfSome (option_map (λ k. k.buffer) (find test ks)) (λ b. IsLight b.picture)
found_light cur test [] all = tt
found_light cur test (k ∷ ks) all = go (test k) (found_light cur test ks (All-tail (IsLightKept cur) k ks all))
  where
    go : (c : Bool) → IfSome (option_map (λ k. k.buffer) (find test ks)) (λ b. IsLight b.picture) → IfSome (option_map (λ k. k.buffer) (cond c (Some k) (find test ks))) (λ b. IsLight b.picture)
    go true rest = (All-head (IsLightKept cur) k ks all).light
    go false rest = rest

delivered_light : (s : State) (r : PlainRdp) → IsSized r → IfSome (delivery_in s r) (λ b. IsLight b.picture)
delivered_light Open r h = found_light r.recv.cur (λ k. k.index == r.recv.cur + 1) r.recv.kept h.keeps
delivered_light SynSent r h = tt
delivered_light SynRcvd r h = tt
delivered_light CloseWait r h = tt
delivered_light Closed r h = tt

pub delivery_light : (r : PlainRdp) → IsLightMachine r → IfSome (delivery r) (λ b. IsLight b.picture)
delivery_light r h = delivered_light r.state r h.sized

-- ---- new ones

pub idle_light : IsLightMachine idle
idle_light = record {
  whole = idle_whole;
  sized = record { sends = All-nil (λ p. IsData p.buffer.picture); keeps = All-nil (IsLightKept 0); narrow = omega arith; options = omega arith };
}

pub connecting_light : (start : ℕ) (options : Options) (node nth time : ℕ) → options.window ≤ 20 → IsLightMachine (connecting start options node nth time)
connecting_light start options node nth time narrow = record {
  whole = record { unopened = (refl, refl); ordered = tt };
  sized = record { sends = All-nil (λ p. IsData p.buffer.picture); keeps = All-nil (IsLightKept 0); narrow = narrow; options = narrow };
}

pub accepting_light : (start : ℕ) (options : Options) (other : ℕ) (tag : Option Tag) (node nth time : ℕ) → options.window ≤ 20 → IsLightMachine (accepting start options other tag node nth time)
accepting_light start options other tag node nth time narrow = record {
  whole = record { unopened = (refl, refl); ordered = tt };
  sized = record { sends = All-nil (λ p. IsData p.buffer.picture); keeps = All-nil (IsLightKept 0); narrow = narrow; options = narrow };
}
