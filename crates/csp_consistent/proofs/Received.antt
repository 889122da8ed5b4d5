-- What an interface hands to its inbox is as what was whole when it heard its frames: it has the trace of a frame that it popped, with one hop more.
use Rattle.std.proofs.Common.{◌≡◌, inl, ℕ, ◌==◌, ◌||◌, Bool, true, false, is_some, Option, Some, None, List, [], ◌∷◌, slice_get, refl, sym, ap, subst}
use Rattle.std.specs.Prelude.{if◌then◌else◌, ⊤}
use Rattle.std.specs.List.{AllByRecursion}
use Rattle.std.proofs.lemmas.Bool.{eq-eqb}
use Rattle.csp_base.specs.declared.traces.Trace.{Trace}
use Rattle.csp_buffer.specs.Content.{Content}
use Rattle.csp_deck.specs.Runs.{IsRun}
use Rattle.csp_iface.specs.Asking.{asks, asked, op_of, handed, given, delivered, transmitted}
use Rattle.csp_iface.specs.Heeding.{is_for}
use Rattle.csp_iface.specs.PlainIface.{PlainIface}
use Rattle.csp_iface.specs.Links.{receiver_for}
use Rattle.csp_iface.specs.Planning.{plan_of, first_rule, side_plan}
use Rattle.csp_iface.specs.Receiving.{Heard, arrived, frame_heard, read_further}
use Rattle.csp_iface.specs.Telling.{after_answer, fetched, caught, hearing, pushed, kept, filled, going_on, has_packet, is_too_big, read_after, taken_up, tells, resting, unmoved}
use Rattle.csp_iface.specs.declared.packet.WholePacket.{WholePacket}
use Rattle.csp_iface.specs.declared.plan.IfacePlan.{IfacePlan}
use Rattle.csp_iface.specs.declared.plan.IfacePlan.TheVariants as plan
use Rattle.csp_iface.specs.declared.plan.Side.{Side}
use Rattle.csp_iface.specs.declared.plan.Side.TheVariants as side
use Rattle.csp_iface.specs.declared.receiver.Receiver.{Receiver}
use Rattle.csp_log.specs.declared.entry.Entry.{Entry}
use Rattle.csp_log.specs.declared.frame.Frame.{Frame}
use Rattle.csp_log.specs.declared.places.LinkKind.{LinkKind}
use Rattle.csp_log.specs.declared.places.LinkKind.TheVariants as kind
use Rattle.csp_log.specs.declared.places.QueueId.TheVariants as queue
use Rattle.csp_log.specs.declared.shown.ItemShown.{ItemShown}
use Rattle.csp_log.specs.declared.shown.ItemShown.TheVariants as item
use Rattle.csp_log.specs.declared.shown.AnswerShown.{AnswerShown}
use Rattle.csp_log.specs.declared.shown.AnswerShown.TheVariants as answer
use Rattle.csp_party.specs.Any.{an_iface}
use Rattle.csp_scene.proofs.Public.{AllByRecursion-append, AllByRecursion-map}
use Rattle.csp_topology.specs.Parties.{iface_opening, party_steps}
use Rattle.csp_consistent.specs.Reading.{put_by, got_by, puts, gets}
use Rattle.csp_consistent.proofs.Each.{each_first, each_last}
use Rattle.csp_consistent.proofs.Heard.{IsWholeSo, IsKeptOf, IsHeardSo, read_by, read_from, read_of, further_of}

-- a frame of this kind, if it is one
abbrev pub IsSuchFrame : (Frame → Type 0) → ItemShown → Type 0
IsSuchFrame G (item.Frame f) = G f
IsSuchFrame G (item.Packet _ _) = ⊤
IsSuchFrame G (item.Note _) = ⊤

-- what is true of frames of one kind is true of those of another
pub such_also : (P Q : Frame → Type 0) → ((f : Frame) → P f → Q f) → (i : ItemShown) → IsSuchFrame P i → IsSuchFrame Q i
such_also P Q also (item.Frame f) is = also f is
such_also P Q also (item.Packet _ _) is = tt
such_also P Q also (item.Note _) is = tt

-- a frame of this kind, if an interface that heeds this takes it
abbrev pub IsSuchIfHeeded : Option ℕ → (Frame → Type 0) → Frame → Type 0
IsSuchIfHeeded heeds G f = is_for heeds f ≡ true → G f

-- a frame with a trace of this kind
abbrev pub IsFrameOf : (Trace → Type 0) → ItemShown → Type 0
IsFrameOf P i = IsSuchFrame (λ f. P f.trace) i

-- a packet that is of this kind by its header, payload and trace; one with such a trace
abbrev pub IsPacketSo : (ℕ → List ℕ → Trace → Type 0) → ItemShown → Type 0
IsPacketSo W (item.Packet _ b) = W b.header b.payload b.trace
IsPacketSo W (item.Frame _) = ⊥
IsPacketSo W (item.Note _) = ⊥

abbrev pub IsPacketOf : (Trace → Type 0) → ItemShown → Type 0
IsPacketOf P i = IsPacketSo (λ header payload trace. P trace) i

abbrev IsAcceptedSo : (ℕ → List ℕ → Trace → Type 0) → Option Content → Type 0
IsAcceptedSo W None = ⊤
IsAcceptedSo W (Some b) = W b.header b.payload b.trace

-- the interface between its operation and the answer, and after the answer, before it reads on
abbrev pub waiting : PlainIface → IfacePlan → PlainIface
waiting s p = resting (record (handed s p) { doing = p })

abbrev pub told : PlainIface → ℕ → IfacePlan → AnswerShown → PlainIface
told s now p a = (after_answer (waiting s p) now p a).iface

-- and once it has read on
abbrev pub read_on_in : PlainIface → PlainIface
read_on_in s = record s { receiver = (read_after s).receiver; whole = (read_after s).whole }

-- a whole packet is there when a buffer is taken
pub taking : (back accepted : Option Content) (whole : Option WholePacket) (own : IfacePlan) → (own ≡ plan.Take → ⊥) → first_rule back accepted whole own ≡ plan.Take → (p : WholePacket) × (whole ≡ Some p)
taking (Some _) accepted whole own never e = absurd cc
taking None (Some _) whole own never e = absurd cc
taking None None (Some p) own never e = (p, refl)
taking None None None own never e = absurd (never e)

pub never_taking : (s : Side) (fs : List Frame) → side_plan s fs ≡ plan.Take → ⊥
never_taking side.Sending [] e = cc
never_taking side.Sending (_ ∷ _) e = cc
never_taking side.Receiving fs e = cc

-- no accepted packet is there when a frame is popped
receiving : (back accepted : Option Content) (whole : Option WholePacket) (own : IfacePlan) → first_rule back accepted whole own ≡ plan.Receive → accepted ≡ None
receiving (Some _) accepted whole own e = absurd cc
receiving None (Some _) whole own e = absurd cc
receiving None None whole own e = refl

-- the frame that came
pub came : (P : ItemShown → Type 0) (n : ℕ) (i : ItemShown) → AllByRecursion P (if n == n then i ∷ [] else []) → P i
came P n i all =
    let there : AllByRecursion P (i ∷ []) = subst (λ (b : Bool). AllByRecursion P (if b then i ∷ [] else [])) (eq-eqb n n refl) all in
    there.0

-- where each frame of a kind that is heard leaves something of a kind, and a packet of a kind if one is whole with it; frames that an interface doesn't heed
-- it doesn't hear
module _ (W : ℕ → List ℕ → Trace → Type 0) (K : Receiver → Type 0) (G : Frame → Type 0)
    (hears : (now : ℕ) (r : Receiver) (f : Frame) → K r → G f → IsHeardSo W K (read_from (frame_heard now r f))) (rests : (r : Receiver) → K r → IsHeardSo W K (read_further r)) where
  -- what an interface has in hand is so
  abbrev IsHolding : PlainIface → Type 0
  IsHolding s = IsWholeSo W s.whole × IsAcceptedSo W s.accepted × K s.receiver

  handed_holding : (s : PlainIface) (p : IfacePlan) → IsHolding s → IsHolding (waiting s p)
  handed_holding s plan.Rest h = h
  handed_holding s plan.Return h = h
  handed_holding s plan.Deliver h = (h.0, tt, h.2)
  handed_holding s plan.Take h = h
  handed_holding s plan.Transmit h = h
  handed_holding s plan.Fetch h = h
  handed_holding s plan.Receive h = h

  pushed_holding : (fs : List Frame) (s : PlainIface) → IsHolding s → IsHolding (pushed fs s)
  pushed_holding [] s h = h
  pushed_holding (_ ∷ _) s h = h

  kept_holding : (i : ItemShown) (s : PlainIface) → IsHolding s → IsHolding (kept i s)
  kept_holding (item.Frame _) s h = h
  kept_holding (item.Packet _ _) s h = h
  kept_holding (item.Note _) s h = h

  fetched_holding : (i : ItemShown) (s : PlainIface) → IsHolding s → IsHolding (fetched i s).iface
  fetched_holding (item.Frame _) s h = h
  fetched_holding (item.Packet mark b) s h = taken (is_too_big s b)
    where
      taken : (big : Bool) → IsHolding (taken_up big mark b s).iface
      taken true = h
      taken false = h
  fetched_holding (item.Note _) s h = h

  filled_of : (whole : Option WholePacket) (p : WholePacket) (b : Content) → whole ≡ Some p → IsWholeSo W whole → W (filled whole b).header (filled whole b).payload (filled whole b).trace
  filled_of None p b e h = absurd cc
  filled_of (Some q) p b e h = h

  -- reading on
  reads : (s : PlainIface) → IsHolding s → IsHolding (read_on_in s)
  reads s h =
      going (has_packet s)
    where
      going : (b : Bool) → IsHolding (record s { receiver = (going_on b s).receiver; whole = (going_on b s).whole })
      going true = h
      going false =
          let new : IsHeardSo W K (read_further s.receiver) = rests s.receiver h.2 in
          (new.1, h.1, new.0)

  -- and where a frame was heard
  reads_heard : (b accepted : Bool) (new : Heard) (s : PlainIface) → accepted ≡ false → IsHeardSo W K (read_by b new) → IsHeardSo W K (going_on (b || accepted) (record s { receiver = new.receiver; whole = new.whole }))
  reads_heard true accepted new s e h = h
  reads_heard false true new s e h = absurd cc
  reads_heard false false new s e h = h

  heard_holding : (s : PlainIface) (now : ℕ) (f : Frame) → s.accepted ≡ None → IsHolding s → IsSuchIfHeeded s.heeds G f → IsHolding (read_on_in (told s now plan.Receive (answer.Popped (item.Frame f))))
  heard_holding s now f none h here =
      by (is_for s.heeds f) refl
    where
      by : (b : Bool) → is_for s.heeds f ≡ b → IsHolding (read_on_in (hearing (if b then frame_heard now s.receiver f else unmoved s) (waiting s plan.Receive)).iface)
      by true is =
          let t : PlainIface = (hearing (frame_heard now s.receiver f) (waiting s plan.Receive)).iface in
          let new : IsHeardSo W K (going_on (has_packet t) t) =
          reads_heard (is_some (frame_heard now s.receiver f).whole) (is_some s.accepted) (frame_heard now s.receiver f) (waiting s plan.Receive) (ap is_some none) (hears now s.receiver f h.2 (here is)) in
          (new.1, h.1, new.0)
      by false is = reads (waiting s plan.Receive) h

  told_holding : (s : PlainIface) (now : ℕ) (p : IfacePlan) (a : AnswerShown) → (p ≡ plan.Take → (k : WholePacket) × (s.whole ≡ Some k)) → (p ≡ plan.Receive → s.accepted ≡ None) → IsHolding s
      → AllByRecursion (IsSuchFrame (IsSuchIfHeeded s.heeds G)) (got_by (queue.Rx s.number) (op_of s p) a) → IsHolding (read_on_in (told s now p a))
  told_holding s now plan.Return answer.Given take none h got = reads (told s now plan.Return answer.Given) h
  told_holding s now plan.Return (answer.PoolFull b) take none h got = reads (told s now plan.Return (answer.PoolFull b)) h
  told_holding s now plan.Deliver answer.Pushed take none h got = reads (told s now plan.Deliver answer.Pushed) (h.0, tt, h.2)
  told_holding s now plan.Deliver (answer.Full i) take none h got = reads (told s now plan.Deliver (answer.Full i)) (h.0, tt, h.2)
  told_holding s now plan.Take (answer.Taken b) take none h got =
      let one : (k : WholePacket) × (s.whole ≡ Some k) = take refl in
      reads (told s now plan.Take (answer.Taken b)) (tt, filled_of s.whole one.0 b one.1 h.0, h.2)
  told_holding s now plan.Take answer.NoBuffer take none h got = reads (told s now plan.Take answer.NoBuffer) (tt, h.1, h.2)
  told_holding s now plan.Transmit answer.Pushed take none h got = reads (told s now plan.Transmit answer.Pushed) (pushed_holding (waiting s plan.Transmit).frames (waiting s plan.Transmit) h)
  told_holding s now plan.Transmit (answer.Full i) take none h got = reads (told s now plan.Transmit (answer.Full i)) (kept_holding i (waiting s plan.Transmit) h)
  told_holding s now plan.Fetch (answer.Popped i) take none h got = reads (told s now plan.Fetch (answer.Popped i)) (fetched_holding i (waiting s plan.Fetch) h)
  told_holding s now plan.Fetch answer.Empty take none h got = reads (told s now plan.Fetch answer.Empty) h
  told_holding s now plan.Receive (answer.Popped (item.Frame f)) take none h got = heard_holding s now f (none refl) h (came (IsSuchFrame (IsSuchIfHeeded s.heeds G)) s.number (item.Frame f) got)
  told_holding s now plan.Receive (answer.Popped (item.Packet mark b)) take none h got = reads (told s now plan.Receive (answer.Popped (item.Packet mark b))) h
  told_holding s now plan.Receive (answer.Popped (item.Note n)) take none h got = reads (told s now plan.Receive (answer.Popped (item.Note n))) h
  told_holding s now plan.Receive answer.Empty take none h got = reads (told s now plan.Receive answer.Empty) h
  told_holding s now p a take none h got = reads (told s now p a) (handed_holding s p h)

  step_holding : (s : PlainIface) (now : ℕ) (a : AnswerShown) → IsHolding s → AllByRecursion (IsSuchFrame (IsSuchIfHeeded s.heeds G)) (got_by (queue.Rx s.number) (asks s now) a) → IsHolding (tells (asked s now) now a)
  step_holding s now a h got =
      told_holding s now (plan_of s) a (taking s.back s.accepted s.whole (side_plan s.side s.frames) (never_taking s.side s.frames)) (receiving s.back s.accepted s.whole (side_plan s.side s.frames)) h got

  -- what goes to the inbox
  delivered_of : (number : ℕ) (o : Option Content) (a : AnswerShown) → IsAcceptedSo W o → AllByRecursion (IsPacketSo W) (put_by queue.Inbox (delivered number o) a)
  delivered_of number None a h = tt
  delivered_of number (Some b) answer.Pushed h = (h, tt)
  delivered_of number (Some b) _ h = tt

  given_of : (o : Option Content) (a : AnswerShown) → AllByRecursion (IsPacketSo W) (put_by queue.Inbox (given o) a)
  given_of None a = tt
  given_of (Some b) a = tt

  transmitted_of : (number : ℕ) (o : Option Frame) (a : AnswerShown) → AllByRecursion (IsPacketSo W) (put_by queue.Inbox (transmitted number o) a)
  transmitted_of number None a = tt
  transmitted_of number (Some f) answer.Pushed = tt
  transmitted_of number (Some f) _ = tt

  put_of : (s : PlainIface) (p : IfacePlan) (a : AnswerShown) → IsHolding s → AllByRecursion (IsPacketSo W) (put_by queue.Inbox (op_of s p) a)
  put_of s plan.Rest a h = tt
  put_of s plan.Return a h = given_of s.back a
  put_of s plan.Deliver a h = delivered_of s.number s.accepted a h.1
  put_of s plan.Take a h = tt
  put_of s plan.Transmit a h = transmitted_of s.number (slice_get s.frames 0) a
  put_of s plan.Fetch a h = tt
  put_of s plan.Receive a h = tt

-- its names, its link's kind and mtu, and what it heeds stay
abbrev Bears : (ℕ → ℕ → LinkKind → ℕ → Option ℕ → Type 0) → PlainIface → Type 0
Bears B s = B s.node s.number s.kind s.mtu s.heeds

handed_bears : (B : ℕ → ℕ → LinkKind → ℕ → Option ℕ → Type 0) (s : PlainIface) (p : IfacePlan) → Bears B s → Bears B (waiting s p)
handed_bears B s plan.Rest h = h
handed_bears B s plan.Return h = h
handed_bears B s plan.Deliver h = h
handed_bears B s plan.Take h = h
handed_bears B s plan.Transmit h = h
handed_bears B s plan.Fetch h = h
handed_bears B s plan.Receive h = h

pushed_bears : (B : ℕ → ℕ → LinkKind → ℕ → Option ℕ → Type 0) (fs : List Frame) (s : PlainIface) → Bears B s → Bears B (pushed fs s)
pushed_bears B [] s h = h
pushed_bears B (_ ∷ _) s h = h

kept_bears : (B : ℕ → ℕ → LinkKind → ℕ → Option ℕ → Type 0) (i : ItemShown) (s : PlainIface) → Bears B s → Bears B (kept i s)
kept_bears B (item.Frame _) s h = h
kept_bears B (item.Packet _ _) s h = h
kept_bears B (item.Note _) s h = h

fetched_bears : (B : ℕ → ℕ → LinkKind → ℕ → Option ℕ → Type 0) (i : ItemShown) (s : PlainIface) → Bears B s → Bears B (fetched i s).iface
fetched_bears B (item.Frame _) s h = h
fetched_bears B (item.Packet mark b) s h = taken (is_too_big s b)
  where
    taken : (big : Bool) → Bears B (taken_up big mark b s).iface
    taken true = h
    taken false = h
fetched_bears B (item.Note _) s h = h

caught_bears : (B : ℕ → ℕ → LinkKind → ℕ → Option ℕ → Type 0) (now : ℕ) (i : ItemShown) (s : PlainIface) → Bears B s → Bears B (caught now i s).iface
caught_bears B now (item.Frame _) s h = h
caught_bears B now (item.Packet _ _) s h = h
caught_bears B now (item.Note _) s h = h

told_bears : (B : ℕ → ℕ → LinkKind → ℕ → Option ℕ → Type 0) (s : PlainIface) (now : ℕ) (p : IfacePlan) (a : AnswerShown) → Bears B s → Bears B (told s now p a)
told_bears B s now plan.Return answer.Given h = h
told_bears B s now plan.Return (answer.PoolFull b) h = h
told_bears B s now plan.Deliver answer.Pushed h = h
told_bears B s now plan.Deliver (answer.Full i) h = h
told_bears B s now plan.Take (answer.Taken b) h = h
told_bears B s now plan.Take answer.NoBuffer h = h
told_bears B s now plan.Transmit answer.Pushed h = pushed_bears B (waiting s plan.Transmit).frames (waiting s plan.Transmit) h
told_bears B s now plan.Transmit (answer.Full i) h = kept_bears B i (waiting s plan.Transmit) h
told_bears B s now plan.Fetch (answer.Popped i) h = fetched_bears B i (waiting s plan.Fetch) h
told_bears B s now plan.Fetch answer.Empty h = h
told_bears B s now plan.Receive (answer.Popped i) h = caught_bears B now i (waiting s plan.Receive) h
told_bears B s now plan.Receive answer.Empty h = h
told_bears B s now p a h = handed_bears B s p h

step_bears : (B : ℕ → ℕ → LinkKind → ℕ → Option ℕ → Type 0) (s : PlainIface) (now : ℕ) (a : AnswerShown) → Bears B s → Bears B (tells (asked s now) now a)
step_bears B s now a h = told_bears B s now (plan_of s) a h

abbrev pub IsNamed : ℕ → ℕ → PlainIface → Type 0
IsNamed node number s = (s.node ≡ node) × (s.number ≡ number)

pub step_named : (node number : ℕ) (s : PlainIface) (now : ℕ) (a : AnswerShown) → IsNamed node number s → IsNamed node number (tells (asked s now) now a)
step_named node number s now a h = step_bears (λ n k kind mtu heeds. (n ≡ node) × (k ≡ number)) s now a h

-- the interface of this name, on a link of this kind and mtu
abbrev pub IsOn : ℕ → ℕ → LinkKind → ℕ → PlainIface → Type 0
IsOn node number kind mtu s = (s.node ≡ node) × (s.number ≡ number) × (s.kind ≡ kind) × (s.mtu ≡ mtu)

pub step_on : (node number : ℕ) (kind : LinkKind) (mtu : ℕ) (s : PlainIface) (now : ℕ) (a : AnswerShown) → IsOn node number kind mtu s → IsOn node number kind mtu (tells (asked s now) now a)
step_on node number kind mtu s now a h = step_bears (λ n k c m heeds. (n ≡ node) × (k ≡ number) × (c ≡ kind) × (m ≡ mtu)) s now a h

-- the interface with this number, that heeds this
abbrev IsHeeding : ℕ → Option ℕ → PlainIface → Type 0
IsHeeding number heeds s = (s.number ≡ number) × (s.heeds ≡ heeds)

step_heeding : (number : ℕ) (heeds : Option ℕ) (s : PlainIface) (now : ℕ) (a : AnswerShown) → IsHeeding number heeds s → IsHeeding number heeds (tells (asked s now) now a)
step_heeding number heeds s now a h = step_bears (λ n k kind mtu x. (k ≡ number) × (x ≡ heeds)) s now a h

-- where each frame of a kind that is heard keeps what is known, each packet that an interface handed to its inbox is of the kind of those that were whole
module _ (W : ℕ → List ℕ → Trace → Type 0) (K : Receiver → Type 0) (G : Frame → Type 0)
    (hears : (now : ℕ) (r : Receiver) (f : Frame) → K r → G f → IsHeardSo W K (read_from (frame_heard now r f))) (rests : (r : Receiver) → K r → IsHeardSo W K (read_further r)) where
  run_received : (number : ℕ) (heeds : Option ℕ) (es : List Entry) (time : ℕ) (s : PlainIface) → IsRun party_steps time (an_iface s) es → IsHeeding number heeds s → IsHolding W K G hears rests s
      → AllByRecursion (IsSuchFrame (IsSuchIfHeeded heeds G)) (gets (queue.Rx number) es) → AllByRecursion (IsPacketSo W) (puts queue.Inbox es)
  run_received number heeds [] time s run heeding h got = tt
  run_received number heeds (e ∷ es) time s run heeding h got =
      let Q : Option ℕ → ItemShown → Type 0 = λ x. IsSuchFrame (IsSuchIfHeeded x G) in
      let now_got : AllByRecursion (Q heeds) (got_by (queue.Rx number) e.op e.answer) = each_first (Q heeds) (got_by (queue.Rx number) e.op e.answer) (gets (queue.Rx number) es) got in
      let then_got : AllByRecursion (Q heeds) (gets (queue.Rx number) es) = each_last (Q heeds) (got_by (queue.Rx number) e.op e.answer) (gets (queue.Rx number) es) got in
      let number_got : AllByRecursion (Q heeds) (got_by (queue.Rx s.number) (asks s e.time) e.answer) =
      subst (λ n. AllByRecursion (Q heeds) (got_by (queue.Rx n) (asks s e.time) e.answer)) (sym heeding.0) (subst (λ o. AllByRecursion (Q heeds) (got_by (queue.Rx number) o e.answer)) run.1.op now_got) in
      let own_got : AllByRecursion (Q s.heeds) (got_by (queue.Rx s.number) (asks s e.time) e.answer) = subst (λ x. AllByRecursion (Q x) (got_by (queue.Rx s.number) (asks s e.time) e.answer)) (sym heeding.1) number_got in
      AllByRecursion-append (IsPacketSo W) (put_by queue.Inbox e.op e.answer) (puts queue.Inbox es)
      (subst (λ o. AllByRecursion (IsPacketSo W) (put_by queue.Inbox o e.answer)) (sym run.1.op) (put_of W K G hears rests s (plan_of s) e.answer h))
      (run_received number heeds es e.time (tells (asked s e.time) e.time e.answer) run.2 (step_heeding number heeds s e.time e.answer heeding) (step_holding W K G hears rests s e.time e.answer h own_got) then_got)

  -- where the frames that it heeds are of the kind, and so where all are
  pub heeded_so : (node number : ℕ) (kind : LinkKind) (mtu : ℕ) (heeds : Option ℕ) (es : List Entry) → K (receiver_for kind mtu) → IsRun party_steps 0 (an_iface (iface_opening node number kind mtu heeds)) es
      → AllByRecursion (IsSuchFrame (IsSuchIfHeeded heeds G)) (gets (queue.Rx number) es) → AllByRecursion (IsPacketSo W) (puts queue.Inbox es)
  heeded_so node number kind mtu heeds es first run got = run_received number heeds es 0 (iface_opening node number kind mtu heeds) run (refl, refl) (tt, tt, first) got

  pub received_so : (node number : ℕ) (kind : LinkKind) (mtu : ℕ) (heeds : Option ℕ) (es : List Entry) → K (receiver_for kind mtu) → IsRun party_steps 0 (an_iface (iface_opening node number kind mtu heeds)) es
      → AllByRecursion (IsSuchFrame G) (gets (queue.Rx number) es) → AllByRecursion (IsPacketSo W) (puts queue.Inbox es)
  received_so node number kind mtu heeds es first run got =
      heeded_so node number kind mtu heeds es first run
      (AllByRecursion-map (IsSuchFrame G) (IsSuchFrame (IsSuchIfHeeded heeds G)) (gets (queue.Rx number) es) (such_also G (IsSuchIfHeeded heeds G) (λ f is heeded. is)) got)

opening_kept : (P : Trace → Type 0) (kind : LinkKind) (mtu : ℕ) → IsKeptOf P (receiver_for kind mtu)
opening_kept P kind.Kiss mtu = inl refl
opening_kept P kind.KissHeader mtu = inl refl
opening_kept P kind.Can mtu = tt

-- where each frame that an interface heeds of those that it popped has, one hop on, a trace of some kind, each packet that it handed to its inbox has one
pub heeded : (P : Trace → Type 0) (node number : ℕ) (kind : LinkKind) (mtu : ℕ) (heeds : Option ℕ) (es : List Entry) → IsRun party_steps 0 (an_iface (iface_opening node number kind mtu heeds)) es
    → AllByRecursion (IsSuchFrame (IsSuchIfHeeded heeds (λ f. P (arrived f.trace)))) (gets (queue.Rx number) es) → AllByRecursion (IsPacketOf P) (puts queue.Inbox es)
heeded P node number kind mtu heeds es run got =
    heeded_so (λ header payload trace. P trace) (IsKeptOf P) (λ f. P (arrived f.trace)) (read_of P) (further_of P) node number kind mtu heeds es (opening_kept P kind mtu) run got

-- and so where each that it popped has one
pub received : (P : Trace → Type 0) (node number : ℕ) (kind : LinkKind) (mtu : ℕ) (heeds : Option ℕ) (es : List Entry) → IsRun party_steps 0 (an_iface (iface_opening node number kind mtu heeds)) es
    → AllByRecursion (IsFrameOf (λ t. P (arrived t))) (gets (queue.Rx number) es) → AllByRecursion (IsPacketOf P) (puts queue.Inbox es)
received P node number kind mtu heeds es run got =
    received_so (λ header payload trace. P trace) (IsKeptOf P) (λ f. P (arrived f.trace)) (read_of P) (further_of P) node number kind mtu heeds es (opening_kept P kind mtu) run got
