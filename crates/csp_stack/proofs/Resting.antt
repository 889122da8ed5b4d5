-- what asks and what was told is sound again
use Rattle.std.proofs.Common.{◌≡◌, ℕ, ◌+◌, ◌<◌, ◌≤◌, List, [], ◌∷◌, length, Option, Some, None, IfSome, MatchOption, refl, ap, sym, subst, ◌∙◌, arith}
use Rattle.csp_base.specs.declared.seat.Seat.{Seat}
use Rattle.csp_buffer.specs.Content.{Content}
use Rattle.csp_conn.specs.PlainConns.{IsThere}
use Rattle.csp_deck.specs.Keeping.{numbers_of}
use Rattle.csp_deck.specs.Step.{kind_of, op_numbers, times}
use Rattle.csp_log.specs.declared.places.QueueId.{QueueId}
use Rattle.csp_log.specs.declared.places.QueueId.TheVariants as queue
use Rattle.csp_log.specs.declared.shown.OpShown.{OpShown}
use Rattle.csp_log.specs.declared.shown.OpShown.TheVariants as op
use Rattle.csp_log.specs.declared.shown.ItemShown.TheVariants as item
use Rattle.csp_ports.specs.Counts.{AreFar}
use Rattle.csp_ports.specs.Held.{held}
use Rattle.csp_ports.specs.Keeps.{Keeps as PortsKeep, at_hand}
use Rattle.csp_ports.specs.PlainPorts.{PlainPorts}
use Rattle.csp_stack.proofs.Keeping.{far_same, holds_apart, times_both}
use Rattle.csp_log.specs.declared.event.Event.{Event}
use Rattle.csp_ports.specs.declared.held.TheConstants.{MAX_HELD}
use Rattle.csp_stack.specs.Comes.{IsServing}
use Rattle.csp_stack.specs.Keeps.{Asks, Keeps}
use Rattle.csp_stack.specs.Party.{HasPlace, IsClear, IsDelivering, IsSendable, IsSound, IsTimed, IsWaiting, kind_of_plan}
use Rattle.csp_stack.specs.Router.{Facts, Leaving, State, StateAt, at_rest, drained, without_first, holds, out_buffers}
use Rattle.csp_stack.specs.declared.plan.Plan.{Plan}
use Rattle.csp_stack.specs.declared.plan.Plan.TheVariants as plan
use Rattle.csp_stack.specs.declared.state.TheConstants.{TRASH_ROOM}

-- a router that was told is sound
pub finished_sound : (f : Facts) (s t : State) (ns : List ℕ) → IsSound f s → Keeps (length f.ifaces) (at_rest s) t ns → IsSendable f t.out → length t.trash + length (held t.ports) ≤ TRASH_ROOM → IsSound f t
finished_sound f s t ns h k can room = record {
  room = room;
  place = rw k.doing k.early;
  sendable = can;
  within = k.within h.within;
  apps = k.apps ∙ h.apps;
  low = h.low;
  high = h.high;
}

-- it asks with what its ports hand over, if anything
pub ports_ask : (f : Facts) (s : State) (p : PlainPorts) (cursor : ℕ) (d : Plan) (time : ℕ) (o : OpShown) (gone : List Content) → IsTimed f s → PortsKeep 0 (at_hand s.ports []) (at_hand p gone) [] →
    p.conns.apps ≡ s.ports.conns.apps → op_numbers o ≡ numbers_of gone → HasPlace d (record s { ports = p; cursor = cursor; doing = d }) → IsWaiting d (record s { ports = p; cursor = cursor; doing = d }) time →
    kind_of_plan d ≡ kind_of o → Asks f s (record s { ports = p; cursor = cursor; doing = d }) time o
ports_ask f s p cursor d time o gone h keeps apps handed place waits kind = record {
  sound = record {
    room = let room = h.room in let size = keeps.size in omega (arith, room, size);
    place = place;
    sendable = h.sendable;
    within = h.within;
    apps = apps ∙ h.apps;
    low = h.low;
    high = h.high;
  };
  waits = waits;
  kind = kind;
  numbers = λ k.
      let old = holds_apart k s.trash s.out s.ports in
      let new = holds_apart k s.trash s.out p in
      let step = keeps.numbers k in
      let same = ap (times k) handed in
      omega (arith, old, new, step, same);
  far = λ n far. far_same n p (keeps.far n far);
}

-- it asks without handing over anything
pub plainly_asks : (f : Facts) (s : State) (cursor : ℕ) (d : Plan) (time : ℕ) (o : OpShown) → IsTimed f s → op_numbers o ≡ [] → HasPlace d (record s { cursor = cursor; doing = d }) →
    IsWaiting d (record s { cursor = cursor; doing = d }) time → kind_of_plan d ≡ kind_of o → Asks f s (record s { cursor = cursor; doing = d }) time o
plainly_asks f s cursor d time o h none place waits kind = record {
  sound = record { room = h.room; place = place; sendable = h.sendable; within = h.within; apps = h.apps; low = h.low; high = h.high };
  waits = waits;
  kind = kind;
  numbers = λ k. let same = ap (times k) none in omega (arith, same);
  far = λ n far. far;
}

-- where nothing is to be done before its sources are looked at, it is as after its timers were tried
pub still_timed : (f : Facts) (s : State) → IsSound f s → IsClear s → IsTimed f s
still_timed f s h clear = record { room = h.room; quiet = λ _. clear.early; sendable = h.sendable; within = h.within; apps = h.apps; low = h.low; high = h.high }

-- a router that looked, or did nothing, holds what it held and counts no further
pub looked_numbers : (r : Option QueueId) (f : Facts) (a b : StateAt) (P : QueueId → Type 0) (time : ℕ) → MatchOption r (b ≡ a) P → IfSome r (λ q. Asks f a.state b.state time (op.Pop q)) → (k : ℕ) → times k (holds b.state) ≡ times k (holds a.state)
looked_numbers None f a b P time same asks k = ap (λ (x : StateAt). times k (holds x.state)) same
looked_numbers (Some q) f a b P time same asks k = let n = asks.numbers k in omega (arith, n)

pub looked_far : (r : Option QueueId) (f : Facts) (a b : StateAt) (P : QueueId → Type 0) (time : ℕ) → MatchOption r (b ≡ a) P → IfSome r (λ q. Asks f a.state b.state time (op.Pop q)) → (n : ℕ) → AreFar n a.state.ports → AreFar n b.state.ports
looked_far None f a b P time same asks n far = rw same far
looked_far (Some q) f a b P time same asks n far = asks.far n far

-- the timers are tried before
pub timed_then : (f : Facts) (s m t : State) (time : ℕ) (o : OpShown) → ((k : ℕ) → times k (holds m) ≡ times k (holds s)) → ((n : ℕ) → AreFar n s.ports → AreFar n m.ports) → Asks f m t time o → Asks f s t time o
timed_then f s m t time o numbers far a = record { sound = a.sound; waits = a.waits; kind = a.kind; numbers = λ k. a.numbers k ∙ numbers k; far = λ n h. a.far n (far n h) }

-- two steps of the ports
pub ports_then : (p q r : PlainPorts) (gone : List Content) → PortsKeep 0 (at_hand p []) (at_hand q []) [] → PortsKeep 0 (at_hand q []) (at_hand r gone) [] → PortsKeep 0 (at_hand p []) (at_hand r gone) []
ports_then p q r gone a b = record {
  numbers = λ k. let x = a.numbers k in let y = b.numbers k in omega (arith, x, y);
  size = let x = a.size in let y = b.size in omega (arith, x, y);
  far = λ n h. far_same (n + 0) r (b.far (n + 0) (a.far n h));
}

-- a packet of a slot is handed over, once the ports have turned to the slot
pub delivery_asks : (f : Facts) (inside seen : StateAt) (q p : PlainPorts) (cursor : ℕ) (seat : Seat) (time : ℕ) (b : Content) → inside ≡ seen → IsTimed f seen.state → IsClear seen.state → IsThere seen.state.ports.conns seat
    → PortsKeep 0 (at_hand inside.state.ports []) (at_hand q []) [] → q.conns.apps ≡ inside.state.ports.conns.apps → PortsKeep 0 (at_hand q []) (at_hand p (b ∷ [])) [] → p.conns.apps ≡ q.conns.apps
    → IsDelivering (record inside.state { ports = p }) seat → Asks f seen.state (record inside.state { ports = p; cursor = cursor; doing = plan.Deliver seat }) time (op.Push (queue.Down seat.app) (item.Packet seat.slot b))
delivery_asks f inside seen q p cursor seat time b e timed clear there turned same gone alike delivers =
    subst (λ (x : StateAt). IsTimed f x.state → IsClear x.state → IsThere x.state.ports.conns seat → Asks f x.state (record inside.state { ports = p; cursor = cursor; doing = plan.Deliver seat }) time (op.Push (queue.Down seat.app) (item.Packet seat.slot b))) e
    (λ timed clear there.
    ports_ask f inside.state p cursor (plan.Deliver seat) time (op.Push (queue.Down seat.app) (item.Packet seat.slot b)) (b ∷ []) timed (ports_then inside.state.ports q p (b ∷ []) turned gone) (alike ∙ same) refl (
      record { trash = clear.trash; out = clear.out; early = clear.early },
      record { of_node = subst (λ (n : ℕ). seat.app < n) (sym (alike ∙ same)) there.of_node; of_app = there.of_app },
      record { is_open = delivers.is_open; is_taken = delivers.is_taken },
    )
    tt refl)
    timed clear there

-- it gives the first buffer of its trash
pub give_asks : (f : Facts) (s : State) (time : ℕ) (b : Content) (bs : List Content) → s.trash ≡ b ∷ bs → IsTimed f s → Asks f s (record s { trash = bs; doing = plan.Give }) time (op.Give b)
give_asks f s time b bs t h =
    let room = h.room in
    let count = ap length t in
    record {
      sound = record { room = omega (arith, room, count); place = omega (arith, room, count); sendable = h.sendable; within = h.within; apps = h.apps; low = h.low; high = h.high };
      waits = tt;
      kind = refl;
      numbers = λ k.
          let old = holds_apart k s.trash s.out s.ports in
          let new = holds_apart k bs s.out s.ports in
          let parts = times_both k (b ∷ []) bs in
          let same = ap (λ l. times k (numbers_of l)) t in
          omega (arith, old, new, parts, same);
      far = λ n far. far;
    }

-- it pushes the packet that is to go out
pub push_asks : (f : Facts) (s : State) (time : ℕ) (x : Leaving) → s.trash ≡ [] → s.out ≡ Some x → IsTimed f s →
    Asks f s (record s { out = None; doing = plan.Push x.queue (length x.buffer.payload) }) time (op.Push x.queue (item.Packet x.mark x.buffer))
push_asks f s time x t o h = record {
  sound = record { room = h.room; place = record { trash = t; out = refl; early = h.quiet t }; sendable = tt; within = h.within; apps = h.apps; low = h.low; high = h.high };
  waits = tt;
  kind = refl;
  numbers = λ k.
      let old = holds_apart k s.trash s.out s.ports in
      let new = holds_apart k s.trash None s.ports in
      let same = ap (λ (out : Option Leaving). times k (numbers_of (out_buffers out))) o in
      omega (arith, old, new, same);
  far = λ n far. far;
}

-- a router of which a buffer is taken out is sound
drained_by_sound : (f : Facts) (s : State) (trash : List Content) (out : Option Leaving) (kept : List Content) → s.out ≡ out → IsSound f s →
    length (without_first trash out kept s).trash + length (held (without_first trash out kept s).ports) ≤ TRASH_ROOM → (without_first trash out kept s).ports.conns.apps ≡ f.apps →
    IsSound f (without_first trash out kept s)
drained_by_sound f s (b ∷ bs) out kept is h room apps = record { room = room; place = refl; sendable = h.sendable; within = h.within; apps = apps; low = h.low; high = h.high }
drained_by_sound f s [] (Some o) kept is h room apps = record { room = room; place = refl; sendable = tt; within = h.within; apps = apps; low = h.low; high = h.high }
drained_by_sound f s [] None (k ∷ ks) is h room apps = record { room = room; place = refl; sendable = h.sendable; within = h.within; apps = apps; low = h.low; high = h.high }
drained_by_sound f s [] None [] is h room apps = h

pub drained_sound : (f : Facts) (s : State) → IsSound f s → length (drained s).trash + length (held (drained s).ports) ≤ TRASH_ROOM → (drained s).ports.conns.apps ≡ f.apps → IsSound f (drained s)
drained_sound f s h room apps = drained_by_sound f s s.trash s.out (held s.ports) refl h room apps

-- a packet that comes has its place
pub serving : (f : Facts) (s : State) (d e : Plan) (report : List Event) → IsSound f (record s { doing = d; early = report }) → length (held s.ports) ≤ MAX_HELD → IsClear (record s { doing = e; early = report }) → IsServing f s
serving f s d e report h few clear = record { trash = clear.trash; out = clear.out; room = omega (arith, few); within = h.within; apps = h.apps; low = h.low; high = h.high }

-- and the trash has room for what is let go then
pub served_room : (f : Facts) (s t : State) (n : ℕ) (ns : List ℕ) → IsServing f s → Keeps n s t ns → length t.trash + length (held t.ports) ≤ TRASH_ROOM
served_room f s t n ns h k = let room = h.room in let more = k.room in let none = ap length h.trash in omega (arith, room, more, none)
