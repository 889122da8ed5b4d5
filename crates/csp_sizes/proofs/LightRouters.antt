-- A router's turn keeps it light.
use Rattle.std.proofs.Common.{subst, sym, ◌≡◌, ℕ, ◌≤◌, Bool, true, false, cond, List, [], ◌∷◌, length, Option, None, Some, refl, arith}
use Rattle.std.proofs.lemmas.List.Elements.{All-append, All-cons, All-drop, All-head}
use Rattle.std.specs.List.{All}
use Rattle.std.specs.Prelude.{IfSome}
use Rattle.csp_base.specs.declared.seat.Seat.{Seat}
use Rattle.csp_buffer.specs.Content.{Content}
use Rattle.csp_buffer.specs.PlainBuffer.{PlainBuffer}
use Rattle.csp_conn.specs.PlainConns.{slot_at}
use Rattle.csp_log.specs.Weights.{item_bytes}
use Rattle.csp_log.specs.declared.places.QueueId.TheVariants as queue
use Rattle.csp_log.specs.declared.shown.AnswerShown.TheVariants as answer
use Rattle.csp_log.specs.declared.shown.AnswerShown.{AnswerShown}
use Rattle.csp_log.specs.declared.shown.ItemShown.TheVariants as item
use Rattle.csp_log.specs.declared.shown.ItemShown.{ItemShown}
use Rattle.csp_log.specs.declared.shown.OpShown.TheVariants as op
use Rattle.csp_ports.specs.Asking.{answered}
use Rattle.csp_ports.specs.PlainPorts.{PlainPorts, machine_at}
use Rattle.csp_ports.specs.Steps.{timed as ports_timed}
use Rattle.csp_ports.specs.Tasks.{delivered, kept_again, told_down, turned, without_packet}
use Rattle.csp_ports.specs.declared.owed.Owed.{Owed}
use Rattle.csp_rdp.specs.Jobs.{delivery}
use Rattle.csp_rdp.specs.declared.answers.State.TheVariants.{Open}
use Rattle.csp_sizes.proofs.LightAnswers.{any_came, buffer_came, item_came}
use Rattle.csp_sizes.proofs.LightMachines.{delivery_light}
use Rattle.csp_sizes.proofs.LightPorts.{Comes, answered_light, delivered_after, delivery_open, kept_after, machine_light, timed_light, told_down_light, without_packet_light}
use Rattle.csp_sizes.proofs.LightRules.{IsTold, heard_light, made_on_light, ported_light, served_light, trashed, was_full_light, went_out_light}
use Rattle.csp_sizes.specs.Light.{AreFacts, ArePorts, IsLight, IsLightAnswer, IsLightOp, IsLightRouter, IsLightState, room_of}
use Rattle.csp_stack.specs.Counting.{came_in, was_full}
use Rattle.csp_stack.specs.Party.{asked_of, asks_of, told_of}
use Rattle.csp_stack.specs.Readings.{buffer_in, is_pushed, item_in}
use Rattle.csp_stack.specs.Router.{Facts, Leaving, Router, State, at_rest, router}
use Rattle.csp_stack.specs.Rules.{Arrival, heard, made_on, packet_in, served}
use Rattle.csp_stack.specs.Told.{Told, kept, ported, with_ports}
use Rattle.csp_stack.specs.Turn as turn
use Rattle.csp_stack.specs.declared.plan.Plan.TheVariants as plan
use Rattle.csp_stack.specs.declared.plan.Plan.{Plan}

-- ---- what it asks

timed_state : (s : State) (time : ℕ) → IsLightState s → IsLightState (turn.timed s time)
timed_state s time h =
    let came = timed_light time s.ports h.ports in
    record { ports = came.ports; trash = All-append IsLight s.trash (ports_timed time s.ports).loose h.trash came.loose; out = h.out; stats = h.stats }

giving_light : (bs : List Content) → All IsLight bs → IsLightOp (turn.giving bs)
giving_light [] all = tt
giving_light (b ∷ bs) all = All-head IsLight b bs all

pushing_light : (o : Option Leaving) → IfSome o (λ o. length o.buffer.payload ≤ room_of o.queue) → IsLightOp (turn.pushing o)
pushing_light None h = tt
pushing_light (Some o) h = h

replying_light : (os : List Owed) → IsLightOp (turn.replying os)
replying_light [] = tt
replying_light (o ∷ os) = omega arith

delivering_op : (o : Option PlainBuffer) (s : Seat) → IfSome o (λ b. IsLight b.picture) → IsLightOp (turn.delivering o s)
delivering_op None s h = tt
delivering_op (Some b) s h = h

op_light : (f : Facts) (s : State) (time : ℕ) (p : Plan) → IsLightState s → IsLightOp (turn.turn_of f s time p).asks
op_light f s time plan.Rest h = tt
op_light f s time plan.Give h = giving_light s.trash h.trash
op_light f s time (plan.Push q bytes) h = pushing_light s.out h.out
op_light f s time plan.Hear h = tt
op_light f s time (plan.Serve k) h = tt
op_light f s time (plan.Reply k) h = replying_light s.ports.owed
op_light f s time (plan.Tell seat) h = omega arith
op_light f s time (plan.Deliver seat) h = delivering_op (delivery (machine_at s.ports seat)) seat (delivery_light (machine_at s.ports seat) (machine_light s.ports seat h.ports))
op_light f s time (plan.Make seat j) h = tt

pub asks_light : (r : Router) (time : ℕ) → IsLightRouter r → IsLightOp (asks_of r time)
asks_light r time h = let s = turn.timed r.state time in op_light r.facts s time (turn.plan_of r.facts s time) (timed_state r.state time h.state)

-- ---- what comes of an answer

packet_came : (o : Option ItemShown) → IfSome o (λ i. item_bytes i ≤ 531) → IfSome (packet_in o) (λ p. IsLight p.buffer)
packet_came None h = tt
packet_came (Some (item.Packet mark b)) h = h
packet_came (Some (item.Note n)) h = tt
packet_came (Some (item.Frame f)) h = tt

-- what an answer brings is no longer than it may be, and what comes of that neither
brought_light : {X : Type 0} (P : X → Type 0) (s : State) (comes : X → Told) (o : Option X) → IfSome o P → IsLightState s → ((x : X) → P x → IsTold (comes x)) → IsTold (turn.brought s comes o)
brought_light P s comes None is h each = h
brought_light P s comes (Some x) is h each = each x is

-- what comes of a push, by whether it was done
pushed_light : (pushed : Bool) (one other : Told) → IsTold one → IsTold other → IsTold (cond pushed one other)
pushed_light true one other h g = h
pushed_light false one other h g = g

back_light : (s : State) (o : Option Arrival) → IfSome o (λ p. IsLight p.buffer) → IsLightState s → IsTold (turn.no_room s o)
back_light s o light h = brought_light (λ p. IsLight p.buffer) s _ o light h (λ p is. trashed s p.buffer is h)

-- a delivery, of the packet that was taken out of these ports
module _ (p : PlainPorts) (seat : Seat) (time : ℕ) (s : State) (same : s.ports ≡ without_packet seat p) (ports : ArePorts p) (h : IsLightState s) where
  kept_light : (b : Content) → (machine_at p seat).state ≡ Open → IsLight b → IsLightState (with_ports s (kept_again seat b s.ports))
  kept_light b opened light = record {
    ports = subst (λ (q : PlainPorts). ArePorts (kept_again seat b q)) (sym same) (kept_after seat b p opened light ports);
    trash = h.trash;
    out = h.out;
    stats = h.stats;
  }

  back_light' : (i : ItemShown) → (machine_at p seat).state ≡ Open → item_bytes i ≤ 531 → IsTold (turn.kept_back s seat (packet_in (Some i)))
  back_light' (item.Packet mark b) opened light = kept_light b opened light
  back_light' (item.Note n) opened light = h
  back_light' (item.Frame f) opened light = h

  delivered_so : (machine_at p seat).state ≡ Open → IsTold (ported s (delivered time seat s.ports))
  delivered_so opened =
      ported_light s (delivered time seat s.ports) (subst (λ (q : PlainPorts). Comes (delivered time seat q)) (sym same) (delivered_after time seat p opened ports)) h

  told_delivering_light : (o : Option PlainBuffer) (a : AnswerShown) → delivery (machine_at p seat) ≡ o → IsLightAnswer (turn.delivering o seat) a
      → IsTold (cond (is_pushed a) (ported s (delivered time seat s.ports)) (turn.kept_back s seat (packet_in (item_in a))))
  told_delivering_light None answer.Nothing e light = h
  told_delivering_light None a e light = absurd light
  told_delivering_light (Some b) answer.Pushed e light = delivered_so (delivery_open (machine_at p seat).state (machine_at p seat) b e)
  told_delivering_light (Some b) (answer.Full i) e light = back_light' i (delivery_open (machine_at p seat).state (machine_at p seat) b e) light
  told_delivering_light (Some b) a e light = absurd light

told_light : (p : Plan) (f : Facts) (s : State) (time : ℕ) (a : AnswerShown) → AreFacts f → IsLightState s → IsLightAnswer (turn.turn_of f s time p).asks a
    → IsTold ((turn.turn_of f (at_rest (turn.until_answer f s time p)) time p).told a)
told_light plan.Rest f s time a are h light = h
told_light plan.Give f s time a are h light =
    let t : State = at_rest (turn.until_answer f s time plan.Give) in
    let less : IsLightState t = record { ports = h.ports; trash = All-drop IsLight 1 s.trash h.trash; out = h.out; stats = h.stats } in
    brought_light IsLight t (kept t) (buffer_in a) (buffer_came (turn.giving s.trash) a light) less
    (λ b is. record { ports = h.ports; trash = All-cons IsLight b t.trash is less.trash; out = h.out; stats = h.stats })
told_light (plan.Push q bytes) f s time a are h light =
    let t : State = at_rest (turn.until_answer f s time (plan.Push q bytes)) in
    let less : IsLightState t = record { ports = h.ports; trash = h.trash; out = tt; stats = h.stats } in
    pushed_light (is_pushed a) _ _ (went_out_light t q bytes less) (back_light (was_full t q) (packet_in (item_in a)) (packet_came (item_in a) (any_came (turn.pushing s.out) a light)) (was_full_light t q less))
told_light plan.Hear f s time a are h light =
    let t : State = at_rest (turn.until_answer f s time plan.Hear) in
    brought_light (λ p. IsLight p.buffer) t (λ p. heard f (came_in t p.mark p.buffer) time p) (packet_in (item_in a)) (packet_came (item_in a) (any_came (op.Pop queue.Inbox) a light)) h
    (λ p is. heard_light f t time p are is h)
told_light (plan.Serve k) f s time a are h light =
    let t : State = at_rest (turn.until_answer f s time (plan.Serve k)) in
    brought_light (λ i. item_bytes i ≤ 522) t (served f t time k) (item_in a) (item_came (op.Pop (queue.Up k)) a light) h (λ i short. served_light f t time k i are short h)
told_light (plan.Reply k) f s time a are h light =
    let t : State = at_rest (turn.until_answer f s time (plan.Reply k)) in
    pushed_light (is_pushed a) _ _ (ported_light t (answered t.ports) (answered_light t.ports h.ports) h) (back_light t (packet_in (item_in a)) (packet_came (item_in a) (any_came (turn.replying s.ports.owed) a light)) h)
told_light (plan.Tell seat) f s time a are h light =
    let t : State = at_rest (turn.until_answer f s time (plan.Tell seat)) in
    let told : IsLightState (with_ports t (told_down seat t.ports)) = record { ports = told_down_light seat t.ports h.ports; trash = h.trash; out = h.out; stats = h.stats } in
    pushed_light (is_pushed a) _ _ told (back_light t (packet_in (item_in a)) (packet_came (item_in a) (any_came (turn.turn_of f s time (plan.Tell seat)).asks a light)) h)
told_light (plan.Deliver seat) f s time a are h light =
    let p = turned seat s.ports in
    told_delivering_light p seat time (at_rest (turn.until_answer f s time (plan.Deliver seat))) refl h.ports
    (record { ports = without_packet_light seat p h.ports; trash = h.trash; out = h.out; stats = h.stats })
    (delivery (machine_at s.ports seat)) a refl light
told_light (plan.Make seat j) f s time a are h light =
    let t : State = at_rest (turn.until_answer f s time (plan.Make seat j)) in
    brought_light IsLight t (made_on (slot_at t.ports.conns seat) (seat, j) (router f t) time) (buffer_in a) (buffer_came op.Take a light) h (λ b is. made_on_light (slot_at t.ports.conns seat) j f t seat time b is h)

pub router_light : (r : Router) (time : ℕ) (a : AnswerShown) → IsLightRouter r → IsLightAnswer (asks_of r time) a → IsLightRouter (told_of (asked_of r time) time a)
router_light r time a h light =
    let s = turn.timed r.state time in
    record { facts = h.facts; state = told_light (turn.plan_of r.facts s time) r.facts s time a h.facts (timed_state r.state time h.state) light }
