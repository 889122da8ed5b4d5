-- A router to which its applications send what an `Up` carries keeps the numbers of its buffers in each turn.
use Rattle.std.proofs.Common.{◌≡◌, ◌≢◌, ℕ, ◌+◌, ◌-◌, ◌<◌, ◌≤◌, ◌==◌, Bool, true, false, cond, nat_le, Option, None, Some, List, [], ◌∷◌, drop, length, refl, ap, arith}
use Rattle.std.specs.Prelude.{is_some}
use Rattle.std.proofs.lemmas.Bool.{eqb-false, leb-true}
use Rattle.csp_base.specs.declared.seat.Seat.{Seat}
use Rattle.csp_buffer.specs.Content.{Content}
use Rattle.csp_buffer.specs.PlainBuffer.{PlainBuffer}
use Rattle.csp_conn.specs.PlainConns.{place_of, slot_at}
use Rattle.csp_base.specs.declared.limits.TheConstants.{MAX_APPS}
use Rattle.csp_conn.specs.declared.slot.Slot.{Slot}
use Rattle.csp_conn.specs.declared.slot.Slot.TheVariants as has
use Rattle.csp_deck.specs.Keeping.{numbers_of}
use Rattle.csp_deck.specs.Step.{answer_numbers, item_numbers, op_numbers, times}
use Rattle.csp_log.specs.Pictures.{Fits}
use Rattle.csp_log.specs.declared.event.Discard.TheVariants as why
use Rattle.csp_log.specs.declared.places.QueueId.{QueueId}
use Rattle.csp_log.specs.declared.places.QueueId.TheVariants as queue
use Rattle.csp_log.specs.declared.shown.AnswerShown.{AnswerShown}
use Rattle.csp_log.specs.declared.shown.AnswerShown.TheVariants as answer
use Rattle.csp_log.specs.declared.shown.ItemShown.{ItemShown}
use Rattle.csp_log.specs.declared.shown.ItemShown.TheVariants as item
use Rattle.csp_log.specs.declared.shown.OpShown.TheVariants as op
use Rattle.csp_ports.proofs.Public.{flows_timed, flows_answered, flows_delivered, held_terms, keeps_again, keeps_made, now_taken}
use Rattle.csp_ports.specs.Asking.{answered}
use Rattle.csp_ports.specs.Keeps.{AreWhole}
use Rattle.csp_ports.specs.PlainPorts.{PlainPorts, machine_at, stalls_of, terms_at}
use Rattle.csp_ports.specs.Steps.{timed as ports_timed}
use Rattle.csp_ports.specs.Tasks.{delivered, kept_again, made_in, making, next_task, told_down, turned, without_packet}
use Rattle.csp_ports.specs.declared.owed.Owed.{Owed}
use Rattle.csp_ports.specs.declared.task.Task.{Task}
use Rattle.csp_ports.specs.declared.task.Task.TheVariants as task
use Rattle.csp_ports.specs.declared.terms.Terms.{Terms}
use Rattle.csp_prefix.proofs.Public.{IsTask, deliver_job, found_passes, serves_free, task_there}
use Rattle.csp_prefix.specs.Routers.{ComesSo}
use Rattle.csp_rdp.specs.Jobs.{delivery}
use Rattle.csp_rdp.specs.declared.answers.State.TheVariants as state
use Rattle.csp_rdp.specs.declared.jobs.Job.{Job}
use Rattle.csp_rdp_window.specs.Receiving.{is_kept}
use Rattle.csp_stack.proofs.Public.{addressed_number, holds_apart, times_both}
use Rattle.csp_stack.specs.Counting.{came_in, was_full, went_out}
use Rattle.csp_stack.specs.Party.{asked_of, asks_of, told_of}
use Rattle.csp_stack.specs.Router.{Facts, Leaving, Router, State, at_rest, holds, out_buffers, router}
use Rattle.csp_stack.specs.Rules.{addressed, made_on, packet_in}
use Rattle.csp_stack.specs.Sources.{circle, has_work, place_with_work, source_at}
use Rattle.csp_stack.specs.Told.{kept, ported, unchanged, with_ports}
use Rattle.csp_stack.specs.Turn.{until_answer, brought, delivering, giving, job_due, kept_back, no_room, first_rule, plan_for, pushing, replying, timed, turn_of, work_at, work_found}
use Rattle.csp_stack.specs.Readings.{buffer_in, is_pushed, item_in}
use Rattle.csp_stack.specs.declared.plan.Plan.{Plan}
use Rattle.csp_stack.specs.declared.plan.Plan.TheVariants as plan
use Rattle.csp_stack.specs.declared.sources.Source.TheVariants as source
use Rattle.csp_conserved.proofs.RouterPorts.{again_whole, delivers_open, flows_taken, made_whole, terms_whole, turned_whole}
use Rattle.csp_conserved.proofs.RouterRules.{Adds, adds_absorbed, adds_discarded, adds_kept, adds_none, adds_ported, heard_adds, sent_adds, served_adds}
use Rattle.csp_conserved.proofs.Running.{Turns}

-- a router in the second state holds what it held in the first and what came, less what went
abbrev Moves : State → State → List ℕ → List ℕ → Type 0
Moves s t gone came = ((k : ℕ) → times k (holds t) + times k gone ≡ times k (holds s) + times k came) × AreWhole t.ports

-- first it hands over, then it is told
moves_by : (s h t : State) (gone came : List ℕ) → ((k : ℕ) → times k (holds h) + times k gone ≡ times k (holds s)) → Adds h t came → Moves s t gone came
moves_by s h t gone came first told = (λ k. omega (arith, first k, told.0 k), told.1)

-- what a full queue hands back joins the trash
back_adds : (i : ItemShown) (h : State) → AreWhole h.ports → Adds h (no_room h (packet_in (Some i))).state (item_numbers i)
back_adds (item.Packet mark b) h w = adds_discarded h why.Full b w
back_adds (item.Frame frame) h w = adds_none h w
back_adds (item.Note n) h w = adds_none h w

module _ (f : Facts) (few : f.apps ≤ MAX_APPS) where
  abbrev after_told : State → ℕ → Plan → AnswerShown → State
  after_told s time p a = ((turn_of f (at_rest (until_answer f s time p)) time p).told a).state

  -- a turn of this plan keeps the numbers
  abbrev TurnsBy : State → ℕ → Plan → AnswerShown → Type 0
  TurnsBy s time p a = Fits (turn_of f s time p).asks a → ComesSo (turn_of f s time p).asks a → Moves s (after_told s time p a) (op_numbers (turn_of f s time p).asks) (answer_numbers a)

  -- ---- no work, and the trash
  turn_rest : (s : State) (time : ℕ) (a : AnswerShown) → AreWhole s.ports → TurnsBy s time plan.Rest a
  turn_rest s time answer.Nothing w fits comes = (λ k. omega arith, w)
  turn_rest s time a w fits comes = absurd fits

  giving_first : (trash : List Content) (s : State) (time : ℕ) → s.trash ≡ trash → (k : ℕ) → times k (holds (at_rest (until_answer f s time plan.Give))) + times k (op_numbers (giving trash)) ≡ times k (holds s)
  giving_first [] s time e k = omega (arith, holds_apart k s.trash s.out s.ports, holds_apart k (drop 1 s.trash) s.out s.ports, ap (λ t. times k (numbers_of t)) e, ap (λ (t : List Content). times k (numbers_of (drop 1 t))) e)
  giving_first (b ∷ bs) s time e k =
      omega (arith, holds_apart k s.trash s.out s.ports, holds_apart k (drop 1 s.trash) s.out s.ports, ap (λ t. times k (numbers_of t)) e, ap (λ (t : List Content). times k (numbers_of (drop 1 t))) e, times_both k (b ∷ []) bs)

  giving_told : (trash : List Content) (h : State) (a : AnswerShown) → AreWhole h.ports → Fits (giving trash) a → Adds h (brought h (kept h) (buffer_in a)).state (answer_numbers a)
  giving_told [] h answer.Nothing w fits = adds_none h w
  giving_told [] h a w fits = absurd fits
  giving_told (b ∷ bs) h answer.Given w fits = adds_none h w
  giving_told (b ∷ bs) h (answer.PoolFull c) w fits = adds_kept h c w
  giving_told (b ∷ bs) h a w fits = absurd fits

  turn_give : (s : State) (time : ℕ) (a : AnswerShown) → AreWhole s.ports → TurnsBy s time plan.Give a
  turn_give s time a w fits comes =
      let h : State = at_rest (until_answer f s time plan.Give) in
      moves_by s h (after_told s time plan.Give a) (op_numbers (giving s.trash)) (answer_numbers a) (giving_first s.trash s time refl) (giving_told s.trash h a w fits)

  -- ---- a packet that is to go out
  pushing_first : (o : Option Leaving) (q : QueueId) (bytes : ℕ) (s : State) (time : ℕ) → s.out ≡ o → (k : ℕ) → times k (holds (at_rest (until_answer f s time (plan.Push q bytes)))) + times k (op_numbers (pushing o)) ≡ times k (holds s)
  pushing_first None q bytes s time e k = omega (arith, holds_apart k s.trash s.out s.ports, holds_apart k s.trash None s.ports, ap (λ x. times k (numbers_of (out_buffers x))) e)
  pushing_first (Some o) q bytes s time e k = omega (arith, holds_apart k s.trash s.out s.ports, holds_apart k s.trash None s.ports, ap (λ x. times k (numbers_of (out_buffers x))) e)

  pushing_told : (o : Option Leaving) (q : QueueId) (bytes : ℕ) (h : State) (a : AnswerShown) → AreWhole h.ports → Fits (pushing o) a → Adds h (cond (is_pushed a) (unchanged (went_out h q bytes)) (no_room (was_full h q) (packet_in (item_in a)))).state (answer_numbers a)
  pushing_told None q bytes h answer.Nothing w fits = adds_none (was_full h q) w
  pushing_told None q bytes h a w fits = absurd fits
  pushing_told (Some o) q bytes h answer.Pushed w fits = adds_none (went_out h q bytes) w
  pushing_told (Some o) q bytes h (answer.Full i) w fits = back_adds i (was_full h q) w
  pushing_told (Some o) q bytes h a w fits = absurd fits

  turn_push : (q : QueueId) (bytes : ℕ) (s : State) (time : ℕ) (a : AnswerShown) → AreWhole s.ports → TurnsBy s time (plan.Push q bytes) a
  turn_push q bytes s time a w fits comes =
      let h : State = at_rest (until_answer f s time (plan.Push q bytes)) in
      moves_by s h (after_told s time (plan.Push q bytes) a) (op_numbers (pushing s.out)) (answer_numbers a) (pushing_first s.out q bytes s time refl) (pushing_told s.out q bytes h a w fits)

  -- ---- a packet of the inbox, and an item of an application
  turn_hear : (s : State) (time : ℕ) (a : AnswerShown) → s.out ≡ None → AreWhole s.ports → TurnsBy s time plan.Hear a
  turn_hear s time (answer.Popped (item.Packet mark b)) empty w fits comes =
      let h : State = came_in (at_rest (until_answer f s time plan.Hear)) mark b in
      moves_by s h (after_told s time plan.Hear (answer.Popped (item.Packet mark b))) [] (b.number ∷ []) (λ k. omega arith) (heard_adds f h empty w time mark b)
  turn_hear s time (answer.Popped (item.Frame frame)) empty w fits comes = (λ k. omega arith, w)
  turn_hear s time (answer.Popped (item.Note n)) empty w fits comes = (λ k. omega arith, w)
  turn_hear s time answer.Empty empty w fits comes = (λ k. omega arith, w)
  turn_hear s time a empty w fits comes = absurd fits

  turn_serve : (app : ℕ) (s : State) (time : ℕ) (a : AnswerShown) → app < f.apps → stalls_of app s.ports.slots ≡ 0 → s.out ≡ None → AreWhole s.ports → TurnsBy s time (plan.Serve app) a
  turn_serve app s time (answer.Popped i) low free empty w fits comes =
      let h : State = at_rest (until_answer f s time (plan.Serve app)) in
      moves_by s h (after_told s time (plan.Serve app) (answer.Popped i)) [] (item_numbers i) (λ k. omega arith) (served_adds i f h app time (omega (arith, low, few)) comes.0 free empty w)
  turn_serve app s time answer.Empty low free empty w fits comes = (λ k. omega arith, w)
  turn_serve app s time a low free empty w fits comes = absurd fits

  -- ---- an answer that is owed
  replying_none : (owed : List Owed) → op_numbers (replying owed) ≡ []
  replying_none [] = refl
  replying_none (o ∷ os) = refl

  replying_told : (owed : List Owed) (h : State) (a : AnswerShown) → AreWhole h.ports → Fits (replying owed) a → Adds h (cond (is_pushed a) (ported h (answered h.ports)) (no_room h (packet_in (item_in a)))).state (answer_numbers a)
  replying_told [] h answer.Nothing w fits = adds_none h w
  replying_told [] h a w fits = absurd fits
  replying_told (o ∷ os) h answer.Pushed w fits = adds_ported 1 h (answered h.ports) [] (flows_answered h.ports w)
  replying_told (o ∷ os) h (answer.Full i) w fits = back_adds i h w
  replying_told (o ∷ os) h a w fits = absurd fits

  turn_reply : (app : ℕ) (s : State) (time : ℕ) (a : AnswerShown) → AreWhole s.ports → TurnsBy s time (plan.Reply app) a
  turn_reply app s time a w fits comes =
      let h : State = at_rest (until_answer f s time (plan.Reply app)) in
      moves_by s h (after_told s time (plan.Reply app) a) (op_numbers (replying s.ports.owed)) (answer_numbers a) (λ k. omega (arith, ap (times k) (replying_none s.ports.owed))) (replying_told s.ports.owed h a w fits)

  -- ---- a Down note
  turn_tell : (seat : Seat) (s : State) (time : ℕ) (a : AnswerShown) → AreWhole s.ports → TurnsBy s time (plan.Tell seat) a
  turn_tell seat s time answer.Pushed w fits comes =
      let q : PlainPorts = turned seat s.ports in
      let terms : Terms = record (terms_at q seat) { is_down = false } in (
        λ k. omega (arith, holds_apart k s.trash s.out s.ports, holds_apart k s.trash s.out (told_down seat q), ap (λ (bs : List Content). times k (numbers_of bs)) (held_terms q seat terms)),
        terms_whole q seat terms (turned_whole s.ports seat w),
      )
  turn_tell seat s time (answer.Full i) w fits comes =
      let h : State = at_rest (until_answer f s time (plan.Tell seat)) in
      moves_by s h (after_told s time (plan.Tell seat) (answer.Full i)) [] (item_numbers i) (λ k. omega arith) (back_adds i h (turned_whole s.ports seat w))
  turn_tell seat s time a w fits comes = absurd fits

  -- ---- a packet that is delivered
  taken_first : (seat : Seat) (b : PlainBuffer) (s : State) (time : ℕ) → place_of seat < 16 → delivery (machine_at s.ports seat) ≡ Some b → AreWhole s.ports
      → (k : ℕ) → times k (holds (at_rest (until_answer f s time (plan.Deliver seat)))) + times k (b.picture.number ∷ []) ≡ times k (holds s)
  taken_first seat b s time there e w k =
      let q : PlainPorts = turned seat s.ports in
      let flows = flows_taken q seat b there (turned_whole s.ports seat w) e in
      omega (arith, holds_apart k s.trash s.out s.ports, holds_apart k s.trash s.out (without_packet seat q), flows.counts (Some k))

  again_adds : (s : Seat) (b : Content) (h : State) → place_of s < 16 → (machine_at h.ports s).state ≡ state.Open → is_kept (machine_at h.ports s).recv ((machine_at h.ports s).recv.cur + 1) ≡ false → AreWhole h.ports
      → Adds h (with_ports h (kept_again s b h.ports)) (b.number ∷ [])
  again_adds s b h there opened none w =
      let keeps = keeps_again h.ports s b there w opened none in (
        λ k. omega (arith, holds_apart k h.trash h.out h.ports, holds_apart k h.trash h.out (kept_again s b h.ports), keeps.numbers k),
        again_whole h.ports s b w opened none,
      )

  -- the packet that came back is the one that was to be delivered
  keeping_adds : (s : Seat) (i : ItemShown) (b : Content) (h : State) → i ≡ item.Packet s.slot b → place_of s < 16 → (machine_at h.ports s).state ≡ state.Open → is_kept (machine_at h.ports s).recv ((machine_at h.ports s).recv.cur + 1) ≡ false → AreWhole h.ports
      → Adds h (kept_back h s (packet_in (Some i))).state (item_numbers i)
  keeping_adds s (item.Packet mark c) b h e there opened none w = again_adds s c h there opened none w
  keeping_adds s (item.Frame frame) b h e there opened none w = absurd cc
  keeping_adds s (item.Note n) b h e there opened none w = absurd cc

  delivering_told : (s : Seat) (time : ℕ) (b : Content) (h : State) (a : AnswerShown) → place_of s < 16 → (machine_at h.ports s).state ≡ state.Open → is_kept (machine_at h.ports s).recv ((machine_at h.ports s).recv.cur + 1) ≡ false → AreWhole h.ports
      → Fits (op.Push (queue.Down s.app) (item.Packet s.slot b)) a → Adds h (cond (is_pushed a) (ported h (delivered time s h.ports)) (kept_back h s (packet_in (item_in a)))).state (answer_numbers a)
  delivering_told s time b h answer.Pushed there opened none w fits = adds_ported 1 h (delivered time s h.ports) [] (flows_delivered h.ports time s there w opened none)
  delivering_told s time b h (answer.Full i) there opened none w fits = keeping_adds s i b h fits there opened none w
  delivering_told s time b h a there opened none w fits = absurd fits

  turn_deliver : (o : Option PlainBuffer) (seat : Seat) (s : State) (time : ℕ) (a : AnswerShown) → seat.app < 4 → seat.slot < 4 → delivery (machine_at s.ports seat) ≡ o → is_some o ≡ true → AreWhole s.ports
      → Fits (delivering o seat) a → Moves s (after_told s time (plan.Deliver seat) a) (op_numbers (delivering o seat)) (answer_numbers a)
  turn_deliver None seat s time a low least e some w fits = absurd cc
  turn_deliver (Some b) seat s time a low least e some w fits =
      let there : place_of seat < 16 = omega (arith, low, least) in
      let q : PlainPorts = turned seat s.ports in
      let whole = turned_whole s.ports seat w in
      let opened : (machine_at q seat).state ≡ state.Open = delivers_open (machine_at s.ports seat) b e in
      let taken = now_taken q seat there whole opened in
      let flows = flows_taken q seat b there whole e in
      let h : State = at_rest (until_answer f s time (plan.Deliver seat)) in
      moves_by s h (after_told s time (plan.Deliver seat) a) (b.picture.number ∷ []) (answer_numbers a) (taken_first seat b s time there e w)
      (delivering_told seat time b.picture h a there taken.0 taken.1 flows.whole fits)

  -- ---- a packet that is made
  made_adds : (o : Slot) (s : Seat) (j : Job) (time : ℕ) (b : Content) (h : State) → place_of s < 16 → h.out ≡ None → AreWhole h.ports → Adds h (made_on o (s, j) (router f h) time b).state (b.number ∷ [])
  made_adds has.Free s j time b h there empty w = adds_absorbed h b w
  made_adds has.Held s j time b h there empty w = adds_absorbed h b w
  made_adds (has.Open c) s j time b h there empty w =
      let q : PlainPorts = making j time s h.ports in
      let x : Content = addressed f c (terms_at h.ports s) (made_in j time s b h.ports) in
      let keeps = keeps_made j h.ports time s there w in
      let goes = sent_adds f (with_ports h q) x b.number (addressed_number f c (terms_at h.ports s) (made_in j time s b h.ports)) empty (made_whole j h.ports time s w) in
      (λ k. omega (arith, holds_apart k h.trash h.out h.ports, holds_apart k h.trash h.out q, keeps.numbers k, goes.0 k), goes.1)

  turn_make : (seat : Seat) (j : Job) (s : State) (time : ℕ) (a : AnswerShown) → seat.app < 4 → seat.slot < 4 → s.out ≡ None → AreWhole s.ports → TurnsBy s time (plan.Make seat j) a
  turn_make seat j s time (answer.Taken b) low least empty w fits comes =
      let h : State = at_rest (until_answer f s time (plan.Make seat j)) in
      moves_by s h (after_told s time (plan.Make seat j) (answer.Taken b)) [] (b.number ∷ []) (λ k. omega arith)
      (made_adds (slot_at h.ports.conns seat) seat j time b h (omega (arith, low, least)) empty (turned_whole s.ports seat w))
  turn_make seat j s time answer.NoBuffer low least empty w fits comes = (λ k. omega arith, turned_whole s.ports seat w)
  turn_make seat j s time a low least empty w fits comes = absurd fits

  -- ---- the jobs, by which is owed
  turn_task : (x : Task) (seat : Seat) (s : State) (time : ℕ) (a : AnswerShown) → IsTask time s.ports (seat, x) → s.out ≡ None → AreWhole s.ports → TurnsBy s time (plan_for seat x) a
  turn_task task.Tell seat s time a is empty w = turn_tell seat s time a w
  turn_task task.Deliver seat s time a is empty w = λ fits comes.
      turn_deliver (delivery (machine_at s.ports seat)) seat s time a (omega (arith, is.app_there, w.few)) is.slot_there refl (deliver_job time s.ports seat is.is_task) w fits
  turn_task (task.Make j) seat s time a is empty w = turn_make seat j s time a (omega (arith, is.app_there, w.few)) is.slot_there empty w

  turn_jobs : (owed : List Owed) (o : Option (Seat × Task)) (s : State) (time : ℕ) (a : AnswerShown) → next_task time s.ports ≡ o → s.out ≡ None → AreWhole s.ports → TurnsBy s time (job_due owed o) a
  turn_jobs (x ∷ xs) o s time a e empty w = turn_reply x.app s time a w
  turn_jobs [] (Some t) s time a e empty w = turn_task t.1 t.0 s time a (task_there time s.ports t e) empty w
  turn_jobs [] None s time a e empty w = turn_rest s time a w

  -- ---- the work that was found
  turn_source : (first within : Bool) (place : ℕ) (s : State) (time : ℕ) (a : AnswerShown) → (place == 0) ≡ first → nat_le place f.apps ≡ within → has_work s time (cond first source.Inbox (cond within (source.App (place - 1)) source.Jobs)) ≡ true
      → s.out ≡ None → AreWhole s.ports → TurnsBy s time (work_at s time (cond first source.Inbox (cond within (source.App (place - 1)) source.Jobs))) a
  turn_source true within place s time a e q works empty w = turn_hear s time a empty w
  turn_source false true place s time a e q works empty w =
      let low : place ≤ f.apps = leb-true place f.apps q in
      let more : place ≢ 0 = eqb-false place 0 e in
      turn_serve (place - 1) s time a (omega (arith, low, more)) (serves_free s time (place - 1) works) empty w
  turn_source false false place s time a e q works empty w = turn_jobs s.ports.owed (next_task time s.ports) s time a refl empty w

  turn_place : (o : Option ℕ) (s : State) (time : ℕ) (a : AnswerShown) → place_with_work f s time ≡ o → s.out ≡ None → AreWhole s.ports → TurnsBy s time (work_found f s time o) a
  turn_place None s time a e empty w = turn_rest s time a w
  turn_place (Some place) s time a e empty w =
      turn_source (place == 0) (nat_le place f.apps) place s time a refl refl (found_passes (λ x. has_work s time (source_at f x)) (circle f s.cursor) place e) empty w

  turn_plan : (trash : List Content) (o : Option Leaving) (s : State) (time : ℕ) (a : AnswerShown) → s.out ≡ o → AreWhole s.ports → TurnsBy s time (first_rule trash o (work_found f s time (place_with_work f s time))) a
  turn_plan (b ∷ bs) o s time a e w = turn_give s time a w
  turn_plan [] (Some o) s time a e w = turn_push o.queue (length o.buffer.payload) s time a w
  turn_plan [] None s time a e w = turn_place (place_with_work f s time) s time a refl e w

  -- ---- a whole turn: the timers are tried first
  pub router_moves : (s : State) (time : ℕ) (a : AnswerShown) → AreWhole s.ports → Fits (asks_of (record { facts = f; state = s }) time) a → ComesSo (asks_of (record { facts = f; state = s }) time) a
      → Moves s (told_of (asked_of (record { facts = f; state = s }) time) time a).state (op_numbers (asks_of (record { facts = f; state = s }) time)) (answer_numbers a)
  router_moves s time a w fits comes =
      let t : State = timed s time in
      let flows = flows_timed time s.ports w in
      let tried = adds_ported 0 s (ports_timed time s.ports) [] flows in
      let moved = turn_plan t.trash t.out t time a refl flows.whole fits comes in
      (λ k. omega (arith, tried.0 k, moved.0 k), moved.1)

-- a router of a node with no more applications than there may be, whose ports are whole
pub record IsWholeRouter (r : Router) : Type 0 where
  pub few : r.facts.apps ≤ MAX_APPS
  pub whole : AreWhole r.state.ports

pub router_keeps : (r : Router) (time : ℕ) (a : AnswerShown) → IsWholeRouter r → Fits (asks_of r time) a → ComesSo (asks_of r time) a → Turns IsWholeRouter (λ x. holds x.state) r (told_of (asked_of r time) time a) (asks_of r time) a
router_keeps r time a is fits comes =
    let moved = router_moves r.facts is.few r.state time a is.whole fits comes in
    record { again = record { few = is.few; whole = moved.1 }; numbers = moved.0 }
