-- the turns of a router: what one is, what is asked in it, and what the answer comes to
use Rattle.std.specs.Prelude.{ℕ, ◌+◌, cond, List, [], ◌∷◌, ◌++◌, drop, length, Option, None, Some}
use Rattle.csp_buffer.specs.Content.{Content}
use Rattle.csp_base.specs.declared.seat.Seat.{Seat}
use Rattle.csp_log.specs.declared.event.Discard.TheVariants as why
use Rattle.csp_log.specs.declared.places.QueueId.{QueueId}
use Rattle.csp_log.specs.declared.places.QueueId.TheVariants as queue
use Rattle.csp_log.specs.declared.shown.AnswerShown.{AnswerShown}
use Rattle.csp_log.specs.declared.shown.ItemShown.{ItemShown}
use Rattle.csp_log.specs.declared.shown.ItemShown.TheVariants as item
use Rattle.csp_log.specs.declared.shown.OpShown.{OpShown}
use Rattle.csp_log.specs.declared.shown.OpShown.TheVariants as op
use Rattle.csp_stack.specs.Counting.{came_in, was_full, went_out}
use Rattle.csp_log.specs.declared.note.Note.TheVariants as note
use Rattle.csp_ports.specs.Asking.{answered}
use Rattle.csp_ports.specs.Came.{Came}
use Rattle.csp_ports.specs.PlainPorts.{machine_at}
use Rattle.csp_ports.specs.Steps.{timed as ports_timed}
use Rattle.csp_ports.specs.Tasks.{delivered, kept_again, next_task, told_down, turned, without_packet}
use Rattle.csp_ports.specs.declared.owed.Owed.{Owed}
use Rattle.csp_ports.specs.declared.task.Task.{Task}
use Rattle.csp_ports.specs.declared.task.Task.TheVariants as task
use Rattle.csp_buffer.specs.PlainBuffer.{PlainBuffer}
use Rattle.csp_conn.specs.PlainConns.{slot_at}
use Rattle.csp_rdp.specs.Jobs.{delivery}
use Rattle.csp_stack.specs.Readings.{buffer_in, is_pushed, item_in}
use Rattle.csp_stack.specs.Router.{Facts, Leaving, State, at_rest, router}
use Rattle.csp_stack.specs.Rules.{Arrival, packet_in, heard, made_on, served}
use Rattle.csp_stack.specs.Sources.{source_at, place_with_work, place_past}
use Rattle.csp_stack.specs.Told.{Told, after_all, discarded, unchanged, kept, ported, with_ports}
use Rattle.csp_stack.specs.declared.plan.Plan.{Plan}
use Rattle.csp_stack.specs.declared.plan.Plan.TheVariants as plan
use Rattle.csp_stack.specs.declared.sources.Source.{Source}
use Rattle.csp_stack.specs.declared.sources.Source.TheVariants as source

-- ---- which turn it is

-- the task of a connection
abbrev pub plan_for : Seat → Task → Plan
plan_for seat task.Tell = plan.Tell seat
plan_for seat task.Deliver = plan.Deliver seat
plan_for seat (task.Make j) = plan.Make seat j

-- the jobs: the answer that came to be owed first is pushed; where none is owed the next connection with a task comes to it
abbrev pub job_due : List Owed → Option (Seat × Task) → Plan
job_due (o ∷ _) t = plan.Reply o.app
job_due [] (Some t) = plan_for t.0 t.1
job_due [] None = plan.Rest

-- the work at a source
abbrev pub work_at : State → ℕ → Source → Plan
work_at s time source.Inbox = plan.Hear
work_at s time (source.App k) = plan.Serve k
work_at s time source.Jobs = job_due s.ports.owed (next_task time s.ports)

-- the work at the place that was found, if one was
abbrev pub work_found : Facts → State → ℕ → Option ℕ → Plan
work_found f s time None = plan.Rest
work_found f s time (Some k) = work_at s time (source_at f k)

-- the first of these that fits: there is trash; a packet is to go out; else the first source with work
abbrev pub first_rule : List Content → Option Leaving → Plan → Plan
first_rule (_ ∷ _) out work = plan.Give
first_rule [] (Some o) work = plan.Push o.queue (length o.buffer.payload)
first_rule [] None work = work

-- what the next turn is: trash, then what is to go out, then the first work of the circle
abbrev pub plan_of : Facts → State → ℕ → Plan
plan_of f s time = first_rule s.trash s.out (work_found f s time (place_with_work f s time))

-- the timers, which are tried at the start of each turn, before its plan is made: what they let go joins the trash, and what they
-- report is reported at the turn's end
abbrev pub timed_to : State → Came → State
timed_to s c = record s { ports = c.ports; trash = s.trash ++ c.loose; early = c.events }

-- the state once all timers were tried
abbrev pub timed : State → ℕ → State
timed s time = timed_to s (ports_timed time s.ports)

-- ---- the words of the table

-- the giving of the first buffer, and the push of a packet
abbrev pub giving : List Content → OpShown
giving [] = op.Nothing
giving (b ∷ _) = op.Give b

-- the push of what is to go out
abbrev pub pushing : Option Leaving → OpShown
pushing None = op.Nothing
pushing (Some o) = op.Push o.queue (item.Packet o.mark o.buffer)

-- the push of an answer
abbrev pub replying : List Owed → OpShown
replying [] = op.Nothing
replying (o ∷ _) = op.Push (queue.Down o.app) (item.Note o.note)

-- the push of a packet that a connection delivers
abbrev pub delivering : Option PlainBuffer → Seat → OpShown
delivering None seat = op.Nothing
delivering (Some b) seat = op.Push (queue.Down seat.app) (item.Packet seat.slot b.picture)

-- the cursor past the jobs, and a slot that comes to its task
abbrev pub at_jobs : Facts → State → State
at_jobs f s = record s { cursor = place_past f (f.apps + 1) }

-- the state once the circle has come past a slot with a task
abbrev pub at_task : Facts → State → Seat → State
at_task f s seat = with_ports (at_jobs f s) (turned seat s.ports)

-- and once the packet that it delivers was taken out
abbrev pub at_delivery : Facts → State → Seat → State
at_delivery f s seat = with_ports (at_jobs f s) (without_packet seat (turned seat s.ports))

-- what an answer brings comes to this; one that brings nothing leaves the state as it was
abbrev pub brought : {X : Type 0} → State → (X → Told) → Option X → Told
brought s comes None = unchanged s
brought s comes (Some x) = comes x

-- a packet that comes back from a full queue is discarded (a note has no buffer: what was to be told stays owed)
abbrev pub no_room : State → Option Arrival → Told
no_room s back = brought s (λ p. discarded s why.Full p.buffer) back

-- a packet that comes back from a full lane is kept by its connection again
abbrev pub kept_back : State → Seat → Option Arrival → Told
kept_back s seat back = brought s (λ p. unchanged (with_ports s (kept_again seat p.buffer s.ports))) back

-- ---- the five forms of a turn

-- what a turn asks, the state until its answer, and what each answer comes to
pub record Turn : Type 0 where
  pub asks : OpShown
  pub until : State
  pub told : AnswerShown → Told

-- it asks nothing
abbrev pub rests : State → Turn
rests s = record { asks = op.Nothing; until = s; told = λ a. unchanged s }

-- it gives a buffer to the pool, which may come back
abbrev pub gives : List Content → (until : State) → (back : Option Content → Told) → Turn
gives bs until back = record { asks = giving bs; until = until; told = λ a. back (buffer_in a) }

-- it takes a buffer from the pool, which may have none
abbrev pub takes : (until : State) → (taken : Option Content → Told) → Turn
takes until taken = record { asks = op.Take; until = until; told = λ a. taken (buffer_in a) }

-- it pushes: that is done, or what was pushed comes back, which may be a packet
abbrev pub pushes : OpShown → (until : State) → (pushed : Told) → (back : Option Arrival → Told) → Turn
pushes o until pushed back = record { asks = o; until = until; told = λ a. cond (is_pushed a) pushed (back (packet_in (item_in a))) }

-- it pops a queue, which may be empty
abbrev pub pops : QueueId → (until : State) → (popped : Option ItemShown → Told) → Turn
pops q until popped = record { asks = op.Pop q; until = until; told = λ a. popped (item_in a) }

-- ---- the table

-- what each turn asks, the state until its answer, and what each answer comes to
abbrev pub turn_of : Facts → State → ℕ → Plan → Turn
-- there is no work
turn_of f s time plan.Rest = rests s
-- the first of the trash is given; where the pool has no room it is the first again
turn_of f s time plan.Give = gives s.trash (record s { trash = drop 1 s.trash }) (brought s (kept s))
-- what is to go out is pushed, and counted; where its queue has no room, that is counted, and it is discarded
turn_of f s time (plan.Push queue bytes) = pushes (pushing s.out) (record s { out = None }) (unchanged (went_out s queue bytes)) (no_room (was_full s queue))
-- a packet of the inbox is counted, and goes by the rules
turn_of f s time plan.Hear = pops queue.Inbox (record s { cursor = place_past f 0 }) (λ i. brought s (λ p. heard f (came_in s p.mark p.buffer) time p) (packet_in i))
-- an item of an application is sent, or answered
turn_of f s time (plan.Serve k) = pops (queue.Up k) (record s { cursor = place_past f (k + 1) }) (brought s (served f s time k))
-- an answer to an application is pushed; where its lane has no room it stays owed
turn_of f s time (plan.Reply _) = pushes (replying s.ports.owed) (at_jobs f s) (ported s (answered s.ports)) (no_room s)
-- a Down note is pushed; where its lane has no room it stays owed
turn_of f s time (plan.Tell seat) = pushes (op.Push (queue.Down seat.app) (item.Note (note.Down seat.slot))) (at_task f s seat) (unchanged (with_ports s (told_down seat s.ports))) (no_room s)
-- a packet is delivered; where its lane has no room the connection keeps it again
turn_of f s time (plan.Deliver seat) = pushes (delivering (delivery (machine_at s.ports seat)) seat) (at_delivery f s seat) (ported s (delivered time seat s.ports)) (kept_back s seat)
-- a buffer is taken for a packet that a connection owes; without one the packet stays owed
turn_of f s time (plan.Make seat j) = takes (at_task f s seat) (brought s (made_on (slot_at s.ports.conns seat) (seat, j) (router f s) time))

-- ---- a whole turn

-- the state from the question of a plan to its answer
abbrev pub until_answer : Facts → State → ℕ → Plan → State
until_answer f s time p = record (turn_of f s time p).until { doing = p }

-- what a turn asks
abbrev pub asks_at : Facts → State → ℕ → OpShown
asks_at f s time = (turn_of f (timed s time) time (plan_of f (timed s time) time)).asks

-- the state from its question until the answer
abbrev pub asked_at : Facts → State → ℕ → State
asked_at f s time = until_answer f (timed s time) time (plan_of f (timed s time) time)

-- a turn's end: nothing is awaited any more, and what the timers reported comes first
abbrev pub told_at : Facts → State → ℕ → AnswerShown → Told
told_at f s time a = after_all s.early ((turn_of f (at_rest s) time s.doing).told a)
