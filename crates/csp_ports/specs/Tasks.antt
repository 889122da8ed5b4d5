-- what the reliable connections of a node owe, and in which order they come to it
use Rattle.std.specs.Prelude.{ℕ, ◌+◌, ◌-◌, ◌*◌, ◌==◌, ◌&&◌, nat_lt, Bool, true, false, cond, Option, None, Some, List, ◌++◌, find, is_some}
use Rattle.std.specs.List.{range_with_len}
use Rattle.std.specs.Option.{option_map}
use Rattle.csp_buffer.specs.Content.{Content}
use Rattle.csp_base.specs.declared.seat.Seat.{Seat}
use Rattle.csp_conn.specs.PlainConns.{place_of, seat_of}
use Rattle.csp_base.specs.declared.limits.TheConstants.{SLOTS}
use Rattle.csp_ports.specs.Came.{Came, then}
use Rattle.csp_ports.specs.PlainPorts.{PlainPorts, anywhere, machine_at, terms_at, with_machine, with_terms}
use Rattle.csp_ports.specs.Steps.{dropped, went}
use Rattle.csp_ports.specs.declared.task.Task.{Task}
use Rattle.csp_ports.specs.declared.task.Task.TheVariants as task
use Rattle.csp_rdp.specs.Jobs.{delivering, filled, job_of, keeping_again, sent, without_delivery}
use Rattle.csp_rdp.specs.declared.answers.Cause.TheVariants as machine_why
use Rattle.csp_rdp.specs.declared.jobs.Job.{Job}
use Rattle.csp_rdp.specs.declared.jobs.Job.TheVariants as job

-- ---- which task is first

-- the first task of a slot: a reset and the opening packet come before the Down note, all others after it
abbrev pub task_by : (is_down : Bool) → Option Job → Option Task
task_by is_down (Some job.Rst) = Some (task.Make job.Rst)
task_by is_down (Some job.Syn) = Some (task.Make job.Syn)
task_by true _ = Some task.Tell
task_by false (Some job.Deliver) = Some task.Deliver
task_by false (Some job.Eak) = Some (task.Make job.Eak)
task_by false (Some job.Data) = Some (task.Make job.Data)
task_by false (Some job.Ack) = Some (task.Make job.Ack)
task_by false None = None

-- the first task of a slot
abbrev pub task_at : (time : ℕ) → PlainPorts → Seat → Option Task
task_at time p seat = task_by (terms_at p seat).is_down (job_of time (machine_at p seat))

-- that of the slot at a place
abbrev pub task_of : ℕ → PlainPorts → ℕ → Option Task
task_of time p k = task_at time p (seat_of k)

-- whether that slot is there and has one
abbrev pub has_task : ℕ → PlainPorts → ℕ → Bool
has_task time p k = nat_lt k (p.conns.apps * SLOTS) && is_some (task_of time p k)

-- the places of the slots once round in a circle, from the one with which the look begins
abbrev pub circle : PlainPorts → List ℕ
circle p = range_with_len p.next (p.conns.apps * SLOTS - p.next) ++ range_with_len 0 p.next

-- the place of the first slot with a task
abbrev pub place_with_task : ℕ → PlainPorts → Option ℕ
place_with_task time p = find (has_task time p) (circle p)

-- that seat, and its task
abbrev pub task_with : ℕ → PlainPorts → Option ℕ → Option (Seat × Task)
task_with time p None = None
task_with time p (Some k) = option_map (λ t. (seat_of k, t)) (task_of time p k)

-- the first seat with a task in the circle, and its task
abbrev pub next_task : ℕ → PlainPorts → Option (Seat × Task)
next_task time p = task_with time p (place_with_task time p)

-- ---- what comes of a task

-- the next look begins past a slot
abbrev pub past : ℕ → PlainPorts → ℕ
past k p = cond (k + 1 == p.conns.apps * SLOTS) 0 (k + 1)

-- a slot comes to its task
abbrev pub turned : Seat → PlainPorts → PlainPorts
turned seat p = record p { next = past (place_of seat) p }

-- the Down note is pushed
abbrev pub told_down : Seat → PlainPorts → PlainPorts
told_down seat p = with_terms p seat (record (terms_at p seat) { is_down = false })

-- the packet that is to be delivered is taken out
abbrev pub without_packet : Seat → PlainPorts → PlainPorts
without_packet seat p = with_machine p seat (without_delivery (machine_at p seat))

-- what comes of it that a slot's packet was delivered
abbrev pub delivered : (time : ℕ) → Seat → PlainPorts → Came
delivered time seat p =
    let r = machine_at p seat in
    then (went r.state machine_why.Reset seat (delivering time r) p) (dropped seat)

-- a slot's packet, whose lane had no room, is kept again
abbrev pub kept_again : Seat → Content → PlainPorts → PlainPorts
kept_again seat b p = with_machine p seat (keeping_again (anywhere b) (machine_at p seat))

-- the packet that a slot's machine makes in a buffer
abbrev pub made_in : Job → (time : ℕ) → Seat → Content → PlainPorts → Content
made_in j time seat b p = (filled j time (machine_at p seat) (anywhere b)).picture

-- the ports once a slot's machine has made what it owed
abbrev pub making : Job → (time : ℕ) → Seat → PlainPorts → PlainPorts
making j time seat p = with_machine p seat (sent j time (machine_at p seat))
