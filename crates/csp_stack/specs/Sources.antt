-- the sources of work, and the look for one that has some
use Rattle.std.specs.Prelude.{ℕ, ◌+◌, ◌-◌, ◌==◌, ◌&&◌, Bool, true, false, cond, nat_le, List, [], ◌∷◌, ◌++◌, Option, None, Some, find}
use Rattle.std.specs.List.{range_with_len}
use Rattle.csp_base.specs.declared.seat.Seat.{Seat}
use Rattle.csp_ports.specs.PlainPorts.{stalls_of, waiting}
use Rattle.csp_ports.specs.Tasks.{next_task}
use Rattle.csp_ports.specs.declared.owed.Owed.{Owed}
use Rattle.csp_ports.specs.declared.task.Task.{Task}
use Rattle.csp_stack.specs.Router.{Facts, State}
use Rattle.csp_stack.specs.declared.sources.Source.{Source}
use Rattle.csp_stack.specs.declared.sources.Source.TheVariants as source

-- how many sources there are: the inbox, the applications, the jobs
abbrev pub source_count : Facts → ℕ
source_count f = f.apps + 2

-- the source at a place of that order
abbrev pub source_at : Facts → ℕ → Source
source_at f k = cond (k == 0) source.Inbox (cond (nat_le k f.apps) (source.App (k - 1)) source.Jobs)

-- there are jobs where an answer is owed, or a connection has a task
abbrev pub has_jobs : List Owed → Option (Seat × Task) → Bool
has_jobs (_ ∷ _) task = true
has_jobs [] (Some _) = true
has_jobs [] None = false

-- the inbox always has work; an application has some unless an answer to it waits to be pushed, or a packet of it for room in a window
abbrev pub has_work : State → ℕ → Source → Bool
has_work s time source.Inbox = true
has_work s time (source.App k) = (waiting k s.ports.owed == 0) && (stalls_of k s.ports.slots == 0)
has_work s time source.Jobs = has_jobs s.ports.owed (next_task time s.ports)

-- the places once round in a circle, from the cursor on
abbrev pub circle : Facts → ℕ → List ℕ
circle f cursor = range_with_len cursor (source_count f - cursor) ++ range_with_len 0 cursor

-- the place of the first source with work, from the cursor on
abbrev pub place_with_work : Facts → State → ℕ → Option ℕ
place_with_work f s time = find (λ k. has_work s time (source_at f k)) (circle f s.cursor)

-- the place past one in the circle
abbrev pub place_past : Facts → ℕ → ℕ
place_past f k = cond (k + 1 == source_count f) 0 (k + 1)
