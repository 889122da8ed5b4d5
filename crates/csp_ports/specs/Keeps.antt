-- what a step of a node's ports keeps
use Rattle.std.specs.Prelude.{◌≡◌, ◌≢◌, ◌≤◌, ℕ, ◌+◌, List, length, Some, ⊤}
use Rattle.std.specs.List.{All}
use Rattle.std.specs.Option.{IsSome}
use Rattle.csp_buffer.specs.Content.{Content}
use Rattle.csp_base.specs.declared.seat.Seat.{Seat}
use Rattle.csp_base.specs.declared.limits.TheConstants.{MAX_APPS, ALL_SLOTS}
use Rattle.csp_deck.specs.Keeping.{numbers_of}
use Rattle.csp_deck.specs.Step.{times}
use Rattle.csp_ports.specs.Counts.{AreFar}
use Rattle.csp_ports.specs.Held.{held}
use Rattle.csp_ports.specs.PlainPorts.{PlainPorts, machine_at, machines_of}
use Rattle.csp_ports.specs.declared.task.Task.{Task}
use Rattle.csp_ports.specs.declared.task.Task.TheVariants as task
use Rattle.csp_rdp.specs.Balance.{IsWhole}
use Rattle.csp_rdp.specs.Jobs.{delivery, job_of}
use Rattle.csp_rdp.specs.declared.answers.State.TheVariants as state
use Rattle.csp_rdp.specs.declared.jobs.Job.TheVariants as job

-- a node's ports, and the buffers that are at hand besides
pub record AtHand : Type 0 where
  pub ports : PlainPorts
  pub others : List Content

-- these ports, and these buffers
abbrev pub at_hand : PlainPorts → List Content → AtHand
at_hand p others = record { ports = p; others = others }

-- no buffer is lost or used twice: after it there are those that were held or at hand before, and the buffers of these
-- numbers that came besides; and it counts so much further at most
pub record Keeps (more : ℕ) (old new : AtHand) (came : List ℕ) : Type 0 where
  pub numbers : (k : ℕ) → times k (numbers_of new.others) + times k (numbers_of (held new.ports)) ≡ times k (numbers_of old.others) + times k (numbers_of (held old.ports)) + times k came
  pub size : length new.others + length (held new.ports) ≡ length old.others + length (held old.ports) + length came
  pub far : (n : ℕ) → AreFar n old.ports → AreFar (n + more) new.ports

-- a task is one that the slot owes: a note; a packet that its connection keeps; or a packet that its connection makes
abbrev pub IsOwedBy : Task → (time : ℕ) → Seat → PlainPorts → Type 0
IsOwedBy task.Tell time seat p = ⊤
IsOwedBy task.Deliver time seat p = ((machine_at p seat).state ≡ state.Open) × IsSome (delivery (machine_at p seat))
IsOwedBy (task.Make j) time seat p = (job_of time (machine_at p seat) ≡ Some j) × (j ≢ job.Deliver)

-- there are no more applications than may be; each slot has its place; and each machine of a slot is whole
pub record AreWhole (p : PlainPorts) : Type 0 where
  pub few : p.conns.apps ≤ MAX_APPS
  pub slots : length p.slots ≡ ALL_SLOTS
  pub machines : All IsWhole (machines_of p)
