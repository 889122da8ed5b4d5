-- what a step of a router keeps
use Rattle.std.specs.Prelude.{◌≡◌, ℕ, ◌+◌, ◌≤◌, List, length}
use Rattle.csp_deck.specs.Step.{kind_of, op_numbers, times}
use Rattle.csp_log.specs.declared.shown.OpShown.{OpShown}
use Rattle.csp_ports.specs.Counts.{AreFar}
use Rattle.csp_ports.specs.Held.{held}
use Rattle.csp_route.specs.Routes.{IsWithin}
use Rattle.csp_stack.specs.Party.{IsSound, IsWaiting, kind_of_plan}
use Rattle.csp_stack.specs.Router.{Facts, State, holds}

-- no buffer is lost or used twice: it holds what it held, and the buffers of these numbers that came besides; trash and ports have one more
-- at most; its table leads to that many interfaces if it did; its ports count one further at most, and are of the same applications;
-- and what it awaits stays
pub record Keeps (ifaces : ℕ) (old new : State) (came : List ℕ) : Type 0 where
  pub numbers : (k : ℕ) → times k (holds new) ≡ times k (holds old) + times k came
  pub room : length new.trash + length (held new.ports) ≤ length old.trash + length (held old.ports) + 1
  pub within : IsWithin ifaces old.routes → IsWithin ifaces new.routes
  pub far : (n : ℕ) → AreFar n old.ports → AreFar (n + 1) new.ports
  pub apps : new.ports.conns.apps ≡ old.ports.conns.apps
  pub doing : new.doing ≡ old.doing
  pub early : new.early ≡ old.early

-- a router that has asked is sound, awaits what it asked for, holds no more what it handed over, and counts no further
pub record Asks (f : Facts) (old new : State) (time : ℕ) (o : OpShown) : Type 0 where
  pub sound : IsSound f new
  pub waits : IsWaiting new.doing new time
  pub kind : kind_of_plan new.doing ≡ kind_of o
  pub numbers : (k : ℕ) → times k (holds new) + times k (op_numbers o) ≡ times k (holds old)
  pub far : (n : ℕ) → AreFar n old.ports → AreFar n new.ports
