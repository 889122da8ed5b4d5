-- how a router's state is kept
use Rattle.std.specs.Prelude.{◌≡◌, IfSome}
use Rattle.csp_stack.specs.declared.state.State.TheInside.{Inside}
use Rattle.csp_stack.specs.declared.state.TheConstants.{TRASH_ROOM}

-- what a router's state keeps: the trash has its room; the ports, and the buffer that is to go out, are of the same region
pub record IsState (s : Inside) : Type 0 where
  pub room : s.trash.room ≡ TRASH_ROOM
  pub ports : s.ports.region ≡ s.trash.region
  pub of_it : IfSome s.out (λ o. o.buffer.region ≡ s.trash.region)
