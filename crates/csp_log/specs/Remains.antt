-- what was where when a run ended
use Rattle.std.specs.Prelude.{ℕ, List}
use Rattle.csp_log.specs.declared.places.Place.{Place}
use Rattle.csp_log.specs.declared.places.QueueId.{QueueId}
use Rattle.csp_log.specs.declared.shown.ItemShown.{ItemShown}

-- what was left in one queue of a node: of the inbox that of a priority, 0 to 3, and of a lane with 0
pub record PlainLeft : Type 0 where
  pub node : ℕ
  pub queue : QueueId
  pub prio : ℕ
  pub items : List ItemShown

-- which buffers one place of a node held
pub record PlainHeld : Type 0 where
  pub node : ℕ
  pub place : Place
  pub numbers : List ℕ
