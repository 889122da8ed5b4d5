-- what holds of what services keep at every time
use Rattle.std.specs.Prelude.{◌≡◌, ℕ, ℤ, List, length}
use Rattle.csp_service.specs.Clock.{IsClock}
use Rattle.csp_service.specs.declared.facts.TheConstants.{IFACE_ROOM, MEMORY}
use Rattle.csp_service.specs.declared.stats.Stats.{Stats}

-- the counts of each interface that a node may have, all bytes of the memory, and a clock
pub record AreKept (counts : List Stats) (bytes : List ℕ) (ahead : ℤ) : Type 0 where
  pub stats : length counts ≡ IFACE_ROOM
  pub memory : length bytes ≡ MEMORY
  pub clock : IsClock ahead
