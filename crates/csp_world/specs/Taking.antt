-- What the end of a run needs of a party.
use Rattle.std.specs.Prelude.{ℕ, ◌≡◌, ◌≤◌, None, Some, List, [], length, slice_get, vec_capacity}
use Rattle.csp_arena.specs.Cells.{RegionName}
use Rattle.csp_party.specs.Any.{plain, region_of, holds}
use Rattle.csp_log.specs.Who.{node_of}
use Rattle.csp_world.specs.declared.member.Member.{Member}

-- its buffers are of the region of its node, a party of no node has none, and there is room to note their numbers
pub record IsTakeable (regions : List RegionName) (m : Member) : Type 0 where
  pub home : (node : ℕ) → node_of m.who ≡ Some node → slice_get regions node ≡ Some (region_of m.party)
  pub none : node_of m.who ≡ None → holds (plain m.party) ≡ []
  pub unnoted : m.numbers.items ≡ []
  pub room : length (holds (plain m.party)) ≤ vec_capacity m.numbers
