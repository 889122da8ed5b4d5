-- what a node's services know and change
use Rattle.std.specs.Prelude.{ℕ, ℤ, pos, List, replicate}
use Rattle.csp_route.specs.Routes.{Routes}
use Rattle.csp_route.specs.Text.{names_of}
use Rattle.csp_service.specs.declared.facts.Names.{Names}
use Rattle.csp_service.specs.declared.stats.Stats.{Stats}
use Rattle.csp_service.specs.declared.facts.TheConstants.{IFACE_ROOM, MEMORY}
use Rattle.csp_service.specs.Counting.{no_stats}

-- what services keep: what was counted of each interface that a node may have; the memory; by how many milliseconds the clock is ahead of the time
pub record PlainServices : Type 0 where
  pub stats : List Stats
  pub memory : List ℕ
  pub clock : ℤ

-- and with what they know besides: a node's name and routing table, and the names of its interfaces
pub record PlainFacts : Type 0 where
  pub name : List ℕ
  pub routes : Routes
  pub ifaces : List (List ℕ)
  pub services : PlainServices

-- before anything was counted, asked or set: the memory is zero, and the clock shows the time
abbrev pub new_services : PlainServices
new_services = record { stats = replicate IFACE_ROOM no_stats; memory = replicate MEMORY 0; clock = pos 0 }

-- the facts of a node of these names, with this routing table
abbrev pub known : Names → Routes → PlainServices → PlainFacts
known names routes services = record { name = names.node.bytes; routes = routes; ifaces = names_of names.ifaces.items; services = services }
