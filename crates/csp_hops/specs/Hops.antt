-- Next hops that the rows of routing tables name.
use Rattle.std.specs.Prelude.{◌<◌, IfSome}
use Rattle.std.specs.FinMap as finite
use Rattle.std.specs.List.{AllByRecursion}
use Rattle.csp_route.specs.Routes.{Hop, Routes}
use Rattle.csp_scene.specs.Scene.{PlainScene}

-- where a row leads: a next hop that it names is an address, a number of 5 bits
abbrev pub NamesAddress : Hop → Type 0
NamesAddress hop = IfSome hop.via (λ via. via < 32)

-- each row of a table names the address of a next hop, or none
abbrev pub LeadsByAddresses : Routes → Type 0
LeadsByAddresses table = AllByRecursion NamesAddress (finite.values table)

-- each row of the table of each node names the address of a next hop, or none
abbrev pub LeadByAddresses : PlainScene → Type 0
LeadByAddresses scene = AllByRecursion (λ node. LeadsByAddresses node.routes) scene.nodes
