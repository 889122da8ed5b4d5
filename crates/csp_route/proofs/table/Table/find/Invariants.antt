use Rattle.std.proofs.Common.{◌≡◌, ◌+◌}
use Rattle.csp_route.specs.Routes.{longest_below, route_of}
use Rattle.csp_route.proofs.table.Table.find.Given as goal

abbrev pub invariant-loop-mask : goal.invariant-loop-mask
invariant-loop-mask l = longest_below (l.mask + 1) l.self l.addr ≡ route_of l.self l.addr
