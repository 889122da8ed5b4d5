use Rattle.std.specs.List.{AllWithin}
use Rattle.csp_hops.specs.Hops.{NamesAddress}
use Rattle.csp_route.specs.Routes.{hop_of}
use Rattle.csp_hops.proofs.addresses.hold_routes.Given as goal

-- so it is of the rows so far
abbrev pub invariant-loop-row : goal.invariant-loop-row
invariant-loop-row l = AllWithin (λ row. NamesAddress (hop_of row)) l.row-items 0 l.row-index
