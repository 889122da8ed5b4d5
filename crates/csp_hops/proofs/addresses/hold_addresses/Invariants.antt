use Rattle.std.specs.List.{AllWithin}
use Rattle.csp_hops.specs.Hops.{LeadsByAddresses}
use Rattle.csp_hops.proofs.addresses.hold_addresses.Given as goal

-- so it is of the nodes so far
abbrev pub invariant-loop-node : goal.invariant-loop-node
invariant-loop-node l = AllWithin (λ node. LeadsByAddresses node.routes) l.node-items 0 l.node-index
