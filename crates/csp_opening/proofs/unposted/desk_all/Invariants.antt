use Rattle.std.proofs.Common.{◌≡◌, ◌≤◌, ◌+◌, ◌++◌, [], length, map, vec_len, vec_capacity}
use Rattle.std.specs.List.{AllByRecursion}
use Rattle.csp_party.specs.Any.{holds, plain}
use Rattle.csp_opening.specs.Unposted.{as_opened}
use Rattle.csp_opening.proofs.unposted.desk_all.Given as goal

-- the parties so far, then those that are still to come, are all
abbrev pub invariant-loop-party : goal.invariant-loop-party
invariant-loop-party l = record {
  same : map as_opened l.unposted.items ++ l.parties.items ≡ l.fn.parties.items;
  unposted : AllByRecursion (λ s. holds (plain s.party) ≡ []) l.unposted.items;
  empty : AllByRecursion (λ p. holds (plain p.party) ≡ []) l.parties.items;
  room : vec_len l.unposted + length l.parties.items ≤ vec_capacity l.unposted;
  just : vec_capacity l.unposted ≡ length l.fn.parties.items;
}

abbrev pub decreases-loop-party : goal.decreases-loop-party
decreases-loop-party l = length l.parties.items
