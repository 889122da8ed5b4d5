use Rattle.std.proofs.Common.{◌≡◌, ◌≤◌, ◌+◌, ◌++◌, drop, length, map, vec_len, vec_capacity}
use Rattle.csp_opening.specs.Parted.{AreLeadsOf, CanPartAll, part_homes, parts_left}
use Rattle.csp_opening.proofs.homes.part_passes.Given as goal

-- what was split off, then what is still to be, is all
abbrev pub invariant-loop-one : goal.invariant-loop-one
invariant-loop-one l = record {
  of_it : AreLeadsOf l.queues l.leads.items;
  can : CanPartAll l.leads.items (map (λ s. s.who) (drop l.one-index l.unposted));
  homes : l.homes.items ++ part_homes l.leads.items (map (λ s. s.who) (drop l.one-index l.unposted)) ≡ l.fn.homes.items ++ part_homes l.fn.leads.items (map (λ s. s.who) l.unposted);
  leads : parts_left l.leads.items (map (λ s. s.who) (drop l.one-index l.unposted)) ≡ parts_left l.fn.leads.items (map (λ s. s.who) l.unposted);
  room : vec_len l.homes + length l.unposted ≤ vec_capacity l.homes + l.one-index;
}
