use Rattle.std.proofs.Common.{◌≡◌, ◌≤◌, ◌+◌, ◌++◌, length, vec_len, vec_capacity}
use Rattle.std.specs.List.{AllByRecursion}
use Rattle.csp_opening.specs.Parted.{IsOpening}
use Rattle.csp_opening.specs.Posted.{CanPostAll, posts_with}
use Rattle.csp_opening.proofs.posts.post_all.Given as goal

-- the posts so far, then those that are still to come, are all
abbrev pub invariant-loop-one : goal.invariant-loop-one
invariant-loop-one l = record {
  opening : AllByRecursion IsOpening l.leads.items;
  can : CanPostAll l.leads.items l.unposted.items l.homes.items l.sides.items;
  room : vec_len l.posts + length l.unposted.items ≤ vec_capacity l.posts;
  posts : l.posts.items ++ posts_with l.leads.items l.unposted.items l.homes.items l.sides.items ≡ l.fn.posts.items ++ posts_with l.fn.leads.items l.fn.unposted.items l.fn.homes.items l.fn.sides.items;
}

abbrev pub decreases-loop-one : goal.decreases-loop-one
decreases-loop-one l = length l.unposted.items
