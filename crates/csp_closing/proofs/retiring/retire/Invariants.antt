use Rattle.std.proofs.Common.{◌≡◌, ◌+◌, ◌≤◌, ◌++◌, All, length, map, vec_len, vec_capacity}
use Rattle.csp_closing.specs.Retired.{IsFresh, retired_of, to_retire}
use Rattle.csp_closing.proofs.retiring.retire.Given as goal

abbrev pub invariant-loop-post : goal.invariant-loop-post
invariant-loop-post l = record {
  posts : map retired_of l.retired.items ++ map to_retire l.posts.items ≡ map to_retire l.fn.posts.items;
  fresh : All IsFresh l.retired.items;
  room : vec_len l.retired + length l.posts.items ≤ vec_capacity l.retired;
}

abbrev pub decreases-loop-post : goal.decreases-loop-post
decreases-loop-post l = length l.posts.items
