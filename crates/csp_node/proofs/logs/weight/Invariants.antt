use Rattle.std.proofs.Common.{◌≡◌, ◌*◌, ◌≤◌, ◌^◌, sum_by, take}
use Rattle.csp_log.specs.Weights.{weight_of_all}
use Rattle.csp_posts.specs.Seen.{SeenPost}
use Rattle.csp_node.proofs.logs.weight.Given as goal

-- the sum so far, and its bound
abbrev pub invariant-loop-post : goal.invariant-loop-post
invariant-loop-post l = record {
  sum : l.total ≡ sum_by (λ (s : SeenPost). weight_of_all s.plain.entries) (take l.post-index l.posts);
  bound : l.total ≤ l.post-index * 2 ^ 35;
}
