use Rattle.std.proofs.Common.{◌≡◌, ℕ, ◌<◌, ◌≤◌, length, get_or}
use Rattle.csp_rounds.proofs.parts.round_of_each.Given as goal

abbrev pub invariant-loop-post : goal.invariant-loop-post
invariant-loop-post g l =
    (length l.post-items ≡ length l.fn.posts)
    × ((k : ℕ) (d : _) → k < l.post-index → g.W.Worker.does (get_or l.fn.posts k d) l.fn.shared l.fn.now (get_or l.post-items k d))
    × ((k : ℕ) (d : _) → l.post-index ≤ k → get_or l.post-items k d ≡ get_or l.fn.posts k d)
