use Rattle.std.proofs.Common.{sum_by, sym, ap, ◌∙◌}
use Rattle.std.proofs.lemmas.List.{take_all}
use Rattle.csp_log.specs.Weights.{weight_of_all}
use Rattle.csp_node.proofs.Entries.{sum_mapped}
use Rattle.csp_posts.specs.Posts.{PlainPost}
use Rattle.csp_posts.specs.Seen.{SeenPost}
use Rattle.csp_node.proofs.logs.weight.Goals as goal

pub returns : goal.returns
returns c =
    c.loop-post.invariant.sum
    ∙ ap (sum_by (λ (s : SeenPost). weight_of_all s.plain.entries)) (take_all c.loop-post.post-index c.args.posts.now c.loop-post-test.false)
    ∙ sym (sum_mapped (λ (s : PlainPost). weight_of_all s.entries) (λ (s : SeenPost). s.plain) c.args.posts.now)
