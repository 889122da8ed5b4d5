use Rattle.std.proofs.Common.{sym, ◌∙◌}
use Rattle.csp_posts.proofs.post.Post.meet.Goals as goal

pub invariant_of-self : goal.invariant_of-self
invariant_of-self c =
    let keeps = c.meetings_keep_ends.ensures in
    let more = c.meet.ensures.first in
    let fit = c.self.invariant in
    record {
      ready = fit.ready;
      counted = fit.counted;
      served = λ q r u. keeps.rules _ _ q more ∙ fit.served q r u;
      ends = keeps.whole _ _ more fit.ends;
      region = fit.region ∙ sym (keeps.region _ _ more);
      unnoted = fit.unnoted;
      stock = fit.stock;
    }

pub invariant_of-other : goal.invariant_of-other
invariant_of-other c =
    let keeps = c.meetings_keep_ends.ensures in
    let more = c.meet.ensures.second in
    let fit = c.other.invariant in
    record {
      ready = fit.ready;
      counted = fit.counted;
      served = λ q r u. keeps.rules _ _ q more ∙ fit.served q r u;
      ends = keeps.whole _ _ more fit.ends;
      region = fit.region ∙ sym (keeps.region _ _ more);
      unnoted = fit.unnoted;
      stock = fit.stock;
    }
