use Rattle.csp_posts.proofs.Crossing.{turns_through, turns_full}
use Rattle.csp_posts.proofs.Turning.{turns_traced, turns_marked, turns_balanced, turns_runs, turns_got, turns_early, turns_post, turns_last}
use Rattle.csp_posts.proofs.laws.turns_keep_post.Goals as goal

pub returns : goal.returns
returns c = record { traced = turns_traced; marked = turns_marked; balanced = turns_balanced; runs = turns_runs; all = turns_post; got = turns_got; through = turns_through; full = turns_full; early = turns_early; last = turns_last }
