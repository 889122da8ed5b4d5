use Rattle.std.proofs.Common.{map, rules, subst}
use Rattle.csp_ends.specs.Ends.{AreOf}
use Rattle.std.specs.List.{AllByRecursion}
use Rattle.csp_posts.proofs.Sweeping.{all_both, all_of, each_informed, each_stays, leaders_stay, met_none, one_then}
use Rattle.csp_posts.specs.Meetings.{LeaderKnows, puts_for, takes_for}
use Rattle.csp_posts.specs.Seen.{SeenPost}
use Rattle.csp_posts.proofs.meeting.+sweep.Goals as goal

pub returns-in-Some-clause-heard : goal.returns-in-Some-clause-heard
returns-in-Some-clause-heard t c = rw c.in-Some.ensures.cases.0 (c.meet_each.ensures.one, all_both c.meetings_add_up.ensures.both c.in-Some.rest.now c.meet_each.new.others c.sweep.new.posts c.meet_each.ensures.others c.sweep.ensures.heard)

pub returns-in-Some-clause-met : goal.returns-in-Some-clause-met
returns-in-Some-clause-met t c = (each_stays c.meet_each.new.one c.meet_each.new.one c.meet_each.new.others c.sweep.new.posts (met_none c.meetings_add_up.ensures.none c.meet_each.new.one) c.sweep.ensures.heard c.meet_each.ensures.met, c.sweep.ensures.met)

pub returns-in-Some-clause-informs : goal.returns-in-Some-clause-informs
returns-in-Some-clause-informs t c = λ puts takes all.
    let k = subst (λ l. AllByRecursion (LeaderKnows puts takes) l) c.in-Some.ensures.cases.0 all in (
      each_informed puts takes c.meet_each.new.one c.meet_each.new.one c.meet_each.new.others c.sweep.new.posts (met_none c.meetings_add_up.ensures.none c.meet_each.new.one) c.sweep.ensures.heard (c.meet_each.ensures.informs puts takes k.0),
      c.sweep.ensures.informs puts takes (leaders_stay puts takes c.in-Some.rest.now c.meet_each.new.others c.meet_each.ensures.others k.1),
    )

pub returns-in-Some-clause-counts : goal.returns-in-Some-clause-counts
returns-in-Some-clause-counts t c = λ node. (
  rw c.in-Some.ensures.cases.0 (one_then puts_for node c.in-Some.one.now.plain c.meet_each.new.one.plain (map (λ (s : SeenPost). s.plain) c.in-Some.rest.now) (map (λ (s : SeenPost). s.plain) c.meet_each.new.others) (map (λ (s : SeenPost). s.plain) c.sweep.new.posts) (c.meet_each.ensures.counts node).0 (c.sweep.ensures.counts node).0),
  rw c.in-Some.ensures.cases.0 (one_then takes_for node c.in-Some.one.now.plain c.meet_each.new.one.plain (map (λ (s : SeenPost). s.plain) c.in-Some.rest.now) (map (λ (s : SeenPost). s.plain) c.meet_each.new.others) (map (λ (s : SeenPost). s.plain) c.sweep.new.posts) (c.meet_each.ensures.counts node).1 (c.sweep.ensures.counts node).1),
)

-- the others are of the queues still
pub sweep-requires : goal.sweep-requires
sweep-requires t c = (
  search rules,
  all_of c.args.queues.now (c.meetings_keep_ends.ensures.of_it c.args.queues.now) c.in-Some.rest.now c.meet_each.new.others c.meet_each.ensures.others
      (subst (λ l. AllByRecursion (λ (s : SeenPost). AreOf c.args.queues.now s.plain.ends) l) c.in-Some.ensures.cases.0 c.requires.of_it).1,
)
