use Rattle.std.proofs.Common.{map}
use Rattle.csp_posts.proofs.Sweeping.{ends_stay, informed_stays, is_informed, leader_stays, met_both, met_none, puts_stay, takes_stay, two_then}
use Rattle.csp_posts.specs.Meetings.{puts_for, takes_for}
use Rattle.csp_posts.specs.Seen.{SeenPost}
use Rattle.csp_posts.proofs.meeting.+meet_each.Goals as goal

pub returns-in-Some-clause-one : goal.returns-in-Some-clause-one
returns-in-Some-clause-one t c = met_both c.meetings_add_up.ensures.both c.args.one.now c.meet.new.self c.meet_each.new.one c.meet.ensures.first c.meet_each.ensures.one

pub returns-in-Some-clause-met : goal.returns-in-Some-clause-met
returns-in-Some-clause-met t c = (ends_stay c.meet.new.self c.meet_each.new.one c.meet.new.other c.meet.new.other c.meet_each.ensures.one (met_none c.meetings_add_up.ensures.none c.meet.new.other) c.meet.ensures.met, c.meet_each.ensures.met)

pub returns-in-Some-clause-informs : goal.returns-in-Some-clause-informs
returns-in-Some-clause-informs t c = λ puts takes k. (
  informed_stays puts takes c.meet.new.self c.meet_each.new.one c.meet.new.other c.meet.new.other c.meet_each.ensures.one (met_none c.meetings_add_up.ensures.none c.meet.new.other) (is_informed puts takes c.args.one.now c.meet.new.self c.in-Some.other.now c.meet.new.other c.meet.ensures.first c.meet.ensures.other c.meet.ensures.informs k),
  c.meet_each.ensures.informs puts takes (leader_stays puts takes c.args.one.now c.meet.new.self c.meet.ensures.first k),
)

pub returns-in-Some-clause-counts : goal.returns-in-Some-clause-counts
returns-in-Some-clause-counts t c = λ node. (
  rw c.in-Some.ensures.cases.0 (two_then puts_for node c.args.one.now.plain c.meet.new.self.plain c.meet_each.new.one.plain c.in-Some.other.now.plain c.meet.new.other.plain (map (λ (s : SeenPost). s.plain) c.in-Some.rest.now) (map (λ (s : SeenPost). s.plain) c.meet_each.new.others) (puts_stay node c.args.one.now.plain.ends.home c.in-Some.other.now.plain.ends.home c.meet.new.self.plain.ends.home c.meet.new.other.plain.ends.home c.meet.ensures.first.ends.home c.meet.ensures.other.ends.home c.meet.ensures.counts) (c.meet_each.ensures.counts node).0),
  rw c.in-Some.ensures.cases.0 (two_then takes_for node c.args.one.now.plain c.meet.new.self.plain c.meet_each.new.one.plain c.in-Some.other.now.plain c.meet.new.other.plain (map (λ (s : SeenPost). s.plain) c.in-Some.rest.now) (map (λ (s : SeenPost). s.plain) c.meet_each.new.others) (takes_stay node c.args.one.now.plain.ends.home c.in-Some.other.now.plain.ends.home c.meet.new.self.plain.ends.home c.meet.new.other.plain.ends.home c.meet.ensures.first.ends.home c.meet.ensures.other.ends.home c.meet.ensures.counts) (c.meet_each.ensures.counts node).1),
)

pub returns-in_default-clause-one : goal.returns-in_default-clause-one
returns-in_default-clause-one t c = met_none c.meetings_add_up.ensures.none c.args.one.now
