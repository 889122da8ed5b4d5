use Rattle.std.proofs.Common.{rules, arith}
use Rattle.csp_lane.proofs.Keeps.{gets, accounts}
use Rattle.csp_lane.proofs.Drawing.{takes_one, got_one, still_both, still_heeded}
use Rattle.csp_lane.proofs.lane.drain.Goals as goal

pub pop_as-requires-clause-rule : goal.pop_as-requires-clause-rule
pop_as-requires-clause-rule g c = let both = still_both _ _ _ _ c.loop.invariant.draws c.requires.pass.1 in (gets _ _ both.reads, accounts _ _ both.writes both.reads)

pub loop-preserved : goal.loop-preserved
loop-preserved g c = record {
  pass = search rules;
  draws = takes_one _ _ _ _ _ _ _ c.loop.invariant.draws c.in-Some.ensures.rule c.push_reserved.ensures.items;
  got = omega (arith, got_one _ _ _ c.in-Some.ensures.rule);
  all = c.loop.invariant.all;
  fits = c.loop.invariant.fits;
  len = omega (arith, c.push_reserved.ensures.len);
  room = search rules;
}

pub returns-clause-heeded : goal.returns-clause-heeded
returns-clause-heeded g c = still_heeded _ _ _ _ _ c.loop.invariant.draws c.learn_as.ensures.rule.1

pub len_as-count-requires-clause-rule : goal.len_as-count-requires-clause-rule
len_as-count-requires-clause-rule g c = accounts _ _ c.requires.pass.1.writes c.requires.pass.1.reads

pub learn_as-requires-clause-rule : goal.learn_as-requires-clause-rule
learn_as-requires-clause-rule g c = let both = still_both _ _ _ _ c.loop.invariant.draws c.requires.pass.1 in accounts _ _ both.writes both.reads
