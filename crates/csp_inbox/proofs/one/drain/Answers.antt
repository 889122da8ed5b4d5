use Rattle.std.proofs.Common.{◌≡◌, ap, rules, arith, length, refl}
use Rattle.csp_inbox.specs.declared.hand.Hand.{Hand}
use Rattle.csp_inbox.proofs.Keeps.{gets, empties, accounts}
use Rattle.csp_inbox.proofs.Drawing.{takes_none, takes_one, got_one, still_in, same_kept, counts, drained}
use Rattle.csp_inbox.proofs.one.drain.Goals as goal

pub len_as-count-requires-clause-rule : goal.len_as-count-requires-clause-rule
len_as-count-requires-clause-rule g c = accounts _ _ c.requires.all_in.reads c.requires.all_in.home

pub loop-init : goal.loop-init
loop-init g c = let held = c.len_as-count.ensures.rule.1 in record {
  port = search rules;
  draws = takes_none _ _ _ c.len_as-count.ensures.ring.1;
  got = omega (arith, ap (λ (v : Hand). length v.mail.got) c.len_as-count.ensures.ring.1);
  all = omega (arith, counts _ _ held.2, held.1);
  fits = c.len_as-count.ensures.rule.0;
  len = omega arith;
  room = refl;
}

pub pop_as-requires-clause-pop : goal.pop_as-requires-clause-pop
pop_as-requires-clause-pop g c = gets _ _ (still_in _ _ _ _ c.loop.invariant.draws c.requires.all_in).reads

pub pop_as-requires-clause-empty : goal.pop_as-requires-clause-empty
pop_as-requires-clause-empty g c = let still = still_in _ _ _ _ c.loop.invariant.draws c.requires.all_in in empties _ _ still.reads still.home

pub unreachable-requires : goal.unreachable-requires
unreachable-requires g c =
    let inv = c.loop.invariant in
    let held = c.in_default.ensures.rule in
    omega (arith, counts _ _ held.2.1, held.1, same_kept _ _ _ _ inv.draws, inv.got, inv.all, c.loop-test.true)

pub loop-preserved : goal.loop-preserved
loop-preserved g c = record {
  port = search rules;
  draws = takes_one _ _ _ _ _ _ _ c.loop.invariant.draws c.in-Some.ensures.rule c.push_reserved.ensures.items;
  got = omega (arith, got_one _ _ _ c.in-Some.ensures.rule);
  all = c.loop.invariant.all;
  fits = c.loop.invariant.fits;
  len = omega (arith, c.push_reserved.ensures.len);
  room = search rules;
}

pub learn_as-requires-clause-rule : goal.learn_as-requires-clause-rule
learn_as-requires-clause-rule g c = let still = still_in _ _ _ _ c.loop.invariant.draws c.requires.all_in in accounts _ _ still.reads still.home

pub returns-clause-drained : goal.returns-clause-drained
returns-clause-drained g c =
    let inv = c.loop.invariant in
    let last : c.loop.counter ≡ c.len_as-count.result = omega (arith, c.loop-test.false, c.loop.auto.counter-end) in
    drained _ c.len_as-count.result _ _ _ _ _ _ inv.draws c.learn_as.ensures.ring.1 c.learn_as.ensures.rule.1 (omega (arith, inv.got, last)) inv.all inv.fits
