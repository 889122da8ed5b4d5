use Rattle.std.proofs.Common.{ℕ, ◌<◌, ◌≤◌, ◌-◌, length, ap, sym, ◌∙◌, arith}
use Rattle.csp_world.specs.declared.limits.TheConstants.{MAX_ENTRIES}
use Rattle.csp_world.specs.World.{weight}
use Rattle.csp_world.proofs.RunLemmas.{entries_weigh, run_at_once, run_later, rounds_over, round_finished, round_limit, round_on, some_parties}
use Rattle.csp_world.proofs.ScheduleLemmas.{round_time, round_members}
use Rattle.csp_world.proofs.schedule.run_rounds.Goals as goal

fewer : {n m limit : ℕ} → n ≤ m → m < limit → n < limit
fewer h k = omega (arith, h, k)

pub returns-then-finished-clause-run : goal.returns-then-finished-clause-run
returns-then-finished-clause-run c = run_at_once c.args.most c.args.first c.args.world.now.plain (sym c.finished.ensures ∙ c.if-finished.true)

pub make_round-requires-clause-some : goal.make_round-requires-clause-some
make_round-requires-clause-some c =
    let some = some_parties c.args.world.now.plain (sym c.finished.ensures ∙ c.if-finished.false) in
    omega (arith, some, c.loop.invariant.members)

pub returns-then-finished-2-clause-run : goal.returns-then-finished-2-clause-run
returns-then-finished-2-clause-run c =
    sym (run_later c.args.most c.args.first c.args.world.now.plain (sym c.finished.ensures ∙ c.if-finished.false))
    ∙ sym c.loop.invariant.left
    ∙ round_finished c.args.most c.loop.counter c.loop.order c.loop.world.plain c.make_round.new.world.plain c.loop-test.true c.in_ok-order.ensures.round (sym c.finished-in-loop.ensures ∙ c.if-finished-2.true)

pub returns-then-entries-ge-MAX_ENTRIES-clause-entries : goal.returns-then-entries-ge-MAX_ENTRIES-clause-entries
returns-then-entries-ge-MAX_ENTRIES-clause-entries c = λ _.
    let full : MAX_ENTRIES ≤ weight c.make_round.new.world.plain = omega (arith, c.entries.ensures, c.if-entries-ge-MAX_ENTRIES.true) in
    sym (run_later c.args.most c.args.first c.args.world.now.plain (sym c.finished.ensures ∙ c.if-finished.false))
    ∙ sym c.loop.invariant.left
    ∙ round_limit c.args.most c.loop.counter c.loop.order c.loop.world.plain c.make_round.new.world.plain c.loop-test.true c.in_ok-order.ensures.round (sym c.finished-in-loop.ensures ∙ c.if-finished-2.false) full

pub loop-preserved : goal.loop-preserved
loop-preserved c =
    let w = c.loop.world.plain in
    let v = c.make_round.new.world.plain in
    let made = c.in_ok-order.ensures in
    let few : weight v < MAX_ENTRIES = omega (arith, c.entries.ensures, c.if-entries-ge-MAX_ENTRIES.false) in
    record {
      left = round_on c.args.most c.loop.counter c.loop.order c.in_ok-order.order w v c.loop-test.true made.round made.next (sym c.finished-in-loop.ensures ∙ c.if-finished-2.false) few ∙ c.loop.invariant.left;
      members = ap (λ u. length u.members) made.round ∙ round_members w c.loop.order ∙ c.loop.invariant.members;
      counts = made.counts ∙ c.loop.invariant.counts;
      time = omega (arith, ap (λ u. u.time) made.round, round_time w c.loop.order, c.loop.invariant.time);
      few = fewer (entries_weigh v) few;
    }

pub returns-clause-run : goal.returns-clause-run
returns-clause-run c =
    sym (run_later c.args.most c.args.first c.args.world.now.plain (sym c.finished.ensures ∙ c.if-finished.false))
    ∙ sym c.loop.invariant.left
    ∙ rounds_over (c.args.most - c.loop.counter) c.loop.order c.loop.world.plain (omega arith)
