use Rattle.std.proofs.Common.{rules, subst, ℕ, ◌<◌}
use Rattle.crossbeam_queue.proofs.Comings.{starts}
use Rattle.crossbeam_queue.proofs.Stamps.{next_power_lap}
use Rattle.csp_ring.proofs.shapes.RuledRing.open.Goals as goal

pub vacant-requires : goal.vacant-requires
vacant-requires g c = let next = c.next_power_of_two-lap.ensures in let n : ℕ = c.args.capacity in let laps = next_power_lap n _ next.power.0 next.power.1 next.lower_bound next.upper_bound c.requires.capacity c.if-capacity-ge-MOST_SLOTS.false in
    starts _ _ n _ (search rules) c.requires.capacity (subst (λ (z : ℕ). n < z) laps.0 laps.2) (search rules) (search rules) (search rules) c.requires.rule

pub invariant_of-ring : goal.invariant_of-ring
invariant_of-ring g c = let next = c.next_power_of_two-lap.ensures in
    record { sized = (search rules, search rules, next_power_lap c.args.capacity _ next.power.0 next.power.1 next.lower_bound next.upper_bound c.requires.capacity c.if-capacity-ge-MOST_SLOTS.false) }
