use Rattle.std.proofs.Common.{◌≡◌, ◌+◌, ◌≤◌, ◌++◌, length, vec_len, vec_capacity}
use Rattle.csp_party.specs.Any.{holds, plain, region_of}
use Rattle.csp_world.proofs.member.drain.Given as goal

abbrev pub invariant-loop-buffer : goal.invariant-loop-buffer
invariant-loop-buffer l =
    (l.emptied.emptied.pool ≡ l.fn.emptied.emptied.pool)
    × (l.emptied.emptied.gathered ++ holds (plain l.party) ≡ l.fn.emptied.emptied.gathered ++ holds (plain l.fn.party))
    × (l.numbers.items ++ holds (plain l.party) ≡ l.fn.numbers.items ++ holds (plain l.fn.party))
    × (vec_len l.numbers + length (holds (plain l.party)) ≤ vec_capacity l.numbers)
    × (length l.emptied.emptied.gathered + length (holds (plain l.party)) ≤ l.emptied.emptied.pool.room)
    × (l.emptied.region ≡ l.fn.emptied.region)
    × (region_of l.party ≡ l.emptied.region)

abbrev pub decreases-loop-buffer : goal.decreases-loop-buffer
decreases-loop-buffer l = length (holds (plain l.party))
