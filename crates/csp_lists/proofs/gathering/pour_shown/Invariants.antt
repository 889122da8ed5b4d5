use Rattle.std.proofs.Common.{◌≡◌, ◌+◌, ◌≤◌, ◌++◌, length, map, vec_len, vec_capacity}
use Rattle.std.specs.Prelude.{All}
use Rattle.csp_arena.specs.Cells.{RegionName}
use Rattle.csp_deck.specs.Regions.{IsItemOf}
use Rattle.csp_buffer.specs.Memory.{AreAllOf}
use Rattle.csp_lists.specs.Gathered.{numbers_back}
use Rattle.csp_lists.specs.PlainDeck.{numbers_of}
use Rattle.csp_log.specs.Pictures.{shown_item}
use Rattle.csp_lists.proofs.gathering.pour_shown.Given as goal

abbrev pub invariant-loop-item : goal.invariant-loop-item
invariant-loop-item l =
    (l.shown.items ++ map shown_item l.from.items ≡ l.fn.shown.items ++ map shown_item l.fn.from.items)
    × (l.numbers.items ++ numbers_of (map shown_item l.from.items) ≡ l.fn.numbers.items ++ numbers_of (map shown_item l.fn.from.items))
    × (numbers_back l.into.items ++ numbers_of (map shown_item l.from.items) ≡ numbers_back l.fn.into.items ++ numbers_of (map shown_item l.fn.from.items))
    × (vec_len l.shown + length l.from.items ≤ vec_capacity l.shown)
    × (vec_len l.numbers + length l.from.items ≤ vec_capacity l.numbers)
    × (vec_len l.into + length (numbers_of (map shown_item l.from.items)) ≡ vec_len l.fn.into + length (numbers_of (map shown_item l.fn.from.items)))
    × (vec_capacity l.into ≡ vec_capacity l.fn.into)
    × ((r : RegionName) → All (IsItemOf r) l.fn.from.items → AreAllOf r l.fn.into.items → All (IsItemOf r) l.from.items × AreAllOf r l.into.items)

abbrev pub decreases-loop-item : goal.decreases-loop-item
decreases-loop-item l = length l.from.items
