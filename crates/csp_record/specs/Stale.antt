-- the copies that were handed to a reliable connection which could not tell them from what it waits for
use Rattle.std.specs.Prelude.{ℕ, ◌==◌, ◌&&◌, ◌||◌, Bool, true, false, not, Option, None, Some, nat_le, count_by}
use Rattle.std.specs.Int.{abs_diff}
use Rattle.std.specs.List.{flat_map}
use Rattle.csp_base.specs.declared.traces.Tag.{Tag}
use Rattle.csp_log.specs.PlainLog.{all_events}
use Rattle.csp_log.specs.declared.event.Event.{Event}
use Rattle.csp_log.specs.declared.event.Event.TheVariants as event
use Rattle.csp_record.specs.Record.{PlainRecord}

-- whether an index is half of all numbers of sixteen bits, or more, away from where a connection stands: then its number need not show it
abbrev pub is_far : ℕ → ℕ → Bool
is_far index stand = nat_le 32768 (abs_diff index stand)

-- whether a tag names this flow: its node, and its number there
abbrev pub names : Tag → ℕ × ℕ → Bool
names tag flow = tag.node == flow.0 && tag.nth == flow.1

-- whether what was handed to a connection is stale, by the connection's peer, the tag, the last index delivered and the least unacknowledged: never
-- without a peer; with one, where there is no tag, where the tag names another flow, and where one of its two indices is far off
abbrev pub is_stale_at : Option (ℕ × ℕ) → Option Tag → ℕ → ℕ → Bool
is_stale_at None tag cur una = false
is_stale_at (Some peer) None cur una = true
is_stale_at (Some peer) (Some tag) cur una = not (names tag peer) || is_far tag.index cur || is_far tag.ack una

-- whether an event tells of such a copy
abbrev pub is_stale : Event → Bool
is_stale (event.Handed nth peer tag cur una) = is_stale_at peer tag cur una
is_stale _ = false

-- how many events of a record do
abbrev pub stale : PlainRecord → ℕ
stale r = count_by is_stale (flat_map (λ party. all_events party.entries) r.parties)
