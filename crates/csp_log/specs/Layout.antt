-- that a log's lines and rows point into its lists, and that there is room for what it promises
use Rattle.std.specs.Prelude.{◌≡◌, ℕ, ◌+◌, ◌-◌, ◌*◌, ◌^◌, ◌≤◌, Vec, length, map, max, All, vec_len, vec_capacity}
use Rattle.std.specs.declared.alloc.Global.{Global}
use Rattle.csp_base.specs.declared.limits.TheConstants.{MAX_FRAME}
use Rattle.csp_log.specs.PlainLog.{all_events}
use Rattle.csp_log.specs.Rows.{entry_at, IsRowIn, IsLineIn}
use Rattle.csp_log.specs.Weights.{weight_of_all}
use Rattle.csp_log.specs.declared.event.TheConstants.{MAX_EVENTS}
use Rattle.csp_log.specs.declared.log.Log.TheInside.{Inside}
use Rattle.csp_log.specs.declared.weights.TheConstants.{MAX_WEIGHT}

-- a list has the same elements, and as much room as before at least
pub record IsRoomier {T : Type 0} (old new : Vec T Global) : Type 0 where
  pub items : new.items ≡ old.items
  pub len : vec_len new ≡ vec_len old
  pub room : vec_capacity old ≤ vec_capacity new

-- a list has taken room for so many elements more, or for `fewest` where it had too little: for twice what it needs then at most
pub record HasTaken {T : Type 0} (old new : Vec T Global) (more fewest : ℕ) : Type 0 where
  pub enough : vec_len old + more ≤ vec_capacity new
  pub most : vec_capacity new ≤ max (vec_capacity old) (2 * (vec_len old + max more fewest))

-- each line and each row points into the lists, the events are those of the entries in their order, each spare entry has its line, its row, MAX_FRAME bytes and MAX_EVENTS events, and
-- the surplus is what the entries weigh besides one each
pub record IsLaidOut (l : Inside) : Type 0 where
  pub lines : All (IsLineIn (length l.rows.rows)) l.lines.items
  pub rows : All (IsRowIn (length l.bytes.items) (length l.events.items)) l.rows.rows
  pub told : all_events (map (entry_at l.rows.rows l.bytes.items l.events.items) l.lines.items) ≡ l.events.items
  pub line_room : vec_len l.lines + l.spare ≤ vec_capacity l.lines
  pub row_room : l.spare ≤ l.rows.room
  pub byte_room : vec_len l.bytes + l.spare * MAX_FRAME ≤ vec_capacity l.bytes
  pub event_room : vec_len l.events + l.spare * MAX_EVENTS ≤ vec_capacity l.events
  pub few : length l.lines.items + l.spare ≤ 2 ^ 32 - 2
  pub fewer : length l.rows.rows ≤ length l.lines.items
  pub weighed : length l.lines.items + l.surplus ≡ weight_of_all (map (entry_at l.rows.rows l.bytes.items l.events.items) l.lines.items)
  pub light : length l.lines.items + l.surplus ≤ MAX_WEIGHT * length l.lines.items
