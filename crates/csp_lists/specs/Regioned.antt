-- queues and their answers with the region of their buffers
use Rattle.std.specs.Prelude.{List, Option, Result, Ok, Err}
use Rattle.std.specs.Option.{option_map}
use Rattle.csp_arena.specs.Cells.{RegionName}
use Rattle.csp_buffer.specs.Content.{Content}
use Rattle.csp_lists.specs.PlainDeck.{PlainQueue}
use Rattle.csp_lists.specs.PlainFifo.{PlainFifo}
use Rattle.csp_log.specs.Pictures.{shown_item}
use Rattle.csp_log.specs.declared.item.Item.{Item}
use Rattle.csp_log.specs.declared.shown.ItemShown.{ItemShown}

-- a queue whose buffers are of this region
pub record QueueAt : Type 0 where
  pub region : RegionName
  pub queue : PlainQueue

-- queues whose buffers are of this region
pub record QueuesAt : Type 0 where
  pub region : RegionName
  pub queues : List PlainQueue

-- a pool whose buffers are of this region
pub record PoolAt : Type 0 where
  pub region : RegionName
  pub pool : PlainFifo Content

-- what the push of an item gave back, as a picture
abbrev pub shown_push : Result (Unit {0}) Item → Result (Unit {0}) ItemShown
shown_push (Ok u) = Ok u
shown_push (Err i) = Err (shown_item i)

-- what a pop gave, as pictures
abbrev pub shown_pop : Option Item → Option ItemShown
shown_pop i = option_map shown_item i
