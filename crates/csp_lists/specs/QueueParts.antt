-- how a queue keeps its items
use Rattle.std.specs.Prelude.{◌≡◌, ◌≤◌, [], length, All, map, vec_capacity}
use Rattle.csp_deck.specs.Carried.{IsCarried}
use Rattle.csp_deck.specs.Regions.{IsItemOf}
use Rattle.csp_lists.specs.Regioned.{QueueAt}
use Rattle.csp_lists.specs.declared.queue.Queue.TheInside.{Inside}
use Rattle.csp_log.specs.Pictures.{shown_item}

-- the queue as contracts see it
abbrev pub queue_seen : Inside → QueueAt
queue_seen q = record { region = q.token.name; queue = record { place = q.place; rule = q.rule; room = q.fifo.room; items = map shown_item q.fifo.items } }

-- a queue's items are such as it carries and of its region, no more than it has room for, and it has just the room for their pictures and numbers
pub record HasRoom (q : Inside) : Type 0 where
  pub carried : All (λ i. IsCarried q.rule (shown_item i)) q.fifo.items
  pub of_it : All (IsItemOf q.token.name) q.fifo.items
  pub fits : length q.fifo.items ≤ q.fifo.room
  pub shown : q.shown.items ≡ []
  pub shown_room : vec_capacity q.shown ≡ q.fifo.room
  pub numbers : q.numbers.items ≡ []
  pub numbers_room : vec_capacity q.numbers ≡ q.fifo.room
