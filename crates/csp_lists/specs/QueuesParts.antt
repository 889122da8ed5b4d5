-- how queues are kept
use Rattle.std.specs.Prelude.{◌≡◌, ◌+◌, ◌≤◌, All, map, vec_len, vec_capacity}
use Rattle.csp_lists.specs.Regioned.{QueuesAt}
use Rattle.csp_lists.specs.declared.queues.Queues.TheInside.{Inside}

-- the queues as contracts see them
abbrev pub queues_seen : Inside → QueuesAt
queues_seen q = record { region = q.token.name; queues = map (λ x. x.queue) q.list.items }

-- each queue is of the region of them all, and there is room for one more at most
pub record AreOfOne (q : Inside) : Type 0 where
  pub of_it : All (λ x. x.region ≡ q.token.name) q.list.items
  pub room : vec_capacity q.list ≤ vec_len q.list + 1
