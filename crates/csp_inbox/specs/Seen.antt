-- how an inbox and its passes show what their four queues know
use Rattle.std.specs.Prelude.{◌≡◌, true, []}
use Rattle.crossbeam_queue.specs.Passes.{view}
use Rattle.csp_base.specs.declared.priority.Prio.TheVariants.{Critical, High, Normal, Low}
use Rattle.csp_inbox.specs.Passes.{PlainInbox, PlainPass}
use Rattle.csp_inbox.specs.Sorts.{hand}
use Rattle.csp_inbox.specs.declared.inbox.Inbox.TheInside as inbox
use Rattle.csp_inbox.specs.declared.pass.InboxPass.TheInside as pass
use Rattle.csp_ring.specs.Passes.{ring_name, ring_capacity}

-- an inbox is seen as the names of its four queues and their room
abbrev pub plain_inbox : inbox.Inside → PlainInbox
plain_inbox x = record { name = record { critical = ring_name x.critical; high = ring_name x.high; normal = ring_name x.normal; low = ring_name x.low }; room = x.room }

-- the four queues have one room
pub record IsInbox (x : inbox.Inside) : Type 0 where
  pub critical : ring_capacity x.critical ≡ x.room
  pub high : ring_capacity x.high ≡ x.room
  pub normal : ring_capacity x.normal ≡ x.room
  pub low : ring_capacity x.low ≡ x.room

-- a pass is seen as its inbox, its role, and its mail of each priority
abbrev pub plain_pass : pass.Inside → PlainPass
plain_pass p = record {
  inbox = record { critical = p.critical.table_id; high = p.high.table_id; normal = p.normal.table_id; low = p.low.table_id };
  role = (view p.critical).role;
  critical = (view p.critical).mail;
  high = (view p.high).mail;
  normal = (view p.normal).mail;
  low = (view p.low).mail;
}

-- its parts play one role in the four queues, each of its own priority, may put, and hold no slot
pub record IsPass (p : pass.Inside) : Type 0 where
  pub critical : view p.critical ≡ hand (view p.critical).role Critical (view p.critical).mail
  pub high : view p.high ≡ hand (view p.critical).role High (view p.high).mail
  pub normal : view p.normal ≡ hand (view p.critical).role Normal (view p.normal).mail
  pub low : view p.low ≡ hand (view p.critical).role Low (view p.low).mail
  pub writes : (view p.critical).role.writes ≡ true
  pub idle_critical : p.critical.me.1 ≡ []
  pub idle_high : p.high.me.1 ≡ []
  pub idle_normal : p.normal.me.1 ≡ []
  pub idle_low : p.low.me.1 ≡ []
