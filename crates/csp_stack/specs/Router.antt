-- the router of a node as plain data: what no turn changes, and what its turns change
use Rattle.std.specs.Prelude.{ℕ, List, [], ◌∷◌, ◌++◌, Option, None, Some}
use Rattle.csp_arena.specs.Cells.{RegionName}
use Rattle.csp_buffer.specs.Content.{Content}
use Rattle.csp_deck.specs.Keeping.{numbers_of}
use Rattle.csp_log.specs.declared.places.QueueId.{QueueId}
use Rattle.csp_route.specs.Routes.{Routes}
use Rattle.csp_service.specs.Facts.{PlainServices}
use Rattle.csp_log.specs.declared.event.Event.{Event}
use Rattle.csp_ports.specs.Held.{emptied, held}
use Rattle.csp_ports.specs.PlainPorts.{PlainPorts}
use Rattle.csp_ports.specs.declared.flows.OwnFlows.{OwnFlows}
use Rattle.csp_rdp_header.specs.declared.options.Options.{Options}
use Rattle.csp_stack.specs.declared.plan.Plan.{Plan}
use Rattle.csp_stack.specs.declared.plan.Plan.TheVariants.{Rest}

-- what no turn changes: its node's place among the nodes, address and name, what its first sequence numbers are
-- drawn from, the options of the reliable connections that it asks for, the number of its applications, and the names of its
-- interfaces in the order of their numbers
pub record Facts : Type 0 where
  pub node : ℕ
  pub addr : ℕ
  pub name : List ℕ
  pub seed : ℕ
  pub options : Options
  pub apps : ℕ
  pub ifaces : List (List ℕ)

-- a packet that is to go out: to which queue, with which mark
pub record Leaving : Type 0 where
  pub queue : QueueId
  pub mark : ℕ
  pub buffer : Content

-- what its reliable connections begin with
abbrev pub flows_of : Facts → OwnFlows
flows_of f = record { node = f.node; seed = f.seed; options = f.options }

-- what turns change: the routing table, the node's ports, what its services keep, the buffers that are to go back to the pool, the packet
-- that is to go out, what the timers of this turn reported, the source with which the next look for work begins, and what is awaited
pub record State : Type 0 where
  pub routes : Routes
  pub ports : PlainPorts
  pub services : PlainServices
  pub trash : List Content
  pub out : Option Leaving
  pub early : List Event
  pub cursor : ℕ
  pub doing : Plan

-- both together
pub record Router : Type 0 where
  pub facts : Facts
  pub state : State

-- the router of these facts in this state
abbrev pub router : Facts → State → Router
router f s = record { facts = f; state = s }

-- and with the region that all its buffers are of
pub record StateAt : Type 0 where
  pub region : RegionName
  pub state : State

-- a router with the region of its buffers
pub record RouterAt : Type 0 where
  pub region : RegionName
  pub router : Router

-- the router with this in place of what it was; its region stays
abbrev pub with_router : RouterAt → Router → RouterAt
with_router r router = record { region = r.region; router = router }

-- the buffer of a packet that is to go out
abbrev pub out_buffers : Option Leaving → List Content
out_buffers None = []
out_buffers (Some o) = o.buffer ∷ []

-- the buffers that a router holds: those in its trash, that of the packet to go out, and those of its ports
abbrev pub buffers : State → List Content
buffers s = s.trash ++ out_buffers s.out ++ held s.ports

-- the numbers of the buffers that a router holds
abbrev pub holds : State → List ℕ
holds s = numbers_of (buffers s)

-- nothing is awaited any more
abbrev pub at_rest : State → State
at_rest s = record s { early = []; doing = Rest }

-- the state without the first of its buffers, as they are taken out at the end of a run: the trash, the packet that is to go out, the ports.
-- Where it holds none it stays
abbrev pub without_first : List Content → Option Leaving → List Content → State → State
without_first (_ ∷ bs) out kept s = at_rest (record s { trash = bs })
without_first [] (Some o) kept s = at_rest (record s { out = None })
without_first [] None (_ ∷ _) s = at_rest (record s { ports = emptied s.ports })
without_first [] None [] s = s

-- the router's state without the first buffer that it holds, at the end of a run
abbrev pub drained : State → State
drained s = without_first s.trash s.out (held s.ports) s
