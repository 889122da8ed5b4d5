-- the router as one who takes turns
use Rattle.std.specs.Prelude.{◌≡◌, ◌≢◌, ℕ, ◌+◌, ◌<◌, ◌≤◌, false, cond, nat_lt, List, [], length, Option, None, Some, IfSome, ⊤}
use Rattle.csp_deck.specs.Carried.{IsCarriedIn, IsUpItem}
use Rattle.csp_deck.specs.Step.{IsCleared, Kind, nothing, taking, giving, pushing, popping}
use Rattle.csp_log.specs.declared.event.Event.{Event}
use Rattle.csp_log.specs.declared.places.Carries.TheVariants as lane
use Rattle.csp_log.specs.declared.places.QueueId.{QueueId}
use Rattle.csp_log.specs.declared.places.QueueId.TheVariants as queue
use Rattle.csp_log.specs.declared.places.Rule.{Rule}
use Rattle.csp_log.specs.declared.places.Rule.TheVariants as rule
use Rattle.csp_log.specs.declared.shown.AnswerShown.{AnswerShown}
use Rattle.csp_log.specs.declared.shown.ItemShown.{ItemShown}
use Rattle.csp_log.specs.declared.shown.ItemShown.TheVariants as item
use Rattle.csp_log.specs.declared.shown.OpShown.{OpShown}
use Rattle.csp_route.specs.Routes.{IsWithin}
use Rattle.csp_base.specs.declared.seat.Seat.{Seat}
use Rattle.csp_conn.specs.PlainConns.{IsThere}
use Rattle.csp_ports.specs.Counts.{greatest}
use Rattle.csp_ports.specs.Held.{held}
use Rattle.csp_ports.specs.PlainPorts.{machine_at, stalls_of, waiting}
use Rattle.csp_rdp.specs.Jobs.{job_of}
use Rattle.csp_rdp.specs.declared.answers.State.TheVariants.{Open}
use Rattle.csp_rdp.specs.declared.jobs.Job.TheVariants.{Deliver}
use Rattle.csp_rdp_header.specs.declared.options.TheConstants.{MAX_WINDOW}
use Rattle.csp_rdp_window.specs.Receiving.{is_kept}
use Rattle.csp_stack.specs.Readings.{buffer_in, item_in}
use Rattle.csp_stack.specs.Router.{Facts, Leaving, State, Router}
use Rattle.csp_stack.specs.Turn.{asks_at, asked_at, told_at}
use Rattle.csp_stack.specs.declared.plan.Plan.{Plan}
use Rattle.csp_stack.specs.declared.plan.Plan.TheVariants as plan
use Rattle.csp_stack.specs.declared.state.TheConstants.{TRASH_ROOM}

-- the queues that it uses: the inbox, those from and to its applications, and those to its interfaces
abbrev pub rules_of : Facts → QueueId → Option Rule
rules_of f queue.Inbox = Some rule.Inbox
rules_of f (queue.Up k) = cond (nat_lt k f.apps) (Some (rule.Lane lane.Up)) None
rules_of f (queue.Down k) = cond (nat_lt k f.apps) (Some (rule.Lane lane.Down)) None
rules_of f (queue.Out k) = cond (nat_lt k (length f.ifaces)) (Some (rule.Lane lane.Out)) None
rules_of f (queue.Tx _) = None
rules_of f (queue.Rx _) = None

-- what a router asks in its turn
abbrev pub asks_of : Router → ℕ → OpShown
asks_of r time = asks_at r.facts r.state time

-- the router from its question until the answer
abbrev pub asked_of : Router → ℕ → Router
asked_of r time = record r { state = asked_at r.facts r.state time }

-- the kind of what it waits for
abbrev pub kind_of_plan : Plan → Kind
kind_of_plan plan.Rest = nothing
kind_of_plan plan.Give = giving
kind_of_plan (plan.Push queue _) = pushing queue
kind_of_plan plan.Hear = popping queue.Inbox
kind_of_plan (plan.Serve k) = popping (queue.Up k)
kind_of_plan (plan.Reply k) = pushing (queue.Down k)
kind_of_plan (plan.Tell seat) = pushing (queue.Down seat.app)
kind_of_plan (plan.Deliver seat) = pushing (queue.Down seat.app)
kind_of_plan (plan.Make _ _) = taking

-- what a router waits for
abbrev pub awaits_of : Router → Kind
awaits_of r = kind_of_plan r.state.doing

-- the greatest of the numbers that its turns raise
abbrev pub count_of : Router → ℕ
count_of r = greatest r.state.ports

-- what a router is once it was told an answer
abbrev pub told_of : Router → ℕ → AnswerShown → Router
told_of r time a = record r { state = (told_at r.facts r.state time a).state }

-- what a router reports of an answer
abbrev pub events_of : Router → ℕ → AnswerShown → List Event
events_of r time a = (told_at r.facts r.state time a).events

-- a packet that is to go out is one that its queue carries
abbrev pub IsSendable : Facts → Option Leaving → Type 0
IsSendable f None = ⊤
IsSendable f (Some o) = IsCarriedIn (rules_of f o.queue) (item.Packet o.mark o.buffer)

-- nothing is in the way of a packet, and the timers had nothing to report
pub record IsClear (s : State) : Type 0 where
  pub trash : s.trash ≡ []
  pub out : s.out ≡ None
  pub early : s.early ≡ []

-- the connection on a slot is open, and the packet that it is to deliver was taken out
pub record IsDelivering (s : State) (seat : Seat) : Type 0 where
  pub is_open : (machine_at s.ports seat).state ≡ Open
  pub is_taken : is_kept (machine_at s.ports seat).recv ((machine_at s.ports seat).recv.cur + 1) ≡ false

-- what came back has its place: a buffer in the trash, a packet where nothing else is, or with the connection that it was taken from; and an
-- answer to an application is owed alone, as a packet of it waits for room alone
abbrev pub HasPlace : Plan → State → Type 0
HasPlace plan.Rest s = s.early ≡ []
HasPlace plan.Give s = length s.trash + length (held s.ports) < TRASH_ROOM
HasPlace (plan.Push _ _) s = IsClear s
HasPlace plan.Hear s = IsClear s
HasPlace (plan.Serve k) s = IsClear s × (waiting k s.ports.owed ≡ 0) × (stalls_of k s.ports.slots ≡ 0)
HasPlace (plan.Reply _) s = IsClear s
HasPlace (plan.Tell seat) s = IsClear s × IsThere s.ports.conns seat
HasPlace (plan.Deliver seat) s = IsClear s × IsThere s.ports.conns seat × IsDelivering s seat
HasPlace (plan.Make seat _) s = IsClear s × IsThere s.ports.conns seat

-- a packet that waits for its buffer is the one that its connection owes at this time
abbrev pub IsWaiting : Plan → State → ℕ → Type 0
IsWaiting plan.Rest s time = ⊤
IsWaiting plan.Give s time = ⊤
IsWaiting (plan.Push _ _) s time = ⊤
IsWaiting plan.Hear s time = ⊤
IsWaiting (plan.Serve _) s time = ⊤
IsWaiting (plan.Reply _) s time = ⊤
IsWaiting (plan.Tell _) s time = ⊤
IsWaiting (plan.Deliver _) s time = ⊤
IsWaiting (plan.Make seat j) s time = (job_of time (machine_at s.ports seat) ≡ Some j) × (j ≢ Deliver)

-- the times at which it may be told
abbrev pub waits_of : Router → ℕ → Type 0
waits_of r time = IsWaiting r.state.doing r.state time

-- what holds of a router before and after each question and answer: its trash is never past its room, not even with all that its ports
-- hold; what comes has its place, what is to go out can go, each route leads to an interface of the node, its ports are those of its
-- applications, and the window of its connections is one that a connection may have
pub record IsSound (f : Facts) (s : State) : Type 0 where
  pub room : length s.trash + length (held s.ports) ≤ TRASH_ROOM
  pub place : HasPlace s.doing s
  pub sendable : IsSendable f s.out
  pub within : IsWithin (length f.ifaces) s.routes
  pub apps : s.ports.conns.apps ≡ f.apps
  pub low : 1 ≤ f.options.window
  pub high : f.options.window ≤ MAX_WINDOW

-- and what holds once its timers were tried: where they reported something there is trash
pub record IsTimed (f : Facts) (s : State) : Type 0 where
  pub room : length s.trash + length (held s.ports) ≤ TRASH_ROOM
  pub quiet : s.trash ≡ [] → s.early ≡ []
  pub sendable : IsSendable f s.out
  pub within : IsWithin (length f.ifaces) s.routes
  pub apps : s.ports.conns.apps ≡ f.apps
  pub low : 1 ≤ f.options.window
  pub high : f.options.window ≤ MAX_WINDOW

-- an item of an application that is there, and that its lane carries
pub record IsFrom (f : Facts) (number : ℕ) (i : ItemShown) : Type 0 where
  pub app : number < f.apps
  pub carried : IsUpItem i

-- an answer that brings nothing but what is awaited
abbrev pub Awaits : Facts → Plan → AnswerShown → Type 0
Awaits f plan.Rest a = (buffer_in a ≡ None) × (item_in a ≡ None)
Awaits f plan.Give a = item_in a ≡ None
Awaits f (plan.Push _ _) a = buffer_in a ≡ None
Awaits f plan.Hear a = buffer_in a ≡ None
Awaits f (plan.Serve k) a = (buffer_in a ≡ None) × IfSome (item_in a) (IsFrom f k)
Awaits f (plan.Reply _) a = buffer_in a ≡ None
Awaits f (plan.Tell _) a = buffer_in a ≡ None
Awaits f (plan.Deliver _) a = buffer_in a ≡ None
Awaits f (plan.Make _ _) a = (item_in a ≡ None) × IfSome (buffer_in a) IsCleared
