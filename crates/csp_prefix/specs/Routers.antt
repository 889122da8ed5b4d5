-- What the run of one router gives, by its own log.
use Rattle.std.specs.Prelude.{◌≡◌, ◌⊎◌, ℕ, ◌<◌, ◌≤◌, false, Some, List, ⊤, slice_get}
use Rattle.std.specs.List.{AllByRecursion}
use Rattle.csp_base.specs.Seat.{seat}
use Rattle.csp_base.specs.Trace.{no_trace}
use Rattle.csp_buffer.specs.Content.{Content}
use Rattle.csp_base.specs.declared.limits.TheConstants.{MAX_APPS, SLOTS}
use Rattle.csp_deck.specs.Carried.{IsUpItem}
use Rattle.csp_deck.specs.Runs.{IsRun, Steps}
use Rattle.csp_log.specs.PlainLog.{all_events}
use Rattle.csp_log.specs.declared.entry.Entry.{Entry}
use Rattle.csp_log.specs.declared.places.QueueId.TheVariants as queue
use Rattle.csp_log.specs.declared.shown.AnswerShown.{AnswerShown}
use Rattle.csp_log.specs.declared.shown.AnswerShown.TheVariants as answer
use Rattle.csp_log.specs.declared.shown.ItemShown.{ItemShown}
use Rattle.csp_log.specs.declared.shown.ItemShown.TheVariants as item
use Rattle.csp_log.specs.declared.shown.OpShown.{OpShown}
use Rattle.csp_log.specs.declared.shown.OpShown.TheVariants as op
use Rattle.csp_ports.specs.PlainPorts.{start_of}
use Rattle.csp_record.specs.Connections.{openings}
use Rattle.csp_record.specs.Payloads.{sent}
use Rattle.csp_record.specs.Stale.{is_stale}
use Rattle.csp_record.specs.declared.connections.Opening.{Opening}
use Rattle.csp_route.specs.Routes.{Routes}
use Rattle.csp_stack.specs.Config.{opening_state}
use Rattle.csp_stack.specs.Party.{asks_of, asked_of, events_of, told_of}
use Rattle.csp_stack.specs.Router.{Facts, Router}
use Rattle.csp_prefix.specs.Delivered.{delivered}
use Rattle.csp_prefix.specs.Flows.{Flows, IsGenuine}
use Rattle.csp_prefix.specs.Prefix.{IsBeginning}
use Rattle.csp_consistent.specs.Reading.{gets}

-- a router's step
abbrev pub router_steps : Steps Router
router_steps = record { has_ended = λ _. false; asks = asks_of; asked = asked_of; tells = told_of; events = events_of }

-- a router before its first turn
abbrev pub opening_router : Facts → Routes → Router
opening_router f routes = record { facts = f; state = opening_state f.apps routes }

-- a packet has no trace
abbrev pub IsUntraced : ItemShown → Type 0
IsUntraced (item.Packet mark b) = b.trace ≡ no_trace
IsUntraced (item.Frame _) = ⊤
IsUntraced (item.Note _) = ⊤

-- what came to it from an application is such as its lane carries, and a packet of it has no trace
abbrev pub ComesSo : OpShown → AnswerShown → Type 0
ComesSo (op.Pop (queue.Up k)) (answer.Popped i) = IsUpItem i × IsUntraced i
ComesSo _ _ = ⊤

-- a log of a router of a node that has no more applications than a node may have: a run of its turns from its opening, to which such
-- things came
pub record IsRouterLog (f : Facts) (routes : Routes) (es : List Entry) : Type 0 where
  pub few : f.apps ≤ MAX_APPS
  pub run : IsRun router_steps 0 (opening_router f routes) es
  pub comes : AllByRecursion (λ e. ComesSo e.op e.answer) es

-- a connection of this application with this number became open
pub record IsFlowOf (es : List Entry) (app nth : ℕ) (x : Opening) : Type 0 where
  pub at : ℕ
  pub there : slice_get (openings app es) at ≡ Some x
  pub numbered : x.nth ≡ Some nth

-- each reliable connection of a node has a number of its own
abbrev pub AreNumbered : List Entry → Type 0
AreNumbered es = (app other nth : ℕ) (x y : Opening) → IsFlowOf es app nth x → IsFlowOf es other nth y → (seat app x.slot ≡ seat other y.slot) × (x.ordinal ≡ y.ordinal)

-- each connection that became open is of an application that the node has, on one of its slots
abbrev pub ArePlaced : Facts → List Entry → Type 0
ArePlaced f es = (app at : ℕ) (x : Opening) → slice_get (openings app es) at ≡ Some x → (app < f.apps) × (x.slot < SLOTS)

-- flows are, of this node, those that its router's log shows: what was sent on the connection of each number, and its start
pub record AreShown (f : Facts) (es : List Entry) (flows : Flows) : Type 0 where
  pub said : (app nth : ℕ) (x : Opening) → IsFlowOf es app nth x → flows.said (f.node, nth) ≡ sent (seat app x.slot) x.ordinal es
  pub start : (nth : ℕ) → flows.start (f.node, nth) ≡ start_of f.seed nth

-- a packet came from the inbox
pub record IsHeard (es : List Entry) (b : Content) : Type 0 where
  pub at : ℕ
  pub mark : ℕ
  pub there : slice_get (gets queue.Inbox es) at ≡ Some (item.Packet mark b)

-- what was pushed is of this kind, or goes out as it came from the inbox
abbrev pub PushesSo : (Content → Type 0) → List Entry → OpShown → AnswerShown → Type 0
PushesSo P es (op.Push queue.Inbox (item.Packet mark b)) answer.Pushed = P b
PushesSo P es (op.Push (queue.Out k) (item.Packet mark b)) answer.Pushed = P b ⊎ IsHeard es b
PushesSo P es _ _ = ⊤

-- it sends only packets of this kind, but for what it passes on
abbrev pub SendsOnly : (Content → Type 0) → List Entry → Type 0
SendsOnly P es = AllByRecursion (λ e. PushesSo P es e.op e.answer) es

-- it sends genuine packets
abbrev pub SendsGenuine : Flows → List Entry → Type 0
SendsGenuine flows es = SendsOnly (IsGenuine flows) es

-- a packet of this kind, if it is a packet
abbrev pub IsOfKind : (Content → Type 0) → ItemShown → Type 0
IsOfKind P (item.Packet mark b) = P b
IsOfKind P (item.Frame _) = ⊤
IsOfKind P (item.Note _) = ⊤

-- it hears only packets of this kind: each that came from the inbox is so
abbrev pub HearsOnly : (Content → Type 0) → List Entry → Type 0
HearsOnly P es = AllByRecursion (IsOfKind P) (gets queue.Inbox es)

-- a genuine packet, if it is a packet
abbrev pub IsGenuineItem : Flows → ItemShown → Type 0
IsGenuineItem flows i = IsOfKind (IsGenuine flows) i

-- all that came from the inbox is genuine
abbrev pub HearsGenuine : Flows → List Entry → Type 0
HearsGenuine flows es = HearsOnly (IsGenuine flows) es

-- no copy that was handed to a connection was stale
abbrev pub HasNoStale : List Entry → Type 0
HasNoStale es = AllByRecursion (λ e. is_stale e ≡ false) (all_events es)

-- on each reliable connection with a peer it delivered a beginning of what the peer's flow says
abbrev pub DeliversPrefix : Flows → List Entry → Type 0
DeliversPrefix flows es = (app nth : ℕ) (x : Opening) (peer : ℕ × ℕ) → IsFlowOf es app nth x → x.peer ≡ Some peer → IsBeginning (delivered (seat app x.slot) x.ordinal es) (flows.said peer)

-- so it is with the log of a router: its connections are on its applications' slots, and have numbers of their own; by flows that are, of its node, those of its log, it sends genuine
-- packets; and where it hears such alone, and none was stale, it delivers prefixes
pub record IsTrueRouter (f : Facts) (es : List Entry) : Type 0 where
  pub placed : ArePlaced f es
  pub numbered : AreNumbered es
  pub sends : (flows : Flows) → AreShown f es flows → SendsGenuine flows es
  pub delivers : (flows : Flows) → AreShown f es flows → HearsGenuine flows es → HasNoStale es → DeliversPrefix flows es

-- the claim of routers: each log of one is true
abbrev pub AreTrueRouters : Type 0
AreTrueRouters = (f : Facts) (routes : Routes) (es : List Entry) → IsRouterLog f routes es → IsTrueRouter f es
