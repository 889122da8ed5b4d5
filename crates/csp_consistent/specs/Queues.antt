-- Which queues each party uses, and how it marks what it puts into an inbox.
use Rattle.std.specs.Prelude.{◌≡◌, List, ⊤}
use Rattle.std.specs.List.{AllByRecursion}
use Rattle.csp_log.specs.declared.places.QueueId.{QueueId}
use Rattle.csp_log.specs.declared.places.QueueId.TheVariants as queue
use Rattle.csp_log.specs.declared.places.TheConstants.{UNMARKED}
use Rattle.csp_log.specs.declared.shown.ItemShown.{ItemShown}
use Rattle.csp_log.specs.declared.shown.ItemShown.TheVariants as item
use Rattle.csp_log.specs.declared.shown.OpShown.{OpShown}
use Rattle.csp_log.specs.declared.shown.OpShown.TheVariants as op
use Rattle.csp_record.specs.Record.{PlainPartyLog}
use Rattle.csp_log.specs.declared.who.Who.{Who}
use Rattle.csp_log.specs.declared.who.Who.TheVariants as who

-- a router pushes to its applications and its interfaces, and without a mark to its own inbox; a bridge to its interfaces; an interface with
-- its number as the mark to the inbox, and to its link; an application to its `Up`; a link or a hub to the `Rx` at its ends
abbrev pub MayPush : Who → QueueId → ItemShown → Type 0
MayPush (who.Router node) queue.Inbox (item.Packet mark b) = mark ≡ UNMARKED
MayPush (who.Router node) (queue.Down k) i = ⊤
MayPush (who.Router node) (queue.Out k) i = ⊤
MayPush (who.Bridge node) (queue.Out k) i = ⊤
MayPush (who.Iface node number) queue.Inbox (item.Packet mark b) = mark ≡ number
MayPush (who.Iface node number) (queue.Tx k) i = k ≡ number
MayPush (who.App node number) (queue.Up k) i = k ≡ number
MayPush (who.Link number) (queue.Rx k) i = ⊤
MayPush _ _ _ = ⊥

-- a router pops its inbox and its applications, a bridge its inbox, an interface its `Out` and its link, an application its `Down`, a link or a
-- hub the `Tx` at its ends
abbrev pub MayPop : Who → QueueId → Type 0
MayPop (who.Router node) queue.Inbox = ⊤
MayPop (who.Router node) (queue.Up k) = ⊤
MayPop (who.Bridge node) queue.Inbox = ⊤
MayPop (who.Iface node number) (queue.Out k) = k ≡ number
MayPop (who.Iface node number) (queue.Rx k) = k ≡ number
MayPop (who.App node number) (queue.Down k) = k ≡ number
MayPop (who.Link number) (queue.Tx k) = ⊤
MayPop _ _ = ⊥

-- an operation is on queues that the party may use
abbrev pub MayAsk : Who → OpShown → Type 0
MayAsk w (op.Push q i) = MayPush w q i
MayAsk w (op.Pop q) = MayPop w q
MayAsk w op.Nothing = ⊤
MayAsk w op.Take = ⊤
MayAsk w (op.Give _) = ⊤

-- the party of each log asked such alone
abbrev pub UsesItsQueues : PlainPartyLog → Type 0
UsesItsQueues log = AllByRecursion (λ e. MayAsk log.who e.op) log.entries

-- each log is of a party that used its own queues alone
abbrev pub UseTheirQueues : List PlainPartyLog → Type 0
UseTheirQueues logs = AllByRecursion UsesItsQueues logs
