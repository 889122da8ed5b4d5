-- What is read off a record: the entries of a party, what they put into a queue and got from it, and what was left there.
use Rattle.std.specs.Prelude.{ℕ, ◌==◌, ◌&&◌, Bool, true, false, if◌then◌else◌, List, [], ◌∷◌}
use Rattle.std.specs.List.{flat_map}
use Rattle.csp_base.specs.declared.priority.Prio.{Prio}
use Rattle.csp_base.specs.Priority.{prio_number}
use Rattle.csp_deck.specs.Carried.{priority_of}
use Rattle.csp_log.specs.Remains.{PlainLeft}
use Rattle.csp_log.specs.declared.entry.Entry.{Entry}
use Rattle.csp_log.specs.declared.places.QueueId.{QueueId}
use Rattle.csp_log.specs.declared.places.QueueId.TheVariants as queue
use Rattle.csp_log.specs.declared.shown.ItemShown.{ItemShown}
use Rattle.csp_log.specs.declared.shown.ItemShown.TheVariants as item
use Rattle.csp_log.specs.declared.shown.OpShown.{OpShown}
use Rattle.csp_log.specs.declared.shown.OpShown.TheVariants as op
use Rattle.csp_log.specs.declared.shown.AnswerShown.{AnswerShown}
use Rattle.csp_log.specs.declared.shown.AnswerShown.TheVariants as answer
use Rattle.csp_record.specs.Record.{PlainRecord}
use Rattle.csp_log.specs.Who.{is_who}
use Rattle.csp_log.specs.declared.who.Who.{Who}

-- whether a queue is the one of this name
abbrev pub is_queue : QueueId → QueueId → Bool
is_queue queue.Inbox queue.Inbox = true
is_queue (queue.Up number) (queue.Up k) = k == number
is_queue (queue.Down number) (queue.Down k) = k == number
is_queue (queue.Out number) (queue.Out k) = k == number
is_queue (queue.Tx number) (queue.Tx k) = k == number
is_queue (queue.Rx number) (queue.Rx k) = k == number
is_queue _ _ = false

-- the entries of a party
abbrev pub entries_of : PlainRecord → Who → List Entry
entries_of r w = flat_map (λ party. if is_who w party.who then party.entries else []) r.parties

-- the item that a turn put into a queue of its party, if it did, and the item that it got there
abbrev pub put_by : QueueId → OpShown → AnswerShown → List ItemShown
put_by q (op.Push other i) answer.Pushed = (if is_queue q other then i ∷ [] else [])
put_by q _ _ = []

-- what an operation and its answer got from a queue
abbrev pub got_by : QueueId → OpShown → AnswerShown → List ItemShown
got_by q (op.Pop other) (answer.Popped i) = (if is_queue q other then i ∷ [] else [])
got_by q _ _ = []

-- all that entries put there, and all that they got, in order of time
abbrev pub puts : QueueId → List Entry → List ItemShown
puts q es = flat_map (λ e. put_by q e.op e.answer) es

-- what entries got from a queue, in order
abbrev pub gets : QueueId → List Entry → List ItemShown
gets q es = flat_map (λ e. got_by q e.op e.answer) es

-- what was left in a queue of a node: of the inbox in that of a priority, 0 to 3, and of a lane with 0
abbrev pub left_here : ℕ → QueueId → ℕ → PlainLeft → List ItemShown
left_here node q prio l = (if l.node == node && is_queue q l.queue && l.prio == prio then l.items else [])

-- what a record says was left in a queue of a node
abbrev pub left_in : PlainRecord → ℕ → QueueId → ℕ → List ItemShown
left_in r node q prio = flat_map (left_here node q prio) r.left

-- the packets of a priority
abbrev pub of_priority : Prio → ItemShown → List ItemShown
of_priority p (item.Packet mark b) = (if prio_number (priority_of b) == prio_number p then item.Packet mark b ∷ [] else [])
of_priority p (item.Frame _) = []
of_priority p (item.Note _) = []

-- the packets of one priority among items
abbrev pub with_priority : Prio → List ItemShown → List ItemShown
with_priority p is = flat_map (of_priority p) is

-- the packets with a mark
abbrev pub of_mark : ℕ → ItemShown → List ItemShown
of_mark mark (item.Packet m b) = (if m == mark then item.Packet m b ∷ [] else [])
of_mark mark (item.Frame _) = []
of_mark mark (item.Note _) = []

-- the packets with one mark among items
abbrev pub with_mark : ℕ → List ItemShown → List ItemShown
with_mark mark is = flat_map (of_mark mark) is
