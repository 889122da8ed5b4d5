-- To which node the transmissions go next that a record shows.
use Rattle.std.specs.Prelude.{ℕ, if◌then◌else◌, Option, None, Some, slice_get, ⊤}
use Rattle.std.specs.List.{AllByRecursion, filter_map, list_any}
use Rattle.csp_base.specs.declared.traces.Origin.{Origin}
use Rattle.csp_iface.specs.Sending.{next_node}
use Rattle.csp_log.specs.declared.entry.Entry.{Entry}
use Rattle.csp_log.specs.declared.places.QueueId.TheVariants as queue
use Rattle.csp_log.specs.declared.shown.AnswerShown.{AnswerShown}
use Rattle.csp_log.specs.declared.shown.AnswerShown.TheVariants as answer
use Rattle.csp_log.specs.declared.shown.ItemShown.{ItemShown}
use Rattle.csp_log.specs.declared.shown.ItemShown.TheVariants as item
use Rattle.csp_log.specs.declared.shown.OpShown.{OpShown}
use Rattle.csp_log.specs.declared.shown.OpShown.TheVariants as op
use Rattle.csp_record.specs.Record.{PlainRecord}
use Rattle.csp_record.specs.Transmissions.{is_beginning, iface_entries}
use Rattle.csp_log.specs.declared.who.Who.TheVariants as who
use Rattle.csp_stack.specs.Comes.{IsHop}
use Rattle.csp_consistent.specs.Reading.{entries_of, gets}

-- the node to which a packet goes next that was popped from an `Out`
abbrev pub goes_to : OpShown → AnswerShown → Option ℕ
goes_to (op.Pop (queue.Out number)) (answer.Popped (item.Packet mark packet)) = Some (next_node mark packet.header)
goes_to _ _ = None

-- the node to which the transmission of this serial goes next, where an entry shows it
abbrev pub addressed_in : ℕ → Entry → Option ℕ
addressed_in serial e = (if list_any (is_beginning serial) e.events.items then goes_to e.op e.answer else None)

-- the node to which the transmission goes next that an origin names, by the first entry of its interface that shows it: its next hop, or its
-- destination where it has none
abbrev pub addressee : PlainRecord → Origin → Option ℕ
addressee r origin = slice_get (filter_map (addressed_in origin.serial) (iface_entries r.parties origin.node origin.iface)) 0

-- a packet is marked with the address of a next hop, or not at all
abbrev pub IsHopItem : ItemShown → Type 0
IsHopItem (item.Packet mark b) = IsHop mark
IsHopItem (item.Frame _) = ⊤
IsHopItem (item.Note _) = ⊤

-- each packet that an interface got from its `Out` is marked with the address of a next hop, or not at all
abbrev pub AreHopsOut : PlainRecord → Type 0
AreHopsOut r = (node number : ℕ) → AllByRecursion IsHopItem (gets (queue.Out number) (entries_of r (who.Iface node number)))
