-- the packets of the transmissions that a record shows
use Rattle.std.specs.Prelude.{ℕ, ◌==◌, Bool, false, if◌then◌else◌, Option, None, Some, List, [], slice_get}
use Rattle.std.specs.List.{flat_map, filter_map, list_any}
use Rattle.csp_base.specs.declared.traces.Origin.{Origin}
use Rattle.csp_buffer.specs.Content.{Content}
use Rattle.csp_log.specs.Moving.{moved_in}
use Rattle.csp_log.specs.declared.entry.Entry.{Entry}
use Rattle.csp_log.specs.declared.event.Event.{Event}
use Rattle.csp_log.specs.declared.event.Event.TheVariants as event
use Rattle.csp_log.specs.declared.moved.Moved.{Moved}
use Rattle.csp_log.specs.declared.moved.Moved.TheVariants as moved
use Rattle.csp_log.specs.declared.places.QueueId.TheVariants as queue
use Rattle.csp_record.specs.Record.{PlainPartyLog, PlainRecord}
use Rattle.csp_log.specs.Who.{is_iface}

-- the packet that was popped from an `Out`
abbrev pub fetched : Moved → Option Content
fetched (moved.Popped (queue.Out number) packet) = Some packet
fetched _ = None

-- an event says that the transmission of this serial began
abbrev pub is_beginning : ℕ → Event → Bool
is_beginning serial (event.Transmitted other) = serial == other
is_beginning serial _ = false

-- the packet of the transmission of this serial, where an entry shows it
abbrev pub shown_in : ℕ → Entry → Option Content
shown_in serial e = (if list_any (is_beginning serial) e.events.items then fetched (moved_in e) else None)

-- the entries of this interface, in the record's order
abbrev pub iface_entries : List PlainPartyLog → ℕ → ℕ → List Entry
iface_entries parties node number = flat_map (λ party. if is_iface node number party.who then party.entries else []) parties

-- the transmission that an origin names: the packet in the first entry of its interface that shows it
abbrev pub transmission : PlainRecord → Origin → Option Content
transmission r origin = slice_get (filter_map (shown_in origin.serial) (iface_entries r.parties origin.node origin.iface)) 0
