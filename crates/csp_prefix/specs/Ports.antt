-- What is to be known of the ports of a node, step by step, where a predicate is known of each reliable connection on a slot.
use Rattle.std.specs.Prelude.{◌≡◌, ◌≢◌, ℕ, ◌+◌, ◌*◌, ◌<◌, ◌≤◌, ◌==◌, ◌&&◌, Bool, true, false, if◌then◌else◌, Option, None, Some, List, [], ◌∷◌, ◌++◌, length, count_by, IfSome, ⊤}
use Rattle.std.specs.List.{AllByRecursion}
use Rattle.std.specs.Option.{option_map}
use Rattle.csp_base.specs.Seat.{seat}
use Rattle.csp_base.specs.declared.priority.Prio.{Prio}
use Rattle.csp_base.specs.declared.seat.Seat.{Seat}
use Rattle.csp_buffer.specs.Content.{Content}
use Rattle.csp_buffer.specs.PlainBuffer.{PlainBuffer}
use Rattle.csp_conn.specs.Opening.{own_port_of}
use Rattle.csp_conn.specs.PlainConns.{slot_at}
use Rattle.csp_conn.specs.Slots.{between}
use Rattle.csp_base.specs.declared.limits.TheConstants.{MAX_APPS, SLOTS, ALL_SLOTS}
use Rattle.csp_conn.specs.declared.slot.Connection.{Connection}
use Rattle.csp_conn.specs.declared.slot.Slot.{Slot}
use Rattle.csp_conn.specs.declared.slot.Slot.TheVariants as has
use Rattle.csp_log.specs.declared.event.Discard.TheVariants as why
use Rattle.csp_log.specs.declared.event.Event.{Event}
use Rattle.csp_log.specs.declared.event.Event.TheVariants as event
use Rattle.csp_log.specs.declared.note.Note.{Note}
use Rattle.csp_log.specs.declared.note.Note.TheVariants as note
use Rattle.csp_ports.specs.Asking.{answered, bind, close, connect}
use Rattle.csp_ports.specs.Asking.{is_reliable}
use Rattle.csp_ports.specs.Came.{Came}
use Rattle.csp_ports.specs.Kept.{IsOwed}
use Rattle.csp_ports.specs.Packets.{accepted, handing, invited, submitting}
use Rattle.csp_ports.specs.PlainPorts.{PlainPorts, machine_at, ports_of, stalled_at, terms_at}
use Rattle.csp_ports.specs.Steps.{timed}
use Rattle.csp_ports.specs.Tasks.{delivered, kept_again, making, told_down, turned, without_packet}
use Rattle.csp_ports.specs.declared.handing.Invitation.{Invitation}
use Rattle.csp_ports.specs.declared.flows.OwnFlows.{OwnFlows}
use Rattle.csp_ports.specs.declared.owed.Owed.{Owed}
use Rattle.csp_ports.specs.declared.request.Request.{Request}
use Rattle.csp_ports.specs.declared.terms.Terms.{Terms}
use Rattle.csp_ports.specs.declared.terms.Wish.{Wish}
use Rattle.csp_ports.specs.declared.terms.Wish.TheVariants as wish
use Rattle.csp_rdp.specs.Jobs.{delivery, job_of}
use Rattle.csp_rdp.specs.Machine.{idle}
use Rattle.csp_rdp.specs.declared.answers.State.TheVariants.{Closed, Open}
use Rattle.csp_rdp.specs.declared.jobs.Job.{Job}
use Rattle.csp_rdp_header.specs.Head.{has_flag}
use Rattle.csp_rdp_header.specs.declared.head.RdpHead.{RdpHead}
use Rattle.csp_rdp_header.specs.declared.head.TheConstants.{SYN}
use Rattle.csp_socket.specs.Bound.{owner_of}
use Rattle.csp_prefix.specs.Slots.{Book, Coming, GoesOn, Now, Numbering, blank}

-- ---- what the log tells of each slot

-- the book of each slot
abbrev pub Books : Type 0
Books = Seat → Book

-- the ordinal of each slot's connection
abbrev pub Ordinals : Type 0
Ordinals = Seat → ℕ

-- whether two seats are one
abbrev pub is_same : Seat → Seat → Bool
is_same one other = one.app == other.app && one.slot == other.slot

-- with another book of one slot
abbrev pub with_book : Seat → Book → Books → Books
with_book seat b books = λ other. if is_same seat other then b else books other

-- with another ordinal of one slot
abbrev pub with_ordinal : Seat → ℕ → Ordinals → Ordinals
with_ordinal seat ordinal ordinals = λ other. if is_same seat other then ordinal else ordinals other

-- a connection became open, a payload was sent, a payload was delivered
abbrev pub with_opened : Seat → Option ℕ × Option (ℕ × ℕ) → Books → Books
with_opened seat how books = with_book seat (record (books seat) { opened = Some how }) books

-- the books with one more payload sent on a slot
abbrev pub with_sent : Seat → List ℕ → Books → Books
with_sent seat payload books = with_book seat (record (books seat) { sent = (books seat).sent ++ payload ∷ [] }) books

-- the books with one more payload delivered on a slot
abbrev pub with_down : Seat → List ℕ → Books → Books
with_down seat payload books = with_book seat (record (books seat) { down = (books seat).down ++ payload ∷ [] }) books

-- the books after an event, and after several
abbrev pub noted_by : Event → Books → Books
noted_by (event.Opened app slot nth peer) books = with_opened (seat app slot) (nth, peer) books
noted_by _ books = books

-- the books after these events
abbrev pub noted : List Event → Books → Books
noted [] books = books
noted (e ∷ es) books = noted es (noted_by e books)

-- each event is none that something was sent; and it tells an opening only of a slot that is there, whose connection was not open before
abbrev pub IsNew : ℕ → Event → Books → Type 0
IsNew apps (event.Opened app slot nth peer) books = (app < apps) × (slot < SLOTS) × ((books (seat app slot)).opened ≡ None)
IsNew apps (event.Sent slot ordinal) books = ⊥
IsNew apps _ books = ⊤

-- each of these events is new to the books at its time
abbrev pub AreNew : ℕ → List Event → Books → Type 0
AreNew apps [] books = ⊤
AreNew apps (e ∷ es) books = IsNew apps e books × AreNew apps es (noted_by e books)

-- ---- the ports between two steps

-- the payload of the packet that waits for room on a slot, where one does
abbrev pub waiting_payload : Option PlainBuffer → Option (List ℕ)
waiting_payload stalled = option_map (λ b. b.picture.payload) stalled

-- with whom the connection on a slot is; with none there, with nobody
abbrev pub connection_in : Slot → Connection
connection_in (has.Open c) = c
connection_in has.Free = between 0 0 0
connection_in has.Held = between 0 0 0

-- the connection on a slot
abbrev pub now_at : PlainPorts → Books → Seat → Now
now_at p books seat = record { connection = connection_in (slot_at p.conns seat); flags = (terms_at p seat).flags; machine = machine_at p seat; ordinal = (terms_at p seat).ordinal; waits = waiting_payload (stalled_at p seat); book = books seat }

-- nothing is on a slot
pub record IsVacant (n : Now) : Type 0 where
  pub machine : n.machine ≡ idle
  pub waits : n.waits ≡ None
  pub book : n.book ≡ blank

-- a plain connection, which is open
pub record IsPlain (n : Now) : Type 0 where
  pub machine : n.machine ≡ idle
  pub waits : n.waits ≡ None
  pub opened : n.book.opened ≡ Some (None, None)

-- of a reliable one the predicate is known
abbrev pub IsInUse : (Numbering → Seat → Now → Type 0) → (is_reliable : Bool) → Numbering → Seat → Now → Type 0
IsInUse Is true m seat n = Is m seat n
IsInUse Is false m seat n = IsPlain n

-- what is known of a slot: vacant, or with a machine of which that is known
abbrev pub IsSlot : (Numbering → Seat → Now → Type 0) → Slot → Terms → Numbering → Seat → Now → Type 0
IsSlot Is has.Free t m seat n = IsVacant n × (t.wish ≡ wish.Nothing)
IsSlot Is has.Held t m seat n = IsVacant n
IsSlot Is (has.Open c) t m seat n = IsInUse Is (is_reliable t.flags) m seat n

-- a note is the answer to the close of a slot; it is owed to an application
abbrev pub is_end : ℕ → Note → Bool
is_end slot (note.Closed s) = s == slot
is_end slot _ = false

-- an answer owed to an application is the end of this slot
abbrev pub is_end_of : Seat → Owed → Bool
is_end_of seat o = o.app == seat.app && is_end seat.slot o.note

-- how many such answers there are to be
abbrev pub ends_due : Wish → ℕ
ends_due wish.Ended = 1
ends_due wish.Nothing = 0
ends_due wish.Connection = 0
ends_due wish.End = 0

-- what holds of the ports between two turns
pub record AreGood (Is : Numbering → Seat → Now → Type 0) (m : Numbering) (ordinals : Ordinals) (books : Books) (p : PlainPorts) : Type 0 where
  pub few : p.conns.apps ≤ MAX_APPS
  pub conns : length p.conns.slots ≡ p.conns.apps * SLOTS
  pub states : length p.slots ≡ ALL_SLOTS
  pub made : p.made ≡ m.made
  pub owners : (port : ℕ) → IfSome (owner_of p.bound port) (λ o. o.0 < p.conns.apps)
  pub owed : AllByRecursion (IsOwed p.conns.apps) p.owed
  pub counted : (seat : Seat) → seat.app < p.conns.apps → seat.slot < SLOTS → (terms_at p seat).ordinal ≡ ordinals seat
  pub waits : (seat : Seat) → seat.app < p.conns.apps → seat.slot < SLOTS → (payload : List ℕ) → waiting_payload (stalled_at p seat) ≡ Some payload → (machine_at p seat).state ≡ Open
  pub ends : (seat : Seat) → seat.app < p.conns.apps → seat.slot < SLOTS → count_by (is_end_of seat) p.owed ≡ ends_due (terms_at p seat).wish
  pub over : (seat : Seat) → seat.app < p.conns.apps → seat.slot < SLOTS → (terms_at p seat).wish ≡ wish.Ended → (machine_at p seat).state ≡ Closed
  pub slots : (seat : Seat) → seat.app < p.conns.apps → seat.slot < SLOTS → IsSlot Is (slot_at p.conns seat) (terms_at p seat) m seat (now_at p books seat)

-- a step of the ports keeps that, with what it reports noted in the books
pub record Comes (Is : Numbering → Seat → Now → Type 0) (m : Numbering) (ordinals : Ordinals) (books : Books) (apps : ℕ) (c : Came) : Type 0 where
  pub same : c.ports.conns.apps ≡ apps
  pub new : AreNew apps c.events books
  pub good : AreGood Is m ordinals (noted c.events books) c.ports

-- and so does one that may have made a connection
pub record ComesWith (Is : Numbering → Seat → Now → Type 0) (m : Numbering) (ordinals : Ordinals) (books : Books) (apps : ℕ) (c : Came) : Type 0 where
  pub after : Numbering
  pub goes_on : GoesOn m after
  pub comes : Comes Is after ordinals books apps c

-- a reliable connection is on a slot
pub record IsReliableOn (p : PlainPorts) (seat : Seat) : Type 0 where
  pub connection : Connection
  pub there : slot_at p.conns seat ≡ has.Open connection
  pub reliable : is_reliable (terms_at p seat).flags ≡ true

-- a packet of an application on such a connection is sent, and the log tells so; or nothing comes of it
pub record Submits (Is : Numbering → Seat → Now → Type 0) (m : Numbering) (ordinals : Ordinals) (books : Books) (p : PlainPorts) (seat : Seat) (b : Content) (c : Came) : Type 0 where
  pub same : c.ports.conns.apps ≡ p.conns.apps
  pub sent : (machine_at p seat).state ≡ Open → (c.events ≡ event.Sent seat.slot (terms_at p seat).ordinal ∷ []) × AreGood Is m ordinals (with_sent seat b.payload books) c.ports
  pub not_sent : (machine_at p seat).state ≢ Open → (c.events ≡ event.Discarded why.NoConn ∷ []) × AreGood Is m ordinals books c.ports

-- the first answer that is owed is pushed: that to a close ends the slot's connection
abbrev pub ordinals_after : ℕ → Note → Ordinals → Ordinals
ordinals_after app (note.Closed slot) ordinals = with_ordinal (seat app slot) (ordinals (seat app slot) + 1) ordinals
ordinals_after app _ ordinals = ordinals

-- the books once a note was pushed: those of a closed slot are blank
abbrev pub books_after : ℕ → Note → Books → Books
books_after app (note.Closed slot) books = with_book (seat app slot) blank books
books_after app _ books = books

-- what an owed answer leaves good, once it is pushed
pub record Answers (Is : Numbering → Seat → Now → Type 0) (m : Numbering) (ordinals : Ordinals) (books : Books) (apps : ℕ) (o : Owed) (c : Came) : Type 0 where
  pub same : c.ports.conns.apps ≡ apps
  pub quiet : c.events ≡ []
  pub good : AreGood Is m (ordinals_after o.app o.note ordinals) (books_after o.app o.note books) c.ports

-- a reliable connection that an application asks for is so, whatever own port it is given
abbrev pub IsAskedSo : Coming → PlainPorts → Request → Type 0
IsAskedSo C p r = is_reliable r.flags ≡ true → (own : ℕ) → own_port_of p.conns r.dest r.from ≡ Some own → C.asked (between r.dest r.port own) r.flags

-- ---- every step of the ports keeps it

-- each step of a node's ports keeps what is known of its machines
pub record ArePortsKept (o : OwnFlows) (C : Coming) (Is : Numbering → Seat → Now → Type 0) : Type 0 where
  pub opens : (apps : ℕ) (home : ℕ → Seat × ℕ) → apps ≤ MAX_APPS → AreGood Is (record { made = 0; home = home }) (λ _. 0) (λ _. blank) (ports_of apps)
  pub times : (m : Numbering) (ordinals : Ordinals) (books : Books) (p : PlainPorts) (time : ℕ) → AreGood Is m ordinals books p → Comes Is m ordinals books p.conns.apps (timed time p)
  pub turns : (m : Numbering) (ordinals : Ordinals) (books : Books) (p : PlainPorts) (seat : Seat) → AreGood Is m ordinals books p → AreGood Is m ordinals books (turned seat p)
  pub binds : (m : Numbering) (ordinals : Ordinals) (books : Books) (p : PlainPorts) (app port need : ℕ) → app < p.conns.apps → AreGood Is m ordinals books p → AreGood Is m ordinals books (bind p app port need)
  pub connects : (m : Numbering) (ordinals : Ordinals) (books : Books) (p : PlainPorts) (r : Request) (time : ℕ) → r.seat.app < p.conns.apps → r.seat.slot < SLOTS → IsAskedSo C p r
      → AreGood Is m ordinals books p → ComesWith Is m ordinals books p.conns.apps (connect o p r time)
  pub closes : (m : Numbering) (ordinals : Ordinals) (books : Books) (p : PlainPorts) (seat : Seat) (time : ℕ) → seat.app < p.conns.apps → seat.slot < SLOTS → stalled_at p seat ≡ None
      → AreGood Is m ordinals books p → Comes Is m ordinals books p.conns.apps (close p seat time)
  pub accepts : (m : Numbering) (ordinals : Ordinals) (books : Books) (p : PlainPorts) (seat : Seat) (c : Connection) (prio : Prio) (flags : ℕ) → seat.app < p.conns.apps → seat.slot < SLOTS
      → slot_at p.conns seat ≡ has.Free → is_reliable flags ≡ false
      → AreGood Is m ordinals books p → AreGood Is m ordinals (with_opened seat (None, None) books) (accepted p seat c prio flags)
  pub invites : (m : Numbering) (ordinals : Ordinals) (books : Books) (p : PlainPorts) (seat : Seat) (c : Connection) (prio : Prio) (flags : ℕ) (i : Invitation) (time : ℕ) → seat.app < p.conns.apps → seat.slot < SLOTS
      → slot_at p.conns seat ≡ has.Free → is_reliable flags ≡ true → has_flag i.head SYN ≡ true → C.invites c flags i.head i.tag
      → AreGood Is m ordinals books p → ComesWith Is m ordinals books p.conns.apps (invited o i seat time (accepted p seat c prio flags))
  pub hands : (m : Numbering) (ordinals : Ordinals) (books : Books) (p : PlainPorts) (seat : Seat) (h : RdpHead) (b : Content) (time : ℕ) → seat.app < p.conns.apps → seat.slot < SLOTS
      → IsReliableOn p seat → C.fed (connection_in (slot_at p.conns seat)) (machine_at p seat) h b.trace.tag b.payload
      → AreGood Is m ordinals books p → Comes Is m ordinals books p.conns.apps (handing p seat h b time)
  pub submits : (m : Numbering) (ordinals : Ordinals) (books : Books) (p : PlainPorts) (seat : Seat) (b : Content) (time : ℕ) → seat.app < p.conns.apps → seat.slot < SLOTS
      → IsReliableOn p seat → stalled_at p seat ≡ None
      → AreGood Is m ordinals books p → Submits Is m ordinals books p seat b (submitting p seat b time)
  pub owes : (m : Numbering) (ordinals : Ordinals) (books : Books) (p : PlainPorts) (seat : Seat) (time : ℕ) (j : Job) → seat.app < p.conns.apps → seat.slot < SLOTS → job_of time (machine_at p seat) ≡ Some j
      → AreGood Is m ordinals books p → IsReliableOn p seat × Is m seat (now_at p books seat)
  pub makes : (m : Numbering) (ordinals : Ordinals) (books : Books) (p : PlainPorts) (seat : Seat) (time : ℕ) (j : Job) → seat.app < p.conns.apps → seat.slot < SLOTS → job_of time (machine_at p seat) ≡ Some j
      → AreGood Is m ordinals books p → AreGood Is m ordinals books (making j time seat p)
  pub delivers : (m : Numbering) (ordinals : Ordinals) (books : Books) (p : PlainPorts) (seat : Seat) (time : ℕ) (b : PlainBuffer) → seat.app < p.conns.apps → seat.slot < SLOTS → delivery (machine_at p seat) ≡ Some b
      → AreGood Is m ordinals books p → Comes Is m ordinals (with_down seat b.picture.payload books) p.conns.apps (delivered time seat (without_packet seat p))
  pub keeps : (m : Numbering) (ordinals : Ordinals) (books : Books) (p : PlainPorts) (seat : Seat) (b : PlainBuffer) → seat.app < p.conns.apps → seat.slot < SLOTS → delivery (machine_at p seat) ≡ Some b
      → AreGood Is m ordinals books p → AreGood Is m ordinals books (kept_again seat b.picture (without_packet seat p))
  pub tells : (m : Numbering) (ordinals : Ordinals) (books : Books) (p : PlainPorts) (seat : Seat) → AreGood Is m ordinals books p → AreGood Is m ordinals books (told_down seat p)
  pub answers : (m : Numbering) (ordinals : Ordinals) (books : Books) (p : PlainPorts) (first : Owed) (rest : List Owed) → p.owed ≡ first ∷ rest
      → AreGood Is m ordinals books p → Answers Is m ordinals books p.conns.apps first (answered p)
