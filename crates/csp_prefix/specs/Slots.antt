-- What is to be known of a reliable connection on a slot, step by step: a predicate that each step of the connection keeps holds of it at
-- every time, whatever the predicate says.
use Rattle.std.specs.Prelude.{◌≡◌, ◌⊎◌, ◌≢◌, ℕ, ◌+◌, ◌<◌, ◌≤◌, true, false, Option, None, Some, List, [], ◌∷◌, ◌++◌}
use Rattle.csp_base.specs.declared.seat.Seat.{Seat}
use Rattle.csp_base.specs.declared.traces.Tag.{Tag}
use Rattle.csp_buffer.specs.PlainBuffer.{PlainBuffer}
use Rattle.csp_conn.specs.declared.slot.Connection.{Connection}
use Rattle.csp_ports.specs.PlainPorts.{start_of}
use Rattle.csp_ports.specs.declared.flows.OwnFlows.{OwnFlows}
use Rattle.csp_rdp.specs.Holding.{rested}
use Rattle.csp_rdp.specs.Jobs.{admitting, closing, delivering, delivery, job_of, keeping_again, sent, ticked, without_delivery}
use Rattle.csp_rdp.specs.Machine.{PlainRdp, accepting, connecting}
use Rattle.csp_rdp.specs.Table.{after_packet}
use Rattle.csp_rdp.specs.declared.answers.State.{State}
use Rattle.csp_rdp.specs.declared.answers.State.TheVariants.{Open, SynRcvd, SynSent}
use Rattle.csp_rdp.specs.declared.jobs.Job.{Job}
use Rattle.csp_rdp_header.specs.Head.{has_flag}
use Rattle.csp_rdp_header.specs.declared.head.RdpHead.{RdpHead}
use Rattle.csp_rdp_header.specs.declared.head.TheConstants.{SYN}
use Rattle.csp_rdp_header.specs.declared.options.Options.{Options}
use Rattle.csp_ports.specs.Steps.{has_room}

-- what the log tells of the present connection of a slot: how it became open, if it did (its number and its peer), what was sent on it, and
-- what was delivered
pub record Book : Type 0 where
  pub opened : Option (Option ℕ × Option (ℕ × ℕ))
  pub sent : List (List ℕ)
  pub down : List (List ℕ)

-- a slot's book before anything was opened, sent or delivered
abbrev pub blank : Book
blank = record { opened = None; sent = []; down = [] }

-- a connection on a slot: with whom it is, the flags of its packets, its machine, its ordinal, the payload of the packet that waits for room in
-- its window, and what the log tells of it
pub record Now : Type 0 where
  pub connection : Connection
  pub flags : ℕ
  pub machine : PlainRdp
  pub ordinal : ℕ
  pub waits : Option (List ℕ)
  pub book : Book

-- with another machine
abbrev pub with_machine : PlainRdp → Now → Now
with_machine r n = record n { machine = r }

-- with this payload waiting for room, or none
abbrev pub waiting_for : Option (List ℕ) → Now → Now
waiting_for payload n = record n { waits = payload }

-- once the connection is open: its number and its peer are in the book
abbrev pub after_opening : Now → Now
after_opening n = record n { book = record n.book { opened = Some (Some n.machine.nth, n.machine.peer) } }

-- once this payload was sent
abbrev pub after_sending : List ℕ → Now → Now
after_sending payload n = record n { book = record n.book { sent = n.book.sent ++ payload ∷ [] } }

-- once this payload was delivered
abbrev pub after_delivering : List ℕ → Now → Now
after_delivering payload n = record n { book = record n.book { down = n.book.down ++ payload ∷ [] } }

-- a new connection: nothing is told of it
abbrev pub begun : Connection → (flags : ℕ) → PlainRdp → (ordinal : ℕ) → Now
begun c flags r ordinal = record { connection = c; flags = flags; machine = r; ordinal = ordinal; waits = None; book = blank }

-- how far the numbers of a node's connections have come, and at which seat and ordinal the connection of each was made
pub record Numbering : Type 0 where
  pub made : ℕ
  pub home : ℕ → Seat × ℕ

-- one goes on from another: no number has another home than before
pub record GoesOn (old new : Numbering) : Type 0 where
  pub more : old.made ≤ new.made
  pub same : (n : ℕ) → n < old.made → new.home n ≡ old.home n

-- a connection becomes open by a step from a state to another
abbrev pub Opens : State → State → Type 0
Opens SynSent Open = Unit {0}
Opens SynRcvd Open = Unit {0}
Opens _ _ = ⊥

-- what is to be known of what comes to the connections of a node: of a packet that is handed to one (the connection, its machine, the head, the tag
-- and the payload), of one that opens a connection (the connection, the flags of its packets, the head and the tag), and of a connection that an
-- application asks for (with the flags of its packets)
pub record Coming : Type 1 where
  pub fed : Connection → PlainRdp → RdpHead → Option Tag → List ℕ → Type 0
  pub invites : Connection → (flags : ℕ) → RdpHead → Option Tag → Type 0
  pub asked : Connection → (flags : ℕ) → Type 0

-- a predicate of numbering, seat and connection is kept by each step of the connections of a node, which begin so, where all that
-- comes to them is so
pub record IsKept (o : OwnFlows) (C : Coming) (Is : Numbering → Seat → Now → Type 0) : Type 0 where
  -- other connections of the node are made
  pub grows : (m m' : Numbering) (seat : Seat) (n : Now) → GoesOn m m' → Is m seat n → Is m' seat n
  -- it is made, with the number that comes next
  pub connects : (m : Numbering) (seat : Seat) (ordinal time : ℕ) (c : Connection) (flags : ℕ) → m.home m.made ≡ (seat, ordinal) → C.asked c flags
      → Is (record m { made = m.made + 1 }) seat (begun c flags (connecting (start_of o.seed m.made) o.options o.node m.made time) ordinal)
  pub accepts : (m : Numbering) (seat : Seat) (ordinal time : ℕ) (c : Connection) (flags : ℕ) (h : RdpHead) (tag : Option Tag) (options : Options) → m.home m.made ≡ (seat, ordinal)
      → has_flag h SYN ≡ true → C.invites c flags h tag
      → Is (record m { made = m.made + 1 }) seat (begun c flags (accepting (start_of o.seed m.made) options h.seq.0 tag o.node m.made time) ordinal)
  -- before it is open nothing was told of it, and no packet waits; nor of one that never was
  pub early : (m : Numbering) (seat : Seat) (n : Now) → Is m seat n → (n.machine.state ≡ SynSent) ⊎ (n.machine.state ≡ SynRcvd) → (n.book ≡ blank) × (n.waits ≡ None)
  pub never : (m : Numbering) (seat : Seat) (n : Now) → Is m seat n → n.machine.was_open ≡ false → (n.book ≡ blank) × (n.waits ≡ None)
  -- steps that leave it as open as it was
  pub rests : (m : Numbering) (seat : Seat) (n : Now) → Is m seat n → Is m seat (with_machine (rested n.machine) n)
  pub ticks : (m : Numbering) (seat : Seat) (n : Now) (time : ℕ) → Is m seat n → Is m seat (with_machine (ticked time n.machine) n)
  pub closes : (m : Numbering) (seat : Seat) (n : Now) (time : ℕ) → Is m seat n → Is m seat (with_machine (closing time n.machine) n)
  pub makes : (m : Numbering) (seat : Seat) (n : Now) (time : ℕ) (j : Job) → job_of time n.machine ≡ Some j → Is m seat n → Is m seat (with_machine (sent j time n.machine) n)
  -- a packet is handed to it: it is open then, or as open as it was
  pub hears : (m : Numbering) (seat : Seat) (n : Now) (h : RdpHead) (tag : Option Tag) (b : PlainBuffer) (time : ℕ) → C.fed n.connection n.machine h tag b.picture.payload
      → (Opens n.machine.state (after_packet h tag b time n.machine).state → ⊥) → Is m seat n → Is m seat (with_machine (after_packet h tag b time n.machine) n)
  pub opens : (m : Numbering) (seat : Seat) (n : Now) (h : RdpHead) (tag : Option Tag) (b : PlainBuffer) (time : ℕ) → C.fed n.connection n.machine h tag b.picture.payload
      → Opens n.machine.state (after_packet h tag b time n.machine).state → Is m seat n → Is m seat (after_opening (with_machine (after_packet h tag b time n.machine) n))
  -- a payload is sent on it while it is open and none waits: it is admitted where there is room, or waits; one that waits is admitted where there is
  -- room; or it is dropped where the connection is not open any more
  pub admits : (m : Numbering) (seat : Seat) (n : Now) (b : PlainBuffer) (time : ℕ) → n.machine.state ≡ Open → has_room n.machine ≡ true → n.waits ≡ None → Is m seat n
      → Is m seat (after_sending b.picture.payload (with_machine (admitting b time n.machine) n))
  pub delays : (m : Numbering) (seat : Seat) (n : Now) (payload : List ℕ) → n.machine.state ≡ Open → n.waits ≡ None → Is m seat n
      → Is m seat (after_sending payload (waiting_for (Some payload) n))
  pub settles : (m : Numbering) (seat : Seat) (n : Now) (b : PlainBuffer) (time : ℕ) → n.machine.state ≡ Open → has_room n.machine ≡ true → n.waits ≡ Some b.picture.payload → Is m seat n
      → Is m seat (waiting_for None (with_machine (admitting b time n.machine) n))
  pub drops : (m : Numbering) (seat : Seat) (n : Now) → n.machine.state ≢ Open → Is m seat n → Is m seat (waiting_for None n)
  -- a packet is delivered, or taken out and kept again
  pub delivers : (m : Numbering) (seat : Seat) (n : Now) (b : PlainBuffer) (time : ℕ) → delivery n.machine ≡ Some b → Is m seat n
      → Is m seat (after_delivering b.picture.payload (with_machine (delivering time (without_delivery n.machine)) n))
  pub keeps : (m : Numbering) (seat : Seat) (n : Now) (b c : PlainBuffer) → delivery n.machine ≡ Some b → c.picture ≡ b.picture → Is m seat n
      → Is m seat (with_machine (keeping_again c (without_delivery n.machine)) n)
