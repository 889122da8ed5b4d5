-- what holds of a router between two steps, for what is to be known of its connections
use Rattle.std.proofs.Common.{◌≡◌, ◌⊎◌, ℕ, ◌<◌, ◌==◌, not, Bool, true, false, Option, None, Some, List, [], ◌∷◌, refl, sym, ap, ◌∙◌, subst}
use Rattle.std.specs.Prelude.{⊤}
use Rattle.csp_base.specs.Seat.{seat}
use Rattle.csp_base.specs.declared.seat.Seat.{Seat}
use Rattle.csp_buffer.specs.Content.{Content}
use Rattle.csp_conn.specs.PlainConns.{slot_at}
use Rattle.csp_base.specs.declared.limits.TheConstants.{SLOTS}
use Rattle.csp_conn.specs.declared.slot.Connection.{Connection}
use Rattle.csp_conn.specs.declared.slot.Slot.{Slot}
use Rattle.csp_conn.specs.declared.slot.Slot.TheVariants as has
use Rattle.csp_crc.specs.Check.{payload_of}
use Rattle.csp_header.specs.Word.{header_at}
use Rattle.csp_log.specs.declared.event.Event.{Event}
use Rattle.csp_log.specs.declared.event.Event.TheVariants as event
use Rattle.csp_log.specs.declared.places.QueueId.{QueueId}
use Rattle.csp_log.specs.declared.places.QueueId.TheVariants as queue
use Rattle.csp_ports.specs.Asking.{is_reliable}
use Rattle.csp_ports.specs.Came.{Came}
use Rattle.csp_ports.specs.Packets.{handing_event}
use Rattle.csp_ports.specs.PlainPorts.{PlainPorts, machine_at, stalled_at, terms_at}
use Rattle.csp_ports.specs.Tasks.{made_in}
use Rattle.csp_ports.specs.declared.terms.Terms.{Terms}
use Rattle.csp_rdp.specs.Jobs.{job_of}
use Rattle.csp_rdp.specs.Machine.{PlainRdp}
use Rattle.csp_rdp.specs.declared.jobs.Job.{Job}
use Rattle.csp_rdp_header.specs.Head.{has_flag, parted}
use Rattle.csp_rdp_header.specs.declared.head.RdpHead.{RdpHead}
use Rattle.csp_rdp_header.specs.declared.head.TheConstants.{SYN}
use Rattle.csp_record.specs.declared.connections.Opening.{Opening}
use Rattle.csp_stack.specs.Readings.{is_checked, is_here}
use Rattle.csp_stack.specs.Router.{Facts, Leaving, flows_of}
use Rattle.csp_stack.specs.Rules.{addressed, answer_flags, connection_of}
use Rattle.csp_prefix.specs.Ports.{AreGood, AreNew, ArePortsKept, Books, Comes, IsAskedSo, IsInUse, IsNew, IsSlot, Ordinals, connection_in, noted, noted_by, now_at, waiting_payload, with_book}
use Rattle.csp_prefix.specs.Prefix.{IsBeginning}
use Rattle.csp_prefix.specs.Slots.{Book, Coming, GoesOn, Now, Numbering, blank}
use Rattle.csp_prefix.proofs.RouterBooks.{Past, Tells, book_at, opening_on, tells_grows, tells_noted, with_openings}
use Rattle.csp_ports.specs.declared.request.Request.{Request}
use Rattle.csp_log.specs.declared.places.TheConstants.{UNMARKED}
use Rattle.csp_log.specs.declared.shown.ItemShown.{ItemShown}
use Rattle.csp_log.specs.declared.shown.ItemShown.TheVariants as item
use Rattle.csp_log.specs.declared.note.Note.TheVariants as note

-- ---- what is to be known: of a connection, of what comes to it, of an opening whose connection is over, of the packets that go out and of those that are
-- heard, of what applications hand over, of the events, and of the machines as each turn finds them
pub record Aim : Type 1 where
  pub is : Numbering → Seat → Now → Type 0
  pub coming : Coming
  pub over : Numbering → ℕ → Opening → List (List ℕ) → Type 0
  pub good : Content → Type 0
  pub hears : Content → Type 0
  pub comes : ItemShown → Type 0
  pub fresh : Event → Type 0
  pub at : PlainRdp → Type 0

-- the payload of a packet once its checksum is cut off, where it is to have one
abbrev pub unwrapped : (is_checked : Bool) → List ℕ → Option (List ℕ)
unwrapped true bytes = payload_of bytes
unwrapped false bytes = Some bytes

pub not_false : (t : Bool) → not t ≡ false → t ≡ true
not_false true e = refl
not_false false e = absurd cc

-- what was told so far is a part of the whole
pub record IsPart (h whole : Past) : Type 0 where
  pub sent : (seat : Seat) (ordinal : ℕ) → IsBeginning (h.sent seat ordinal) (whole.sent seat ordinal)
  pub opened : (app : ℕ) → IsBeginning (h.opened app) (whole.opened app)

-- a packet of the reliable transport was heard by its node: its payload, and what stands before its head
pub record IsRead (f : Facts) (b : Content) (payload : List ℕ) (read : List ℕ × RdpHead) : Type 0 where
  pub here : is_here f.addr (header_at b.header) ≡ true
  pub reliable : is_reliable (header_at b.header).flags.0 ≡ true
  pub is_unwrapped : unwrapped (is_checked (header_at b.header)) b.payload ≡ Some payload
  pub is_parted : parted payload ≡ Some read

pub record IsAim (g : Aim) (f : Facts) (whole : Past) : Type 0 where
  pub ports : ArePortsKept (flows_of f) g.coming g.is
  pub ended : (m : Numbering) (seat : Seat) (n : Now) (how : Option ℕ × Option (ℕ × ℕ)) → g.is m seat n → n.book.opened ≡ Some how → g.over m seat.app (opening_on seat n.ordinal how) n.book.down
  pub plain : (m : Numbering) (seat : Seat) (ordinal : ℕ) (down : List (List ℕ)) → g.over m seat.app (opening_on seat ordinal (None, None)) down
  pub grows : (m m' : Numbering) (app : ℕ) (x : Opening) (down : List (List ℕ)) → GoesOn m m' → g.over m app x down → g.over m' app x down
  pub never_plain : (m : Numbering) (seat : Seat) (n : Now) → g.is m seat n → n.book.opened ≡ Some (None, None) → ⊥
  pub unmarked : (mark : ℕ) (b : Content) → (mark == UNMARKED) ≡ true → b.trace.tag ≡ None → g.comes (item.Packet mark b) → g.good b
  pub unreliable : (b : Content) → b.trace.tag ≡ None → is_reliable (header_at b.header).flags.0 ≡ false → g.good b
  pub wishes : (p : PlainPorts) (r : Request) → g.comes (item.Note (note.Connect r.seat.slot r.dest r.port r.prio r.flags r.from)) → IsAskedSo g.coming p r
  pub makes : (h : Past) (m : Numbering) (books : Books) (p : PlainPorts) (seat : Seat) (time : ℕ) (j : Job) (b : Content) (c : Connection) → IsPart h whole → Tells g.over f.apps m h books
      → (terms_at p seat).ordinal ≡ h.ends seat → slot_at p.conns seat ≡ has.Open c → g.is m seat (now_at p books seat) → g.at (machine_at p seat) → job_of time (machine_at p seat) ≡ Some j
      → g.good (addressed f c (terms_at p seat) (made_in j time seat b p))
  pub feeds : (b : Content) (payload : List ℕ) (r : PlainRdp) (read : List ℕ × RdpHead) → g.hears b → IsRead f b payload read
      → g.fresh (handing_event r b.trace.tag) → g.coming.fed (connection_of (header_at b.header)) r read.1 b.trace.tag read.0
  pub asks : (b : Content) (payload : List ℕ) (read : List ℕ × RdpHead) → g.hears b → IsRead f b payload read
      → has_flag read.1 SYN ≡ true → g.coming.invites (connection_of (header_at b.header)) (answer_flags (header_at b.header)) read.1 b.trace.tag

-- ---- what is to go out: it is good, or goes out as it was heard; and to an application only on a plain connection
abbrev pub IsOutTo : Aim → ℕ → Books → QueueId → ℕ → Content → Type 0
IsOutTo g apps books queue.Inbox mark b = g.good b
IsOutTo g apps books (queue.Out k) mark b = g.good b ⊎ g.hears b
IsOutTo g apps books (queue.Down k) mark b = (k < apps) × (mark < SLOTS) × ((books (seat k mark)).opened ≡ Some (None, None))
IsOutTo g apps books (queue.Up k) mark b = ⊤
IsOutTo g apps books (queue.Tx k) mark b = ⊤
IsOutTo g apps books (queue.Rx k) mark b = ⊤

abbrev pub IsOut : Aim → ℕ → Books → Option Leaving → Type 0
IsOut g apps books None = ⊤
IsOut g apps books (Some o) = IsOutTo g apps books o.queue o.mark o.buffer

-- ---- the ports and what is to go out, as the log tells
pub record Stands (g : Aim) (f : Facts) (h : Past) (p : PlainPorts) (leaves : Option Leaving) : Type 0 where
  pub numbering : Numbering
  pub books : Books
  pub good : AreGood g.is numbering h.ends books p
  pub tells : Tells g.over f.apps numbering h books
  pub apps : p.conns.apps ≡ f.apps
  pub out : IsOut g f.apps books leaves

-- ---- connections that are plain, and those that are over
abbrev now_with : PlainPorts → Seat → Book → Now
now_with p seat b = record { connection = connection_in (slot_at p.conns seat); flags = (terms_at p seat).flags; machine = machine_at p seat; ordinal = (terms_at p seat).ordinal; waits = waiting_payload (stalled_at p seat); book = b }

pub blank_unopened : (b : Book) (how : Option ℕ × Option (ℕ × ℕ)) → b ≡ blank → b.opened ≡ Some how → ⊥
blank_unopened b how e is = let none : b.opened ≡ None = ap (λ (c : Book). c.opened) e in cc

module _ (g : Aim) (f : Facts) (whole : Past) (k : IsAim g f whole) where
  over_in_use : (reliable : Bool) (m : Numbering) (seat : Seat) (n : Now) (how : Option ℕ × Option (ℕ × ℕ)) → IsInUse g.is reliable m seat n → n.book.opened ≡ Some how → g.over m seat.app (opening_on seat n.ordinal how) n.book.down
  over_in_use true m seat n how is e = k.ended m seat n how is e
  over_in_use false m seat n how is e =
      let same : (None, None) ≡ how = some_same (sym is.opened ∙ e) in
      subst (λ w. g.over m seat.app (opening_on seat n.ordinal w) n.book.down) same (k.plain m seat n.ordinal n.book.down)
    where
      some_same : {x y : Option ℕ × Option (ℕ × ℕ)} → ◌≡◌ {A = Option (Option ℕ × Option (ℕ × ℕ))} (Some x) (Some y) → x ≡ y
      some_same q = cc

  over_slot : (s : Slot) (t : Terms) (m : Numbering) (seat : Seat) (n : Now) (how : Option ℕ × Option (ℕ × ℕ)) → IsSlot g.is s t m seat n → n.book.opened ≡ Some how → g.over m seat.app (opening_on seat n.ordinal how) n.book.down
  over_slot has.Free t m seat n how is e = absurd (blank_unopened n.book how is.0.book e)
  over_slot has.Held t m seat n how is e = absurd (blank_unopened n.book how is.book e)
  over_slot (has.Open c) t m seat n how is e = over_in_use (is_reliable t.flags) m seat n how is e

  -- what is to be known of the present connection of a slot
  pub over_present : (h : Past) (m : Numbering) (books : Books) (p : PlainPorts) (seat : Seat) (how : Option ℕ × Option (ℕ × ℕ)) → AreGood g.is m h.ends books p → seat.app < p.conns.apps → seat.slot < SLOTS
      → (books seat).opened ≡ Some how → g.over m seat.app (opening_on seat (h.ends seat) how) (books seat).down
  over_present h m books p seat how good few low e =
      subst (λ o. g.over m seat.app (opening_on seat o how) (books seat).down) (good.counted seat few low)
      (over_slot (slot_at p.conns seat) (terms_at p seat) m seat (now_at p books seat) how (good.slots seat few low) e)

  plain_in_use : (reliable : Bool) (m : Numbering) (seat : Seat) (n : Now) (b : Book) → IsInUse g.is reliable m seat n → n.book.opened ≡ Some (None, None) → b.opened ≡ n.book.opened → IsInUse g.is reliable m seat (record n { book = b })
  plain_in_use true m seat n b is e same = absurd (k.never_plain m seat n is e)
  plain_in_use false m seat n b is e same = record { machine = is.machine; waits = is.waits; opened = same ∙ e }

  plain_slot : (s : Slot) (t : Terms) (m : Numbering) (seat : Seat) (n : Now) (b : Book) → IsSlot g.is s t m seat n → n.book.opened ≡ Some (None, None) → b.opened ≡ n.book.opened → IsSlot g.is s t m seat (record n { book = b })
  plain_slot has.Free t m seat n b is e same = absurd (blank_unopened n.book (None, None) is.0.book e)
  plain_slot has.Held t m seat n b is e same = absurd (blank_unopened n.book (None, None) is.book e)
  plain_slot (has.Open c) t m seat n b is e same = plain_in_use (is_reliable t.flags) m seat n b is e same

  -- of a plain connection nothing is known but that it is open
  pub good_plain : (m : Numbering) (ordinals : Ordinals) (books : Books) (p : PlainPorts) (seat : Seat) (b : Book) → (books seat).opened ≡ Some (None, None) → b.opened ≡ (books seat).opened
      → AreGood g.is m ordinals books p → AreGood g.is m ordinals (with_book seat b books) p
  good_plain m ordinals books p seat b e same good = record {
    few = good.few;
    conns = good.conns;
    states = good.states;
    made = good.made;
    owners = good.owners;
    owed = good.owed;
    counted = good.counted;
    waits = good.waits;
    ends = good.ends;
    over = good.over;
    slots = λ a few low. book_at (λ a c. IsSlot g.is (slot_at p.conns a) (terms_at p a) m a (now_at p books a) → (books a).opened ≡ (books a).opened → IsSlot g.is (slot_at p.conns a) (terms_at p a) m a (now_with p a c))
        seat b books a
        (λ is q. plain_slot (slot_at p.conns seat) (terms_at p seat) m seat (now_at p books seat) b is e same)
        (λ differ is q. is) (good.slots a few low) refl;
  }

-- ---- what an opening leaves as it was
kept_by : (apps : ℕ) (e : Event) (books : Books) (seat : Seat) (how : Option ℕ × Option (ℕ × ℕ)) → IsNew apps e books → (books seat).opened ≡ Some how → (noted_by e books seat).opened ≡ Some how
kept_by apps (event.Opened a s nth peer) books seat how new is =
    book_at (λ x b. (books x).opened ≡ Some how → b.opened ≡ Some how) (record { app = a; slot = s }) _ books seat
    (λ was. absurd (let bad : ◌≡◌ {A = Option (Option ℕ × Option (ℕ × ℕ))} None (Some how) = sym new.2 ∙ was in cc)) (λ differ was. was) is
kept_by apps (event.Sent s o) books seat how new is = is
kept_by apps (event.TookEmpty step) books seat how new is = is
kept_by apps (event.Took s o) books seat how new is = is
kept_by apps (event.BlobTook s o len crc) books seat how new is = is
kept_by apps (event.BlobRefused s o reason) books seat how new is = is
kept_by apps (event.Refused step reason) books seat how new is = is
kept_by apps (event.GaveUp step) books seat how new is = is
kept_by apps (event.SlotDown step) books seat how new is = is
kept_by apps (event.Discarded reason) books seat how new is = is
kept_by apps (event.Handed nth peer tag cur una) books seat how new is = is
kept_by apps (event.Transmitted serial) books seat how new is = is
kept_by apps (event.Bad count) books seat how new is = is
kept_by apps event.Starved books seat how new is = is
kept_by apps event.InboxFull books seat how new is = is
kept_by apps event.TooBig books seat how new is = is
kept_by apps event.Reboot books seat how new is = is
kept_by apps event.Shutdown books seat how new is = is

pub opened_kept : (apps : ℕ) (es : List Event) (books : Books) (seat : Seat) (how : Option ℕ × Option (ℕ × ℕ)) → AreNew apps es books → (books seat).opened ≡ Some how → (noted es books seat).opened ≡ Some how
opened_kept apps [] books seat how new is = is
opened_kept apps (e ∷ es) books seat how new is = opened_kept apps es (noted_by e books) seat how new.1 (kept_by apps e books seat how new.0 is)

out_to_kept : (g : Aim) (apps : ℕ) (es : List Event) (books : Books) (q : QueueId) (mark : ℕ) (b : Content) → AreNew apps es books → IsOutTo g apps books q mark b → IsOutTo g apps (noted es books) q mark b
out_to_kept g apps es books queue.Inbox mark b new is = is
out_to_kept g apps es books (queue.Out k) mark b new is = is
out_to_kept g apps es books (queue.Down k) mark b new is = (is.0, is.1, opened_kept apps es books (seat k mark) (None, None) new is.2)
out_to_kept g apps es books (queue.Up k) mark b new is = tt
out_to_kept g apps es books (queue.Tx k) mark b new is = tt
out_to_kept g apps es books (queue.Rx k) mark b new is = tt

pub out_kept : (g : Aim) (apps : ℕ) (es : List Event) (books : Books) (o : Option Leaving) → AreNew apps es books → IsOut g apps books o → IsOut g apps (noted es books) o
out_kept g apps es books None new is = tt
out_kept g apps es books (Some o) new is = out_to_kept g apps es books o.queue o.mark o.buffer new is

-- ---- a step of the ports
pub stands_came : (g : Aim) (f : Facts) (h : Past) (apps : ℕ) (o : Option Leaving) (m : Numbering) (books : Books) (c : Came) → apps ≡ f.apps → Tells g.over f.apps m h books → IsOut g f.apps books o
    → Comes g.is m h.ends books apps c → Stands g f (with_openings c.events h) c.ports o
stands_came g f h apps o m books c same tells out came =
    let new : AreNew f.apps c.events books = subst (λ a. AreNew a c.events books) same came.new in
    record {
      numbering = m;
      books = noted c.events books;
      good = came.good;
      tells = tells_noted g.over f.apps m c.events h books new tells;
      apps = came.same ∙ same;
      out = out_kept g f.apps c.events books o new out;
    }

pub stands_comes : (g : Aim) (f : Facts) (h : Past) (p : PlainPorts) (o : Option Leaving) (w : Stands g f h p o) (m : Numbering) (c : Came) → GoesOn w.numbering m
    → ((m m' : Numbering) (app : ℕ) (x : Opening) (down : List (List ℕ)) → GoesOn m m' → g.over m app x down → g.over m' app x down)
    → Comes g.is m h.ends w.books p.conns.apps c → Stands g f (with_openings c.events h) c.ports o
stands_comes g f h p o w m c on grows came =
    stands_came g f h p.conns.apps o m w.books c w.apps (tells_grows g.over f.apps w.numbering m h w.books (λ app x down. grows w.numbering m app x down on) on w.tells) w.out came
