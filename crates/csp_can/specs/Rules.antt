use Rattle.std.specs.Prelude.{ℕ, ◌+◌, ◌==◌, ◌&&◌, not, Bool, false, nat_lt, is_some, if◌then◌else◌, Option, Some, None, List, ◌++◌, length}
use Rattle.csp_base.specs.declared.traces.Trace.{Trace}
use Rattle.csp_can.specs.declared.answers.CanEvent.{CanEvent}
use Rattle.csp_can.specs.declared.answers.CanEvent.TheVariants.{Part, Whole, NoBegin, ShortBegin, BadRemain, TooMuch, TooLong, NoRoom}
use Rattle.csp_can.specs.declared.identifiers.Identifier.{Identifier}
use Rattle.csp_can.specs.declared.identifiers.Kind.{Kind}
use Rattle.csp_can.specs.declared.identifiers.Kind.TheVariants.{Begin, More}
use Rattle.csp_can.specs.declared.partials.Partial.{Partial}
use Rattle.csp_can.specs.Begins.{begin_header, begin_length, begin_payload}
use Rattle.csp_can.specs.Frames.{Frame}
use Rattle.csp_can.specs.Identifiers.{key_of}

-- a frame that came, with its trace, at a time
pub record Arrival : Type 0 where
  pub frame : Frame
  pub trace : Trace
  pub time : ℕ

-- the frame with this head and data, as it came
abbrev pub arrival : Identifier → List ℕ → Trace → ℕ → Arrival
arrival head bytes trace time = record { frame = record { head = head; bytes = bytes }; trace = trace; time = time }

-- what becomes of the partial packets: all is left; the one of this key ends; the frame opens one in its place; or it goes on with the frame
pub data Deed : Type 0 where
  leaves : Deed
  ends : Deed
  opens : Deed
  goes_on : Deed

-- the answer to a frame, and what it does
pub record Ruling : Type 0 where
  pub restarted : Bool
  pub event : CanEvent
  pub deed : Deed

-- a frame that is refused
abbrev pub refused : CanEvent → Deed → Ruling
refused event deed = record { restarted = false; event = event; deed = deed }

-- the partial packet that a BEGIN frame begins
abbrev pub opened_partial : Arrival → Partial
opened_partial a =
    record {
      key = key_of a.frame.head;
      header = begin_header a.frame.bytes;
      length = begin_length a.frame.bytes;
      payload = record { items = begin_payload a.frame.bytes };
      remain = a.frame.head.remain;
      time = a.time;
      trace = a.trace;
    }

-- a partial packet with the bytes of one more frame
abbrev pub grown_partial : Partial → Arrival → Partial
grown_partial p a =
    record p {
      payload = record { items = p.payload.items ++ a.frame.bytes };
      remain = a.frame.head.remain;
      time = a.time;
    }

-- the payload so far against the packet's length: more, the same, or less, where a part does `part`
abbrev pub measured : (restarted : Bool) → Partial → (part : Deed) → Ruling
measured restarted p part =
    if nat_lt p.length (length p.payload.items) then record { restarted = restarted; event = TooMuch; deed = ends }
    else (if length p.payload.items == p.length then record { restarted = restarted; event = Whole p.header p.payload p.trace; deed = ends }
    else record { restarted = restarted; event = Part; deed = part })

-- a packet that opens: none where its key is new and no more may stand; else it is measured, and a partial packet of its key has ended
abbrev pub opening_ruling : (stood full : Bool) → Partial → Ruling
opening_ruling stood full p = if not stood && full then refused NoRoom leaves else measured stood p opens

-- a BEGIN frame where a packet has at most so many payload bytes: too short; too long a packet; else a packet opens
abbrev pub begin_ruling : (mtu : ℕ) (stood full : Bool) → Arrival → Ruling
begin_ruling mtu stood full a =
    if nat_lt (length a.frame.bytes) 6 then refused ShortBegin leaves
    else (if nat_lt mtu (begin_length a.frame.bytes) then refused TooLong leaves
    else opening_ruling stood full (opened_partial a))

-- a MORE frame: without a partial packet of its key; not the next one; else measured with what came before
abbrev pub more_ruling : Option Partial → Arrival → Ruling
more_ruling None a = refused NoBegin leaves
more_ruling (Some p) a =
    if a.frame.head.remain + 1 == p.remain then measured false (grown_partial p a) goes_on
    else refused BadRemain ends

-- the ruling on a frame, by the most payload bytes of a packet, the partial packet of its key, and whether the most partial packets stand
abbrev pub ruling_of : (mtu : ℕ) → Kind → (standing : Option Partial) → (full : Bool) → Arrival → Ruling
ruling_of mtu Begin standing full a = begin_ruling mtu (is_some standing) full a
ruling_of mtu More standing full a = more_ruling standing a
