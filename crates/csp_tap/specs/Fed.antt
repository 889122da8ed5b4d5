-- What a tap keeps of the stream that it was fed.
use Rattle.std.specs.Prelude.{◌≡◌, ℕ, ◌+◌, Bool, List, ◌++◌, length}
use Rattle.csp_base.specs.declared.limits.TheConstants.{MAX_PAYLOAD}
use Rattle.csp_kiss.specs.Reading.{Reading, reading_of}
use Rattle.csp_kiss.specs.Stream.{events}
use Rattle.csp_kiss.specs.declared.event.KissEvent.{KissEvent}
use Rattle.csp_kiss.specs.declared.event.KissEvent.TheVariants.{Packet, TooLong, Short, BadCrc}
use Rattle.csp_tap.specs.Packets.{event_line, event_lines}
use Rattle.csp_tap.specs.Talks.{packets_in, table, talk_of, with_packet}
use Rattle.csp_tap.specs.Text.{first_line}
use Rattle.csp_tap.specs.declared.talks.Tally.{Tally}

-- its reader, the lines so far, how many events they tell of, and the talks
pub record PlainTap : Type 0 where
  pub reading : Reading
  pub lines : List ℕ
  pub count : ℕ
  pub talks : List (ℕ × Tally)

-- a packet more in the talks, where an event brings one
abbrev pub talks_with : KissEvent → List (ℕ × Tally) → List (ℕ × Tally)
talks_with (Packet header payload) talks = with_packet talks (talk_of header) (length payload.items)
talks_with TooLong talks = talks
talks_with Short talks = talks
talks_with (BadCrc _ _) talks = talks

-- with one event more told
abbrev pub telling : KissEvent → PlainTap → PlainTap
telling event tap =
    record {
      reading = tap.reading;
      lines = tap.lines ++ event_line (tap.count + 1) event;
      count = tap.count + 1;
      talks = talks_with event tap.talks;
    }

-- these events were told, and nothing else
pub record HasTold (events : List KissEvent) (tap : PlainTap) : Type 0 where
  pub lines : tap.lines ≡ first_line ++ event_lines 1 events
  pub count : tap.count ≡ length events
  pub talks : tap.talks ≡ table (packets_in events)

-- it was fed this stream and nothing else, of frames whose CRC covers the header or not
pub record HasFed (cover : Bool) (stream : List ℕ) (tap : PlainTap) : Type 0 where
  pub read : tap.reading ≡ reading_of cover MAX_PAYLOAD stream
  pub told : HasTold (events cover MAX_PAYLOAD stream) tap
