-- The text of a stream's events.
use Rattle.std.specs.Prelude.{ℕ, List, [], ◌∷◌, ◌++◌, length, codes}
use Rattle.std.specs.Fmt.{decimal}
use Rattle.csp_kiss.specs.declared.event.KissEvent.{KissEvent}
use Rattle.csp_tap.specs.Packets.{event_lines}
use Rattle.csp_tap.specs.Talks.{packets_in, table, talk_lines}
use Rattle.csp_tap.specs.Words.{line}

-- the first line: the form and its number
abbrev pub first_line : List ℕ
first_line = line (codes "csp-tap") (codes "1" ∷ [])

-- the last line, with the number of events
abbrev pub last_line : ℕ → List ℕ
last_line count = line (codes "end") (decimal count ∷ [])

-- the text: the first line, one line for each event, numbered from 1, one for each talk, and the last line
unfoldable pub tap_text : List KissEvent → List ℕ
tap_text events = first_line ++ (event_lines 1 events ++ (talk_lines (table (packets_in events)) ++ last_line (length events)))
