-- The frames that an end put on its link, as bytes and as lines.
use Rattle.std.specs.Prelude.{ℕ, ◌+◌, ◌/◌, ◌%◌, if◌then◌else◌, Option, Some, None, List, [], ◌∷◌, ◌++◌, codes, unwrap_or}
use Rattle.std.specs.Fmt.{decimal}
use Rattle.std.specs.Int.{w32, to_be_bytes}
use Rattle.std.specs.List.{flat_map}
use Rattle.hex.specs.Hex.{encode_upper}
use Rattle.csp_log.specs.declared.entry.Entry.{Entry}
use Rattle.csp_log.specs.declared.frame.Frame.{Frame}
use Rattle.csp_log.specs.declared.places.End.{End}
use Rattle.csp_log.specs.declared.places.QueueId.TheVariants as queue
use Rattle.csp_log.specs.declared.shown.AnswerShown.{AnswerShown}
use Rattle.csp_log.specs.declared.shown.AnswerShown.TheVariants as answer
use Rattle.csp_log.specs.declared.shown.ItemShown.TheVariants as item
use Rattle.csp_log.specs.declared.shown.OpShown.{OpShown}
use Rattle.csp_log.specs.declared.shown.OpShown.TheVariants as op
use Rattle.csp_record.specs.Record.{PlainPartyLog, PlainRecord}
use Rattle.csp_log.specs.Who.{is_iface}
use Rattle.csp_report.specs.Lines.{Line, ended_line}
use Rattle.csp_exports.specs.declared.ends.Form.{Form}
use Rattle.csp_exports.specs.declared.ends.Form.TheVariants as form

-- a number below 1,000 in three digits
abbrev pub three_digits : ℕ → List ℕ
three_digits n = (48 + n / 100) ∷ (48 + n / 10 % 10) ∷ (48 + n % 10) ∷ []

-- `(S.MMM000)`: a round as seconds, of 1,000 rounds each, and millionths of a second
abbrev pub stamp_word : ℕ → List ℕ
stamp_word round = codes "(" ++ (decimal (round / 1000) ++ (codes "." ++ (three_digits (round % 1000) ++ codes "000)")))

-- `ID#DATA`: a frame's identifier in eight hexadecimal digits, and its bytes in two each, all in upper case
abbrev pub frame_word : Frame → List ℕ
frame_word frame = encode_upper (to_be_bytes w32 (unwrap_or frame.can 0)) ++ (codes "#" ++ encode_upper frame.bytes.items)

-- `(S.MMM000) LINK ID#DATA`: a frame put on this link in a round
abbrev pub frame_line : (link : List ℕ) (round : ℕ) → Frame → Line
frame_line link round frame = stamp_word round ∷ link ∷ frame_word frame ∷ []

-- what is written for a frame put on this link in a round: its bytes as they are, or its line
abbrev pub written : Form → (link : List ℕ) (round : ℕ) → Frame → List ℕ
written form.Kiss link round frame = frame.bytes.items
written form.Candump link round frame = ended_line (frame_line link round frame)

-- the frame that a turn put on a link, if it did
abbrev pub put_on : OpShown → AnswerShown → Option Frame
put_on (op.Push (queue.Tx number) (item.Frame frame)) answer.Pushed = Some frame
put_on _ _ = None

-- what is written for it
abbrev pub written_of : Form → (link : List ℕ) (round : ℕ) → Option Frame → List ℕ
written_of which link round None = []
written_of which link round (Some frame) = written which link round frame

-- what is written for a turn
abbrev pub written_for : Form → (link : List ℕ) → Entry → List ℕ
written_for which link e = written_of which link e.time (put_on e.op e.answer)

-- what is written for a party's turns, where it is the interface at this end
abbrev pub written_by : Form → (link : List ℕ) → End → PlainPartyLog → List ℕ
written_by which link end party = flat_map (written_for which link) (if is_iface end.node end.iface party.who then party.entries else [])

-- what an end of the link of this name put on it, in order
unfoldable pub exported : Form → (link : List ℕ) → End → PlainRecord → List ℕ
exported which link end r = flat_map (written_by which link end) r.parties
