-- what the entries of a log weigh: one each, and one more for each WEIGHT_BYTES bytes of payloads and frames that they show
use Rattle.std.specs.Prelude.{ℕ, ◌+◌, ◌/◌, List, length}
use Rattle.std.specs.List.{sum_by}
use Rattle.csp_log.specs.declared.entry.Entry.{Entry}
use Rattle.csp_log.specs.declared.row.ItemHead.{ItemHead}
use Rattle.csp_log.specs.declared.row.ItemHead.TheVariants as head
use Rattle.csp_log.specs.declared.shown.ItemShown.{ItemShown}
use Rattle.csp_log.specs.declared.shown.ItemShown.TheVariants as item
use Rattle.csp_log.specs.declared.shown.OpShown.{OpShown}
use Rattle.csp_log.specs.declared.shown.OpShown.TheVariants as op
use Rattle.csp_log.specs.declared.shown.AnswerShown.{AnswerShown}
use Rattle.csp_log.specs.declared.shown.AnswerShown.TheVariants as answer
use Rattle.csp_log.specs.declared.weights.TheConstants.{WEIGHT_BYTES}

-- the bytes of an item: of a packet its payload, of a frame all, of a note none
abbrev pub item_bytes : ItemShown → ℕ
item_bytes (item.Packet mark packet) = length packet.payload
item_bytes (item.Frame frame) = length frame.bytes.items
item_bytes (item.Note note) = 0

-- the bytes that an operation shows
abbrev pub op_bytes : OpShown → ℕ
op_bytes op.Nothing = 0
op_bytes op.Take = 0
op_bytes (op.Give packet) = length packet.payload
op_bytes (op.Push queue i) = item_bytes i
op_bytes (op.Pop queue) = 0

-- the bytes that an answer shows: what comes back is shown again
abbrev pub answer_bytes : AnswerShown → ℕ
answer_bytes answer.Nothing = 0
answer_bytes (answer.Taken packet) = length packet.payload
answer_bytes answer.NoBuffer = 0
answer_bytes answer.Given = 0
answer_bytes (answer.PoolFull packet) = length packet.payload
answer_bytes answer.Pushed = 0
answer_bytes (answer.Full i) = item_bytes i
answer_bytes (answer.Popped i) = item_bytes i
answer_bytes answer.Empty = 0

-- what an entry weighs
abbrev pub weight_of : Entry → ℕ
weight_of e = 1 + (op_bytes e.op + answer_bytes e.answer) / WEIGHT_BYTES

-- what these entries weigh together
abbrev pub weight_of_all : List Entry → ℕ
weight_of_all entries = sum_by weight_of entries

-- how many of so many bytes an item shows
abbrev pub item_share : ItemHead → ℕ → ℕ
item_share (head.Packet mark packet) bytes = bytes
item_share (head.Frame can) bytes = bytes
item_share (head.Note note) bytes = 0
