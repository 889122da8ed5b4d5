-- the packet that a turn moved between its party and a queue
use Rattle.csp_log.specs.declared.entry.Entry.{Entry}
use Rattle.csp_log.specs.declared.moved.Moved.{Moved}
use Rattle.csp_log.specs.declared.moved.Moved.TheVariants as moved
use Rattle.csp_log.specs.declared.shown.ItemShown.TheVariants as item
use Rattle.csp_log.specs.declared.shown.OpShown.{OpShown}
use Rattle.csp_log.specs.declared.shown.OpShown.TheVariants as op
use Rattle.csp_log.specs.declared.shown.AnswerShown.{AnswerShown}
use Rattle.csp_log.specs.declared.shown.AnswerShown.TheVariants as answer

-- a packet is moved where its push was answered Pushed, or where it was popped
abbrev pub moved_by : OpShown → AnswerShown → Moved
moved_by (op.Push queue (item.Packet mark packet)) answer.Pushed = moved.Pushed queue packet
moved_by (op.Pop queue) (answer.Popped (item.Packet mark packet)) = moved.Popped queue packet
moved_by _ _ = moved.NoPacket

-- what an entry's turn moved
abbrev pub moved_in : Entry → Moved
moved_in e = moved_by e.op e.answer
