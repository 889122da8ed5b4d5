-- that the buffers that go through queues and parties of a node are of its region
use Rattle.std.specs.Prelude.{◌≡◌, ⊤}
use Rattle.csp_arena.specs.Cells.{RegionName}
use Rattle.csp_log.specs.declared.item.Item.{Item}
use Rattle.csp_log.specs.declared.item.Item.TheVariants as item
use Rattle.csp_log.specs.declared.operation.Op.{Op}
use Rattle.csp_log.specs.declared.operation.Op.TheVariants as op
use Rattle.csp_log.specs.declared.operation.Answer.{Answer}
use Rattle.csp_log.specs.declared.operation.Answer.TheVariants as answer

-- the buffer in an item is of this region
abbrev pub IsItemOf : RegionName → Item → Type 0
IsItemOf r (item.Packet _ b) = b.region ≡ r
IsItemOf r (item.Frame _) = ⊤
IsItemOf r (item.Note _) = ⊤

-- the buffer in an operation, if there is one, is of this region
abbrev pub IsOpOf : RegionName → Op → Type 0
IsOpOf r op.Nothing = ⊤
IsOpOf r op.Take = ⊤
IsOpOf r (op.Give b) = b.region ≡ r
IsOpOf r (op.Push _ i) = IsItemOf r i
IsOpOf r (op.Pop _) = ⊤

-- the buffer in an answer, if there is one, is of this region
abbrev pub IsAnswerFrom : RegionName → Answer → Type 0
IsAnswerFrom r answer.Nothing = ⊤
IsAnswerFrom r (answer.Taken b) = b.region ≡ r
IsAnswerFrom r answer.NoBuffer = ⊤
IsAnswerFrom r answer.Given = ⊤
IsAnswerFrom r (answer.PoolFull b) = b.region ≡ r
IsAnswerFrom r answer.Pushed = ⊤
IsAnswerFrom r (answer.Full i) = IsItemOf r i
IsAnswerFrom r (answer.Popped i) = IsItemOf r i
IsAnswerFrom r answer.Empty = ⊤

-- the region of who never has a buffer
abbrev pub nowhere : RegionName
nowhere = record { block = 0; start = 0; size = 0 }
