-- What a light answer brings.
use Rattle.std.proofs.Common.{ℕ, ◌≤◌, Option, None, Some, arith}
use Rattle.std.specs.Prelude.{IfSome}
use Rattle.csp_log.specs.Weights.{item_bytes}
use Rattle.csp_log.specs.declared.places.QueueId.TheVariants as queue
use Rattle.csp_log.specs.declared.places.QueueId.{QueueId}
use Rattle.csp_log.specs.declared.shown.AnswerShown.TheVariants as answer
use Rattle.csp_log.specs.declared.shown.AnswerShown.{AnswerShown}
use Rattle.csp_log.specs.declared.shown.ItemShown.{ItemShown}
use Rattle.csp_log.specs.declared.shown.OpShown.TheVariants as op
use Rattle.csp_log.specs.declared.shown.OpShown.{OpShown}
use Rattle.csp_sizes.specs.Light.{IsLight, IsLightAnswer, room_of}
use Rattle.csp_stack.specs.Readings.{buffer_in, item_in}

-- how many bytes the item that an answer brings has at most
abbrev pub most_of : OpShown → ℕ
most_of op.Nothing = 0
most_of op.Take = 0
most_of (op.Give b) = 0
most_of (op.Push q i) = room_of q
most_of (op.Pop q) = room_of q

pub room_small : (q : QueueId) → room_of q ≤ 531
room_small queue.Inbox = omega arith
room_small (queue.Up k) = omega arith
room_small (queue.Down k) = omega arith
room_small (queue.Out k) = omega arith
room_small (queue.Tx k) = omega arith
room_small (queue.Rx k) = omega arith

pub most_small : (o : OpShown) → most_of o ≤ 531
most_small op.Nothing = omega arith
most_small op.Take = omega arith
most_small (op.Give b) = omega arith
most_small (op.Push q i) = room_small q
most_small (op.Pop q) = room_small q

-- the item that it brings
pub item_came : (o : OpShown) (a : AnswerShown) → IsLightAnswer o a → IfSome (item_in a) (λ i. item_bytes i ≤ most_of o)
item_came op.Nothing answer.Nothing h = tt
item_came op.Take (answer.Taken b) h = tt
item_came op.Take answer.NoBuffer h = tt
item_came (op.Give b) answer.Given h = tt
item_came (op.Give b) (answer.PoolFull c) h = tt
item_came (op.Push q i) answer.Pushed h = tt
item_came (op.Push q i) (answer.Full j) h = h
item_came (op.Pop q) (answer.Popped j) h = h
item_came (op.Pop q) answer.Empty h = tt
item_came o a h = absurd h

pub some_shorter : (o : Option ItemShown) (m n : ℕ) → m ≤ n → IfSome o (λ i. item_bytes i ≤ m) → IfSome o (λ i. item_bytes i ≤ n)
some_shorter None m n less h = tt
some_shorter (Some i) m n less h = omega (arith, less, h)

pub any_came : (o : OpShown) (a : AnswerShown) → IsLightAnswer o a → IfSome (item_in a) (λ i. item_bytes i ≤ 531)
any_came o a h = some_shorter (item_in a) (most_of o) 531 (most_small o) (item_came o a h)

-- the buffer that it brings
pub buffer_came : (o : OpShown) (a : AnswerShown) → IsLightAnswer o a → IfSome (buffer_in a) IsLight
buffer_came op.Nothing answer.Nothing h = tt
buffer_came op.Take (answer.Taken b) h = h
buffer_came op.Take answer.NoBuffer h = tt
buffer_came (op.Give b) answer.Given h = tt
buffer_came (op.Give b) (answer.PoolFull c) h = h
buffer_came (op.Push q i) answer.Pushed h = tt
buffer_came (op.Push q i) (answer.Full j) h = tt
buffer_came (op.Pop q) (answer.Popped j) h = tt
buffer_came (op.Pop q) answer.Empty h = tt
buffer_came o a h = absurd h
