-- one turn of a party: its operation, the answers that fit it and their causes, and its entry in a log
use Rattle.std.specs.Prelude.{◌≡◌, ℕ, ◌==◌, List, [], ◌∷◌, Option, ⊤, IsSome, count_by}
use Rattle.std.specs.List.{AllByRecursion}
use Rattle.csp_buffer.specs.Content.{Content, cleared}
use Rattle.csp_deck.specs.Carried.{IsCarriedIn, place_for, places_of, passed_over}
use Rattle.csp_log.specs.declared.entry.Entry.{Entry}
use Rattle.csp_log.specs.declared.event.Event.{Event}
use Rattle.csp_log.specs.declared.places.Place.{Place}
use Rattle.csp_log.specs.declared.places.Place.TheVariants as place
use Rattle.csp_log.specs.declared.places.QueueId.{QueueId}
use Rattle.csp_log.specs.declared.places.Rule.{Rule}
use Rattle.csp_log.specs.declared.shown.ItemShown.{ItemShown}
use Rattle.csp_log.specs.declared.shown.ItemShown.TheVariants as item
use Rattle.csp_log.specs.declared.shown.OpShown.{OpShown}
use Rattle.csp_log.specs.declared.shown.OpShown.TheVariants as op
use Rattle.csp_log.specs.declared.shown.AnswerShown.{AnswerShown}
use Rattle.csp_log.specs.declared.shown.AnswerShown.TheVariants as answer

-- which operation a party waits to be answered
pub data Kind : Type 0 where
  nothing : Kind
  taking : Kind
  giving : Kind
  pushing : QueueId → Kind
  popping : QueueId → Kind

-- the kind of an operation
abbrev pub kind_of : OpShown → Kind
kind_of op.Nothing = nothing
kind_of op.Take = taking
kind_of (op.Give _) = giving
kind_of (op.Push queue _) = pushing queue
kind_of (op.Pop queue) = popping queue

-- a buffer that comes from the pool is cleared
abbrev pub IsCleared : Content → Type 0
IsCleared b = b ≡ cleared b.number

-- an answer that a party which uses these queues can be told while it waits for one of this kind: a buffer from
-- the pool is cleared, and an item is one that its queue carries
abbrev pub IsAnswerOf : (QueueId → Option Rule) → Kind → AnswerShown → Type 0
IsAnswerOf uses nothing answer.Nothing = ⊤
IsAnswerOf uses taking (answer.Taken b) = IsCleared b
IsAnswerOf uses taking answer.NoBuffer = ⊤
IsAnswerOf uses giving answer.Given = ⊤
IsAnswerOf uses giving (answer.PoolFull _) = ⊤
IsAnswerOf uses (pushing _) answer.Pushed = ⊤
IsAnswerOf uses (pushing queue) (answer.Full i) = IsCarriedIn (uses queue) i
IsAnswerOf uses (popping queue) (answer.Popped i) = IsCarriedIn (uses queue) i
IsAnswerOf uses (popping _) answer.Empty = ⊤
IsAnswerOf uses _ _ = ⊥

-- an operation on queues among these, whose push is of an item that its queue carries
abbrev pub CanServe : (QueueId → Option Rule) → OpShown → Type 0
CanServe rules op.Nothing = ⊤
CanServe rules op.Take = ⊤
CanServe rules (op.Give _) = ⊤
CanServe rules (op.Push queue i) = IsCarriedIn (rules queue) i
CanServe rules (op.Pop queue) = IsSome (rules queue)

-- where an operation's item or buffer was to go, where it had one
abbrev pub target : OpShown → List Place
target op.Nothing = []
target op.Take = []
target (op.Give _) = place.Pool ∷ []
target (op.Push queue i) = place_for queue i ∷ []
target (op.Pop _) = []

-- where an operation looked for what it asked
abbrev pub sources : OpShown → List Place
sources op.Nothing = []
sources op.Take = place.Pool ∷ []
sources (op.Give _) = []
sources (op.Push _ _) = []
sources (op.Pop queue) = places_of queue

-- where it looked before it found this item
abbrev pub sources_before : OpShown → ItemShown → List Place
sources_before op.Nothing i = []
sources_before op.Take i = []
sources_before (op.Give _) i = []
sources_before (op.Push _ _) i = []
sources_before (op.Pop queue) i = passed_over queue i

-- why an answer came, with the places that were empty and those that were full at a moment of the operation: a place
-- that gave nothing, or was passed over, was empty; one that took nothing was full
abbrev pub HasCause : (Place → Type 0) → (Place → Type 0) → OpShown → AnswerShown → Type 0
HasCause empty full o answer.Nothing = ⊤
HasCause empty full o (answer.Taken b) = IsCleared b
HasCause empty full o answer.NoBuffer = AllByRecursion empty (sources o)
HasCause empty full o answer.Given = ⊤
HasCause empty full o (answer.PoolFull _) = AllByRecursion full (target o)
HasCause empty full o answer.Pushed = ⊤
HasCause empty full o (answer.Full _) = AllByRecursion full (target o)
HasCause empty full o (answer.Popped i) = AllByRecursion empty (sources_before o i)
HasCause empty full o answer.Empty = AllByRecursion empty (sources o)

-- the number of the buffer in an item
abbrev pub item_numbers : ItemShown → List ℕ
item_numbers (item.Packet _ buffer) = buffer.number ∷ []
item_numbers (item.Frame _) = []
item_numbers (item.Note _) = []

-- the number of the buffer that an operation hands over
abbrev pub op_numbers : OpShown → List ℕ
op_numbers op.Nothing = []
op_numbers op.Take = []
op_numbers (op.Give buffer) = buffer.number ∷ []
op_numbers (op.Push _ i) = item_numbers i
op_numbers (op.Pop _) = []

-- the number of the buffer that an answer brings
abbrev pub answer_numbers : AnswerShown → List ℕ
answer_numbers answer.Nothing = []
answer_numbers (answer.Taken buffer) = buffer.number ∷ []
answer_numbers answer.NoBuffer = []
answer_numbers answer.Given = []
answer_numbers (answer.PoolFull buffer) = buffer.number ∷ []
answer_numbers answer.Pushed = []
answer_numbers (answer.Full i) = item_numbers i
answer_numbers (answer.Popped i) = item_numbers i
answer_numbers answer.Empty = []

-- how often a number is in a list
abbrev pub times : ℕ → List ℕ → ℕ
times k ns = count_by (λ n. n == k) ns

-- the entry of one turn
abbrev pub entry_of : ℕ → OpShown → AnswerShown → List Event → Entry
entry_of time o a events = record { time = time; op = o; answer = a; events = record { items = events } }
