-- Why a turn over shared queues was answered that a queue was empty or full, by what the party knew.
use Rattle.std.specs.Prelude.{◌≡◌, ℕ, Bool, true, false, Option, None, Some, List, [], ◌∷◌, ⊤, IsSome, IsSomeAnd, slice_get}
use Rattle.std.specs.List.{AllByRecursion}
use Rattle.csp_base.specs.declared.priority.Prio.{Prio}
use Rattle.csp_base.specs.declared.priority.Prio.TheVariants.{Critical, High, Normal, Low}
use Rattle.csp_consistent.specs.Reading.{is_queue}
use Rattle.csp_deck.specs.Carried.{IsCarried, IsInboxItem, priority_of}
use Rattle.csp_ends.specs.Ends.{PlainSide, PlainEnds, inbox_of}
use Rattle.csp_ends.specs.Moves.{ends_after}
use Rattle.csp_inbox.specs.Marks.{mark_of}
use Rattle.csp_inbox.specs.Passes as inbox
use Rattle.csp_lane.specs.Ends.{HadNothing, HadNoRoom}
use Rattle.csp_log.specs.declared.entry.Entry.{Entry}
use Rattle.csp_log.specs.declared.places.QueueId.{QueueId}
use Rattle.csp_log.specs.declared.places.QueueId.TheVariants as queue
use Rattle.csp_log.specs.declared.places.Rule.TheVariants as rule
use Rattle.csp_log.specs.declared.shown.AnswerShown.{AnswerShown}
use Rattle.csp_log.specs.declared.shown.AnswerShown.TheVariants as answer
use Rattle.csp_log.specs.declared.shown.ItemShown.{ItemShown}
use Rattle.csp_log.specs.declared.shown.ItemShown.TheVariants as item
use Rattle.csp_log.specs.declared.shown.OpShown.{OpShown}
use Rattle.csp_log.specs.declared.shown.OpShown.TheVariants as op

-- the end of the lane of this name by which the party gets had nothing left that it knew of
abbrev pub HasNothingAt : QueueId → PlainSide → Type 0
HasNothingAt q s = is_queue q s.queue ≡ true → s.puts ≡ false → HadNothing s.end

-- the end of the lane of this name by which it puts had no room that it knew of
abbrev pub HasNoRoomAt : QueueId → PlainSide → Type 0
HasNoRoomAt q s = is_queue q s.queue ≡ true → s.puts ≡ true → HadNoRoom s.end

-- a pass that reads had got all of this priority that it knew of
abbrev pub HasGotAllAt : Prio → inbox.PlainPass → Type 0
HasGotAllAt p x = x.role.reads ≡ true → inbox.HasGotAll (inbox.mail_at x p)

-- it had so of each priority
abbrev pub HasGotEach : inbox.PlainPass → Type 0
HasGotEach x = HasGotAllAt Critical x × HasGotAllAt High x × HasGotAllAt Normal x × HasGotAllAt Low x

-- of a pass, if there is one
abbrev pub OfPass : (inbox.PlainPass → Type 0) → Option inbox.PlainPass → Type 0
OfPass holds None = ⊤
OfPass holds (Some x) = holds x

-- it had so of each that comes before this one
abbrev pub HasGotBefore : Prio → inbox.PlainPass → Type 0
HasGotBefore Critical x = ⊤
HasGotBefore High x = HasGotAllAt Critical x
HasGotBefore Normal x = HasGotAllAt Critical x × HasGotAllAt High x
HasGotBefore Low x = HasGotAllAt Critical x × HasGotAllAt High x × HasGotAllAt Normal x

-- a pop gave this, which an inbox carries, and passed over the priorities before it
abbrev pub HasPassedOver : ItemShown → inbox.PlainPass → Type 0
HasPassedOver (item.Packet mark b) x = IsInboxItem (item.Packet mark b) × HasGotBefore (priority_of b) x
HasPassedOver (item.Frame _) x = ⊥
HasPassedOver (item.Note _) x = ⊥

-- a party has an end of this way with this name, and its lane carries this
pub record HasEnd (way : Bool) (q : QueueId) (i : ItemShown) (e : PlainEnds) : Type 0 where
  pub at : ℕ
  pub side : PlainSide
  pub there : slice_get e.sides at ≡ Some side
  pub named : is_queue q side.queue ≡ true
  pub puts : side.puts ≡ way
  pub carried : IsCarried (rule.Lane side.end.carries) i

-- why this answer came, by what the party had in hand before the turn. What was moved went through a pass that the party has and is what the queue carries, into an
-- inbox under its own mark; a lane was empty, or full; an inbox was empty, or its more urgent priorities were. That a pool was empty or full, or an
-- inbox full, the pass itself keeps, as a floor
abbrev pub CauseOf : PlainEnds → OpShown → AnswerShown → Type 0
CauseOf e op.Take (answer.Taken _) = IsSome e.home
CauseOf e (op.Give _) answer.Given = IsSome e.home
CauseOf e (op.Push queue.Inbox i) answer.Pushed = IsSomeAnd (inbox_of e.home) (λ x. mark_of i ≡ x.role.mark)
CauseOf e (op.Push q i) answer.Pushed = HasEnd true q i e
CauseOf e (op.Push q i) (answer.Full _) = AllByRecursion (HasNoRoomAt q) e.sides
CauseOf e (op.Pop queue.Inbox) answer.Empty = OfPass HasGotEach (inbox_of e.home)
CauseOf e (op.Pop queue.Inbox) (answer.Popped i) = IsSomeAnd (inbox_of e.home) (λ x. (x.role.reads ≡ true) × HasPassedOver i x)
CauseOf e (op.Pop q) answer.Empty = AllByRecursion (HasNothingAt q) e.sides
CauseOf e (op.Pop q) (answer.Popped i) = HasEnd false q i e
CauseOf e _ _ = ⊤

-- each of these turns, one after the other, had its cause
abbrev pub HaveCauses : ℕ → PlainEnds → List Entry → Type 0
HaveCauses room e [] = ⊤
HaveCauses room e (x ∷ xs) = CauseOf e x.op x.answer × HaveCauses room (ends_after room x.op x.answer e) xs
