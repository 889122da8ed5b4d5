-- That what a party has in hand tells what its log says.
use Rattle.std.specs.Prelude.{◌≡◌, ℕ, ◌+◌, Bool, true, false, Option, None, Some, List, [], ◌∷◌, ◌++◌, length, map, not, IfSome, IsSome}
use Rattle.std.specs.List.{AllByRecursion}
use Rattle.csp_base.specs.declared.priority.Prio.{Prio}
use Rattle.csp_consistent.specs.Pools.{given, taken}
use Rattle.csp_consistent.specs.Reading.{puts, gets, with_priority}
use Rattle.csp_ends.specs.Ends.{PlainSide, PlainHome, PlainEnds}
use Rattle.csp_ends.specs.Moves.{moved_by}
use Rattle.csp_ends.specs.Sides.{back_name}
use Rattle.csp_inbox.specs.Passes as inbox
use Rattle.csp_log.specs.declared.entry.Entry.{Entry}
use Rattle.csp_log.specs.declared.places.QueueId.{QueueId}
use Rattle.csp_log.specs.declared.places.QueueId.TheVariants as queue
use Rattle.csp_log.specs.declared.shown.ItemShown.{ItemShown}

-- what entries put into the lane of a name, or got from it
abbrev pub moved : Bool → QueueId → List Entry → List ItemShown
moved true q es = puts q es
moved false q es = gets q es

-- what went through an end is what the log says
abbrev pub IsSideTraced : List Entry → PlainSide → Type 0
IsSideTraced es s = s.end.items ≡ moved s.puts s.queue es

-- a pass of the inbox put and got of a priority what the log says
pub record IsMailTraced (es : List Entry) (x : inbox.PlainPass) (p : Prio) : Type 0 where
  pub kept : (inbox.mail_at x p).kept ≡ with_priority p (puts queue.Inbox es)
  pub got : (inbox.mail_at x p).got ≡ with_priority p (gets queue.Inbox es)

-- a party's passes of its own node did what the log says: of the pool, besides, these numbers were put at the opening
pub record IsHomeTraced (opened : List ℕ) (es : List Entry) (h : PlainHome) : Type 0 where
  pub put : h.pool.hand.put ≡ opened ++ given es
  pub taken : h.pool.hand.taken ≡ taken es
  pub inbox : IfSome h.inbox (λ x. (p : Prio) → IsMailTraced es x p)

-- all that a party has in hand tells what its log says
pub record AreTraced (opened : List ℕ) (es : List Entry) (e : PlainEnds) : Type 0 where
  pub home : IfSome e.home (IsHomeTraced opened es)
  pub sides : AllByRecursion (IsSideTraced es) e.sides

-- of each item that entries moved through a lane this way, how many items of the other lane had gone the other way by then, so many before them
abbrev pub told_from : ℕ → Bool → (lane other : QueueId) → List Entry → List ℕ
told_from n way lane other [] = []
told_from n way lane other (e ∷ es) =
    map (λ _. n) (moved_by way lane e.op e.answer) ++ told_from (n + length (moved_by (not way) other e.op e.answer)) way lane other es

-- the same from the first entry on
abbrev pub told_of : Bool → (lane other : QueueId) → List Entry → List ℕ
told_of way lane other es = told_from 0 way lane other es

-- the marks of an end that has any are what the log says of the lane that they tell of
abbrev pub IsSideMarked : List Entry → PlainSide → Type 0
IsSideMarked es s = IsSome s.end.about → IfSome (back_name s.queue) (λ other. s.end.marks ≡ told_of s.puts s.queue other es)

-- so are those of each
abbrev pub AreMarked : List Entry → List PlainSide → Type 0
AreMarked es sides = AllByRecursion (IsSideMarked es) sides
