-- The ends of lanes in a party's hand, and of which other lane of the party the marks of an end tell: what goes up from an application tells of what
-- came down to it.
use Rattle.std.specs.Prelude.{◌≡◌, ℕ, Bool, false, ◌&&◌, Option, None, Some, List, length, not, if◌then◌else◌}
use Rattle.std.proofs.Props.{props}
use Rattle.std.specs.List.{find}
use Rattle.std.specs.Option.{option_map}
use Rattle.csp_consistent.specs.Reading.{is_queue}
use Rattle.csp_lane.specs.Ends.{PlainEnd}
use Rattle.csp_log.specs.declared.places.QueueId.{QueueId}
use Rattle.csp_log.specs.declared.places.QueueId.TheVariants as queue

-- an end of a lane in a party's hand: what the party calls the lane, of which node it is and which of that node's lanes, whether it is the
-- end that puts, and what went through it
pub record PlainSide : Type 0 where
  pub queue : QueueId
  pub node : ℕ
  pub lane : ℕ
  pub puts : Bool
  pub end : PlainEnd

-- the lane that the marks of a lane tell of
abbrev pub back_name : QueueId → Option QueueId
back_name (queue.Up k) = Some (queue.Down k)
back_name queue.Inbox = None
back_name (queue.Down _) = None
back_name (queue.Out _) = None
back_name (queue.Tx _) = None
back_name (queue.Rx _) = None

-- whether an end goes the other way from another
abbrev pub is_turned : PlainSide → PlainSide → Bool
is_turned s t = if s.puts then not t.puts else t.puts

-- whether an end is of the lane that the marks of another tell of, and the other way
abbrev pub is_back_by : Option QueueId → PlainSide → PlainSide → Bool
is_back_by None s t = false
is_back_by (Some q) s t = is_queue q t.queue && is_turned s t

-- so of this end
abbrev pub is_back : PlainSide → PlainSide → Bool
is_back s t = is_back_by (back_name s.queue) s t

-- the end among these that the marks of an end tell of
abbrev pub back_of : List PlainSide → PlainSide → Option PlainSide
back_of sides s = find (is_back s) sides

-- how many items went through an end, if there is one
abbrev pub count_through : Option PlainSide → ℕ
count_through None = 0
count_through (Some t) = length t.end.items

-- of how many items of the other lane the end tells now
abbrev pub beside : List PlainSide → PlainSide → ℕ
beside sides s = count_through (back_of sides s)

-- the marks of an end tell of that other lane, where the party has an end of it
abbrev pub IsBacked : List PlainSide → PlainSide → Type 0
IsBacked sides s = s.end.about ≡ option_map (λ t. t.end.tally) (back_of sides s)

-- it is a fact
pub IsBacked-prop : (sides : List PlainSide) (s : PlainSide) → IsProp (IsBacked sides s)
IsBacked-prop sides s = Prim.hlevel props
