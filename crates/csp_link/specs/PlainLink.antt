-- what a link is: its kind, its two directions, and whose turn it is
use Rattle.std.specs.Prelude.{ℕ, ◌+◌, Option, Some, None, List, [], nat_lt, if◌then◌else◌}
use Rattle.csp_link.specs.Fates.{Fates, fates_of}
use Rattle.csp_link.specs.Ways.{number}
use Rattle.csp_link.specs.declared.doing.Doing.{Doing}
use Rattle.csp_link.specs.declared.doing.Doing.TheVariants as doing
use Rattle.csp_link.specs.declared.fault.Fault.{Fault}
use Rattle.csp_link.specs.declared.held.Held.{Held}
use Rattle.csp_link.specs.declared.way.Way.{Way}
use Rattle.csp_link.specs.declared.way.Way.TheVariants.{Forth, Back}
use Rattle.csp_log.specs.Kinds.{carried_on}
use Rattle.csp_log.specs.declared.places.LinkKind.{LinkKind}
use Rattle.csp_log.specs.declared.places.QueueId.{QueueId}
use Rattle.csp_log.specs.declared.places.QueueId.TheVariants as queue
use Rattle.csp_log.specs.declared.places.Rule.{Rule}
use Rattle.csp_log.specs.declared.places.Rule.TheVariants as rule

-- one direction of a link: its fates, how many frames were popped, which are held
pub record PlainDirection : Type 0 where
  -- what the plan says of its frames
  pub fates : Fates
  -- how many frames it has popped
  pub popped : ℕ
  -- the frames that it holds, in the order of holding
  pub held : List Held

-- a link: its kind, its two directions, and whose turn it is
pub record PlainLink : Type 0 where
  pub kind : LinkKind
  pub forth : PlainDirection
  pub back : PlainDirection
  -- the direction of the present turn, or of the next
  pub way : Way
  -- what this turn is, from the operation to its answer
  pub doing : Doing

-- one of its directions
abbrev pub direction : PlainLink → Way → PlainDirection
direction s Forth = s.forth
direction s Back = s.back

-- the link with this one there
abbrev pub with_direction : PlainLink → Way → PlainDirection → PlainLink
with_direction s Forth d = record s { forth = d }
with_direction s Back d = record s { back = d }

-- the direction whose turn it is
abbrev pub in_turn : PlainLink → PlainDirection
in_turn s = direction s s.way

-- a link that has carried nothing yet
abbrev pub opening_direction : List Fault → Way → PlainDirection
opening_direction plan way = record { fates = fates_of (number way) plan; popped = 0; held = [] }

-- a link of this kind and plan as it opens: nothing popped, nothing held
abbrev pub opening : LinkKind → List Fault → PlainLink
opening kind plan = record {
  kind = kind;
  forth = opening_direction plan Forth;
  back = opening_direction plan Back;
  way = Forth;
  doing = doing.Rest;
}

-- the lanes of two ends
abbrev pub ends : LinkKind → ℕ → Option Rule
ends kind k = (if nat_lt k 2 then Some (rule.Lane (carried_on kind)) else None)

-- it pops the `Tx` of its ends, and pushes to the `Rx`
abbrev pub uses : PlainLink → QueueId → Option Rule
uses s (queue.Tx k) = ends s.kind k
uses s (queue.Rx k) = ends s.kind k
uses s queue.Inbox = None
uses s (queue.Up _) = None
uses s (queue.Down _) = None
uses s (queue.Out _) = None

-- the numbers that its turns raise, added up
abbrev pub count : PlainLink → ℕ
count s = s.forth.popped + s.back.popped
