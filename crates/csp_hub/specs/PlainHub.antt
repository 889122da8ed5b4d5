-- what a hub is: its ends, and which of them is served
use Rattle.std.specs.Prelude.{ℕ, ◌+◌, Option, Some, None, List, [], length, map, nat_lt, slice_index_or, slice_set, sum_by, if◌then◌else◌}
use Rattle.std.specs.List.{range_with_len, remove}
use Rattle.csp_hub.specs.declared.doing.Doing.{Doing}
use Rattle.csp_hub.specs.declared.doing.Doing.TheVariants as doing
use Rattle.csp_link.specs.Fates.{Fates, fates_of}
use Rattle.csp_link.specs.declared.fault.Fault.{Fault}
use Rattle.csp_link.specs.declared.held.Held.{Held}
use Rattle.csp_log.specs.declared.places.Carries.TheVariants as carries
use Rattle.csp_log.specs.declared.places.QueueId.{QueueId}
use Rattle.csp_log.specs.declared.places.QueueId.TheVariants as queue
use Rattle.csp_log.specs.declared.places.Rule.{Rule}
use Rattle.csp_log.specs.declared.places.Rule.TheVariants as rule

-- an end of a hub: the fates of its frames, how many were popped, which are held for it
pub record PlainEnd : Type 0 where
  -- what the plan says of the frames that come from it
  pub fates : Fates
  -- how many frames were popped from it
  pub popped : ℕ
  -- the frames that are held for it, in the order of holding
  pub held : List Held

-- a hub: its ends, and which of them is served
pub record PlainHub : Type 0 where
  -- the ends, in their order
  pub ends : List PlainEnd
  -- the number of the end that the present turn serves, or the next
  pub serving : ℕ
  -- what this turn is, from the operation to its answer
  pub doing : Doing

-- an end from which and to which nothing has gone yet
abbrev pub opening_end : List Fault → (number : ℕ) → PlainEnd
opening_end plan number = record { fates = fates_of number plan; popped = 0; held = [] }

-- a hub with so many ends and this plan as it opens: nothing popped, nothing held
abbrev pub opening : (ends : ℕ) → List Fault → PlainHub
opening ends plan = record { ends = map (opening_end plan) (range_with_len 0 ends); serving = 0; doing = doing.Rest }

-- an end without faults, from which and to which nothing has gone
abbrev pub no_end : PlainEnd
no_end = record { fates = []; popped = 0; held = [] }

-- the end of this number, where there is one
abbrev pub end_at : ℕ → List PlainEnd → PlainEnd
end_at k ends = slice_index_or ends k no_end

-- the end that is served
abbrev pub served : PlainHub → PlainEnd
served h = end_at h.serving h.ends

-- every other end
abbrev pub others : PlainHub → List PlainEnd
others h = remove h.ends h.serving

-- the hub with this one in place of the end that is served
abbrev pub with_served : PlainHub → PlainEnd → PlainHub
with_served h e = record h { ends = slice_set h.ends h.serving e }

-- the ends are served in a circle: after the last one comes the first again
abbrev pub next_end : (ends : ℕ) → ℕ → ℕ
next_end ends k = (if nat_lt (k + 1) ends then k + 1 else 0)

-- the CAN lane of an end, where there is one of this number
abbrev pub lane_of : (ends : ℕ) → ℕ → Option Rule
lane_of ends k = (if nat_lt k ends then Some (rule.Lane carries.Can) else None)

-- it pops the `Tx` of its ends, and pushes to the `Rx`
abbrev pub uses : PlainHub → QueueId → Option Rule
uses h (queue.Tx k) = lane_of (length h.ends) k
uses h (queue.Rx k) = lane_of (length h.ends) k
uses h queue.Inbox = None
uses h (queue.Up _) = None
uses h (queue.Down _) = None
uses h (queue.Out _) = None

-- the numbers that its turns raise, added up
abbrev pub count : PlainHub → ℕ
count h = sum_by (λ e. e.popped) h.ends
