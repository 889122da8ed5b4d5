-- what a turn of a hub is: by the first rule that fits
use Rattle.std.specs.Prelude.{ℕ, Bool, true, false, ◌&&◌, Option, Some, None, List, length, nat_le, is_none}
use Rattle.std.specs.List.{list_all}
use Rattle.csp_hub.specs.PlainHub.{PlainEnd, PlainHub, served, others}
use Rattle.csp_link.specs.Holding.{first_due}
use Rattle.csp_link.specs.declared.held.Held.{Held}
use Rattle.csp_link.specs.declared.held.TheConstants.{MOST_HELD}

-- what a turn of a hub is
pub data HubPlan : Type 0 where
  -- this held frame, with so many before it, goes on
  push : ℕ → Held → HubPlan
  -- a frame is popped
  pop : HubPlan
  -- nothing
  wait : HubPlan

-- the frame that is due is pushed; else, with room, one is popped; else nothing
abbrev pub first_rule : Option (ℕ × Held) → (room : Bool) → HubPlan
first_rule (Some p) _ = push p.0 p.1
first_rule None true = pop
first_rule None false = wait

-- few enough frames are held for an end that one more and all its copies find room
abbrev pub has_room : PlainEnd → Bool
has_room e = nat_le (length e.held) MOST_HELD

-- the first frame that is held for the end and due is pushed; else, with room at every other end, one is popped; else nothing
abbrev pub plan_in : (served : PlainEnd) → (others : List PlainEnd) → ℕ → HubPlan
plan_in e others now = first_rule (first_due now e.held) (list_all has_room others)

-- what the next turn is
abbrev pub plan_of : PlainHub → ℕ → HubPlan
plan_of h now = plan_in (served h) (others h) now

-- there is room at an end, and nothing is due to go on to it
abbrev pub is_idle : ℕ → PlainEnd → Bool
is_idle now e = has_room e && is_none (first_due now e.held)
