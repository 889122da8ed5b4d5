-- what an application is: its script, how far it has come, and the buffers that it has
use Rattle.std.specs.Prelude.{ℕ, ◌+◌, ◌==◌, ◌&&◌, Bool, false, Option, Some, None, is_none, List, [], ◌++◌, length, replicate, nat_le, if◌then◌else◌}
use Rattle.std.specs.Option.{option_to_list}
use Rattle.csp_app.specs.Collecting.{Collectors, collectors_for}
use Rattle.csp_app.specs.Slots.{fresh, slots_count}
use Rattle.csp_app.specs.declared.plan.AppPlan.{AppPlan}
use Rattle.csp_app.specs.declared.plan.AppPlan.TheVariants as plan
use Rattle.csp_app.specs.declared.slot.KnownSlot.{KnownSlot}
use Rattle.csp_app.specs.PlainStep.{PlainStep}
use Rattle.csp_arena.specs.Cells.{RegionName}
use Rattle.csp_buffer.specs.Content.{Content}
use Rattle.csp_deck.specs.Keeping.{numbers_of}
use Rattle.csp_log.specs.declared.places.Carries.TheVariants as lane
use Rattle.csp_log.specs.declared.places.QueueId.{QueueId}
use Rattle.csp_log.specs.declared.places.QueueId.TheVariants as queue
use Rattle.csp_log.specs.declared.places.Rule.{Rule}
use Rattle.csp_log.specs.declared.places.Rule.TheVariants as rule
use Rattle.csp_base.specs.declared.limits.TheConstants.{SLOTS}
use Rattle.csp_log.specs.declared.places.TheConstants.{UNMARKED}

-- an application: what it keeps from turn to turn, and from question to answer
pub record PlainApp : Type 0 where
  -- its number in its node
  pub number : ℕ
  -- its script, and how many of its steps are done
  pub steps : List PlainStep
  pub done : ℕ
  -- when the present step had the first turn of its own
  pub since : Option ℕ
  -- the present step's note was pushed, and its answer is awaited
  pub asked : Bool
  -- how many packets of the present step were pushed
  pub sent : ℕ
  -- an operation was refused, and `Down` was not popped since
  pub refused : Bool
  -- a packet that was popped, to be given back
  pub taken : Option Content
  -- a packet that the present step has made, to be pushed, and its mark
  pub made : Option Content
  pub mark : ℕ
  -- the buffers got by `take`, the oldest first
  pub held : List Content
  -- what it knows of its slots, and the collectors of those that collect
  pub slots : List KnownSlot
  pub collectors : Collectors
  -- what this turn is, from the operation to its answer
  pub doing : AppPlan

-- an application whose buffers are of this region
pub record AppAt : Type 0 where
  pub region : RegionName
  pub app : PlainApp

-- the application with this state
abbrev pub with_app : AppAt → PlainApp → AppAt
with_app a s = record { region = a.region; app = s }

-- an application of this number at the start of this script
abbrev pub opening : ℕ → List PlainStep → PlainApp
opening number steps = record {
  number = number;
  steps = steps;
  done = 0;
  since = None;
  asked = false;
  sent = 0;
  refused = false;
  taken = None;
  made = None;
  mark = UNMARKED;
  held = [];
  slots = replicate SLOTS fresh;
  collectors = collectors_for steps;
  doing = plan.Rest;
}

-- a script that is done, with no packet to give back, has ended
abbrev pub has_ended : PlainApp → Bool
has_ended s = nat_le (length s.steps) s.done && is_none s.taken

-- the number of the present step, from 1: one past the last where only a packet is still to be given back, 0 at the end
abbrev pub present_step : PlainApp → ℕ
present_step s = (if has_ended s then 0 else s.done + 1)

-- the buffers that it holds: one popped, one made, those got by `take`
abbrev pub buffers : PlainApp → List Content
buffers s = option_to_list s.taken ++ (option_to_list s.made ++ s.held)

-- the numbers of the buffers that an application holds
abbrev pub holds : PlainApp → List ℕ
holds s = numbers_of (buffers s)

-- it pushes to the `Up` of its number, and pops the `Down`
abbrev pub uses : PlainApp → QueueId → Option Rule
uses s (queue.Up k) = (if k == s.number then Some (rule.Lane lane.Up) else None)
uses s (queue.Down k) = (if k == s.number then Some (rule.Lane lane.Down) else None)
uses s queue.Inbox = None
uses s (queue.Out _) = None
uses s (queue.Tx _) = None
uses s (queue.Rx _) = None

-- the numbers that its turns raise, added up
abbrev pub count : PlainApp → ℕ
count s = slots_count s.slots
