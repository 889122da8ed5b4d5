-- the looks of a router into queues that are empty
use Rattle.std.specs.Prelude.{◌≡◌, ℕ, ◌+◌, false, Option, None, Some, IsSome}
use Rattle.std.specs.Option.{option_and_then, option_map}
use Rattle.csp_deck.specs.Circles.{IsLook, state_missed}
use Rattle.csp_deck.specs.Runs.{Steps}
use Rattle.csp_log.specs.declared.places.QueueId.{QueueId}
use Rattle.csp_log.specs.declared.places.QueueId.TheVariants as queue
use Rattle.csp_stack.specs.Party.{IsClear, asked_of, asks_of, events_of, rules_of, told_of}
use Rattle.csp_stack.specs.Router.{Facts, RouterAt, State, StateAt, with_router}
use Rattle.csp_stack.specs.Sources.{place_past, place_with_work, source_at}
use Rattle.csp_stack.specs.Turn.{timed}
use Rattle.csp_stack.specs.declared.plan.Plan.TheVariants.{Rest}
use Rattle.csp_stack.specs.declared.sources.Source.{Source}
use Rattle.csp_stack.specs.declared.sources.Source.TheVariants as source

-- a router as one who takes turns
abbrev pub router_steps : Steps RouterAt
router_steps = record {
  has_ended = λ _. false;
  asks = λ r time. asks_of r.router time;
  asked = λ r time. with_router r (asked_of r.router time);
  tells = λ r time a. with_router r (told_of r.router time a);
  events = λ r time a. events_of r.router time a;
}

-- the router of these facts in this state
abbrev pub router_of : Facts → StateAt → RouterAt
router_of f s = record { region = s.region; router = record { facts = f; state = s.state } }

-- the state with its cursor there
abbrev pub at_cursor : State → ℕ → State
at_cursor s cursor = record s { cursor = cursor }

-- and the router
abbrev pub router_from : Facts → StateAt → ℕ → RouterAt
router_from f s cursor = router_of f (record s { state = at_cursor s.state cursor })

-- nothing is awaited, nothing is in the way of a look, and the timers have nothing to do
pub record IsIdle (s : State) (time : ℕ) : Type 0 where
  pub rests : s.doing ≡ Rest
  pub clear : IsClear s
  pub still : timed s time ≡ s

-- the queue of a source, and the cursor past it; the jobs have none
abbrev pub look_at : Facts → Source → Option (QueueId × ℕ)
look_at f source.Inbox = Some (queue.Inbox, place_past f 0)
look_at f (source.App k) = Some (queue.Up k, place_past f (k + 1))
look_at f source.Jobs = None

-- where a router with nothing else to do looks, and the cursor past it: at the first source with work, where that is a queue
abbrev pub look_of : Facts → State → ℕ → Option (QueueId × ℕ)
look_of f s time = option_and_then (look_at f) (option_map (source_at f) (place_with_work f s time))

-- a turn from this cursor on looks into a queue, which the router uses; where it is empty, the router is as it was, but for the cursor,
-- which is past the queue
pub record Passes (f : Facts) (s : StateAt) (time cursor : ℕ) (seen : QueueId × ℕ) : Type 0 where
  pub look : IsLook router_steps time (router_from f s cursor) seen.0
  pub missed : state_missed router_steps time (router_from f s cursor) ≡ router_from f s seen.1
  pub used : IsSome (rules_of f seen.0)
