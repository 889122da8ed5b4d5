-- the queues that a link looks into again and again
use Rattle.std.specs.Prelude.{ℕ, Bool, true, List, [], ◌∷◌}
use Rattle.csp_link.specs.PlainLink.{PlainLink}
use Rattle.csp_link.specs.Turns.{looks, plan_in}
use Rattle.csp_link.specs.Ways.{from_queue, other}
use Rattle.csp_link.specs.declared.doing.Doing.{Doing}
use Rattle.csp_link.specs.declared.doing.Doing.TheVariants as doing
use Rattle.csp_link.specs.declared.way.Way.{Way}
use Rattle.csp_log.specs.declared.places.QueueId.{QueueId}

-- between two turns those of its two directions, that whose turn it is first, where both look for a frame
abbrev pub between_turns : Doing → (forth back : Bool) → Way → List QueueId
between_turns doing.Rest true true way = from_queue way ∷ from_queue (other way) ∷ []
between_turns _ _ _ _ = []

-- the queues that a link looks into until it is as it was
abbrev pub circle : PlainLink → ℕ → List QueueId
circle s now = between_turns s.doing (looks (plan_in s.forth now)) (looks (plan_in s.back now)) s.way
