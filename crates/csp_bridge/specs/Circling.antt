-- the queues that a bridge looks into again and again
use Rattle.std.specs.Prelude.{Option, None, List, [], ◌∷◌}
use Rattle.csp_bridge.specs.PlainBridge.{PlainBridge}
use Rattle.csp_bridge.specs.declared.doing.Doing.{Doing}
use Rattle.csp_bridge.specs.declared.doing.Doing.TheVariants as doing
use Rattle.csp_buffer.specs.Content.{Content}
use Rattle.csp_log.specs.declared.places.QueueId.{QueueId}
use Rattle.csp_log.specs.declared.places.QueueId.TheVariants as queue

-- between two turns it looks into its inbox alone, unless it holds a packet
abbrev pub between_turns : Doing → (trash out : Option Content) → List QueueId
between_turns doing.Rest None None = queue.Inbox ∷ []
between_turns _ _ _ = []

-- the queues that a bridge looks into until it is as it was
abbrev pub circle : PlainBridge → List QueueId
circle s = between_turns s.doing s.trash s.out
