-- the queues that a hub looks into again and again
use Rattle.std.specs.Prelude.{ℕ, ◌-◌, Bool, true, List, [], ◌++◌, length, map}
use Rattle.std.specs.List.{list_all, range_with_len}
use Rattle.csp_hub.specs.PlainHub.{PlainHub}
use Rattle.csp_hub.specs.Planning.{is_idle}
use Rattle.csp_hub.specs.declared.doing.Doing.{Doing}
use Rattle.csp_hub.specs.declared.doing.Doing.TheVariants as doing
use Rattle.csp_log.specs.declared.places.QueueId.{QueueId}
use Rattle.csp_log.specs.declared.places.QueueId.TheVariants as queue

-- the `Tx` of so many ends, from this number on
abbrev pub sources : (from many : ℕ) → List QueueId
sources from many = map queue.Tx (range_with_len from many)

-- between two turns, with room at every end and nothing that is due: those of all ends once round the circle, from the one that is served on
abbrev pub between_turns : Doing → (idle : Bool) → (ends from : ℕ) → List QueueId
between_turns doing.Rest true ends from = sources from (ends - from) ++ sources 0 from
between_turns _ _ _ _ = []

-- the queues that a hub looks into until it is as it was
abbrev pub circle : PlainHub → ℕ → List QueueId
circle h now = between_turns h.doing (list_all (is_idle now) h.ends) (length h.ends) h.serving
