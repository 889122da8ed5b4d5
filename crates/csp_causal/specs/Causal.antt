-- Cause before effect: what an application and its router have got of each other was put before.
use Rattle.std.specs.Prelude.{◌≡◌, ◌⊎◌, ℕ, ◌≤◌, List, ◌++◌, length}
use Rattle.csp_consistent.specs.Reading.{entries_of, gets, puts}
use Rattle.csp_log.specs.declared.entry.Entry.{Entry}
use Rattle.csp_log.specs.declared.places.QueueId.{QueueId}
use Rattle.csp_log.specs.declared.places.QueueId.TheVariants as queue
use Rattle.csp_record.specs.Record.{PlainRecord}
use Rattle.csp_log.specs.declared.who.Who.TheVariants as who

-- of two parties with a lane each way, the one from the first to the second and the other back: at no two moments, one of each, had both got of the other
-- what the other had yet to put. For what was put later than it was got would have come before its cause
abbrev pub AreCausal : (there back : QueueId) → (first second : List Entry) → Type 0
AreCausal there back first second =
    (before after earlier later : List Entry) → first ≡ before ++ after → second ≡ earlier ++ later
    → (length (gets there earlier) ≤ length (puts there before)) ⊎ (length (gets back before) ≤ length (puts back earlier))

-- so it is with each application and the router of its node
abbrev pub IsCausal : PlainRecord → Type 0
IsCausal r = (node app : ℕ) → AreCausal (queue.Up app) (queue.Down app) (entries_of r (who.App node app)) (entries_of r (who.Router node))
