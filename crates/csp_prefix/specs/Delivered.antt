-- What a router delivered on each connection of an application: the payloads that it pushed to the application's `Down`, by seat and ordinal.
use Rattle.std.specs.Prelude.{ℕ, ◌==◌, ◌&&◌, if◌then◌else◌, List, [], ◌∷◌}
use Rattle.std.specs.List.{flat_map}
use Rattle.csp_base.specs.declared.seat.Seat.{Seat}
use Rattle.csp_log.specs.declared.entry.Entry.{Entry}
use Rattle.csp_log.specs.declared.places.QueueId.TheVariants as queue
use Rattle.csp_log.specs.declared.shown.AnswerShown.{AnswerShown}
use Rattle.csp_log.specs.declared.shown.AnswerShown.TheVariants as answer
use Rattle.csp_log.specs.declared.shown.ItemShown.TheVariants as item
use Rattle.csp_log.specs.declared.shown.OpShown.{OpShown}
use Rattle.csp_log.specs.declared.shown.OpShown.TheVariants as op
use Rattle.csp_record.specs.Ordinals.{entries_on}
use Rattle.csp_record.specs.declared.payloads.Transfer.TheVariants as way

-- the payload that a turn pushed for this slot of an application
abbrev pub delivered_by : Seat → OpShown → AnswerShown → List (List ℕ)
delivered_by seat (op.Push (queue.Down number) (item.Packet mark b)) answer.Pushed = (if number == seat.app && mark == seat.slot then b.payload ∷ [] else [])
delivered_by seat _ _ = []

-- by the whole log of a router: what the entries pushed at which the slot has this ordinal
abbrev pub delivered : Seat → (ordinal : ℕ) → List Entry → List (List ℕ)
delivered seat ordinal entries = flat_map (λ e. delivered_by seat e.op e.answer) (entries_on way.Sent seat ordinal entries)
