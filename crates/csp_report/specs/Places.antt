-- How many buffers the places of a node held when the run ended.
use Rattle.std.specs.Prelude.{ℕ, ◌==◌, ◌&&◌, Bool, true, false, length, sum_by, if◌then◌else◌}
use Rattle.csp_log.specs.declared.places.Place.{Place}
use Rattle.csp_log.specs.declared.places.Place.TheVariants as place
use Rattle.csp_log.specs.Remains.{PlainHeld}
use Rattle.csp_record.specs.Record.{PlainRecord}
use Rattle.csp_report.specs.declared.places.PlaceKind.{PlaceKind}
use Rattle.csp_report.specs.declared.places.PlaceKind.TheVariants as kind

-- which places are of a kind: an inbox of any priority, any lane, any interface, any application
abbrev pub is_of_kind : PlaceKind → Place → Bool
is_of_kind kind.Pool place.Pool = true
is_of_kind kind.Inbox (place.Inbox prio) = true
is_of_kind kind.Lane (place.Lane queue) = true
is_of_kind kind.Router place.Router = true
is_of_kind kind.Iface (place.Iface number) = true
is_of_kind kind.App (place.App number) = true
is_of_kind _ _ = false

-- how many numbers this place held, where it is a place of this node and of this kind
abbrev pub count_at : ℕ → PlaceKind → PlainHeld → ℕ
count_at node kind held = (if held.node == node && is_of_kind kind held.place then length held.numbers else 0)

-- how many numbers the places of this kind held at this node together
abbrev pub held_in : PlainRecord → ℕ → PlaceKind → ℕ
held_in record' node kind = sum_by (count_at node kind) record'.held
