-- The slots of a node's applications as plain data.
use Rattle.std.specs.Prelude.{◌≡◌, ℕ, ◌+◌, ◌*◌, ◌/◌, ◌%◌, ◌-◌, ◌<◌, ◌≤◌, List, length, replicate, get_or, slice_set, slice_range}
use Rattle.csp_base.specs.declared.ports.TheConstants.{FIRST_OWN_PORT}
use Rattle.csp_conn.specs.declared.circle.TheConstants.{OWN_PORTS}
use Rattle.csp_base.specs.declared.limits.TheConstants.{MAX_APPS, SLOTS}
use Rattle.csp_base.specs.Seat.{seat}
use Rattle.csp_base.specs.declared.seat.Seat.{Seat}
use Rattle.csp_conn.specs.declared.slot.Slot.{Slot}
use Rattle.csp_conn.specs.declared.slot.Slot.TheVariants.{Free}

-- how many applications there are, what each slot has, in the order of application, then slot, and the own port that
-- was chosen last
pub record PlainConns : Type 0 where
  pub apps : ℕ
  pub slots : List Slot
  pub last : ℕ

-- what holds of each: each application has its slots, and the port chosen last is an own port
pub record IsConns (c : PlainConns) : Type 0 where
  pub few : c.apps ≤ MAX_APPS
  pub all : length c.slots ≡ c.apps * SLOTS
  pub own : FIRST_OWN_PORT ≤ c.last
  pub below : c.last < FIRST_OWN_PORT + OWN_PORTS

-- there is such an application, and it has such a slot
pub record IsThere (c : PlainConns) (s : Seat) : Type 0 where
  pub of_node : s.app < c.apps
  pub of_app : s.slot < SLOTS

-- the place of a seat in the order of application, then slot
abbrev pub place_of : Seat → ℕ
place_of s = s.app * SLOTS + s.slot

-- the seat at a place of that order
abbrev pub seat_of : (place : ℕ) → Seat
seat_of place = seat (place / SLOTS) (place % SLOTS)

-- what a slot has
abbrev pub slot_at : PlainConns → Seat → Slot
slot_at c s = get_or c.slots (place_of s) Free

-- what the slots of an application have
abbrev pub slots_of : PlainConns → (app : ℕ) → List Slot
slots_of c app = slice_range c.slots (place_of (seat app 0)) (place_of (seat app 0) + SLOTS)

-- with this in a slot
abbrev pub with_slot : PlainConns → Seat → Slot → PlainConns
with_slot c s what = record c { slots = slice_set c.slots (place_of s) what }

-- the slots of so many applications before any connection: the circle of own ports begins with its first
abbrev pub conns_of : ℕ → PlainConns
conns_of apps = record { apps = apps; slots = replicate (apps * SLOTS) Free; last = FIRST_OWN_PORT + (OWN_PORTS - 1) }
