-- where the bytes of a script's packets stand: in one list, each by its place
use Rattle.std.specs.Prelude.{ℕ, ◌+◌, ◌≤◌, ⊤, List, length, take, drop}
use Rattle.std.specs.List.{AllByRecursion}
use Rattle.csp_app.specs.PlainStep.{PlainStep}
use Rattle.csp_app.specs.PlainStep as plain
use Rattle.csp_app.specs.declared.placed.Place.{Place}
use Rattle.csp_app.specs.declared.placed.Placed.{Placed}
use Rattle.csp_app.specs.declared.placed.Placed.TheVariants as placed
use Rattle.csp_app.specs.declared.step.Step.{Step}
use Rattle.csp_app.specs.declared.step.Step.TheVariants as step

-- a step as it is read and added
abbrev pub plain_step : Step → PlainStep
plain_step step.Take = plain.Take
plain_step step.Give = plain.Give
plain_step (step.Bind port need) = plain.Bind port need
plain_step (step.Connect slot dest port prio flags from) = plain.Connect slot dest port prio flags from
plain_step (step.Send slot bytes) = plain.Send slot bytes.now
plain_step (step.Burst slot count len) = plain.Burst slot count len
plain_step (step.Blob slot len size) = plain.Blob slot len size
plain_step (step.Raw header bytes) = plain.Raw header bytes.now
plain_step (step.Recv slot count rounds) = plain.Recv slot count rounds
plain_step (step.Collect slot count rounds) = plain.Collect slot count rounds
plain_step (step.Close slot) = plain.Close slot
plain_step (step.Wait rounds) = plain.Wait rounds

-- the place of bytes that follow a list
abbrev pub place_after : List ℕ → List ℕ → Place
place_after bytes more = record { first = length bytes; len = length more }

-- the bytes at a place
abbrev pub part : List ℕ → Place → List ℕ
part bytes place = take place.len (drop place.first bytes)

-- a step as a script keeps it, with the bytes at its place
abbrev pub placed_step : List ℕ → Placed → PlainStep
placed_step bytes placed.Take = plain.Take
placed_step bytes placed.Give = plain.Give
placed_step bytes (placed.Bind port need) = plain.Bind port need
placed_step bytes (placed.Connect slot dest port prio flags from) = plain.Connect slot dest port prio flags from
placed_step bytes (placed.Send slot place) = plain.Send slot (part bytes place)
placed_step bytes (placed.Burst slot count len) = plain.Burst slot count len
placed_step bytes (placed.Blob slot len size) = plain.Blob slot len size
placed_step bytes (placed.Raw header place) = plain.Raw header (part bytes place)
placed_step bytes (placed.Recv slot count rounds) = plain.Recv slot count rounds
placed_step bytes (placed.Collect slot count rounds) = plain.Collect slot count rounds
placed_step bytes (placed.Close slot) = plain.Close slot
placed_step bytes (placed.Wait rounds) = plain.Wait rounds

-- the list has the bytes of a step's packet
abbrev pub IsWithin : List ℕ → Placed → Type 0
IsWithin bytes placed.Take = ⊤
IsWithin bytes placed.Give = ⊤
IsWithin bytes (placed.Bind _ _) = ⊤
IsWithin bytes (placed.Connect _ _ _ _ _ _) = ⊤
IsWithin bytes (placed.Send _ place) = place.first + place.len ≤ length bytes
IsWithin bytes (placed.Burst _ _ _) = ⊤
IsWithin bytes (placed.Blob _ _ _) = ⊤
IsWithin bytes (placed.Raw _ place) = place.first + place.len ≤ length bytes
IsWithin bytes (placed.Recv _ _ _) = ⊤
IsWithin bytes (placed.Collect _ _ _) = ⊤
IsWithin bytes (placed.Close _) = ⊤
IsWithin bytes (placed.Wait _) = ⊤

-- the list has the bytes of each of these steps
abbrev pub AreWithin : List ℕ → List Placed → Type 0
AreWithin bytes steps = AllByRecursion (IsWithin bytes) steps
