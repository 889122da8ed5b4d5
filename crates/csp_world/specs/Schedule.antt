-- The schedules, as lists of turns and ticks, and the checks after each round.
use Rattle.std.specs.Prelude.{ℕ, zero, suc, ◌*◌, ◌<◌, ⊤, Option, None, Some, List, [], ◌∷◌, length, map, replicate, nat_le, if◌then◌else◌}
use Rattle.std.specs.List.{range_with_len, flat_map, position_or_len}
use Rattle.csp_draw.specs.Draws.{next_draw, drawn}
use Rattle.csp_log.specs.Who.{is_who}
use Rattle.csp_log.specs.declared.who.Who.{Who}
use Rattle.csp_scene.specs.Scene.{PlainScene, PlainSchedule, in_rounds, shuffled, stepwise}
use Rattle.csp_scene.specs.declared.scenario.Move.{Move}
use Rattle.csp_scene.specs.declared.scenario.Move.TheVariants as move
use Rattle.csp_world.specs.Opening.{opening}
use Rattle.csp_world.specs.World.{PlainWorld, turn, tick, finished, weight}
use Rattle.csp_world.specs.declared.limits.TheConstants.{TURNS_PER_ROUND, MAX_ENTRIES}
use Rattle.csp_world.specs.declared.rounds.Order.{Order}
use Rattle.csp_world.specs.declared.rounds.Order.TheVariants as order

-- the turns of the parties at these places, one after the other
unfoldable pub turns : PlainWorld → List ℕ → PlainWorld
turns w [] = w
turns w (place ∷ places) = turns (turn w place) places

-- `rounds`: in each round each party has its turns, party by party
abbrev pub round_places : ℕ → List ℕ
round_places parties = flat_map (λ place. replicate TURNS_PER_ROUND place) (range_with_len 0 parties)

-- `shuffle`: the parties that so many turns draw, and the last turn's number, which the next draw goes on from
unfoldable pub drawn_places : ℕ → ℕ → ℕ → List ℕ
drawn_places parties zero x = []
drawn_places parties (suc n) x = drawn parties (next_draw x) ∷ drawn_places parties n (next_draw x)

-- the number after so many draws
unfoldable pub draws : ℕ → ℕ → ℕ
draws zero x = x
draws (suc n) x = draws n (next_draw x)

-- the parties of a round's turns, and how the next round goes: the draws go on from round to round
abbrev pub places_in : ℕ → Order → List ℕ
places_in parties order.ByParty = round_places parties
places_in parties (order.ByDraw x) = drawn_places parties (TURNS_PER_ROUND * parties) x

-- the order of the next round
abbrev pub next_order : ℕ → Order → Order
next_order parties order.ByParty = order.ByParty
next_order parties (order.ByDraw x) = order.ByDraw (draws (TURNS_PER_ROUND * parties) x)

-- one round: the turns, then a tick
unfoldable pub round : Order → PlainWorld → PlainWorld
round o w = tick (turns w (places_in (length w.members) o))

-- what is looked at in this order: every application has ended, the entry limit, to which the entries count by what they weigh; none where the
-- logs reach it
abbrev pub checked : PlainWorld → Option PlainWorld → Option PlainWorld
checked after later = (if finished after then Some after else if nat_le MAX_ENTRIES (weight after) then None else later)

-- at most so many rounds, with these checks after each
unfoldable pub rounds : ℕ → Order → PlainWorld → Option PlainWorld
rounds zero o w = Some w
rounds (suc most) o w = checked (round o w) (rounds most (next_order (length w.members) o) (round o w))

-- whether every application has ended is looked at before the first round too
unfoldable pub run_rounds : ℕ → Order → PlainWorld → Option PlainWorld
run_rounds most o w = (if finished w then Some w else rounds most o w)

-- who the parties are, in their order
abbrev pub names : PlainWorld → List Who
names w = map (λ m. m.who) w.members

-- the place of the party of this name
abbrev pub place_named : List Who → Who → ℕ
place_named parties party = position_or_len (is_who party) parties

-- `steps`: a move is a tick, or a turn of a party that is there
abbrev pub IsThere : List Who → Move → Type 0
IsThere parties move.Tick = ⊤
IsThere parties (move.Turn party) = place_named parties party < length parties

-- each move is a turn of the party that it names, or a tick
abbrev pub moved : PlainWorld → Move → PlainWorld
moved w move.Tick = tick w
moved w (move.Turn party) = turn w (place_named (names w) party)

-- the world after these turns and ticks
unfoldable pub moves : PlainWorld → List Move → PlainWorld
moves w [] = w
moves w (m ∷ ms) = moves (moved w m) ms

-- no check is made before the end of the list
unfoldable pub run_moves : PlainWorld → Option PlainWorld
run_moves after = checked after (Some after)

-- the world at the end of a schedule, and none where its logs reach the entry limit; `steps` does not look at the number
-- of rounds
abbrev pub run_as : PlainSchedule → ℕ → PlainWorld → Option PlainWorld
run_as in_rounds most w = run_rounds most order.ByParty w
run_as (shuffled seed) most w = run_rounds most (order.ByDraw seed) w
run_as (stepwise ms) most w = run_moves (moves w ms)

-- the world at the end of a scene's run
unfoldable pub run : PlainScene → Option PlainWorld
run scene = run_as scene.schedule scene.until (opening scene)
