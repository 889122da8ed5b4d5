-- The record of a run: what each party did, what was left where, and how the run ended.
use Rattle.std.specs.Prelude.{Option, List, [], ◌++◌, length, map}
use Rattle.std.specs.List.{flat_map}
use Rattle.std.specs.Option.{option_map, option_to_list}
use Rattle.csp_consistent.specs.Consistent.{IsConsistent}
use Rattle.csp_consistent.specs.Pools.{held_by}
use Rattle.csp_log.specs.Remains.{PlainHeld}
use Rattle.csp_nodes.specs.Gathering.{all_left, queues_held, pools_held}
use Rattle.csp_party.specs.Any.{holds, present_step}
use Rattle.csp_record.specs.Record.{PlainPartyLog, PlainRecord}
use Rattle.csp_log.specs.Who.{home_of}
use Rattle.csp_scene.specs.Kept.{AreLinksAfter}
use Rattle.csp_scene.specs.Ranges.{IsScene}
use Rattle.csp_scene.specs.Scene.{PlainScene}
use Rattle.csp_world.specs.Reached.{IsReached}
use Rattle.csp_world.specs.Schedule.{run}
use Rattle.csp_world.specs.World.{PlainMember, PlainWorld, finished}

-- which buffers a party held, where it has a place: a link has none, and holds none
abbrev pub member_held : PlainMember → List PlainHeld
member_held m = option_to_list (option_map (held_by (holds m.party)) (home_of m.who))

-- a party's log
abbrev pub member_log : PlainMember → PlainPartyLog
member_log m = record { who = m.who; entries = m.entries; step = present_step m.party }

-- the record of a world as it stands, at the end of its run or before: of the places first the queues, then the parties, then the pools
abbrev pub record_of : PlainWorld → PlainRecord
record_of w = record {
  parties = map member_log w.members;
  left = all_left 0 w.decks;
  held = queues_held 0 w.decks ++ (flat_map member_held w.members ++ pools_held 0 (map (λ d. d.pool) w.decks));
  rounds = w.time;
  finished = finished w;
}

-- the record of the world as it stands is consistent with each scene of whose opening some turns and ticks make the world, where the scene's links end
-- each at the interfaces after those of the earlier ones
abbrev pub HasConsistentRecord : PlainWorld → Type 0
HasConsistentRecord w = (scene : PlainScene) → IsScene scene → AreLinksAfter (length scene.nodes) [] scene.links → IsReached scene w → IsConsistent scene (record_of w)

-- the record of a scene's run, and none where its logs reach the entry limit
unfoldable pub sim_record : PlainScene → Option PlainRecord
sim_record scene = option_map record_of (run scene)
