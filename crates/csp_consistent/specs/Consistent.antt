-- A record that can be one of a scene's run: six things that tie the logs of its parties together, without an order of all turns.
use Rattle.csp_record.specs.Record.{PlainRecord}
use Rattle.csp_scene.specs.Scene.{PlainScene}
use Rattle.csp_consistent.specs.Inboxes.{AreInboxesInOrder}
use Rattle.csp_consistent.specs.Lanes.{AreInOrder}
use Rattle.csp_consistent.specs.Links.{ArePlanned, AreSpread}
use Rattle.csp_consistent.specs.Origins.{HaveOrigins}
use Rattle.csp_topology.specs.Parties.{parties_of}
use Rattle.csp_consistent.specs.Pools.{AreNumbersKept}
use Rattle.csp_consistent.specs.Runs.{AreLogsOf}

-- the six things that tie the logs of a record to its scene and to each other
pub record IsConsistent (scene : PlainScene) (r : PlainRecord) : Type 0 where
  -- 1. each party's entries are a run of its turns from its opening
  pub runs : AreLogsOf (parties_of scene) r.parties
  -- 2. what came out of each lane, and what was left there, is what went in, in order
  pub lanes : AreInOrder scene r
  -- 3. of each priority of an inbox, each producer's packets came in its order, and no others
  pub inboxes : AreInboxesInOrder scene r
  -- 4. no number of a pool was lost or made, and each was where the record says, which speaks of each queue and place once, and of no other
  pub numbers : AreNumbersKept scene r
  -- 5. a link pushed copies that its plan makes of what it popped, each at most once, and a hub to each end of what it popped from the others
  pub links : ArePlanned scene r
  pub hubs : AreSpread scene r
  -- 6. what an interface handed in was sent at another end of its link
  pub origins : HaveOrigins scene r
