-- A record that can be one of a run in threads: besides what ties the logs of each run together, it was made in rounds, and what earlier rounds did
-- was seen.
use Rattle.csp_consistent.specs.Consistent.{IsConsistent}
use Rattle.csp_consistent.specs.Prompt.{IsPrompt}
use Rattle.csp_consistent.specs.Rounds.{IsMadeInRounds}
use Rattle.csp_record.specs.Record.{PlainRecord}
use Rattle.csp_scene.specs.Scene.{PlainScene}

-- the eight things that are true of the record of a run in threads
pub record IsThreaded (scene : PlainScene) (r : PlainRecord) : Type 0 where
  -- 1 to 6. what ties the logs to the scene and to each other, whatever the order of turns
  pub consistent : IsConsistent scene r
  -- 7. each party makes eight turns a round until it ends, and no round begins after all applications have ended
  pub rounds : IsMadeInRounds scene r
  -- 8. what earlier rounds did to a lane was seen by each who found it empty or full, and what they put into an inbox by its reader; of a pool, and of a
  -- full inbox, the totals of the whole run come to what was found
  pub prompt : IsPrompt scene r
