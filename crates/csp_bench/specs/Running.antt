-- The run that a text states, by its schedule.
use Rattle.std.specs.Prelude.{ℕ, ◌≡◌, ◌≤◌, List, length, None, Some, Ok}
use Rattle.csp_base.specs.Faults.{Rose}
use Rattle.csp_scene.specs.Judge.{scene_of}
use Rattle.csp_scene.specs.Scene.{PlainScene}
use Rattle.csp_record.specs.Record.{PlainRecord}
use Rattle.csp_world.specs.Record.{sim_record}
use Rattle.csp_bench.specs.declared.status.TheConstants.{MAX_SCENARIO}

-- the text states a scene whose logs reach the entry limit
pub record IsPastEntries (text : List ℕ) : Type 0 where
  pub scene : PlainScene
  pub stated : scene_of text ≡ Ok scene
  pub full : sim_record scene ≡ None

-- nothing hinders a report of this text: it has no more bytes than the limit, it states a scene, no count of faults
-- rises, neither of reading nor of writing, and the run of the scene doesn't stop at the entry limit
pub record IsUnhindered (text : List ℕ) (reading_old reading_new writing_old writing_new : ℕ) : Type 0 where
  pub short : length text ≤ MAX_SCENARIO
  pub scene : PlainScene
  pub run : PlainRecord
  pub stated : scene_of text ≡ Ok scene
  pub reading_steady : Rose reading_old reading_new → ⊥
  pub writing_steady : Rose writing_old writing_new → ⊥
  pub ran : sim_record scene ≡ Some run
