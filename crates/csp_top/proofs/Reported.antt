-- What is known of a run and of the text that was made of it is what the report owes.
use Rattle.std.proofs.Common.{◌≡◌, ℕ, List, Result, Ok, Err, Some}
use Rattle.std.specs.Prelude.{IfOk}
use Rattle.csp_causal.specs.Causal.{IsCausal}
use Rattle.csp_consistent.specs.Consistent.{IsConsistent}
use Rattle.csp_record.specs.Record.{PlainRecord}
use Rattle.csp_report.specs.Report.{report}
use Rattle.csp_scene.specs.Judge.{scene_of}
use Rattle.csp_scene.specs.Scene.{PlainScene}
use Rattle.csp_top.specs.Main.{HasBlobPrefix, IsReportOf, IsUncountedIfOrdinary, StaysReliable}
use Rattle.csp_world.specs.Record.{sim_record}

pub reported : {V E : Type 0} (items : V → List ℕ) (text : List ℕ) (scene : PlainScene) (run : PlainRecord) (r : Result V E) → scene_of text ≡ Ok scene → sim_record scene ≡ Some run → IsConsistent scene run → IsCausal run
    → StaysReliable scene → IfOk r (λ v. items v ≡ report scene run) → IfOk r (λ v. IsUncountedIfOrdinary scene run (items v)) → IfOk r (λ v. HasBlobPrefix scene run) → IfOk r (λ v. IsReportOf text (items v))
reported items text scene run (Ok v) stated ran consistent causal stays bytes ordinary blobs = record {
  scene = scene;
  run = run;
  stated = stated;
  ran = ran;
  consistent = consistent;
  causal = causal;
  stays = stays;
  blobs = blobs;
  reported = bytes;
  ordinary = ordinary;
}
reported items text scene run (Err e) stated ran consistent causal stays bytes ordinary blobs = tt
