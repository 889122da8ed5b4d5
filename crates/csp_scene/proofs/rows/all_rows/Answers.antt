use Rattle.csp_scene.proofs.Shapes.{rows_left}
use Rattle.csp_scene.proofs.rows.all_rows.Goals as goal

pub loop-form-preserved : goal.loop-form-preserved
loop-form-preserved c = rows_left _ _ _ _ _ _ c.loop-form-test.true c.in_ok-push_rows.ensures c.loop-form.invariant
