use Rattle.std.proofs.Common.{◌≡◌, ◌++◌, drop}
use Rattle.std.specs.List.{flat_map}
use Rattle.csp_scene.specs.Rows.{rows_of, all_rows}
use Rattle.csp_scene.proofs.rows.all_rows.Given as goal

abbrev pub invariant-loop-form : goal.invariant-loop-form
invariant-loop-form l = l.rows.items ++ flat_map rows_of (drop l.form-index l.form-items) ≡ all_rows
