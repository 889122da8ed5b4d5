use Rattle.std.proofs.Common.{map, drop}
use Rattle.csp_scene.specs.Judge.{scene_of}
use Rattle.csp_scene.specs.Kept.{IsSketch, IsRead}
use Rattle.csp_scene.proofs.reading.parse.Given as goal

abbrev pub invariant-loop-line : goal.invariant-loop-line
invariant-loop-line l = record {
  kept : IsSketch l.sketch;
  read : IsRead l.table.items l.number l.in_app l.sketch (map (λ line. line.now) (drop l.line-index l.line-items)) (scene_of l.fn.bytes);
}
