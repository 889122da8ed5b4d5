use Rattle.std.proofs.Common.{◌≡◌, ◌++◌, true, map, take}
use Rattle.std.specs.Option.{is_some}
use Rattle.std.specs.List.{AllByRecursion, list_all, filter_map}
use Rattle.csp_scene.specs.Ranges.{IsMove}
use Rattle.csp_scene.specs.Moves.{move_of}
use Rattle.csp_scene.proofs.schedule.push_moves.Given as goal

abbrev pub invariant-loop-word : goal.invariant-loop-word
invariant-loop-word l = record {
  moves : l.moves.items ≡ l.fn.moves.items ++ filter_map (move_of l.nodes l.links) (map (λ word. word.now) (take l.word-index l.words));
  all : list_all (λ word. is_some (move_of l.nodes l.links word)) (map (λ word. word.now) (take l.word-index l.words)) ≡ true;
  kept : AllByRecursion (IsMove l.nodes l.links) l.moves.items;
}
