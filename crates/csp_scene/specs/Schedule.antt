-- What `schedule` lines state.
use Rattle.std.specs.Prelude.{ℕ, List, ◌++◌, Option, Some, None, is_none, is_some, Result, Ok, Err}
use Rattle.std.specs.List.{list_all, filter_map}
use Rattle.csp_scene.specs.declared.refusal.SceneKind.{SceneKind}
use Rattle.csp_scene.specs.declared.refusal.SceneKind.TheVariants as kind
use Rattle.csp_scene.specs.declared.scenario.Move.{Move}
use Rattle.csp_scene.specs.Scene.{PlainSchedule, in_rounds, shuffled, stepwise}
use Rattle.csp_scene.specs.Moves.{move_of}
use Rattle.csp_scene.specs.Sketch.{PlainSketch, demand}

-- `schedule rounds`, `schedule shuffle S`: no other schedule line
abbrev pub state_schedule : PlainSketch → PlainSchedule → Result PlainSketch SceneKind
state_schedule d schedule = demand (is_none d.schedule) kind.Twice (Ok (record d { schedule = Some schedule }))

-- `schedule steps WORD..`: more moves, after those of earlier such lines
abbrev pub add_moves : PlainSketch → List Move → Option PlainSchedule → Result PlainSketch SceneKind
add_moves d moves None = Ok (record d { schedule = Some (stepwise moves) })
add_moves d moves (Some in_rounds) = Err kind.Twice
add_moves d moves (Some (shuffled seed)) = Err kind.Twice
add_moves d moves (Some (stepwise earlier)) = Ok (record d { schedule = Some (stepwise (earlier ++ moves)) })

-- what a `schedule steps` line adds: each word must name a move
abbrev pub state_moves : PlainSketch → List (List ℕ) → Result PlainSketch SceneKind
state_moves d words =
    demand (list_all (λ word. is_some (move_of d.nodes d.links word)) words) kind.Unknown
    (add_moves d (filter_map (move_of d.nodes d.links) words) d.schedule)
