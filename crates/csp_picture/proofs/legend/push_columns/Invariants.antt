use Rattle.std.proofs.Common.{◌≡◌, ◌++◌, drop}
use Rattle.std.specs.List.{flat_map, enumerate_from}
use Rattle.std.specs.String.{string_bytes}
use Rattle.csp_picture.specs.Legend.{column}
use Rattle.csp_picture.proofs.legend.push_columns.Given as goal

-- the text so far, then the columns that are still to come, are those of all nodes
abbrev pub invariant-loop-place : goal.invariant-loop-place
invariant-loop-place l = string_bytes l.out ++ flat_map (λ n. column l.links l.rows n.0 n.1) (enumerate_from l.place (drop l.place l.nodes)) ≡ string_bytes l.initial.out ++ flat_map (λ n. column l.links l.rows n.0 n.1) (enumerate_from 0 l.nodes)
