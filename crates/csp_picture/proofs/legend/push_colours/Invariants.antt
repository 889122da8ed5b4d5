use Rattle.std.proofs.Common.{◌≡◌, ◌++◌, drop}
use Rattle.std.specs.List.{flat_map, enumerate_from}
use Rattle.std.specs.String.{string_bytes}
use Rattle.csp_picture.specs.Legend.{colour_sample}
use Rattle.csp_picture.proofs.legend.push_colours.Given as goal

-- the text so far, then the samples that are still to come, are those of all colours
abbrev pub invariant-loop-place : goal.invariant-loop-place
invariant-loop-place l = string_bytes l.out ++ flat_map (λ c. colour_sample c.0 c.1) (enumerate_from l.place (drop l.place l.colours)) ≡ string_bytes l.initial.out ++ flat_map (λ c. colour_sample c.0 c.1) (enumerate_from 0 l.colours)
