use Rattle.std.proofs.Common.{◌≡◌, ◌++◌, drop}
use Rattle.std.specs.List.{flat_map, enumerate_from}
use Rattle.std.specs.String.{string_bytes}
use Rattle.csp_picture.specs.Legend.{link_sample}
use Rattle.csp_picture.proofs.legend.push_links.Given as goal

-- the text so far, then the samples that are still to come, are those of all links
abbrev pub invariant-loop-place : goal.invariant-loop-place
invariant-loop-place l = string_bytes l.out ++ flat_map (λ k. link_sample l.nodes k.0 k.1) (enumerate_from l.place (drop l.place l.links)) ≡ string_bytes l.initial.out ++ flat_map (λ k. link_sample l.nodes k.0 k.1) (enumerate_from 0 l.links)
