use Rattle.std.proofs.Common.{◌≡◌, ◌++◌, drop}
use Rattle.std.specs.List.{flat_map}
use Rattle.std.specs.String.{string_bytes}
use Rattle.csp_picture.specs.Legend.{node_name}
use Rattle.csp_picture.specs.Words.{spaced}
use Rattle.csp_picture.proofs.legend.push_end_names.Given as goal

-- the text so far, then the names that are still to come, are those at all ends
abbrev pub invariant-loop-end : goal.invariant-loop-end
invariant-loop-end l = string_bytes l.out ++ flat_map (λ e. spaced (node_name l.nodes e.node)) (drop l.end-index l.ends) ≡ string_bytes l.initial.out ++ flat_map (λ e. spaced (node_name l.nodes e.node)) l.ends
