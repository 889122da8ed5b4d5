use Rattle.std.proofs.Common.{◌≡◌, ◌++◌, drop}
use Rattle.std.specs.List.{flat_map}
use Rattle.std.specs.String.{string_bytes}
use Rattle.csp_picture.specs.Style.{marker}
use Rattle.csp_picture.proofs.style.push_markers.Given as goal

-- the text so far, then the tips that are still to come, are those of all colours
abbrev pub invariant-loop-colour : goal.invariant-loop-colour
invariant-loop-colour l = string_bytes l.out ++ flat_map marker (drop l.colour-index l.colours) ≡ string_bytes l.initial.out ++ flat_map marker l.colours
