-- The ends of all links, as lists.
use Rattle.std.proofs.Common.{List, map}
use Rattle.arrayvec.specs.declared.array_vec.ArrayVec.{ArrayVec}
use Rattle.csp_log.specs.declared.places.End.{End}

abbrev pub links_of : List (ArrayVec End 8 (Unit {0})) → List (List End)
links_of links = map (λ ends. ends.items) links
