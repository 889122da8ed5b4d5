use Rattle.std.specs.Prelude.{◌≤◌, List, length, map}
use Rattle.std.specs.List.{IsDistinct}
use Rattle.csp_can.specs.declared.identifiers.Key.{Key}
use Rattle.csp_can.specs.declared.partials.TheConstants.{MAX_PARTIALS}
use Rattle.csp_can.specs.Identifiers.{key_of, same_key}
use Rattle.csp_can.specs.Open.{Kept}

-- the key of the frames kept
abbrev pub kept_key : Kept → Key
kept_key k = key_of k.begin.frame.head

-- the partial packets are a finite map from keys to frames: each key stands once, and at most four do
pub record IsMap (ks : List Kept) : Type 0 where
  pub distinct : IsDistinct same_key (map kept_key ks)
  pub few : length ks ≤ MAX_PARTIALS
