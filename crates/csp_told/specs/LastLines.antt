-- What the last line of a report's text tells.
use Rattle.std.specs.Prelude.{ℕ, ◌≡◌, List, [], ◌∷◌, ◌++◌, codes}
use Rattle.csp_text.specs.Cut.{lines_of}

-- the last line of a text is `passed 0`: of the packets that interfaces accepted none was changed
pub record EndsUnchanged (text : List ℕ) : Type 0 where
  pub before : List (List ℕ)
  pub whole : lines_of text ≡ before ++ codes "passed 0" ∷ []
