-- All shapes that a line may have, and which of them a line fits.
use Rattle.std.specs.Prelude.{ℕ, Bool, ◌&&◌, List, length, map}
use Rattle.std.specs.List.{flat_map}
use Rattle.std.specs.Str.{bytes_eq}
use Rattle.csp_scene.specs.Table.{first_word, is_step, all_forms, shapes_of}
use Rattle.csp_scene.specs.Checks.{has_count, whole_passes}
use Rattle.csp_scene.specs.declared.table.Form.{Form}
use Rattle.csp_scene.specs.declared.table.Part.{Part}
use Rattle.csp_scene.specs.declared.checks.Check.TheVariants as check

-- a line form with one choice of its optional words: what stands after its first word
pub record PlainFormRow : Type 0 where
  pub form : Form
  pub shape : List Part

-- the row of a form and one of its shapes
abbrev pub row_of : Form → List Part → PlainFormRow
row_of form shape = record { form = form; shape = shape }

-- a form's rows: each optional group is there or not
abbrev pub rows_of : Form → List PlainFormRow
rows_of form = map (row_of form) (shapes_of form)

-- the whole table
abbrev pub all_rows : List PlainFormRow
all_rows = flat_map rows_of all_forms

-- a row of lines with this first word
abbrev pub begins : List ℕ → PlainFormRow → Bool
begins first row = bytes_eq first (first_word row.form)

-- such a row, of a step
abbrev pub begins_step : List ℕ → PlainFormRow → Bool
begins_step first row = begins first row && is_step row.form

-- such a row, with so many further words
abbrev pub begins_count : List ℕ → ℕ → PlainFormRow → Bool
begins_count first count row = begins first row && has_count row.shape count

-- such a row, with the line's fixed words in their places
abbrev pub has_choice : List ℕ → List (List ℕ) → PlainFormRow → Bool
has_choice first args row = begins_count first (length args) row && whole_passes check.Fixed row.shape args
