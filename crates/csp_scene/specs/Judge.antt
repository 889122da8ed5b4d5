-- A line judged as a whole against the lines before it, and a text line by line.
use Rattle.std.specs.Prelude.{ℕ, ◌+◌, Bool, not, ◌&&◌, ◌||◌, ◌==◌, nat_le, true, false, List, [], ◌∷◌, length, Option, Some, None, find, Result, Ok, Err, if◌then◌else◌}
use Rattle.std.specs.List.{list_any, list_all}
use Rattle.std.specs.Str.{bytes_eq}
use Rattle.csp_text.specs.Cut.{lines_of, words_of}
use Rattle.csp_scene.specs.Scene.{PlainScene}
use Rattle.csp_scene.specs.Table.{first_word, suits}
use Rattle.csp_scene.specs.Arguments.{word_at}
use Rattle.csp_scene.specs.Naming.{is_hub_called}
use Rattle.csp_scene.specs.Checks.{whole_passes}
use Rattle.csp_scene.specs.Rows.{PlainFormRow, all_rows, begins, begins_step, begins_count, has_choice}
use Rattle.csp_scene.specs.Sketch.{PlainSketch, no_sketch, demand, and_then}
use Rattle.csp_scene.specs.State.{state, finish}
use Rattle.csp_scene.specs.declared.limits.TheConstants.{MAX_LINE}
use Rattle.csp_scene.specs.declared.checks.Check.TheVariants as check
use Rattle.csp_scene.specs.declared.table.Form.TheVariants as form
use Rattle.csp_scene.specs.declared.refusal.SceneKind.{SceneKind}
use Rattle.csp_scene.specs.declared.refusal.SceneKind.TheVariants as kind

-- a byte that a line may have: 0x20 to 0x7E
abbrev pub is_printable : ℕ → Bool
is_printable byte = nat_le 32 byte && nat_le byte 126

-- a row whose number of words and fixed words fit, where its names and then its numbers do
abbrev pub fit : List (List ℕ) → Option PlainFormRow → Result PlainFormRow SceneKind
fit args None = Err kind.Choice
fit args (Some row) =
    demand (whole_passes check.Name row.shape args) kind.Name
    (demand (whole_passes check.Number row.shape args) kind.Number
    (Ok row))

-- which row a line is of, by its first word and the others, where `in_app` says that a step may stand here, and `on_hub` that the first argument
-- is the name of a hub
abbrev pub row_for : List PlainFormRow → (in_app on_hub : Bool) → List ℕ → List (List ℕ) → Result PlainFormRow SceneKind
row_for rows in_app on_hub first args =
    demand (list_any (begins first) rows) kind.Word
    (demand (in_app || not (list_any (begins_step first) rows)) kind.Place
    (demand (list_any (begins_count first (length args)) rows) kind.Count
    (fit args (find (λ row. suits on_hub row.form && has_choice first args row) rows))))

-- the first word of a comment: it begins with `#`
abbrev pub is_comment : List ℕ → Bool
is_comment [] = false
is_comment (byte ∷ bytes) = byte == 35

-- a line by its words: one without words, or a comment, is ignored
abbrev pub judge_words : List PlainFormRow → Bool → PlainSketch → List (List ℕ) → Result PlainSketch SceneKind
judge_words rows in_app d [] = Ok d
judge_words rows in_app d (first ∷ args) =
    if is_comment first then Ok d
    else and_then (row_for rows in_app (is_hub_called (word_at args 0) d.links) first args) (λ row. state row.form row.shape d args)

-- the sketch after a line, or the first kind that fits the line
abbrev pub judge : List PlainFormRow → Bool → PlainSketch → List ℕ → Result PlainSketch SceneKind
judge rows in_app d line =
    demand (list_all is_printable line) kind.Byte
    (demand (nat_le (length line) MAX_LINE) kind.Long
    (judge_words rows in_app d (words_of line)))

-- a line that an application's steps may have between them: it is ignored, or is a step itself
abbrev pub is_passed_over : List PlainFormRow → List (List ℕ) → Bool
is_passed_over rows [] = true
is_passed_over rows (first ∷ args) = is_comment first || list_any (begins_step first) rows

-- an `app` line
abbrev pub begins_app : List (List ℕ) → Bool
begins_app [] = false
begins_app (first ∷ args) = bytes_eq first (first_word form.App)

-- whether a step may stand after these lines, the last of them first: the last that is neither ignored nor a step is an `app` line
abbrev pub is_in_app : List PlainFormRow → List (List ℕ) → Bool
is_in_app rows [] = false
is_in_app rows (line ∷ earlier) = if is_passed_over rows (words_of line) then is_in_app rows earlier else begins_app (words_of line)

-- a refused line, counted from 1, and what is wrong with it
pub record Refusal : Type 0 where
  pub line : ℕ
  pub kind : SceneKind

-- an answer for the line after so many, and what is done with one that is no refusal
abbrev pub in_line : {A B : Type 0} → ℕ → Result A SceneKind → (A → Result B Refusal) → Result B Refusal
in_line earlier (Ok a) next = next a
in_line earlier (Err kind) next = Err (record { line = earlier + 1; kind = kind })

-- the scene of the lines that are left, after earlier lines, the last of them first, and what they state
unfoldable pub scene_from : List PlainFormRow → List (List ℕ) → PlainSketch → List (List ℕ) → Result PlainScene Refusal
scene_from rows earlier d [] = in_line (length earlier) (finish d) (λ scene. Ok scene)
scene_from rows earlier d (line ∷ lines) =
    in_line (length earlier) (judge rows (is_in_app rows earlier) d line) (λ next. scene_from rows (line ∷ earlier) next lines)

-- the scene of a text, or its first refused line with the first kind that fits it
abbrev pub scene_of : List ℕ → Result PlainScene Refusal
scene_of text = scene_from all_rows [] no_sketch (lines_of text)
