-- The words of the command line, and what they ask of a scene.
use Rattle.std.specs.Prelude.{ℕ, ◌^◌, ◌&&◌, nat_le, nat_lt, if◌then◌else◌, List, [], ◌∷◌, Option, Some, None, codes}
use Rattle.std.specs.Option.{option_map}
use Rattle.std.specs.Str.{bytes_eq}
use Rattle.csp_exports.specs.Ends.{PlainEndName, end_named}
use Rattle.csp_exports.specs.declared.ends.Form.TheVariants as form
use Rattle.csp_picture.specs.declared.seen.Window.{Window}
use Rattle.csp_scene.specs.Scene.{PlainScene}
use Rattle.csp_text.specs.Numbers.{is_decimal, number_of}
use Rattle.csp_trace.specs.declared.asked.Asked.{Asked}
use Rattle.csp_trace.specs.declared.asked.Asked.TheVariants as asked
use Rattle.csp_trace.specs.declared.mode.Mode.{Mode}
use Rattle.csp_trace.specs.declared.mode.Mode.TheVariants as mode

-- `timeline`, `svg`, `unused`
unfoldable pub of_one : List ℕ → Option Mode
of_one word =
    if bytes_eq word (codes "timeline") then Some mode.Timeline
    else if bytes_eq word (codes "svg") then Some (mode.Picture None)
    else if bytes_eq word (codes "unused") then Some mode.Unused
    else None

-- the round that a word states: a decimal number below 2^64
abbrev pub round_of : List ℕ → Option ℕ
round_of word = if is_decimal word && nat_lt (number_of word) (2 ^ 64) then Some (number_of word) else None

-- a window of rounds, of which the first is not after the last
abbrev pub window_of : (from to : Option ℕ) → Option Window
window_of (Some from) (Some to) = if nat_le from to then Some (record { from = from; to = to }) else None
window_of (Some from) None = None
window_of None to = None

-- `svg FROM TO`, `kiss LINK END`, `candump LINK END`
unfoldable pub of_three : (word second third : List ℕ) → Option Mode
of_three word second third =
    let name : PlainEndName = record { link = second; node = third } in
    if bytes_eq word (codes "kiss") then Some (mode.Export form.Kiss name)
    else if bytes_eq word (codes "candump") then Some (mode.Export form.Candump name)
    else if bytes_eq word (codes "svg") then option_map (λ window. mode.Picture (Some window)) (window_of (round_of second) (round_of third))
    else None

-- what words ask for; none where they are outside the grammar
abbrev pub mode_of : List (List ℕ) → Option Mode
mode_of [] = None
mode_of (word ∷ []) = of_one word
mode_of (word ∷ second ∷ []) = None
mode_of (word ∷ second ∷ third ∷ []) = of_three word second third
mode_of (word ∷ second ∷ third ∷ fourth ∷ more) = None

-- what they ask of a scene; none where they name an end that the scene lacks, or whose link carries something else
abbrev pub asked_of : Mode → PlainScene → Option Asked
asked_of (mode.Export which name) scene = option_map (asked.Export which name) (end_named scene which name)
asked_of mode.Timeline scene = Some asked.Timeline
asked_of (mode.Picture window) scene = Some (asked.Picture window)
asked_of mode.Unused scene = Some asked.Unused
