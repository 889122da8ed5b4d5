-- A text line by line.
use Rattle.std.proofs.Common.{◌≡◌, ℕ, ◌+◌, ◌<◌, ◌≤◌, Bool, List, [], ◌∷◌, length, get_or, drop, map, Bor, Result, Ok, Err, cond, refl, ap, sym, ◌∙◌, arith}
use Rattle.std.proofs.lemmas.List.{at_drop_more, at_drop_all}
use Rattle.csp_text.specs.Cut.{words_of}
use Rattle.csp_scene.specs.Scene.{PlainScene}
use Rattle.csp_scene.specs.Rows.{PlainFormRow}
use Rattle.csp_scene.specs.Sketch.{PlainSketch}
use Rattle.csp_scene.specs.State.{finish}
use Rattle.csp_scene.specs.Judge.{Refusal, judge, in_line, is_passed_over, begins_app, is_in_app, scene_from}
use Rattle.csp_scene.specs.Kept.{IsRead, error_at}
use Rattle.csp_scene.specs.declared.sketch.LineError.{LineError}
use Rattle.csp_scene.specs.declared.sketch.LineError.TheVariants.{Kind, NoMemory}
use Rattle.csp_scene.specs.declared.refusal.SceneKind.{SceneKind}
use Rattle.csp_scene.specs.declared.refusal.SceneError.TheVariants as error

scene_from-more : (rows : List PlainFormRow) (earlier : List (List ℕ)) (d next : PlainSketch) (line : List ℕ) (lines : List (List ℕ)) → judge rows (is_in_app rows earlier) d line ≡ Ok next → scene_from rows earlier d (line ∷ lines) ≡ scene_from rows (line ∷ earlier) next lines
unfolding scene_from
scene_from-more rows earlier d next line lines e = ap (λ answer. in_line (length earlier) answer (λ next. scene_from rows (line ∷ earlier) next lines)) e

scene_from-refused : (rows : List PlainFormRow) (earlier : List (List ℕ)) (d : PlainSketch) (line : List ℕ) (lines : List (List ℕ)) (kind : SceneKind) → judge rows (is_in_app rows earlier) d line ≡ Err kind → scene_from rows earlier d (line ∷ lines) ≡ Err (record { line = length earlier + 1; kind = kind })
unfolding scene_from
scene_from-refused rows earlier d line lines kind e = ap (λ answer. in_line (length earlier) answer (λ next. scene_from rows (line ∷ earlier) next lines)) e

scene_from-done : (rows : List PlainFormRow) (earlier : List (List ℕ)) (d : PlainSketch) (scene : PlainScene) → finish d ≡ Ok scene → scene_from rows earlier d [] ≡ Ok scene
unfolding scene_from
scene_from-done rows earlier d scene e = ap (λ answer. in_line (length earlier) answer (λ scene. Ok scene)) e

scene_from-missing : (rows : List PlainFormRow) (earlier : List (List ℕ)) (d : PlainSketch) (kind : SceneKind) → finish d ≡ Err kind → scene_from rows earlier d [] ≡ Err (record { line = length earlier + 1; kind = kind })
unfolding scene_from
scene_from-missing rows earlier d kind e = ap (λ answer. in_line (length earlier) answer (λ scene. Ok scene)) e

-- the lines that are left
abbrev rest_of : List (Bor (List ℕ)) → ℕ → List (List ℕ)
rest_of items at = map (λ line. line.now) (drop at items)

next_line : (rows : List PlainFormRow) (earlier : List (List ℕ)) (d : PlainSketch) (items : List (Bor (List ℕ))) (at : ℕ) (none : Bor (List ℕ)) → at < length items → scene_from rows earlier d (rest_of items at) ≡ scene_from rows earlier d ((get_or items at none).now ∷ rest_of items (at + 1))
next_line rows earlier d items at none within = at_drop_more (λ rest. scene_from rows earlier d (map (λ line. line.now) rest)) items at none within

pub more_read : (rows : List PlainFormRow) (number : ℕ) (in_app stays : Bool) (d next : PlainSketch) (items : List (Bor (List ℕ))) (at : ℕ) (told : Result PlainScene Refusal) (none : Bor (List ℕ)) → at < length items → judge rows in_app d (get_or items at none).now ≡ Ok next → stays ≡ cond (is_passed_over rows (words_of (get_or items at none).now)) in_app (begins_app (words_of (get_or items at none).now)) → IsRead rows number in_app d (rest_of items at) told → IsRead rows (number + 1) stays next (rest_of items (at + 1)) told
more_read rows number in_app stays d next items at told none within e stay read =
    let line = (get_or items at none).now in
    record {
      earlier = line ∷ read.earlier;
      counted = omega (arith, read.counted);
      stands = stay ∙ ap (λ (before : Bool). cond (is_passed_over rows (words_of line)) before (begins_app (words_of line))) read.stands;
      gives = sym (scene_from-more rows read.earlier d next line (rest_of items (at + 1)) (ap (λ before. judge rows before d line) (sym read.stands) ∙ e)) ∙ sym (next_line rows read.earlier d items at none within) ∙ read.gives;
    }

pub refused_read : (rows : List PlainFormRow) (number : ℕ) (in_app : Bool) (d : PlainSketch) (kind : SceneKind) (items : List (Bor (List ℕ))) (at : ℕ) (told : Result PlainScene Refusal) (none : Bor (List ℕ)) → at < length items → judge rows in_app d (get_or items at none).now ≡ Err kind → IsRead rows number in_app d (rest_of items at) told → told ≡ Err (record { line = number; kind = kind })
refused_read rows number in_app d kind items at told none within e read =
    let line = (get_or items at none).now in
    sym read.gives ∙ next_line rows read.earlier d items at none within
    ∙ scene_from-refused rows read.earlier d line (rest_of items (at + 1)) kind (ap (λ before. judge rows before d line) (sym read.stands) ∙ e)
    ∙ ap (λ (n : ℕ). Err (record { line = n; kind = kind })) (sym read.counted)

pub done_read : (rows : List PlainFormRow) (number : ℕ) (in_app : Bool) (d : PlainSketch) (scene : PlainScene) (items : List (Bor (List ℕ))) (at : ℕ) (told : Result PlainScene Refusal) → length items ≤ at → finish d ≡ Ok scene → IsRead rows number in_app d (rest_of items at) told → told ≡ Ok scene
done_read rows number in_app d scene items at told past e read =
    sym read.gives ∙ at_drop_all (λ rest. scene_from rows read.earlier d (map (λ line. line.now) rest)) items at past ∙ scene_from-done rows read.earlier d scene e

pub missing_read : (rows : List PlainFormRow) (number : ℕ) (in_app : Bool) (d : PlainSketch) (kind : SceneKind) (items : List (Bor (List ℕ))) (at : ℕ) (told : Result PlainScene Refusal) → length items ≤ at → finish d ≡ Err kind → IsRead rows number in_app d (rest_of items at) told → told ≡ Err (record { line = number; kind = kind })
missing_read rows number in_app d kind items at told past e read =
    sym read.gives ∙ at_drop_all (λ rest. scene_from rows read.earlier d (map (λ line. line.now) rest)) items at past
    ∙ scene_from-missing rows read.earlier d kind e
    ∙ ap (λ (n : ℕ). Err (record { line = n; kind = kind })) (sym read.counted)

-- an answer that was made of a line's error says the line and the kind
pub refused_from : (told : Result PlainScene Refusal) (e : LineError) (number line : ℕ) (kind : SceneKind) → ((k : SceneKind) → e ≡ Kind k → told ≡ Err (record { line = number; kind = k })) → error_at e number ≡ error.Refused line kind → told ≡ Err (record { line = line; kind = kind })
refused_from told (Kind k) number line kind says same = let told_is = says k refl in cc
refused_from told NoMemory number line kind says same = cc
