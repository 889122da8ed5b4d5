use Rattle.std.proofs.Common.{◌≡◌, Bool, ℕ, List, [], ◌∷◌, length, cond, ltb, Some, None, refl, sym, ap, ◌∙◌}
use Rattle.std.specs.List.{position_or_len, position}
use Rattle.std.specs.Str.{bytes_eq}
use Rattle.std.proofs.lemmas.List.{length-map}
use Rattle.arrayvec.specs.ArrayString.{ArrayString}
use Rattle.csp_route.specs.Text.{names_of}
use Rattle.csp_scene.proofs.naming.iface_named.Goals as goal

place_named : (test : List ℕ → Bool) (names : List ArrayString) → position_or_len (λ name. test name.bytes) names ≡ position_or_len test (names_of names)
place_named test [] = refl
place_named test (name ∷ names) = let rest = place_named test names in cc

named : (test : List ℕ → Bool) (names : List ArrayString) → position (λ name. test name.bytes) names ≡ position test (names_of names)
named test names =
    let place = place_named test names in
    let count = length-map names (λ (name : ArrayString). name.bytes) in
    ap (λ (p : ℕ). cond (ltb p (length names)) (Some p) None) place ∙ ap (λ (n : ℕ). cond (ltb (position_or_len test (names_of names)) n) (Some (position_or_len test (names_of names))) None) (sym count)

pub returns-clause-value : goal.returns-clause-value
returns-clause-value c =
    c.name_place.ensures.value
    ∙ rw c.deref.ensures.0 (named (λ name. bytes_eq name c.args.name.now) c.iface_names.result.items)
    ∙ ap (λ names. position (λ name. bytes_eq name c.args.name.now) names) c.iface_names.ensures.names
