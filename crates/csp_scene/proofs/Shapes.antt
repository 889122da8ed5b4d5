-- Words against a shape, place by place.
use Rattle.std.proofs.Common.{◌≡◌, ℕ, ◌+◌, ◌-◌, ◌≤◌, ◌<◌, Bool, true, ◌&&◌, ◌++◌, leb, List, [], ◌∷◌, length, get_or, take, drop, map, inl, inr, arith, refl, ap, sym, subst, ◌∙◌, Bor, append_assoc}
use Rattle.std.specs.List.{list_all, zip, flat_map}
use Rattle.std.proofs.lemmas.Bool.{and_parts, leb-true}
use Rattle.std.proofs.lemmas.List.{take_all, at_drop_more, length-append}
use Rattle.csp_scene.specs.declared.table.Form.{Form}
use Rattle.csp_scene.specs.declared.table.Part.{Part}
use Rattle.csp_scene.specs.declared.table.Group.{Group}
use Rattle.csp_scene.specs.declared.checks.Check.{Check}
use Rattle.csp_scene.specs.declared.checks.Check.TheVariants as check
use Rattle.csp_scene.specs.Table.{group_of, with_options, fixed_of}
use Rattle.csp_scene.specs.Checks.{passes, all_pass, last_part, takes_more, has_count, whole_passes}
use Rattle.csp_scene.specs.Rows.{PlainFormRow, rows_of}
use Rattle.csp_scene.specs.Kept.{IsOneOf, IsShapeOf, Fits, FitsShape}

pub list_all-zip_passes : (check : Check) (shape : List Part) (args : List (Bor (List ℕ))) → list_all (λ pair. passes check pair.0 pair.1.now) (zip shape args) ≡ all_pass check shape (map (λ word. word.now) args)
list_all-zip_passes check [] args = refl
list_all-zip_passes check (part ∷ parts) [] = refl
list_all-zip_passes check (part ∷ parts) (word ∷ words) = ap (λ rest. passes check part word.now && rest) (list_all-zip_passes check parts words)

-- the words past a shape's end pass the check
abbrev past : Check → List Part → List (List ℕ) → Bool
past check shape args = list_all (passes check (last_part shape)) (drop (length shape) args)

-- a shape among those before, or among those after
pub IsOneOf-before : (before after : List (List Part)) (shape : List Part) → IsOneOf before shape → IsOneOf (before ++ after) shape
IsOneOf-before [] after shape none = absurd none
IsOneOf-before (first ∷ shapes) after shape (inl e) = inl e
IsOneOf-before (first ∷ shapes) after shape (inr later) = inr (IsOneOf-before shapes after shape later)

pub IsOneOf-after : (before after : List (List Part)) (shape : List Part) → IsOneOf after shape → IsOneOf (before ++ after) shape
IsOneOf-after [] after shape among = among
IsOneOf-after (first ∷ shapes) after shape among = inr (IsOneOf-after shapes after shape among)

-- the shapes without the first optional group, and those with it, are among all of them
pub among_without : (shape : List Part) (optional : List Group) (all : List (List Part)) → 1 ≤ length optional → ((one : List Part) → IsOneOf (with_options shape optional) one → IsOneOf all one) → (one : List Part) → IsOneOf (with_options shape (take (length optional - 1) (drop 1 optional))) one → IsOneOf all one
among_without shape [] all least among one h = absurd (omega arith)
among_without shape (group ∷ groups) all least among one h =
    let rest : take (length (group ∷ groups) - 1) groups ≡ groups = take_all _ groups (omega arith) in
    among one (IsOneOf-before (with_options shape groups) (with_options (shape ++ group_of group) groups) one (subst (λ gs. IsOneOf (with_options shape gs) one) rest h))

pub among_with : (shape longer : List Part) (optional : List Group) (all : List (List Part)) (first : Group) → 1 ≤ length optional → longer ≡ shape ++ group_of (get_or optional 0 first) → ((one : List Part) → IsOneOf (with_options shape optional) one → IsOneOf all one) → (one : List Part) → IsOneOf (with_options longer (take (length optional - 1) (drop 1 optional))) one → IsOneOf all one
among_with shape longer [] all first least e among one h = absurd (omega arith)
among_with shape longer (group ∷ groups) all first least e among one h =
    let rest : take (length (group ∷ groups) - 1) groups ≡ groups = take_all _ groups (omega arith) in
    let told : IsOneOf (with_options longer groups) one = subst (λ gs. IsOneOf (with_options longer gs) one) rest h in
    among one (IsOneOf-after (with_options shape groups) (with_options (shape ++ group_of group) groups) one (subst (λ front. IsOneOf (with_options front groups) one) e told))

-- what stands first in a shape stands first in a longer one
pub fixed_first : (front shape longer group : List Part) → (more : List Part) × (shape ≡ front ++ more) → longer ≡ shape ++ group → (more : List Part) × (longer ≡ front ++ more)
fixed_first front shape longer group fixed e = (fixed.0 ++ group, e ∙ ap (λ s. s ++ group) fixed.1 ∙ append_assoc front fixed.0 group)

front_passes : (check : Check) (front more : List Part) (args : List (List ℕ)) → all_pass check (front ++ more) args ≡ true → all_pass check front args ≡ true
front_passes check [] more args h = refl
front_passes check (part ∷ parts) more [] h = refl
front_passes check (part ∷ parts) more (word ∷ words) h =
    let each = and_parts (passes check part word) (all_pass check (parts ++ more) words) h in
    rw each.0 (front_passes check parts more words each.1)

-- a shape that has so many words has no more places
pub counted : (shape : List Part) (count : ℕ) → has_count shape count ≡ true → length shape ≤ count
counted shape count h = leb-true (length shape) count (and_parts (leb (length shape) count) (takes_more (last_part shape) (count - length shape)) h).0

-- words that fit a shape of a form fit what stands in each of its lines
pub Fits-from_shape : (form : Form) (shape : List Part) (args : List (List ℕ)) → IsShapeOf form shape → length shape ≤ length args → whole_passes check.Name shape args ≡ true → whole_passes check.Number shape args ≡ true → Fits form args
Fits-from_shape form shape args is count names numbers =
    let more = is.fixed.0 in
    let whole = is.fixed.1 in
    let each_name = (and_parts (all_pass check.Name shape args) (past check.Name shape args) names).0 in
    let each_number = (and_parts (all_pass check.Number shape args) (past check.Number shape args) numbers).0 in
    record {
      count = omega (arith, count, ap length whole, length-append (fixed_of form) more);
      names = front_passes check.Name (fixed_of form) more args (subst (λ s. all_pass check.Name s args ≡ true) whole each_name);
      numbers = front_passes check.Number (fixed_of form) more args (subst (λ s. all_pass check.Number s args ≡ true) whole each_number);
    }

pub FitsShape-from_shape : (form : Form) (shape : List Part) (args : List (List ℕ)) → IsShapeOf form shape → has_count shape (length args) ≡ true → whole_passes check.Number shape args ≡ true → FitsShape form shape args
FitsShape-from_shape form shape args is words numbers = record {
  among = is.among;
  words = words;
  count = counted shape (length args) words;
  numbers = (and_parts (all_pass check.Number shape args) (past check.Number shape args) numbers).0;
}

-- the rows of one form more
pub rows_left : (rows new all : List PlainFormRow) (forms : List Form) (at : ℕ) (none : Form) → at < length forms → new ≡ rows ++ rows_of (get_or forms at none) → rows ++ flat_map rows_of (drop at forms) ≡ all → new ++ flat_map rows_of (drop (at + 1) forms) ≡ all
rows_left rows new all forms at none within pushed left =
    let first = get_or forms at none in
    let rest = flat_map rows_of (drop (at + 1) forms) in
    ap (λ r. r ++ rest) pushed ∙ append_assoc rows (rows_of first) rest ∙ sym (at_drop_more (λ left. rows ++ flat_map rows_of left) forms at none within) ∙ left
