-- What words that fit a form are.
use Rattle.std.proofs.Common.{◌≡◌, ℕ, ◌+◌, ◌-◌, ◌<◌, ◌≤◌, ◌^◌, Bool, true, ◌&&◌, eqb, leb, ltb, List, [], ◌∷◌, length, map, get_or, Bor, IsTrue, zero, suc, inl, inr, Some, sym, ap, subst, ◌∙◌, arith}
use Rattle.std.specs.List.{list_all}
use Rattle.std.specs.Option.{option_map_or}
use Rattle.std.proofs.lemmas.Bool.{and_parts, leb-true, ltb-true, eqb-true}
use Rattle.std.proofs.lemmas.List.{length-map}
use Rattle.csp_text.specs.Names.{is_name}
use Rattle.csp_text.specs.Numbers.{is_decimal, number_of}
use Rattle.csp_scene.specs.declared.limits.TheConstants.{MAX_HUB_NODES}
use Rattle.csp_scene.specs.declared.table.Form.{Form}
use Rattle.csp_scene.specs.declared.table.Form.TheVariants as form
use Rattle.csp_scene.specs.declared.table.Keyword.{Keyword}
use Rattle.csp_scene.specs.declared.table.Part.{Part}
use Rattle.csp_scene.specs.declared.table.Part.TheVariants as part
use Rattle.csp_scene.specs.declared.checks.Check.{Check}
use Rattle.csp_scene.specs.declared.checks.Check.TheVariants as check
use Rattle.csp_scene.specs.Table.{fixed_of, shapes_of}
use Rattle.csp_scene.specs.Checks.{is_named, is_numbered, passes, all_pass, has_count, is_in_range}
use Rattle.csp_scene.specs.Arguments.{word_at, keyword_place}
use Rattle.csp_scene.specs.Kept.{Fits, IsOneOf, FitsShape, part_at, IsNamePart, IsNumberPart, IsInPart, range_of, is_number_part, is_followed, has_setting}

-- one place of words that all pass
pub passes_at : (check : Check) (shape : List Part) (args : List (List ℕ)) (place : ℕ) (d : Part) → all_pass check shape args ≡ true → place < length shape → place < length args → passes check (get_or shape place d) (get_or args place []) ≡ true
passes_at check [] args place d h below within = absurd (omega arith)
passes_at check (part ∷ parts) [] place d h below within = absurd (omega arith)
passes_at check (part ∷ parts) (word ∷ words) zero d h below within = (and_parts (passes check part word) (all_pass check parts words) h).0
passes_at check (part ∷ parts) (word ∷ words) (suc place) d h below within =
    passes_at check parts words place d (and_parts (passes check part word) (all_pass check parts words) h).1 (omega arith) (omega arith)

-- a place that has a name or a number is one of the shape's
name_within : (parts : List Part) (place : ℕ) → IsNamePart (get_or parts place part.Text) → place < length parts
name_within [] place h = absurd h
name_within (first ∷ parts) zero h = omega arith
name_within (first ∷ parts) (suc place) h = let rest = name_within parts place h in omega arith

number_within : (parts : List Part) (place : ℕ) → IsNumberPart (get_or parts place part.Text) → place < length parts
number_within [] place h = absurd h
number_within (first ∷ parts) zero h = omega arith
number_within (first ∷ parts) (suc place) h = let rest = number_within parts place h in omega arith

-- a name in its place
named_part : (one : Part) (word : List ℕ) → IsNamePart one → is_named one word ≡ true → is_name word ≡ true
named_part (part.Fixed keyword) word h e = absurd h
named_part (part.Either first other) word h e = absurd h
named_part part.Name word h e = e
named_part (part.Number low high) word h e = absurd h
named_part part.Word word h e = absurd h
named_part (part.Bytes least most) word h e = absurd h
named_part part.Moves word h e = absurd h
named_part part.Text word h e = absurd h
named_part part.Nodes word h e = absurd h

pub name_fits : (form : Form) (args : List (List ℕ)) (place : ℕ) → Fits form args → IsNamePart (part_at form place) → IsTrue (is_name (word_at args place))
name_fits form args place fits name =
    let within = name_within (fixed_of form) place name in
    named_part (part_at form place) (word_at args place) name (passes_at check.Name (fixed_of form) args place part.Text fits.names within (omega (arith, fits.count)))

-- a number in its range
pub record InRange (low high : ℕ) (word : List ℕ) : Type 0 where
  pub decimal : IsTrue (is_decimal word)
  pub least : low ≤ number_of word
  pub most : number_of word ≤ high

pub InRange-from_test : (low high : ℕ) (word : List ℕ) → is_in_range low high word ≡ true → InRange low high word
InRange-from_test low high word h =
    let outer = and_parts (is_decimal word && leb low (number_of word)) (leb (number_of word) high) h in
    let inner = and_parts (is_decimal word) (leb low (number_of word)) outer.0 in
    record { decimal = inner.0; least = leb-true low (number_of word) inner.1; most = leb-true (number_of word) high outer.1 }

-- a number in its place
pub record IsNumberIn (one : Part) (word : List ℕ) : Type 0 where
  pub decimal : IsTrue (is_decimal word)
  pub small : number_of word < 2 ^ 32
  pub range : IsInPart one (number_of word)

numbered_part : (one : Part) (word : List ℕ) → IsNumberPart one → is_numbered one word ≡ true → IsNumberIn one word
numbered_part (part.Fixed keyword) word h e = absurd h
numbered_part (part.Either first other) word h e = absurd h
numbered_part part.Name word h e = absurd h
numbered_part (part.Number low high) word h e =
    let is = InRange-from_test low high word e in
    record { decimal = is.decimal; small = omega (arith, is.most); range = (is.least, is.most) }
numbered_part part.Word word h e = absurd h
numbered_part (part.Bytes least most) word h e = absurd h
numbered_part part.Moves word h e = absurd h
numbered_part part.Text word h e = absurd h
numbered_part part.Nodes word h e = absurd h

pub number_fits : (form : Form) (args : List (List ℕ)) (place : ℕ) → Fits form args → IsNumberPart (part_at form place) → IsNumberIn (part_at form place) (word_at args place)
number_fits form args place fits number =
    let within = number_within (fixed_of form) place number in
    numbered_part (part_at form place) (word_at args place) number (passes_at check.Number (fixed_of form) args place part.Text fits.numbers within (omega (arith, fits.count)))

-- what holds of each of some shapes holds of one of them
one_of_all : (test : List Part → Bool) (shapes : List (List Part)) (shape : List Part) → list_all test shapes ≡ true → IsOneOf shapes shape → test shape ≡ true
one_of_all test [] shape all among = absurd among
one_of_all test (first ∷ shapes) shape all (inl same) = rw same (and_parts (test first) (list_all test shapes) all).0
one_of_all test (first ∷ shapes) shape all (inr among) = one_of_all test shapes shape (and_parts (test first) (list_all test shapes) all).1 among

-- a line of a hub has a name and no more nodes than a hub has
hub_count : (shape : List Part) (count : ℕ) → IsOneOf (shapes_of form.Hub) shape → has_count shape count ≡ true → count ≤ MAX_HUB_NODES + 1
hub_count shape count (inl same) words =
    let told : (leb 3 count && leb (count - 3 + 2) MAX_HUB_NODES) ≡ true = subst (λ (one : List Part). has_count one count ≡ true) same words in
    let more : count - 3 + 2 ≤ MAX_HUB_NODES = leb-true (count - 3 + 2) MAX_HUB_NODES (and_parts (leb 3 count) (leb (count - 3 + 2) MAX_HUB_NODES) told).1 in
    omega (arith, more)
hub_count shape count (inr none) words = absurd none

pub hub_words : (shape : List Part) (args : List (Bor (List ℕ))) → FitsShape form.Hub shape (map (λ word. word.now) args) → length args ≤ MAX_HUB_NODES + 1
hub_words shape args fits =
    let count : length (map (λ (word : Bor (List ℕ)). word.now) args) ≡ length args = length-map args (λ (word : Bor (List ℕ)). word.now) in
    let few = hub_count shape (length (map (λ (word : Bor (List ℕ)). word.now) args)) fits.among fits.words in
    omega (arith, few, count)

-- the number after an optional word is one of its range
number_after : (low high : ℕ) (one : Part) (word : List ℕ) → is_number_part (low, high) one ≡ true → passes check.Number one word ≡ true → InRange low high word × (high < 2 ^ 32)
number_after low high (part.Fixed keyword) word h e = absurd (cc)
number_after low high (part.Either first other) word h e = absurd (cc)
number_after low high part.Name word h e = absurd (cc)
number_after low high (part.Number least most) word h e =
    let outer = and_parts (eqb least low && eqb most high) (ltb most (2 ^ 32)) h in
    let inner = and_parts (eqb least low) (eqb most high) outer.0 in
    let is = InRange-from_test least most word e in
    let one : least ≡ low = eqb-true least low inner.0 in
    let other : most ≡ high = eqb-true most high inner.1 in
    let small : most < 2 ^ 32 = ltb-true most (2 ^ 32) outer.1 in
    (record { decimal = is.decimal; least = omega (arith, is.least, one); most = omega (arith, is.most, other) }, omega (arith, small, other))
number_after low high part.Word word h e = absurd (cc)
number_after low high (part.Bytes least most) word h e = absurd (cc)
number_after low high part.Moves word h e = absurd (cc)
number_after low high part.Text word h e = absurd (cc)
number_after low high part.Nodes word h e = absurd (cc)

pub setting_fits : (form : Form) (keyword : Keyword) (shape : List Part) (args : List (List ℕ)) (place : ℕ) → FitsShape form shape args → IsTrue (has_setting form keyword) → keyword_place keyword shape ≡ Some place → InRange (range_of form keyword).0 (range_of form keyword).1 (word_at args (place + 1)) × ((range_of form keyword).1 < 2 ^ 32)
setting_fits form keyword shape args place fits has found =
    let low = (range_of form keyword).0 in
    let high = (range_of form keyword).1 in
    let followed = one_of_all (is_followed keyword (low, high)) (shapes_of form) shape has fits.among in
    let there = ap (λ found. option_map_or (λ place. ltb (place + 1) (length shape) && is_number_part (low, high) (get_or shape (place + 1) part.Text)) found true) (sym found) ∙ followed in
    let parts = and_parts (ltb (place + 1) (length shape)) (is_number_part (low, high) (get_or shape (place + 1) part.Text)) there in
    let next : place + 1 < length shape = ltb-true (place + 1) (length shape) parts.0 in
    number_after low high (get_or shape (place + 1) part.Text) (word_at args (place + 1)) parts.1 (passes_at check.Number shape args (place + 1) part.Text fits.numbers next (omega (arith, fits.count, next)))
