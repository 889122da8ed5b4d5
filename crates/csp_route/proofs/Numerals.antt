-- The small numbers that rows have, as digits: they are read back, and no separator is among them.
use Rattle.std.proofs.Common.{◌≡◌, ℕ, zero, suc, ◌+◌, ◌/◌, ◌%◌, ◌<◌, sym, ap, ◌∙◌, subst, refl, arith, cond, List, [], ◌∷◌, ◌++◌, length, Bool, true, false, not, ◌&&◌, ◌==◌, nat_lt, ⊎_elim}
use Rattle.std.specs.List.{All, list_all}
use Rattle.std.specs.Fmt.{decimal}
use Rattle.std.proofs.lemmas.Fmt.{decimal_digit, decimal_step}
use Rattle.std.proofs.lemmas.Bool.{cases_lt, eqb-true}
use Rattle.std.proofs.lemmas.Bool.Decides.{nat_tests}
use Rattle.std.proofs.lemmas.List.Elements.{All-nil, All-cons}
use Rattle.csp_text.specs.Numbers.{is_decimal, number_of}

-- no byte of a text is the separator
abbrev pub Free : ℕ → List ℕ → Type 0
Free separator text = All (λ b. (b == separator) ≡ false) text

pub free_when : (separator : ℕ) (text : List ℕ) → list_all (λ b. not (b == separator)) text ≡ true → Free separator text
free_when separator [] e = All-nil (λ b. (b == separator) ≡ false)
free_when separator (b ∷ text) e =
    elim (b == separator) as (λ t. (b == separator) ≡ t → (not t && list_all (λ c. not (c == separator)) text) ≡ true → Free separator (b ∷ text)) [
      | true ↦ λ _ h. absurd (cc)
      | false ↦ λ t h. All-cons (λ c. (c == separator) ≡ false) b text t (free_when separator text h)
    ] refl e

-- one digit, or two
abbrev small_digits : ℕ → List ℕ
small_digits n = cond (nat_lt n 10) ((48 + n) ∷ []) ((48 + n / 10) ∷ (48 + n % 10) ∷ [])

-- what a small number's digits are like
abbrev is_plain : ℕ → Bool
is_plain n = is_decimal (small_digits n) && (number_of (small_digits n) == n) && not (length (small_digits n) == 0)
    && list_all (λ b. not (b == 32)) (small_digits n) && list_all (λ b. not (b == 44)) (small_digits n) && list_all (λ b. not (b == 47)) (small_digits n)

all_below : (ℕ → Bool) → ℕ → Bool
all_below test zero = true
all_below test (suc n) = all_below test n && test n

-- a test that all numbers below 32 pass
plain_all : all_below is_plain 32 ≡ true
unfolding all_below
plain_all = refl

at_below : (test : ℕ → Bool) (k n : ℕ) → all_below test k ≡ true → n < k → test n ≡ true
unfolding all_below
at_below test zero n e low = absurd (omega arith)
at_below test (suc k) n e low = ⊎_elim
    (λ below. at_below test k n (and_first _ _ e) below)
    (λ above. let same : n ≡ k = omega arith in ap test same ∙ and_second _ _ e)
    (cases_lt n k)
  where
    and_first : (a b : Bool) → (a && b) ≡ true → a ≡ true
    and_first true b h = refl
    and_first false b h = absurd (cc)

    and_second : (a b : Bool) → (a && b) ≡ true → b ≡ true
    and_second true b h = h
    and_second false b h = absurd (cc)

-- a number's digits, where it has one or two
small_decimal : (n : ℕ) → n < 32 → decimal n ≡ small_digits n
small_decimal n low = ⊎_elim
    (λ one. let test : nat_lt n 10 ≡ true = grind (arith, nat_tests) in
    decimal_digit n one ∙ sym (ap (λ b. cond b ((48 + n) ∷ []) ((48 + n / 10) ∷ (48 + n % 10) ∷ [])) test))
    (λ two. let test : nat_lt n 10 ≡ false = grind (arith, nat_tests) in
    decimal_step n two (omega arith) ∙ ap (λ ds. ds ++ (48 + n % 10) ∷ []) (decimal_digit (n / 10) (omega arith))
    ∙ sym (ap (λ b. cond b ((48 + n) ∷ []) ((48 + n / 10) ∷ (48 + n % 10) ∷ [])) test))
    (cases_lt n 10)

-- what is known of the digits of a number below 32
pub record Plain (n : ℕ) : Type 0 where
  pub digits : is_decimal (decimal n) ≡ true
  pub value : number_of (decimal n) ≡ n
  pub filled : (length (decimal n) == 0) ≡ false
  pub no_space : Free 32 (decimal n)
  pub no_comma : Free 44 (decimal n)
  pub no_slash : Free 47 (decimal n)

-- six tests in a row
six : (a b c d e f : Bool) → (a && b && c && d && e && f) ≡ true → (a ≡ true) × (b ≡ true) × (c ≡ true) × (d ≡ true) × (e ≡ true) × (f ≡ true)
six true true true true true true h = (refl, refl, refl, refl, refl, refl)
six false b c d e f h = absurd (cc)
six true false c d e f h = absurd (cc)
six true true false d e f h = absurd (cc)
six true true true false e f h = absurd (cc)
six true true true true false f h = absurd (cc)
six true true true true true false h = absurd (cc)

not_true : (b : Bool) → not b ≡ true → b ≡ false
not_true true e = absurd (cc)
not_true false e = refl

pub plain : (n : ℕ) → n < 32 → Plain n
plain n low =
    let tests : (is_decimal (small_digits n) ≡ true) × ((number_of (small_digits n) == n) ≡ true) × (not (length (small_digits n) == 0) ≡ true)
    × (list_all (λ b. not (b == 32)) (small_digits n) ≡ true) × (list_all (λ b. not (b == 44)) (small_digits n) ≡ true) × (list_all (λ b. not (b == 47)) (small_digits n) ≡ true)
    = six _ _ _ _ _ _ (at_below is_plain 32 n plain_all low) in
    let same : small_digits n ≡ decimal n = sym (small_decimal n low) in
    record {
      digits = ap is_decimal (sym same) ∙ tests.0;
      value = ap number_of (sym same) ∙ eqb-true _ _ tests.1;
      filled = ap (λ ds. length ds == 0) (sym same) ∙ not_true _ tests.2;
      no_space = subst (Free 32) same (free_when 32 (small_digits n) tests.3);
      no_comma = subst (Free 44) same (free_when 44 (small_digits n) tests.4);
      no_slash = subst (Free 47) same (free_when 47 (small_digits n) tests.5);
    }
