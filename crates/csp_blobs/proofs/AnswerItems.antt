-- How many of the items that a turn put somewhere, or got there, are notes of a kind.
use Rattle.std.proofs.Common.{◌≡◌, ℕ, ◌+◌, ◌≤◌, Bool, true, false, cond, List, [], ◌∷◌, ◌++◌, refl, ap, arith}
use Rattle.std.specs.Prelude.{if◌then◌else◌}
use Rattle.std.specs.List.{count_by}
use Rattle.std.proofs.lemmas.List.Sums.{sum_by-append}
use Rattle.csp_log.specs.declared.note.Note.{Note}
use Rattle.csp_log.specs.declared.shown.ItemShown.{ItemShown}
use Rattle.csp_blobs.specs.Asking.{is_note}

-- an item that is there, if it is of the kind
abbrev pub counted : (is_there is_such : Bool) → ℕ
counted c b = cond c (cond b 1 0) 0

zero_add : (n : ℕ) → 0 + n ≡ n
zero_add n = omega arith

few_of : (b : Bool) → cond b 1 0 ≤ 1
few_of true = omega arith
few_of false = omega arith

pub counted_few : (c b : Bool) → counted c b ≤ cond c 1 0
counted_few true b = few_of b
counted_few false b = omega arith

pub counted_one : (c b : Bool) → counted c b ≤ 1
counted_one true b = few_of b
counted_one false b = omega arith

module _ (which : Note → Bool) where
  pub one_counts : (c : Bool) (i : ItemShown) → count_by (is_note which) (if c then i ∷ [] else []) ≡ counted c (is_note which i)
  one_counts true i = zero_add (cond (is_note which i) 1 0)
  one_counts false i = refl

  pub none_counts : (c : Bool) (i : ItemShown) → is_note which i ≡ false → count_by (is_note which) (if c then i ∷ [] else []) ≡ 0
  none_counts true i e = ap {B = ℕ} (λ b. 0 + cond b 1 0) e
  none_counts false i e = refl

  pub counts_append : (is js : List ItemShown) → count_by (is_note which) (is ++ js) ≡ count_by (is_note which) is + count_by (is_note which) js
  counts_append is js = sum_by-append (λ i. cond (is_note which i) 1 0) is js
