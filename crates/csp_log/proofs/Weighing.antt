-- what entries weigh with one more
use Rattle.std.proofs.Common.{◌≡◌, ℕ, ◌+◌, List, [], ◌∷◌, ◌++◌, arith}
use Rattle.std.proofs.lemmas.List.Sums.{sum_by-append}
use Rattle.csp_log.specs.Weights.{weight_of, weight_of_all}
use Rattle.csp_log.specs.declared.entry.Entry.{Entry}

-- one entry more adds what it weighs
pub weight-push : (entries : List Entry) (e : Entry) → weight_of_all (entries ++ e ∷ []) ≡ weight_of_all entries + weight_of e
weight-push entries e = let split = sum_by-append weight_of entries (e ∷ []) in omega (arith, split)

-- so a count of what they weigh besides one each grows by what it weighs besides one
pub surplus-push : (entries : List Entry) (e : Entry) (count surplus more : ℕ) → count + surplus ≡ weight_of_all entries → 1 + more ≡ weight_of e → count + 1 + (surplus + more) ≡ weight_of_all (entries ++ e ∷ [])
surplus-push entries e count surplus more same one = let split = weight-push entries e in omega (arith, split, same, one)
