-- How often a number is in a list, and what the laws of lists and decks say of it.
use Rattle.std.proofs.Common.{◌≡◌, ℕ, ◌+◌, ◌==◌, cond, List, ◌++◌, length, sum_by}
use Rattle.std.proofs.lemmas.List.Sums.{sum_by-append}
use Rattle.csp_lists.specs.Gathered.{queued_numbers}
use Rattle.csp_lists.specs.PlainDeck.{PlainDeck, buffer_numbers, numbers_in}
use Rattle.csp_deck.specs.Step.{times}

-- what is in a deck's pool and in its queues is what is in the deck
abbrev pub Gathers : Type 0
Gathers = (d : PlainDeck) (k : ℕ) → times k (buffer_numbers d.pool.items) + times k (queued_numbers d) ≡ times k (numbers_in d)

-- lists that have each number as often weigh the same
abbrev pub Weighs : Type 0
Weighs = (xs ys : List ℕ) → ((k : ℕ) → times k xs ≡ times k ys) → (weight : ℕ → ℕ) → sum_by weight xs ≡ sum_by weight ys

-- and are as long
abbrev pub Long : Type 0
Long = (xs ys : List ℕ) → ((k : ℕ) → times k xs ≡ times k ys) → length xs ≡ length ys

-- a number is in two lists together as often as in each
pub times_joined : (k : ℕ) (xs ys : List ℕ) → times k (xs ++ ys) ≡ times k xs + times k ys
times_joined k xs ys = sum_by-append (λ n. cond (n == k) 1 0) xs ys
