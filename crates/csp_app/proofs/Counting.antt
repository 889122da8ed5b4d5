-- how often a number is among the buffers that an application holds
use Rattle.std.proofs.Common.{◌≡◌, ℕ, ◌+◌, ◌==◌, cond, List, [], ◌∷◌, ◌++◌, map, ap, ◌∙◌, arith}
use Rattle.std.specs.Option.{option_to_list}
use Rattle.std.proofs.lemmas.List.Sums.{sum_by-cons, sum_by-append}
use Rattle.std.proofs.lemmas.List.{map-append}
use Rattle.csp_app.specs.PlainApp.{PlainApp, holds}
use Rattle.csp_deck.specs.Keeping.{numbers_of}
use Rattle.csp_buffer.specs.Content.{Content}
use Rattle.csp_deck.specs.Step.{times}

-- how often a number is among these buffers
abbrev pub among : ℕ → List Content → ℕ
among k bs = times k (numbers_of bs)

pub among_cons : (k : ℕ) (b : Content) (bs : List Content) → among k (b ∷ bs) ≡ among k (b ∷ []) + among k bs
among_cons k b bs = omega (arith, sum_by-cons (λ n. cond (n == k) 1 0) b.number (map (λ b. b.number) bs), sum_by-cons (λ n. cond (n == k) 1 0) b.number [])

pub among_append : (k : ℕ) (bs cs : List Content) → among k (bs ++ cs) ≡ among k bs + among k cs
among_append k bs cs = ap (times k) (map-append (λ (b : Content). b.number) bs cs) ∙ sum_by-append (λ n. cond (n == k) 1 0) (map (λ b. b.number) bs) (map (λ b. b.number) cs)

-- it is popped, made or held
pub holds_times : (k : ℕ) (s : PlainApp) → times k (holds s) ≡ among k (option_to_list s.taken) + (among k (option_to_list s.made) + among k s.held)
holds_times k s = omega (arith, among_append k (option_to_list s.taken) (option_to_list s.made ++ s.held), among_append k (option_to_list s.made) s.held)
