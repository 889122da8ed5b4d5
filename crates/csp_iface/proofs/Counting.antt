-- how often a number is among the buffers that an interface holds
use Rattle.std.proofs.Common.{◌≡◌, ℕ, ◌+◌, cond, ◌==◌, List, ◌++◌, map, ap, ◌∙◌, arith}
use Rattle.std.specs.Option.{option_to_list}
use Rattle.std.proofs.lemmas.List.Sums.{sum_by-append}
use Rattle.std.proofs.lemmas.List.{map-append}
use Rattle.csp_buffer.specs.Content.{Content}
use Rattle.csp_deck.specs.Keeping.{numbers_of}
use Rattle.csp_deck.specs.Step.{times}
use Rattle.csp_iface.specs.PlainIface.{PlainIface, holds}

-- how often a number is among these buffers
abbrev pub among : ℕ → List Content → ℕ
among k bs = times k (numbers_of bs)

among_append : (k : ℕ) (bs cs : List Content) → among k (bs ++ cs) ≡ among k bs + among k cs
among_append k bs cs = ap (times k) (map-append (λ (b : Content). b.number) bs cs) ∙ sum_by-append (λ n. cond (n == k) 1 0) (map (λ b. b.number) bs) (map (λ b. b.number) cs)

-- it is to be given back, sent or accepted
pub holds_times : (k : ℕ) (s : PlainIface) → times k (holds s) ≡ among k (option_to_list s.back) + (among k (option_to_list s.sending) + among k (option_to_list s.accepted))
holds_times k s = omega (arith, among_append k (option_to_list s.back) (option_to_list s.sending ++ option_to_list s.accepted), among_append k (option_to_list s.sending) (option_to_list s.accepted))
