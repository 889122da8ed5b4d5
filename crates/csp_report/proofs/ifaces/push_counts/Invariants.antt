use Rattle.std.proofs.Common.{◌≡◌, ◌++◌, ◌∷◌, drop}
use Rattle.std.specs.List.{flat_map}
use Rattle.std.specs.String.{string_bytes}
use Rattle.std.specs.Fmt.{decimal}
use Rattle.csp_report.specs.Parties.{entries_at}
use Rattle.csp_report.specs.Ifaces.{entries_count, count_word}
use Rattle.csp_report.proofs.ifaces.push_counts.Given as goal

-- the text so far, then the words that are still to come, are those of all these counts
abbrev pub invariant-loop-which : goal.invariant-loop-which
invariant-loop-which l =
    string_bytes l.out ++ flat_map (λ which. 32 ∷ (count_word which ++ 32 ∷ decimal (entries_count which (entries_at l.parties l.who)))) (drop l.which-index l.counts)
    ≡ string_bytes l.initial.out ++ flat_map (λ which. 32 ∷ (count_word which ++ 32 ∷ decimal (entries_count which (entries_at l.parties l.who)))) l.counts
