use Rattle.std.proofs.Common.{◌≡◌, ◌++◌, ◌∷◌, count_by, drop}
use Rattle.std.specs.List.{flat_map}
use Rattle.std.specs.String.{string_bytes}
use Rattle.std.specs.Fmt.{decimal}
use Rattle.csp_report.specs.Events.{is_discard, word_of}
use Rattle.csp_report.proofs.routers.push_discards.Given as goal

-- the text so far, then the words that are still to come, are those of all these reasons
abbrev pub invariant-loop-why : goal.invariant-loop-why
invariant-loop-why l =
    string_bytes l.out ++ flat_map (λ why. 32 ∷ (word_of why ++ 32 ∷ decimal (count_by (is_discard why) l.events))) (drop l.why-index l.reasons)
    ≡ string_bytes l.initial.out ++ flat_map (λ why. 32 ∷ (word_of why ++ 32 ∷ decimal (count_by (is_discard why) l.events))) l.reasons
