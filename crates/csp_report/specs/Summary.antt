-- The summary of a report: the lines of it that a generated scenario is judged by.
use Rattle.std.specs.Prelude.{ℕ, ◌-◌, Bool, List, [], ◌∷◌, ◌++◌, length, drop, filter, count_by, nat_eq, codes}
use Rattle.std.specs.List.{flat_map, starts_with}
use Rattle.std.specs.Fmt.{decimal}
use Rattle.csp_text.specs.Cut.{lines_of}

-- whether a line begins so
abbrev pub begins : List ℕ → List ℕ → Bool
begins front line = starts_with nat_eq line front

-- `csp-gen N`
abbrev pub gen_line : ℕ → List ℕ
gen_line packets = codes "csp-gen " ++ decimal packets

-- `took T`, T being how many of these lines tell of a payload taken
abbrev pub took_line : List (List ℕ) → List ℕ
took_line lines = codes "took " ++ decimal (count_by (begins (codes "took ")) lines)

-- the last two of these lines
abbrev pub last_two : List (List ℕ) → List (List ℕ)
last_two lines = drop (length lines - 2) lines

-- the summary's lines, of a report with these lines: `csp-gen N`, the `end` line, the `node` lines, `took T`, and the last two
unfoldable pub summary_lines : ℕ → List (List ℕ) → List (List ℕ)
summary_lines packets lines =
    (gen_line packets ∷ [])
    ++ filter (begins (codes "end ")) lines
    ++ filter (begins (codes "node ")) lines
    ++ (took_line lines ∷ [])
    ++ last_two lines

-- lines joined, each with the line feed that ends it
abbrev pub joined : List (List ℕ) → List ℕ
joined lines = flat_map (λ line. line ++ 10 ∷ []) lines

-- the summary of a report in which so many packets were to be sent
unfoldable pub summary : ℕ → List ℕ → List ℕ
summary packets report = joined (summary_lines packets (lines_of report))
