-- Rows of routing tables that lead to interfaces of their node.
use Rattle.std.proofs.Common.{◌≡◌, ℕ, ◌<◌, ◌≤◌, ◌∙◌, List, [], length, map, arith, ap, sym, subst}
use Rattle.std.specs.List.{All}
use Rattle.std.specs.FinMap as finite
use Rattle.std.proofs.lemmas.List.Elements.{All-nil}
use Rattle.csp_route.specs.declared.prefix.Prefix.{Prefix}
use Rattle.csp_route.specs.Prefix.{prefix_cmp}
use Rattle.csp_route.specs.Routes.{Hop, Routes, IsWithin}

-- the table without rows has none that leads elsewhere
no_rows : finite.entries (finite.empty {X = Hop} {R = prefix_cmp}) ≡ []
no_rows =
    ap finite.entries (sym (finite.empty_of_len (finite.from_sorted {R = prefix_cmp} []) (finite.len-entries _ ∙ ap length (finite.entries-from_sorted prefix_cmp [] tt))))
    ∙ finite.entries-from_sorted prefix_cmp [] tt

pub empty_within : (count : ℕ) → IsWithin count finite.empty
empty_within count = subst (λ (es : List (Prefix × Hop)). All (λ (hop : Hop). hop.iface < count) (map (λ e. e.1) es)) (sym no_rows) (All-nil _)

-- rows that lead to one of some interfaces lead to one of more
pub within_more : (count more : ℕ) (routes : Routes) → count ≤ more → IsWithin count routes → IsWithin more routes
within_more count more routes grown all = λ k d below. let here = all k d below in omega (arith, here, grown)
