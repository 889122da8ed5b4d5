use Rattle.std.proofs.Common.{ap, ◌∙◌, length, map, []}
use Rattle.std.specs.FinMap as finite
use Rattle.csp_route.specs.Prefix.{prefix_cmp}
use Rattle.csp_route.specs.Routes.{entry_of}
use Rattle.csp_route.proofs.table.Table.new.Goals as goal

pub returns : goal.returns
returns c = ap (λ rows. finite.from_sorted (map entry_of rows)) c.new.ensures ∙ finite.empty_of_len _ (finite.len-entries _ ∙ ap length (finite.entries-from_sorted prefix_cmp [] tt))
