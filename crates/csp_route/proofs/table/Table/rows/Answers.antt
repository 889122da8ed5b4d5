use Rattle.std.proofs.Common.{sym, ap, ◌∙◌, map}
use Rattle.std.specs.FinMap as finite
use Rattle.csp_route.specs.Routes.{entry_of}
use Rattle.csp_route.proofs.Views.{entries-view}
use Rattle.csp_route.proofs.table.Table.rows.Goals as goal

pub returns-clause-entries : goal.returns-clause-entries
returns-clause-entries c = ap (map entry_of) c.as_slice.ensures.value ∙ sym (entries-view c.self.inside.rows.items c.self.invariant) ∙ ap finite.entries c.self.view_is
