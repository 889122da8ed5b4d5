use Rattle.std.proofs.Common.{sym, ◌∙◌}
use Rattle.csp_route.proofs.Cuts.{left_found, left_last}
use Rattle.csp_route.proofs.parts.Parts.next.Goals as goal

pub returns-in-Some : goal.returns-in-Some
returns-in-Some c = sym c.self.view_is ∙ left_found c.self.inside.separator c.self.inside.at c.in-Some.end c.self.inside.rest c.in_ok-bytes.bytes c.in_ok-bytes.was (cc)

pub returns-in-None : goal.returns-in-None
returns-in-None c = sym c.self.view_is ∙ left_last c.self.inside.separator c.self.inside.at c.self.inside.rest c.in_ok-bytes.bytes c.in_ok-bytes.was (cc)
