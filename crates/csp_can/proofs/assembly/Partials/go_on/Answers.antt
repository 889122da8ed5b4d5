use Rattle.std.proofs.Common.{◌-◌, ◌∙◌, nat_lt, sym}
use Rattle.csp_can.specs.declared.partials.Partial.{Partial}
use Rattle.csp_can.specs.declared.partials.TheConstants.{GIVE_UP}
use Rattle.csp_can.proofs.Places.{all_stay}
use Rattle.csp_can.proofs.assembly.Partials.go_on.Goals as goal

pub returns-then-are_fresh-clause-when : goal.returns-then-are_fresh-clause-when
returns-then-are_fresh-clause-when c trace =
    let grew = c.extend.ensures.when trace in (
      λ did. let is = grew.0 did in record { fresh = (all_stay (λ (p : Partial). nat_lt (c.args.now - p.time) GIVE_UP) c.args.self.now).0 (sym c.are_fresh.ensures ∙ c.if-are_fresh.true); event = is.0; last = is.1 },
      λ goes. grew.1 (goes.event, goes.last),
    )

pub returns-else-are_fresh-clause-when : goal.returns-else-are_fresh-clause-when
returns-else-are_fresh-clause-when c trace = (
  λ did. absurd cc,
  λ goes. let fresh = (all_stay (λ (p : Partial). nat_lt (c.args.now - p.time) GIVE_UP) c.args.self.now).1 goes.fresh in absurd cc,
)
