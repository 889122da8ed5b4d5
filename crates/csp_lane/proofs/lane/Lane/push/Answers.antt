use Rattle.std.proofs.Common.{◌≡◌, Some, ap, sym, subst, ◌∙◌}
use Rattle.std.specs.Prelude.{IfSome}
use Rattle.csp_lane.specs.Ends.{PlainEnd, IsFor}
use Rattle.csp_lane.proofs.Keeps.{puts, crammed}
use Rattle.csp_lane.proofs.lane.Lane.push.Goals as goal

pub push_as-requires-clause-rule : goal.push_as-requires-clause-rule
push_as-requires-clause-rule g c =
    let may = ap (λ v. v.writes) c.producer.invariant.writes in (
      puts _ _ _ _ may
          (record { fits = subst (λ (e : PlainEnd). IsFor e.region e.carries c.args.item) (sym c.producer.view_is) c.requires.carried; noted = subst (λ (e : PlainEnd). IfSome c.args.note (λ w. e.about ≡ Some w.name)) (sym c.producer.view_is) c.requires.noted })
          (record { name = c.ticket-ticket.ensures.ticket.0 ∙ c.producer.invariant.named; number = c.ticket-ticket.ensures.ticket.1 ∙ c.producer.invariant.counted }),
      crammed _ _ may,
    )
