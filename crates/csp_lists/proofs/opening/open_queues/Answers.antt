use Rattle.std.proofs.Common.{rules, ◌∙◌, ap, map, take, sym, arith}
use Rattle.csp_lists.specs.Order.{places_in}
use Rattle.csp_lists.specs.PlainDeck.{AllEmpty, opening_queue}
use Rattle.csp_lists.proofs.Standing.{opened_empty, next_opened, all_places}
use Rattle.csp_lists.proofs.opening.open_queues.Goals as goal

pub returns-in_err-add-clause-err : goal.returns-in_err-add-clause-err
returns-in_err-add-clause-err c =
    let empty : AllEmpty c.add.new.self.queues = rw (c.in_err-add.ensures.err, c.loop-at.invariant.0) (opened_empty c.args.inbox c.args.links.now (take c.loop-at.at (places_in c.args.shape))) in
    search (rules, empty)

pub loop-at-preserved : goal.loop-at-preserved
loop-at-preserved c = (
  c.in_ok-add.ensures.ok ∙ rw (c.loop-at.invariant.0, c.rule_for.ensures, c.room_for.ensures) (sym (next_opened c.args.inbox c.args.links.now c.args.shape c.place_at-place.result c.loop-at.at c.place_at-place.ensures)),
  c.add.ensures.region ∙ c.loop-at.invariant.1,
)

pub returns-clause-ok : goal.returns-clause-ok
returns-clause-ok c =
    let all = ap (map (opening_queue c.args.inbox c.args.links.now)) (all_places c.args.shape c.loop-at.at (omega arith)) in
    c.loop-at.invariant.0 ∙ all
