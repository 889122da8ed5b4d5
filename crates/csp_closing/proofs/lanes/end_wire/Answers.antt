use Rattle.std.proofs.Common.{◌≡◌, sym, subst, ap, ◌∙◌}
use Rattle.csp_closing.proofs.Ending.{lane_ended, lane_few}
use Rattle.csp_closing.proofs.Handing.{second_first}
use Rattle.csp_closing.specs.Retired.{all_sides}
use Rattle.csp_closing.specs.Wires.{IsFirstAt}
use Rattle.csp_lane.specs.Ends.{IsEndOf, PlainEnd}
use Rattle.csp_closing.proofs.lanes.end_wire.Goals as goal

pub take_consumer-consumer-requires : goal.take_consumer-consumer-requires
take_consumer-consumer-requires g c =
    let next = c.requires.next.1 in (
      next.y,
      second_first (all_sides c.args.parties.now) (all_sides c.take_producer-producer.new.parties) c.args.wire.now.from.party c.from.result c.args.wire.now.to.party c.from-2.result next.y (λ e. next.apart (sym e)) c.from.ensures c.from-2.ensures
          c.take_producer-producer.ensures.sides next.to,
      next.gets,
    )

pub end_lane-requires-clause-of_it : goal.end_lane-requires-clause-of_it
end_lane-requires-clause-of_it g c =
    let next = c.requires.next.1 in
    let put : c.take_producer-producer.result ≡ next.x.end = c.take_producer-producer.ensures.end next.x (subst (λ k. IsFirstAt (all_sides c.args.parties.now) k next.x) (sym c.from.ensures) next.from) in
    let got : c.take_consumer-consumer.result ≡ next.y.end = c.take_consumer-consumer.ensures.end next.y
    (second_first (all_sides c.args.parties.now) (all_sides c.take_producer-producer.new.parties) c.args.wire.now.from.party c.from.result c.args.wire.now.to.party c.from-2.result next.y (λ e. next.apart (sym e)) c.from.ensures c.from-2.ensures
    c.take_producer-producer.ensures.sides next.to) in
    (subst (IsEndOf c.args.lane) (sym put) next.x_there.of_it, subst (IsEndOf c.args.lane) (sym got) next.y_there.of_it)

pub end_lane-requires-clause-region : goal.end_lane-requires-clause-region
end_lane-requires-clause-region g c =
    let next = c.requires.next.1 in
    let put : c.take_producer-producer.result ≡ next.x.end = c.take_producer-producer.ensures.end next.x (subst (λ k. IsFirstAt (all_sides c.args.parties.now) k next.x) (sym c.from.ensures) next.from) in
    ap (λ (e : PlainEnd). e.region) put ∙ next.x_there.within

pub returns-clause-ends : goal.returns-clause-ends
returns-clause-ends g c = λ number next.
    let put : c.take_producer-producer.result ≡ next.x.end = c.take_producer-producer.ensures.end next.x (subst (λ k. IsFirstAt (all_sides c.args.parties.now) k next.x) (sym c.from.ensures) next.from) in
    let got : c.take_consumer-consumer.result ≡ next.y.end = c.take_consumer-consumer.ensures.end next.y
    (second_first (all_sides c.args.parties.now) (all_sides c.take_producer-producer.new.parties) c.args.wire.now.from.party c.from.result c.args.wire.now.to.party c.from-2.result next.y (λ e. next.apart (sym e)) c.from.ensures c.from-2.ensures
    c.take_producer-producer.ensures.sides next.to) in
    lane_ended (all_sides c.args.parties.now) c.args.wire.now c.args.lane c.args.store.now.region c.args.node number c.args.notes.now c.end_lane.new.notes c.args.store.now c.end_lane.new.store c.take_producer-producer.result c.take_consumer-consumer.result
    next put got c.end_lane.ensures

pub returns-clause-few : goal.returns-clause-few
returns-clause-few g c =
    lane_few c.args.lane c.take_producer-producer.result c.take_consumer-consumer.result c.args.node c.args.wire.now c.args.notes.now c.end_lane.new.notes c.args.store.now c.end_lane.new.store c.end_lane.ensures
