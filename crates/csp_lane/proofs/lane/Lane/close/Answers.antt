use Rattle.std.proofs.Common.{◌≡◌, sym, ap, ◌∙◌, arith}
use Rattle.crossbeam_queue.specs.Passes.{view, ruled_capacity}
use Rattle.csp_lane.specs.Ends.{PlainEnd, PlainLane}
use Rattle.csp_lane.specs.Relays.{both_hands}
use Rattle.csp_lane.specs.declared.hand.Hand.{Hand}
use Rattle.csp_lane.proofs.Drawing.{IsBoth, closed}
use Rattle.csp_lane.proofs.Keeps.{rejoins}
use Rattle.csp_lane.proofs.lane.Lane.close.Goals as goal

pub absorb-requires-clause-rule : goal.absorb-requires-clause-rule
absorb-requires-clause-rule g c = rejoins _ _ _ _ (ap (λ v. v.writes) c.producer.invariant.writes) (ap (λ v. v.reads) c.consumer.invariant.reads)

pub returns : goal.returns
returns g c =
    let p = c.producer.inside in
    let d = c.consumer.inside in
    let joined : view c.absorb.new.pass ≡ both_hands (view p.pass) (view d.pass) = c.absorb.ensures.rule in
    let both : IsBoth c.args.producer c.args.consumer (view c.absorb.new.pass) = record {
      put = ap (λ (v : Hand). v.put.items) joined ∙ ap (λ (e : PlainEnd). e.items) c.producer.view_is;
      got = ap (λ (v : Hand). v.got.items) joined ∙ ap (λ (e : PlainEnd). e.items) c.consumer.view_is;
      marks = ap (λ (v : Hand). v.put.marks) joined ∙ ap (λ (e : PlainEnd). e.marks) c.producer.view_is;
      bounds = ap (λ (v : Hand). v.bounds) joined ∙ ap (λ (e : PlainEnd). e.marks) c.consumer.view_is;
      region = ap (λ (v : Hand). v.token.name) joined ∙ ap (λ (e : PlainEnd). e.region) c.producer.view_is;
      carries = ap (λ (v : Hand). v.carries) joined ∙ ap (λ (e : PlainEnd). e.carries) c.producer.view_is;
    } in
    let capacity : ruled_capacity c.self.inside.queue ≡ c.args.producer.room = c.self.invariant ∙ ap (λ (l : PlainLane). l.room) c.self.view_is ∙ sym c.requires.of_it.0.room in
    record { left = closed c.args.producer c.args.consumer (view c.absorb.new.pass) (view c.drain.new.pass) c.args.into.now.items c.drain.new.into.items both c.drain.ensures.taken c.drain.ensures.all c.drain.ensures.heeded (omega (arith, c.drain.ensures.few, capacity)) }
