use Rattle.std.proofs.Common.{◌≡◌, rules, Some}
use Rattle.std.proofs.lemmas.List.Elements.{All-pop, All-push}
use Rattle.csp_buffer.specs.PlainBuffer.{PlainBuffer}
use Rattle.csp_queue_tests.proofs.inboxes.deal.Goals as goal
use Rattle.csp_queue_tests.proofs.inboxes.deal.Goals.{in-Some, in-None}

pub loop-preserved : goal.loop-preserved
loop-preserved c =
    let parts = All-pop (λ (b : PlainBuffer). b.region ≡ c.args.region.now.name) c.loop.from.items c.pop.new.self.items c.pop.result c.pop.ensures.items c.loop.invariant.rest in
    elim c.match-pop.branch [
      | in-Some w ↦ (
          let mine = All-pop (λ (b : PlainBuffer). b.region ≡ c.args.region.now.name) c.loop.from.items c.pop.new.self.items (Some w.in-Some.buffer) w.in-Some.ensures.items c.loop.invariant.rest in
          record {
            rest = parts.0;
            dealt = rw (w.some-is, w.push_reserved.ensures.items) (All-push (λ (b : PlainBuffer). b.region ≡ c.args.region.now.name) _ _ c.loop.invariant.dealt mine.1);
            room = search rules;
            len = search rules;
          })
      | in-None w ↦ record { rest = parts.0; dealt = rw w.some-is c.loop.invariant.dealt; room = search rules; len = search rules }
    ]
