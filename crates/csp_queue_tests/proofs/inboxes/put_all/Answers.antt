use Rattle.std.proofs.Common.{◌≡◌, ◌∙◌, rules, ap, Some}
use Rattle.std.proofs.lemmas.List.Elements.{All-pop, All-push}
use Rattle.csp_buffer.specs.PlainBuffer.{PlainBuffer}
use Rattle.csp_queue_tests.proofs.inboxes.put_all.Goals as goal
use Rattle.csp_queue_tests.proofs.inboxes.put_all.Goals.{in-Ok, in-Err}

pub loop-preserved : goal.loop-preserved
loop-preserved g c =
    let parts = All-pop (λ (b : PlainBuffer). b.region ≡ c.args.pass.role.token.name) c.loop.buffers.items c.pop.new.self.items (Some c.in-Some.buffer) c.in-Some.ensures.items c.loop.invariant.region in
    record {
      of_it = search rules;
      role = c.put_one.ensures.role ∙ c.loop.invariant.role;
      region = elim c.match-put_one.branch [
        | in-Ok w ↦ rw w.buffers-is parts.0
        | in-Err w ↦ rw (w.buffers-is, w.push_reserved.ensures.items) (All-push (λ (b : PlainBuffer). b.region ≡ c.args.pass.role.token.name) _ _ parts.0 (w.in-Err.ensures.back ∙ ap (λ r. r.token.name) c.loop.invariant.role))
      ];
    }
