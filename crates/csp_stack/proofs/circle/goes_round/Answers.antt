use Rattle.std.proofs.Common.{rules, tests, ◌≡◌, ◌+◌, All, IsSome, length, ap, ◌∙◌}
use Rattle.std.proofs.lemmas.List.Elements.{All-push}
use Rattle.csp_stack.specs.Party.{rules_of}
use Rattle.csp_stack.specs.Router.{StateAt}
use Rattle.csp_stack.proofs.Circling.{come_round, one_more}
use Rattle.csp_stack.proofs.circle.goes_round.Goals as goal

pub returns-then-cursor-state-clause-looks : goal.returns-then-cursor-state-clause-looks
returns-then-cursor-state-clause-looks c _ =
    let passes = c.in-Some.ensures.passes in
    come_round c.args.facts.now c.args.state.now c.args.now c.in-Some.past c.push.new.self.items (c.if-cursor-state.true ∙ ap (λ (s : StateAt). s.state.cursor) c.state.view_is)
    (one_more c.args.facts.now c.args.state.now c.args.now c.loop.cursor c.loop.circle.items c.push.new.self.items c.in-Some.queue c.in-Some.past c.loop.invariant.looks passes c.push.ensures.items)

pub loop-preserved : goal.loop-preserved
loop-preserved c =
    let passes = c.in-Some.ensures.passes in
    let counted : length c.push.new.self.items ≡ c.loop.counter + 1 = search (rules, tests) in
    let used : All (λ q. IsSome (rules_of c.args.facts.now q)) c.push.new.self.items = rw c.push.ensures.items (All-push (λ q. IsSome (rules_of c.args.facts.now q)) c.loop.circle.items c.in-Some.queue c.loop.invariant.used passes.used) in
    record {
      count = counted;
      looks = one_more c.args.facts.now c.args.state.now c.args.now c.loop.cursor c.loop.circle.items c.push.new.self.items c.in-Some.queue c.in-Some.past c.loop.invariant.looks passes c.push.ensures.items;
      used = used;
    }
