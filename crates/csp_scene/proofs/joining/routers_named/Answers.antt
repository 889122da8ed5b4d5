use Rattle.std.proofs.Common.{◌<◌, length, sym, ◌∙◌, ap, rules, arith}
use Rattle.std.specs.Option.{option_map}
use Rattle.std.proofs.lemmas.Grind.{common_steps}
use Rattle.std.proofs.lemmas.List.Elements.{All-push}
use Rattle.csp_scene.specs.Naming.{router_named}
use Rattle.csp_scene.proofs.Places.{named_more, none_named}
use Rattle.csp_scene.proofs.joining.routers_named.Goals as goal

pub returns-in_err-router_named-clause-value : goal.returns-in_err-router_named-clause-value
returns-in_err-router_named-clause-value c =
    ap (option_map (λ places. places.items)) c.from_residual.ensures
    ∙ sym (none_named (λ name. router_named name c.args.nodes.now) c.args.names.now c.loop-name.name-index _ c.loop-name-test.true (sym c.router_named.ensures.value ∙ c.in_err-router_named.was))

pub loop-name-preserved : goal.loop-name-preserved
loop-name-preserved c =
    let found = sym c.router_named.ensures.value ∙ c.in_ok-router_named.was in
    record {
      named = rw c.push.ensures.items (named_more (λ name. router_named name c.args.nodes.now) c.args.names.now c.loop-name.name-index _ c.in_ok-router_named.field-0 c.loop-name.places.items c.loop-name-test.true found c.loop-name.invariant.named);
      count = first_of (search rules, grind (arith, common_steps));
      there = rw c.push.ensures.items (All-push (λ place. place < length c.args.nodes.now) c.loop-name.places.items c.in_ok-router_named.field-0 c.loop-name.invariant.there (first_of (search rules, grind (arith, common_steps))));
    }
