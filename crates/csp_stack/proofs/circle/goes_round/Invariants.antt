-- the looks so far lead to where the cursor is
use Rattle.std.proofs.Common.{◌≡◌, All, IsSome, length}
use Rattle.csp_deck.specs.Circles.{LooksInto}
use Rattle.csp_stack.specs.Circles.{router_from, router_of, router_steps}
use Rattle.csp_stack.specs.Party.{rules_of}
use Rattle.csp_stack.proofs.circle.goes_round.Given as goal

abbrev pub invariant-loop : goal.invariant-loop
invariant-loop l = record {
  count : length l.circle.items ≡ l.counter;
  looks : LooksInto router_steps l.now (router_of l.facts l.state) l.circle.items (router_from l.facts l.state l.cursor);
  used : All (λ q. IsSome (rules_of l.facts q)) l.circle.items;
}
