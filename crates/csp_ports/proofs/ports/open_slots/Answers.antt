use Rattle.std.proofs.Common.{◌≡◌, ◌+◌, ◌∷◌, ◌++◌, [], ◌∙◌, ap, ap₂, arith, replicate}
use Rattle.std.proofs.lemmas.List.{replicate-append-replicate}
use Rattle.csp_ports.specs.PlainPorts.{untouched}
use Rattle.csp_ports.proofs.ports.open_slots.Goals as goal

pub loop-preserved : goal.loop-preserved
loop-preserved c = (
  c.push_reserved.ensures.items ∙ ap₂ (λ l x. l ++ x ∷ []) c.loop.invariant.0 c.untouched.ensures ∙ replicate-append-replicate c.loop.counter 1 untouched,
  c.push_reserved.ensures.len ∙ ap (λ n. n + 1) c.loop.invariant.1,
  c.push_reserved.ensures.capacity ∙ c.loop.invariant.2,
)

pub returns-clause-slots : goal.returns-clause-slots
returns-clause-slots c =
    let all : c.loop.counter ≡ 16 = omega (arith, c.loop-test.false, c.loop.auto.counter-end) in
    c.loop.invariant.0 ∙ ap (λ n. replicate n untouched) all
