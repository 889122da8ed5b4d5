use Rattle.std.proofs.Common.{ℕ, ◌++◌, List, [], ◌∷◌, map, ap, ◌∙◌}
use Rattle.std.specs.List.{range_with_len}
use Rattle.csp_topology.proofs.WireSteps.{one_more}
use Rattle.csp_topology.proofs.wiring.push_inner.Goals as goal
use Rattle.csp_topology.specs.Wiring.{inner_lane, wire_by}
use Rattle.csp_topology.specs.declared.wire.Wire.{Wire}

pub loop-number-preserved : goal.loop-number-preserved
loop-number-preserved c =
    let lane : ℕ → Wire = λ k. wire_by c.args.spots (inner_lane c.args.kind c.args.node c.args.hub k) in
    let number = c.loop-number.number in
    let old : List Wire = c.args.wires.now.items in
    record {
      wires =
          c.in_ok-push.ensures.items
          ∙ ap (λ (ws : List Wire). ws ++ c.inner.result ∷ []) c.loop-number.invariant.wires
          ∙ ap (λ (w : Wire). (old ++ map lane (range_with_len 0 number)) ++ w ∷ []) c.inner.ensures
          ∙ one_more lane old number;
    }
