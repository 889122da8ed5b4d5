use Rattle.std.proofs.Common.{List, ◌++◌, ◌+◌, map, drop, ap, ◌∙◌}
use Rattle.std.proofs.lemmas.List.{map-append}
use Rattle.csp_log.specs.declared.who.Who.{Who}
use Rattle.csp_scene.specs.Scene.{PlainNode}
use Rattle.csp_topology.proofs.WriterLemmas.{hub_mark, node_more}
use Rattle.csp_topology.proofs.writers.writers_of.Goals as goal
use Rattle.csp_topology.specs.Writers.{mark_for, writers_from, writers_with}
use Rattle.csp_topology.specs.declared.writers.Writer.{Writer}

pub writers_with-requires : goal.writers_with-requires
writers_with-requires c = record { hub = ap mark_for c.leader_of-hub.ensures ∙ hub_mark c.loop-place.place c.index-nodes-place.result.addr; few = c.count_at-ifaces.ensures.few }

pub loop-place-preserved : goal.loop-place-preserved
loop-place-preserved c =
    let place = c.loop-place.place in
    let node : PlainNode = c.index-nodes-place.result in
    record {
      writers =
          ap (λ (ws : List (List Writer)). ws ++ writers_from (place + 1) (drop (place + 1) c.args.nodes.now) c.args.links.now)
          (ap (map (λ ws. ws.items)) c.in_ok-push.ensures.items ∙ map-append (λ ws. ws.items) c.loop-place.all.items _)
          ∙ node_more _ (map (λ ws. ws.items) c.loop-place.all.items) _ place _ c.args.nodes.now c.args.links.now node c.loop-place-test.true c.index-nodes-place.is c.loop-place.invariant.writers
          (c.in_ok-writers_with.ensures ∙ ap (λ (h : Who). writers_with place h c.count_at-ifaces.result) c.leader_of-hub.ensures) c.count_at-ifaces.ensures.value;
    }
