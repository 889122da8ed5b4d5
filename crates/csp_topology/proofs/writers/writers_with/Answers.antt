use Rattle.std.proofs.Common.{List, ◌++◌, ◌∷◌, [], ap, ◌∙◌, arith}
use Rattle.csp_log.specs.declared.who.Who.TheVariants as who
use Rattle.csp_topology.proofs.WriterLemmas.{writer_more}
use Rattle.csp_topology.proofs.writers.writers_with.Goals as goal
use Rattle.csp_topology.specs.declared.writers.Writer.{Writer}

pub loop-number-preserved : goal.loop-number-preserved
loop-number-preserved c =
    let number = c.loop-number.number in
    record {
      writers =
          c.in_ok-add-2.ensures
          ∙ ap (λ (ws : List Writer). ws ++ record { mark = number; who = who.Iface c.args.node number } ∷ []) c.loop-number.invariant.writers
          ∙ writer_more c.args.node c.args.hub number (omega (arith, c.loop-number-test.true, c.requires.few));
    }
