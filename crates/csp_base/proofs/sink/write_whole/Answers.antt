use Rattle.std.proofs.Common.{◌∙◌, arith}
use Rattle.std.proofs.lemmas.Grind.{common_steps}
use Rattle.csp_base.proofs.TransferLemmas.{wrote_more}
use Rattle.csp_base.proofs.sink.write_whole.Goals as goal

pub loop-rest-preserved : goal.loop-rest-preserved
loop-rest-preserved g c =
    let (front, split, held) = c.loop-rest.invariant.wrote in
    record {
      wrote = wrote_more _ _ _ _ front c.loop-rest.rest.now c.in_ok-count.count _ split held c.in_ok-count.ensures.bytes (grind (arith, common_steps));
      steady = c.in_ok-count.ensures.cause.1 ∙ c.loop-rest.invariant.steady;
    }
