use Rattle.std.proofs.Common.{◌∙◌}
use Rattle.csp_rdp_window.specs.Sending.{marked}
use Rattle.csp_rdp_window.proofs.PlaceLemmas.{changed-none, changed-some}
use Rattle.csp_rdp_window.proofs.send.mark_all.Goals as goal
use Rattle.csp_rdp_window.proofs.send.mark_all.Goals.{in-Some, in-None}

pub loop-place-preserved : goal.loop-place-preserved
loop-place-preserved c =
    elim c.match-place.branch [
      | in-Some w ↦ changed-some (marked c.args.mark) c.args.places.now c.loop-place.places c.match-place.places c.loop-place.place-index c.place-item.result
          w.in-Some.packet w.mark.new.self c.loop-place-test.true c.loop-place.invariant c.place-item.is (c.place-item.is ∙ w.in-Some.is) w.mark.ensures w.places-is
      | in-None w ↦ changed-none (marked c.args.mark) c.args.places.now c.loop-place.places c.match-place.places c.loop-place.place-index c.place-item.result
          c.loop-place-test.true c.loop-place.invariant c.place-item.is (c.place-item.is ∙ w.in-None.is) w.places-is
    ]
