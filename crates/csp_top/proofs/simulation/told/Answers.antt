use Rattle.std.proofs.Common.{◌≡◌, sym, subst}
use Rattle.csp_consistent.specs.Addressed.{AreHopsOut}
use Rattle.csp_ordinary.specs.Ordinary.{AreSourcesApart, HasNoFlips, HasNumbersForAll, IsOrdinary}
use Rattle.csp_peers.specs.Clear.{HasClearFlows}
use Rattle.csp_record.specs.Passed.{passed}
use Rattle.csp_record.specs.Stale.{stale}
use Rattle.csp_report.specs.Report.{report}
use Rattle.csp_report.specs.ReliablePrefix.{HasReliablePrefix, IsUndisturbed}
use Rattle.csp_top.proofs.simulation.told.Goals as goal
use Rattle.csp_told.specs.LastLines.{EndsUnchanged}
use Rattle.csp_told.specs.WithinNumbers.{SendsWithinNumbers}
use Rattle.csp_top.specs.Main.{EndsAsOrdinary, IsUncountedIfOrdinary}

pub returns-in-Ok-clause-reliable : goal.returns-in-Ok-clause-reliable
returns-in-Ok-clause-reliable c =
    let scene = c.args.scene.now in
    let run = c.args.run.now in
    let ranges = c.requires.ranges in
    let consistent = c.requires.consistent in
    subst HasReliablePrefix (sym c.in-Ok.ensures.bytes)
    (c.tells_reliable_prefix.ensures scene run ranges c.requires.apart consistent.runs c.requires.whole c.hold_numbers.ensures
    (λ node app x opened. (let placed = c.opens_on_slots.ensures scene run ranges consistent node app x opened in record { app = placed.0; slot = placed.1 }))
    (c.takes_a_prefix.ensures scene run ranges consistent))

pub returns-in-Ok-clause-ordinary : goal.returns-in-Ok-clause-ordinary
unfolding IsUncountedIfOrdinary
returns-in-Ok-clause-ordinary c =
    let scene = c.args.scene.now in
    let run = c.args.run.now in
    let ranges = c.requires.ranges in
    let consistent = c.requires.consistent in
    let hops : AreHopsOut run = c.marks_next_hops.ensures scene run c.hold_addresses.ensures consistent.runs consistent.lanes in
    let same : IsOrdinary scene run → passed run ≡ 0 = c.passes_nothing.ensures scene run ranges c.requires.ends consistent c.hold_words.ensures hops in
    let fresh : IsOrdinary scene run → HasClearFlows scene run → stale run ≡ 0 = λ ordinary. c.counts_no_stale.ensures scene run ranges c.requires.addressed consistent (same ordinary) in
    let within : SendsWithinNumbers scene (report scene run) → HasNumbersForAll scene run = c.within_by_report.ensures scene run ranges consistent.runs in
    let unharmed : HasNoFlips scene → AreSourcesApart scene run → HasNumbersForAll scene run → IsOrdinary scene run =
    λ none apart numbers. record { undamaged = c.undamaged_without_flips.ensures scene run none; numbers = numbers; sources = apart } in
    let passes : IsOrdinary scene run → EndsUnchanged (report scene run) = λ ordinary. c.ends_unchanged.ensures scene run (same ordinary) in
    let calm : IsOrdinary scene run → HasClearFlows scene run → IsUndisturbed (report scene run) = λ ordinary clear. c.ends_undisturbed.ensures scene run (fresh ordinary clear) (same ordinary) in
    let reliable : HasReliablePrefix (report scene run) =
    c.tells_reliable_prefix.ensures scene run ranges c.requires.apart consistent.runs c.requires.whole c.hold_numbers.ensures
    (λ node app x opened. (let placed = c.opens_on_slots.ensures scene run ranges consistent node app x opened in record { app = placed.0; slot = placed.1 }))
    (c.takes_a_prefix.ensures scene run ranges consistent) in
    subst (EndsAsOrdinary scene run) (sym c.in-Ok.ensures.bytes) (record {
      alone = c.apart_without_hubs.ensures scene run;
      passes = passes;
      unflipped = λ none apart numbers. passes (unharmed none apart numbers);
      by_report = λ none apart told. passes (unharmed none apart (within told));
      clear = calm;
      clear_by_report = λ none apart told. calm (unharmed none apart (within told));
      prefix = λ ordinary clear. c.takes_a_prefix.ensures scene run ranges consistent (fresh ordinary clear) (same ordinary);
      texts = λ ordinary clear. reliable (calm ordinary clear);
      blobs = λ ordinary clear. c.tells_of_blobs.ensures scene run ranges consistent (fresh ordinary clear) (same ordinary);
      delivers = c.delivers_on_hubs.ensures scene run ranges consistent c.hold_words.ensures hops;
    })

pub returns-in-Ok-clause-blobs : goal.returns-in-Ok-clause-blobs
returns-in-Ok-clause-blobs c = c.tells_of_blobs.ensures c.args.scene.now c.args.run.now c.requires.ranges c.requires.consistent
