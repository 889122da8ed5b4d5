use Rattle.std.proofs.Common.{List, take, slice_get, arith}
use Rattle.csp_log.specs.declared.entry.Entry.{Entry}
use Rattle.csp_happenings.specs.Happenings.{happened}
use Rattle.csp_happenings.specs.Remembering.{Remembers}
use Rattle.csp_happenings.proofs.Along.{finish, step}
use Rattle.csp_happenings.proofs.Counting.{AreWithin-later}
use Rattle.csp_happenings.proofs.Idle.{idle-step}
use Rattle.csp_happenings.proofs.telling.tell_log.Goals as goal
use Rattle.csp_happenings.proofs.telling.tell_log.Goals.{then-not-is_untold+in_ok-tell_entry, else-not-is_untold}

pub loop-index-preserved : goal.loop-index-preserved
loop-index-preserved c =
    let scene = c.args.scene.now in
    let party = c.args.who in
    let entries = c.args.log.now.entries in
    let index = c.loop-index.index in
    let (so_far, was, within) = c.loop-index.invariant in
    elim c.if-not-is_untold.branch [
      | then-not-is_untold+in_ok-tell_entry w ↦
          let (told, remembers) = step (happened scene party) (λ (before : List Entry). Remembers scene before w.tell_entry.new.memory party) entries index _ _ _ (omega (arith, c.loop-index-test.true, c.len-index-end.ensures.value))
          (w.in_ok-tell_entry.ensures.told scene (take index entries) was) so_far in
          rw (w.list-is, w.memory-is) (told, remembers, w.tell_entry.ensures.within index within)
      | else-not-is_untold w ↦
          let idle = c.is_untold.ensures w.if-not-is_untold.false in
          let (told, remembers) = step (happened scene party) (λ (before : List Entry). Remembers scene before c.loop-index.memory party) entries index c.loop-index.list.items c.loop-index.list.items _ (omega (arith, c.loop-index-test.true, c.len-index-end.ensures.value))
          (idle-step scene party (take index entries) (slice_get entries index) c.loop-index.memory c.loop-index.list.items idle.0 idle.1 was) so_far in
          rw (w.list-is, w.memory-is) (told, remembers, AreWithin-later index c.loop-index.memory.carrying within)
    ]

pub returns : goal.returns
returns c = finish (happened c.args.scene.now c.args.who) c.args.log.now.entries c.loop-index.index _ _ (omega (arith, c.loop-index-test.false, c.len-index-end.ensures.value)) c.loop-index.invariant.0
