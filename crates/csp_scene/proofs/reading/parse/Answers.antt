use Rattle.csp_scene.proofs.Texts.{more_read, refused_read, done_read, missing_read, refused_from}
use Rattle.csp_scene.proofs.MoveCounts.{scene_moves}
use Rattle.csp_scene.proofs.NamesApart.{scene_apart}
use Rattle.csp_scene.proofs.reading.parse.Goals as goal

pub returns-in-Err-clause-refused : goal.returns-in-Err-clause-refused
returns-in-Err-clause-refused c line kind e =
    let told = c.at.ensures in
    refused_from _ c.in-Err.error c.loop-line.number line kind
    (λ k is. refused_read _ _ _ _ k _ _ _ _ c.loop-line-test.true (rw is at (rw c.deref.ensures.value at c.in-Err.ensures.answer)) c.loop-line.invariant.read)
    cc

pub loop-line-preserved : goal.loop-line-preserved
loop-line-preserved c = record {
  kept = c.in-Ok-judge.ensures.kept;
  read = more_read _ _ _ _ _ _ _ _ _ _ c.loop-line-test.true (rw c.deref.ensures.value at c.in-Ok-judge.ensures.answer) (rw c.deref.ensures.value at c.in-Ok-judge.ensures.stays) c.loop-line.invariant.read;
}

pub returns-in-Ok-finish-clause-scene : goal.returns-in-Ok-finish-clause-scene
returns-in-Ok-finish-clause-scene c =
    done_read _ _ _ _ c.in-Ok-finish.scene _ _ _ c.loop-line-test.false c.in-Ok-finish.ensures.value c.loop-line.invariant.read

pub returns-in-Ok-finish-clause-apart : goal.returns-in-Ok-finish-clause-apart
returns-in-Ok-finish-clause-apart c =
    scene_apart c.args.bytes.now c.in-Ok-finish.scene
    (done_read _ _ _ _ c.in-Ok-finish.scene _ _ _ c.loop-line-test.false c.in-Ok-finish.ensures.value c.loop-line.invariant.read)

pub returns-in-Ok-finish-clause-moves : goal.returns-in-Ok-finish-clause-moves
returns-in-Ok-finish-clause-moves c =
    scene_moves c.args.bytes.now c.in-Ok-finish.scene
    (done_read _ _ _ _ c.in-Ok-finish.scene _ _ _ c.loop-line-test.false c.in-Ok-finish.ensures.value c.loop-line.invariant.read)

pub returns-clause-refused : goal.returns-clause-refused
returns-clause-refused c line kind e =
    let told = c.at-in-Err-finish.ensures in
    refused_from _ c.in-Err-finish.error c.loop-line.number line kind
    (λ k is. missing_read _ _ _ _ k _ _ _ c.loop-line-test.false (c.in-Err-finish.ensures.kind k cc) c.loop-line.invariant.read)
    cc
