use Rattle.std.proofs.Common.{◌≡◌, ◌+◌, Bool, true, false, sym, ap, ◌∙◌, arith}
use Rattle.std.specs.Option.{is_some}
use Rattle.csp_log.specs.Idling.{IsIdle}
use Rattle.csp_log.specs.Moving.{moved_in}
use Rattle.csp_log.specs.declared.entry.Entry.{Entry}
use Rattle.csp_record.specs.Passed.{put_in}
use Rattle.csp_report.proofs.IfaceLines.{count-next, count-over}
use Rattle.csp_report.proofs.ifaces.count_accepted.Goals as goal
use Rattle.csp_report.proofs.ifaces.count_accepted.Goals.{then-has_accepted, else-has_accepted}

-- an idle entry put nothing into the inbox
not-accepted : (entry : Entry) → IsIdle entry → is_some (put_in (moved_in entry)) ≡ false
not-accepted entry idle = ap (λ moved. is_some (put_in moved)) idle.moved

pub loop-index-init : goal.loop-index-init
loop-index-init c =
    let first = c.next_deed-index.ensures in
    (sym (count-over (λ (entry : Entry). is_some (put_in (moved_in entry))) not-accepted c.args.log.now.entries 0 c.next_deed-index.result first.range.0 first.idle), first.range.0, first.range.1)

pub loop-index-preserved : goal.loop-index-preserved
loop-index-preserved c =
    let p = λ (entry : Entry). is_some (put_in (moved_in entry)) in
    let entries = c.args.log.now.entries in
    let index = c.loop-index.index in
    let deed = c.next_deed-index-in-loop-index in
    let over = count-over p not-accepted entries (index + 1) deed.result deed.ensures.range.0 deed.ensures.idle in
    let next = λ (b : Bool). count-next p entries index b in
    elim c.if-has_accepted.branch [
      | then-has_accepted w ↦ (omega (arith, over, next true (sym w.if-has_accepted.true ∙ c.has_accepted.ensures), c.loop-index.invariant.0, w.count-is), omega (arith, deed.ensures.range.0, c.loop-index.invariant.1, w.count-is), deed.ensures.range.1)
      | else-has_accepted w ↦ (omega (arith, over, next false (sym w.if-has_accepted.false ∙ c.has_accepted.ensures), c.loop-index.invariant.0, w.count-is), omega (arith, deed.ensures.range.0, c.loop-index.invariant.1, w.count-is), deed.ensures.range.1)
    ]
