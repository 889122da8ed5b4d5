use Rattle.std.proofs.Common.{◌+◌, Bool, true, false, count_by, sym, ap, ◌∙◌, arith}
use Rattle.csp_log.specs.Moving.{moved_in}
use Rattle.csp_log.specs.declared.entry.Entry.{Entry}
use Rattle.csp_record.specs.Passed.{put_in}
use Rattle.csp_record.specs.Table.{is_unlike}
use Rattle.csp_record.proofs.Counting.{count-next}
use Rattle.csp_record.proofs.Passing.{chosen-over, put-nothing}
use Rattle.csp_record.proofs.counts.count_in_log.Goals as goal
use Rattle.csp_record.proofs.counts.count_in_log.Goals.{then-has_put, else-has_put}

pub loop-index-init : goal.loop-index-init
loop-index-init c =
    let first = c.next_deed-index.ensures in
    let none = chosen-over (λ (e : Entry). put_in (moved_in e)) put-nothing c.args.log.now.entries 0 c.next_deed-index.result first.range.0 first.idle in
    (sym (ap (count_by (is_unlike c.args.table.now)) none), first.range.0, first.range.1)

pub loop-index-preserved : goal.loop-index-preserved
loop-index-preserved c =
    let p = is_unlike c.args.table.now in
    let entries = c.args.log.now.entries in
    let index = c.loop-index.index in
    let deed = c.next_deed-index-in-loop-index in
    let over = ap (count_by p) (chosen-over (λ (e : Entry). put_in (moved_in e)) put-nothing entries (index + 1) deed.result deed.ensures.range.0 deed.ensures.idle) in
    let next = λ (b : Bool). count-next p (λ (e : Entry). put_in (moved_in e)) entries index b in
    elim c.if-has_put.branch [
      | then-has_put w ↦ (omega (arith, over, next true (sym w.if-has_put.true ∙ c.has_put.ensures), c.loop-index.invariant.0, w.count-is), omega (arith, deed.ensures.range.0, c.loop-index.invariant.1, w.count-is), deed.ensures.range.1)
      | else-has_put w ↦ (omega (arith, over, next false (sym w.if-has_put.false ∙ c.has_put.ensures), c.loop-index.invariant.0, w.count-is), omega (arith, deed.ensures.range.0, c.loop-index.invariant.1, w.count-is), deed.ensures.range.1)
    ]
