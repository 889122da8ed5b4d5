use Rattle.std.proofs.Common.{◌≡◌, ◌+◌, ◌≤◌, ◌++◌, length, arith, ap, ◌∙◌}
use Rattle.csp_arena.specs.Places.{with_bytes}
use Rattle.csp_buffer.proofs.Overwriting.{pushed}
use Rattle.csp_buffer.specs.PlainBuffer.{PlainBuffer, with_picture}
use Rattle.csp_buffer.specs.Trails.{trace_of}
use Rattle.csp_buffer.specs.Words.{kept_in, overwritten}
use Rattle.csp_buffer.proofs.buffer.Buffer.push_tail.Goals as goal

pub returns-clause-ok : goal.returns-clause-ok
returns-clause-ok c =
    let b = c.self.inside in
    let ws = c.args.bytes.now in
    let is : c.overwrite.new.bytes ≡ overwritten b.cell.bytes (4 + b.length) ws = rw (← c.bytes_mut.ensures.value) c.overwrite.ensures in
    let fits : 4 + b.length + length ws ≤ length b.cell.bytes = omega (arith, c.self.invariant.0, c.self.invariant.1, c.if-self-bytes.false) in
    ap (λ ys. kept_in (with_bytes b.cell ys) (b.length + length ws) (trace_of b.trail)) is ∙ pushed b.cell b.length (trace_of b.trail) ws fits
    ∙ ap (λ (old : PlainBuffer). with_picture old (record old.picture { payload = old.picture.payload ++ ws })) c.self.view_is
