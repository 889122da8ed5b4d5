use Rattle.std.proofs.Common.{◌≡◌, ◌+◌, sym, ap, ◌∙◌, append-nil, arith}
use Rattle.std.specs.String.{string_bytes}
use Rattle.csp_gen.proofs.Draws.{first_number, next_number, first_frame, next_frame}
use Rattle.csp_gen.proofs.Joining.{line_more, with_frame}
use Rattle.csp_draw.specs.Draws.{next_draw, drawn}
use Rattle.csp_gen.specs.declared.faults.TheConstants.{LEAST_GAP, GAPS}
use Rattle.csp_gen.specs.GenText.{number_at, frame_at, fault_line}
use Rattle.csp_gen.proofs.faults.push_faults.Goals as goal

pub loop-fault-init : goal.loop-fault-init
loop-fault-init c = record {
  number = c.from-number.ensures ∙ sym (first_number c.args.packets);
  frame = sym (first_frame c.args.packets);
  low = omega arith;
  text = simp append-nil;
}

pub loop-fault-preserved : goal.loop-fault-preserved
loop-fault-preserved c =
    let j = c.loop-fault.fault in
    let number : c.next_draw-number.result ≡ number_at c.args.packets (j + 1) = c.next_draw-number.ensures ∙ ap next_draw c.loop-fault.invariant.number ∙ sym (next_number c.args.packets j) in
    let gap : c.drawn.result ≡ drawn GAPS (number_at c.args.packets (j + 1)) = c.drawn.ensures.choice ∙ ap (drawn GAPS) number in
    let next = next_frame c.args.packets j in
    let frame : c.loop-fault.frame + (LEAST_GAP + c.drawn.result) ≡ frame_at c.args.packets (j + 1) = omega (arith, next, gap, c.loop-fault.invariant.frame) in
    record {
      number = number;
      frame = frame;
      low = omega arith;
      text = line_more (string_bytes c.args.out.now) (string_bytes c.loop-fault.out) (string_bytes c.push_line_with.new.out) (fault_line c.args.packets) j (j + 1) (omega arith) c.loop-fault.invariant.text (with_frame c.args.packets (j + 1) _ _ _ c.harm_of.result.now frame c.harm_of.ensures c.in_ok-push_line_with.ensures);
    }
