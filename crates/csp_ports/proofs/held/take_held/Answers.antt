use Rattle.std.proofs.Common.{◌∙◌, ap, sym, get_or, slice_set}
use Rattle.std.proofs.lemmas.List.{set-get_or}
use Rattle.csp_ports.specs.Held.{slot_buffers}
use Rattle.csp_ports.proofs.Holding.{emptied_slot, slot-passed, slot-taken, slots-whole}
use Rattle.csp_ports.proofs.held.take_held.Goals as goal

pub returns-in-Some : goal.returns-in-Some
returns-in-Some c =
    let same = c.loop-slot.invariant.0 in
    let item = c.slot-item.is ∙ ap (λ l. get_or l c.loop-slot.slot-index c.slot-item.result) same in
    rw same
    record {
      buffers = slot-taken c.args.slots.now c.loop-slot.slot-index c.slot-item.result c.take_out.new.self c.in-Some.buffer
          c.loop-slot-test.true item c.loop-slot.invariant.1
          (ap slot_buffers c.slot-item.is ∙ c.in-Some.ensures.buffers) (c.take_out.ensures.state ∙ ap emptied_slot (sym c.slot-item.is));
    }

pub loop-slot-preserved : goal.loop-slot-preserved
loop-slot-preserved c =
    let same = c.loop-slot.invariant.0 in
    let item = c.slot-item.is ∙ ap (λ l. get_or l c.loop-slot.slot-index c.slot-item.result) same in (
      ap (λ x. slice_set c.loop-slot.slots c.loop-slot.slot-index x) c.in_default.ensures.buffers.1 ∙ set-get_or c.loop-slot.slots c.loop-slot.slot-index c.slot-item.result ∙ same,
      slot-passed c.args.slots.now c.loop-slot.slot-index c.slot-item.result c.loop-slot-test.true item c.loop-slot.invariant.1
          (ap slot_buffers c.slot-item.is ∙ c.in_default.ensures.buffers.0),
    )

pub returns : goal.returns
returns c = record {
  buffers = (
    slots-whole c.args.slots.now c.loop-slot.slot-index c.loop-slot-test.false c.loop-slot.auto.slot-index-end c.loop-slot.invariant.1,
    c.loop-slot.invariant.0,
  );
}
