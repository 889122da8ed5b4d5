use Rattle.std.proofs.Common.{ℕ, ◌==◌, ◌+◌, [], ◌++◌, refl, sym, ap, ◌∙◌, drop, get_or, arith}
use Rattle.std.specs.Prelude.{if◌then◌else◌}
use Rattle.std.specs.List.{slice_get}
use Rattle.std.specs.Option.{option_map_or}
use Rattle.csp_base.specs.Seat.{seat}
use Rattle.csp_log.specs.declared.entry.Entry.{Entry}
use Rattle.csp_record.specs.Payloads.{payloads, payloads_in}
use Rattle.csp_record.specs.Traffic.{payloads_on}
use Rattle.csp_record.proofs.Gaining.{ended-few, told-next}
use Rattle.csp_record.proofs.Ordinals.{Ends, no_ends, payloads_after, payloads_are}
use Rattle.csp_record.proofs.Passing.{payloads-over}
use Rattle.csp_record.proofs.payloads.traffic_of.Goals as goal

pub loop-index-init : goal.loop-index-init
loop-index-init c =
    let entries = c.args.log.now.entries in
    let first = c.next_deed-index in
    let after = λ (slot ordinal : ℕ). payloads_after c.args.way (seat c.args.app slot) ordinal in (
      λ slot ordinal.
          ap (λ before. before ++ after slot ordinal (λ s. get_or c.none-ends.result s 0) (drop first.result entries)) (ap (λ table. payloads_on table slot ordinal) c.new-table.ensures.empty)
          ∙ (λ i. after slot ordinal (λ s. c.none-ends.ensures s i) (drop first.result entries))
          ∙ sym (payloads-over c.args.way (seat c.args.app slot) ordinal no_ends entries 0 first.result first.ensures.range.0 first.ensures.idle)
          ∙ sym (payloads_are c.args.way (seat c.args.app slot) ordinal entries),
      λ slot. omega (arith, c.none-ends.ensures slot),
      first.ensures.range.1,
    )

pub loop-index-preserved : goal.loop-index-preserved
loop-index-preserved c =
    let which = c.args.way in
    let app = c.args.app in
    let entries = c.args.log.now.entries in
    let index = c.loop-index.index in
    let ends : Ends = λ s. get_or c.loop-index.ends s 0 in
    let more : Ends = λ s. get_or c.note.new.self s 0 in
    let next = c.next_deed-index-in-loop-index in (
      λ slot ordinal.
          let told = λ (ends : Ends) (e : Entry). if ends slot == ordinal then payloads_in which (seat app slot) e else [] in
          let so_far = payloads_on c.add_entry.new.table.entries slot ordinal in
          ap (λ list. so_far ++ list) (sym (payloads-over which (seat app slot) ordinal more entries (index + 1) next.result next.ensures.range.0 next.ensures.idle))
          ∙ ap (λ list. list ++ payloads_after which (seat app slot) ordinal more (drop (index + 1) entries)) (c.in_ok-add_entry.ensures slot ordinal)
          ∙ told-next which app told ends more entries index c.noted.result (payloads_on c.loop-index.table.entries slot ordinal) (option_map_or (told ends) (slice_get entries index) []) (payloads which (seat app slot) ordinal entries)
          c.noted.ensures c.note.ensures refl (c.loop-index.invariant.0 slot ordinal),
      λ slot. omega (arith, next.ensures.range.0, ended-few which app c.noted.result ends more index c.note.ensures c.loop-index.invariant.1 slot),
      next.ensures.range.1,
    )
