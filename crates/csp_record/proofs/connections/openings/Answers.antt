use Rattle.std.proofs.Common.{◌+◌, ◌++◌, sym, ap, ◌∙◌, drop, get_or, arith}
use Rattle.std.specs.List.{flat_map, slice_get}
use Rattle.csp_log.specs.declared.entry.Entry.{Entry}
use Rattle.csp_record.specs.Connections.{opened_by, openings}
use Rattle.csp_record.specs.declared.payloads.Transfer.TheVariants as way
use Rattle.csp_record.proofs.Gaining.{ended-few, none-opened, told-events, told-next}
use Rattle.csp_record.proofs.Ordinals.{Ends, no_ends, openings_after, openings_are}
use Rattle.csp_record.proofs.Passing.{openings-over}
use Rattle.csp_record.proofs.connections.openings.Goals as goal

pub returns-then-not-any_opened : goal.returns-then-not-any_opened
returns-then-not-any_opened c =
    let app = c.args.app in
    let entries = c.args.log.now.entries in
    c.new-list.ensures.items ∙ sym (openings_are app entries ∙ none-opened app no_ends entries (sym c.any_opened.ensures ∙ c.if-not-any_opened.true))

pub loop-index-init : goal.loop-index-init
loop-index-init c =
    let app = c.args.app in
    let entries = c.args.log.now.entries in
    let first = c.next_deed-index in (
      ap (λ list. list ++ openings_after app (λ s. get_or c.none-ends.result s 0) (drop first.result entries)) c.new-list.ensures.items
          ∙ (λ i. openings_after app (λ s. c.none-ends.ensures s i) (drop first.result entries))
          ∙ sym (openings-over app no_ends entries 0 first.result first.ensures.range.0 first.ensures.idle)
          ∙ sym (openings_are app entries),
      λ slot. omega (arith, c.none-ends.ensures slot),
      first.ensures.range.1,
    )

pub loop-index-preserved : goal.loop-index-preserved
loop-index-preserved c =
    let app = c.args.app in
    let entries = c.args.log.now.entries in
    let index = c.loop-index.index in
    let ends : Ends = λ s. get_or c.loop-index.ends s 0 in
    let more : Ends = λ s. get_or c.note.new.self s 0 in
    let next = c.next_deed-index-in-loop-index in (
      ap (λ rest. c.add_openings.new.list.items ++ rest) (sym (openings-over app more entries (index + 1) next.result next.ensures.range.0 next.ensures.idle))
          ∙ ap (λ list. list ++ openings_after app more (drop (index + 1) entries)) c.in_ok-add_openings.ensures
          ∙ told-next way.Sent app (λ (ends : Ends) (e : Entry). flat_map (opened_by app ends) e.events.items) ends more entries index c.noted.result c.loop-index.list.items (flat_map (opened_by app ends) c.events.result.now) (openings app entries)
          c.noted.ensures c.note.ensures
          (told-events (opened_by app ends) (slice_get entries index) c.events.result.now c.events.ensures)
          c.loop-index.invariant.0,
      λ slot. omega (arith, next.ensures.range.0, ended-few way.Sent app c.noted.result ends more index c.note.ensures c.loop-index.invariant.1 slot),
      next.ensures.range.1,
    )
