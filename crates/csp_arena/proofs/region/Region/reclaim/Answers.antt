use Rattle.std.proofs.Common.{◌≡◌, ◌+◌, ◌*◌, length, arith, sym, ap, ap₂, ◌∙◌, length-append}
use Rattle.std.specs.List.{range_with_len}
use Rattle.std.proofs.lemmas.List.{length-map}
use Rattle.std.proofs.lemmas.List.FromFn.{length-range_with_len}
use denote.RawPtr.{◌+ₚ◌}
use Rattle.csp_arena.specs.Cells.{RegionName, PlainCell, PlainRegion}
use Rattle.csp_arena.specs.Places.{place_of}
use Rattle.csp_arena.proofs.Order.{popped, place_next, place_after}
use Rattle.csp_arena.proofs.region.Region.reclaim.Goals as goal

pub loop-cell-init : goal.loop-cell-init
loop-cell-init c =
    let r = c.self.inside in
    let inv = c.self.invariant in
    let self = c.args.self in
    let long : length c.args.cells.items ≡ self.cells = sym (length-map c.args.cells.items (λ (d : PlainCell). d.number)) ∙ ap length c.requires.in_order ∙ length-range_with_len 0 self.cells in (
      c.requires.of_it,
      c.requires.in_order ∙ ap (range_with_len 0) (sym long),
      inv.4 ∙ place_after r.shell.ptr r.cells r.size inv.2 ∙ ap (λ (w : PlainRegion). place_of w.name w.cells) c.self.view_is ∙ ap (place_of self.name) (sym long),
      ap₂ (λ a b. a + b * self.size) (ap length inv.5) long ∙ omega arith,
    )

pub join-strip-requires : goal.join-strip-requires
join-strip-requires c =
    let name = c.args.self.name in
    let old = c.loop-cell.invariant in
    let rest = c.pop.new.self.items in
    let last = popped name c.loop-cell.cells.items rest c.in-Some.cell c.in-Some.ensures.items old.0 old.1 in
    old.2 ∙ ap (place_of name) last.count ∙ place_next name (length rest)
    ∙ sym (ap₂ (λ p n. p +ₚ n) (c.dislodge.ensures.place ∙ ap₂ place_of last.region last.number) (ap length c.dislodge.ensures.items ∙ c.dislodge.ensures.size ∙ ap (λ (w : RegionName). w.size) last.region))

pub loop-cell-preserved : goal.loop-cell-preserved
loop-cell-preserved c =
    let self = c.args.self in
    let old = c.loop-cell.invariant in
    let rest = c.pop.new.self.items in
    let last = popped self.name c.loop-cell.cells.items rest c.in-Some.cell c.in-Some.ensures.items old.0 old.1 in
    let sizes : self.name.size ≡ self.size = sym (ap (λ (w : PlainRegion). w.name.size) c.self.view_is) ∙ ap (λ (w : PlainRegion). w.size) c.self.view_is in
    let bytes : length c.dislodge.result.items ≡ self.size = ap length c.dislodge.ensures.items ∙ c.dislodge.ensures.size ∙ ap (λ (w : RegionName). w.size) last.region ∙ sizes in
    let all : length c.join-strip.result.items ≡ length c.dislodge.result.items + length c.loop-cell.strip.items = ap length c.join-strip.ensures.1 ∙ length-append c.dislodge.result.items c.loop-cell.strip.items in
    let before : length c.loop-cell.strip.items + (length rest + 1) * self.size ≡ self.cells * self.size = sym (ap (λ n. length c.loop-cell.strip.items + n * self.size) last.count) ∙ old.3 in (
      last.of_it,
      last.in_order,
      c.join-strip.ensures.0 ∙ c.dislodge.ensures.place ∙ ap₂ place_of last.region last.number,
      grind (arith, all, bytes, before),
    )
