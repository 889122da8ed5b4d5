use Rattle.std.proofs.Common.{◌≡◌, ℕ, ◌+◌, ◌*◌, ◌-◌, ◌<◌, [], ◌∷◌, ◌++◌, take, drop, replicate, arith, sym, ap, ap₂, ◌∙◌}
use Rattle.std.proofs.lemmas.List.{take-replicate, drop-replicate}
use Rattle.std.proofs.lemmas.List.FromFn.{map-range_with_len_more}
use Rattle.csp_arena.specs.Cells.{blank}
use Rattle.csp_arena.specs.Places.{name_at}
use Rattle.csp_arena.proofs.region.divide.Goals as goal

-- the room of the cells that are left is that of the next and of the others
split : (cells n size : ℕ) → n < cells → (cells - n) * size ≡ size + (cells - (n + 1)) * size
split cells n size h =
    let e : cells - n ≡ 1 + (cells - (n + 1)) = omega arith in
    ap (λ k. k * size) e ∙ grind arith

pub loop-number-preserved : goal.loop-number-preserved
loop-number-preserved c =
    let n = c.loop-number.number in
    let size = c.args.size in
    let left = (c.args.cells - n) * size in
    let old = c.loop-number.invariant in
    let name = name_at c.args.start 0 size in
    let next = c.first_cell-cell.ensures in
    let parts = split c.args.cells n size c.loop-number-test.true in
    let bytes = ap (take size) old.1 ∙ take-replicate size left 0 (omega (arith, parts)) in
    let cell : c.first_cell-cell.result.0 ≡ blank name n = next.cell ∙ ap (λ bs. record { region = name; number = n; bytes = bs }) bytes in (
      next.rest.0,
      next.rest.1 ∙ ap (drop size) old.1 ∙ drop-replicate size left 0 ∙ ap (λ k. replicate k 0) (omega (arith, parts)),
      c.push_reserved.ensures.items ∙ ap₂ (λ cells one. cells ++ one ∷ []) old.2 cell ∙ sym (map-range_with_len_more (blank name) 0 n n (omega arith)),
      c.push_reserved.ensures.len ∙ ap (λ k. k + 1) old.3,
      c.push_reserved.ensures.capacity ∙ old.4,
    )
