use Rattle.std.proofs.lemmas.Option.{get_or_from_slice_get}
use Rattle.csp_ends.proofs.Across.{told_count, told_name}
use Rattle.csp_ends.proofs.sides.note_of.Goals as goal

pub returns-in-Some-clause-name : goal.returns-in-Some-clause-name
returns-in-Some-clause-name c = λ s e.
    let found = c.in-Some.ensures.found s e in
    told_name c.args.sides.now s found.0 _ c.heard.result (get_or_from_slice_get c.args.sides.now c.in-Some.place found.0 c.index-sides-place.result found.1) found.3 c.heard.ensures.name

pub returns-in-Some-clause-count : goal.returns-in-Some-clause-count
returns-in-Some-clause-count c = λ s e puts.
    let found = c.in-Some.ensures.found s e in
    told_count c.args.sides.now s found.0 _ _ (get_or_from_slice_get c.args.sides.now c.in-Some.place found.0 c.index-sides-place.result found.1) found.2 found.3 puts c.heard.ensures.count
