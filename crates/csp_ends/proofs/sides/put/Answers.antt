use Rattle.std.proofs.Common.{◌≡◌, ◌<◌, true, length, sym, subst}
use Rattle.std.proofs.lemmas.Option.{slice_get_within}
use Rattle.csp_ends.specs.Ends.{PlainSide, IsSideOf}
use Rattle.csp_ends.proofs.Found.{holds, noted, put_served, seen, stands_as}
use Rattle.csp_ends.proofs.Lists.{all_at}
use Rattle.csp_ends.proofs.Ways.{for_lane, no_other, puts_full, served_full}
use Rattle.csp_lane.specs.Ends.{HadNoRoom}
use Rattle.csp_lane.specs.Marks.{reached}
use Rattle.csp_log.specs.Pictures.{shown_item}
use Rattle.csp_ends.proofs.sides.put.Goals as goal

pub note_of-note-requires : goal.note_of-note-requires
note_of-note-requires g c =
    let stands = stands_as (seen c.ends.inside) c.args.queue c.in-Some.at _ c.as_slice.ensures.value c.in-Some.ensures.found in
    subst (λ l. c.in-Some.at < length l) (sym c.as_mut_slice.ensures.value) (slice_get_within c.ends.inside.sides.items c.in-Some.at _ stands.there)

pub put-requires-clause-of_it : goal.put-requires-clause-of_it
put-requires-clause-of_it g c =
    let held = holds c.ends.inside c.args.queue c.in-Some.at _ _ c.note_of-note.new.sides c.index_mut.result.now c.as_slice.ensures.value c.as_mut_slice.ensures.value c.as_mut_slice.ensures.len c.note_of-note.ensures.same c.in-Some.ensures.found c.index_mut.ensures.value in
    all_at (IsSideOf c.args.queues.now) c.ends.inside.sides.items c.in-Some.at _ held.stands.there (rw (← c.ends.view_is) at c.requires.of_it).sides

pub put-requires-clause-carried : goal.put-requires-clause-carried
put-requires-clause-carried g c =
    let held = holds c.ends.inside c.args.queue c.in-Some.at _ _ c.note_of-note.new.sides c.index_mut.result.now c.as_slice.ensures.value c.as_mut_slice.ensures.value c.as_mut_slice.ensures.len c.note_of-note.ensures.same c.in-Some.ensures.found c.index_mut.ensures.value in
    for_lane (seen c.ends.inside) c.args.queue c.in-Some.at _ c.args.item (rw (← c.ends.view_is) at c.requires.whole) c.requires.lane held.stands (rw (← c.ends.view_is) at c.requires.carried) (rw (← c.ends.view_is) at c.requires.within)

pub put-requires-clause-noted : goal.put-requires-clause-noted
put-requires-clause-noted g c =
    let held = holds c.ends.inside c.args.queue c.in-Some.at _ _ c.note_of-note.new.sides c.index_mut.result.now c.as_slice.ensures.value c.as_mut_slice.ensures.value c.as_mut_slice.ensures.len c.note_of-note.ensures.same c.in-Some.ensures.found c.index_mut.ensures.value in
    noted c.ends.inside c.args.queue c.in-Some.at _ _ _ c.note_of-note.result (rw (← c.ends.view_is) at c.requires.whole) held c.note_of-note.ensures.name

pub returns-in-Some-clause-served : goal.returns-in-Some-clause-served
returns-in-Some-clause-served g c =
    let held = holds c.ends.inside c.args.queue c.in-Some.at _ _ c.note_of-note.new.sides c.index_mut.result.now c.as_slice.ensures.value c.as_mut_slice.ensures.value c.as_mut_slice.ensures.len c.note_of-note.ensures.same c.in-Some.ensures.found c.index_mut.ensures.value in
    rw (← c.ends.view_is) (put_served c.args.queues.now c.ends.inside c.args.queue c.in-Some.at (reached c.note_of-note.result) _ _ _ c.put.new.self c.args.item c.put.result (rw (← c.ends.view_is) at c.requires.whole) c.requires.lane held c.put.ensures.put
    c.note_of-note.ensures.count (for_lane (seen c.ends.inside) c.args.queue c.in-Some.at _ c.args.item (rw (← c.ends.view_is) at c.requires.whole) c.requires.lane held.stands (rw (← c.ends.view_is) at c.requires.carried) (rw (← c.ends.view_is) at c.requires.within)))

pub returns-in-Some-clause-full : goal.returns-in-Some-clause-full
returns-in-Some-clause-full g c =
    let held = holds c.ends.inside c.args.queue c.in-Some.at _ _ c.note_of-note.new.sides c.index_mut.result.now c.as_slice.ensures.value c.as_mut_slice.ensures.value c.as_mut_slice.ensures.len c.note_of-note.ensures.same c.in-Some.ensures.found c.index_mut.ensures.value in
    rw (← c.ends.view_is) (puts_full (seen c.ends.inside) c.args.queue c.in-Some.at (reached c.note_of-note.result) _ c.put.new.self c.args.item c.put.result (rw (← c.ends.view_is) at c.requires.whole) held.stands c.put.ensures.put)

pub returns-in-None-clause-served : goal.returns-in-None-clause-served
returns-in-None-clause-served g c =
    rw (← c.ends.view_is) (served_full c.args.queues.now (seen c.ends.inside) c.args.queue (shown_item c.args.item) (shown_item c.args.item) c.requires.lane (no_other (seen c.ends.inside) c.args.queue (λ (x : PlainSide). x.puts ≡ true → HadNoRoom x.end) (rw c.as_slice.ensures.value at c.in-None.ensures.missing)))

pub returns-in-None-clause-full : goal.returns-in-None-clause-full
returns-in-None-clause-full g c =
    rw (← c.ends.view_is) (no_other (seen c.ends.inside) c.args.queue (λ (x : PlainSide). x.puts ≡ true → HadNoRoom x.end) (rw c.as_slice.ensures.value at c.in-None.ensures.missing))
