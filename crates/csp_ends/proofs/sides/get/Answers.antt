use Rattle.std.proofs.Common.{◌≡◌, ◌<◌, false, length, slice_get, sym, ap, subst, ◌∙◌}
use Rattle.std.proofs.lemmas.Option.{slice_get_within}
use Rattle.csp_ends.specs.Ends.{PlainSide, IsSideOf}
use Rattle.csp_ends.specs.Sides.{IsBacked}
use Rattle.csp_ends.proofs.Found.{got_as, got_served, seen, stands_as}
use Rattle.csp_ends.proofs.Lists.{all_at}
use Rattle.csp_ends.proofs.Ways.{gets_empty, got_carried, got_within, no_other, served_empty}
use Rattle.csp_lane.specs.Ends.{HadNothing}
use Rattle.csp_ends.proofs.sides.get.Goals as goal

pub get_at-requires-clause-there : goal.get_at-requires-clause-there
get_at-requires-clause-there g c =
    let stands = stands_as (seen c.ends.inside) c.args.queue c.in-Some.at _ c.as_slice.ensures.value c.in-Some.ensures.found in
    subst (λ l. c.in-Some.at < length l) (sym c.as_mut_slice.ensures.value) (slice_get_within c.ends.inside.sides.items c.in-Some.at _ stands.there)

pub get_at-requires-clause-of_it : goal.get_at-requires-clause-of_it
get_at-requires-clause-of_it g c = λ s e.
    all_at (IsSideOf c.args.queues.now) c.ends.inside.sides.items c.in-Some.at s (ap (λ l. slice_get l c.in-Some.at) (sym c.as_mut_slice.ensures.value) ∙ e) (rw (← c.ends.view_is) at c.requires.of_it).sides

pub get_at-requires-clause-backed : goal.get_at-requires-clause-backed
get_at-requires-clause-backed g c = λ s e.
    let sides = c.ends.inside.sides.items in
    let same = sym c.as_mut_slice.ensures.value in
    subst (λ l. IsBacked l s) same (all_at (IsBacked sides) sides c.in-Some.at s (ap (λ l. slice_get l c.in-Some.at) same ∙ e) (rw (← c.ends.view_is) at c.requires.whole).backed)

pub returns-in-Some-clause-served : goal.returns-in-Some-clause-served
returns-in-Some-clause-served g c =
    let got = got_as (seen c.ends.inside) c.args.queue c.in-Some.at _ _ c.get_at.new.sides c.get_at.result c.as_slice.ensures.value c.as_mut_slice.ensures.value c.in-Some.ensures.found c.get_at.ensures.got c.get_at.ensures.carried in
    rw (← c.ends.view_is) (got_served c.args.queues.now c.ends.inside c.args.queue c.in-Some.at c.get_at.new.sides c.get_at.result (rw (← c.ends.view_is) at c.requires.whole) c.requires.lane (c.get_at.ensures.count ∙ c.as_mut_slice.ensures.len) got)

pub returns-in-Some-clause-empty : goal.returns-in-Some-clause-empty
returns-in-Some-clause-empty g c =
    let got = got_as (seen c.ends.inside) c.args.queue c.in-Some.at _ _ c.get_at.new.sides c.get_at.result c.as_slice.ensures.value c.as_mut_slice.ensures.value c.in-Some.ensures.found c.get_at.ensures.got c.get_at.ensures.carried in
    rw (← c.ends.view_is) (gets_empty (seen c.ends.inside) c.args.queue c.in-Some.at got.side c.get_at.new.sides c.get_at.result (rw (← c.ends.view_is) at c.requires.whole) got.stands got.gets)

pub returns-in-Some-clause-carried : goal.returns-in-Some-clause-carried
returns-in-Some-clause-carried g c =
    let got = got_as (seen c.ends.inside) c.args.queue c.in-Some.at _ _ c.get_at.new.sides c.get_at.result c.as_slice.ensures.value c.as_mut_slice.ensures.value c.in-Some.ensures.found c.get_at.ensures.got c.get_at.ensures.carried in
    rw (← c.ends.view_is) (got_carried (seen c.ends.inside) c.args.queue c.in-Some.at got.side c.get_at.result c.requires.lane got.stands got.brings)

pub returns-in-Some-clause-within : goal.returns-in-Some-clause-within
returns-in-Some-clause-within g c =
    let got = got_as (seen c.ends.inside) c.args.queue c.in-Some.at _ _ c.get_at.new.sides c.get_at.result c.as_slice.ensures.value c.as_mut_slice.ensures.value c.in-Some.ensures.found c.get_at.ensures.got c.get_at.ensures.carried in
    rw (← c.ends.view_is) (got_within (seen c.ends.inside) c.args.queue c.in-Some.at got.side c.get_at.result (rw (← c.ends.view_is) at c.requires.whole) got.stands got.brings)

pub returns-in-None-clause-served : goal.returns-in-None-clause-served
returns-in-None-clause-served g c =
    rw (← c.ends.view_is) (served_empty c.args.queues.now (seen c.ends.inside) c.args.queue c.requires.lane (no_other (seen c.ends.inside) c.args.queue (λ (x : PlainSide). x.puts ≡ false → HadNothing x.end) (rw c.as_slice.ensures.value at c.in-None.ensures.missing)))

pub returns-in-None-clause-empty : goal.returns-in-None-clause-empty
returns-in-None-clause-empty g c =
    rw (← c.ends.view_is) (no_other (seen c.ends.inside) c.args.queue (λ (x : PlainSide). x.puts ≡ false → HadNothing x.end) (rw c.as_slice.ensures.value at c.in-None.ensures.missing))
