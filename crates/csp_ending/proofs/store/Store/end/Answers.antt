use Rattle.std.proofs.Common.{◌≡◌, ℕ, List, length, sym, subst, ap, ◌∙◌, arith}
use Rattle.std.specs.List.{slice_range}
use Rattle.csp_buffer.specs.Memory.{HaveEachOnce}
use Rattle.csp_buffer.specs.PlainBuffer.{PlainBuffer}
use Rattle.csp_ending.specs.Notes.{with_place}
use Rattle.csp_ending.specs.Stores.{PlainStore, part}
use Rattle.csp_log.specs.declared.places.Place.TheVariants as place
use Rattle.csp_pool.specs.PlainPool.{numbers}
use Rattle.csp_ending.proofs.Stores.{as_many, each_once, numbers_long, numbers_part}
use Rattle.csp_ending.proofs.store.Store.end.Goals as goal

pub numbers_between-numbers-requires-clause-part : goal.numbers_between-numbers-requires-clause-part
numbers_between-numbers-requires-clause-part c =
    let back : c.args.self.numbers ≡ numbers c.self.inside.back.items = ap (λ (s : PlainStore). s.numbers) (sym c.self.view_is) in
    let value = ap (λ (bs : List PlainBuffer). length bs) c.as_slice.ensures.value in
    let long = ap (λ (ns : List ℕ). length ns) back in
    let part = c.requires.part in
    let same = numbers_long c.self.inside.back.items in
    (part.0, let low = part.1 in omega (arith, low, long, same, value))

pub numbers_between-numbers-requires-clause-room : goal.numbers_between-numbers-requires-clause-room
numbers_between-numbers-requires-clause-room c =
    let back : c.args.self.numbers ≡ numbers c.self.inside.back.items = ap (λ (s : PlainStore). s.numbers) (sym c.self.view_is) in
    let many = as_many c.weighs.ensures.len c.args.self c.self.inside.back.items back c.requires.whole in
    let value = ap (λ (bs : List PlainBuffer). length bs) c.as_slice.ensures.value in
    let room = c.requires.numbers_room in
    omega (arith, many, value, room)

pub close-requires-clause-count : goal.close-requires-clause-count
close-requires-clause-count c =
    let back : c.args.self.numbers ≡ numbers c.self.inside.back.items = ap (λ (s : PlainStore). s.numbers) (sym c.self.view_is) in
    as_many c.weighs.ensures.len c.args.self c.self.inside.back.items back c.requires.whole ∙ ap (λ (s : PlainStore). s.count) (sym c.self.view_is)

pub close-requires-clause-each_once : goal.close-requires-clause-each_once
close-requires-clause-each_once c =
    let back : c.args.self.numbers ≡ numbers c.self.inside.back.items = ap (λ (s : PlainStore). s.numbers) (sym c.self.view_is) in
    subst (λ n. HaveEachOnce n c.self.inside.back.items) (ap (λ (s : PlainStore). s.count) (sym c.self.view_is)) (each_once c.args.self c.self.inside.back.items back c.requires.whole)

pub returns-clause-notes : goal.returns-clause-notes
returns-clause-notes c =
    let back : c.args.self.numbers ≡ numbers c.self.inside.back.items = ap (λ (s : PlainStore). s.numbers) (sym c.self.view_is) in
    let noted : c.numbers_between-numbers.result.items ≡ part c.args.first c.args.last c.args.self.numbers =
    c.numbers_between-numbers.ensures ∙ ap (λ (bs : List PlainBuffer). numbers (slice_range bs c.args.first c.args.last)) c.as_slice.ensures.value
    ∙ numbers_part c.args.first c.args.last c.self.inside.back.items ∙ ap (part c.args.first c.args.last) (sym back) in
    c.add_place.ensures.notes ∙ ap (λ ns. with_place c.args.notes.now c.args.node place.Pool ns c.add_place.new.self.others) noted
