use Rattle.std.proofs.Common.{ap, ◌∙◌, arith}
use Rattle.std.specs.Option.{option_map}
use Rattle.std.proofs.lemmas.Option.{slice_get-get_or}
use Rattle.csp_ends.specs.Ends.{PlainSide}
use Rattle.csp_ends.proofs.Across.{before, behind, gets_alone, gets_count, gets_told, place_apart}
use Rattle.csp_ends.proofs.Lists.{each_there}
use Rattle.csp_ends.proofs.Ways.{Brings}
use Rattle.csp_ends.proofs.sides.get_at.Goals as goal

pub bounds-front-at : goal.bounds-front-at
bounds-front-at g c =
    let apart = place_apart c.args.sides.now c.args.at c.in-Some.back (omega (arith, c.if-back-at.false)) c.requires.there c.in-Some.ensures.found in
    omega (arith, c.split_at_mut-front-else-back-at.ensures.front_len, apart)

pub get_after-requires-else-back-at-clause-of_it : goal.get_after-requires-else-back-at-clause-of_it
get_after-requires-else-back-at-clause-of_it g c =
    let sides = c.args.sides.now in
    let tells = behind sides c.split_at_mut-front-else-back-at.result.0.now c.split_at_mut-front-else-back-at.result.1.now c.args.at c.in-Some.back c.index-front-at.result c.index-rest-0-else-back-at.result c.split_at_mut-front-else-back-at.ensures.value c.split_at_mut-front-else-back-at.ensures.front_len (omega (arith, c.if-back-at.false)) c.requires.there c.in-Some.ensures.found in
    c.requires.of_it _ tells.there

pub get_after-requires-else-back-at-clause-turned : goal.get_after-requires-else-back-at-clause-turned
get_after-requires-else-back-at-clause-turned g c =
    let sides = c.args.sides.now in
    let tells = behind sides c.split_at_mut-front-else-back-at.result.0.now c.split_at_mut-front-else-back-at.result.1.now c.args.at c.in-Some.back c.index-front-at.result c.index-rest-0-else-back-at.result c.split_at_mut-front-else-back-at.ensures.value c.split_at_mut-front-else-back-at.ensures.front_len (omega (arith, c.if-back-at.false)) c.requires.there c.in-Some.ensures.found in
    tells.turned

pub get_after-requires-else-back-at-clause-about : goal.get_after-requires-else-back-at-clause-about
get_after-requires-else-back-at-clause-about g c =
    let sides = c.args.sides.now in
    let tells = behind sides c.split_at_mut-front-else-back-at.result.0.now c.split_at_mut-front-else-back-at.result.1.now c.args.at c.in-Some.back c.index-front-at.result c.index-rest-0-else-back-at.result c.split_at_mut-front-else-back-at.ensures.value c.split_at_mut-front-else-back-at.ensures.front_len (omega (arith, c.if-back-at.false)) c.requires.there c.in-Some.ensures.found in
    c.requires.backed _ tells.there ∙ ap (option_map (λ (z : PlainSide). z.end.tally)) tells.found

pub returns-else-back-at-clause-got : goal.returns-else-back-at-clause-got
returns-else-back-at-clause-got g c =
    let sides = c.args.sides.now in
    let tells = behind sides c.split_at_mut-front-else-back-at.result.0.now c.split_at_mut-front-else-back-at.result.1.now c.args.at c.in-Some.back c.index-front-at.result c.index-rest-0-else-back-at.result c.split_at_mut-front-else-back-at.ensures.value c.split_at_mut-front-else-back-at.ensures.front_len (omega (arith, c.if-back-at.false)) c.requires.there c.in-Some.ensures.found in
    gets_told sides c.args.at _ _ c.get_after-else-back-at.new.self c.get_after-else-back-at.new.back _ c.get_after-else-back-at.result tells c.get_after-else-back-at.ensures.back c.get_after-else-back-at.ensures.got

pub returns-else-back-at-clause-carried : goal.returns-else-back-at-clause-carried
returns-else-back-at-clause-carried g c =
    let sides = c.args.sides.now in
    let tells = behind sides c.split_at_mut-front-else-back-at.result.0.now c.split_at_mut-front-else-back-at.result.1.now c.args.at c.in-Some.back c.index-front-at.result c.index-rest-0-else-back-at.result c.split_at_mut-front-else-back-at.ensures.value c.split_at_mut-front-else-back-at.ensures.front_len (omega (arith, c.if-back-at.false)) c.requires.there c.in-Some.ensures.found in
    each_there _ (λ s. Brings s c.get_after-else-back-at.result) _ tells.there c.get_after-else-back-at.ensures.carried

pub returns-else-back-at-clause-count : goal.returns-else-back-at-clause-count
returns-else-back-at-clause-count g c =
    let sides = c.args.sides.now in
    let tells = behind sides c.split_at_mut-front-else-back-at.result.0.now c.split_at_mut-front-else-back-at.result.1.now c.args.at c.in-Some.back c.index-front-at.result c.index-rest-0-else-back-at.result c.split_at_mut-front-else-back-at.ensures.value c.split_at_mut-front-else-back-at.ensures.front_len (omega (arith, c.if-back-at.false)) c.requires.there c.in-Some.ensures.found in
    gets_count sides c.args.at _ c.get_after-else-back-at.result _ (gets_told sides c.args.at _ _ c.get_after-else-back-at.new.self c.get_after-else-back-at.new.back _ c.get_after-else-back-at.result tells c.get_after-else-back-at.ensures.back c.get_after-else-back-at.ensures.got _ tells.there)

pub returns-then-back-at-clause-got : goal.returns-then-back-at-clause-got
returns-then-back-at-clause-got g c =
    let sides = c.args.sides.now in
    let tells = before sides c.split_at_mut-front.result.0.now c.split_at_mut-front.result.1.now c.args.at c.in-Some.back c.index-rest-0.result c.index-front-back.result c.split_at_mut-front.ensures.value c.split_at_mut-front.ensures.front_len c.if-back-at.true c.requires.there c.in-Some.ensures.found in
    gets_told sides c.args.at _ _ c.get_after.new.self c.get_after.new.back _ c.get_after.result tells c.get_after.ensures.back c.get_after.ensures.got

pub returns-then-back-at-clause-carried : goal.returns-then-back-at-clause-carried
returns-then-back-at-clause-carried g c =
    let sides = c.args.sides.now in
    let tells = before sides c.split_at_mut-front.result.0.now c.split_at_mut-front.result.1.now c.args.at c.in-Some.back c.index-rest-0.result c.index-front-back.result c.split_at_mut-front.ensures.value c.split_at_mut-front.ensures.front_len c.if-back-at.true c.requires.there c.in-Some.ensures.found in
    each_there _ (λ s. Brings s c.get_after.result) _ tells.there c.get_after.ensures.carried

pub returns-then-back-at-clause-count : goal.returns-then-back-at-clause-count
returns-then-back-at-clause-count g c =
    let sides = c.args.sides.now in
    let tells = before sides c.split_at_mut-front.result.0.now c.split_at_mut-front.result.1.now c.args.at c.in-Some.back c.index-rest-0.result c.index-front-back.result c.split_at_mut-front.ensures.value c.split_at_mut-front.ensures.front_len c.if-back-at.true c.requires.there c.in-Some.ensures.found in
    gets_count sides c.args.at _ c.get_after.result _ (gets_told sides c.args.at _ _ c.get_after.new.self c.get_after.new.back _ c.get_after.result tells c.get_after.ensures.back c.get_after.ensures.got _ tells.there)

pub get-requires-clause-of_it : goal.get-requires-clause-of_it
get-requires-clause-of_it g c =
    let sides = c.args.sides.now in
    let there = slice_get-get_or sides c.args.at c.index-sides-at.result c.requires.there in
    c.requires.of_it _ there

pub get-requires-clause-plain : goal.get-requires-clause-plain
get-requires-clause-plain g c =
    let sides = c.args.sides.now in
    let there = slice_get-get_or sides c.args.at c.index-sides-at.result c.requires.there in
    c.requires.backed _ there ∙ ap (option_map (λ (z : PlainSide). z.end.tally)) (c.in-None.ensures.missing _ there)

pub returns-in-None-clause-got : goal.returns-in-None-clause-got
returns-in-None-clause-got g c =
    let sides = c.args.sides.now in
    let there = slice_get-get_or sides c.args.at c.index-sides-at.result c.requires.there in
    gets_alone sides c.args.at _ c.get.new.self c.get.result there (c.in-None.ensures.missing _ there) c.get.ensures.got

pub returns-in-None-clause-carried : goal.returns-in-None-clause-carried
returns-in-None-clause-carried g c =
    let sides = c.args.sides.now in
    let there = slice_get-get_or sides c.args.at c.index-sides-at.result c.requires.there in
    each_there _ (λ s. Brings s c.get.result) _ there c.get.ensures.carried

pub returns-in-None-clause-count : goal.returns-in-None-clause-count
returns-in-None-clause-count g c =
    let sides = c.args.sides.now in
    let there = slice_get-get_or sides c.args.at c.index-sides-at.result c.requires.there in
    gets_count sides c.args.at _ c.get.result _ (gets_alone sides c.args.at _ c.get.new.self c.get.result there (c.in-None.ensures.missing _ there) c.get.ensures.got _ there)
