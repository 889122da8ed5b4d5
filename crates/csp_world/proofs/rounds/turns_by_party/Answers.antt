use Rattle.std.proofs.Common.{◌≢◌, ◌-◌, length, ap, sym, ◌∙◌, arith}
use Rattle.csp_world.specs.Holders.{counts}
use Rattle.csp_world.specs.Schedule.{turns, round_places}
use Rattle.csp_world.proofs.ScheduleLemmas.{still_turns, party_made, parties_done, places_from}
use Rattle.csp_world.proofs.rounds.turns_by_party.Goals as goal

pub loop-place-preserved : goal.loop-place-preserved
loop-place-preserved c =
    let w = c.loop-place.world.plain in
    let place = c.loop-place.place in
    let went = c.party_turns.ensures in
    record {
      left = party_made w c.party_turns.new.world.plain place c.parties-place-end.result c.loop-place-test.true went.plain ∙ c.loop-place.invariant.left;
      parties = ap (λ v. length v.members) went.plain ∙ (still_turns w _).members ∙ c.loop-place.invariant.parties;
      counts = went.counts ∙ c.loop-place.invariant.counts;
      room = λ k above below.
          let ne : k ≢ place = omega arith in
          let before = c.loop-place.invariant.room k (omega arith) below in
          omega (arith, went.others k ne, before);
    }

pub returns-clause-turns : goal.returns-clause-turns
returns-clause-turns c =
    let done = parties_done c.loop-place.world.plain c.loop-place.place (c.parties-place-end.result - c.loop-place.place) (omega arith) in
    sym done ∙ c.loop-place.invariant.left
    ∙ ap (λ n. turns c.make_room.new.world.plain (places_from 0 n)) c.parties-place-end.ensures
    ∙ ap (λ w. turns w (round_places (length w.members))) c.in_ok-make_room.ensures.plain

pub returns-clause-counts : goal.returns-clause-counts
returns-clause-counts c = c.loop-place.invariant.counts ∙ ap counts c.in_ok-make_room.ensures.plain
