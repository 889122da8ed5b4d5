use Rattle.std.proofs.Common.{◌≡◌, ◌≢◌, ◌<◌, ◌+◌, ◌≤◌, Some, List, length, map, set, ap, subst, sym, ◌∙◌, refl}
use Rattle.std.specs.Prelude.{slice_index}
use Rattle.std.proofs.lemmas.List.{length-map, length-set, map-set}
use Rattle.csp_buffer.specs.Content.{Content}
use Rattle.csp_log.specs.declared.shown.AnswerShown.TheVariants as answer
use Rattle.csp_party.specs.Any.{has_ended, plain}
use Rattle.csp_world.specs.Holders.{IsConserved, counts}
use Rattle.csp_world.specs.Inside.{world_of}
use Rattle.csp_world.specs.Reached.{IsReached}
use Rattle.csp_world.specs.Seen.{plain_member, answer_at_place, turn_told}
use Rattle.csp_world.specs.SeenWorld.{SeenWorld}
use Rattle.csp_world.specs.World.{PlainMember, turn}
use Rattle.csp_world.proofs.FitLemmas.{all_grown, all_set, as_many, room_kept}
use Rattle.csp_world.proofs.FullLemmas.{never_full}
use Rattle.csp_world.proofs.HolderLemmas.{Moves, moves_conserve, one_holder}
use Rattle.csp_world.proofs.ReachingLemmas.{reached_turn}
use Rattle.csp_world.proofs.StepLemmas.{Went, went, came_to, member_got, plain_got, spare_at, spare_new, spare_other, spare_spent}
use Rattle.csp_world.proofs.world.World.step.Goals as goal

-- its place among the parties
within_parties : (c : goal.After-self-1) → c.args.party < length c.self.inside.members.items
within_parties c =
    let in_world : c.args.party < length (map plain_member c.self.inside.members.items) = subst (λ (w : SeenWorld). c.args.party < length w.plain.members) (sym c.self.view_is) c.requires.party in
    rw (← length-map c.self.inside.members.items plain_member) in_world

pub take_turn-requires-clause-fit : goal.take_turn-requires-clause-fit
take_turn-requires-clause-fit c =
    let in_world : c.args.party < length (map plain_member c.self.inside.members.items) = subst (λ (w : SeenWorld). c.args.party < length w.plain.members) (sym c.self.view_is) c.requires.party in
    let within : c.args.party < length c.self.inside.members.items = rw (← length-map c.self.inside.members.items plain_member) in_world in
    c.self.invariant.fit c.args.party c.index_mut.result.now (member_got c.self.inside.members.items c.args.party c.index_mut.result.now within c.index_mut.ensures.value)

-- what the turn did
did : (c : goal.After-self-1) → Went c.self.inside.decks c.take_turn.new.decks c.self.inside.members.items c.self.inside.time c.args.party c.index_mut.result.now c.take_turn.new.member c.take_turn.result
did c = record {
  within = within_parties c;
  old_is = c.index_mut.ensures.value;
  links = c.take_turn.ensures.links;
  ended = c.take_turn.ensures.ended;
  party = c.take_turn.ensures.member;
  left = c.take_turn.ensures.decks;
  turned = c.take_turn.ensures.turn;
}

-- how it changes what each party and each list of the world holds
moves : (c : goal.After-self-1) → Moves (world_of c.self.inside.decks c.self.inside.members.items c.self.inside.time) c.args.party (plain_member c.index_mut.result.now) (plain_member c.take_turn.new.member) c.take_turn.new.decks.decks
moves c = record {
  old_is = plain_got c.self.inside.members.items c.args.party c.index_mut.result.now (within_parties c) c.index_mut.ensures.value;
  rooms = c.take_turn.ensures.rooms;
  held = c.take_turn.ensures.conserved;
}

conserved : (c : goal.After-self-1) → IsConserved (world_of c.take_turn.new.decks (set c.self.inside.members.items c.args.party c.take_turn.new.member) c.self.inside.time)
conserved c =
    let kept = moves_conserve _ _ _ _ _ (moves c) c.self.invariant.conserved in
    subst (λ (ms : List PlainMember). IsConserved (record { decks = c.take_turn.new.decks.decks; links = c.self.inside.decks.links; members = ms; time = c.self.inside.time }))
    (sym (map-set plain_member c.self.inside.members.items c.args.party c.take_turn.new.member)) kept

pub invariant_of-self : goal.invariant_of-self
invariant_of-self c =
    let items = c.self.inside.members.items in
    let members = length-set items c.args.party c.take_turn.new.member in
    let got = member_got items c.args.party c.index_mut.result.now (within_parties c) c.index_mut.ensures.value in
    let nodes = as_many c.self.inside.decks.decks c.take_turn.new.decks.decks c.take_turn.ensures.rooms in
    record {
      fit = all_set c.take_turn.new.decks c.self.inside.time items c.args.party c.index_mut.result.now c.take_turn.new.member got
          (all_grown c.self.inside.decks c.take_turn.new.decks c.self.inside.time items c.take_turn.ensures.grown c.self.invariant.fit) c.take_turn.ensures.fit;
      conserved = conserved c;
      room = room_kept c.self.inside.decks.decks c.take_turn.new.decks.decks (length items) _ c.self.inside.room c.take_turn.ensures.queues members c.self.invariant.room;
      early = c.self.invariant.early;
      few_decks = rw nodes c.self.invariant.few_decks;
      few_members = rw members c.self.invariant.few_members;
    }

pub returns-clause-plain : goal.returns-clause-plain
returns-clause-plain c = went _ _ _ _ _ _ _ _ (did c) ∙ ap (λ (v : SeenWorld). turn v.plain c.args.party) c.self.view_is

pub returns-clause-reached : goal.returns-clause-reached
returns-clause-reached c = λ scene reached. subst (IsReached scene) (sym (returns-clause-plain c)) (reached_turn scene c.args.self.now.plain c.args.party reached)

pub returns-clause-consistent : goal.returns-clause-consistent
returns-clause-consistent c = λ scene is after reached. c.is_consistent.ensures scene _ is after reached

pub returns-clause-turn : goal.returns-clause-turn
returns-clause-turn c = came_to _ _ _ _ _ _ _ _ (did c) ∙ ap (λ (v : SeenWorld). turn_told (answer_at_place v.plain c.args.party)) c.self.view_is

pub returns-clause-spares : goal.returns-clause-spares
returns-clause-spares c =
    let items = c.self.inside.members.items in
    let old = c.index_mut.result.now in
    let new = c.take_turn.new.member in
    let within = within_parties c in
    let spent : old.log.spare ≤ new.log.spare + 1 = spare_spent (has_ended (plain old.party)) old new refl (λ e. (c.take_turn.ensures.ended e).1) c.take_turn.ensures.spare in
    let before : slice_index c.args.self.now.spares c.args.party ≡ old.log.spare = ap (λ (v : SeenWorld). slice_index v.spares c.args.party) (sym c.self.view_is) ∙ spare_at items c.args.party old within c.index_mut.ensures.value in
    rw (before, spare_new items c.args.party new within) spent

pub returns-clause-others : goal.returns-clause-others
returns-clause-others c = λ k ne. spare_other c.self.inside.members.items c.args.party k c.take_turn.new.member ne ∙ ap (λ (v : SeenWorld). slice_index v.spares k) c.self.view_is

pub returns-clause-counts : goal.returns-clause-counts
returns-clause-counts c = c.take_turn.ensures.rooms ∙ ap (λ (v : SeenWorld). counts v.plain) c.self.view_is

pub returns-clause-one_holder : goal.returns-clause-one_holder
returns-clause-one_holder c = one_holder c.counts_holders.ensures (world_of c.take_turn.new.decks (set c.self.inside.members.items c.args.party c.take_turn.new.member) c.self.inside.time) (conserved c)

pub returns-clause-never_full : goal.returns-clause-never_full
returns-clause-never_full c =
    subst (λ (v : SeenWorld). (b : Content) → answer_at_place v.plain c.args.party ≢ Some (answer.PoolFull b)) c.self.view_is
    (never_full c.weighs.ensures.len c.gathers.ensures (world_of c.self.inside.decks c.self.inside.members.items c.self.inside.time) c.args.party (plain_member c.index_mut.result.now)
    (moves c).old_is c.self.invariant.conserved c.take_turn.ensures.full)
