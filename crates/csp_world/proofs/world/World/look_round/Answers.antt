use Rattle.std.proofs.Common.{◌≡◌, ◌<◌, ◌≤◌, ℕ, Some, List, length, map, set, ap, subst, sym, ◌∙◌, refl}
use Rattle.std.specs.Prelude.{slice_get, slice_index, replicate}
use Rattle.std.proofs.lemmas.List.{length-map, length-set, map-set}
use Rattle.csp_nodes.specs.DecksAt.{DecksAt}
use Rattle.csp_party.specs.Any.{plain}
use Rattle.csp_world.specs.Grown.{IsGrown}
use Rattle.csp_world.specs.Holders.{HasOneHolder, IsConserved, counts}
use Rattle.csp_world.specs.Inside.{HasRoom, world_of}
use Rattle.csp_world.specs.Reached.{IsReached}
use Rattle.csp_world.specs.Schedule.{turns}
use Rattle.csp_world.specs.Seen.{plain_member}
use Rattle.csp_world.specs.SeenWorld.{SeenWorld}
use Rattle.csp_world.specs.World.{PlainMember, PlainWorld}
use Rattle.csp_world.specs.declared.member.Member.{Member}
use Rattle.csp_world.proofs.FitLemmas.{all_grown, all_set}
use Rattle.csp_world.proofs.HolderLemmas.{moves_conserve, one_holder}
use Rattle.csp_world.proofs.LookingLemmas.{looked_moves}
use Rattle.csp_world.proofs.ReachingLemmas.{reached_turns}
use Rattle.csp_world.proofs.StepLemmas.{member_got, plain_got, spare_at, spare_new, spare_other}
use Rattle.csp_world.proofs.world.World.look_round.Goals as goal

-- its place among the parties
is_within : (items : List Member) (w v : SeenWorld) (place : ℕ) → w ≡ v → length w.plain.members ≡ length items → place < length v.plain.members → place < length items
is_within items w v place same count h = subst (λ (n : ℕ). place < n) (ap (λ (x : SeenWorld). length x.plain.members) (sym same) ∙ count) h

pub look_round-requires-clause-fit : goal.look_round-requires-clause-fit
look_round-requires-clause-fit c =
    let items = c.self.inside.members.items in
    let within = is_within items _ c.args.self.now c.args.party c.self.view_is (length-map items plain_member) c.requires.party in
    c.self.invariant.fit c.args.party c.index_mut-member.result.now (member_got items c.args.party c.index_mut-member.result.now within c.index_mut-member.ensures.value)

pub look_round-requires-clause-room : goal.look_round-requires-clause-room
look_round-requires-clause-room c =
    let items = c.self.inside.members.items in
    let within = is_within items _ c.args.self.now c.args.party c.self.view_is (length-map items plain_member) c.requires.party in
    let before : slice_index c.args.self.now.spares c.args.party ≡ c.index_mut-member.result.now.log.spare = ap (λ (v : SeenWorld). slice_index v.spares c.args.party) (sym c.self.view_is) ∙ spare_at items c.args.party c.index_mut-member.result.now within c.index_mut-member.ensures.value in
    rw (before) at c.requires.room

-- its place, and who stood there
within : (c : goal.After-self-1) → c.args.party < length c.self.inside.members.items
within c = is_within c.self.inside.members.items _ c.args.self.now c.args.party c.self.view_is (length-map c.self.inside.members.items plain_member) c.requires.party

got : (c : goal.After-self-1) → slice_get c.self.inside.members.items c.args.party ≡ Some c.index_mut-member.result.now
got c = member_got c.self.inside.members.items c.args.party c.index_mut-member.result.now (within c) c.index_mut-member.ensures.value

plain_at : (c : goal.After-self-1) → slice_get (map plain_member c.self.inside.members.items) c.args.party ≡ Some (plain_member c.index_mut-member.result.now)
plain_at c = plain_got c.self.inside.members.items c.args.party c.index_mut-member.result.now (within c) c.index_mut-member.ensures.value

-- the world with its log, over the lists as they were
abbrev after : (c : goal.After-self-1) → PlainWorld
after c = world_of c.self.inside.decks (set c.self.inside.members.items c.args.party c.look_round.new.member) c.self.inside.time

lists : (c : goal.After-self-1) → world_of c.look_round.new.decks (set c.self.inside.members.items c.args.party c.look_round.new.member) c.self.inside.time ≡ after c
lists c = ap (λ (d : DecksAt). world_of d (set c.self.inside.members.items c.args.party c.look_round.new.member) c.self.inside.time) c.look_round.ensures.lists

conserved : (c : goal.After-self-1) → IsConserved (after c)
conserved c =
    let w = world_of c.self.inside.decks c.self.inside.members.items c.self.inside.time in
    let old = plain_member c.index_mut-member.result.now in
    let new = plain_member c.look_round.new.member in
    let moves = looked_moves w c.args.party old new (plain_at c) c.look_round.ensures.who (ap plain c.look_round.ensures.party) in
    let kept = moves_conserve w c.args.party old new w.decks moves c.self.invariant.conserved in
    subst (λ (ms : List PlainMember). IsConserved (record { decks = c.self.inside.decks.decks; links = c.self.inside.decks.links; members = ms; time = c.self.inside.time }))
    (sym (map-set plain_member c.self.inside.members.items c.args.party c.look_round.new.member)) kept

pub invariant_of-self : goal.invariant_of-self
invariant_of-self c =
    let items = c.self.inside.members.items in
    let new = c.look_round.new.member in
    let members = length-set items c.args.party new in
    let same = sym c.look_round.ensures.lists in
    let grown : IsGrown c.self.inside.decks c.look_round.new.decks = subst (IsGrown c.self.inside.decks) same (record { rules = λ w q r h. h; rooms = λ n r h. h; regions = λ n r h. h }) in
    record {
      fit = all_grown c.self.inside.decks c.look_round.new.decks c.self.inside.time (set items c.args.party new) grown
          (all_set c.self.inside.decks c.self.inside.time items c.args.party c.index_mut-member.result.now new (got c) c.self.invariant.fit c.look_round.ensures.fit);
      conserved = subst IsConserved (sym (lists c)) (conserved c);
      room = subst (λ (d : DecksAt). HasRoom d.decks (length (set items c.args.party new)) c.self.inside.room) same (rw members c.self.invariant.room);
      early = c.self.invariant.early;
      few_decks = subst (λ (d : DecksAt). length d.decks ≤ 255) same c.self.invariant.few_decks;
      few_members = rw members c.self.invariant.few_members;
    }

pub returns-clause-plain : goal.returns-clause-plain
returns-clause-plain c =
    let w = world_of c.self.inside.decks c.self.inside.members.items c.self.inside.time in
    let items = c.self.inside.members.items in
    lists c
    ∙ ap (λ (ms : List PlainMember). record { decks = c.self.inside.decks.decks; links = c.self.inside.decks.links; members = ms; time = c.self.inside.time }) (map-set plain_member items c.args.party c.look_round.new.member)
    ∙ sym (c.look_round.ensures.turns w c.args.party refl refl refl (plain_at c))
    ∙ ap (λ (v : SeenWorld). turns v.plain (replicate c.look_round.result c.args.party)) c.self.view_is

pub returns-clause-reached : goal.returns-clause-reached
returns-clause-reached c = λ scene reached. subst (IsReached scene) (sym (returns-clause-plain c)) (reached_turns scene (replicate c.look_round.result c.args.party) c.args.self.now.plain reached)

pub returns-clause-consistent : goal.returns-clause-consistent
returns-clause-consistent c = λ scene is after reached. c.is_consistent.ensures scene _ is after reached

pub returns-clause-spares : goal.returns-clause-spares
returns-clause-spares c =
    let items = c.self.inside.members.items in
    let old = c.index_mut-member.result.now in
    let new = c.look_round.new.member in
    let before : slice_index c.args.self.now.spares c.args.party ≡ old.log.spare = ap (λ (v : SeenWorld). slice_index v.spares c.args.party) (sym c.self.view_is) ∙ spare_at items c.args.party old (within c) c.index_mut-member.ensures.value in
    rw (before, spare_new items c.args.party new (within c)) c.look_round.ensures.spare

pub returns-clause-others : goal.returns-clause-others
returns-clause-others c = λ k ne. spare_other c.self.inside.members.items c.args.party k c.look_round.new.member ne ∙ ap (λ (v : SeenWorld). slice_index v.spares k) c.self.view_is

pub returns-clause-counts : goal.returns-clause-counts
returns-clause-counts c = ap (λ (d : DecksAt). counts (world_of d (set c.self.inside.members.items c.args.party c.look_round.new.member) c.self.inside.time)) c.look_round.ensures.lists ∙ ap (λ (v : SeenWorld). counts v.plain) c.self.view_is

pub returns-clause-one_holder : goal.returns-clause-one_holder
returns-clause-one_holder c = subst HasOneHolder (sym (lists c)) (one_holder c.counts_holders.ensures (after c) (conserved c))
