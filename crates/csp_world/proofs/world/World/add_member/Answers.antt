use Rattle.std.proofs.Common.{◌≤◌, ◌+◌, length, vec_capacity, arith, refl, subst, sym}
use Rattle.std.proofs.lemmas.List.{length-map}
use Rattle.csp_topology.specs.declared.topology.TheConstants.{MAX_PARTIES}
use Rattle.csp_world.proofs.OpeningMembers.{has_room-push, has_room-kept, world-push, world-kept}
use Rattle.csp_world.specs.Seen.{plain_member}
use Rattle.csp_world.specs.SeenWorld.{SeenWorld}
use Rattle.csp_world.specs.Settling.{CanSettle}
use Rattle.csp_world.proofs.world.World.add_member.Goals as goal

pub member_room-requires-clause-few : goal.member_room-requires-clause-few
member_room-requires-clause-few c = omega (arith, c.self.inside.room.left.small, c.self.invariant.room.left, c.self.invariant.room.counted, c.self.invariant.few_members, c.self.invariant.few_decks, c.len-nodes.ensures.count)

pub invariant_of-self : goal.invariant_of-self
invariant_of-self c =
    let w = c.self.inside in
    let e = c.in-Ok.ensures in
    let can = subst (λ (v : SeenWorld). CanSettle v.plain.decks v.plain.links v.regions c.args.party) (sym c.self.view_is) c.requires.can in
    let few : length w.members.items + 1 ≤ MAX_PARTIES = omega (arith, subst (λ (v : SeenWorld). length v.plain.members + 1 ≤ MAX_PARTIES) (sym c.self.view_is) c.requires.few, length-map w.members.items plain_member) in
    let held : w.room.queues + length w.members.items + 1 + length w.decks.decks ≤ vec_capacity c.member_room.new.room.held = omega (arith, e.held_room, c.len-nodes.ensures.count) in
    world-push w c.push_reserved.new.self c.member_room.new.room _ c.self.invariant
    (rw e.members at c.push_reserved.ensures.items)
    can (rw c.new.ensures refl) few
    (has_room-push w.decks.decks _ w.room c.member_room.new.room c.self.invariant.room e.logs (omega (arith, e.logs_room)) e.held held e.left e.emptied e.queues)

pub invariant_of-self-in-Err : goal.invariant_of-self-in-Err
invariant_of-self-in-Err c =
    let w = c.self.inside in
    let e = c.in-Err.ensures in
    world-kept w c.member_room.new.members c.member_room.new.room c.self.invariant e.members
    (has_room-kept w.decks.decks _ w.room c.member_room.new.room c.self.invariant.room e.logs e.logs_capacity e.held e.held_capacity e.left e.emptied e.queues)
