use Rattle.std.proofs.Common.{List, ◌∷◌, map, sym, ap, ◌∙◌, arith, subst}
use Rattle.std.specs.Prelude.{slice_get}
use Rattle.std.proofs.lemmas.List.Elements.{All-head, All-rest}
use Rattle.csp_arena.specs.Cells.{RegionName}
use Rattle.csp_nodes.specs.Emptied.{EmptiedAt, emptied_in}
use Rattle.csp_world.specs.Seen.{plain_member}
use Rattle.csp_world.specs.Taking.{IsTakeable}
use Rattle.csp_world.proofs.ClosingMembers.{with_members, member_next, still_fits, first_fits}
use Rattle.csp_world.proofs.ClosingParts.{moved}
use Rattle.csp_world.proofs.world.closing.empty_members.Goals as goal

pub empty_member-requires-clause-party : goal.empty_member-requires-clause-party
empty_member-requires-clause-party c =
    subst (λ (rs : List RegionName). IsTakeable rs c.in-Some.member) (sym c.loop-member.invariant.regions)
    (All-head (IsTakeable (map (λ (e : EmptiedAt). e.region) c.args.emptied.now.items)) c.in-Some.member _ (rw c.in-Some.ensures.items at c.loop-member.invariant.parties))

pub empty_member-requires-clause-fits : goal.empty_member-requires-clause-fits
empty_member-requires-clause-fits c = λ node e found.
    let ms = map plain_member c.pop_front.new.self.items in
    first_fits (plain_member c.in-Some.member) ms node e
    (still_fits (plain_member c.in-Some.member ∷ ms) node _ _ _ (rw (c.in-Some.ensures.items, found) at (c.loop-member.invariant.emptied node)) (c.requires.fits node))

pub loop-member-preserved : goal.loop-member-preserved
loop-member-preserved c =
    let m = c.in-Some.member in
    let first = c.in-Some.ensures.items in
    let before = c.loop-member.invariant in
    let done = c.empty_member.ensures in
    let ms = map plain_member c.pop_front.new.self.items in
    let logs_room = rw first at before.logs_room in
    let held_len = rw first at before.held_len in
    let held_room = rw first at before.held_room in
    record {
      emptied = λ node. ap (with_members ms node) (done.emptied node) ∙ member_next (plain_member m) ms node (slice_get (emptied_in c.loop-member.emptied.items) node) ∙ (rw first at (before.emptied node));
      emptied_len = done.emptied_len ∙ before.emptied_len;
      regions = done.regions ∙ before.regions;
      parties = All-rest (IsTakeable (map (λ (e : EmptiedAt). e.region) c.args.emptied.now.items)) m _ _ first before.parties;
      logs = moved _ _ _ _ _ done.logs (rw first at before.logs);
      held = moved _ _ _ _ _ done.held (rw first at before.held);
      logs_room = omega (arith, logs_room, done.logs_len, done.logs_capacity);
      held_len = omega (arith, held_len, done.held_len);
      held_room = omega (arith, held_room, done.held_len, done.held_capacity);
      capacity = omega (arith, before.capacity, done.held_capacity);
    }
