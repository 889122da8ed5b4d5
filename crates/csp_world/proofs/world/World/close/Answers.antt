use Rattle.std.proofs.Common.{◌≡◌, map, sym, ◌∙◌, ap, subst}
use Rattle.csp_consistent.specs.Consistent.{IsConsistent}
use Rattle.csp_nodes.specs.Emptied.{emptied_in}
use Rattle.csp_record.specs.Record.{PlainRecord}
use Rattle.csp_record.specs.Whole.{IsWhole}
use Rattle.csp_world.specs.Holders.{counts}
use Rattle.csp_world.specs.Inside.{world_of}
use Rattle.csp_world.specs.Record.{record_of}
use Rattle.csp_world.specs.SeenWorld.{SeenWorld}
use Rattle.csp_world.proofs.ClosingEnds.{queues_fit, members_fit, all_takeable, all_complete, noted}
use Rattle.csp_world.proofs.ClosingParts.{emptied_of}
use Rattle.csp_world.proofs.ClosingSums.{whole}
use Rattle.csp_world.proofs.world.World.close.Goals as goal

pub gather-requires-clause-fits : goal.gather-requires-clause-fits
gather-requires-clause-fits c =
    queues_fit (world_of c.self.inside.decks c.self.inside.members.items c.self.inside.time) c.gathers.ensures c.weighs.ensures.len c.self.invariant.conserved

pub empty_members-requires-clause-parties : goal.empty_members-requires-clause-parties
empty_members-requires-clause-parties c =
    let queued : map (λ e. e.region) c.gather.new.emptied.items ≡ c.self.inside.decks.regions = rw c.self.invariant.room.no_emptied at c.gather.ensures.regions in
    rw queued (all_takeable c.self.inside.decks c.self.inside.members.items c.self.inside.time c.gathers.ensures c.weighs.ensures.len c.self.invariant.conserved c.self.invariant.fit)

pub empty_members-requires-clause-fits : goal.empty_members-requires-clause-fits
empty_members-requires-clause-fits c =
    let queued : emptied_in c.gather.new.emptied.items ≡ map emptied_of c.self.inside.decks.decks = rw c.self.invariant.room.no_emptied at c.gather.ensures.emptied in
    rw queued (members_fit (world_of c.self.inside.decks c.self.inside.members.items c.self.inside.time) c.gathers.ensures c.weighs.ensures.len c.self.invariant.conserved)

pub end_nodes-requires-clause-complete : goal.end_nodes-requires-clause-complete
end_nodes-requires-clause-complete c =
    let queued : emptied_in c.gather.new.emptied.items ≡ map emptied_of c.self.inside.decks.decks = rw c.self.invariant.room.no_emptied at c.gather.ensures.emptied in
    all_complete (world_of c.self.inside.decks c.self.inside.members.items c.self.inside.time) c.gathers.ensures c.weighs.ensures.len c.self.invariant.conserved
    (emptied_in c.empty_members.new.emptied.items) (λ node. rw queued at (c.empty_members.ensures.emptied node))

pub returns-clause-record : goal.returns-clause-record
returns-clause-record c =
    let room = c.self.invariant.room in
    let queued : emptied_in c.gather.new.emptied.items ≡ map emptied_of c.self.inside.decks.decks = rw room.no_emptied at c.gather.ensures.emptied in
    noted c.self.inside.decks c.self.inside.members.items c.self.inside.time (emptied_in c.empty_members.new.emptied.items)
    c.empty_members.new.logs.items c.gather.new.left.items c.gather.new.held.items c.empty_members.new.held.items c.end_nodes.new.held.items c.all_done-finished.result
    (λ node. rw queued at (c.empty_members.ensures.emptied node))
    (rw room.no_logs at c.empty_members.ensures.logs)
    (rw room.no_left at c.gather.ensures.left)
    (rw room.no_held at c.gather.ensures.held)
    c.empty_members.ensures.held
    c.end_nodes.ensures
    (rw c.deref.ensures.value at c.all_done-finished.ensures)
    ∙ ap (λ (s : SeenWorld). record_of s.plain) c.self.view_is

pub returns-clause-whole : goal.returns-clause-whole
returns-clause-whole c =
    subst (λ (r : PlainRecord). IsWhole (counts c.args.self.plain) r) (sym (returns-clause-record c))
    (subst (λ (s : SeenWorld). IsWhole (counts s.plain) (record_of s.plain)) c.self.view_is
    (whole (world_of c.self.inside.decks c.self.inside.members.items c.self.inside.time) c.gathers.ensures c.weighs.ensures.weight c.self.invariant.conserved))

pub returns-clause-consistent : goal.returns-clause-consistent
returns-clause-consistent c = λ scene is after reached. subst (IsConsistent scene) (sym (returns-clause-record c)) (c.is_consistent.ensures scene c.args.self.plain is after reached)
