use Rattle.std.proofs.Common.{List, length, map, ap, ◌∙◌, arith}
use Rattle.std.proofs.lemmas.List.{length-map}
use Rattle.csp_topology.specs.Opened.{opened_as}
use Rattle.csp_topology.specs.Opening.{opening_of}
use Rattle.csp_topology.specs.Parties.{PlainOpening}
use Rattle.csp_topology.specs.declared.opened.NodeBuffers.{NodeBuffers}
use Rattle.csp_world.proofs.Settled.{all_empty, all_settle, are_parties}
use Rattle.csp_world.proofs.world.World.add_parties.Goals as goal

pub open_parties-requires : goal.open_parties-requires
open_parties-requires c =
    are_parties c.args.self.now.plain.decks c.args.self.now.plain.links c.args.openings.items _ c.requires.ready c.requires.new
    (ap (λ (bs : List NodeBuffers). length bs) c.deref.ensures.value ∙ c.in_ok-buffers.ensures.buffers.many)

pub settle-requires-clause-can : goal.settle-requires-clause-can
settle-requires-clause-can c =
    all_settle c.args.self.now.plain.decks c.args.self.now.plain.links c.args.self.now.regions c.in_ok-buffers.buffers.items c.in_ok-parties.parties.items (map opening_of c.args.openings.items) c.in_ok-buffers.ensures.buffers c.in_ok-parties.ensures.parties c.requires.new
    (rw c.deref.ensures.value at c.in_ok-parties.ensures.opened)

pub settle-requires-clause-empty : goal.settle-requires-clause-empty
settle-requires-clause-empty c = all_empty _ c.in_ok-parties.parties.items c.in_ok-parties.ensures.opened

pub settle-requires-clause-few : goal.settle-requires-clause-few
settle-requires-clause-few c =
    let same = ap (λ (os : List PlainOpening). length os) c.in_ok-parties.ensures.parties in
    let long = length-map c.in_ok-parties.parties.items opened_as in
    let all = length-map c.args.openings.items opening_of in
    omega (arith, same, long, all, c.requires.few)
