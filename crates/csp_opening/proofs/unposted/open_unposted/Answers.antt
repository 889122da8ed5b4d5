use Rattle.std.proofs.Common.{List, length, map, sym, ap, ◌∙◌, subst, arith}
use Rattle.std.proofs.lemmas.List.{length-map}
use Rattle.csp_opening.proofs.UnpostedLemmas.{all_empty, all_unposted, as_many_buffers, same_names}
use Rattle.csp_topology.specs.Opened.{AreParties, opened_as}
use Rattle.csp_topology.specs.Opening.{opening_of}
use Rattle.csp_topology.specs.Parties.{PlainOpening}
use Rattle.csp_topology.specs.declared.opened.NodeBuffers.{NodeBuffers}
use Rattle.csp_opening.proofs.unposted.open_unposted.Goals as goal

pub open_parties-requires : goal.open_parties-requires
open_parties-requires c =
    let buffers = c.in_ok-buffers.ensures in
    subst (λ n. AreParties n c.args.openings.items)
    (sym (ap (λ (bs : List NodeBuffers). length bs) c.deref.ensures.value ∙ as_many_buffers c.args.nodes.now c.in_ok-buffers.buffers.items (record { regions = buffers.regions; counts = buffers.counts }))) c.requires

pub desk_all-requires : goal.desk_all-requires
desk_all-requires c = all_empty _ c.in_ok-parties.parties.items c.in_ok-parties.ensures.opened

pub returns : goal.returns
returns c =
    let unposted = c.in_ok-unposted.unposted.items in
    let parties = c.in_ok-parties.parties.items in
    let buffers = c.in_ok-buffers.ensures in
    let many = ap (λ (os : List PlainOpening). length os) c.in_ok-parties.ensures.parties in
    let all = length-map parties opened_as in
    let openings = length-map c.args.openings.items opening_of in
    record {
      names = same_names unposted parties (map opening_of c.args.openings.items) c.in_ok-unposted.ensures.same c.in_ok-parties.ensures.parties;
      each = all_unposted c.args.nodes.now c.in_ok-buffers.buffers.items unposted parties (record { regions = buffers.regions; counts = buffers.counts }) c.in_ok-unposted.ensures.same
          (rw c.deref.ensures.value at c.in_ok-parties.ensures.opened);
      room = omega (arith, c.in_ok-unposted.ensures.room, many, all, openings);
    }
