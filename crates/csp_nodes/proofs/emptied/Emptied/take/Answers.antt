use Rattle.std.proofs.Common.{◌≡◌, ◌<◌, ◌≤◌, length, vec_len, vec_capacity, arith, subst, sym, ap, ◌∙◌}
use Rattle.std.proofs.lemmas.List.Elements.{All-push}
use Rattle.csp_buffer.specs.PlainBuffer.{PlainBuffer}
use Rattle.csp_nodes.specs.Emptied.{EmptiedAt}
use Rattle.csp_nodes.proofs.ClosingParts.{back_long}
use Rattle.csp_nodes.proofs.emptied.Emptied.take.Goals as goal

pub push_reserved-requires : goal.push_reserved-requires
push_reserved-requires c =
    let room = subst (λ (e : EmptiedAt). length e.emptied.gathered < e.emptied.pool.room) (sym c.self.view_is) c.requires.room in
    omega (arith, room, back_long c.self.inside.gathered.items, c.self.invariant.room, c.self.inside.gathered.ok.0)

pub invariant_of-self : goal.invariant_of-self
invariant_of-self c = record {
  room = omega (arith, c.self.invariant.room, c.push_reserved.ensures.capacity);
  of_it = rw c.push_reserved.ensures.items (All-push (λ (b : PlainBuffer). b.region ≡ c.self.inside.pool.region) c.self.inside.gathered.items c.args.buffer c.self.invariant.of_it (c.requires.of_it ∙ ap (λ (e : EmptiedAt). e.region) (sym c.self.view_is)));
  region = c.self.invariant.region;
  count = c.self.invariant.count;
}
