use Rattle.std.proofs.Common.{◌≤◌, ◌++◌, [], ◌∷◌, arith, ap, ◌∙◌, length, map}
use Rattle.std.proofs.lemmas.List.{map-append}
use Rattle.std.proofs.lemmas.List.Elements.{All-head, All-rest}
use Rattle.csp_lists.specs.Gathered.{queued_numbers}
use Rattle.csp_lists.specs.PlainDeck.{PlainDeck}
use Rattle.csp_nodes.specs.Emptied.{EmptiedAt, emptied_in}
use Rattle.csp_nodes.specs.Seeing.{decks_of}
use Rattle.csp_nodes.proofs.ClosingParts.{moved, queues_next}
use Rattle.csp_nodes.proofs.decks.empty_queues.Goals as goal

pub gather-requires-clause-few : goal.gather-requires-clause-few
gather-requires-clause-few c = All-head (λ (d : PlainDeck). length (queued_numbers d) ≤ d.pool.room) c.in-Some.node.deck (decks_of c.pop_front.new.self.items) (rw c.in-Some.ensures.items at c.loop-node.invariant.fits)

pub loop-node-preserved : goal.loop-node-preserved
loop-node-preserved c =
    let first = c.in-Some.ensures.items in
    let queues = queues_next c.in-Some.node.deck _ _ (ap decks_of first) in
    let before = c.loop-node.invariant in
    let done = c.gather.ensures in
    let pushed = c.push_reserved.ensures in
    let len = rw first at before.count in
    let room = rw first at before.emptied_room in
    record {
      emptied = moved _ _ _ _ _
          (ap emptied_in pushed.items ∙ map-append (λ (e : EmptiedAt). e.emptied) c.loop-node.emptied.items (c.gather.result ∷ []) ∙ ap (λ (e : EmptiedAt). emptied_in c.loop-node.emptied.items ++ e.emptied ∷ []) done.emptied)
          (rw first at before.emptied);
      regions = moved _ _ _ _ _
          (ap (map (λ (e : EmptiedAt). e.region)) pushed.items ∙ map-append (λ (e : EmptiedAt). e.region) c.loop-node.emptied.items (c.gather.result ∷ []) ∙ ap (λ (e : EmptiedAt). map (λ (e : EmptiedAt). e.region) c.loop-node.emptied.items ++ e.region ∷ []) done.emptied)
          (rw first at before.regions);
      left = moved _ _ _ _ _ done.left (rw first at before.left);
      held = moved _ _ _ _ _ done.held (rw first at before.held);
      count = omega (arith, len);
      fits = All-rest (λ d. length (queued_numbers d) ≤ d.pool.room) c.in-Some.node.deck _ _ (ap decks_of first) before.fits;
      emptied_room = omega (arith, room, pushed.len, pushed.capacity);
      left_room = omega (arith, queues, before.left_room, done.left_len, done.left_capacity);
      held_len = omega (arith, queues, before.held_len, done.held_len);
      held_room = omega (arith, queues, before.held_room, done.held_len, done.held_capacity);
      capacity = omega (arith, before.capacity, done.held_capacity);
    }
