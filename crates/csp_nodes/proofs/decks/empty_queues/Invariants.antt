use Rattle.std.proofs.Common.{◌≡◌, ◌+◌, ◌≤◌, ◌++◌, All, length, map, vec_len, vec_capacity}
use Rattle.csp_lists.specs.Gathered.{queued_numbers}
use Rattle.csp_nodes.specs.Emptied.{emptied_in}
use Rattle.csp_nodes.specs.Seeing.{decks_of, regions_of}
use Rattle.csp_nodes.specs.Gathering.{queue_count}
use Rattle.csp_nodes.specs.Gathering.{all_left, queues_held}
use Rattle.csp_nodes.proofs.ClosingParts.{emptied_of}
use Rattle.csp_nodes.proofs.decks.empty_queues.Given as goal

abbrev pub invariant-loop-node : goal.invariant-loop-node
invariant-loop-node l = record {
  emptied : emptied_in l.emptied.items ++ map emptied_of (decks_of l.nodes.items) ≡ emptied_in l.fn.emptied.items ++ map emptied_of (decks_of l.fn.nodes.items);
  regions : map (λ e. e.region) l.emptied.items ++ regions_of l.nodes.items ≡ map (λ e. e.region) l.fn.emptied.items ++ regions_of l.fn.nodes.items;
  left : l.left.items ++ all_left l.place (decks_of l.nodes.items) ≡ l.fn.left.items ++ all_left 0 (decks_of l.fn.nodes.items);
  held : l.held.items ++ queues_held l.place (decks_of l.nodes.items) ≡ l.fn.held.items ++ queues_held 0 (decks_of l.fn.nodes.items);
  count : l.place + length l.nodes.items ≡ length l.fn.nodes.items;
  fits : All (λ d. length (queued_numbers d) ≤ d.pool.room) (decks_of l.nodes.items);
  emptied_room : vec_len l.emptied + length l.nodes.items ≤ vec_capacity l.emptied;
  left_room : vec_len l.left + queue_count (decks_of l.nodes.items) ≤ vec_capacity l.left;
  held_len : vec_len l.held + queue_count (decks_of l.nodes.items) ≡ vec_len l.fn.held + queue_count (decks_of l.fn.nodes.items);
  held_room : vec_len l.held + queue_count (decks_of l.nodes.items) ≤ vec_capacity l.held;
  capacity : vec_capacity l.held ≡ vec_capacity l.fn.held;
}

abbrev pub decreases-loop-node : goal.decreases-loop-node
decreases-loop-node l = length l.nodes.items
