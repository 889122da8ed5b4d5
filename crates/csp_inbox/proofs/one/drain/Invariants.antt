use Rattle.std.proofs.Common.{◌≡◌, ◌+◌, ◌≤◌, length, vec_len, vec_capacity}
use Rattle.crossbeam_queue.specs.Passes.{view}
use Rattle.csp_inbox.specs.Sorts.{Takes}
use Rattle.csp_ring.specs.Passes.{IsPassOf, ring_capacity}
use Rattle.csp_inbox.proofs.one.drain.Given as goal

abbrev pub invariant-loop : goal.invariant-loop
invariant-loop g l = record {
  port : IsPassOf l.queue l.port;
  draws : Takes (view l.fn.port) (view l.port) l.fn.into.items l.into.items;
  got : length (view l.port).mail.got ≡ length (view l.fn.port).mail.got + l.counter;
  all : length (view l.fn.port).mail.kept ≡ length (view l.fn.port).mail.got + l.count;
  fits : l.count ≤ ring_capacity l.queue;
  len : vec_len l.into ≡ vec_len l.fn.into + l.counter;
  room : vec_capacity l.into ≡ vec_capacity l.fn.into;
}
