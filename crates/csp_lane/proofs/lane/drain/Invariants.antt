use Rattle.std.proofs.Common.{◌≡◌, ◌+◌, ◌≤◌, length, vec_len, vec_capacity}
use Rattle.crossbeam_queue.specs.Passes.{view, IsPassOf, ruled_capacity}
use Rattle.csp_lane.specs.Relays.{Takes}
use Rattle.csp_lane.proofs.lane.drain.Given as goal

abbrev pub invariant-loop : goal.invariant-loop
invariant-loop g l = record {
  pass : IsPassOf l.queue l.pass;
  draws : Takes (view l.fn.pass) (view l.pass) l.fn.into.items l.into.items;
  got : length (view l.pass).got.items ≡ length (view l.fn.pass).got.items + l.counter;
  all : length (view l.fn.pass).put.items ≡ length (view l.fn.pass).got.items + l.count;
  fits : l.count ≤ ruled_capacity l.queue;
  len : vec_len l.into ≡ vec_len l.fn.into + l.counter;
  room : vec_capacity l.into ≡ vec_capacity l.fn.into;
}
