use Rattle.std.proofs.Common.{◌≡◌, take, vec_len, vec_capacity}
use Rattle.csp_pool.specs.PlainPool.{numbers}
use Rattle.csp_ending.proofs.store.numbers_between.Given as goal

abbrev pub invariant-loop-buffer : goal.invariant-loop-buffer
invariant-loop-buffer l = record {
  items : l.into.items ≡ numbers (take l.buffer-index l.rest);
  len : vec_len l.into ≡ l.buffer-index;
  capacity : vec_capacity l.into ≡ vec_capacity l.fn.into;
}
