use Rattle.std.proofs.Common.{◌≡◌, ◌+◌, ◌≤◌, ◌++◌, length, vec_len, vec_capacity}
use Rattle.csp_ending.specs.Stores.{HasRoom}
use Rattle.csp_party.specs.Any.{holds, plain, region_of}
use Rattle.csp_closing.proofs.parties.drain.Given as goal

abbrev pub invariant-loop-buffer : goal.invariant-loop-buffer
invariant-loop-buffer l = record {
  noted : l.numbers.items ++ holds (plain l.party) ≡ l.fn.numbers.items ++ holds (plain l.fn.party);
  back : l.store.numbers ++ holds (plain l.party) ≡ l.fn.store.numbers ++ holds (plain l.fn.party);
  numbers_room : vec_len l.numbers + length (holds (plain l.party)) ≤ vec_capacity l.numbers;
  store_room : HasRoom l.store (length (holds (plain l.party)));
  region : region_of l.party ≡ l.store.region;
  store_region : l.store.region ≡ l.fn.store.region;
  count : l.store.count ≡ l.fn.store.count;
  room : l.store.room ≡ l.fn.store.room;
}

abbrev pub decreases-loop-buffer : goal.decreases-loop-buffer
decreases-loop-buffer l = length (holds (plain l.party))
