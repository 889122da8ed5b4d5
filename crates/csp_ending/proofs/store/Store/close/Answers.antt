use Rattle.std.proofs.Common.{◌≡◌, List, length, sym, subst, ap, ◌∙◌}
use Rattle.csp_buffer.specs.Memory.{PlainMemory, AreAllOf, fresh_all}
use Rattle.csp_buffer.specs.PlainBuffer.{PlainBuffer}
use Rattle.csp_ending.proofs.Stores.{all_fresh, fresh_long}
use Rattle.csp_ending.proofs.store.Store.close.Goals as goal

pub close-requires-clause-count : goal.close-requires-clause-count
close-requires-clause-count c =
    let m : PlainMemory = record { region = c.self.inside.memory.region; count = c.self.inside.memory.count } in
    let all : c.args.buffers.items ≡ fresh_all m = rw (← c.self.view_is) at c.requires.all in
    ap (λ (bs : List PlainBuffer). length bs) all ∙ fresh_long m

pub close-requires-clause-of_it : goal.close-requires-clause-of_it
close-requires-clause-of_it c =
    let m : PlainMemory = record { region = c.self.inside.memory.region; count = c.self.inside.memory.count } in
    let all : c.args.buffers.items ≡ fresh_all m = rw (← c.self.view_is) at c.requires.all in
    subst (AreAllOf c.self.inside.memory.region) (sym all) (all_fresh m)
