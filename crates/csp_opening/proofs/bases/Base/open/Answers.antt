use Rattle.std.proofs.Common.{List, length, sym, subst, ap, ◌∙◌, arith}
use Rattle.std.specs.List.{range_with_len}
use Rattle.csp_buffer.specs.Memory.{AreAllOf, PlainMemory, fresh_all}
use Rattle.csp_buffer.specs.PlainBuffer.{PlainBuffer}
use Rattle.csp_opening.proofs.Stores.{all_fresh, fresh_long, fresh_numbers}
use Rattle.csp_pool.specs.Hands.{opening_hand}
use Rattle.csp_pool.specs.PlainPool.{numbers}
use Rattle.csp_opening.proofs.bases.Base.open.Goals as goal

pub open-requires-2-clause-some : goal.open-requires-2-clause-some
open-requires-2-clause-some g c =
    let m : PlainMemory = record { region = c.in_ok-store.store.region; count = c.args.count } in
    let is = ap (λ (bs : List PlainBuffer). length bs) c.in_ok-store.ensures.buffers ∙ fresh_long m in
    let some = c.requires.some in
    omega (arith, is, some)

pub open-requires-2-clause-of_it : goal.open-requires-2-clause-of_it
open-requires-2-clause-of_it g c =
    let m : PlainMemory = record { region = c.in_ok-store.store.region; count = c.args.count } in
    subst (AreAllOf c.token.result.name) (sym c.in_ok-store.ensures.buffers) (subst (λ r. AreAllOf r (fresh_all m)) (sym c.token.ensures) (all_fresh m))

pub returns-in-Ok-clause-whole : goal.returns-in-Ok-clause-whole
returns-in-Ok-clause-whole g c =
    let m : PlainMemory = record { region = c.in_ok-store.store.region; count = c.args.count } in
    let ok = c.in-Ok.ensures.ok in
    let store = c.in_ok-store.ensures.store in
    let few = c.requires.room in
    record {
      none = store.1;
      capacity = ok.0 ∙ ap (λ (bs : List PlainBuffer). length bs) c.in_ok-store.ensures.buffers ∙ fresh_long m ∙ sym store.0;
      of_it = ok.1;
      hand = ok.2 ∙ (λ i. opening_hand (c.token.ensures i) ((ap numbers c.in_ok-store.ensures.buffers ∙ fresh_numbers m ∙ ap (range_with_len 0) (sym store.0)) i));
      room = (let a = store.0 in let b = store.2 in omega (arith, few, a, b));
    }
