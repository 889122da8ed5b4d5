use Rattle.std.proofs.Common.{rules, ◌≡◌, List, [], ◌∷◌, ◌++◌, length, sym, refl, subst, ap, ◌∙◌, arith, append-nil, append_assoc, length-append}
use Rattle.std.proofs.lemmas.List.Elements.{All-nil, All-push}
use Rattle.crossbeam_queue.specs.Passes.{view}
use Rattle.csp_buffer.specs.PlainBuffer.{PlainBuffer}
use Rattle.csp_pool.specs.declared.hand.Hand.{Hand}
use Rattle.csp_pool.specs.Hands.{IsLive, took}
use Rattle.csp_pool.proofs.Rules.{takes, empties, took_none, took_more}
use Rattle.csp_pool.proofs.pool.drain.Goals as goal

pub loop-init : goal.loop-init
loop-init g c = (refl, refl, refl, omega arith, refl, ([], sym (append-nil c.args.into.now.items), All-nil (λ (b : PlainBuffer). b.region ≡ (view c.args.pass.now).region), took_none (view c.args.pass.now), refl))

pub pop_as-requires-clause-pop : goal.pop_as-requires-clause-pop
pop_as-requires-clause-pop g c = takes _ _ (subst IsLive (sym c.loop.invariant.5.3) (let one : (view c.args.pass.now).opens ≡ 1 = c.requires.alone.0 in omega arith))

pub pop_as-requires-clause-empty : goal.pop_as-requires-clause-empty
pop_as-requires-clause-empty g c = empties _ _

pub loop-preserved : goal.loop-preserved
loop-preserved g c = let inv = c.loop.invariant.5 in let v : Hand = view c.args.pass.now in let left : List PlainBuffer = inv.0 in let b : PlainBuffer = c.in-Some.buffer in let told = c.in-Some.ensures.rule in (
  search rules,
  search rules,
  search rules,
  search rules,
  search rules,
  (
    left ++ b ∷ [],
    c.push_reserved.ensures.items ∙ ap (λ (l : List PlainBuffer). l ++ b ∷ []) inv.1 ∙ append_assoc c.args.into.now.items left (b ∷ []),
    All-push (λ (x : PlainBuffer). x.region ≡ v.region) left b inv.2 (told.1 ∙ ap (λ (h : Hand). h.region) inv.3),
    told.0 ∙ ap (λ (h : Hand). took h b.picture.number) inv.3 ∙ took_more v left b,
    (let l = length-append left (b ∷ []) in let n : length left ≡ c.loop.counter = inv.4 in omega arith),
  ),
)
