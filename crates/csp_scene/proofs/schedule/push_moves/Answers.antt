use Rattle.std.proofs.Common.{◌∷◌, [], ◌++◌, append_assoc, ap, sym, ◌∙◌}
use Rattle.csp_scene.specs.Ranges.{IsMove}
use Rattle.csp_scene.specs.Moves.{move_of}
use Rattle.csp_scene.proofs.Lists.{AllByRecursion-push}
use Rattle.csp_scene.proofs.Moving.{moves_more, all_more, none_fails}
use Rattle.csp_scene.proofs.schedule.push_moves.Goals as goal

pub returns-in_default-clause-unknown : goal.returns-in_default-clause-unknown
returns-in_default-clause-unknown c kind e =
    let none = none_fails (move_of c.args.nodes.now c.args.links.now) c.args.words.now c.loop-word.word-index _ c.loop-word-test.true (sym c.move_of.ensures.value ∙ c.in_default.is) in
    (cc, none)

pub loop-word-preserved : goal.loop-word-preserved
loop-word-preserved c =
    let named = sym c.move_of.ensures.value ∙ c.in-Some.is in
    record {
      moves =
          c.in-Ok.ensures.items ∙ ap (λ ms. ms ++ c.in-Some.next ∷ []) c.loop-word.invariant.moves ∙ append_assoc c.args.moves.now.items _ (c.in-Some.next ∷ [])
          ∙ ap (λ ms. c.args.moves.now.items ++ ms) (sym (moves_more (move_of c.args.nodes.now c.args.links.now) c.args.words.now c.loop-word.word-index _ c.in-Some.next c.loop-word-test.true named));
      all = all_more (move_of c.args.nodes.now c.args.links.now) c.args.words.now c.loop-word.word-index _ c.in-Some.next c.loop-word-test.true named c.loop-word.invariant.all;
      kept = rw c.in-Ok.ensures.items (AllByRecursion-push (IsMove c.args.nodes.now c.args.links.now) c.loop-word.moves.items c.in-Some.next c.loop-word.invariant.kept c.in-Some.ensures.kept);
    }
