use Rattle.std.proofs.Common.{◌≡◌, ◌∙◌, ◌+◌, ◌≤◌, List, [], ◌∷◌, ◌++◌, ap, arith, length, length-append}
use Rattle.csp_app.specs.PlainStep.{bytes_of}
use Rattle.csp_app.specs.Placing.{plain_step, part}
use Rattle.csp_app.specs.declared.placed.Placed.{Placed}
use Rattle.csp_app.proofs.Scripts.{part_added, pushed_is, pushed_within}
use Rattle.csp_app.proofs.script.Script.push.Goals as goal

pub returns : goal.returns
returns c =
    let bytes = c.self.inside.bytes.items in
    let more = c.bytes_of.result.now in
    let added = c.in_ok-place.ensures.added in
    let steps : c.push_reserved.new.self.items ≡ c.self.inside.steps.items ++ c.of.result ∷ [] = c.push_reserved.ensures.items ∙ ap (λ (xs : List Placed). xs ++ c.of.result ∷ []) c.in_ok-reserve.ensures.items in
    let read : part (bytes ++ more) c.in_ok-place.place ≡ bytes_of (plain_step c.args.step.now) = rw added.1 (part_added bytes more ∙ c.bytes_of.ensures) in
    rw (added.0, steps) (pushed_is bytes more c.self.inside.steps.items c.of.result (plain_step c.args.step.now) c.self.invariant (c.of.ensures.value (bytes ++ more) read) ∙ ap (λ xs. xs ++ plain_step c.args.step.now ∷ []) c.self.view_is)

pub invariant_of-self-2 : goal.invariant_of-self-2
invariant_of-self-2 c =
    let bytes = c.self.inside.bytes.items in
    let more = c.bytes_of.result.now in
    let added = c.in_ok-place.ensures.added in
    let steps : c.push_reserved.new.self.items ≡ c.self.inside.steps.items ++ c.of.result ∷ [] = c.push_reserved.ensures.items ∙ ap (λ (xs : List Placed). xs ++ c.of.result ∷ []) c.in_ok-reserve.ensures.items in
    let fits : c.in_ok-place.place.first + c.in_ok-place.place.len ≤ length (bytes ++ more) = rw added.1 (omega (arith, length-append bytes more)) in
    rw (added.0, steps) (pushed_within bytes more c.self.inside.steps.items c.of.result c.self.invariant (c.of.ensures.within (bytes ++ more) fits))
