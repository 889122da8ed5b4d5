use Rattle.std.proofs.Common.{◌≡◌, ◌∙◌, ℕ, true, List, Option, Some, None, Result, drop, map, ap, sym, subst, rules, arith}
use Rattle.std.proofs.lemmas.Grind.{common_steps}
use Rattle.csp_log.specs.declared.places.LinkKind.TheVariants as carried
use Rattle.csp_scene.specs.declared.limits.TheConstants.{DEFAULT_MTU}
use Rattle.csp_scene.specs.declared.refusal.SceneKind.{SceneKind}
use Rattle.csp_scene.specs.Arguments.{word_at}
use Rattle.csp_scene.specs.Naming.{router_named}
use Rattle.csp_scene.specs.Sketch.{PlainSketch}
use Rattle.csp_scene.specs.Joining.{all_named, state_between}
use Rattle.csp_scene.specs.Kept.{Judged}
use Rattle.csp_scene.proofs.sketch.Sketch.state_hub.Goals as goal

pub returns-in-Some-clause-answer : goal.returns-in-Some-clause-answer
returns-in-Some-clause-answer c =
    let words : List (List ℕ) = map (λ word. word.now) c.args.args.now in
    let told : List ℕ → Option (List ℕ) → Result PlainSketch SceneKind = λ name found. state_between c.args.self.now name carried.Can true DEFAULT_MTU found in
    let nodes : c.deref.result.now ≡ c.args.self.now.nodes = first_of (search rules, grind (arith, common_steps)) in
    let named : Some c.in-Some.places.items ≡ all_named (map (λ word. router_named word c.args.self.now.nodes) (drop 1 words)) =
    c.in-Some.ensures.value
    ∙ ap (λ ns. all_named (map (λ word. router_named word ns) (map (λ word. word.now) c.past.result.now))) nodes
    ∙ ap (λ ws. all_named (map (λ word. router_named word c.args.self.now.nodes) ws)) c.past.ensures in
    subst (Judged c.state_between.result c.state_between.new.self)
    (ap (λ name. told name (Some c.deref-in-Some.result.now)) c.name_at-name.ensures.value
    ∙ ap (λ items. told (word_at words 0) (Some items)) c.deref-in-Some.ensures.0
    ∙ ap (told (word_at words 0)) named) c.state_between.ensures.answer

pub returns-in-None-clause-answer : goal.returns-in-None-clause-answer
returns-in-None-clause-answer c =
    let words : List (List ℕ) = map (λ word. word.now) c.args.args.now in
    let told : Option (List ℕ) → Result PlainSketch SceneKind = λ found. state_between c.args.self.now (word_at words 0) carried.Can true DEFAULT_MTU found in
    let nodes : c.deref.result.now ≡ c.args.self.now.nodes = first_of (search rules, grind (arith, common_steps)) in
    let named : None ≡ all_named (map (λ word. router_named word c.args.self.now.nodes) (drop 1 words)) =
    c.in-None.ensures.value
    ∙ ap (λ ns. all_named (map (λ word. router_named word ns) (map (λ word. word.now) c.past.result.now))) nodes
    ∙ ap (λ ws. all_named (map (λ word. router_named word c.args.self.now.nodes) ws)) c.past.ensures in
    ap told (sym named)
