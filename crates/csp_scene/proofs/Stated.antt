-- The set of what the faults of a link are of.
use Rattle.std.proofs.Common.{◌≡◌, Bool, true, false, cond, ◌&&◌, ◌||◌, eqb, List, [], ◌∷◌, ◌++◌, refl, ap, sym, ◌∙◌}
use Rattle.std.specs.Ordering.{ordering_then, nat_cmp, is_eq}
use Rattle.std.specs.Cmp.{unsigned_tied}
use Rattle.std.specs.declared.cmp.Ordering.{Ordering}
use Rattle.std.specs.declared.cmp.Ordering.TheVariants.{Less, Equal, Greater}
use Rattle.std.specs.BTreeSet.{BTreeSet, contains}
use Rattle.std.proofs.lemmas.List.Folds.{list_any-append}
use Rattle.csp_link.specs.declared.fault.Fault.{Fault}
use Rattle.csp_scene.specs.declared.links.Stated.{Stated}
use Rattle.csp_scene.specs.contracts.harm.HarmOrd.TheImpl.{ghosts}
use Rattle.csp_scene.specs.declared.harm.Harm.{Harm}
use Rattle.csp_scene.specs.declared.harm.Harm.TheVariants as harm
use Rattle.csp_scene.specs.Faults.{harm_of, is_same_harm, is_same_fault, has_fault}
use Rattle.csp_scene.specs.Stated.{stated_of, stated_cmp, AreStated}

tied : (a b c : Ordering) → is_eq (ordering_then a (ordering_then b c)) ≡ (is_eq a && is_eq b && is_eq c)
tied Less b c = refl
tied Greater b c = refl
tied Equal Less c = refl
tied Equal Greater c = refl
tied Equal Equal c = refl

harm_tied : (one other : Harm) → is_eq (ghosts.cmp one other) ≡ is_same_harm one other
harm_tied harm.Lose harm.Lose = refl
harm_tied harm.Lose harm.Repeat = refl
harm_tied harm.Lose harm.Delay = refl
harm_tied harm.Lose harm.Flip = refl
harm_tied harm.Repeat harm.Lose = refl
harm_tied harm.Repeat harm.Repeat = refl
harm_tied harm.Repeat harm.Delay = refl
harm_tied harm.Repeat harm.Flip = refl
harm_tied harm.Delay harm.Lose = refl
harm_tied harm.Delay harm.Repeat = refl
harm_tied harm.Delay harm.Delay = refl
harm_tied harm.Delay harm.Flip = refl
harm_tied harm.Flip harm.Lose = refl
harm_tied harm.Flip harm.Repeat = refl
harm_tied harm.Flip harm.Delay = refl
harm_tied harm.Flip harm.Flip = refl

same_tied : (fault other : Fault) → is_eq (stated_cmp (stated_of fault) (stated_of other)) ≡ is_same_fault fault other
same_tied fault other =
    let harms = ghosts.cmp (harm_of fault.kind) (harm_of other.kind) in
    tied (nat_cmp fault.frame other.frame) (nat_cmp fault.dir other.dir) harms
    ∙ ap (λ (b : Bool). b && is_eq (nat_cmp fault.dir other.dir) && is_eq harms) (unsigned_tied fault.frame other.frame)
    ∙ ap (λ (b : Bool). eqb fault.frame other.frame && b && is_eq harms) (unsigned_tied fault.dir other.dir)
    ∙ ap (λ (b : Bool). eqb fault.frame other.frame && eqb fault.dir other.dir && b) (harm_tied (harm_of fault.kind) (harm_of other.kind))

one_more : (same before : Bool) → cond same true before ≡ (before || (same || false))
one_more true true = refl
one_more true false = refl
one_more false true = refl
one_more false false = refl

pub AreStated-add : (old new : BTreeSet Stated) (plan : List Fault) (fault : Fault) → AreStated old plan → ((q : Stated) → contains stated_cmp new q ≡ cond (is_eq (stated_cmp (stated_of fault) q)) true (contains stated_cmp old q)) → AreStated new (plan ++ fault ∷ [])
AreStated-add old new plan fault are updates = record {
  each = λ other.
      updates (stated_of other)
      ∙ ap (λ (b : Bool). cond b true (contains stated_cmp old (stated_of other))) (same_tied fault other)
      ∙ ap (λ (b : Bool). cond (is_same_fault fault other) true b) (are.each other)
      ∙ one_more (is_same_fault fault other) (has_fault other plan)
      ∙ sym (list_any-append (λ (one : Fault). is_same_fault one other) plan (fault ∷ []));
}
