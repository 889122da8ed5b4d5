use Rattle.std.proofs.Common.{List, ℕ, [], ◌∷◌, ◌++◌, sym, ap, subst, ◌∙◌, append_assoc}
use Rattle.csp_kiss.specs.declared.TheConstants.{FEND}
use Rattle.csp_tap.specs.Fed.{HasFed}
use Rattle.csp_tap.proofs.tap.Tap.bytes.Goals as goal

pub loop-part-preserved : goal.loop-part-preserved
loop-part-preserved c =
    let before = c.loop-part.invariant in
    let part : List ℕ = c.in-Some.part.now in
    let more : List ℕ = part ++ FEND ∷ [] in
    let left : List ℕ = c.in-Some.left.now in (
      before.0 ++ more,
      append_assoc before.0 more left ∙ ap (λ rest. before.0 ++ rest) (append_assoc part (FEND ∷ []) left ∙ sym c.in-Some.ensures.whole) ∙ before.1,
      λ cover stream h. subst (λ s. HasFed cover s c.end_piece.new.self)
          (append_assoc (stream ++ before.0) part (FEND ∷ []) ∙ append_assoc stream before.0 more)
          (c.in_ok-end_piece.ensures cover ((stream ++ before.0) ++ part) (c.go_through.ensures cover (stream ++ before.0) (before.2 cover stream h))),
    )
