use Rattle.std.proofs.Common.{◌≡◌, List, [], ◌∷◌, ◌++◌, length, refl, ap, ◌∙◌, arith}
use Rattle.csp_base.specs.declared.priority.Prio.{Prio}
use Rattle.csp_base.specs.declared.priority.Prio.TheVariants.{Critical, High, Normal, Low}
use Rattle.csp_log.specs.declared.item.Item.{Item}
use Rattle.csp_ending.proofs.inbox.InboxRoom.close.Goals as goal

pub destroy_empty-requires : goal.destroy_empty-requires
destroy_empty-requires g c =
    let h = c.close.ensures in
    let all : c.close.new.into.items ≡ [] = h.appended ∙ (λ i. c.self.invariant.0 i ++ none Critical i ++ none High i ++ none Normal i ++ none Low i) in
    let many = ap (λ (items : List Item). length items) all in
    let ok = c.close.new.into.ok.0 in
    omega (arith, many, ok) where
      empty : (items : List Item) → length items ≡ 0 → items ≡ []
      empty [] e = refl
      empty (x ∷ xs) e = absurd (omega (arith, e))

      none : (p : Prio) → c.close.ensures.left p ≡ []
      none p =
          let many = (c.close.ensures.each p).counted in
          let kept = ap (λ xs. length xs) (c.requires.unused p) in
          empty (c.close.ensures.left p) (omega (arith, many, kept))
