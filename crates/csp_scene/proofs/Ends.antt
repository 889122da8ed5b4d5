-- The ends of links.
use Rattle.std.proofs.Common.{◌≡◌, ◌≢◌, ℕ, false, List, [], ◌∷◌, length, slice_get, Some, arith, refl}
use Rattle.csp_log.specs.declared.places.End.{End}
use Rattle.csp_scene.specs.Scene.{PlainNode, PlainLink}
use Rattle.csp_scene.specs.Ranges.{AreApart, HasEnds, IsEnd, IsLink}
use Rattle.csp_scene.proofs.Lists.{AllByRecursion-get}

two_of : (ends : List End) → length ends ≡ 2 → AreApart ends → (a : End) × (b : End) × (ends ≡ a ∷ b ∷ []) × (a.node ≢ b.node)
two_of [] count apart = absurd (omega (arith, count))
two_of (a ∷ []) count apart = absurd (omega (arith, count))
two_of (a ∷ b ∷ []) count apart = (a, b, refl, λ same. absurd (omega (arith, apart 0 1 a b refl refl same)))
two_of (a ∷ b ∷ c ∷ more) count apart = absurd (omega (arith, count))

-- each end of a link stands at an interface
pub end_of : (nodes : List PlainNode) (links : List PlainLink) (link : PlainLink) (k : ℕ) (end : End) → IsLink nodes links link → slice_get link.ends k ≡ Some end → IsEnd nodes links link end
end_of nodes links link k end is e = AllByRecursion-get (IsEnd nodes links link) link.ends k end is.ends e

-- a link that is no hub has two ends, at two nodes
pub two_ends : (link : PlainLink) → HasEnds link → link.hub ≡ false → (a : End) × (b : End) × (link.ends ≡ a ∷ b ∷ []) × (a.node ≢ b.node)
two_ends link has single = two_of link.ends (has.pair single) has.apart
