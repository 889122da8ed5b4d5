-- The order of prefixes is total, and only equal prefixes tie.
use Rattle.std.proofs.Common.{◌≡◌, refl}
use Rattle.std.specs.Ordering.{ordering_then, nat_cmp}
use Rattle.std.specs.declared.cmp.Ordering.{Ordering}
use Rattle.std.specs.declared.cmp.Ordering.TheVariants.{Less, Equal, Greater}
use Rattle.std.specs.Cmp.{IsTotalOrder, then_total, on_total, nat_cmp_total}
use Rattle.std.specs.FinMap.{IsAntisymmetric, nat_cmp-IsAntisymmetric}
use Rattle.csp_route.specs.declared.prefix.Prefix.{Prefix}
use Rattle.csp_route.specs.Prefix.{prefix_cmp}

pub prefix_total : IsTotalOrder prefix_cmp
prefix_total = then_total (on_total (λ (p : Prefix). p.addr) nat_cmp_total) (on_total (λ (p : Prefix). p.mask) nat_cmp_total)

-- where both answers in a row tie
both_tie : (a b : Ordering) → ordering_then a b ≡ Equal → (a ≡ Equal) × (b ≡ Equal)
both_tie Less b e = absurd (cc)
both_tie Equal b e = (refl, e)
both_tie Greater b e = absurd (cc)

pub prefix_apart : IsAntisymmetric prefix_cmp
prefix_apart p q e =
    let ties : (nat_cmp p.addr q.addr ≡ Equal) × (nat_cmp p.mask q.mask ≡ Equal) = both_tie _ _ e in
    let addrs = nat_cmp-IsAntisymmetric p.addr q.addr ties.0 in
    let masks = nat_cmp-IsAntisymmetric p.mask q.mask ties.1 in
    λ i. record { addr = addrs i; mask = masks i }
