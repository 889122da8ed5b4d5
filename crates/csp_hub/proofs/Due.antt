-- frames that are due
use Rattle.std.proofs.Common.{ℕ, ◌+◌, true, false, cond, List, [], ◌∷◌, Some}
use Rattle.std.specs.List.{find, enumerate_from}
use Rattle.std.specs.Prelude.{nat_le, IfSome}
use Rattle.std.proofs.lemmas.List.Elements.{All-head, All-tail}
use Rattle.csp_link.specs.Holding.{first_due}
use Rattle.csp_link.specs.Room.{AreCarried}
use Rattle.csp_link.specs.declared.held.Held.{Held}
use Rattle.csp_link.proofs.Public.{IsFrameOf}
use Rattle.csp_log.specs.declared.places.LinkKind.TheVariants as kind

due_from : (now n : ℕ) (held : List Held) → AreCarried kind.Can held → IfSome (find (λ p. nat_le p.1.due now) (enumerate_from n held)) (λ p. IsFrameOf kind.Can p.1.frame)
due_from now n [] all = tt
due_from now n (h ∷ hs) all =
    let P : Held → Type 0 = λ h. IsFrameOf kind.Can h.frame in
    let rest = find (λ p. nat_le p.1.due now) (enumerate_from (n + 1) hs) in
    elim (nat_le h.due now) as (λ b. IfSome (cond b (Some (n, h)) rest) (λ p. IsFrameOf kind.Can p.1.frame)) [
      | true ↦ All-head P h hs all
      | false ↦ due_from now (n + 1) hs (All-tail P h hs all)
    ]

-- what a CAN bus carries of every held frame it carries of the first that is due
pub due_carried : (now : ℕ) (held : List Held) → AreCarried kind.Can held → IfSome (first_due now held) (λ p. IsFrameOf kind.Can p.1.frame)
due_carried now held all = due_from now 0 held all
