-- a party looks into the same queues whatever type it has
use Rattle.std.proofs.Common.{◌≡◌, ℕ, Bool, List, [], ◌∷◌, ap, sym, ◌∙◌, subst}
use Rattle.csp_deck.specs.Circles.{LooksInto, state_missed}
use Rattle.csp_deck.specs.Runs.{Steps}
use Rattle.csp_log.specs.declared.places.QueueId.{QueueId}
use Rattle.csp_log.specs.declared.shown.AnswerShown.TheVariants as answer

-- the steps of a party, and those of the same party as another type
pub record AreSame {S T : Type 0} (p : Steps S) (r : Steps T) (wrap : S → T) (now : ℕ) : Type 0 where
  pub has_ended : (s : S) → r.has_ended (wrap s) ≡ p.has_ended s
  pub asks : (s : S) → r.asks (wrap s) now ≡ p.asks s now
  pub events : (s : S) → r.events (r.asked (wrap s) now) now answer.Empty ≡ p.events (p.asked s now) now answer.Empty
  pub missed : (s : S) → state_missed r now (wrap s) ≡ wrap (state_missed p now s)

pub same_looks : {S T : Type 0} (p : Steps S) (r : Steps T) (wrap : S → T) (now : ℕ) → AreSame p r wrap now → (qs : List QueueId) (s t : S) → LooksInto p now s qs t → LooksInto r now (wrap s) qs (wrap t)
same_looks p r wrap now same [] s t e = ap wrap e
same_looks p r wrap now same (q ∷ qs) s t (look, rest) = (
  record {
    goes_on = same.has_ended s ∙ look.goes_on;
    asks = same.asks s ∙ look.asks;
    events = same.events s ∙ look.events;
  },
  subst (λ u. LooksInto r now u qs (wrap t)) (sym (same.missed s)) (same_looks p r wrap now same qs (state_missed p now s) t rest),
)
