-- looks into queues, one after the other, that are empty
use Rattle.std.specs.Prelude.{◌≡◌, ℕ, false, List, [], ◌∷◌}
use Rattle.csp_deck.specs.Runs.{Steps}
use Rattle.csp_log.specs.declared.places.QueueId.{QueueId}
use Rattle.csp_log.specs.declared.shown.AnswerShown.TheVariants as answer
use Rattle.csp_log.specs.declared.shown.OpShown.TheVariants as op

-- the state after a turn in which a look found its queue empty
abbrev pub state_missed : {S : Type 0} → Steps S → ℕ → S → S
state_missed p now s = p.tells (p.asked s now) now answer.Empty

-- a turn at this time looks into this queue, and where that is empty it reports nothing
pub record IsLook {S : Type 0} (p : Steps S) (now : ℕ) (s : S) (q : QueueId) : Type 0 where
  pub goes_on : p.has_ended s ≡ false
  pub asks : p.asks s now ≡ op.Pop q
  pub events : p.events (p.asked s now) now answer.Empty ≡ []

-- the turns from this state on look into these queues one after the other, and where all are empty they lead to that state
abbrev pub LooksInto : {S : Type 0} → Steps S → ℕ → S → List QueueId → S → Type 0
LooksInto p now s [] t = s ≡ t
LooksInto p now s (q ∷ qs) t = IsLook p now s q × LooksInto p now (state_missed p now s) qs t
