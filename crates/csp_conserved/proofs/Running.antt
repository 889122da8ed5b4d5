-- A party whose every turn keeps the numbers of its buffers keeps them in a run.
use Rattle.std.proofs.Common.{◌≡◌, ℕ, ◌+◌, List, [], ◌∷◌, ap, refl, subst, arith}
use Rattle.std.specs.List.{AllByRecursion}
use Rattle.csp_deck.proofs.Public.{times-append}
use Rattle.csp_deck.specs.Runs.{IsRun, Steps, handed_over, received, state_after, step_after}
use Rattle.csp_deck.specs.Step.{answer_numbers, op_numbers, times}
use Rattle.csp_log.specs.Pictures.{Fits}
use Rattle.csp_log.specs.declared.entry.Entry.{Entry}
use Rattle.csp_log.specs.declared.shown.AnswerShown.{AnswerShown}
use Rattle.csp_log.specs.declared.shown.OpShown.{OpShown}

-- after a turn a party is again such as it is to be, and holds what it held and was brought, less what it handed over
pub record Turns {S : Type 0} (Is : S → Type 0) (holds : S → List ℕ) (s t : S) (o : OpShown) (a : AnswerShown) : Type 0 where
  pub again : Is t
  pub numbers : (k : ℕ) → times k (holds t) + times k (op_numbers o) ≡ times k (holds s) + times k (answer_numbers a)

-- so it does in each turn whose answer comes so
abbrev pub KeepsInTurns : {S : Type 0} → Steps S → (S → Type 0) → (S → List ℕ) → (OpShown → AnswerShown → Type 0) → Type 0
KeepsInTurns {S} p Is holds Comes =
    (s : S) (time : ℕ) (a : AnswerShown) → Is s → Fits (p.asks s time) a → Comes (p.asks s time) a → Turns Is holds s (p.tells (p.asked s time) time a) (p.asks s time) a

pub keeps_in_run : {S : Type 0} (p : Steps S) (Is : S → Type 0) (holds : S → List ℕ) (Comes : OpShown → AnswerShown → Type 0) → KeepsInTurns p Is holds Comes
    → (es : List Entry) (time : ℕ) (s : S) → Is s → IsRun p time s es → AllByRecursion (λ e. Comes e.op e.answer) es
    → (k : ℕ) → times k (holds (state_after p s es)) + times k (handed_over es) ≡ times k (holds s) + times k (received es)
keeps_in_run p Is holds Comes turns [] time s is run comes k = refl
keeps_in_run p Is holds Comes turns (e ∷ es) time s is run comes k =
    let now = turns s e.time e.answer is run.1.fits (subst (λ o. Comes o e.answer) run.1.op comes.0) in
    let later = keeps_in_run p Is holds Comes turns es e.time (step_after p s e) now.again run.2 comes.1 k in
    let gone = times-append k (op_numbers e.op) (handed_over es) in
    let came = times-append k (answer_numbers e.answer) (received es) in
    let same = ap (λ o. times k (op_numbers o)) run.1.op in
    omega (arith, now.numbers k, later, gone, came, same)
