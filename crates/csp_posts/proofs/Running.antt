-- A run of a party's steps, and more of it.
use Rattle.std.proofs.Common.{◌≡◌, ℕ, ◌+◌, ◌≤◌, List, [], ◌∷◌, ◌++◌, refl, sym, ap, ◌∙◌, subst, arith}
use Rattle.std.specs.List.{AllByRecursion}
use Rattle.std.proofs.lemmas.Grind.{flat_map-append}
use Rattle.csp_deck.proofs.Public.{times-append}
use Rattle.csp_deck.specs.Runs.{Steps, IsRun, step_after, state_after, last_time, handed_over, received}
use Rattle.csp_deck.specs.Step.{times, op_numbers, answer_numbers}
use Rattle.csp_log.specs.Pictures.{Fits}
use Rattle.csp_log.specs.declared.entry.Entry.{Entry}

-- the state after two parts of a log
pub state_joined : {S : Type 0} (p : Steps S) (s : S) (es more : List Entry) → state_after p s (es ++ more) ≡ state_after p (state_after p s es) more
state_joined p s [] more = refl
state_joined p s (x ∷ es) more = state_joined p (step_after p s x) es more

-- a run that begins no earlier
run_from : {S : Type 0} (p : Steps S) (first time : ℕ) (s : S) (es : List Entry) → first ≤ time → IsRun p time s es → IsRun p first s es
run_from p first time s [] less run = tt
run_from p first time s (x ∷ es) less run = (let late = run.0 in omega (arith, less, late), run.1, run.2)

-- two runs, one after the other
pub run_joined : {S : Type 0} (p : Steps S) (first time : ℕ) (s : S) (es more : List Entry) → IsRun p first s es → last_time first es ≤ time → IsRun p time (state_after p s es) more
    → IsRun p first s (es ++ more)
run_joined p first time s [] more run less next = run_from p first time s more less next
run_joined p first time s (x ∷ es) more run less next = (run.0, run.1, run_joined p x.time time (step_after p s x) es more run.2 less next)

-- the last time of turns that are all at one
pub last_at : (first time : ℕ) (es : List Entry) → first ≤ time → AllByRecursion (λ e. e.time ≡ time) es → last_time first es ≤ time
last_at first time [] less at = less
last_at first time (x ∷ es) less at = last_at x.time time es (let same = at.0 in omega (arith, same)) at.1

pub last_joined : (first : ℕ) (es more : List Entry) → last_time first (es ++ more) ≡ last_time (last_time first es) more
last_joined first [] more = refl
last_joined first (x ∷ es) more = last_joined x.time es more

-- the answers of a run fit what was asked
pub run_fits : {S : Type 0} (p : Steps S) (first : ℕ) (s : S) (es : List Entry) → IsRun p first s es → AllByRecursion (λ e. Fits e.op e.answer) es
run_fits p first s [] run = tt
run_fits p first s (x ∷ es) run = (subst (λ o. Fits o x.answer) (sym run.1.op) run.1.fits, run_fits p x.time (step_after p s x) es run.2)

-- what two parts of a log handed over, and what came in them
pub handed_joined : (k : ℕ) (es more : List Entry) → times k (handed_over (es ++ more)) ≡ times k (handed_over es) + times k (handed_over more)
handed_joined k es more = ap (times k) (flat_map-append (λ e. op_numbers e.op) es more) ∙ times-append k (handed_over es) (handed_over more)

pub received_joined : (k : ℕ) (es more : List Entry) → times k (received (es ++ more)) ≡ times k (received es) + times k (received more)
received_joined k es more = ap (times k) (flat_map-append (λ e. answer_numbers e.answer) es more) ∙ times-append k (received es) (received more)
