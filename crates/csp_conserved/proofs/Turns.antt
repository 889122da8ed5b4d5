-- What a turn and a log hand over, and what comes: given and put, taken and got; what was refused came back.
use Rattle.std.proofs.Common.{◌≡◌, ℕ, ◌+◌, List, [], ◌∷◌, ◌++◌, refl, sym, ap, ◌∙◌, subst, arith}
use Rattle.std.specs.List.{flat_map}
use Rattle.std.proofs.lemmas.Grind.{flat_map-append}
use Rattle.csp_conserved.specs.Kept.{KeepsNumbers}
use Rattle.csp_consistent.specs.Pools.{given, given_by, held_after, taken, taken_by}
use Rattle.csp_consistent.specs.Runs.{IsLogOf}
use Rattle.csp_deck.proofs.Public.{times-append}
use Rattle.csp_deck.specs.Runs.{IsRun, Steps, handed_over, received, step_after}
use Rattle.csp_deck.specs.Step.{answer_numbers, item_numbers, op_numbers, times}
use Rattle.csp_log.specs.Pictures.{Fits}
use Rattle.csp_log.specs.declared.entry.Entry.{Entry}
use Rattle.csp_log.specs.declared.shown.AnswerShown.{AnswerShown}
use Rattle.csp_log.specs.declared.shown.AnswerShown.TheVariants as answer
use Rattle.csp_log.specs.declared.shown.OpShown.{OpShown}
use Rattle.csp_log.specs.declared.shown.OpShown.TheVariants as op
use Rattle.csp_party.specs.Any.{holds}
use Rattle.csp_record.specs.Record.{PlainPartyLog}
use Rattle.csp_topology.specs.Parties.{PlainOpening, party_steps}

-- the numbers that a turn put into any queue, and those that it got from any
abbrev pub put_numbers : OpShown → AnswerShown → List ℕ
put_numbers (op.Push q i) answer.Pushed = item_numbers i
put_numbers _ _ = []

abbrev pub got_numbers : OpShown → AnswerShown → List ℕ
got_numbers (op.Pop q) (answer.Popped i) = item_numbers i
got_numbers _ _ = []

abbrev pub all_put : List Entry → List ℕ
all_put es = flat_map (λ e. put_numbers e.op e.answer) es

abbrev pub all_got : List Entry → List ℕ
all_got es = flat_map (λ e. got_numbers e.op e.answer) es

-- how often a number is among what entries give
pub entry_more : (k : ℕ) (g : Entry → List ℕ) (e : Entry) (es : List Entry) → times k (flat_map g (e ∷ es)) ≡ times k (g e) + times k (flat_map g es)
entry_more k g e es = times-append k (g e) (flat_map g es)

pub entries_more : (k : ℕ) (g : Entry → List ℕ) (es fs : List Entry) → times k (flat_map g (es ++ fs)) ≡ times k (flat_map g es) + times k (flat_map g fs)
entries_more k g es fs = ap (times k) (flat_map-append g es fs) ∙ times-append k (flat_map g es) (flat_map g fs)

-- what came back from a full pool or queue is what was handed over
turn_balanced : (k : ℕ) (o : OpShown) (a : AnswerShown) → Fits o a
    → times k (op_numbers o) + times k (taken_by a) + times k (got_numbers o a) ≡ times k (answer_numbers a) + times k (given_by o a) + times k (put_numbers o a)
turn_balanced k op.Nothing answer.Nothing fits = refl
turn_balanced k op.Take (answer.Taken b) fits = omega arith
turn_balanced k op.Take answer.NoBuffer fits = refl
turn_balanced k (op.Give b) answer.Given fits = omega arith
turn_balanced k (op.Give b) (answer.PoolFull back) fits = let same = ap (λ c. times k (c.number ∷ [])) fits in omega (arith, same)
turn_balanced k (op.Push q i) answer.Pushed fits = omega arith
turn_balanced k (op.Push q i) (answer.Full back) fits = let same = ap (λ j. times k (item_numbers j)) fits in omega (arith, same)
turn_balanced k (op.Pop q) (answer.Popped i) fits = omega arith
turn_balanced k (op.Pop q) answer.Empty fits = refl
turn_balanced k _ _ fits = absurd fits

run_balanced : {S : Type 0} (p : Steps S) (k time : ℕ) (s : S) (es : List Entry) → IsRun p time s es
    → times k (handed_over es) + times k (taken es) + times k (all_got es) ≡ times k (received es) + times k (given es) + times k (all_put es)
run_balanced p k time s [] run = refl
run_balanced p k time s (e ∷ es) run =
    omega (
      arith,
      turn_balanced k e.op e.answer (subst (λ o. Fits o e.answer) (sym run.1.op) run.1.fits),
      run_balanced p k e.time (step_after p s e) es run.2,
      entry_more k (λ (x : Entry). op_numbers x.op) e es,
      entry_more k (λ (x : Entry). taken_by x.answer) e es,
      entry_more k (λ (x : Entry). got_numbers x.op x.answer) e es,
      entry_more k (λ (x : Entry). answer_numbers x.answer) e es,
      entry_more k (λ (x : Entry). given_by x.op x.answer) e es,
      entry_more k (λ (x : Entry). put_numbers x.op x.answer) e es,
    )

-- so a party that held nothing at first holds what it took and got, less what it gave and put
pub log_balanced : (k : ℕ) (o : PlainOpening) (log : PlainPartyLog) → IsLogOf o log → KeepsNumbers o.party log.entries → holds o.party ≡ []
    → times k (held_after o log) + times k (given log.entries) + times k (all_put log.entries) ≡ times k (taken log.entries) + times k (all_got log.entries)
log_balanced k o log is keeps none = omega (arith, run_balanced party_steps k 0 o.party log.entries is.run, keeps k, ap (times k) none)
