-- a run of a party's steps with one turn more
use Rattle.std.proofs.Common.{◌≡◌, ℕ, ◌+◌, ◌≤◌, false, cond, eqb, List, [], ◌∷◌, ◌++◌, refl, ap, ◌∙◌, arith}
use Rattle.std.specs.List.{flat_map}
use Rattle.std.proofs.lemmas.Grind.{flat_map-append}
use Rattle.std.proofs.lemmas.List.{append-nil}
use Rattle.std.proofs.lemmas.List.Sums.{sum_by-append}
use Rattle.csp_deck.specs.Runs.{Steps, IsStep, IsRun, IsKept, step_after, state_after, last_time, handed_over, received}
use Rattle.csp_log.specs.Pictures.{Fits}
use Rattle.csp_deck.specs.Step.{entry_of, times, op_numbers, answer_numbers}
use Rattle.csp_log.specs.declared.entry.Entry.{Entry}
use Rattle.csp_log.specs.declared.event.Event.{Event}
use Rattle.csp_log.specs.declared.shown.OpShown.{OpShown}
use Rattle.csp_log.specs.declared.shown.AnswerShown.{AnswerShown}

-- how often a number is in two lists, one after the other
pub times-append : (k : ℕ) (xs ys : List ℕ) → times k (xs ++ ys) ≡ times k xs + times k ys
times-append k xs ys = sum_by-append (λ n. cond (eqb n k) 1 0) xs ys

flat_map-push : (f : Entry → List ℕ) (es : List Entry) (e : Entry) → flat_map f (es ++ e ∷ []) ≡ flat_map f es ++ f e
flat_map-push f es e = rw (flat_map-append f es (e ∷ []), append-nil (f e)) refl

module _ {S : Type 0} (p : Steps S) where
  -- the state after one more entry
  state_after-push : (s : S) (es : List Entry) (e : Entry) → state_after p s (es ++ e ∷ []) ≡ step_after p (state_after p s es) e
  state_after-push s [] e = refl
  state_after-push s (x ∷ es) e = state_after-push (step_after p s x) es e

  -- a run and one more step are a run
  IsRun-push : (time : ℕ) (s : S) (es : List Entry) (e : Entry) → IsRun p time s es → last_time time es ≤ e.time → IsStep p (state_after p s es) e → IsRun p time s (es ++ e ∷ [])
  IsRun-push time s [] e run late step = (late, step, tt)
  IsRun-push time s (x ∷ es) e run late step = (run.0, run.1, IsRun-push x.time (step_after p s x) es e run.2 late step)

  -- the state after the turn of an entry
  step_after-entry_of : (s : S) (time : ℕ) (o : OpShown) (a : AnswerShown) (events : List Event) → step_after p s (entry_of time o a events) ≡ p.tells (p.asked s time) time a
  step_after-entry_of s time o a events = refl

  -- the entry of a turn is that of a step
  IsStep-entry_of : (s : S) (time : ℕ) (a : AnswerShown) → p.has_ended s ≡ false → Fits (p.asks s time) a → IsStep p s (entry_of time (p.asks s time) a (p.events (p.asked s time) time a))
  IsStep-entry_of s time a goes_on fits = record {
    goes_on = goes_on;
    op = refl;
    fits = fits;
    events = refl;
  }

  -- what is kept with one turn more
  pub IsKept-push : (holds : S → List ℕ) (opening s : S) (es : List Entry) (time : ℕ) (a : AnswerShown)
      → last_time 0 es ≤ time → p.has_ended s ≡ false → Fits (p.asks s time) a
      → ((k : ℕ) → times k (holds (p.tells (p.asked s time) time a)) + times k (op_numbers (p.asks s time)) ≡ times k (holds s) + times k (answer_numbers a))
      → IsKept p holds opening es s
      → IsKept p holds opening (es ++ entry_of time (p.asks s time) a (p.events (p.asked s time) time a) ∷ []) (p.tells (p.asked s time) time a)
  IsKept-push holds opening s es time a late goes_on fits law kept = record {
    runs = record {
      run = IsRun-push 0 opening es _ kept.runs.run late (rw kept.runs.reached (IsStep-entry_of s time a goes_on fits));
      reached =
          let e = entry_of time (p.asks s time) a (p.events (p.asked s time) time a) in
          state_after-push opening es e ∙ ap (λ x. step_after p x e) kept.runs.reached ∙ step_after-entry_of s time (p.asks s time) a (p.events (p.asked s time) time a);
    };
    held = λ k.
        let e = entry_of time (p.asks s time) a (p.events (p.asked s time) time a) in
        let over : times k (handed_over (es ++ e ∷ [])) ≡ times k (handed_over es) + times k (op_numbers (p.asks s time)) =
        ap (times k) (flat_map-push (λ x. op_numbers x.op) es e) ∙ times-append k (handed_over es) _ in
        let came : times k (received (es ++ e ∷ [])) ≡ times k (received es) + times k (answer_numbers a) =
        ap (times k) (flat_map-push (λ x. answer_numbers x.answer) es e) ∙ times-append k (received es) _ in
        omega (arith, law k, kept.held k);
  }

  -- the same, of a state and entries that are just these
  pub IsKept-next : (holds : S → List ℕ) (opening s t : S) (es fs : List Entry) (time : ℕ) (a : AnswerShown)
      → last_time 0 es ≤ time → p.has_ended s ≡ false → Fits (p.asks s time) a
      → t ≡ p.tells (p.asked s time) time a
      → fs ≡ es ++ entry_of time (p.asks s time) a (p.events (p.asked s time) time a) ∷ []
      → ((k : ℕ) → times k (holds t) + times k (op_numbers (p.asks s time)) ≡ times k (holds s) + times k (answer_numbers a))
      → IsKept p holds opening es s
      → IsKept p holds opening fs t
  IsKept-next holds opening s t es fs time a late goes_on fits reached logged law kept =
      rw (logged, reached) (IsKept-push holds opening s es time a late goes_on fits (λ k. rw reached at (law k)) kept)

-- the entry of a turn, of what it is made of
pub entry_of-made : (time : ℕ) (o : OpShown) (a : AnswerShown) (events : List Event) (e : Entry) → e.time ≡ time → e.op ≡ o → e.answer ≡ a → e.events.items ≡ events → e ≡ entry_of time o a events
entry_of-made time o a events e t u v w = rw (← t, ← u, ← v, ← w) refl
