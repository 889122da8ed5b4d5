-- What an application pushes is a beginning of what its steps push: whole, since a step, and around a note.
use Rattle.std.proofs.Common.{◌≡◌, ℕ, ◌++◌, List, [], ◌∷◌, drop, map, refl, sym, ap, ◌∙◌, subst, append_assoc}
use Rattle.std.specs.List.{AllByRecursion, flat_map}
use Rattle.std.proofs.lemmas.List.{map-append}
use Rattle.csp_app.specs.PlainApp.{PlainApp, opening}
use Rattle.csp_app.specs.PlainStep.{PlainStep}
use Rattle.csp_deck.specs.Runs.{IsRun, last_time, state_after, step_after}
use Rattle.csp_log.specs.declared.entry.Entry.{Entry}
use Rattle.csp_log.specs.declared.note.Note.{Note}
use Rattle.csp_log.specs.declared.places.QueueId.TheVariants as queue
use Rattle.csp_log.specs.declared.shown.ItemShown.{ItemShown}
use Rattle.csp_log.specs.declared.shown.ItemShown.TheVariants as item
use Rattle.csp_scene.specs.Ranges.{IsStep}
use Rattle.csp_consistent.specs.Reading.{puts}
use Rattle.csp_prefix.specs.Apps.{app_steps}
use Rattle.csp_prefix.specs.Prefix.{IsBeginning}
use Rattle.csp_blobs.specs.Sending.{IsAsked, IsAtStep, PushSteps, pushed_by, unnumbered}
use Rattle.csp_blobs.proofs.SendingNotes.{IsFound, found}
use Rattle.csp_blobs.proofs.SendingSteps.{ahead, ahead_first, due_first}
use Rattle.csp_blobs.proofs.SendingTurns.{HasGone, Stands, run_goes}

-- ---- a run and its parts

run_first : (time : ℕ) (s : PlainApp) (first later : List Entry) → IsRun app_steps time s (first ++ later) → IsRun app_steps time s first
run_first time s [] later run = tt
run_first time s (e ∷ first) later run = (run.0, run.1, run_first e.time (step_after app_steps s e) first later run.2)

run_last : (time : ℕ) (s : PlainApp) (first later : List Entry) → IsRun app_steps time s (first ++ later) → IsRun app_steps (last_time time first) (state_after app_steps s first) later
run_last time s [] later run = run
run_last time s (e ∷ first) later run = run_last e.time (step_after app_steps s e) first later run.2

-- ---- what was pushed

begun : (pushed left whole : List ItemShown) → whole ≡ pushed ++ left → IsBeginning pushed whole
begun pushed left whole e = record { rest = left; whole = sym e }

opens : (number : ℕ) (steps : List PlainStep) (all : AllByRecursion IsStep steps) → Stands number steps all (flat_map pushed_by steps) (opening number steps)
opens number steps all = (refl, refl, tt, due_first steps 0 all, ahead_first steps 0)

-- at the beginning of a step all that it and those after it push is ahead
at_step : (number : ℕ) (steps : List PlainStep) (all : AllByRecursion IsStep steps) (is : List ItemShown) (at : ℕ) (s : PlainApp) → Stands number steps all is s → IsAtStep at s
    → is ≡ flat_map pushed_by (drop at steps)
at_step number steps all is at s h a = sym h.4 ∙ (λ k. ahead (h.1 k) (a.asked k) (a.sent k) (a.done k)) ∙ ahead_first steps at

since_step : (number : ℕ) (steps : List PlainStep) (all : AllByRecursion IsStep steps) (first later : List Entry) (at : ℕ) → IsRun app_steps 0 (opening number steps) (first ++ later)
    → IsAtStep at (state_after app_steps (opening number steps) first) → IsBeginning (map unnumbered (puts (queue.Up number) later)) (flat_map pushed_by (drop at steps))
since_step number steps all first later at run a =
    let s : PlainApp = state_after app_steps (opening number steps) first in
    let before : HasGone number steps all (flat_map pushed_by steps) first (opening number steps) =
    run_goes number steps all (flat_map pushed_by steps) first 0 (opening number steps) (run_first 0 (opening number steps) first later run) (opens number steps all) in
    let after : HasGone number steps all before.left later s =
    run_goes number steps all before.left later (last_time 0 first) s (run_last 0 (opening number steps) first later run) before.stands in
    begun (map unnumbered (puts (queue.Up number) later)) after.left (flat_map pushed_by (drop at steps))
    (sym (at_step number steps all before.left at s before.stands a) ∙ after.same)

around_note : (steps : List PlainStep) (pushed before after : List ItemShown) (n : Note) → pushed ≡ before ++ item.Note n ∷ after → IsBeginning (map unnumbered pushed) (flat_map pushed_by steps)
    → IsAsked steps before after n
around_note steps pushed before after n e b =
    let first : List ItemShown = map unnumbered before in
    let last : List ItemShown = map unnumbered after in
    let parted : first ++ item.Note n ∷ (last ++ b.rest) ≡ flat_map pushed_by steps =
    sym (append_assoc first (item.Note n ∷ last) b.rest) ∙ ap (λ is. is ++ b.rest) (sym (map-append unnumbered before (item.Note n ∷ after)))
    ∙ ap (λ is. map unnumbered is ++ b.rest) (sym e) ∙ b.whole in
    let f : IsFound steps first (last ++ b.rest) n = found steps first (last ++ b.rest) n parted in
    record {
      at = f.at;
      own = f.own;
      there = f.there;
      asks = f.asks;
      first = f.first;
      last = record { rest = b.rest; whole = f.last };
    }

pub pushes_steps : PushSteps
pushes_steps number steps es all log =
    let gone : HasGone number steps all (flat_map pushed_by steps) es (opening number steps) =
    run_goes number steps all (flat_map pushed_by steps) es 0 (opening number steps) log (opens number steps all) in
    let whole : IsBeginning (map unnumbered (puts (queue.Up number) es)) (flat_map pushed_by steps) =
    begun (map unnumbered (puts (queue.Up number) es)) gone.left (flat_map pushed_by steps) gone.same in
    record {
      whole = whole;
      since = λ first later at e a. since_step number steps all first later at (subst (IsRun app_steps 0 (opening number steps)) e log) a;
      around = λ before after n e. around_note steps (puts (queue.Up number) es) before after n e whole;
    }
