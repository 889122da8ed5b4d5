use Rattle.std.proofs.Common.{◌≡◌, ℕ, List, Err, ap, length, subst, sym, ◌∙◌, arith}
use Rattle.std.specs.Prelude.{All}
use Rattle.csp_record.specs.Whole.{IsWhole}
use Rattle.csp_scene.specs.Scene.{moves_in}
use Rattle.csp_world.specs.Holders.{counts}
use Rattle.csp_world.specs.declared.schedule.SimError.TheVariants as refusal
use Rattle.csp_world.specs.Schedule.{IsThere, names}
use Rattle.csp_world.specs.World.{PlainWorld, entries}
use Rattle.csp_world.proofs.ReachingLemmas.{reached_run}
use Rattle.csp_world.proofs.RunLemmas.{run_from, recorded, not_recorded}
use Rattle.csp_world.proofs.ScheduleNames.{all_there}
use Rattle.csp_world.proofs.ScheduleOpening.{opening_parties, opening_empty, opening_time, opening_counts}
use Rattle.csp_world.proofs.schedule.simulate.Goals as goal

pub run-ran-requires-clause-parties : goal.run-ran-requires-clause-parties
run-ran-requires-clause-parties c =
    let same = ap (λ (w : PlainWorld). length w.members) c.in_ok-world.ensures.plain in
    omega (arith, same, opening_parties c.args.scene.now, c.counts_parties.ensures c.args.scene.now c.requires.scene)

pub run-ran-requires-clause-there : goal.run-ran-requires-clause-there
run-ran-requires-clause-there c =
    let scene = c.args.scene.now in
    subst (λ (w : PlainWorld). All (IsThere (names w)) (moves_in scene.schedule)) (sym c.in_ok-world.ensures.plain) (all_there scene c.requires.scene)

pub run-ran-requires-clause-start : goal.run-ran-requires-clause-start
run-ran-requires-clause-start c = ap (λ (w : PlainWorld). w.time) c.in_ok-world.ensures.plain ∙ opening_time c.args.scene.now

pub run-ran-requires-clause-empty : goal.run-ran-requires-clause-empty
run-ran-requires-clause-empty c = ap entries c.in_ok-world.ensures.plain ∙ opening_empty c.args.scene.now

pub returns-in-Ok-clause-record : goal.returns-in-Ok-clause-record
returns-in-Ok-clause-record c =
    let scene = c.args.scene.now in
    recorded scene c.run-ran.new.world.plain c.close-record.result (run_from scene c.in_ok-world.world.plain c.in_ok-world.ensures.plain ∙ c.in-Ok.ensures.run) c.close-record.ensures.record

pub returns-in-Ok-clause-conserved : goal.returns-in-Ok-clause-conserved
returns-in-Ok-clause-conserved c =
    let same = c.in-Ok.ensures.counts ∙ ap counts c.in_ok-world.ensures.plain ∙ opening_counts c.args.scene.now in
    subst (λ (ns : List ℕ). IsWhole ns c.close-record.result) same c.close-record.ensures.whole

pub returns-in-Ok-clause-consistent : goal.returns-in-Ok-clause-consistent
returns-in-Ok-clause-consistent c = λ after.
    let scene = c.args.scene.now in
    let reached = reached_run scene c.run-ran.new.world.plain (run_from scene c.in_ok-world.world.plain c.in_ok-world.ensures.plain ∙ c.in-Ok.ensures.run) in
    c.close-record.ensures.consistent scene c.requires.scene after reached

pub returns-in-Err-clause-entries : goal.returns-in-Err-clause-entries
returns-in-Err-clause-entries c = λ e.
    let scene = c.args.scene.now in
    let reached : c.in-Err.error ≡ refusal.Entries = cc in
    not_recorded scene (run_from scene c.in_ok-world.world.plain c.in_ok-world.ensures.plain ∙ c.in-Err.ensures.entries (ap Err reached))
