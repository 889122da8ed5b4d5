-- A generated scenario has a report: its text states a scene, and the run of that scene stays below the entry limit.
use Rattle.std.proofs.Common.{◌≡◌, ℕ, Option, None, Some, Result, Ok, Err, List, refl, sym, ap, ◌∙◌}
use Rattle.std.specs.Prelude.{◌≢◌}
use Rattle.csp_gen.specs.GenScene.{gen_scene, StatesScene}
use Rattle.csp_gen.specs.GenText.{gen_text}
use Rattle.csp_link.specs.declared.fault.Fault.{Fault}
use Rattle.csp_record.specs.Record.{PlainRecord}
use Rattle.csp_scene.specs.Judge.{scene_of}
use Rattle.csp_scene.specs.declared.refusal.SceneKind.{SceneKind}
use Rattle.csp_world.specs.Record.{sim_record}
use Rattle.csp_top.specs.Gen.{HasReport}
use Rattle.csp_bench.specs.Running.{IsPastEntries}
use Rattle.csp_bench.specs.declared.reading.Refusal.{Refusal}
use Rattle.csp_bench.specs.declared.reading.Refusal.TheVariants as refusal

-- no run of a generated scene stops at the entry limit
abbrev pub StayBelow : Type 0
StayBelow = (packets : ℕ) (plan : List Fault) → sim_record (gen_scene packets plan) ≢ None

pub has_report : (packets : ℕ) → StayBelow → StatesScene packets → HasReport packets
has_report packets below states = by (sim_record (gen_scene packets states.plan)) refl
  where
    by : (o : Option PlainRecord) → sim_record (gen_scene packets states.plan) ≡ o → HasReport packets
    by None e = absurd (below packets states.plan e)
    by (Some run') e = record { scene = gen_scene packets states.plan; run = run'; stated = states.stated; ran = e }

-- so the only refusal of a generated text is want of memory
pub only_memory : (packets : ℕ) (text : List ℕ) (why : Refusal) → StayBelow → StatesScene packets → text ≡ gen_text packets
    → ((line : ℕ) (kind : SceneKind) → why ≡ refusal.Scene line kind → scene_of text ≡ Err (record { line = line; kind = kind })) → (why ≡ refusal.Entries → IsPastEntries text) → why ≡ refusal.NoMemory
only_memory packets text refusal.NoMemory below states is scene past = refl
only_memory packets text (refusal.Scene line kind) below states is scene past =
    let refused = scene line kind refl in
    let yes = ap scene_of is ∙ states.stated in
    absurd (both (scene_of text) refused yes)
  where
    both : {A B : Type 0} {a : A} {b : B} (r : Result A B) → r ≡ Err b → r ≡ Ok a → ⊥
    both r e f = cc
only_memory packets text refusal.Entries below states is scene past =
    let full = past refl in
    let same : Ok full.scene ≡ Ok (gen_scene packets states.plan) = sym full.stated ∙ ap scene_of is ∙ states.stated in
    let scenes : full.scene ≡ gen_scene packets states.plan = cc in
    absurd (below packets states.plan (ap sim_record (sym scenes) ∙ full.full))
