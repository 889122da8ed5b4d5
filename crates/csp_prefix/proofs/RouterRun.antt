-- the runs of a router: what is to be known of its connections holds at the end
use Rattle.std.proofs.Common.{◌≡◌, ℕ, ◌<◌, List, [], ◌∷◌, ◌++◌, Option, Some, sym, ap, ◌∙◌, subst}
use Rattle.std.specs.Prelude.{⊤}
use Rattle.std.specs.List.{AllByRecursion}
use Rattle.std.proofs.lemmas.List.{append-nil, append_assoc}
use Rattle.csp_base.specs.declared.seat.Seat.{Seat}
use Rattle.csp_base.specs.declared.limits.TheConstants.{SLOTS}
use Rattle.csp_deck.specs.Runs.{IsRun, IsStep}
use Rattle.csp_log.specs.declared.entry.Entry.{Entry}
use Rattle.csp_log.specs.declared.event.Event.{Event}
use Rattle.csp_ports.specs.PlainPorts.{PlainPorts, machine_at}
use Rattle.csp_rdp.specs.Jobs.{job_of}
use Rattle.csp_rdp.specs.Machine.{PlainRdp}
use Rattle.csp_rdp.specs.declared.jobs.Job.{Job}
use Rattle.csp_record.specs.declared.payloads.Transfer.TheVariants as way
use Rattle.csp_record.proofs.Public.{openings_after, payloads_after}
use Rattle.csp_stack.specs.Router.{Facts, Leaving, State}
use Rattle.csp_stack.specs.Turn.{asked_at, asks_at, timed, told_at}
use Rattle.csp_prefix.specs.Routers.{ComesSo, router_steps}
use Rattle.csp_prefix.proofs.PayloadReads.{delivered_after}
use Rattle.csp_prefix.proofs.RouterBooks.{Past, ends_of, past_after}
use Rattle.csp_prefix.proofs.RouterStanding.{Aim, IsAim, IsPart, Stands}
use Rattle.csp_prefix.proofs.RouterTurn.{FoundSo, HearsSo, PushedSo, part_before, turn_stands}

-- ---- what several entries add
abbrev pub past_with : Entry → Past → Past
past_with e h = past_after e.op e.answer e.events.items h

abbrev pub past_of : List Entry → Past → Past
past_of [] h = h
past_of (e ∷ es) h = past_of es (past_with e h)

pub reads_opened : (es : List Entry) (h : Past) (app : ℕ) → (past_of es h).opened app ≡ h.opened app ++ openings_after app (ends_of app h) es
reads_opened [] h app = sym (append-nil _)
reads_opened (e ∷ es) h app = reads_opened es (past_with e h) app ∙ append_assoc (h.opened app) _ _

pub reads_sent : (es : List Entry) (h : Past) (seat : Seat) (ordinal : ℕ) → (past_of es h).sent seat ordinal ≡ h.sent seat ordinal ++ payloads_after way.Sent seat ordinal (ends_of seat.app h) es
reads_sent [] h seat ordinal = sym (append-nil _)
reads_sent (e ∷ es) h seat ordinal = reads_sent es (past_with e h) seat ordinal ∙ append_assoc (h.sent seat ordinal) _ _

pub reads_down : (es : List Entry) (h : Past) (seat : Seat) (ordinal : ℕ) → (past_of es h).down seat ordinal ≡ h.down seat ordinal ++ delivered_after seat ordinal (ends_of seat.app h) es
reads_down [] h seat ordinal = sym (append-nil _)
reads_down (e ∷ es) h seat ordinal = reads_down es (past_with e h) seat ordinal ∙ append_assoc (h.down seat ordinal) _ _

pub part_of : (es : List Entry) (h whole : Past) → IsPart (past_of es h) whole → IsPart h whole
part_of [] h whole p = p
part_of (e ∷ es) h whole p = part_before e.op e.answer e.events.items h whole (part_of es (past_with e h) whole p)

-- ---- a run
pub record IsCome (g : Aim) (e : Entry) : Type 0 where
  pub comes : ComesSo e.op e.answer
  pub hears : HearsSo g e.op e.answer
  pub fresh : AllByRecursion g.fresh e.events.items

-- what is to be known of the machines of a router's slots that owe something at its turns, once its timers were tried
abbrev pub AreFound : (PlainRdp → Type 0) → Facts → State → List Entry → Type 0
AreFound At f s [] = ⊤
AreFound At f s (e ∷ es) = ((seat : Seat) (j : Job) → seat.app < f.apps → seat.slot < SLOTS → job_of e.time (machine_at (timed s e.time).ports seat) ≡ Some j → At (machine_at (timed s e.time).ports seat)) × AreFound At f (told_at f (asked_at f s e.time) e.time e.answer).state es

-- where nothing is to be known of them, it is so
pub found_any : (f : Facts) (s : State) (es : List Entry) → AreFound (λ r. ⊤) f s es
found_any f s [] = tt
found_any f s (e ∷ es) = (λ seat j few low owed. tt, found_any f (told_at f (asked_at f s e.time) e.time e.answer).state es)

pub record IsRunSo (g : Aim) (f : Facts) (h : Past) (es : List Entry) : Type 0 where
  pub ports : PlainPorts
  pub leaves : Option Leaving
  pub stands : Stands g f (past_of es h) ports leaves
  pub pushed : AllByRecursion (λ e. PushedSo g e.op e.answer) es

module _ (g : Aim) (f : Facts) (whole : Past) (k : IsAim g f whole) where
  pub step_stands : (e : Entry) (h : Past) (s : State) → FoundSo g f whole k e.time (timed s e.time).ports → IsStep router_steps (record { facts = f; state = s }) e → IsCome g e → IsPart (past_with e h) whole → Stands g f h s.ports s.out
      → Stands g f (past_with e h) (told_at f (asked_at f s e.time) e.time e.answer).state.ports (told_at f (asked_at f s e.time) e.time e.answer).state.out × PushedSo g e.op e.answer
  step_stands e h s so step come part w =
      let same : past_with e h ≡ past_after (asks_at f s e.time) e.answer (told_at f (asked_at f s e.time) e.time e.answer).events h =
      ap (λ o. past_after o e.answer e.events.items h) step.op ∙ ap (λ (es : List Event). past_after (asks_at f s e.time) e.answer es h) step.events in
      let done = turn_stands g f whole k h s e.time e.answer so w step.fits (subst (λ o. ComesSo o e.answer) step.op come.comes) (subst (λ o. HearsSo g o e.answer) step.op come.hears) (subst (λ x. IsPart x whole) same part)
      (subst (AllByRecursion g.fresh) step.events come.fresh) in
      (subst (λ x. Stands g f x (told_at f (asked_at f s e.time) e.time e.answer).state.ports (told_at f (asked_at f s e.time) e.time e.answer).state.out) (sym same) done.0, subst (λ o. PushedSo g o e.answer) (sym step.op) done.1)

  pub run_stands : (es : List Entry) (time : ℕ) (h : Past) (s : State) → IsRun router_steps time (record { facts = f; state = s }) es → AreFound g.at f s es → AllByRecursion (IsCome g) es → IsPart (past_of es h) whole → Stands g f h s.ports s.out → IsRunSo g f h es
  run_stands [] time h s run found come part w = record { ports = s.ports; leaves = s.out; stands = w; pushed = tt }
  run_stands (e ∷ es) time h s run found come part w =
      let done = step_stands e h s found.0 run.1 come.0 (part_of es (past_with e h) whole part) w in
      let rest = run_stands es e.time (past_with e h) (told_at f (asked_at f s e.time) e.time e.answer).state run.2 found.1 come.1 part done.0 in
      record { ports = rest.ports; leaves = rest.leaves; stands = rest.stands; pushed = (done.1, rest.pushed) }
