-- What the turns of an application show: it pushes packets without a trace, and tells once of each packet that it pops.
use Rattle.std.proofs.Common.{ℕ, Bool, true, false, Option, Some, None, Result, Ok, Err, List, [], ◌∷◌, ◌++◌, length, refl, sym, subst}
use Rattle.std.specs.Prelude.{⊤}
use Rattle.std.specs.List.{AllByRecursion}
use Rattle.csp_base.specs.Seat.{seat}
use Rattle.csp_app.specs.Asking.{asked, asks}
use Rattle.csp_app.specs.Collecting.{blobs_told, collector_at, piece_told}
use Rattle.csp_app.specs.PlainApp.{PlainApp, opening}
use Rattle.csp_app.specs.Slots.{slot_at}
use Rattle.csp_app.specs.Steps.{answered, gives_up, has_passed, is_enough, plan_of, recv_end, turn_of, wait_end}
use Rattle.csp_app.specs.Telling.{at_rest, events}
use Rattle.csp_app.specs.Turn.{Turn, gives, giving_op, op_of, popped, pops, pushes, pushing_op, rests, takes, told_of}
use Rattle.csp_app.specs.declared.plan.AppPlan.{AppPlan}
use Rattle.csp_app.specs.declared.plan.AppPlan.TheVariants as plan
use Rattle.csp_buffer.specs.Content.{Content}
use Rattle.csp_crc.specs.Crc.{crc_of}
use Rattle.csp_deck.specs.Runs.{IsRun, step_after}
use Rattle.csp_log.specs.declared.entry.Entry.{Entry}
use Rattle.csp_log.specs.declared.event.Event.{Event}
use Rattle.csp_log.specs.declared.event.Event.TheVariants as event
use Rattle.csp_log.specs.declared.note.Note.{Note}
use Rattle.csp_log.specs.declared.note.Note.TheVariants as note
use Rattle.csp_log.specs.declared.places.QueueId.TheVariants as queue
use Rattle.csp_log.specs.declared.shown.ItemShown.{ItemShown}
use Rattle.csp_log.specs.declared.shown.ItemShown.TheVariants as item
use Rattle.csp_log.specs.declared.shown.AnswerShown.{AnswerShown}
use Rattle.csp_log.specs.declared.shown.AnswerShown.TheVariants as answer
use Rattle.csp_scene.proofs.Public.{AllByRecursion-append}
use Rattle.csp_sfp.specs.Gathering.{Gathering, after, answer as answer_to}
use Rattle.csp_sfp.specs.declared.collector.SfpAnswer.{SfpAnswer}
use Rattle.csp_sfp.specs.declared.collector.SfpAnswer.TheVariants.{Part, Whole}
use Rattle.csp_sfp.specs.declared.errors.SfpError.{SfpError}
use Rattle.csp_prefix.specs.Apps.{AreTrueApps, app_steps}
use Rattle.csp_prefix.specs.Routers.{IsUntraced}
use Rattle.csp_app.specs.PlainStep.{PlainStep}
use Rattle.csp_app.specs.PlainStep as step
use Rattle.csp_prefix.proofs.AppPuts.{PutsSo, app_puts}
use Rattle.csp_prefix.proofs.PacketLists.{each_any}
use Rattle.csp_prefix.proofs.PayloadReads.{IsNoTook, TellsTook, took_is}

-- ---- in whatever buffer a step makes a packet, it has no trace

step_bare : (x : PlainStep) → PutsSo IsUntraced x
step_bare (step.Bind port need) = ((λ j b. refl), tt)
step_bare (step.Connect slot dest port prio flags from) = ((λ j b. refl), tt)
step_bare (step.Close slot) = ((λ j b. refl), tt)
step_bare _ = ((λ j b. refl), tt)

-- ---- what it tells of its pops

-- a look tells of no packet
abbrev LooksSo : Turn → Type 0
LooksSo (pops until look) = (n : Option Note) (s : PlainApp) → AllByRecursion IsNoTook (look n s).events
LooksSo _ = ⊤

silent_answered : (n : Option Note) (s : PlainApp) → AllByRecursion IsNoTook (answered n s).events
silent_answered None s = tt
silent_answered (Some note.Bound) s = tt
silent_answered (Some (note.Refused why)) s = (tt, tt)
silent_answered (Some _) s = tt

silent_received : (slot packets : ℕ) (enough passed down : Bool) (s : PlainApp) → AllByRecursion IsNoTook (recv_end slot packets enough passed down s).events
silent_received slot packets true passed down s = tt
silent_received slot packets false true down s = (tt, tt)
silent_received slot packets false false true s = (tt, tt)
silent_received slot packets false false false s = tt

silent_waited : (passed : Bool) (s : PlainApp) → AllByRecursion IsNoTook (wait_end passed s).events
silent_waited true s = tt
silent_waited false s = tt

looks : (s : PlainApp) (now : ℕ) (p : AppPlan) → LooksSo (turn_of s now p)
looks s now plan.Look = λ n t. tt
looks s now plan.Await = silent_answered
looks s now (plan.Receive slot packets rounds) = λ n t. silent_received slot packets (is_enough slot packets t) (gives_up rounds now t) (slot_at t.slots slot).down t
looks s now (plan.Wait rounds) = λ n t. silent_waited (has_passed rounds now t) t
looks s now _ = tt

-- a turn that pops does so whatever state it was told in
abbrev IsPopLike : Turn → Turn → Type 0
IsPopLike (pops _ _) (pops _ _) = ⊤
IsPopLike (pops _ _) _ = ⊥
IsPopLike _ _ = ⊤

alike : (s t : PlainApp) (now : ℕ) (p : AppPlan) → IsPopLike (turn_of s now p) (turn_of t now p)
alike s t now plan.Rest = tt
alike s t now _ = tt

-- what holds of each event of a blob holds of what a slot's collector, if there is one, reports of a payload
piece_so : (P : Event → Type 0) (whole : (slot ordinal len crc : ℕ) → P (event.BlobTook slot ordinal len crc)) (refused : (slot ordinal : ℕ) (why : SfpError) → P (event.BlobRefused slot ordinal why))
    → (slot ordinal : ℕ) (a : Result SfpAnswer SfpError) (g : Gathering) → AllByRecursion P (piece_told slot ordinal a g)
piece_so P whole refused slot ordinal (Ok Whole) g = (whole slot ordinal (length g.bytes) (crc_of g.bytes), tt)
piece_so P whole refused slot ordinal (Ok Part) g = tt
piece_so P whole refused slot ordinal (Err why) g = (refused slot ordinal why, tt)

pub blobs_so : (P : Event → Type 0) (whole : (slot ordinal len crc : ℕ) → P (event.BlobTook slot ordinal len crc)) (refused : (slot ordinal : ℕ) (why : SfpError) → P (event.BlobRefused slot ordinal why))
    → (slot ordinal : ℕ) (collector : Option Gathering) (payload : List ℕ) → AllByRecursion P (blobs_told slot ordinal collector payload)
blobs_so P whole refused slot ordinal None payload = tt
blobs_so P whole refused slot ordinal (Some g) payload = piece_so P whole refused slot ordinal (answer_to g payload) (after g payload)

giving_tells : (c : Option Content) (a : AnswerShown) (es : List Event) → TellsTook (giving_op c) a es
giving_tells None a es = tt
giving_tells (Some b) a es = tt

pushing_tells : (number : ℕ) (c : Option ItemShown) (a : AnswerShown) (es : List Event) → TellsTook (pushing_op number c) a es
pushing_tells number None a es = tt
pushing_tells number (Some i) a es = tt

turn_tells : (number : ℕ) (t u : Turn) (rest : PlainApp) (a : AnswerShown) → IsPopLike t u → LooksSo u → TellsTook (op_of number t) a (told_of rest u a).events
turn_tells number (rests _) u rest a l k = tt
turn_tells number (takes _ _) u rest a l k = tt
turn_tells number (gives c _ _ _) u rest a l k = giving_tells c a (told_of rest u a).events
turn_tells number (pushes c _ _ _) u rest a l k = pushing_tells number c a (told_of rest u a).events
turn_tells number (pops _ _) (pops until look) rest (answer.Popped (item.Packet mark b)) l k =
    let ordinal : ℕ = (slot_at rest.slots mark).ordinal in
    let collector : Option Gathering = collector_at rest.collectors mark in
    let blobs : List Event = blobs_told mark ordinal collector b.payload in
    let last : PlainApp = popped (item.Packet mark b) rest in
    record {
      ordinal = ordinal;
      rest = blobs ++ (look None last).events;
      events = refl;
      once = AllByRecursion-append IsNoTook blobs (look None last).events (blobs_so IsNoTook (λ s o len crc. tt) (λ s o why. tt) mark ordinal collector b.payload) (k None last);
    }
turn_tells number (pops _ _) (pops until look) rest (answer.Popped (item.Frame f)) l k = tt
turn_tells number (pops _ _) (pops until look) rest (answer.Popped (item.Note n)) l k = tt
turn_tells number (pops _ _) (pops until look) rest _ l k = tt
turn_tells number (pops _ _) _ rest a l k = absurd l

step_tells : (s : PlainApp) (now : ℕ) (a : AnswerShown) → TellsTook (asks s now) a (events (asked s now) now a)
step_tells s now a =
    let rest : PlainApp = at_rest (asked s now) in
    turn_tells s.number (turn_of s now (plan_of s)) (turn_of rest now (plan_of s)) rest a (alike s rest now (plan_of s)) (looks rest now (plan_of s))

pub run_tells : (es : List Entry) (time : ℕ) (s : PlainApp) → IsRun app_steps time s es → AllByRecursion (λ e. TellsTook e.op e.answer e.events.items) es
run_tells [] time s run = tt
run_tells (e ∷ es) time s run = (
  subst (λ o. TellsTook o e.answer e.events.items) (sym run.1.op) (subst (TellsTook (asks s e.time) e.answer) (sym run.1.events) (step_tells s e.time e.answer)),
  run_tells es e.time (step_after app_steps s e) run.2,
)

-- ---- both

pub true_apps : AreTrueApps
true_apps number steps es log = record {
  untraced = app_puts IsUntraced steps (λ j b. refl) (each_any (PutsSo IsUntraced) steps step_bare) (queue.Up number) number es log;
  takes = λ slot ordinal. took_is (seat number slot) ordinal es (run_tells es 0 (opening number steps) log);
}
