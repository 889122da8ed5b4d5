-- What the turns of an application tell of blobs is what a collector makes of the payloads that it takes.
use Rattle.std.proofs.Common.{◌≡◌, ◌⊎◌, inl, inr, ℕ, ◌+◌, ◌-◌, ◌<◌, ◌≤◌, ◌==◌, Bool, true, false, Option, Some, None, List, [], ◌∷◌, ◌++◌, refl, sym, ap, ◌∙◌, subst, append_assoc, arith}
use Rattle.std.specs.Prelude.{if◌then◌else◌, length, nat_le, nat_lt, replicate, ⊤}
use Rattle.std.proofs.lemmas.Bool.{eq-eqb}
use Rattle.std.proofs.lemmas.Bool.Decides.{leb_tells}
use Rattle.std.proofs.lemmas.List.{get_or-replicate, get_or_past}
use Rattle.std.proofs.lemmas.List.FromFn.{get_or-map-range_with_len, length-map-range_with_len}
use Rattle.csp_base.specs.Seat.{seat}
use Rattle.csp_app.specs.Asking.{asked, asks}
use Rattle.csp_app.specs.Collecting.{collector_at, collector_for, collectors_for}
use Rattle.csp_app.specs.Making.{note_in}
use Rattle.csp_app.specs.PlainApp.{PlainApp, opening}
use Rattle.csp_app.specs.PlainStep.{PlainStep}
use Rattle.csp_app.specs.Slots.{fresh, slot_at, took}
use Rattle.csp_app.specs.Steps.{answered, batch, gives_up, has_passed, is_enough, plan_of, pushed_one, recv_end, turn_of, wait_end}
use Rattle.csp_app.specs.Telling.{at_rest}
use Rattle.csp_app.specs.ToldApp.{ToldApp}
use Rattle.csp_app.specs.Turn.{Turn, gives, giving_op, op_of, popped, pops, pushes, pushing_op, rests, takes, told_of, until_told}
use Rattle.csp_app.specs.declared.plan.AppPlan.{AppPlan}
use Rattle.csp_app.specs.declared.plan.AppPlan.TheVariants as plan
use Rattle.csp_app.specs.declared.slot.KnownSlot.{KnownSlot}
use Rattle.csp_buffer.specs.Content.{Content}
use Rattle.csp_deck.specs.Runs.{IsRun, step_after}
use Rattle.csp_log.specs.PlainLog.{all_events}
use Rattle.csp_log.specs.declared.entry.Entry.{Entry}
use Rattle.csp_log.specs.declared.event.Event.{Event}
use Rattle.csp_log.specs.declared.note.Note.{Note}
use Rattle.csp_log.specs.declared.note.Note.TheVariants as note
use Rattle.csp_log.specs.declared.places.QueueId.TheVariants as queue
use Rattle.csp_base.specs.declared.limits.TheConstants.{SLOTS}
use Rattle.csp_log.specs.declared.shown.AnswerShown.{AnswerShown}
use Rattle.csp_log.specs.declared.shown.AnswerShown.TheVariants as answer
use Rattle.csp_log.specs.declared.shown.ItemShown.{ItemShown}
use Rattle.csp_log.specs.declared.shown.OpShown.{OpShown}
use Rattle.csp_sfp.specs.Gathering.{Gathering, nothing}
use Rattle.csp_consistent.specs.Reading.{gets, got_by}
use Rattle.csp_prefix.specs.Apps.{AreTrueApps, app_steps}
use Rattle.csp_prefix.specs.Items.{ends_by, payloads_from}
use Rattle.csp_record.specs.Payloads as record_payloads
use Rattle.csp_blobs.specs.Blobs.{AreCollected, Tells}
use Rattle.csp_blobs.proofs.ItemReads.{Knows, TellsOf, begun_with, blobs_by, blobs_of_none, collector_after, collector_by, item_tells, knows_after, knows_set, refusals_by, refusals_of_none, tells_append, tells_same}

-- an application of this number, on whose slot so many connections have ended, and whose slot has this collector
abbrev Stands : (number k n : ℕ) → Option Gathering → PlainApp → Type 0
Stands number k n c s = (s.number ≡ number) × Knows k n c s.slots × (collector_at s.collectors k ≡ c)

-- nothing of blobs is told on this connection
abbrev IsSilent : (k o : ℕ) → List Event → Type 0
IsSilent k o es = Tells k o es [] []

module _ (number k o : ℕ) where
  -- a turn comes to this
  abbrev Comes : ℕ → Option Gathering → ToldApp → Type 0
  Comes n c t = Stands number k n c t.state × IsSilent k o t.events

  silent : IsSilent k o []
  silent = record { told = refl; refused = refl }

  abbrev Leaves : ℕ → Option Gathering → Turn → Type 0
  Leaves n c (rests told) = Comes n c told
  Leaves n c (takes taken none) = ((b : Content) → Comes n c (taken b)) × Comes n c none
  Leaves n c (gives b until given back) = Stands number k n c until × Comes n c given × ((b : Content) → Comes n c (back b))
  Leaves n c (pushes i until pushed back) = Stands number k n c until × Comes n c pushed × ((i : ItemShown) → Comes n c (back i))
  Leaves n c (pops until look) = Stands number k n c until × ((m : ℕ) (d : Option Gathering) (n : Option Note) (t : PlainApp) → Stands number k m d t → Comes m d (look n t))

  comes_pushed : (n : ℕ) (c : Option Gathering) (more : Bool) (s : PlainApp) → Stands number k n c s → Comes n c (pushed_one more s)
  comes_pushed n c true s h = (h, silent)
  comes_pushed n c false s h = (h, silent)

  comes_answered : (n : ℕ) (c : Option Gathering) (m : Option Note) (s : PlainApp) → Stands number k n c s → Comes n c (answered m s)
  comes_answered n c None s h = (h, silent)
  comes_answered n c (Some note.Bound) s h = (h, silent)
  comes_answered n c (Some (note.Refused why)) s h = (h, record { told = refl; refused = refl })
  comes_answered n c (Some _) s h = (h, silent)

  comes_received : (n : ℕ) (c : Option Gathering) (slot packets : ℕ) (enough passed down : Bool) (s : PlainApp) → Stands number k n c s → Comes n c (recv_end slot packets enough passed down s)
  comes_received n c slot packets true passed down s h =
      ((h.0, knows_set k n c s.slots slot (record (slot_at s.slots slot) { unused = (slot_at s.slots slot).unused - packets }) refl h.1, h.2), silent)
  comes_received n c slot packets false true down s h = (h, record { told = refl; refused = refl })
  comes_received n c slot packets false false true s h = (h, record { told = refl; refused = refl })
  comes_received n c slot packets false false false s h = (h, silent)

  comes_waited : (n : ℕ) (c : Option Gathering) (passed : Bool) (s : PlainApp) → Stands number k n c s → Comes n c (wait_end passed s)
  comes_waited n c true s h = (h, silent)
  comes_waited n c false s h = (h, silent)

  leaves : (n : ℕ) (c : Option Gathering) (s : PlainApp) (now : ℕ) (p : AppPlan) → Stands number k n c s → Leaves n c (turn_of s now p)
  leaves n c s now plan.Rest h = (h, silent)
  leaves n c s now plan.Return h = (h, (h, silent), λ b. (h, silent))
  leaves n c s now plan.Look h = (h, λ m d i t g. (g, silent))
  leaves n c s now plan.Take h = ((λ b. (h, silent)), (h, record { told = refl; refused = refl }))
  leaves n c s now plan.Give h = (h, (h, silent), λ b. (h, silent))
  leaves n c s now plan.Skip h = (h, silent)
  leaves n c s now (plan.Ask m) h = (h, (h, silent), λ i. (h, silent))
  leaves n c s now plan.Await h = (h, comes_answered)
  leaves n c s now plan.Fill h = ((λ b. (h, silent)), (h, silent))
  leaves n c s now plan.Push h = (h, comes_pushed n c (nat_lt (s.sent + 1) (batch s).count) s h, λ i. (h, silent))
  leaves n c s now (plan.Use slot packets) h = comes_received n c slot packets true false false s h
  leaves n c s now (plan.Receive slot packets rounds) h =
      (h, λ m d i t g. comes_received m d slot packets (is_enough slot packets t) (gives_up rounds now t) (slot_at t.slots slot).down t g)
  leaves n c s now (plan.Wait rounds) h = (h, λ m d i t g. comes_waited m d (has_passed rounds now t) t g)

  stands_until : (n : ℕ) (c : Option Gathering) (s : PlainApp) (t : Turn) → Leaves n c t → Stands number k n c s → Stands number k n c (until_told s t)
  stands_until n c s (rests told) l h = h
  stands_until n c s (takes taken none) l h = h
  stands_until n c s (gives b until given back) l h = l.0
  stands_until n c s (pushes i until pushed back) l h = l.0
  stands_until n c s (pops until look) l h = l.0

  -- ---- what came of a turn

  -- it popped nothing
  record IsQuiet (n : ℕ) (c : Option Gathering) (op : OpShown) (a : AnswerShown) (t : ToldApp) : Type 0 where
    pub none : got_by (queue.Down number) op a ≡ []
    pub comes : Comes n c t

  -- it popped an item, in this state
  record HasPopped (n : ℕ) (c : Option Gathering) (s : PlainApp) (op : OpShown) (a : AnswerShown) (t : ToldApp) : Type 0 where
    pub got : ItemShown
    pub one : got_by (queue.Down number) op a ≡ got ∷ []
    pub rest : List Event
    pub events : t.events ≡ took got s.collectors s.slots ++ rest
    pub silence : IsSilent k o rest
    pub state : Stands number k (ends_by k n got) (collector_by k got c) t.state

  abbrev HasGone : ℕ → Option Gathering → PlainApp → OpShown → AnswerShown → ToldApp → Type 0
  HasGone n c s op a t = IsQuiet n c op a t ⊎ HasPopped n c s op a t

  stands_popped : (n : ℕ) (c : Option Gathering) (i : ItemShown) (s : PlainApp) → Stands number k n c s → Stands number k (ends_by k n i) (collector_by k i c) (popped i s)
  stands_popped n c i s h = (h.0, knows_after k n c i s.collectors s.slots h.1, collector_after k c i s.collectors h.2)

  -- a turn pops in whatever state it is told, or in none
  abbrev IsLike : Turn → Turn → Type 0
  IsLike (pops _ _) (pops _ _) = ⊤
  IsLike (pops _ _) _ = ⊥
  IsLike _ (pops _ _) = ⊥
  IsLike _ _ = ⊤

  alike : (s t : PlainApp) (now : ℕ) (p : AppPlan) → IsLike (turn_of s now p) (turn_of t now p)
  alike s t now plan.Rest = tt
  alike s t now _ = tt

  -- one that doesn't pop comes to something of its own, whatever it is answered
  comes_so : (n : ℕ) (c : Option Gathering) (s : PlainApp) (t : Turn) (a : AnswerShown) → IsLike (rests (told_of s t a)) t → Leaves n c t → Stands number k n c s → Comes n c (told_of s t a)
  comes_so n c s (rests told) answer.Nothing e l h = l
  comes_so n c s (takes taken none) (answer.Taken b) e l h = l.0 b
  comes_so n c s (takes taken none) answer.NoBuffer e l h = l.1
  comes_so n c s (gives b until given back) answer.Given e l h = l.1
  comes_so n c s (gives b until given back) (answer.PoolFull x) e l h = l.2 x
  comes_so n c s (pushes i until pushed back) answer.Pushed e l h = l.1
  comes_so n c s (pushes i until pushed back) (answer.Full x) e l h = l.2 x
  comes_so n c s (pops until look) a e l h = absurd e
  comes_so n c s _ _ e l h = (h, silent)

  giving_gets : (b : Option Content) (a : AnswerShown) → got_by (queue.Down number) (giving_op b) a ≡ []
  giving_gets None a = refl
  giving_gets (Some b) a = refl

  pushing_gets : (i : Option ItemShown) (a : AnswerShown) → got_by (queue.Down number) (pushing_op number i) a ≡ []
  pushing_gets None a = refl
  pushing_gets (Some i) a = refl

  goes : (n : ℕ) (c : Option Gathering) (s : PlainApp) (t u : Turn) (a : AnswerShown) → IsLike t u → Leaves n c u → Stands number k n c s → HasGone n c s (op_of number t) a (told_of s u a)
  goes n c s (rests told) u a e l h = inl (record { none = refl; comes = comes_so n c s u a e l h })
  goes n c s (takes taken none) u a e l h = inl (record { none = refl; comes = comes_so n c s u a e l h })
  goes n c s (gives b until given back) u a e l h = inl (record { none = giving_gets b a; comes = comes_so n c s u a e l h })
  goes n c s (pushes i until pushed back) u a e l h = inl (record { none = pushing_gets i a; comes = comes_so n c s u a e l h })
  goes n c s (pops until look) (pops before next) (answer.Popped i) e l h =
      let came : Comes (ends_by k n i) (collector_by k i c) (next (note_in i) (popped i s)) = l.1 (ends_by k n i) (collector_by k i c) (note_in i) (popped i s) (stands_popped n c i s h) in
      inr (record {
        got = i;
        one = ap (λ b. if b then i ∷ [] else []) (eq-eqb number number refl);
        rest = (next (note_in i) (popped i s)).events;
        events = refl;
        silence = came.1;
        state = came.0;
      })
  goes n c s (pops until look) (pops before next) answer.Empty e l h = inl (record { none = refl; comes = l.1 n c None s h })
  goes n c s (pops until look) (pops before next) _ e l h = inl (record { none = refl; comes = (h, silent) })
  goes n c s (pops until look) _ a e l h = absurd e

  -- so goes each turn
  step_goes : (n : ℕ) (c : Option Gathering) (s : PlainApp) (now : ℕ) (a : AnswerShown) → Stands number k n c s
      → Stands number k n c (at_rest (asked s now)) × HasGone n c (at_rest (asked s now)) (asks s now) a (told_of (at_rest (asked s now)) (turn_of (at_rest (asked s now)) now (plan_of s)) a)
  step_goes n c s now a h =
      let rest : PlainApp = at_rest (asked s now) in
      let until : Stands number k n c rest = stands_until n c s (turn_of s now (plan_of s)) (leaves n c s now (plan_of s) h) h in
      let u : Turn = turn_of rest now (plan_of s) in (
        until,
        subst (λ j. HasGone n c rest (op_of j (turn_of s now (plan_of s))) a (told_of rest u a)) (sym h.0)
            (goes n c rest (turn_of s now (plan_of s)) u a (alike s rest now (plan_of s)) (leaves n c rest now (plan_of s) until) until),
      )

  -- ---- the run

  -- what a turn tells, and then what later ones tell
  then_tells : (n : ℕ) (c : Option Gathering) (s : PlainApp) (op : OpShown) (a : AnswerShown) (t : ToldApp) (js : List ItemShown) (es : List Event) → Stands number k n c s → HasGone n c s op a t
      → ((m : ℕ) (d : Option Gathering) → Stands number k m d t.state → TellsOf k o m d js es) → TellsOf k o n c (got_by (queue.Down number) op a ++ js) (t.events ++ es)
  then_tells n c s op a t js es h (inl quiet) later =
      subst (λ is. TellsOf k o n c (is ++ js) (t.events ++ es)) (sym quiet.none)
      (tells_append k o t.events es [] (blobs_by (begun_with (n == o) c) (payloads_from k o n js)) [] (refusals_by (begun_with (n == o) c) (payloads_from k o n js)) quiet.comes.1 (later n c quiet.comes.0))
  then_tells n c s op a t js es h (inr pop) later =
      let m : ℕ = ends_by k n pop.got in
      let d : Option Gathering = collector_by k pop.got c in
      let after : TellsOf k o m d js (pop.rest ++ es) =
      tells_append k o pop.rest es [] (blobs_by (begun_with (m == o) d) (payloads_from k o m js)) [] (refusals_by (begun_with (m == o) d) (payloads_from k o m js)) pop.silence (later m d pop.state) in
      let told : List Event = took pop.got s.collectors s.slots in
      subst (λ is. TellsOf k o n c (is ++ js) (t.events ++ es)) (sym pop.one)
      (subst (TellsOf k o n c (pop.got ∷ js)) (sym (append_assoc told pop.rest es) ∙ ap (λ xs. xs ++ es) (sym pop.events))
      (item_tells k o n c pop.got s.collectors s.slots js (pop.rest ++ es) h.1 h.2 after))

  run_tells : (es : List Entry) (n : ℕ) (c : Option Gathering) (time : ℕ) (s : PlainApp) → IsRun app_steps time s es → Stands number k n c s → TellsOf k o n c (gets (queue.Down number) es) (all_events es)
  run_tells [] n c time s run h =
      tells_same k o [] [] (blobs_by (begun_with (n == o) c) []) [] (refusals_by (begun_with (n == o) c) []) (sym (blobs_of_none (begun_with (n == o) c))) (sym (refusals_of_none (begun_with (n == o) c))) silent
  run_tells (e ∷ es) n c time s run h =
      let rest : PlainApp = at_rest (asked s e.time) in
      let t : ToldApp = told_of rest (turn_of rest e.time (plan_of s)) e.answer in
      let gone = step_goes n c s e.time e.answer h in
      let told : TellsOf k o n c (got_by (queue.Down number) (asks s e.time) e.answer ++ gets (queue.Down number) es) (t.events ++ all_events es) =
      then_tells n c rest (asks s e.time) e.answer t (gets (queue.Down number) es) (all_events es) gone.0 gone.1 (λ m d g. run_tells es m d e.time (step_after app_steps s e) run.2 g) in
      subst (λ op. TellsOf k o n c (got_by (queue.Down number) op e.answer ++ gets (queue.Down number) es) (e.events.items ++ all_events es)) (sym run.1.op)
      (subst (λ xs. TellsOf k o n c (got_by (queue.Down number) (asks s e.time) e.answer ++ gets (queue.Down number) es) (xs ++ all_events es)) (sym run.1.events) told)

-- ---- from its opening

-- what a slot has at first
collector_first : (steps : List PlainStep) (k : ℕ) → k < SLOTS → collector_at (collectors_for steps) k ≡ collector_for steps k
collector_first steps k low = get_or-map-range_with_len (collector_for steps) 0 SLOTS k k None low (omega arith)

no_collector : (steps : List PlainStep) (k : ℕ) → collector_for steps k ≡ None → collector_at (collectors_for steps) k ≡ None
no_collector steps k none = by (leb_tells SLOTS k)
  where
    few : SLOTS ≤ k → length (collectors_for steps) ≤ k
    few far = subst (λ m. m ≤ k) (sym (length-map-range_with_len (collector_for steps) 0 SLOTS)) far

    by : ((nat_le SLOTS k ≡ true) × (SLOTS ≤ k)) ⊎ ((nat_le SLOTS k ≡ false) × (k < SLOTS)) → collector_at (collectors_for steps) k ≡ None
    by (inl far) = get_or_past (collectors_for steps) k None (few far.1)
    by (inr low) = collector_first steps k low.1 ∙ none

slot_first : (k : ℕ) → k < SLOTS → Knows k 0 (Some nothing) (replicate SLOTS fresh)
slot_first k low = (low, ap (λ (s : KnownSlot). s.ordinal) (get_or-replicate SLOTS k fresh fresh low))

-- a connection's own collector is one that begins with nothing
begins_with_nothing : (b : Bool) → begun_with b (Some nothing) ≡ Some nothing
begins_with_nothing true = refl
begins_with_nothing false = refl

begins_without : (b : Bool) → begun_with b None ≡ None
begins_without true = refl
begins_without false = refl

pub collects : AreTrueApps → AreCollected
collects true_apps number steps es log = record {
  collects = λ k o low collector.
      let items : List ItemShown = gets (queue.Down number) es in
      let taken : List (List ℕ) = record_payloads.took (seat number k) o es in
      let same : payloads_from k o 0 items ≡ taken = sym ((true_apps number steps es log).takes k o) in
      tells_same k o (all_events es) (blobs_by (begun_with (0 == o) (Some nothing)) (payloads_from k o 0 items)) (blobs_by (Some nothing) taken)
      (refusals_by (begun_with (0 == o) (Some nothing)) (payloads_from k o 0 items)) (refusals_by (Some nothing) taken)
      (λ i. blobs_by (begins_with_nothing (0 == o) i) (same i)) (λ i. refusals_by (begins_with_nothing (0 == o) i) (same i))
      (run_tells number k o es 0 (Some nothing) 0 (opening number steps) log (refl, slot_first k low, collector_first steps k low ∙ collector));
  others = λ k o none.
      let ps : List (List ℕ) = payloads_from k o 0 (gets (queue.Down number) es) in
      tells_same k o (all_events es) (blobs_by (begun_with (0 == o) None) ps) [] (refusals_by (begun_with (0 == o) None) ps) []
      (ap (λ d. blobs_by d ps) (begins_without (0 == o))) (ap (λ d. refusals_by d ps) (begins_without (0 == o)))
      (run_tells number k o es 0 None 0 (opening number steps) log (refl, tt, no_collector steps k none));
}
