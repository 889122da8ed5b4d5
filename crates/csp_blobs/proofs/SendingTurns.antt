-- The turns of an application push what is ahead in its script, item by item.
use Rattle.std.proofs.Common.{◌≡◌, ℕ, ◌+◌, Bool, true, false, Option, Some, None, List, [], ◌∷◌, ◌++◌, drop, map, slice_get, refl, sym, ap, ◌∙◌, subst, append_assoc}
use Rattle.std.specs.Prelude.{nat_lt, IfSome, if◌then◌else◌, ⊤}
use Rattle.std.specs.List.{AllByRecursion, flat_map}
use Rattle.std.specs.Option.{option_map}
use Rattle.std.proofs.lemmas.Bool.{eq-eqb, ltb-false, ltb-true}
use Rattle.std.proofs.lemmas.List.{map-append}
use Rattle.csp_app.specs.Asking.{asked, asks, handed}
use Rattle.csp_app.specs.Making.{mark_in, note_in, packet_in}
use Rattle.csp_app.specs.PlainApp.{PlainApp}
use Rattle.csp_app.specs.PlainStep.{PlainStep}
use Rattle.csp_app.specs.PlainStep as step
use Rattle.csp_app.specs.Slots.{slot_at, used_on}
use Rattle.csp_app.specs.Steps.{answered, batch, first_rule, gives_up, give_plan, has_passed, is_enough, note_plan, packet_plan, plan_of, pushed_one, recv_end, recv_plan, step_plan, turn_of, wait_end}
use Rattle.csp_app.specs.Telling.{at_rest, tells, told_by}
use Rattle.csp_app.specs.ToldApp.{next}
use Rattle.csp_app.specs.Turn.{Turn, gives, giving_op, op_of, popped, pops, pushes, pushing_op, rests, takes, told_of, until_told}
use Rattle.csp_app.specs.declared.plan.AppPlan.{AppPlan}
use Rattle.csp_app.specs.declared.plan.AppPlan.TheVariants as plan
use Rattle.csp_buffer.specs.Content.{Content}
use Rattle.csp_deck.specs.Runs.{IsRun, state_after, step_after}
use Rattle.csp_log.specs.Pictures.{Fits}
use Rattle.csp_log.specs.declared.entry.Entry.{Entry}
use Rattle.csp_log.specs.declared.note.Note.{Note}
use Rattle.csp_log.specs.declared.note.Note.TheVariants as note
use Rattle.csp_log.specs.declared.places.QueueId.{QueueId}
use Rattle.csp_log.specs.declared.places.QueueId.TheVariants as queue
use Rattle.csp_log.specs.declared.shown.AnswerShown.{AnswerShown}
use Rattle.csp_log.specs.declared.shown.AnswerShown.TheVariants as answer
use Rattle.csp_log.specs.declared.shown.ItemShown.{ItemShown}
use Rattle.csp_log.specs.declared.shown.ItemShown.TheVariants as item
use Rattle.csp_log.specs.declared.shown.OpShown.{OpShown}
use Rattle.csp_log.specs.declared.shown.OpShown.TheVariants as op
use Rattle.csp_scene.specs.Ranges.{IsStep}
use Rattle.csp_consistent.specs.Reading.{put_by, puts}
use Rattle.csp_prefix.specs.Apps.{app_steps}
use Rattle.csp_blobs.specs.Sending.{pushed_by, unnumbered}
use Rattle.csp_blobs.proofs.SendingSteps.{IsDue, IsMade, ahead, ahead_at, ahead_first, ahead_next, ahead_none, due_first, sends_at}

-- ---- the plan of a turn

-- a step that pushes nothing more, and has made nothing
abbrev IsQuiet : Option PlainStep → Bool → ℕ → Option Content → Type 0
IsQuiet found asked sent made = (ahead_at asked sent found ≡ []) × (made ≡ None)

-- a plan fits the present step, as far as it has come: it asks what is ahead, it sends, or the step pushes nothing more
abbrev PlansSo : Option PlainStep → Bool → ℕ → Option Content → AppPlan → Type 0
PlansSo found asked sent made plan.Rest = ⊤
PlansSo found asked sent made plan.Return = ⊤
PlansSo found asked sent made plan.Look = ⊤
PlansSo found asked sent made (plan.Ask n) = (asked ≡ false) × (ahead_at false sent found ≡ item.Note n ∷ []) × (ahead_at true sent found ≡ [])
PlansSo found asked sent made plan.Fill = sends_at found ≡ true
PlansSo found asked sent made plan.Push = sends_at found ≡ true
PlansSo found asked sent made _ = IsQuiet found asked sent made

note_so : (found : Option PlainStep) (sent : ℕ) (made : Option Content) (n : Note) (asked : Bool) → ahead_at false sent found ≡ item.Note n ∷ [] → ahead_at true sent found ≡ [] → made ≡ None
    → PlansSo found asked sent made (note_plan asked n)
note_so found sent made n false one none m = (refl, one, none)
note_so found sent made n true one none m = (none, m)

packet_so : (found : Option PlainStep) (asked : Bool) (sent : ℕ) (made packet : Option Content) → sends_at found ≡ true → PlansSo found asked sent made (packet_plan packet)
packet_so found asked sent made None e = e
packet_so found asked sent made (Some b) e = e

give_so : (found : Option PlainStep) (asked : Bool) (sent : ℕ) (made : Option Content) (held : List Content) → IsQuiet found asked sent made → PlansSo found asked sent made (give_plan held)
give_so found asked sent made [] q = q
give_so found asked sent made (b ∷ bs) q = q

recv_so : (found : Option PlainStep) (asked : Bool) (sent : ℕ) (made : Option Content) (slot packets : ℕ) (rounds since : Option ℕ) (enough : Bool) → IsQuiet found asked sent made
    → PlansSo found asked sent made (recv_plan slot packets rounds since enough)
recv_so found asked sent made slot packets rounds None true q = q
recv_so found asked sent made slot packets rounds None false q = q
recv_so found asked sent made slot packets rounds (Some time) enough q = q

-- a step that doesn't send has made nothing
none_made : (found : Option PlainStep) (sent mark : ℕ) (made : Option Content) → sends_at found ≡ false → IfSome made (λ b. IsMade found sent (item.Packet mark b)) → made ≡ None
none_made found sent mark None e h = refl
none_made found sent mark (Some b) e h = absurd (cc (e, h.0))

step_so : (s : PlainApp) (found : Option PlainStep) → IfSome s.made (λ b. IsMade found s.sent (item.Packet s.mark b)) → PlansSo found s.asked s.sent s.made (step_plan s found)
step_so s None h = tt
step_so s (Some step.Take) h = (refl, none_made (Some step.Take) s.sent s.mark s.made refl h)
step_so s (Some step.Give) h = give_so (Some step.Give) s.asked s.sent s.made s.held (refl, none_made (Some step.Give) s.sent s.mark s.made refl h)
step_so s (Some (step.Bind port need)) h =
    note_so (Some (step.Bind port need)) s.sent s.made (note.Bind port need) s.asked refl refl (none_made (Some (step.Bind port need)) s.sent s.mark s.made refl h)
step_so s (Some (step.Connect slot dest port prio flags from)) h =
    note_so (Some (step.Connect slot dest port prio flags from)) s.sent s.made (note.Connect slot dest port prio flags from) s.asked refl refl
    (none_made (Some (step.Connect slot dest port prio flags from)) s.sent s.mark s.made refl h)
step_so s (Some (step.Send slot bytes)) h = packet_so (Some (step.Send slot bytes)) s.asked s.sent s.made s.made refl
step_so s (Some (step.Burst slot count len)) h = packet_so (Some (step.Burst slot count len)) s.asked s.sent s.made s.made refl
step_so s (Some (step.Blob slot len size)) h = packet_so (Some (step.Blob slot len size)) s.asked s.sent s.made s.made refl
step_so s (Some (step.Raw header bytes)) h = packet_so (Some (step.Raw header bytes)) s.asked s.sent s.made s.made refl
step_so s (Some (step.Recv slot count rounds)) h =
    recv_so (Some (step.Recv slot count rounds)) s.asked s.sent s.made slot count rounds s.since (is_enough slot count s)
    (refl, none_made (Some (step.Recv slot count rounds)) s.sent s.mark s.made refl h)
step_so s (Some (step.Collect slot count rounds)) h =
    recv_so (Some (step.Collect slot count rounds)) s.asked s.sent s.made slot count rounds s.since (is_enough slot count s)
    (refl, none_made (Some (step.Collect slot count rounds)) s.sent s.mark s.made refl h)
step_so s (Some (step.Close slot)) h =
    note_so (Some (step.Close slot)) s.sent s.made (note.Close slot) s.asked refl refl (none_made (Some (step.Close slot)) s.sent s.mark s.made refl h)
step_so s (Some (step.Wait rounds)) h = (refl, none_made (Some (step.Wait rounds)) s.sent s.mark s.made refl h)

first_so : (found : Option PlainStep) (asked : Bool) (sent : ℕ) (made taken : Option Content) (refused : Bool) (own : AppPlan) → PlansSo found asked sent made own
    → PlansSo found asked sent made (first_rule taken refused own)
first_so found asked sent made (Some b) refused own h = tt
first_so found asked sent made None true own h = tt
first_so found asked sent made None false own h = h

abbrev PlansOf : PlainApp → AppPlan → Type 0
PlansOf s p = PlansSo (slice_get s.steps s.done) s.asked s.sent s.made p

-- a turn of this plan pushes nothing
abbrev IsCalm : AppPlan → Type 0
IsCalm (plan.Ask _) = ⊥
IsCalm plan.Push = ⊥
IsCalm _ = ⊤

-- ---- an application whose script has this ahead

module _ (number : ℕ) (steps : List PlainStep) (all : AllByRecursion IsStep steps) where
  abbrev pub Stands : List ItemShown → PlainApp → Type 0
  Stands is s =
      (s.number ≡ number) × (s.steps ≡ steps) × IfSome s.made (λ b. IsMade (slice_get s.steps s.done) s.sent (item.Packet s.mark b)) × IsDue (slice_get s.steps s.done) s.sent
      × (ahead s.steps s.asked s.sent s.done ≡ is)

  plan_so : (is : List ItemShown) (s : PlainApp) → Stands is s → PlansOf s (plan_of s)
  plan_so is s h =
      first_so (slice_get s.steps s.done) s.asked s.sent s.made s.taken s.refused (step_plan s (slice_get s.steps s.done)) (step_so s (slice_get s.steps s.done) h.2)

  -- what is ahead after the present step
  abbrev later : PlainApp → List ItemShown
  later s = flat_map pushed_by (drop (s.done + 1) s.steps)

  -- the next step is the present one
  stands_next : (s : PlainApp) → (s.number ≡ number) → (s.steps ≡ steps) → s.made ≡ None → Stands (later s) (next s)
  stands_next s own script none = (
    own,
    script,
    subst (λ m. IfSome m (λ b. IsMade (slice_get s.steps (s.done + 1)) 0 (item.Packet s.mark b))) (sym none) tt,
    due_first s.steps (s.done + 1) (subst (λ xs. AllByRecursion IsStep xs) (sym script) all),
    ahead_first s.steps (s.done + 1),
  )

  stands_over : (is : List ItemShown) (s : PlainApp) → Stands is s → IsQuiet (slice_get s.steps s.done) s.asked s.sent s.made → Stands is (next s)
  stands_over is s h q =
      subst (λ js. Stands js (next s)) (sym (ap (λ js. js ++ later s) q.0) ∙ h.4) (stands_next s h.0 h.1 q.1)

  -- ---- a turn that pushes nothing

  abbrev Leaves : List ItemShown → AppPlan → Turn → Type 0
  Leaves is p (rests told) = Stands is told.state
  Leaves is p (takes taken none) = ((b : Content) → Stands is (taken b).state) × Stands is none.state
  Leaves is p (gives c until given back) = Stands is until × Stands is given.state × ((b : Content) → Stands is (back b).state)
  Leaves is p (pushes c until pushed back) = ⊥
  Leaves is p (pops until look) = Stands is until × ((n : Option Note) (s : PlainApp) → Stands is s → PlansOf s p → Stands is (look n s).state)

  stands_answered : (is : List ItemShown) (n : Option Note) (s : PlainApp) → Stands is s → PlansOf s plan.Await → Stands is (answered n s).state
  stands_answered is None s h q = h
  stands_answered is (Some note.Bound) s h q = stands_over is s h q
  stands_answered is (Some (note.Connected _)) s h q = stands_over is s h q
  stands_answered is (Some (note.Closed _)) s h q = stands_over is s h q
  stands_answered is (Some (note.Refused _)) s h q = stands_over is s h q
  stands_answered is (Some _) s h q = h

  stands_received : (is : List ItemShown) (slot packets : ℕ) (enough passed down : Bool) (s : PlainApp) → Stands is s → IsQuiet (slice_get s.steps s.done) s.asked s.sent s.made
      → Stands is (recv_end slot packets enough passed down s).state
  stands_received is slot packets true passed down s h q = stands_over is (record s { slots = used_on slot packets s.slots }) h q
  stands_received is slot packets false true down s h q = stands_over is s h q
  stands_received is slot packets false false true s h q = stands_over is s h q
  stands_received is slot packets false false false s h q = h

  stands_waited : (is : List ItemShown) (passed : Bool) (s : PlainApp) → Stands is s → IsQuiet (slice_get s.steps s.done) s.asked s.sent s.made → Stands is (wait_end passed s).state
  stands_waited is true s h q = stands_over is s h q
  stands_waited is false s h q = h

  leaves : (is : List ItemShown) (s : PlainApp) (now : ℕ) (p : AppPlan) → IsCalm p → Stands is s → PlansOf s p → Leaves is p (turn_of s now p)
  leaves is s now plan.Rest c h k = h
  leaves is s now plan.Return c h k = (h, h, λ b. h)
  leaves is s now plan.Look c h k = (h, λ n t g j. g)
  leaves is s now plan.Take c h k = ((λ b. stands_over is (record s { held = s.held ++ b ∷ [] }) h k), stands_over is s h k)
  leaves is s now plan.Give c h k = (h, stands_over is s h k, λ b. h)
  leaves is s now plan.Skip c h k = stands_over is s h k
  leaves is s now (plan.Ask n) c h k = absurd c
  leaves is s now plan.Await c h k = (h, stands_answered is)
  leaves is s now plan.Fill c h k = ((λ b. (h.0, h.1, (k, refl), h.3, h.4)), h)
  leaves is s now plan.Push c h k = absurd c
  leaves is s now (plan.Use slot packets) c h k = stands_over is (record s { slots = used_on slot packets s.slots }) h k
  leaves is s now (plan.Receive slot packets rounds) c h k =
      (h, λ n t g j. stands_received is slot packets (is_enough slot packets t) (gives_up rounds now t) (slot_at t.slots slot).down t g j)
  leaves is s now (plan.Wait rounds) c h k = (h, λ n t g j. stands_waited is (has_passed rounds now t) t g j)

  stands_told : (is : List ItemShown) (p : AppPlan) (s : PlainApp) (t : Turn) (a : AnswerShown) → Leaves is p t → Stands is s → PlansOf s p → Stands is (told_of s t a).state
  stands_told is p s (rests told) answer.Nothing l h k = l
  stands_told is p s (takes taken none) (answer.Taken b) l h k = l.0 b
  stands_told is p s (takes taken none) answer.NoBuffer l h k = l.1
  stands_told is p s (gives c until given back) answer.Given l h k = l.1
  stands_told is p s (gives c until given back) (answer.PoolFull b) l h k = l.2 b
  stands_told is p s (pushes c until pushed back) a l h k = absurd l
  stands_told is p s (pops until look) (answer.Popped i) l h k = l.1 (note_in i) (popped i s) h k
  stands_told is p s (pops until look) answer.Empty l h k = l.1 None s h k
  stands_told is p s _ _ l h k = h

  stands_until : (is : List ItemShown) (p : AppPlan) (s : PlainApp) (t : Turn) → Leaves is p t → Stands is s → Stands is (until_told s t)
  stands_until is p s (rests told) l h = h
  stands_until is p s (takes taken none) l h = h
  stands_until is p s (gives c until given back) l h = l.0
  stands_until is p s (pushes c until pushed back) l h = absurd l
  stands_until is p s (pops until look) l h = l.0

  -- until it is told, the plan fits as before
  plan_stays : (s : PlainApp) (now : ℕ) (p : AppPlan) → IsCalm p → PlansOf s p → PlansOf (handed s now p) p
  plan_stays s now (plan.Ask n) c k = absurd c
  plan_stays s now plan.Push c k = absurd c
  plan_stays s now _ c k = k

  giving_puts : (c : Option Content) (a : AnswerShown) → put_by (queue.Up number) (giving_op c) a ≡ []
  giving_puts None a = refl
  giving_puts (Some b) a = refl

  nothing_put : (is : List ItemShown) (p : AppPlan) (own : ℕ) (t : Turn) (a : AnswerShown) → Leaves is p t → put_by (queue.Up number) (op_of own t) a ≡ []
  nothing_put is p own (rests told) a l = refl
  nothing_put is p own (takes taken none) a l = refl
  nothing_put is p own (gives c until given back) a l = giving_puts c a
  nothing_put is p own (pushes c until pushed back) a l = absurd l
  nothing_put is p own (pops until look) a l = refl

  -- ---- what comes of a turn

  -- it pushed the first of what was ahead, if anything; what is left is ahead then
  record Goes (is : List ItemShown) (op : OpShown) (a : AnswerShown) (s : PlainApp) : Type 0 where
    pub left : List ItemShown
    pub same : is ≡ map unnumbered (put_by (queue.Up number) op a) ++ left
    pub stands : Stands left s

  -- the application until it is told, and when it is
  abbrev until : PlainApp → ℕ → AppPlan → PlainApp
  until s now p = at_rest (record (handed s now p) { doing = p })

  goes_calm : (is : List ItemShown) (s : PlainApp) (now : ℕ) (p : AppPlan) (a : AnswerShown) → IsCalm p → Stands is s → PlansOf s p
      → Goes is (op_of s.number (turn_of s now p)) a (told_by (until s now p) now p a).state
  goes_calm is s now p a c h k =
      let before : Leaves is p (turn_of s now p) = leaves is s now p c h k in
      let rest : PlainApp = until s now p in
      let stands : Stands is rest = stands_until is p s (turn_of s now p) before h in
      let planned : PlansOf rest p = plan_stays s now p c k in
      record {
        left = is;
        same = ap (λ js. map unnumbered js ++ is) (sym (nothing_put is p s.number (turn_of s now p) a before));
        stands = stands_told is p rest (turn_of rest now p) a (leaves is rest now p c stands planned) stands planned;
      }

  -- an item that is pushed is put there
  put_one : (own : ℕ) (i : ItemShown) → own ≡ number → put_by (queue.Up number) (op.Push (queue.Up own) i) answer.Pushed ≡ i ∷ []
  put_one own i e = ap (λ b. if b then i ∷ [] else []) (eq-eqb own number e)

  goes_ask : (is : List ItemShown) (s : PlainApp) (now : ℕ) (n : Note) (a : AnswerShown) → Stands is s → PlansOf s (plan.Ask n) → Fits (op.Push (queue.Up s.number) (item.Note n)) a
      → Goes is (op.Push (queue.Up s.number) (item.Note n)) a (told_by (until s now (plan.Ask n)) now (plan.Ask n) a).state
  goes_ask is s now n answer.Pushed h k f = record {
    left = later s;
    same = sym h.4 ∙ ap (λ b. ahead_at b s.sent (slice_get s.steps s.done) ++ later s) k.0 ∙ ap (λ js. js ++ later s) k.1
        ∙ ap (λ js. map unnumbered js ++ later s) (sym (put_one s.number (item.Note n) h.0));
    stands = (h.0, h.1, h.2, h.3, ap (λ js. js ++ later s) k.2);
  }
  goes_ask is s now n (answer.Full i) h k f = record { left = is; same = refl; stands = h }
  goes_ask is s now n _ h k f = absurd f

  -- one more packet of the step was pushed
  stands_pushed : (s : PlainApp) (more : Bool) → s.number ≡ number → s.steps ≡ steps → s.made ≡ None → sends_at (slice_get s.steps s.done) ≡ true → nat_lt (s.sent + 1) (batch s).count ≡ more
      → Stands (ahead_at s.asked (s.sent + 1) (slice_get s.steps s.done) ++ later s) (pushed_one more s).state
  stands_pushed s true own script none sends e = (
    own,
    script,
    subst (λ m. IfSome m (λ b. IsMade (slice_get s.steps s.done) (s.sent + 1) (item.Packet s.mark b))) (sym none) tt,
    (λ _. ltb-true (s.sent + 1) (batch s).count e),
    refl,
  )
  stands_pushed s false own script none sends e =
      subst (λ js. Stands js (next s))
      (ap (λ js. js ++ later s) (sym (ahead_none s.asked (s.sent + 1) (slice_get s.steps s.done) sends (ltb-false (s.sent + 1) (batch s).count e))))
      (stands_next s own script none)

  -- what came back was made as before
  made_back : (found : Option PlainStep) (sent : ℕ) (i j : ItemShown) → i ≡ j → IsMade found sent j → IfSome (packet_in i) (λ b. IsMade found sent (item.Packet (mark_in i) b))
  made_back found sent (item.Packet mark b) j e made = subst (IsMade found sent) (sym e) made
  made_back found sent (item.Frame f) j e made = tt
  made_back found sent (item.Note n) j e made = tt

  goes_push : (is : List ItemShown) (s : PlainApp) (now : ℕ) (made : Option Content) (a : AnswerShown) → Stands is s → IfSome made (λ b. IsMade (slice_get s.steps s.done) s.sent (item.Packet s.mark b))
      → sends_at (slice_get s.steps s.done) ≡ true → Fits (pushing_op s.number (option_map (λ b. item.Packet s.mark b) made)) a
      → Goes is (pushing_op s.number (option_map (λ b. item.Packet s.mark b) made)) a (told_by (until s now plan.Push) now plan.Push a).state
  goes_push is s now None answer.Nothing h m sends f = record { left = is; same = refl; stands = (h.0, h.1, tt, h.3, h.4) }
  goes_push is s now None _ h m sends f = absurd f
  goes_push is s now (Some b) answer.Pushed h m sends f =
      let found : Option PlainStep = slice_get s.steps s.done in
      let i : ItemShown = item.Packet s.mark b in
      let left : List ItemShown = ahead_at s.asked (s.sent + 1) found ++ later s in
      record {
        left = left;
        same = sym h.4 ∙ ap (λ js. js ++ later s) (ahead_next s.asked s.sent found i m h.3) ∙ ap (λ js. map unnumbered js ++ left) (sym (put_one s.number i h.0));
        stands = stands_pushed (until s now plan.Push) (nat_lt (s.sent + 1) (batch s).count) h.0 h.1 refl sends refl;
      }
  goes_push is s now (Some b) (answer.Full i) h m sends f =
      record { left = is; same = refl; stands = (h.0, h.1, made_back (slice_get s.steps s.done) s.sent i (item.Packet s.mark b) f m, h.3, h.4) }
  goes_push is s now (Some b) _ h m sends f = absurd f

  goes : (is : List ItemShown) (s : PlainApp) (now : ℕ) (p : AppPlan) (a : AnswerShown) → Stands is s → PlansOf s p → Fits (op_of s.number (turn_of s now p)) a
      → Goes is (op_of s.number (turn_of s now p)) a (told_by (until s now p) now p a).state
  goes is s now (plan.Ask n) a h k f = goes_ask is s now n a h k f
  goes is s now plan.Push a h k f = goes_push is s now s.made a h h.2 k f
  goes is s now p a h k f = goes_calm is s now p a tt h k

  step_goes : (is : List ItemShown) (s : PlainApp) (now : ℕ) (a : AnswerShown) → Stands is s → Fits (asks s now) a → Goes is (asks s now) a (tells (asked s now) now a)
  step_goes is s now a h f = goes is s now (plan_of s) a h (plan_so is s h) f

  -- ---- the run

  pub record HasGone (is : List ItemShown) (es : List Entry) (s : PlainApp) : Type 0 where
    pub left : List ItemShown
    pub same : is ≡ map unnumbered (puts (queue.Up number) es) ++ left
    pub stands : Stands left (state_after app_steps s es)

  pub run_goes : (is : List ItemShown) (es : List Entry) (time : ℕ) (s : PlainApp) → IsRun app_steps time s es → Stands is s → HasGone is es s
  run_goes is [] time s run h = record { left = is; same = refl; stands = h }
  run_goes is (e ∷ es) time s run h =
      let one : Goes is (asks s e.time) e.answer (step_after app_steps s e) = step_goes is s e.time e.answer h run.1.fits in
      let rest : HasGone one.left es (step_after app_steps s e) = run_goes one.left es e.time (step_after app_steps s e) run.2 one.stands in
      let q : QueueId = queue.Up number in
      let first : List ItemShown = put_by q e.op e.answer in
      record {
        left = rest.left;
        same = one.same ∙ ap (λ o. map unnumbered (put_by q o e.answer) ++ one.left) (sym run.1.op) ∙ ap (λ js. map unnumbered first ++ js) rest.same
            ∙ sym (append_assoc (map unnumbered first) (map unnumbered (puts q es)) rest.left) ∙ ap (λ js. js ++ rest.left) (sym (map-append unnumbered first (puts q es)));
        stands = rest.stands;
      }
