-- What routers, bridges and interfaces ask and put, by their own logs.
use Rattle.std.proofs.Common.{◌≡◌, ◌⊎◌, inl, inr, ℕ, zero, suc, ◌-◌, ◌<◌, ◌==◌, Bool, true, false, cond, Option, Some, None, List, [], ◌∷◌, slice_get, unwrap_or, refl, sym, ap, subst, arith}
use Rattle.std.specs.Prelude.{if◌then◌else◌, nat_le, IfSome, ⊤}
use Rattle.std.specs.List.{AllByRecursion, list_any}
use Rattle.std.proofs.lemmas.Bool.{eq-eqb, leb-true}
use Rattle.csp_base.specs.declared.seat.Seat.{Seat}
use Rattle.csp_bridge.specs.PlainBridge.{PlainBridge}
use Rattle.csp_bridge.specs.Turns as bridge_turns
use Rattle.csp_bridge.specs.declared.doing.Doing.{Doing}
use Rattle.csp_buffer.specs.Content.{Content}
use Rattle.csp_buffer.specs.PlainBuffer.{PlainBuffer}
use Rattle.csp_deck.specs.Carried.{IsUpItem}
use Rattle.csp_deck.specs.Runs.{IsRun, step_after}
use Rattle.csp_iface.specs.Asking as iface_asking
use Rattle.csp_iface.specs.PlainIface.{PlainIface}
use Rattle.csp_iface.specs.Planning as iface_planning
use Rattle.csp_iface.specs.Telling as iface_telling
use Rattle.csp_iface.specs.declared.plan.IfacePlan as iface_plans
use Rattle.csp_iface.specs.declared.plan.IfacePlan.TheVariants as iface_plan
use Rattle.csp_log.specs.Moving.{moved_by}
use Rattle.csp_log.specs.declared.entry.Entry.{Entry}
use Rattle.csp_log.specs.declared.frame.Frame.{Frame}
use Rattle.csp_log.specs.declared.places.LinkKind.{LinkKind}
use Rattle.csp_log.specs.declared.places.QueueId.{QueueId}
use Rattle.csp_log.specs.declared.places.QueueId.TheVariants as queue
use Rattle.csp_log.specs.declared.places.TheConstants.{UNMARKED}
use Rattle.csp_log.specs.declared.shown.ItemShown.{ItemShown}
use Rattle.csp_log.specs.declared.shown.ItemShown.TheVariants as item
use Rattle.csp_log.specs.declared.shown.OpShown.{OpShown}
use Rattle.csp_log.specs.declared.shown.OpShown.TheVariants as op
use Rattle.csp_log.specs.declared.shown.AnswerShown.{AnswerShown}
use Rattle.csp_log.specs.declared.shown.AnswerShown.TheVariants as answer
use Rattle.csp_party.specs.Any.{a_bridge, a_router, an_app, an_iface}
use Rattle.csp_app.specs.PlainApp.{PlainApp}
use Rattle.csp_ports.specs.declared.owed.Owed.{Owed}
use Rattle.csp_ports.specs.declared.task.Task.{Task}
use Rattle.csp_ports.specs.declared.task.Task.TheVariants as task
use Rattle.csp_ports.specs.Tasks.{next_task}
use Rattle.csp_ports.specs.PlainPorts.{machine_at}
use Rattle.csp_rdp.specs.Jobs.{delivery}
use Rattle.csp_record.specs.Transmissions.{fetched, is_beginning, shown_in}
use Rattle.csp_scene.proofs.Public.{AllByRecursion-append}
use Rattle.csp_stack.specs.Router.{Facts, Leaving, Router, State}
use Rattle.csp_stack.specs.Sources.{place_with_work}
use Rattle.csp_stack.specs.Turn.{delivering, giving, job_due, first_rule, plan_for, plan_of, pushing, replying, timed, turn_of, work_at, work_found}
use Rattle.csp_stack.specs.declared.plan.Plan.{Plan}
use Rattle.csp_stack.specs.declared.plan.Plan.TheVariants as plan
use Rattle.csp_stack.specs.declared.sources.Source.TheVariants as source
use Rattle.csp_prefix.specs.Apps.{app_steps}
use Rattle.csp_topology.specs.Parties.{iface_opening, party_steps}
use Rattle.csp_consistent.specs.Reading.{got_by, gets, is_queue, put_by, puts}
use Rattle.csp_prefix.specs.Routers.{ComesSo, IsHeard, IsOfKind, IsUntraced, PushesSo, router_steps}
use Rattle.csp_consistent.proofs.Public.{each_first, each_if, each_last, IsNamed, step_named}

-- ---- a party's run is that of what it is

pub router_run : (es : List Entry) (time : ℕ) (s : Router) → IsRun party_steps time (a_router s) es → IsRun router_steps time s es
router_run [] time s run = tt
router_run (e ∷ es) time s run = (run.0, record { goes_on = refl; op = run.1.op; fits = run.1.fits; events = run.1.events }, router_run es e.time (step_after router_steps s e) run.2)

pub app_run : (es : List Entry) (time : ℕ) (s : PlainApp) → IsRun party_steps time (an_app s) es → IsRun app_steps time s es
app_run [] time s run = tt
app_run (e ∷ es) time s run = (run.0, record { goes_on = run.1.goes_on; op = run.1.op; fits = run.1.fits; events = run.1.events }, app_run es e.time (step_after app_steps s e) run.2)

-- ---- a router pops the `Up` of its own applications alone

abbrev pub ServesOwn : ℕ → OpShown → Type 0
ServesOwn apps (op.Pop (queue.Up k)) = k < apps
ServesOwn apps _ = ⊤

abbrev PlansOwn : ℕ → Plan → Type 0
PlansOwn apps (plan.Serve k) = k < apps
PlansOwn apps _ = ⊤

own_job : (apps : ℕ) (seat : Seat) (t : Task) → PlansOwn apps (plan_for seat t)
own_job apps seat task.Tell = tt
own_job apps seat task.Deliver = tt
own_job apps seat (task.Make j) = tt

own_jobs : (apps : ℕ) (owed : List Owed) (t : Option (Seat × Task)) → PlansOwn apps (job_due owed t)
own_jobs apps (_ ∷ _) t = tt
own_jobs apps [] None = tt
own_jobs apps [] (Some t) = own_job apps t.0 t.1

own_work : (apps k : ℕ) (s : State) (time : ℕ) (first within : Bool) → (k == 0) ≡ first → nat_le k apps ≡ within
    → PlansOwn apps (work_at s time (cond first source.Inbox (cond within (source.App (k - 1)) source.Jobs)))
own_work apps k s time true within e f = tt
own_work apps zero s time false true e f = absurd cc
own_work apps (suc k) s time false true e f = omega (arith, leb-true (suc k) apps f)
own_work apps k s time false false e f = own_jobs apps s.ports.owed (next_task time s.ports)

own_found : (f : Facts) (s : State) (time : ℕ) (place : Option ℕ) → PlansOwn f.apps (work_found f s time place)
own_found f s time None = tt
own_found f s time (Some k) = own_work f.apps k s time (k == 0) (nat_le k f.apps) refl refl

own_plan : (apps : ℕ) (trash : List Content) (out : Option Leaving) (work : Plan) → PlansOwn apps work → PlansOwn apps (first_rule trash out work)
own_plan apps (_ ∷ _) out work h = tt
own_plan apps [] (Some o) work h = tt
own_plan apps [] None work h = h

own_op : (apps : ℕ) (f : Facts) (s : State) (time : ℕ) (p : Plan) → PlansOwn apps p → ServesOwn apps (turn_of f s time p).asks
own_op apps f s time plan.Rest h = tt
own_op apps f s time plan.Give h =
    by s.trash
  where
    by : (bs : List Content) → ServesOwn apps (giving bs)
    by [] = tt
    by (_ ∷ _) = tt
own_op apps f s time (plan.Push _ _) h =
    by s.out
  where
    by : (o : Option Leaving) → ServesOwn apps (pushing o)
    by None = tt
    by (Some o) = tt
own_op apps f s time plan.Hear h = tt
own_op apps f s time (plan.Serve k) h = h
own_op apps f s time (plan.Reply _) h =
    by s.ports.owed
  where
    by : (os : List Owed) → ServesOwn apps (replying os)
    by [] = tt
    by (_ ∷ _) = tt
own_op apps f s time (plan.Tell seat) h = tt
own_op apps f s time (plan.Deliver seat) h =
    by (delivery (machine_at s.ports seat))
  where
    by : (b : Option PlainBuffer) → ServesOwn apps (delivering b seat)
    by None = tt
    by (Some b) = tt
own_op apps f s time (plan.Make seat _) h = tt

own_asks : (f : Facts) (s : State) (time : ℕ) → ServesOwn f.apps (turn_of f s time (plan_of f s time)).asks
own_asks f s time = own_op f.apps f s time (plan_of f s time) (own_plan f.apps s.trash s.out (work_found f s time (place_with_work f s time)) (own_found f s time (place_with_work f s time)))

pub serves_own : (es : List Entry) (time : ℕ) (s : Router) → IsRun router_steps time s es → AllByRecursion (λ e. ServesOwn s.facts.apps e.op) es
serves_own [] time s run = tt
serves_own (e ∷ es) time s run = (subst (ServesOwn s.facts.apps) (sym run.1.op) (own_asks s.facts (timed s.state e.time) e.time), serves_own es e.time (step_after router_steps s e) run.2)

-- so what it popped from them is what they put there
comes_one : (apps : ℕ) (o : OpShown) (a : AnswerShown) → ServesOwn apps o
    → ((k : ℕ) → k < apps → AllByRecursion (λ i. IsUpItem i × IsUntraced i) (got_by (queue.Up k) o a)) → ComesSo o a
comes_one apps (op.Pop (queue.Up k)) (answer.Popped i) own got =
    (subst (λ c. AllByRecursion (λ i. IsUpItem i × IsUntraced i) (if c then i ∷ [] else [])) (eq-eqb k k refl) (got k own)).0
comes_one apps _ _ own got = tt

pub comes_so : (apps : ℕ) (es : List Entry) → AllByRecursion (λ e. ServesOwn apps e.op) es
    → ((k : ℕ) → k < apps → AllByRecursion (λ i. IsUpItem i × IsUntraced i) (gets (queue.Up k) es)) → AllByRecursion (λ e. ComesSo e.op e.answer) es
comes_so apps [] own got = tt
comes_so apps (e ∷ es) own got =
    let U : ItemShown → Type 0 = λ i. IsUpItem i × IsUntraced i in (
      comes_one apps e.op e.answer own.0 (λ k low. each_first U (got_by (queue.Up k) e.op e.answer) (gets (queue.Up k) es) (got k low)),
      comes_so apps es own.1 (λ k low. each_last U (got_by (queue.Up k) e.op e.answer) (gets (queue.Up k) es) (got k low)),
    )

-- ---- what a router puts

sent_one : (P R : Content → Type 0) (all : List Entry) (k : ℕ) (o : OpShown) (a : AnswerShown) → ((b : Content) → P b → R b) → ((b : Content) → IsHeard all b → R b)
    → PushesSo P all o a → AllByRecursion (IsOfKind R) (put_by (queue.Out k) o a)
sent_one P R all k (op.Push (queue.Out j) (item.Packet mark b)) answer.Pushed own heard so = each_if (IsOfKind R) (j == k) (item.Packet mark b) (chosen so)
  where
    chosen : P b ⊎ IsHeard all b → R b
    chosen (inl p) = own b p
    chosen (inr h) = heard b h
sent_one P R all k (op.Push queue.Inbox (item.Packet mark b)) answer.Pushed own heard so = tt
sent_one P R all k (op.Push (queue.Up j) (item.Packet mark b)) answer.Pushed own heard so = tt
sent_one P R all k (op.Push (queue.Down j) (item.Packet mark b)) answer.Pushed own heard so = tt
sent_one P R all k (op.Push (queue.Tx j) (item.Packet mark b)) answer.Pushed own heard so = tt
sent_one P R all k (op.Push (queue.Rx j) (item.Packet mark b)) answer.Pushed own heard so = tt
sent_one P R all k (op.Push q (item.Frame f)) answer.Pushed own heard so = each_if (IsOfKind R) (is_queue (queue.Out k) q) (item.Frame f) tt
sent_one P R all k (op.Push q (item.Note n)) answer.Pushed own heard so = each_if (IsOfKind R) (is_queue (queue.Out k) q) (item.Note n) tt
sent_one P R all k _ _ own heard so = tt

-- into an `Out`: packets of the kind that it sends, and those that it heard
pub router_sends : (P R : Content → Type 0) (all : List Entry) (k : ℕ) (es : List Entry) → ((b : Content) → P b → R b) → ((b : Content) → IsHeard all b → R b)
    → AllByRecursion (λ e. PushesSo P all e.op e.answer) es → AllByRecursion (IsOfKind R) (puts (queue.Out k) es)
router_sends P R all k [] own heard so = tt
router_sends P R all k (e ∷ es) own heard so =
    AllByRecursion-append (IsOfKind R) (put_by (queue.Out k) e.op e.answer) (puts (queue.Out k) es)
    (sent_one P R all k e.op e.answer own heard so.0) (router_sends P R all k es own heard so.1)

kept_one : (P : Content → Type 0) (all : List Entry) (o : OpShown) (a : AnswerShown) → PushesSo P all o a → AllByRecursion (IsOfKind P) (put_by queue.Inbox o a)
kept_one P all (op.Push queue.Inbox (item.Packet mark b)) answer.Pushed so = (so, tt)
kept_one P all (op.Push (queue.Out j) (item.Packet mark b)) answer.Pushed so = tt
kept_one P all (op.Push (queue.Up j) (item.Packet mark b)) answer.Pushed so = tt
kept_one P all (op.Push (queue.Down j) (item.Packet mark b)) answer.Pushed so = tt
kept_one P all (op.Push (queue.Tx j) (item.Packet mark b)) answer.Pushed so = tt
kept_one P all (op.Push (queue.Rx j) (item.Packet mark b)) answer.Pushed so = tt
kept_one P all (op.Push q (item.Frame f)) answer.Pushed so = each_if (IsOfKind P) (is_queue queue.Inbox q) (item.Frame f) tt
kept_one P all (op.Push q (item.Note n)) answer.Pushed so = each_if (IsOfKind P) (is_queue queue.Inbox q) (item.Note n) tt
kept_one P all _ _ so = tt

-- into its own inbox: packets of the kind that it sends alone
pub router_keeps : (P : Content → Type 0) (all es : List Entry) → AllByRecursion (λ e. PushesSo P all e.op e.answer) es → AllByRecursion (IsOfKind P) (puts queue.Inbox es)
router_keeps P all [] so = tt
router_keeps P all (e ∷ es) so =
    AllByRecursion-append (IsOfKind P) (put_by queue.Inbox e.op e.answer) (puts queue.Inbox es) (kept_one P all e.op e.answer so.0) (router_keeps P all es so.1)

-- ---- what a bridge puts: what it got from its inbox

bridge_put : (R : Content → Type 0) (q : QueueId) (trash out : Option Content) (to : ℕ) (doing : Doing) (a : AnswerShown) → IfSome out R
    → let s : PlainBridge = record { trash = trash; out = out; to = to; doing = doing } in AllByRecursion (IsOfKind R) (put_by q (bridge_turns.asks s) a)
bridge_put R q (Some t) out to doing a h = tt
bridge_put R q None (Some b) to doing answer.Pushed h = each_if (IsOfKind R) (is_queue q (queue.Out to)) (item.Packet UNMARKED b) h
bridge_put R q None (Some b) to doing _ h = tt
bridge_put R q None None to doing a h = tt

bridge_heard : (R : Content → Type 0) (i : ItemShown) (s : PlainBridge) → IfSome s.out R → IsOfKind R i → IfSome (bridge_turns.crossing s (answer.Popped i)).out R
bridge_heard R (item.Packet mark b) s h g = g
bridge_heard R (item.Frame _) s h g = h
bridge_heard R (item.Note _) s h g = h

bridge_full : (R : Content → Type 0) (i : ItemShown) (s : PlainBridge) → IfSome s.out R → IfSome (bridge_turns.discarded s (answer.Full i)).out R
bridge_full R (item.Packet mark b) s h = h
bridge_full R (item.Frame _) s h = h
bridge_full R (item.Note _) s h = h

bridge_out : (R : Content → Type 0) (trash out : Option Content) (to : ℕ) (doing : Doing) (a : AnswerShown) → IfSome out R
    → let s : PlainBridge = record { trash = trash; out = out; to = to; doing = doing } in AllByRecursion (IsOfKind R) (got_by queue.Inbox (bridge_turns.asks s) a)
    → IfSome (bridge_turns.tells (bridge_turns.asked s) a).out R
bridge_out R (Some t) out to doing answer.Given h got = h
bridge_out R (Some t) out to doing (answer.PoolFull b) h got = h
bridge_out R (Some t) out to doing _ h got = h
bridge_out R None (Some b) to doing answer.Pushed h got = tt
bridge_out R None (Some b) to doing (answer.Full i) h got = bridge_full R i (record { trash = None; out = None; to = to; doing = _ }) tt
bridge_out R None (Some b) to doing _ h got = tt
bridge_out R None None to doing (answer.Popped i) h got = bridge_heard R i (record { trash = None; out = None; to = to; doing = _ }) tt got.0
bridge_out R None None to doing answer.Empty h got = tt
bridge_out R None None to doing _ h got = tt

pub bridge_puts : (R : Content → Type 0) (q : QueueId) (es : List Entry) (time : ℕ) (s : PlainBridge) → IsRun party_steps time (a_bridge s) es → IfSome s.out R
    → AllByRecursion (IsOfKind R) (gets queue.Inbox es) → AllByRecursion (IsOfKind R) (puts q es)
bridge_puts R q [] time s run h got = tt
bridge_puts R q (e ∷ es) time s run h got =
    let now_got : AllByRecursion (IsOfKind R) (got_by queue.Inbox e.op e.answer) = each_first (IsOfKind R) (got_by queue.Inbox e.op e.answer) (gets queue.Inbox es) got in
    AllByRecursion-append (IsOfKind R) (put_by q e.op e.answer) (puts q es)
    (subst (λ o. AllByRecursion (IsOfKind R) (put_by q o e.answer)) (sym run.1.op) (bridge_put R q s.trash s.out s.to s.doing e.answer h))
    (bridge_puts R q es e.time (bridge_turns.tells (bridge_turns.asked s) e.answer) run.2
    (bridge_out R s.trash s.out s.to s.doing e.answer h (subst (λ o. AllByRecursion (IsOfKind R) (got_by queue.Inbox o e.answer)) run.1.op now_got))
    (each_last (IsOfKind R) (got_by queue.Inbox e.op e.answer) (gets queue.Inbox es) got))

-- and never into its inbox
inbox_free : (R : Content → Type 0) (trash out : Option Content) (to : ℕ) (doing : Doing) (a : AnswerShown) → let s : PlainBridge = record { trash = trash; out = out; to = to; doing = doing } in
    AllByRecursion (IsOfKind R) (put_by queue.Inbox (bridge_turns.asks s) a)
inbox_free R (Some t) out to doing a = tt
inbox_free R None (Some b) to doing answer.Pushed = tt
inbox_free R None (Some b) to doing _ = tt
inbox_free R None None to doing a = tt

pub bridge_keeps : (R : Content → Type 0) (es : List Entry) (time : ℕ) (s : PlainBridge) → IsRun party_steps time (a_bridge s) es → AllByRecursion (IsOfKind R) (puts queue.Inbox es)
bridge_keeps R [] time s run = tt
bridge_keeps R (e ∷ es) time s run =
    AllByRecursion-append (IsOfKind R) (put_by queue.Inbox e.op e.answer) (puts queue.Inbox es)
    (subst (λ o. AllByRecursion (IsOfKind R) (put_by queue.Inbox o e.answer)) (sym run.1.op) (inbox_free R s.trash s.out s.to s.doing e.answer))
    (bridge_keeps R es e.time (bridge_turns.tells (bridge_turns.asked s) e.answer) run.2)

-- ---- an interface fetches from its own `Out`

abbrev pub FetchesOwn : ℕ → OpShown → Type 0
FetchesOwn number (op.Pop (queue.Out k)) = k ≡ number
FetchesOwn number _ = ⊤

own_fetch : (number : ℕ) (s : PlainIface) (p : iface_plans.IfacePlan) → s.number ≡ number → FetchesOwn number (iface_asking.op_of s p)
own_fetch number s iface_plan.Rest e = tt
own_fetch number s iface_plan.Return e =
    by s.back
  where
    by : (b : Option Content) → FetchesOwn number (iface_asking.given b)
    by None = tt
    by (Some b) = tt
own_fetch number s iface_plan.Deliver e =
    by s.accepted
  where
    by : (b : Option Content) → FetchesOwn number (iface_asking.delivered s.number b)
    by None = tt
    by (Some b) = tt
own_fetch number s iface_plan.Take e = tt
own_fetch number s iface_plan.Transmit e =
    by (slice_get s.frames 0)
  where
    by : (f : Option Frame) → FetchesOwn number (iface_asking.transmitted s.number f)
    by None = tt
    by (Some f) = tt
own_fetch number s iface_plan.Fetch e = e
own_fetch number s iface_plan.Receive e = tt

fetches_from : (node number : ℕ) (es : List Entry) (time : ℕ) (s : PlainIface) → IsRun party_steps time (an_iface s) es → IsNamed node number s → AllByRecursion (λ e. FetchesOwn number e.op) es
fetches_from node number [] time s run named = tt
fetches_from node number (e ∷ es) time s run named = (
  subst (FetchesOwn number) (sym run.1.op) (own_fetch number s (iface_planning.plan_of s) named.1),
  fetches_from node number es e.time (iface_telling.tells (iface_asking.asked s e.time) e.time e.answer) run.2 (step_named node number s e.time e.answer named),
)

-- what it shows in a transmission is what it got there
shown_one : (R : Content → Type 0) (number : ℕ) (c : Bool) (o : OpShown) (a : AnswerShown) (b : Content) → (if c then fetched (moved_by o a) else None) ≡ Some b → FetchesOwn number o
    → AllByRecursion (IsOfKind R) (got_by (queue.Out number) o a) → R b
shown_one R number false o a b e own got = absurd cc
shown_one R number true (op.Pop (queue.Out k)) (answer.Popped (item.Packet mark d)) b e own got =
    subst R (ap (λ x. unwrap_or x d) e) (subst (λ c. AllByRecursion (IsOfKind R) (if c then item.Packet mark d ∷ [] else [])) (eq-eqb k number own) got).0
shown_one R number true (op.Pop (queue.Up k)) (answer.Popped (item.Packet mark d)) b e own got = absurd cc
shown_one R number true (op.Pop (queue.Down k)) (answer.Popped (item.Packet mark d)) b e own got = absurd cc
shown_one R number true (op.Pop queue.Inbox) (answer.Popped (item.Packet mark d)) b e own got = absurd cc
shown_one R number true (op.Pop (queue.Tx k)) (answer.Popped (item.Packet mark d)) b e own got = absurd cc
shown_one R number true (op.Pop (queue.Rx k)) (answer.Popped (item.Packet mark d)) b e own got = absurd cc
shown_one R number true (op.Push q (item.Packet mark d)) answer.Pushed b e own got = absurd cc
shown_one R number true _ _ b e own got = absurd cc

shown_all : (R : Content → Type 0) (number serial : ℕ) (es : List Entry) → AllByRecursion (λ e. FetchesOwn number e.op) es → AllByRecursion (IsOfKind R) (gets (queue.Out number) es)
    → AllByRecursion (λ e. (b : Content) → shown_in serial e ≡ Some b → R b) es
shown_all R number serial [] own got = tt
shown_all R number serial (e ∷ es) own got = (
  λ b is. shown_one R number (list_any (is_beginning serial) e.events.items) e.op e.answer b is own.0 (each_first (IsOfKind R) (got_by (queue.Out number) e.op e.answer) (gets (queue.Out number) es) got),
  shown_all R number serial es own.1 (each_last (IsOfKind R) (got_by (queue.Out number) e.op e.answer) (gets (queue.Out number) es) got),
)

pub iface_shows : (R : Content → Type 0) (node number serial : ℕ) (kind : LinkKind) (mtu : ℕ) (heeds : Option ℕ) (es : List Entry) → IsRun party_steps 0 (an_iface (iface_opening node number kind mtu heeds)) es
    → AllByRecursion (IsOfKind R) (gets (queue.Out number) es) → AllByRecursion (λ e. (b : Content) → shown_in serial e ≡ Some b → R b) es
iface_shows R node number serial kind mtu heeds es run got = shown_all R number serial es (fetches_from node number es 0 (iface_opening node number kind mtu heeds) run (refl, refl)) got
