-- That a record counts no stale copy, where no router tells of one: no other party tells of a packet that was handed to a connection.
use Rattle.std.proofs.Common.{◌≡◌, ℕ, zero, suc, ◌+◌, ◌==◌, Bool, true, false, cond, Option, None, Some, List, [], ◌∷◌, count_by, flat_map, nat_lt, slice_get, unwrap_or, refl, sym, ap, ◌∙◌, subst}
use Rattle.std.proofs.lemmas.List.Sums.{sum_by-cons}
use Rattle.std.specs.List.{AllByRecursion}
use Rattle.std.specs.Prelude.{if◌then◌else◌, ⊤}
use Rattle.csp_app.specs.Asking as app_asking
use Rattle.csp_app.specs.Collecting.{collector_at}
use Rattle.csp_app.specs.PlainApp.{PlainApp}
use Rattle.csp_app.specs.Slots.{slot_at, took}
use Rattle.csp_app.specs.Steps.{answered, batch, gives_up, has_passed, is_enough, pushed_one, recv_end, turn_of, wait_end}
use Rattle.csp_app.specs.Telling as app_telling
use Rattle.csp_app.specs.ToldApp.{ToldApp}
use Rattle.csp_app.specs.Turn.{Turn, gives, pops, pushes, rests, takes, told_of}
use Rattle.csp_app.specs.declared.plan.AppPlan.{AppPlan}
use Rattle.csp_app.specs.declared.plan.AppPlan.TheVariants as app_plan
use Rattle.csp_bridge.specs.PlainBridge.{PlainBridge}
use Rattle.csp_bridge.specs.Turns as bridge_turns
use Rattle.csp_bridge.specs.declared.doing.Doing.{Doing}
use Rattle.csp_bridge.specs.declared.doing.Doing.TheVariants as doing
use Rattle.csp_buffer.specs.Content.{Content}
use Rattle.csp_deck.specs.Runs.{IsRun, step_after}
use Rattle.csp_iface.specs.Asking as iface_asking
use Rattle.csp_iface.specs.PlainIface.{PlainIface}
use Rattle.csp_iface.specs.Telling as iface_telling
use Rattle.csp_iface.specs.declared.plan.IfacePlan as iface_plans
use Rattle.csp_iface.specs.declared.plan.IfacePlan.TheVariants as iface_plan
use Rattle.csp_log.specs.PlainLog.{all_events}
use Rattle.csp_log.specs.declared.entry.Entry.{Entry}
use Rattle.csp_log.specs.declared.event.Event.{Event}
use Rattle.csp_log.specs.declared.event.Event.TheVariants as event
use Rattle.csp_log.specs.declared.note.Note.{Note}
use Rattle.csp_log.specs.declared.note.Note.TheVariants as note
use Rattle.csp_log.specs.declared.shown.AnswerShown.{AnswerShown}
use Rattle.csp_log.specs.declared.shown.AnswerShown.TheVariants as answer
use Rattle.csp_log.specs.declared.shown.ItemShown.{ItemShown}
use Rattle.csp_log.specs.declared.shown.ItemShown.TheVariants as item
use Rattle.csp_party.specs.Any.{PlainParty, a_bridge, a_hub, a_link, a_router, an_app, an_iface, asked, events, tells}
use Rattle.csp_prefix.proofs.Public.{blobs_so}
use Rattle.csp_record.specs.Record.{PlainPartyLog, PlainRecord}
use Rattle.csp_record.specs.Stale.{is_stale, stale}
use Rattle.csp_log.specs.declared.who.Who.{Who}
use Rattle.csp_log.specs.declared.who.Who.TheVariants as who
use Rattle.csp_scene.proofs.Public.{AllByRecursion-append}
use Rattle.csp_scene.specs.Scene.{PlainLink, PlainNode, PlainScene}
use Rattle.csp_topology.specs.Parties.{PlainOpening, link_party, parties_of, party_steps}
use Rattle.csp_consistent.specs.Reading.{entries_of}
use Rattle.csp_consistent.specs.Runs.{AreLogsOf, IsLogOf}
use Rattle.csp_consistent.proofs.Public.{each_at, each_there, are_apart, entries_at, entries_in, IsOf, IsOwner, are_owners}

-- ---- what tells of no stale copy

-- an event tells of no stale copy
abbrev IsClear : Event → Type 0
IsClear v = is_stale v ≡ false

-- nor does any of these
abbrev AreClear : List Event → Type 0
AreClear vs = AllByRecursion IsClear vs

-- nor any event of an entry
abbrev IsEntryClear : Entry → Type 0
IsEntryClear e = AreClear e.events.items

-- ---- a bridge

bridge_reports : (s : PlainBridge) (d : Doing) (a : AnswerShown) → AreClear ((bridge_turns.turn_of s d).reports a)
bridge_reports s doing.Send (answer.Full i) = (refl, tt)
bridge_reports s _ _ = tt

-- ---- an interface

taken_up_clear : (too_big : Bool) (mark : ℕ) (b : Content) (s : PlainIface) → AreClear (iface_telling.taken_up too_big mark b s).events
taken_up_clear true mark b s = (refl, tt)
taken_up_clear false mark b s = (refl, tt)

fetched_clear : (i : ItemShown) (s : PlainIface) → AreClear (iface_telling.fetched i s).events
fetched_clear (item.Packet mark b) s = taken_up_clear (iface_telling.is_too_big s b) mark b s
fetched_clear (item.Frame _) s = tt
fetched_clear (item.Note _) s = tt

caught_clear : (now : ℕ) (i : ItemShown) (s : PlainIface) → AreClear (iface_telling.caught now i s).events
caught_clear now (item.Frame f) s = tt
caught_clear now (item.Packet _ _) s = tt
caught_clear now (item.Note _) s = tt

iface_told : (s : PlainIface) (now : ℕ) (p : iface_plans.IfacePlan) (a : AnswerShown) → AreClear (iface_telling.after_answer s now p a).events
iface_told s now iface_plan.Return answer.Given = tt
iface_told s now iface_plan.Return (answer.PoolFull b) = tt
iface_told s now iface_plan.Deliver answer.Pushed = tt
iface_told s now iface_plan.Deliver (answer.Full i) = (refl, tt)
iface_told s now iface_plan.Take (answer.Taken b) = tt
iface_told s now iface_plan.Take answer.NoBuffer = (refl, tt)
iface_told s now iface_plan.Transmit answer.Pushed = tt
iface_told s now iface_plan.Transmit (answer.Full i) = tt
iface_told s now iface_plan.Fetch (answer.Popped i) = fetched_clear i s
iface_told s now iface_plan.Fetch answer.Empty = tt
iface_told s now iface_plan.Receive (answer.Popped i) = caught_clear now i s
iface_told s now iface_plan.Receive answer.Empty = tt
iface_told s now _ _ = tt

bad_clear : (n : ℕ) → AreClear (iface_telling.bad n)
bad_clear n =
    by (n == 0)
  where
    by : (none : Bool) → AreClear (if none then [] else event.Bad n ∷ [])
    by true = tt
    by false = (refl, tt)

iface_clear : (s : PlainIface) (now : ℕ) (a : AnswerShown) → AreClear (iface_telling.events s now a)
iface_clear s now a =
    AllByRecursion-append IsClear (iface_telling.concluded s now a).events (iface_telling.bad (iface_telling.concluded s now a).refused)
    (iface_told (iface_telling.resting s) now s.doing a) (bad_clear (iface_telling.concluded s now a).refused)

-- ---- an application

-- what a turn comes to tells of none
abbrev IsToldClear : ToldApp → Type 0
IsToldClear t = AreClear t.events

-- nor does all that a turn may come to
abbrev IsTurnClear : Turn → Type 0
IsTurnClear (rests told) = IsToldClear told
IsTurnClear (takes taken none) = ((b : Content) → IsToldClear (taken b)) × IsToldClear none
IsTurnClear (gives _ _ given back) = IsToldClear given × ((b : Content) → IsToldClear (back b))
IsTurnClear (pushes _ _ pushed back) = IsToldClear pushed × ((i : ItemShown) → IsToldClear (back i))
IsTurnClear (pops _ look) = (n : Option Note) (s : PlainApp) → IsToldClear (look n s)

answered_clear : (n : Option Note) (s : PlainApp) → IsToldClear (answered n s)
answered_clear None s = tt
answered_clear (Some note.Bound) s = tt
answered_clear (Some (note.Connected _)) s = tt
answered_clear (Some (note.Closed _)) s = tt
answered_clear (Some (note.Refused why)) s = (refl, tt)
answered_clear (Some (note.Down _)) s = tt
answered_clear (Some (note.Bind _ _)) s = tt
answered_clear (Some (note.Connect _ _ _ _ _ _)) s = tt
answered_clear (Some (note.Close _)) s = tt

pushed_clear : (is_more : Bool) (s : PlainApp) → IsToldClear (pushed_one is_more s)
pushed_clear true s = tt
pushed_clear false s = tt

received_clear : (slot packets : ℕ) (enough passed down : Bool) (s : PlainApp) → IsToldClear (recv_end slot packets enough passed down s)
received_clear slot packets true passed down s = tt
received_clear slot packets false true down s = (refl, tt)
received_clear slot packets false false true s = (refl, tt)
received_clear slot packets false false false s = tt

waited_clear : (passed : Bool) (s : PlainApp) → IsToldClear (wait_end passed s)
waited_clear true s = tt
waited_clear false s = tt

table_clear : (s : PlainApp) (now : ℕ) (p : AppPlan) → IsTurnClear (turn_of s now p)
table_clear s now app_plan.Rest = tt
table_clear s now app_plan.Return = (tt, λ b. tt)
table_clear s now app_plan.Look = λ n x. tt
table_clear s now app_plan.Take = ((λ b. tt), (refl, tt))
table_clear s now app_plan.Give = (tt, λ b. tt)
table_clear s now app_plan.Skip = tt
table_clear s now (app_plan.Ask n) = (tt, λ i. tt)
table_clear s now app_plan.Await = answered_clear
table_clear s now app_plan.Fill = ((λ b. tt), tt)
table_clear s now app_plan.Push = (pushed_clear (nat_lt (s.sent + 1) (batch s).count) s, λ i. tt)
table_clear s now (app_plan.Use slot packets) = tt
table_clear s now (app_plan.Receive slot packets rounds) = λ n x. received_clear slot packets (is_enough slot packets x) (gives_up rounds now x) (slot_at x.slots slot).down x
table_clear s now (app_plan.Wait rounds) = λ n x. waited_clear (has_passed rounds now x) x

took_clear : (i : ItemShown) (s : PlainApp) → AreClear (took i s.collectors s.slots)
took_clear (item.Packet k b) s = (refl, blobs_so IsClear (λ slot ordinal len crc. refl) (λ slot ordinal why. refl) k (slot_at s.slots k).ordinal (collector_at s.collectors k) b.payload)
took_clear (item.Note n) s = tt
took_clear (item.Frame f) s = tt

turn_clear : (s : PlainApp) (t : Turn) (a : AnswerShown) → IsTurnClear t → IsToldClear (told_of s t a)
turn_clear s (rests told) answer.Nothing h = h
turn_clear s (takes taken none) (answer.Taken b) h = h.0 b
turn_clear s (takes taken none) answer.NoBuffer h = h.1
turn_clear s (gives _ _ given back) answer.Given h = h.0
turn_clear s (gives _ _ given back) (answer.PoolFull b) h = h.1 b
turn_clear s (pushes _ _ pushed back) answer.Pushed h = h.0
turn_clear s (pushes _ _ pushed back) (answer.Full i) h = h.1 i
turn_clear s (pops _ look) (answer.Popped i) h = AllByRecursion-append IsClear (took i s.collectors s.slots) _ (took_clear i s) (h _ _)
turn_clear s (pops _ look) answer.Empty h = h None s
turn_clear s _ _ h = tt

app_clear : (s : PlainApp) (now : ℕ) (a : AnswerShown) → AreClear (app_telling.events s now a)
app_clear s now a = turn_clear (app_telling.at_rest s) (turn_of (app_telling.at_rest s) now s.doing) a (table_clear (app_telling.at_rest s) now s.doing)

-- ---- a party that is no router

-- a party is a bridge, an interface, an application, a link or a hub
abbrev IsNoRouter : PlainParty → Type 0
IsNoRouter (a_router r) = ⊥
IsNoRouter (a_bridge b) = ⊤
IsNoRouter (an_iface i) = ⊤
IsNoRouter (an_app a) = ⊤
IsNoRouter (a_link l) = ⊤
IsNoRouter (a_hub h) = ⊤

-- each of its turns tells of none
turn_tells : (p : PlainParty) (time : ℕ) (a : AnswerShown) → IsNoRouter p → AreClear (events (asked p time) time a)
turn_tells (a_router r) time a other = absurd other
turn_tells (a_bridge b) time a other = let t = bridge_turns.asked b in bridge_reports t t.doing a
turn_tells (an_iface i) time a other = iface_clear (iface_asking.asked i time) time a
turn_tells (an_app p) time a other = app_clear (app_asking.asked p time) time a
turn_tells (a_link l) time a other = tt
turn_tells (a_hub h) time a other = tt

-- and leaves it no router
turn_stays : (p : PlainParty) (time : ℕ) (a : AnswerShown) → IsNoRouter p → IsNoRouter (tells (asked p time) time a)
turn_stays (a_router r) time a other = other
turn_stays (a_bridge b) time a other = tt
turn_stays (an_iface i) time a other = tt
turn_stays (an_app p) time a other = tt
turn_stays (a_link l) time a other = tt
turn_stays (a_hub h) time a other = tt

-- so no entry of a run of it tells of one
run_tells : (es : List Entry) (time : ℕ) (p : PlainParty) → IsNoRouter p → IsRun party_steps time p es → AllByRecursion IsEntryClear es
run_tells [] time p other run = tt
run_tells (e ∷ es) time p other run =
    (subst AreClear (sym run.1.events) (turn_tells p e.time e.answer other), run_tells es e.time (step_after party_steps p e) (turn_stays p e.time e.answer other) run.2)

-- what a link of the scene opens as is no router
link_none : (l : PlainLink) → IsNoRouter (link_party l)
link_none l = by l.hub where
  by : (b : Bool) → IsNoRouter (link_party (record l { hub = b }))
  by true = tt
  by false = tt

-- ---- the logs of a record

-- a log tells of none: a router's as it is given, any other's by what its party is
by_name : (nodes : List PlainNode) (links : List PlainLink) (w : Who) (p : PlainParty) (es : List Entry) → IsOwner nodes links w p → IsRun party_steps 0 p es
    → ((place : ℕ) → w ≡ who.Router place → AllByRecursion IsEntryClear es) → AllByRecursion IsEntryClear es
by_name nodes links (who.Router place) p es own run routed = routed place refl
by_name nodes links (who.Bridge place) p es own run routed = run_tells es 0 p (subst IsNoRouter (sym own.party) tt) run
by_name nodes links (who.Iface place number) p es own run routed = run_tells es 0 p (subst IsNoRouter (sym own.party) tt) run
by_name nodes links (who.App place number) p es own run routed = run_tells es 0 p (subst IsNoRouter (sym own.party) tt) run
by_name nodes links (who.Link number) p es own run routed = run_tells es 0 p (subst IsNoRouter (sym own.party) (link_none own.link)) run

-- the party of which the log in this place is
opening_at : (os : List PlainOpening) (logs : List PlainPartyLog) (k : ℕ) (log : PlainPartyLog) → AreLogsOf os logs → slice_get logs k ≡ Some log → (o : PlainOpening) × (slice_get os k ≡ Some o)
opening_at [] [] k log are e = absurd cc
opening_at [] (l ∷ logs) k log are e = absurd are
opening_at (o ∷ os) [] k log are e = absurd are
opening_at (o ∷ os) (l ∷ logs) zero log are e = (o, refl)
opening_at (o ∷ os) (l ∷ logs) (suc k) log are e = opening_at os logs k log are.1 e

all_flat : {X Y : Type 0} (P : Y → Type 0) (f : X → List Y) (xs : List X) → AllByRecursion (λ x. AllByRecursion P (f x)) xs → AllByRecursion P (flat_map f xs)
all_flat P f [] all = tt
all_flat P f (x ∷ xs) all = AllByRecursion-append P (f x) (flat_map f xs) all.0 (all_flat P f xs all.1)

-- no event of a log tells of a stale copy
abbrev IsLogClear : PlainPartyLog → Type 0
IsLogClear log = AreClear (all_events log.entries)

log_tells : (scene : PlainScene) (r : PlainRecord) → AreLogsOf (parties_of scene) r.parties → ((place : ℕ) → AllByRecursion IsEntryClear (entries_of r (who.Router place)))
    → (k : ℕ) (log : PlainPartyLog) → slice_get r.parties k ≡ Some log → IsLogClear log
log_tells scene r are routed k log there =
    let o = opening_at (parties_of scene) r.parties k log are there in
    let found = entries_at (parties_of scene) r.parties k o.0 are (are_apart scene) o.1 in
    let same : found.0 ≡ log = ap (λ x. unwrap_or x log) (sym found.1 ∙ there) in
    let mine : IsLogOf o.0 log = subst (IsLogOf o.0) same found.2 in
    let entries : entries_in o.0.who r.parties ≡ log.entries = found.3 ∙ ap (λ (l : PlainPartyLog). l.entries) same in
    let owner : IsOf scene o.0 = each_at (IsOf scene) (parties_of scene) k o.0 (are_owners scene) o.1 in
    all_flat IsClear (λ (e : Entry). e.events.items) log.entries
    (by_name scene.nodes scene.links o.0.who o.0.party log.entries owner mine.run (λ place is.
    subst (λ es. AllByRecursion IsEntryClear es) (ap (λ w. entries_in w r.parties) (sym is) ∙ entries) (routed place)))

-- ---- the count

none_stale : (vs : List Event) → AreClear vs → count_by is_stale vs ≡ 0
none_stale [] all = refl
none_stale (v ∷ vs) all = sum_by-cons (λ x. cond (is_stale x) 1 0) v vs ∙ (λ i. cond {A = ℕ} (all.0 i) 1 0 + none_stale vs all.1 i)

-- where no entry of a router tells of a stale copy, a record counts none
pub counts_stale : (scene : PlainScene) (r : PlainRecord) → AreLogsOf (parties_of scene) r.parties
    → ((place : ℕ) → AllByRecursion (λ (e : Entry). AllByRecursion (λ v. is_stale v ≡ false) e.events.items) (entries_of r (who.Router place)))
    → stale r ≡ 0
counts_stale scene r are routed =
    none_stale (flat_map (λ party. all_events party.entries) r.parties)
    (all_flat IsClear (λ (log : PlainPartyLog). all_events log.entries) r.parties (each_there IsLogClear r.parties (log_tells scene r are routed)))
