-- Each party uses its own queues, from its opening in a scene on.
use Rattle.std.proofs.Common.{◌≡◌, ℕ, ◌+◌, Bool, true, false, Option, None, Some, List, [], ◌∷◌, ◌++◌, length, refl, sym, subst, ◌∙◌}
use Rattle.std.specs.Prelude.{if◌then◌else◌, nat_le, ⊤}
use Rattle.std.specs.List.{AllByRecursion}
use Rattle.csp_bridge.specs.Turns as bridge_turns
use Rattle.csp_bridge.specs.declared.doing.Doing.{Doing}
use Rattle.csp_buffer.specs.Content.{Content}
use Rattle.csp_consistent.proofs.AppQueues.{app_asks, app_number}
use Rattle.csp_consistent.proofs.IfaceQueues.{iface_asks, iface_number}
use Rattle.csp_consistent.proofs.RouterQueues.{IsOutward, router_asks, router_outward}
use Rattle.csp_topology.specs.Parties.{PlainOpening, apps_from, leader_opening, ifaces_from, link_party, links_from, parties_at, parties_from, parties_of, party_steps}
use Rattle.csp_consistent.specs.Queues.{MayAsk, UseTheirQueues, UsesItsQueues}
use Rattle.csp_consistent.specs.Runs.{AreLogsOf, IsLogOf}
use Rattle.csp_deck.specs.Runs.{IsRun}
use Rattle.csp_hub.specs.Asking as hub_asking
use Rattle.csp_hub.specs.PlainHub as plain_hub
use Rattle.csp_hub.specs.Planning as hub_plan
use Rattle.csp_link.specs.Holding.{first_due}
use Rattle.csp_link.specs.PlainLink as plain_link
use Rattle.csp_link.specs.Turns as link_turns
use Rattle.csp_link.specs.declared.held.Held.{Held}
use Rattle.csp_link.specs.declared.held.TheConstants.{MOST_HELD}
use Rattle.csp_link.specs.declared.way.Way.{Way}
use Rattle.csp_log.specs.declared.entry.Entry.{Entry}
use Rattle.csp_log.specs.declared.shown.AnswerShown.{AnswerShown}
use Rattle.csp_party.specs.Any.{PlainParty, a_router, a_bridge, an_iface, an_app, a_link, a_hub, asked, asks, tells}
use Rattle.csp_record.specs.Record.{PlainPartyLog}
use Rattle.csp_log.specs.declared.who.Who.{Who}
use Rattle.csp_log.specs.declared.who.Who.TheVariants as who
use Rattle.csp_scene.specs.Links.{links_at}
use Rattle.csp_scene.specs.Scene.{PlainApp, PlainLink, PlainNode, PlainScene}

-- a party is what its name says, and has the number of its name
abbrev pub IsOwn : Who → PlainParty → Type 0
IsOwn (who.Router node) (a_router r) = IsOutward r.state.out
IsOwn (who.Bridge node) (a_bridge b) = ⊤
IsOwn (who.Iface node number) (an_iface i) = i.number ≡ number
IsOwn (who.App node number) (an_app a) = a.number ≡ number
IsOwn (who.Link number) (a_link l) = ⊤
IsOwn (who.Link number) (a_hub h) = ⊤
IsOwn _ _ = ⊥

bridge_asks : (node : ℕ) (trash out : Option Content) (to : ℕ) (doing : Doing) → MayAsk (who.Bridge node) (bridge_turns.asks (record { trash = trash; out = out; to = to; doing = doing }))
bridge_asks node (Some b) out to doing = tt
bridge_asks node None (Some b) to doing = tt
bridge_asks node None None to doing = tt

link_asks : (number : ℕ) (way : Way) (now : ℕ) (due : Option (ℕ × Held)) (few : Bool) (d : plain_link.PlainDirection) → MayAsk (who.Link number) (link_turns.turn_of way now due d (link_turns.first_rule due few)).asks
link_asks number way now (Some p) few d = tt
link_asks number way now None true d = tt
link_asks number way now None false d = tt

hub_asks : (number end : ℕ) (p : hub_plan.HubPlan) → MayAsk (who.Link number) (hub_asking.op_of end p)
hub_asks number end (hub_plan.push place h) = tt
hub_asks number end hub_plan.pop = tt
hub_asks number end hub_plan.wait = tt

-- it asks what it may
pub own_asks : (w : Who) (p : PlainParty) (time : ℕ) → IsOwn w p → MayAsk w (asks p time)
own_asks (who.Router n) (a_router r) time own = router_asks n r.facts r.state time own
own_asks (who.Router n) (a_bridge b) time own = absurd own
own_asks (who.Router n) (an_iface i) time own = absurd own
own_asks (who.Router n) (an_app p) time own = absurd own
own_asks (who.Router n) (a_link l) time own = absurd own
own_asks (who.Router n) (a_hub h) time own = absurd own
own_asks (who.Bridge n) (a_router r) time own = absurd own
own_asks (who.Bridge n) (a_bridge b) time own = bridge_asks n b.trash b.out b.to b.doing
own_asks (who.Bridge n) (an_iface i) time own = absurd own
own_asks (who.Bridge n) (an_app p) time own = absurd own
own_asks (who.Bridge n) (a_link l) time own = absurd own
own_asks (who.Bridge n) (a_hub h) time own = absurd own
own_asks (who.Iface n k) (a_router r) time own = absurd own
own_asks (who.Iface n k) (a_bridge b) time own = absurd own
own_asks (who.Iface n k) (an_iface i) time own = iface_asks n k i time own
own_asks (who.Iface n k) (an_app p) time own = absurd own
own_asks (who.Iface n k) (a_link l) time own = absurd own
own_asks (who.Iface n k) (a_hub h) time own = absurd own
own_asks (who.App n k) (a_router r) time own = absurd own
own_asks (who.App n k) (a_bridge b) time own = absurd own
own_asks (who.App n k) (an_iface i) time own = absurd own
own_asks (who.App n k) (an_app p) time own = app_asks n k p time own
own_asks (who.App n k) (a_link l) time own = absurd own
own_asks (who.App n k) (a_hub h) time own = absurd own
own_asks (who.Link k) (a_router r) time own = absurd own
own_asks (who.Link k) (a_bridge b) time own = absurd own
own_asks (who.Link k) (an_iface i) time own = absurd own
own_asks (who.Link k) (an_app p) time own = absurd own
own_asks (who.Link k) (a_link l) time own = let d = plain_link.in_turn l in link_asks k l.way time (first_due time d.held) (nat_le (length d.held) MOST_HELD) d
own_asks (who.Link k) (a_hub h) time own = hub_asks k h.serving (hub_plan.plan_of h time)

-- and stays so
pub own_told : (w : Who) (p : PlainParty) (time : ℕ) (a : AnswerShown) → IsOwn w p → IsOwn w (tells (asked p time) time a)
own_told (who.Router n) (a_router r) time a own = router_outward r.facts r.state time a own
own_told (who.Router n) (a_bridge b) time a own = absurd own
own_told (who.Router n) (an_iface i) time a own = absurd own
own_told (who.Router n) (an_app p) time a own = absurd own
own_told (who.Router n) (a_link l) time a own = absurd own
own_told (who.Router n) (a_hub h) time a own = absurd own
own_told (who.Bridge n) (a_router r) time a own = absurd own
own_told (who.Bridge n) (a_bridge b) time a own = tt
own_told (who.Bridge n) (an_iface i) time a own = absurd own
own_told (who.Bridge n) (an_app p) time a own = absurd own
own_told (who.Bridge n) (a_link l) time a own = absurd own
own_told (who.Bridge n) (a_hub h) time a own = absurd own
own_told (who.Iface n k) (a_router r) time a own = absurd own
own_told (who.Iface n k) (a_bridge b) time a own = absurd own
own_told (who.Iface n k) (an_iface i) time a own = iface_number i time a ∙ own
own_told (who.Iface n k) (an_app p) time a own = absurd own
own_told (who.Iface n k) (a_link l) time a own = absurd own
own_told (who.Iface n k) (a_hub h) time a own = absurd own
own_told (who.App n k) (a_router r) time a own = absurd own
own_told (who.App n k) (a_bridge b) time a own = absurd own
own_told (who.App n k) (an_iface i) time a own = absurd own
own_told (who.App n k) (an_app p) time a own = app_number k p time a own
own_told (who.App n k) (a_link l) time a own = absurd own
own_told (who.App n k) (a_hub h) time a own = absurd own
own_told (who.Link k) (a_router r) time a own = absurd own
own_told (who.Link k) (a_bridge b) time a own = absurd own
own_told (who.Link k) (an_iface i) time a own = absurd own
own_told (who.Link k) (an_app p) time a own = absurd own
own_told (who.Link k) (a_link l) time a own = tt
own_told (who.Link k) (a_hub h) time a own = tt

-- so it is with each of its turns
pub own_run : (w : Who) (time : ℕ) (p : PlainParty) (es : List Entry) → IsOwn w p → IsRun party_steps time p es → AllByRecursion (λ e. MayAsk w e.op) es
own_run w time p [] own run = tt
own_run w time p (e ∷ es) own run = (subst (MayAsk w) (sym run.1.op) (own_asks w p e.time own), own_run w e.time _ es (own_told w p e.time e.answer own) run.2)

-- the parties of a scene are what their names say
all-append : {X : Type 0} (P : X → Type 0) (xs ys : List X) → AllByRecursion P xs → AllByRecursion P ys → AllByRecursion P (xs ++ ys)
all-append P [] ys h g = g
all-append P (x ∷ xs) ys h g = (h.0, all-append P xs ys h.1 g)

abbrev IsOpened : PlainOpening → Type 0
IsOpened o = IsOwn o.who o.party

hub_own : (addr : Option ℕ) (place : ℕ) (n : PlainNode) (links : List PlainLink) → IsOpened (leader_opening addr place n links)
hub_own (Some addr) place n links = tt
hub_own None place n links = tt

ifaces_own : (place : ℕ) (addr : Option ℕ) (number : ℕ) (links : List PlainLink) → AllByRecursion IsOpened (ifaces_from place addr number links)
ifaces_own place addr number [] = tt
ifaces_own place addr number (l ∷ links) = (refl, ifaces_own place addr (number + 1) links)

apps_own : (place number : ℕ) (apps : List PlainApp) → AllByRecursion IsOpened (apps_from place number apps)
apps_own place number [] = tt
apps_own place number (a ∷ apps) = (refl, apps_own place (number + 1) apps)

link_own : (number : ℕ) (l : PlainLink) → IsOwn (who.Link number) (link_party l)
link_own number l =
    by l.hub
  where
    by : (b : Bool) → IsOwn (who.Link number) (if b then a_hub (plain_hub.opening (length l.ends) l.plan) else a_link (plain_link.opening l.kind l.plan))
    by true = tt
    by false = tt

links_own : (number : ℕ) (links : List PlainLink) → AllByRecursion IsOpened (links_from number links)
links_own number [] = tt
links_own number (l ∷ links) = (link_own number l, links_own (number + 1) links)

nodes_own : (place : ℕ) (nodes : List PlainNode) (links : List PlainLink) → AllByRecursion IsOpened (parties_from place nodes links)
nodes_own place [] links = tt
nodes_own place (n ∷ nodes) links =
    all-append IsOpened (parties_at place n (links_at place links)) (parties_from (place + 1) nodes links)
    (hub_own n.addr place n (links_at place links), all-append IsOpened (ifaces_from place n.addr 0 (links_at place links)) (apps_from place 0 n.apps) (ifaces_own place n.addr 0 (links_at place links)) (apps_own place 0 n.apps))
    (nodes_own (place + 1) nodes links)

pub scene_own : (scene : PlainScene) → AllByRecursion IsOpened (parties_of scene)
unfolding parties_of
scene_own scene = all-append IsOpened (parties_from 0 scene.nodes scene.links) (links_from 0 scene.links) (nodes_own 0 scene.nodes scene.links) (links_own 0 scene.links)

-- and so the logs
log_own : (o : PlainOpening) (log : PlainPartyLog) → IsOpened o → IsLogOf o log → UsesItsQueues log
log_own o log own l = subst (λ (w : Who). AllByRecursion (λ (e : Entry). MayAsk w e.op) log.entries) (sym l.who) (own_run o.who 0 o.party log.entries own l.run)

logs_own : (os : List PlainOpening) (logs : List PlainPartyLog) → AllByRecursion IsOpened os → AreLogsOf os logs → UseTheirQueues logs
logs_own [] [] own h = tt
logs_own [] (log ∷ logs) own h = absurd h
logs_own (o ∷ os) [] own h = absurd h
logs_own (o ∷ os) (log ∷ logs) own h = (log_own o log own.0 h.0, logs_own os logs own.1 h.1)

pub uses : (scene : PlainScene) (logs : List PlainPartyLog) → AreLogsOf (parties_of scene) logs → UseTheirQueues logs
uses scene logs h = logs_own (parties_of scene) logs (scene_own scene) h
