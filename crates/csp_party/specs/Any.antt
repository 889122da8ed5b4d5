-- The parties of a run as one who takes turns: each word is that of the party it is.
use Rattle.std.specs.Prelude.{ℕ, ◌≡◌, ⊤, Bool, true, false, List, [], Option}
use Rattle.csp_app.specs.Asking as app_asking
use Rattle.csp_app.specs.PlainApp as plain_app
use Rattle.csp_app.specs.PlainApp.{PlainApp, AppAt}
use Rattle.csp_app.specs.Drained as app_drained
use Rattle.csp_app.specs.Telling as app_telling
use Rattle.csp_arena.specs.Cells.{RegionName}
use Rattle.csp_bridge.specs.PlainBridge as plain_bridge
use Rattle.csp_bridge.specs.PlainBridge.{PlainBridge, BridgeAt}
use Rattle.csp_bridge.specs.Drained as bridge_drained
use Rattle.csp_bridge.specs.Turns as bridge_turns
use Rattle.csp_deck.specs.Regions.{nowhere}
use Rattle.csp_deck.specs.Step.{Kind}
use Rattle.csp_hub.specs.Asking as hub_asking
use Rattle.csp_hub.specs.PlainHub as plain_hub
use Rattle.csp_hub.specs.PlainHub.{PlainHub}
use Rattle.csp_hub.specs.Stocking as hub_stocking
use Rattle.csp_hub.specs.Telling as hub_telling
use Rattle.csp_iface.specs.Asking as iface_asking
use Rattle.csp_iface.specs.PlainIface as plain_iface
use Rattle.csp_iface.specs.PlainIface.{PlainIface, IfaceAt}
use Rattle.csp_iface.specs.Drained as iface_drained
use Rattle.csp_iface.specs.Stocking as iface_stocking
use Rattle.csp_iface.specs.Telling as iface_telling
use Rattle.csp_iface.specs.declared.plan.IfacePlan.TheVariants as iface_plan
use Rattle.csp_link.specs.PlainLink as plain_link
use Rattle.csp_link.specs.PlainLink.{PlainLink}
use Rattle.csp_link.specs.Stocking as link_stocking
use Rattle.csp_link.specs.Turns as link_turns
use Rattle.csp_log.specs.PlainSpares.{PlainSpares}
use Rattle.csp_log.specs.declared.event.Event.{Event}
use Rattle.csp_log.specs.declared.places.QueueId.{QueueId}
use Rattle.csp_log.specs.declared.places.Rule.{Rule}
use Rattle.csp_log.specs.declared.shown.AnswerShown.{AnswerShown}
use Rattle.csp_log.specs.declared.shown.OpShown.{OpShown}
use Rattle.csp_party.specs.declared.any.AnyParty.{AnyParty}
use Rattle.csp_party.specs.declared.any.AnyParty.TheVariants as party
use Rattle.csp_stack.specs.Party as router
use Rattle.csp_stack.specs.Router as plain_router
use Rattle.csp_stack.specs.Router.{Router, RouterAt}

-- a party's state: what its turns go by
pub data PlainParty : Type 0 where
  a_router : Router → PlainParty
  a_bridge : PlainBridge → PlainParty
  an_iface : PlainIface → PlainParty
  an_app : PlainApp → PlainParty
  a_link : PlainLink → PlainParty
  a_hub : PlainHub → PlainParty

-- the state of a party, without the region of its buffers
abbrev pub plain : AnyParty → PlainParty
plain (party.Router r) = a_router r.router
plain (party.Bridge b) = a_bridge b.bridge
plain (party.Iface i) = an_iface i.iface
plain (party.App a) = an_app a.app
plain (party.Link l) = a_link l
plain (party.Hub h) = a_hub h

-- the region of its buffers: a link or a hub has none
abbrev pub region_of : AnyParty → RegionName
region_of (party.Router r) = r.region
region_of (party.Bridge b) = b.region
region_of (party.Iface i) = i.region
region_of (party.App a) = a.region
region_of (party.Link l) = nowhere
region_of (party.Hub h) = nowhere

-- a party can be asked at this time, and told once it was: an interface between two turns, any other always
abbrev pub is_ready : PlainParty → ℕ → Type 0
is_ready (a_router r) time = ⊤
is_ready (a_bridge b) time = ⊤
is_ready (an_iface i) time = i.doing ≡ iface_plan.Rest
is_ready (an_app a) time = ⊤
is_ready (a_link l) time = ⊤
is_ready (a_hub h) time = ⊤

-- a party was asked at this time, and can be told: a router as it says, any other always
abbrev pub is_waiting : PlainParty → ℕ → Type 0
is_waiting (a_router r) time = router.waits_of r time
is_waiting (a_bridge b) time = ⊤
is_waiting (an_iface i) time = ⊤
is_waiting (an_app a) time = ⊤
is_waiting (a_link l) time = ⊤
is_waiting (a_hub h) time = ⊤

-- what kind of operation it waits to be answered
abbrev pub awaits : PlainParty → Kind
awaits (a_router r) = router.awaits_of r
awaits (a_bridge b) = bridge_turns.awaits b
awaits (an_iface i) = iface_asking.awaits i
awaits (an_app a) = app_asking.awaits a
awaits (a_link l) = link_turns.awaits l
awaits (a_hub h) = hub_asking.awaits h

-- a party takes no turn any more: none but an application ever ends
abbrev pub has_ended : PlainParty → Bool
has_ended (a_router r) = false
has_ended (a_bridge b) = false
has_ended (an_iface i) = false
has_ended (an_app a) = plain_app.has_ended a
has_ended (a_link l) = false
has_ended (a_hub h) = false

-- a party is done: an application that has ended, or a party that is none
abbrev pub is_done : PlainParty → Bool
is_done (a_router r) = true
is_done (a_bridge b) = true
is_done (an_iface i) = true
is_done (an_app a) = plain_app.has_ended a
is_done (a_link l) = true
is_done (a_hub h) = true

-- the queues that it uses, and what they carry
abbrev pub uses : PlainParty → QueueId → Option Rule
uses (a_router r) queue = router.rules_of r.facts queue
uses (a_bridge b) queue = plain_bridge.uses b queue
uses (an_iface i) queue = plain_iface.uses i queue
uses (an_app a) queue = plain_app.uses a queue
uses (a_link l) queue = plain_link.uses l queue
uses (a_hub h) queue = plain_hub.uses h queue

-- the greatest of the numbers that its turns raise
abbrev pub count : PlainParty → ℕ
count (a_router r) = router.count_of r
count (a_bridge b) = 0
count (an_iface i) = i.serial
count (an_app a) = plain_app.count a
count (a_link l) = plain_link.count l
count (a_hub h) = plain_hub.count h

-- how many frames a turn makes at most
abbrev pub needs : PlainParty → ℕ
needs (a_router r) = 0
needs (a_bridge b) = 0
needs (an_iface i) = 1
needs (an_app a) = 0
needs (a_link l) = link_stocking.needs l
needs (a_hub h) = hub_stocking.needs h

-- what is left of its stock of boxes once it was told this answer
abbrev pub stocks : PlainParty → ℕ → AnswerShown → PlainSpares → PlainSpares
stocks (a_router r) time answer s = s
stocks (a_bridge b) time answer s = s
stocks (an_iface i) time answer s = iface_stocking.stocks i time answer s
stocks (an_app a) time answer s = s
stocks (a_link l) time answer s = link_stocking.stocks l time answer s
stocks (a_hub h) time answer s = hub_stocking.stocks h time answer s

-- what a party asks at this time
abbrev pub asks : PlainParty → ℕ → OpShown
asks (a_router r) time = router.asks_of r time
asks (a_bridge b) time = bridge_turns.asks b
asks (an_iface i) time = iface_asking.asks i time
asks (an_app a) time = app_asking.asks a time
asks (a_link l) time = link_turns.asks l time
asks (a_hub h) time = hub_asking.asks h time

-- what a party is once it has asked
abbrev pub asked : PlainParty → ℕ → PlainParty
asked (a_router r) time = a_router (router.asked_of r time)
asked (a_bridge b) time = a_bridge (bridge_turns.asked b)
asked (an_iface i) time = an_iface (iface_asking.asked i time)
asked (an_app a) time = an_app (app_asking.asked a time)
asked (a_link l) time = a_link (link_turns.asked l time)
asked (a_hub h) time = a_hub (hub_asking.asked h time)

-- what a party is once it was told this answer
abbrev pub tells : PlainParty → ℕ → AnswerShown → PlainParty
tells (a_router r) time a = a_router (router.told_of r time a)
tells (a_bridge b) time a = a_bridge (bridge_turns.tells b a)
tells (an_iface i) time a = an_iface (iface_telling.tells i time a)
tells (an_app p) time a = an_app (app_telling.tells p time a)
tells (a_link l) time a = a_link (link_turns.tells l time a)
tells (a_hub h) time a = a_hub (hub_telling.tells h time a)

-- what a party reports when it is told this answer
abbrev pub events : PlainParty → ℕ → AnswerShown → List Event
events (a_router r) time a = router.events_of r time a
events (a_bridge b) time a = bridge_turns.events b a
events (an_iface i) time a = iface_telling.events i time a
events (an_app p) time a = app_telling.events p time a
events (a_link l) time a = link_turns.events l time a
events (a_hub h) time a = hub_telling.events h time a

-- the numbers of the buffers that it holds: a link or a hub holds none
abbrev pub holds : PlainParty → List ℕ
holds (a_router r) = plain_router.holds r.state
holds (a_bridge b) = plain_bridge.holds b
holds (an_iface i) = plain_iface.holds i
holds (an_app a) = plain_app.holds a
holds (a_link l) = []
holds (a_hub h) = []

-- the number of an application's present step, from 1; 0 where it has ended, and for every other party
abbrev pub present_step : PlainParty → ℕ
present_step (a_router r) = 0
present_step (a_bridge b) = 0
present_step (an_iface i) = 0
present_step (an_app a) = plain_app.present_step a
present_step (a_link l) = 0
present_step (a_hub h) = 0

-- the party with this state, where it is a state of such a party; its region stays
abbrev pub with_plain : AnyParty → PlainParty → AnyParty
with_plain (party.Router r) (a_router s) = party.Router (plain_router.with_router r s)
with_plain (party.Bridge b) (a_bridge s) = party.Bridge (plain_bridge.with_bridge b s)
with_plain (party.Iface i) (an_iface s) = party.Iface (plain_iface.with_iface i s)
with_plain (party.App a) (an_app s) = party.App (plain_app.with_app a s)
with_plain (party.Link l) (a_link s) = party.Link s
with_plain (party.Hub h) (a_hub s) = party.Hub s
with_plain p s = p

-- without the first of its buffers, as it is emptied at the end of a run
abbrev pub drained : PlainParty → PlainParty
drained (a_router r) = a_router (record r { state = plain_router.drained r.state })
drained (a_bridge b) = a_bridge (bridge_drained.drained b)
drained (an_iface i) = an_iface (iface_drained.drained i)
drained (an_app a) = an_app (app_drained.drained a)
drained (a_link l) = a_link l
drained (a_hub h) = a_hub h
