-- The lanes of a node are in order, and each name's log is that of its party.
use Rattle.std.proofs.Common.{◌≡◌, ◌⊎◌, inl, inr, ℕ, ◌<◌, Some, List, [], length, slice_get, unwrap_or, refl, sym, ap, ◌∙◌, subst}
use Rattle.std.specs.List.{AllByRecursion}
use Rattle.csp_app.specs.PlainApp as plain_app
use Rattle.csp_deck.specs.Carried.{IsUpItem}
use Rattle.csp_deck.specs.Runs.{IsRun}
use Rattle.csp_log.specs.declared.entry.Entry.{Entry}
use Rattle.csp_log.specs.declared.places.QueueId.TheVariants as queue
use Rattle.csp_party.specs.Any.{PlainParty, an_app}
use Rattle.csp_record.specs.Record.{PlainRecord}
use Rattle.csp_log.specs.declared.who.Who.{Who}
use Rattle.csp_log.specs.declared.who.Who.TheVariants as who
use Rattle.csp_scene.specs.Links.{links_at}
use Rattle.csp_scene.specs.Ranges.{IsApp, IsNode, IsScene}
use Rattle.csp_scene.specs.Scene.{PlainNode, PlainScene}
use Rattle.csp_stack.specs.Router.{Router}
use Rattle.csp_prefix.specs.Apps.{IsTrueApp}
use Rattle.csp_consistent.specs.Lanes.{AreInOrder, IsInOrder}
use Rattle.csp_topology.proofs.Public.{of_app, of_iface}
use Rattle.csp_topology.specs.Lanes.{leader_of, out_lane}
use Rattle.csp_topology.specs.Wires.{down_lane, up_lane}
use Rattle.csp_topology.specs.Parties.{config_of, parties_of, party_steps, router_for}
use Rattle.csp_consistent.specs.Reading.{entries_of, gets, puts}
use Rattle.csp_prefix.specs.Routers.{IsRouterLog, IsUntraced, opening_router, router_steps}
use Rattle.csp_consistent.specs.Runs.{AreLogsOf}
use Rattle.csp_consistent.proofs.Public.{through, each_at, Logged, IsAppAt, IsOf, IsOwner, IsRouterAt, logged}
use Rattle.csp_prefix.proofs.AppItems.{puts_up_items}
use Rattle.csp_prefix.proofs.AppTurns.{true_apps}
use Rattle.csp_prefix.proofs.HubLogs.{app_run, comes_so, router_run, serves_own}
use Rattle.csp_prefix.proofs.PacketLists.{each_both}

-- ---- lanes

-- those between the router or bridge of a node and an application are in order: from the application, and to it
abbrev pub AreAppLanes : PlainRecord → ℕ → Who → ℕ → Type 0
AreAppLanes r place hub k = IsInOrder r (up_lane place hub k) × IsInOrder r (down_lane place hub k)

pub app_lanes_there : (scene : PlainScene) (r : PlainRecord) (place k : ℕ) (n : PlainNode) → AreInOrder scene r → slice_get scene.nodes place ≡ Some n → k < length n.apps → AreAppLanes r place (leader_of place n.addr) k
app_lanes_there scene r place k n order there low = of_app (IsInOrder r) scene order place k n there low

pub out_lane_there : (scene : PlainScene) (r : PlainRecord) (place k : ℕ) (n : PlainNode) → AreInOrder scene r → slice_get scene.nodes place ≡ Some n → k < length (links_at place scene.links)
    → IsInOrder r (out_lane place (leader_of place n.addr) k)
out_lane_there scene r place k n order there low = of_iface (IsInOrder r) scene order place k n there low

-- ---- the logs of names

-- what has this name, if it has a log
pub owner_of : (scene : PlainScene) (r : PlainRecord) (w : Who) (l : Logged (IsOf scene) w r.parties) → IsOwner scene.nodes scene.links w l.opening.party
owner_of scene r w l = subst (λ v. IsOwner scene.nodes scene.links v l.opening.party) l.name l.holds

pub run_of : (scene : PlainScene) (r : PlainRecord) (w : Who) (p : PlainParty) (l : Logged (IsOf scene) w r.parties) → l.opening.party ≡ p → IsRun party_steps 0 p (entries_of r w)
run_of scene r w p l is = subst (λ es. IsRun party_steps 0 p es) (sym l.entries) (subst (λ q. IsRun party_steps 0 q l.log.entries) is l.logged.run)

same_node : (scene : PlainScene) (place : ℕ) (n m : PlainNode) → slice_get scene.nodes place ≡ Some n → slice_get scene.nodes place ≡ Some m → n ≡ m
same_node scene place n m one other = ap (λ o. unwrap_or o n) (sym one ∙ other)

-- ---- applications

empty_true : (number : ℕ) → IsTrueApp number []
empty_true number = record { untraced = tt; takes = λ slot ordinal. refl }

-- what an application of a node, or none, put and took
pub app_true : (scene : PlainScene) (r : PlainRecord) (place number : ℕ) → AreLogsOf (parties_of scene) r.parties → IsTrueApp number (entries_of r (who.App place number))
app_true scene r place number are =
    told (logged scene r (who.App place number) are)
  where
    told : (entries_of r (who.App place number) ≡ []) ⊎ Logged (IsOf scene) (who.App place number) r.parties → IsTrueApp number (entries_of r (who.App place number))
    told (inl none) = subst (IsTrueApp number) (sym none) (empty_true number)
    told (inr l) =
        let at : IsAppAt scene.nodes place number l.opening.party = owner_of scene r (who.App place number) l in
        true_apps number at.app.steps (entries_of r (who.App place number))
        (app_run (entries_of r (who.App place number)) 0 (plain_app.opening number at.app.steps) (run_of scene r (who.App place number) (an_app (plain_app.opening number at.app.steps)) l at.party))

-- what an application of a node put into its `Up` is what an `Up` carries
app_items : (scene : PlainScene) (r : PlainRecord) (place number : ℕ) → IsScene scene → AreLogsOf (parties_of scene) r.parties → AllByRecursion IsUpItem (puts (queue.Up number) (entries_of r (who.App place number)))
app_items scene r place number is are =
    told (logged scene r (who.App place number) are)
  where
    told : (entries_of r (who.App place number) ≡ []) ⊎ Logged (IsOf scene) (who.App place number) r.parties → AllByRecursion IsUpItem (puts (queue.Up number) (entries_of r (who.App place number)))
    told (inl none) = subst (λ es. AllByRecursion IsUpItem (puts (queue.Up number) es)) (sym none) tt
    told (inr l) =
        let at : IsAppAt scene.nodes place number l.opening.party = owner_of scene r (who.App place number) l in
        puts_up_items number at.app.steps (entries_of r (who.App place number)) (each_at IsApp at.node.apps number at.app (each_at IsNode scene.nodes place at.node is.nodes at.there).apps at.of_it).ranges
        (app_run (entries_of r (who.App place number)) 0 (plain_app.opening number at.app.steps) (run_of scene r (who.App place number) (an_app (plain_app.opening number at.app.steps)) l at.party))

-- ---- routers

-- what a router got from an application of its node
up_items : (scene : PlainScene) (r : PlainRecord) (place k : ℕ) (n : PlainNode) → IsScene scene → AreLogsOf (parties_of scene) r.parties → AreInOrder scene r → slice_get scene.nodes place ≡ Some n → k < length n.apps
    → AllByRecursion (λ i. IsUpItem i × IsUntraced i) (gets (queue.Up k) (entries_of r (leader_of place n.addr)))
up_items scene r place k n is are order there low =
    let lanes : AreAppLanes r place (leader_of place n.addr) k = app_lanes_there scene r place k n order there low in
    through (λ i. IsUpItem i × IsUntraced i) r _ lanes.0
    (each_both IsUpItem IsUntraced (λ i. IsUpItem i × IsUntraced i) (puts (queue.Up k) (entries_of r (who.App place k))) (λ i a b. (a, b)) (app_items scene r place k is are) (app_true scene r place k are).untraced)

-- the log of a router of a scene is one
pub record RouterThere (scene : PlainScene) (r : PlainRecord) (place : ℕ) : Type 0 where
  pub node : PlainNode
  pub addr : ℕ
  pub there : slice_get scene.nodes place ≡ Some node
  pub called : node.addr ≡ Some addr
  pub log : IsRouterLog (config_of place addr node (links_at place scene.links)).facts node.routes (entries_of r (who.Router place))

pub router_there : (scene : PlainScene) (r : PlainRecord) (place : ℕ) → IsScene scene → AreLogsOf (parties_of scene) r.parties → AreInOrder scene r → Logged (IsOf scene) (who.Router place) r.parties → RouterThere scene r place
router_there scene r place is are order l =
    let at : IsRouterAt scene.nodes scene.links place l.opening.party = owner_of scene r (who.Router place) l in
    let es : List Entry = entries_of r (who.Router place) in
    let s : Router = opening_router (config_of place at.addr at.node (links_at place scene.links)).facts at.node.routes in
    let run : IsRun router_steps 0 s es = router_run es 0 s (run_of scene r (who.Router place) (router_for (config_of place at.addr at.node (links_at place scene.links))) l at.party) in
    let ups : (k : ℕ) → k < length at.node.apps → AllByRecursion (λ i. IsUpItem i × IsUntraced i) (gets (queue.Up k) es) =
    λ k low. subst (λ a. AllByRecursion (λ i. IsUpItem i × IsUntraced i) (gets (queue.Up k) (entries_of r (leader_of place a)))) at.called (up_items scene r place k at.node is are order at.there low) in
    record {
      node = at.node;
      addr = at.addr;
      there = at.there;
      called = at.called;
      log = record {
        few = (each_at IsNode scene.nodes place at.node is.nodes at.there).few;
        run = run;
        comes = comes_so (length at.node.apps) es (serves_own es 0 s run) ups;
      };
    }
