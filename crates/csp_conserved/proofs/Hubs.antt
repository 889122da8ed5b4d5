-- What the router or bridge of a node asks stays in the node.
use Rattle.std.proofs.Common.{◌≡◌, ◌⊎◌, inl, inr, ℕ, ◌*◌, ◌<◌, ◌==◌, Bool, true, false, Option, None, Some, List, [], ◌∷◌, length, slice_get, refl, sym, ap, ◌∙◌, subst, arith}
use Rattle.std.specs.Prelude.{if◌then◌else◌}
use Rattle.std.specs.List.{AllByRecursion}
use Rattle.std.proofs.lemmas.List.{length-map, length-replicate}
use Rattle.std.proofs.lemmas.Option.{same_Some}
use Rattle.csp_bridge.specs.PlainBridge as bridge
use Rattle.csp_bridge.specs.PlainBridge.{PlainBridge}
use Rattle.csp_bridge.specs.Turns as bridge_turns
use Rattle.csp_bridge.specs.declared.doing.Doing.{Doing}
use Rattle.csp_bridge.specs.declared.doing.Doing.TheVariants as doing
use Rattle.csp_buffer.specs.Content.{Content}
use Rattle.csp_base.specs.declared.limits.TheConstants.{SLOTS}
use Rattle.csp_conn.specs.declared.slot.Slot.TheVariants.{Free}
use Rattle.csp_conserved.proofs.Homes.{AsksIn, IsHome, asks_in, stays_home}
use Rattle.csp_consistent.proofs.Public.{Logged, IsBridgeAt, IsOf, IsRouterAt, logged}
use Rattle.csp_consistent.specs.Reading.{entries_of}
use Rattle.csp_consistent.specs.Runs.{AreLogsOf}
use Rattle.csp_deck.specs.Runs.{IsRun}
use Rattle.csp_log.specs.declared.entry.Entry.{Entry}
use Rattle.csp_log.specs.declared.shown.AnswerShown.{AnswerShown}
use Rattle.csp_log.specs.declared.shown.AnswerShown.TheVariants as answer
use Rattle.csp_log.specs.declared.shown.ItemShown.{ItemShown}
use Rattle.csp_log.specs.declared.shown.ItemShown.TheVariants as item
use Rattle.csp_party.specs.Any.{a_bridge, a_router}
use Rattle.csp_prefix.proofs.Public.{owner_of, run_of}
use Rattle.csp_record.specs.Record.{PlainRecord}
use Rattle.csp_log.specs.declared.who.Who.TheVariants as who
use Rattle.csp_route.specs.Routes.{IsWithin, Routes}
use Rattle.csp_scene.specs.Links.{links_at}
use Rattle.csp_scene.specs.Ranges.{IsJoined, IsScene}
use Rattle.csp_scene.specs.Scene.{PlainLink, PlainNode, PlainScene}
use Rattle.csp_stack.specs.Config.{opening_state}
use Rattle.csp_stack.specs.Router.{Facts, State}
use Rattle.csp_topology.specs.Lanes.{leader_of}
use Rattle.csp_topology.specs.Parties.{config_of, parties_of, party_steps, router_for}

-- ---- a router

router_asks : (f : Facts) (es : List Entry) (time : ℕ) (s : State) → IsHome f s → IsRun party_steps time (a_router (record { facts = f; state = s })) es → AllByRecursion (λ e. AsksIn (length f.ifaces) f.apps e.op) es
router_asks f [] time s h run = tt
router_asks f (e ∷ es) time s h run = (
  subst (AsksIn (length f.ifaces) f.apps) (sym run.1.op) (asks_in f s e.time h),
  router_asks f es e.time _ (stays_home f s e.time e.answer h) run.2,
)

opens_home : (f : Facts) (routes : Routes) → IsWithin (length f.ifaces) routes → IsHome f (opening_state f.apps routes)
opens_home f routes within = (ap (λ n. (f.apps, n)) (length-replicate (f.apps * SLOTS) Free), within, tt)

-- ---- a bridge: it has two interfaces

bridge_op : (apps : ℕ) (trash out : Option Content) (to : ℕ) (doing : Doing) → to < 2 → AsksIn 2 apps (bridge_turns.asks (record { trash = trash; out = out; to = to; doing = doing }))
bridge_op apps (Some b) out to doing low = tt
bridge_op apps None (Some b) to doing low = low
bridge_op apps None None to doing low = tt

bridge_handed : (d : Doing) (s : PlainBridge) → s.to < 2 → (bridge_turns.turn_of s d).until.to < 2
bridge_handed doing.Rest s low = low
bridge_handed doing.Give s low = low
bridge_handed doing.Send s low = low
bridge_handed doing.Hear s low = low

beyond_low : (b : Bool) → (if b then 1 else 0) < 2
beyond_low true = omega arith
beyond_low false = omega arith

bridge_heard : (i : ItemShown) (s : PlainBridge) → s.to < 2 → (bridge_turns.crossing s (answer.Popped i)).to < 2
bridge_heard (item.Packet mark b) s low = beyond_low (mark == 0)
bridge_heard (item.Frame f) s low = low
bridge_heard (item.Note n) s low = low

bridge_refused : (i : ItemShown) (s : PlainBridge) → s.to < 2 → (bridge_turns.discarded s (answer.Full i)).to < 2
bridge_refused (item.Packet mark b) s low = low
bridge_refused (item.Frame f) s low = low
bridge_refused (item.Note n) s low = low

bridge_told : (d : Doing) (a : AnswerShown) (s : PlainBridge) → s.to < 2 → ((bridge_turns.turn_of s d).told a).to < 2
bridge_told doing.Give (answer.PoolFull b) s low = low
bridge_told doing.Send (answer.Full i) s low = bridge_refused i s low
bridge_told doing.Hear (answer.Popped i) s low = bridge_heard i s low
bridge_told d a s low = low

bridge_asks : (apps : ℕ) (es : List Entry) (time : ℕ) (s : PlainBridge) → s.to < 2 → IsRun party_steps time (a_bridge s) es → AllByRecursion (λ e. AsksIn 2 apps e.op) es
bridge_asks apps [] time s low run = tt
bridge_asks apps (e ∷ es) time s low run =
    let t = bridge_turns.asked s in (
      subst (AsksIn 2 apps) (sym run.1.op) (bridge_op apps s.trash s.out s.to s.doing low),
      bridge_asks apps es e.time _ (bridge_told t.doing e.answer t (bridge_handed t.doing s low)) run.2,
    )

-- ---- that of a node

pub hub_asks : (scene : PlainScene) (r : PlainRecord) (node : ℕ) (n : PlainNode) → IsScene scene → AreLogsOf (parties_of scene) r.parties → slice_get scene.nodes node ≡ Some n
    → AllByRecursion (λ e. AsksIn (length (links_at node scene.links)) (length n.apps) e.op) (entries_of r (leader_of node n.addr))
hub_asks scene r node n is are there = by n.addr refl
  where
    joined : IsJoined scene.links node n
    joined = is.joined node n there

    by : (addr : Option ℕ) → n.addr ≡ addr → AllByRecursion (λ e. AsksIn (length (links_at node scene.links)) (length n.apps) e.op) (entries_of r (leader_of node addr))
    by (Some addr) e = told (logged scene r (who.Router node) are)
      where
        told : (entries_of r (who.Router node) ≡ []) ⊎ Logged (IsOf scene) (who.Router node) r.parties → AllByRecursion (λ e. AsksIn (length (links_at node scene.links)) (length n.apps) e.op) (entries_of r (who.Router node))
        told (inl none) = subst (λ es. AllByRecursion (λ (e : Entry). AsksIn (length (links_at node scene.links)) (length n.apps) e.op) es) (sym none) tt
        told (inr log) =
            let mine : IsRouterAt scene.nodes scene.links node log.opening.party = owner_of scene r (who.Router node) log in
            let same : mine.node ≡ n = same_Some mine.node n (sym mine.there ∙ there) in
            let f : Facts = (config_of node mine.addr mine.node (links_at node scene.links)).facts in
            let count : length f.ifaces ≡ length (links_at node scene.links) = length-map (links_at node scene.links) (λ (l : PlainLink). l.name) in
            let within : IsWithin (length f.ifaces) mine.node.routes = subst (λ c. IsWithin c mine.node.routes) (sym count) (subst (λ (m : PlainNode). IsWithin (length (links_at node scene.links)) m.routes) (sym same) joined.routes) in
            let run : IsRun party_steps 0 (router_for (config_of node mine.addr mine.node (links_at node scene.links))) (entries_of r (who.Router node)) =
            run_of scene r (who.Router node) (router_for (config_of node mine.addr mine.node (links_at node scene.links))) log mine.party in
            subst (λ c. AllByRecursion (λ (e : Entry). AsksIn c (length n.apps) e.op) (entries_of r (who.Router node))) count
            (subst (λ (m : PlainNode). AllByRecursion (λ (e : Entry). AsksIn (length f.ifaces) (length m.apps) e.op) (entries_of r (who.Router node))) same
            (router_asks f (entries_of r (who.Router node)) 0 (opening_state f.apps mine.node.routes) (opens_home f mine.node.routes within) run))
    by None e = told (logged scene r (who.Bridge node) are)
      where
        told : (entries_of r (who.Bridge node) ≡ []) ⊎ Logged (IsOf scene) (who.Bridge node) r.parties → AllByRecursion (λ e. AsksIn (length (links_at node scene.links)) (length n.apps) e.op) (entries_of r (who.Bridge node))
        told (inl none) = subst (λ es. AllByRecursion (λ (e : Entry). AsksIn (length (links_at node scene.links)) (length n.apps) e.op) es) (sym none) tt
        told (inr log) =
            let mine : IsBridgeAt scene.nodes node log.opening.party = owner_of scene r (who.Bridge node) log in
            subst (λ c. AllByRecursion (λ (x : Entry). AsksIn c (length n.apps) x.op) (entries_of r (who.Bridge node))) (sym (joined.bridge e))
            (bridge_asks (length n.apps) (entries_of r (who.Bridge node)) 0 bridge.opening (omega arith) (run_of scene r (who.Bridge node) (a_bridge bridge.opening) log mine.party))
