-- In a run whose flows are clear, and in which links changed nothing, no copy is stale.
use Rattle.std.proofs.Common.{◌≡◌, ◌⊎◌, inl, inr, ℕ, false, List, [], sym, subst, arith}
use Rattle.std.specs.List.{AllByRecursion}
use Rattle.csp_buffer.specs.Content.{Content}
use Rattle.csp_log.specs.declared.entry.Entry.{Entry}
use Rattle.csp_log.specs.declared.event.Event.{Event}
use Rattle.csp_record.specs.Passed.{passed}
use Rattle.csp_record.specs.Record.{PlainRecord}
use Rattle.csp_record.specs.Stale.{is_stale, stale}
use Rattle.csp_log.specs.declared.who.Who.TheVariants as who
use Rattle.csp_scene.specs.Ranges.{IsScene}
use Rattle.csp_scene.specs.Scene.{PlainScene}
use Rattle.csp_stack.specs.Config.{opening_state}
use Rattle.csp_stack.specs.Readings.{broadcast}
use Rattle.csp_stack.specs.Router.{Facts}
use Rattle.csp_consistent.proofs.Public.{Logged, IsOf, logged}
use Rattle.csp_consistent.specs.Consistent.{IsConsistent}
use Rattle.csp_consistent.specs.Reading.{entries_of}
use Rattle.csp_prefix.specs.Routers.{IsHeard}
use Rattle.csp_prefix.proofs.Public.{flows_in, RouterThere, router_there, no_past, all_fresh, Aim, all_come, heard_all, opening_stands, part_all, past}
use Rattle.csp_peers.specs.Addressed.{AreAddressedApart}
use Rattle.csp_peers.specs.Clear.{HasClearFlows}
use Rattle.csp_peers.proofs.AppWishes.{router_gets_each}
use Rattle.csp_peers.proofs.PacketsMade.{Acking, IsPeerOf, all_far, all_short, all_well, allows_one, facts_of, hears_acking, is_of_peer, last_index, log_short, of_kind, one_peer}
use Rattle.csp_peers.proofs.RouterEvents.{run_fresh}
use Rattle.csp_peers.proofs.RouterNear.{AcksWithin, IsOfPeer, peer_aim, peer_is_aim}
use Rattle.csp_peers.proofs.StaleCounting.{counts_stale}

module _ (scene : PlainScene) (r : PlainRecord) (is : IsScene scene) (con : IsConsistent scene r) (same : passed r ≡ 0) (apart : AreAddressedApart scene.nodes) (clear : HasClearFlows scene r) where
  -- none of the events of a router of the scene tells of a stale copy
  router_fresh : (place : ℕ) → RouterThere scene r place → AllByRecursion (λ (e : Entry). AllByRecursion (λ v. is_stale v ≡ false) e.events.items) (entries_of r (who.Router place))
  router_fresh place t =
      let es : List Entry = entries_of r (who.Router place) in
      let f : Facts = facts_of scene r is con same apart clear place t in
      let g : Aim = peer_aim f broadcast last_index (flows_in scene r) (IsPeerOf scene r is con same apart clear t.addr) (IsHeard es) in
      let heard : (b : Content) → IsHeard es b → Acking scene r is con same apart clear b = λ b h. of_kind (Acking scene r is con same apart clear) es (hears_acking scene r is con same apart clear place t) b h in
      let known : (b : Content) → IsHeard es b → IsOfPeer (flows_in scene r) (IsPeerOf scene r is con same apart clear t.addr) t.addr broadcast last_index b = λ b h. is_of_peer scene r is con same apart clear t.addr b (heard b h).0 in
      let acks : (b : Content) → IsHeard es b → AcksWithin last_index b = λ b h. (heard b h).1 in
      let k = peer_is_aim f es broadcast last_index (flows_in scene r) (IsPeerOf scene r is con same apart clear t.addr) (IsHeard es) (omega arith) (allows_one scene r is con same apart clear) (omega arith) (one_peer scene r is con same apart clear t.addr) (all_short scene r is con same apart clear) (all_far scene r is con same apart clear) known in
      run_fresh f es broadcast last_index (flows_in scene r) (IsPeerOf scene r is con same apart clear t.addr) (IsHeard es) (omega arith) (allows_one scene r is con same apart clear) (omega arith) (omega arith) (one_peer scene r is con same apart clear t.addr)
      (all_short scene r is con same apart clear) (all_far scene r is con same apart clear) (log_short scene r is con same apart clear place) known acks
      es 0 no_past (opening_state f.apps t.node.routes) t.log.run
      (all_come g es t.log.comes (heard_all g es (λ at mark b e. record { at = at; mark = mark; there = e }) (all_well g (λ i c. c) es (router_gets_each scene r is con clear.unforged clear.to_one place))) (all_fresh es)) (part_all (past es))
      (opening_stands g f es k t.log.few)

  each_fresh : (place : ℕ) → (entries_of r (who.Router place) ≡ []) ⊎ Logged (IsOf scene) (who.Router place) r.parties → AllByRecursion (λ (e : Entry). AllByRecursion (λ v. is_stale v ≡ false) e.events.items) (entries_of r (who.Router place))
  each_fresh place (inl none) = subst (AllByRecursion (λ (e : Entry). AllByRecursion {X = Event} (λ v. is_stale v ≡ false) e.events.items)) (sym none) tt
  each_fresh place (inr l) = router_fresh place (router_there scene r place is con.runs con.lanes l)

  pub stale_none : stale r ≡ 0
  stale_none = counts_stale scene r con.runs (λ place. each_fresh place (logged scene r (who.Router place) con.runs))
