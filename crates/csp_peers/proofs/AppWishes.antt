-- What the applications of a scene put into their lanes, where none forges a packet of the reliable transport or asks for a reliable
-- connection with all nodes; and so what each router got from its applications.
use Rattle.std.proofs.Common.{◌≡◌, ◌⊎◌, inl, inr, ℕ, ◌<◌, Option, Some, None, List, [], ◌∷◌, length, slice_get, refl, sym, subst, arith}
use Rattle.std.specs.Prelude.{if◌then◌else◌, IfSome}
use Rattle.std.specs.List.{AllByRecursion}
use Rattle.std.proofs.lemmas.Bool.{eq-eqb}
use Rattle.csp_app.specs.Making.{filled, no_packets}
use Rattle.csp_app.specs.PlainApp as plain_app
use Rattle.csp_app.specs.PlainStep.{PlainStep}
use Rattle.csp_app.specs.PlainStep as step
use Rattle.csp_buffer.specs.Content.{Content}
use Rattle.csp_consistent.proofs.Public.{through, each_at, each_first, each_last, Logged, IsAppAt, IsOf, IsRouterAt, logged}
use Rattle.csp_consistent.specs.Consistent.{IsConsistent}
use Rattle.csp_consistent.specs.Reading.{entries_of, got_by, gets, puts}
use Rattle.csp_deck.specs.Runs.{IsRun}
use Rattle.csp_log.specs.declared.entry.Entry.{Entry}
use Rattle.csp_log.specs.declared.places.QueueId.TheVariants as queue
use Rattle.csp_base.specs.declared.limits.TheConstants.{SLOTS}
use Rattle.csp_log.specs.declared.places.TheConstants.{UNMARKED}
use Rattle.csp_log.specs.declared.shown.AnswerShown.{AnswerShown}
use Rattle.csp_log.specs.declared.shown.AnswerShown.TheVariants as answer
use Rattle.csp_log.specs.declared.shown.ItemShown.TheVariants as item
use Rattle.csp_log.specs.declared.shown.OpShown.{OpShown}
use Rattle.csp_log.specs.declared.shown.OpShown.TheVariants as op
use Rattle.csp_party.specs.Any.{an_app}
use Rattle.csp_prefix.proofs.Public.{AreAppLanes, ServesOwn, app_run, router_run, serves_own, app_lanes_there, owner_of, run_of, PutsSo, app_puts}
use Rattle.csp_prefix.specs.Apps.{IsAppLog}
use Rattle.csp_prefix.specs.Routers.{opening_router, router_steps}
use Rattle.csp_record.specs.Record.{PlainRecord}
use Rattle.csp_log.specs.declared.who.Who.TheVariants as who
use Rattle.csp_scene.specs.Links.{links_at}
use Rattle.csp_scene.specs.Ranges.{IsApp, IsNode, IsOwnPort, IsScene, IsStep}
use Rattle.csp_scene.specs.Scene.{PlainNode, PlainScene}
use Rattle.csp_stack.specs.Router.{Router}
use Rattle.csp_topology.specs.Lanes.{leader_of}
use Rattle.csp_topology.specs.Parties.{config_of, router_for}
use Rattle.csp_peers.specs.Unforged.{ComesWell, GetsWell, HasNoBroadcasts, HasNoForgeries, HasSteps, IsToOne, IsUnforged}

-- a packet for a slot is marked with it
unlike : (slot : ℕ) → slot < SLOTS → slot ≡ UNMARKED → ⊥
unlike slot low e = omega (arith, low, e)

-- a port that a connection may have as its own is a port
own_port : (from : Option ℕ) → IfSome from IsOwnPort → IfSome from (λ own. own < 64)
own_port None h = tt
own_port (Some own) h = omega (arith, h.1)

-- packets of no step have no flag
none_well : (j : ℕ) (b : Content) → ComesWell (item.Packet UNMARKED (filled no_packets j b))
none_well j b e = refl

step_well : (x : PlainStep) → IsStep x → IsUnforged x → IsToOne x → PutsSo ComesWell x
step_well step.Take h u t = (none_well, tt)
step_well step.Give h u t = (none_well, tt)
step_well (step.Bind port need) h u t = (none_well, tt)
step_well (step.Connect slot dest port prio flags from) h u t = (none_well, (omega (arith, h.1.0), omega (arith, h.1.1), omega (arith, h.1.2.1), t, own_port from h.1.3))
step_well (step.Send slot bytes) h u t = ((λ j b e. absurd (unlike slot h.0.0 e)), tt)
step_well (step.Burst slot count len) h u t = ((λ j b e. absurd (unlike slot h.0.0 e)), tt)
step_well (step.Blob slot len size) h u t = ((λ j b e. absurd (unlike slot h.0.0 e)), tt)
step_well (step.Raw header bytes) h u t = ((λ j b e. u), tt)
step_well (step.Recv slot count rounds) h u t = (none_well, tt)
step_well (step.Collect slot count rounds) h u t = (none_well, tt)
step_well (step.Close slot) h u t = (none_well, tt)
step_well (step.Wait rounds) h u t = (none_well, tt)

steps_well : (steps : List PlainStep) → AllByRecursion IsStep steps → AllByRecursion IsUnforged steps → AllByRecursion IsToOne steps → AllByRecursion (PutsSo ComesWell) steps
steps_well [] h u t = tt
steps_well (x ∷ xs) h u t = (step_well x h.0 u.0 t.0, steps_well xs h.1 u.1 t.1)

-- what the log of such an application put into its `Up`
pub puts_well : (number : ℕ) (steps : List PlainStep) (es : List Entry) → AllByRecursion IsStep steps → AllByRecursion IsUnforged steps → AllByRecursion IsToOne steps → IsAppLog number steps es
    → AllByRecursion ComesWell (puts (queue.Up number) es)
puts_well number steps es h u t log = app_puts ComesWell steps none_well (steps_well steps h u t) (queue.Up number) number es log

-- a router pops the `Up` of its own applications alone: so where what it got from each of them is such, what it popped at all is
gets_one : (apps : ℕ) (o : OpShown) (a : AnswerShown) → ServesOwn apps o → ((k : ℕ) → k < apps → AllByRecursion ComesWell (got_by (queue.Up k) o a)) → GetsWell o a
gets_one apps (op.Pop (queue.Up k)) (answer.Popped i) own got = (subst (λ c. AllByRecursion ComesWell (if c then i ∷ [] else [])) (eq-eqb k k refl) (got k own)).0
gets_one apps _ _ own got = tt

gets_each : (apps : ℕ) (es : List Entry) → AllByRecursion (λ e. ServesOwn apps e.op) es → ((k : ℕ) → k < apps → AllByRecursion ComesWell (gets (queue.Up k) es)) → AllByRecursion (λ e. GetsWell e.op e.answer) es
gets_each apps [] own got = tt
gets_each apps (e ∷ es) own got = (
  gets_one apps e.op e.answer own.0 (λ k low. each_first ComesWell (got_by (queue.Up k) e.op e.answer) (gets (queue.Up k) es) (got k low)),
  gets_each apps es own.1 (λ k low. each_last ComesWell (got_by (queue.Up k) e.op e.answer) (gets (queue.Up k) es) (got k low)),
)

-- ---- in a record of a scene

module _ (scene : PlainScene) (r : PlainRecord) (is : IsScene scene) (holds : IsConsistent scene r) (unforged : HasNoForgeries scene) (to_one : HasNoBroadcasts scene) where
  -- what an application of a node, or none, put into its `Up`
  pub app_puts_well : (place number : ℕ) → AllByRecursion ComesWell (puts (queue.Up number) (entries_of r (who.App place number)))
  app_puts_well place number =
      told (logged scene r (who.App place number) holds.runs)
    where
      told : (entries_of r (who.App place number) ≡ []) ⊎ Logged (IsOf scene) (who.App place number) r.parties → AllByRecursion ComesWell (puts (queue.Up number) (entries_of r (who.App place number)))
      told (inl none) = subst (λ es. AllByRecursion ComesWell (puts (queue.Up number) es)) (sym none) tt
      told (inr l) =
          let at : IsAppAt scene.nodes place number l.opening.party = owner_of scene r (who.App place number) l in
          puts_well number at.app.steps (entries_of r (who.App place number))
          (each_at IsApp at.node.apps number at.app (each_at IsNode scene.nodes place at.node is.nodes at.there).apps at.of_it).ranges
          (each_at (λ app. AllByRecursion IsUnforged app.steps) at.node.apps number at.app (each_at (HasSteps IsUnforged) scene.nodes place at.node unforged at.there) at.of_it)
          (each_at (λ app. AllByRecursion IsToOne app.steps) at.node.apps number at.app (each_at (HasSteps IsToOne) scene.nodes place at.node to_one at.there) at.of_it)
          (app_run (entries_of r (who.App place number)) 0 (plain_app.opening number at.app.steps) (run_of scene r (who.App place number) (an_app (plain_app.opening number at.app.steps)) l at.party))

  -- what a router got from an application of its node
  pub router_gets_well : (place addr k : ℕ) (n : PlainNode) → slice_get scene.nodes place ≡ Some n → n.addr ≡ Some addr → k < length n.apps
      → AllByRecursion ComesWell (gets (queue.Up k) (entries_of r (who.Router place)))
  router_gets_well place addr k n there called low =
      let lanes : AreAppLanes r place (leader_of place n.addr) k = app_lanes_there scene r place k n holds.lanes there low in
      subst (λ a. AllByRecursion ComesWell (gets (queue.Up k) (entries_of r (leader_of place a)))) called
      (through ComesWell r _ lanes.0 (app_puts_well place k))

  -- and so at each of its entries, or those of none
  pub router_gets_each : (place : ℕ) → AllByRecursion (λ e. GetsWell e.op e.answer) (entries_of r (who.Router place))
  router_gets_each place =
      told (logged scene r (who.Router place) holds.runs)
    where
      told : (entries_of r (who.Router place) ≡ []) ⊎ Logged (IsOf scene) (who.Router place) r.parties → AllByRecursion (λ e. GetsWell e.op e.answer) (entries_of r (who.Router place))
      told (inl none) = subst (λ es. AllByRecursion (λ e. GetsWell e.op e.answer) es) (sym none) tt
      told (inr l) =
          let at : IsRouterAt scene.nodes scene.links place l.opening.party = owner_of scene r (who.Router place) l in
          let es : List Entry = entries_of r (who.Router place) in
          let s : Router = opening_router (config_of place at.addr at.node (links_at place scene.links)).facts at.node.routes in
          let run : IsRun router_steps 0 s es = router_run es 0 s (run_of scene r (who.Router place) (router_for (config_of place at.addr at.node (links_at place scene.links))) l at.party) in
          gets_each (length at.node.apps) es (serves_own es 0 s run) (λ k low. router_gets_well place at.addr k at.node at.there at.called low)
