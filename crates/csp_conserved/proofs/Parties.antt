-- Each party of a scene whose log is a run of its turns, and whose lanes are in order, keeps the numbers of its buffers.
use Rattle.std.proofs.Common.{◌≡◌, ◌⊎◌, inl, inr, ℕ, suc, ◌≤◌, Bool, true, false, Some, List, [], ◌∷◌, length, slice_get, refl, sym, ◌∙◌, subst, arith}
use Rattle.std.specs.Prelude.{⊤}
use Rattle.std.specs.List.{AllByRecursion, AllZip}
use Rattle.std.proofs.lemmas.List.{length-replicate}
use Rattle.std.proofs.lemmas.List.Elements.{All-replicate}
use Rattle.std.proofs.lemmas.Option.{same_Some}
use Rattle.csp_app.specs.PlainApp.{opening as app_opening}
use Rattle.csp_bridge.specs.PlainBridge.{opening as bridge_opening}
use Rattle.csp_base.specs.declared.limits.TheConstants.{MAX_APPS, ALL_SLOTS}
use Rattle.csp_consistent.proofs.Public.{each_at, Logged, are_apart, entries_at, IsOf, IsOwner, are_owners, as_hub, as_link, PopsWithin, logged, pops_within}
use Rattle.csp_consistent.specs.Lanes.{AreInOrder}
use Rattle.csp_consistent.specs.Reading.{entries_of, got_by}
use Rattle.csp_consistent.specs.Runs.{AreLogsOf}
use Rattle.csp_deck.specs.Runs.{IsRun}
use Rattle.csp_hub.specs.PlainHub.{opening as hub_opening}
use Rattle.csp_hub.specs.Planning as hub_planning
use Rattle.csp_link.specs.PlainLink.{opening as link_opening}
use Rattle.csp_link.specs.PlainLink.{in_turn}
use Rattle.csp_log.specs.declared.entry.Entry.{Entry}
use Rattle.csp_log.specs.declared.places.QueueId.TheVariants as queue
use Rattle.csp_log.specs.declared.shown.AnswerShown.{AnswerShown}
use Rattle.csp_log.specs.declared.shown.OpShown.{OpShown}
use Rattle.csp_party.specs.Any.{PlainParty, a_bridge, a_hub, a_link, a_router, an_app, an_iface, holds}
use Rattle.csp_ports.proofs.Public.{idle_whole}
use Rattle.csp_ports.specs.Keeps.{AreWhole}
use Rattle.csp_ports.specs.PlainPorts.{ports_of, untouched}
use Rattle.csp_prefix.proofs.Public.{router_there, each_any, each_both}
use Rattle.csp_prefix.specs.Routers.{ComesSo}
use Rattle.csp_rdp.specs.Balance.{IsWhole}
use Rattle.csp_rdp.specs.Machine.{idle}
use Rattle.csp_record.specs.Record.{PlainPartyLog, PlainRecord}
use Rattle.csp_log.specs.declared.who.Who.{Who}
use Rattle.csp_log.specs.declared.who.Who.TheVariants as who
use Rattle.csp_scene.specs.Kept.{AreLinksAfter}
use Rattle.csp_scene.specs.Links.{links_at}
use Rattle.csp_scene.specs.Ranges.{HasEnds, IsLink as IsSceneLink, IsNode, IsScene}
use Rattle.csp_scene.specs.Scene.{PlainLink, PlainScene}
use Rattle.csp_topology.proofs.Public.{home_placed}
use Rattle.csp_topology.specs.Parties.{PlainOpening, config_of, heeded, iface_opening, link_party, parties_of, party_steps, router_for}
use Rattle.csp_conserved.proofs.Apps.{app_keeps}
use Rattle.csp_conserved.proofs.Bridges.{bridge_keeps}
use Rattle.csp_conserved.proofs.Frames.{GoesBare, each_goes, each_got, hub_keeps, iface_gets_bare, link_gets_bare, link_keeps}
use Rattle.csp_conserved.proofs.Ifaces.{IsBare, IsBetween, iface_keeps}
use Rattle.csp_conserved.proofs.RouterTurns.{IsWholeRouter, router_keeps}
use Rattle.csp_conserved.proofs.Running.{KeepsInTurns, keeps_in_run}
use Rattle.csp_conserved.specs.Kept.{KeepNumbers, KeepsNumbers}

-- ---- parties of each kind, between two turns, and what comes to them

abbrev IsRouter : PlainParty → Type 0
IsRouter (a_router r) = IsWholeRouter r
IsRouter _ = ⊥

abbrev IsBridge : PlainParty → Type 0
IsBridge (a_bridge b) = ⊤
IsBridge _ = ⊥

abbrev IsIface : ℕ → ℕ → PlainParty → Type 0
IsIface node number (an_iface i) = IsBetween node number i
IsIface node number _ = ⊥

abbrev IsApp : PlainParty → Type 0
IsApp (an_app a) = ⊤
IsApp _ = ⊥

abbrev IsLink : PlainParty → Type 0
IsLink (a_link l) = ⊤
IsLink _ = ⊥

abbrev IsHub : PlainParty → Type 0
IsHub (a_hub h) = ⊤
IsHub _ = ⊥

-- anything may come
abbrev Any : OpShown → AnswerShown → Type 0
Any o a = ⊤

-- from a link comes nothing with a buffer
abbrev ComesBare : ℕ → OpShown → AnswerShown → Type 0
ComesBare number o a = AllByRecursion IsBare (got_by (queue.Rx number) o a)

-- nor does it to a hub with so many ends, which pops of those alone
abbrev GoesToHub : ℕ → OpShown → AnswerShown → Type 0
GoesToHub n o a = PopsWithin n o × GoesBare n o a

-- ---- the turns of each kind

router_turns : KeepsInTurns party_steps IsRouter holds ComesSo
router_turns (a_router r) time a is fits comes = let turn = router_keeps r time a is fits comes in record { again = turn.again; numbers = turn.numbers }
router_turns (a_bridge b) time a is fits comes = absurd is
router_turns (an_iface i) time a is fits comes = absurd is
router_turns (an_app p) time a is fits comes = absurd is
router_turns (a_link l) time a is fits comes = absurd is
router_turns (a_hub h) time a is fits comes = absurd is

bridge_turns : KeepsInTurns party_steps IsBridge holds Any
bridge_turns (a_bridge b) time a is fits comes = record { again = tt; numbers = bridge_keeps b a fits }
bridge_turns (a_router r) time a is fits comes = absurd is
bridge_turns (an_iface i) time a is fits comes = absurd is
bridge_turns (an_app p) time a is fits comes = absurd is
bridge_turns (a_link l) time a is fits comes = absurd is
bridge_turns (a_hub h) time a is fits comes = absurd is

iface_turns : (node number : ℕ) → KeepsInTurns party_steps (IsIface node number) holds (ComesBare number)
iface_turns node number (an_iface i) time a is fits comes = let turn = iface_keeps node number i time a is fits comes in record { again = turn.again; numbers = turn.numbers }
iface_turns node number (a_router r) time a is fits comes = absurd is
iface_turns node number (a_bridge b) time a is fits comes = absurd is
iface_turns node number (an_app p) time a is fits comes = absurd is
iface_turns node number (a_link l) time a is fits comes = absurd is
iface_turns node number (a_hub h) time a is fits comes = absurd is

app_turns : KeepsInTurns party_steps IsApp holds Any
app_turns (an_app p) time a is fits comes = record { again = tt; numbers = app_keeps p time a fits }
app_turns (a_router r) time a is fits comes = absurd is
app_turns (a_bridge b) time a is fits comes = absurd is
app_turns (an_iface i) time a is fits comes = absurd is
app_turns (a_link l) time a is fits comes = absurd is
app_turns (a_hub h) time a is fits comes = absurd is

link_turns : KeepsInTurns party_steps IsLink holds (GoesBare 2)
link_turns (a_link l) time a is fits comes = let same = link_keeps l.way time (in_turn l) a fits comes in record { again = tt; numbers = λ k. omega (arith, same k) }
link_turns (a_router r) time a is fits comes = absurd is
link_turns (a_bridge b) time a is fits comes = absurd is
link_turns (an_iface i) time a is fits comes = absurd is
link_turns (an_app p) time a is fits comes = absurd is
link_turns (a_hub h) time a is fits comes = absurd is

hub_turns : (n : ℕ) → KeepsInTurns party_steps IsHub holds (GoesToHub n)
hub_turns n (a_hub h) time a is fits comes = let same = hub_keeps n h.serving (hub_planning.plan_of h time) a fits comes.0 comes.1 in record { again = tt; numbers = λ k. omega (arith, same k) }
hub_turns n (a_router r) time a is fits comes = absurd is
hub_turns n (a_bridge b) time a is fits comes = absurd is
hub_turns n (an_iface i) time a is fits comes = absurd is
hub_turns n (an_app p) time a is fits comes = absurd is
hub_turns n (a_link l) time a is fits comes = absurd is

any_comes : (es : List Entry) → AllByRecursion (λ e. Any e.op e.answer) es
any_comes es = each_any (λ e. Any e.op e.answer) es (λ e. tt)

-- ---- the ports of a router as it opens

opening_whole : (apps : ℕ) → apps ≤ MAX_APPS → AreWhole (ports_of apps)
opening_whole apps few = record { few = few; slots = length-replicate ALL_SLOTS untouched; machines = All-replicate IsWhole ALL_SLOTS idle idle_whole }

-- ---- the parties of a scene

-- what holds in each place holds of each pair
each_pair : (R : PlainOpening → PlainPartyLog → Type 0) (os : List PlainOpening) (logs : List PlainPartyLog) → AreLogsOf os logs
    → ((i : ℕ) (o : PlainOpening) (log : PlainPartyLog) → slice_get os i ≡ Some o → slice_get logs i ≡ Some log → R o log) → AllZip R os logs
each_pair R [] [] are h = tt
each_pair R [] (log ∷ logs) are h = are
each_pair R (o ∷ os) [] are h = are
each_pair R (o ∷ os) (log ∷ logs) are h = (h 0 o log refl refl, each_pair R os logs are.1 (λ i x l there its. h (suc i) x l there its))

module _ (scene : PlainScene) (r : PlainRecord) (is : IsScene scene) (after : AreLinksAfter (length scene.nodes) [] scene.links) (are : AreLogsOf (parties_of scene) r.parties) (order : AreInOrder scene r) where
  -- a party and the entries of its name
  abbrev Keeps : Who → PlainParty → Type 0
  Keeps w p = IsRun party_steps 0 p (entries_of r w) → KeepsNumbers p (entries_of r w)

  router_comes : (place : ℕ) → AllByRecursion (λ e. ComesSo e.op e.answer) (entries_of r (who.Router place))
  router_comes place =
      told (logged scene r (who.Router place) are)
    where
      told : (entries_of r (who.Router place) ≡ []) ⊎ Logged (IsOf scene) (who.Router place) r.parties → AllByRecursion (λ e. ComesSo e.op e.answer) (entries_of r (who.Router place))
      told (inl none) = subst (λ es. AllByRecursion (λ e. ComesSo e.op e.answer) es) (sym none) tt
      told (inr l) = (router_there scene r place is are order l).log.comes

  link_part : (number : ℕ) (l : PlainLink) → slice_get scene.links number ≡ Some l → Keeps (who.Link number) (link_party l)
  link_part number l there =
      by l.hub refl
    where
      shape : HasEnds l
      shape = (each_at (IsSceneLink scene.nodes scene.links) scene.links number l is.links there).shape

      goes : AllByRecursion (λ e. GoesBare (length l.ends) e.op e.answer) (entries_of r (who.Link number))
      goes = each_goes (length l.ends) (entries_of r (who.Link number)) (λ at low. link_gets_bare scene r are number l at (home_placed scene after) order there low)

      by : (b : Bool) → l.hub ≡ b → Keeps (who.Link number) (link_party l)
      by true hub =
          subst (Keeps (who.Link number)) (sym (as_hub l hub)) (λ run.
          keeps_in_run party_steps IsHub holds (GoesToHub (length l.ends)) (hub_turns (length l.ends)) (entries_of r (who.Link number)) 0 (a_hub (hub_opening (length l.ends) l.plan)) tt run
          (each_both (λ e. PopsWithin (length l.ends) e.op) (λ e. GoesBare (length l.ends) e.op e.answer) (λ e. GoesToHub (length l.ends) e.op e.answer) (entries_of r (who.Link number)) (λ e one other. (one, other))
          (pops_within scene r number l are there hub (omega (arith, shape.least))) goes))
      by false none =
          subst (Keeps (who.Link number)) (sym (as_link l none)) (λ run.
          keeps_in_run party_steps IsLink holds (GoesBare 2) link_turns (entries_of r (who.Link number)) 0 (a_link (link_opening l.kind l.plan)) tt run
          (subst (λ n. AllByRecursion (λ e. GoesBare n e.op e.answer) (entries_of r (who.Link number))) (shape.pair none) goes))

  part : (w : Who) (p : PlainParty) → IsOwner scene.nodes scene.links w p → Keeps w p
  part (who.Router place) p at =
      let few = (each_at IsNode scene.nodes place at.node is.nodes at.there).few in
      subst (Keeps (who.Router place)) (sym at.party) (λ run.
      keeps_in_run party_steps IsRouter holds ComesSo router_turns (entries_of r (who.Router place)) 0 (router_for (config_of place at.addr at.node (links_at place scene.links)))
      (record { few = few; whole = opening_whole (length at.node.apps) few }) run (router_comes place))
  part (who.Bridge place) p at =
      subst (Keeps (who.Bridge place)) (sym at.party) (λ run.
      keeps_in_run party_steps IsBridge holds Any bridge_turns (entries_of r (who.Bridge place)) 0 (a_bridge bridge_opening) tt run (any_comes (entries_of r (who.Bridge place))))
  part (who.Iface place number) p at =
      subst (Keeps (who.Iface place number)) (sym at.party) (λ run.
      keeps_in_run party_steps (IsIface place number) holds (ComesBare number) (iface_turns place number) (entries_of r (who.Iface place number)) 0
      (an_iface (iface_opening place number at.link.kind at.link.mtu (heeded at.node.addr at.link)))
      (record { named = (refl, refl); done = λ none. refl }) run
      (each_got IsBare (queue.Rx number) (entries_of r (who.Iface place number)) (iface_gets_bare scene r are place number at.link after order at.on)))
  part (who.App place number) p at =
      subst (Keeps (who.App place number)) (sym at.party) (λ run.
      keeps_in_run party_steps IsApp holds Any app_turns (entries_of r (who.App place number)) 0 (an_app (app_opening number at.app.steps)) tt run (any_comes (entries_of r (who.App place number))))
  part (who.Link number) p at = subst (Keeps (who.Link number)) (sym at.party) (link_part number at.link at.there)

  -- the party in each place and the log there
  pair : (i : ℕ) (o : PlainOpening) (log : PlainPartyLog) → slice_get (parties_of scene) i ≡ Some o → slice_get r.parties i ≡ Some log → KeepsNumbers o.party log.entries
  pair i o log there its =
      let at = entries_at (parties_of scene) r.parties i o are (are_apart scene) there in
      let same : at.0 ≡ log = same_Some at.0 log (sym at.1 ∙ its) in
      let run = at.2.run in
      subst (λ (l : PlainPartyLog). KeepsNumbers o.party l.entries) same
      (subst (KeepsNumbers o.party) at.3 (part o.who o.party (each_at (IsOf scene) (parties_of scene) i o (are_owners scene) there) (subst (IsRun party_steps 0 o.party) (sym at.3) run)))

  pub parties_keep : KeepNumbers (parties_of scene) r.parties
  parties_keep = each_pair (λ o log. KeepsNumbers o.party log.entries) (parties_of scene) r.parties are pair
