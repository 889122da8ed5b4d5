-- What goes over a link and its lanes has no buffer.
use Rattle.std.proofs.Common.{◌≡◌, ◌⊎◌, inl, inr, ℕ, ◌+◌, ◌<◌, ◌==◌, Bool, true, false, Option, None, Some, List, [], ◌∷◌, length, slice_get, refl, sym, ap, subst, arith}
use Rattle.std.specs.List.{AllByRecursion}
use Rattle.std.specs.Prelude.{nat_le}
use Rattle.csp_buffer.specs.Content.{Content}
use Rattle.csp_consistent.proofs.Public.{end_lanes_of, through, IsIfaceRun, IsJoint, iface_run, joint, each_first, each_if, each_last, one_at, Logged, IsLinkAt, IsOf, as_hub, as_link, PopsWithin, logged, came}
use Rattle.csp_consistent.specs.Lanes.{AreInOrder}
use Rattle.csp_consistent.specs.Reading.{entries_of, got_by, gets, is_queue, put_by, puts}
use Rattle.csp_consistent.specs.Runs.{AreLogsOf}
use Rattle.csp_deck.specs.Runs.{IsRun}
use Rattle.csp_deck.specs.Step.{answer_numbers, op_numbers, times}
use Rattle.csp_hub.specs.Asking as hub_asking
use Rattle.csp_hub.specs.PlainHub as plain_hub
use Rattle.csp_hub.specs.PlainHub.{PlainHub}
use Rattle.csp_hub.specs.Planning as hub_planning
use Rattle.csp_hub.specs.Planning.{HubPlan, pop, push, wait}
use Rattle.csp_iface.specs.Asking as iface_asking
use Rattle.csp_iface.specs.PlainIface.{PlainIface}
use Rattle.csp_iface.specs.Planning as iface_planning
use Rattle.csp_iface.specs.declared.plan.IfacePlan as iface_plans
use Rattle.csp_iface.specs.declared.plan.IfacePlan.TheVariants as iface_plan
use Rattle.csp_link.specs.Holding.{first_due}
use Rattle.csp_link.specs.PlainLink as plain_link
use Rattle.csp_link.specs.PlainLink.{PlainDirection, PlainLink as LinkState, in_turn}
use Rattle.csp_link.specs.Turns.{first_rule, turn_in, turn_of}
use Rattle.csp_link.specs.declared.held.Held.{Held}
use Rattle.csp_link.specs.declared.held.TheConstants.{MOST_HELD}
use Rattle.csp_link.specs.Ways.{to_queue}
use Rattle.csp_link.specs.declared.way.Way.{Way}
use Rattle.csp_link.specs.declared.way.Way.TheVariants.{Back, Forth}
use Rattle.csp_log.specs.Pictures.{Fits}
use Rattle.csp_log.specs.declared.entry.Entry.{Entry}
use Rattle.csp_log.specs.declared.frame.Frame.{Frame}
use Rattle.csp_log.specs.declared.places.End.{End}
use Rattle.csp_log.specs.declared.places.QueueId.{QueueId}
use Rattle.csp_log.specs.declared.places.QueueId.TheVariants as queue
use Rattle.csp_log.specs.declared.shown.AnswerShown.{AnswerShown}
use Rattle.csp_log.specs.declared.shown.AnswerShown.TheVariants as answer
use Rattle.csp_log.specs.declared.shown.ItemShown.{ItemShown}
use Rattle.csp_log.specs.declared.shown.ItemShown.TheVariants as item
use Rattle.csp_log.specs.declared.shown.OpShown.{OpShown}
use Rattle.csp_log.specs.declared.shown.OpShown.TheVariants as op
use Rattle.csp_party.specs.Any.{a_hub, a_link, an_iface}
use Rattle.csp_prefix.proofs.Public.{owner_of, run_of}
use Rattle.csp_record.specs.Record.{PlainRecord}
use Rattle.csp_log.specs.declared.who.Who.TheVariants as who
use Rattle.csp_scene.proofs.Public.{AllByRecursion-append}
use Rattle.csp_scene.specs.Kept.{AreLinksAfter}
use Rattle.csp_scene.specs.Links.{links_at}
use Rattle.csp_scene.specs.Scene.{PlainLink, PlainScene}
use Rattle.csp_topology.proofs.Public.{AreHome, home_placed}
use Rattle.csp_topology.specs.Parties.{iface_opening, link_party, parties_of, party_steps}
use Rattle.csp_conserved.proofs.Ifaces.{IsBare}

-- ---- what is put there

-- an interface pushes to its link frames alone
given_bare : (k : ℕ) (o : Option Content) (a : AnswerShown) → AllByRecursion IsBare (put_by (queue.Tx k) (iface_asking.given o) a)
given_bare k None a = tt
given_bare k (Some b) a = tt

delivered_bare : (k number : ℕ) (o : Option Content) (a : AnswerShown) → AllByRecursion IsBare (put_by (queue.Tx k) (iface_asking.delivered number o) a)
delivered_bare k number None a = tt
delivered_bare k number (Some b) answer.Pushed = tt
delivered_bare k number (Some b) _ = tt

transmitted_bare : (k number : ℕ) (o : Option Frame) (a : AnswerShown) → AllByRecursion IsBare (put_by (queue.Tx k) (iface_asking.transmitted number o) a)
transmitted_bare k number None a = tt
transmitted_bare k number (Some f) answer.Pushed = each_if IsBare (number == k) (item.Frame f) refl
transmitted_bare k number (Some f) _ = tt

iface_put : (k : ℕ) (s : PlainIface) (p : iface_plans.IfacePlan) (a : AnswerShown) → AllByRecursion IsBare (put_by (queue.Tx k) (iface_asking.op_of s p) a)
iface_put k s iface_plan.Rest a = tt
iface_put k s iface_plan.Return a = given_bare k s.back a
iface_put k s iface_plan.Deliver a = delivered_bare k s.number s.accepted a
iface_put k s iface_plan.Take a = tt
iface_put k s iface_plan.Transmit a = transmitted_bare k s.number (slice_get s.frames 0) a
iface_put k s iface_plan.Fetch a = tt
iface_put k s iface_plan.Receive a = tt

iface_puts : (k : ℕ) (es : List Entry) (time : ℕ) (s : PlainIface) → IsRun party_steps time (an_iface s) es → AllByRecursion IsBare (puts (queue.Tx k) es)
iface_puts k [] time s run = tt
iface_puts k (e ∷ es) time s run =
    AllByRecursion-append IsBare (put_by (queue.Tx k) e.op e.answer) (puts (queue.Tx k) es)
    (subst (λ o. AllByRecursion IsBare (put_by (queue.Tx k) o e.answer)) (sym run.1.op) (iface_put k s (iface_planning.plan_of s) e.answer))
    (iface_puts k es e.time _ run.2)

-- and so does a link
frame_bare : (k : ℕ) (way : Way) (f : Frame) (a : AnswerShown) → AllByRecursion IsBare (put_by (queue.Rx k) (op.Push (to_queue way) (item.Frame f)) a)
frame_bare k way f answer.Pushed = each_if IsBare (is_queue (queue.Rx k) (to_queue way)) (item.Frame f) refl
frame_bare k way f _ = tt

link_put : (k : ℕ) (way : Way) (now : ℕ) (due : Option (ℕ × Held)) (few : Bool) (d : PlainDirection) (a : AnswerShown) → AllByRecursion IsBare (put_by (queue.Rx k) (turn_of way now due d (first_rule due few)).asks a)
link_put k way now (Some p) few d a = frame_bare k way p.1.frame a
link_put k way now None true d a = tt
link_put k way now None false d a = tt

link_puts : (k : ℕ) (es : List Entry) (time : ℕ) (s : LinkState) → IsRun party_steps time (a_link s) es → AllByRecursion IsBare (puts (queue.Rx k) es)
link_puts k [] time s run = tt
link_puts k (e ∷ es) time s run =
    AllByRecursion-append IsBare (put_by (queue.Rx k) e.op e.answer) (puts (queue.Rx k) es)
    (subst (λ o. AllByRecursion IsBare (put_by (queue.Rx k) o e.answer)) (sym run.1.op) (let d = in_turn s in link_put k s.way e.time (first_due e.time d.held) (nat_le (length d.held) MOST_HELD) d e.answer))
    (link_puts k es e.time _ run.2)

-- nor a hub
hub_put : (k end : ℕ) (p : HubPlan) (a : AnswerShown) → AllByRecursion IsBare (put_by (queue.Rx k) (hub_asking.op_of end p) a)
hub_put k end (push place h) answer.Pushed = each_if IsBare (end == k) (item.Frame h.frame) refl
hub_put k end (push place h) _ = tt
hub_put k end pop a = tt
hub_put k end wait a = tt

hub_puts : (k : ℕ) (es : List Entry) (time : ℕ) (h : PlainHub) → IsRun party_steps time (a_hub h) es → AllByRecursion IsBare (puts (queue.Rx k) es)
hub_puts k [] time h run = tt
hub_puts k (e ∷ es) time h run =
    AllByRecursion-append IsBare (put_by (queue.Rx k) e.op e.answer) (puts (queue.Rx k) es)
    (subst (λ o. AllByRecursion IsBare (put_by (queue.Rx k) o e.answer)) (sym run.1.op) (hub_put k h.serving (hub_planning.plan_of h e.time) e.answer))
    (hub_puts k es e.time _ run.2)

-- whichever of the two it is
either_puts : (k : ℕ) (l : PlainLink) (es : List Entry) → IsRun party_steps 0 (link_party l) es → AllByRecursion IsBare (puts (queue.Rx k) es)
either_puts k l es run =
    by l.hub refl
  where
    by : (b : Bool) → l.hub ≡ b → AllByRecursion IsBare (puts (queue.Rx k) es)
    by true is = hub_puts k es 0 (plain_hub.opening (length l.ends) l.plan) (subst (λ p. IsRun party_steps 0 p es) (as_hub l is) run)
    by false is = link_puts k es 0 (plain_link.opening l.kind l.plan) (subst (λ p. IsRun party_steps 0 p es) (as_link l is) run)

-- ---- in a record

module _ (scene : PlainScene) (r : PlainRecord) (are : AreLogsOf (parties_of scene) r.parties) where
  pub tx_bare : (node number k : ℕ) → AllByRecursion IsBare (puts (queue.Tx k) (entries_of r (who.Iface node number)))
  tx_bare node number k =
      told (logged scene r (who.Iface node number) are)
    where
      told : (entries_of r (who.Iface node number) ≡ []) ⊎ Logged (IsOf scene) (who.Iface node number) r.parties → AllByRecursion IsBare (puts (queue.Tx k) (entries_of r (who.Iface node number)))
      told (inl none) = subst (λ es. AllByRecursion IsBare (puts (queue.Tx k) es)) (sym none) tt
      told (inr l) =
          let own : IsIfaceRun scene r node number = iface_run scene r node number l in
          iface_puts k (entries_of r (who.Iface node number)) 0 (iface_opening node number own.link.kind own.link.mtu own.heeds) own.run

  pub rx_bare : (number k : ℕ) → AllByRecursion IsBare (puts (queue.Rx k) (entries_of r (who.Link number)))
  rx_bare number k =
      told (logged scene r (who.Link number) are)
    where
      told : (entries_of r (who.Link number) ≡ []) ⊎ Logged (IsOf scene) (who.Link number) r.parties → AllByRecursion IsBare (puts (queue.Rx k) (entries_of r (who.Link number)))
      told (inl none) = subst (λ es. AllByRecursion IsBare (puts (queue.Rx k) es)) (sym none) tt
      told (inr l) =
          let at : IsLinkAt scene.links number l.opening.party = owner_of scene r (who.Link number) l in
          either_puts k at.link (entries_of r (who.Link number)) (run_of scene r (who.Link number) (link_party at.link) l at.party)

  -- an interface gets of its link nothing with a buffer
  came_bare : (l : PlainLink) (end : End) → AreHome scene → AreInOrder scene r → IsJoint scene.links l end → AllByRecursion IsBare (gets (queue.Rx end.iface) (entries_of r (who.Iface end.node end.iface)))
  came_bare l end home order j = through IsBare r _ (end_lanes_of scene r j.number l j.at end home order j.there j.on).1 (rx_bare j.number j.at)

  pub iface_gets_bare : (node number : ℕ) (l : PlainLink) → AreLinksAfter (length scene.nodes) [] scene.links → AreInOrder scene r → slice_get (links_at node scene.links) number ≡ Some l
      → AllByRecursion IsBare (gets (queue.Rx number) (entries_of r (who.Iface node number)))
  iface_gets_bare node number l after order on =
      let first : 0 + number ≡ number = omega arith in
      came_bare l (record { node = node; iface = number }) (home_placed scene after) order
      (subst (λ k. IsJoint scene.links l (record { node = node; iface = k })) first (joint (length scene.nodes) node scene.links [] number l after on))

  -- nor does a link or a hub of the interfaces at its ends
  pub link_gets_bare : (number : ℕ) (l : PlainLink) (at : ℕ) → AreHome scene → AreInOrder scene r → slice_get scene.links number ≡ Some l → at < length l.ends → AllByRecursion IsBare (gets (queue.Tx at) (entries_of r (who.Link number)))
  link_gets_bare number l at home order there low =
      let end = one_at l.ends at low in
      through IsBare r _ (end_lanes_of scene r number l at end.0 home order there end.1).0 (tx_bare end.0.node end.0.iface end.0.iface)

-- each turn got such
pub each_got : (P : ItemShown → Type 0) (q : QueueId) (es : List Entry) → AllByRecursion P (gets q es) → AllByRecursion (λ e. AllByRecursion P (got_by q e.op e.answer)) es
each_got P q [] all = tt
each_got P q (e ∷ es) all = (each_first P (got_by q e.op e.answer) (gets q es) all, each_got P q es (each_last P (got_by q e.op e.answer) (gets q es) all))

-- of each of so many ends a turn popped nothing with a buffer
abbrev pub GoesBare : ℕ → OpShown → AnswerShown → Type 0
GoesBare n o a = (at : ℕ) → at < n → AllByRecursion IsBare (got_by (queue.Tx at) o a)

pub each_goes : (n : ℕ) (es : List Entry) → ((at : ℕ) → at < n → AllByRecursion IsBare (gets (queue.Tx at) es)) → AllByRecursion (λ e. GoesBare n e.op e.answer) es
each_goes n [] all = tt
each_goes n (e ∷ es) all = (
  λ at low. each_first IsBare (got_by (queue.Tx at) e.op e.answer) (gets (queue.Tx at) es) (all at low),
  each_goes n es (λ at low. each_last IsBare (got_by (queue.Tx at) e.op e.answer) (gets (queue.Tx at) es) (all at low)),
)

-- ---- the turns of a link, which holds no buffer

keeps_by : (way : Way) (now : ℕ) (due : Option (ℕ × Held)) (few : Bool) (d : PlainDirection) (a : AnswerShown) → let o = (turn_of way now due d (first_rule due few)).asks in
    Fits o a → GoesBare 2 o a → (k : ℕ) → times k (op_numbers o) ≡ times k (answer_numbers a)
keeps_by way now (Some p) few d answer.Pushed fits bare k = refl
keeps_by way now (Some p) few d (answer.Full i) fits bare k = ap (λ j. times k (answer_numbers (answer.Full j))) (sym fits)
keeps_by way now (Some p) few d a fits bare k = absurd fits
keeps_by Forth now None true d (answer.Popped i) fits bare k = ap (times k) (sym (bare 0 (omega arith)).0)
keeps_by Back now None true d (answer.Popped i) fits bare k = ap (times k) (sym (bare 1 (omega arith)).0)
keeps_by way now None true d answer.Empty fits bare k = refl
keeps_by way now None true d a fits bare k = absurd fits
keeps_by way now None false d answer.Nothing fits bare k = refl
keeps_by way now None false d a fits bare k = absurd fits

pub link_keeps : (way : Way) (now : ℕ) (d : PlainDirection) (a : AnswerShown) → let o = (turn_in way now d).asks in Fits o a → GoesBare 2 o a → (k : ℕ) → times k (op_numbers o) ≡ times k (answer_numbers a)
link_keeps way now d = keeps_by way now (first_due now d.held) (nat_le (length d.held) MOST_HELD) d

-- ---- and those of a hub, which holds none either

pub hub_keeps : (n end : ℕ) (p : HubPlan) (a : AnswerShown) → Fits (hub_asking.op_of end p) a → PopsWithin n (hub_asking.op_of end p) → GoesBare n (hub_asking.op_of end p) a
    → (k : ℕ) → times k (op_numbers (hub_asking.op_of end p)) ≡ times k (answer_numbers a)
hub_keeps n end (push place h) answer.Pushed fits low bare k = refl
hub_keeps n end (push place h) (answer.Full i) fits low bare k = ap (λ j. times k (answer_numbers (answer.Full j))) (sym fits)
hub_keeps n end (push place h) a fits low bare k = absurd fits
hub_keeps n end pop (answer.Popped i) fits low bare k = ap (times k) (sym (came IsBare end i (bare end low)))
hub_keeps n end pop answer.Empty fits low bare k = refl
hub_keeps n end pop a fits low bare k = absurd fits
hub_keeps n end wait answer.Nothing fits low bare k = refl
hub_keeps n end wait a fits low bare k = absurd fits
