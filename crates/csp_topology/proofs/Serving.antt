-- Each queue that a party uses is its inbox, or a lane with an end that it calls so.
use Rattle.std.proofs.Common.{◌≡◌, ℕ, zero, suc, ◌+◌, ◌<◌, ◌==◌, Bool, true, false, cond, nat_lt, Option, Some, None, List, [], ◌∷◌, length, map, slice_get, ap, refl, sym, subst, ◌∙◌, arith, inl, inr, if◌then◌else◌}
use Rattle.std.specs.List.{AllByRecursion}
use Rattle.std.proofs.lemmas.Bool.{eqb-true, ltb-true}
use Rattle.std.proofs.lemmas.List.{length-map}
use Rattle.std.proofs.lemmas.Option.{same_Some, slice_get_within}
use Rattle.csp_link.specs.PlainLink as link
use Rattle.csp_log.specs.Kinds.{carried_on}
use Rattle.csp_log.specs.declared.places.Carries.{Carries}
use Rattle.csp_log.specs.declared.places.Carries.TheVariants as lane
use Rattle.csp_hub.specs.PlainHub as hub
use Rattle.csp_log.specs.declared.places.End.{End}
use Rattle.csp_log.specs.declared.places.LinkKind.{LinkKind}
use Rattle.csp_log.specs.declared.places.QueueId.{QueueId}
use Rattle.csp_log.specs.declared.places.QueueId.TheVariants as queue
use Rattle.csp_log.specs.declared.places.Rule.{Rule}
use Rattle.csp_log.specs.declared.places.Rule.TheVariants as rule
use Rattle.csp_party.specs.Any.{a_hub, a_link, uses}
use Rattle.csp_log.specs.declared.who.Who.{Who}
use Rattle.csp_log.specs.declared.who.Who.TheVariants as who
use Rattle.csp_scene.specs.Links.{links_at}
use Rattle.csp_scene.specs.Ranges.{HasEnds, IsEnd, IsLink, IsScene}
use Rattle.csp_scene.specs.Scene.{PlainApp, PlainLink, PlainNode, PlainScene}
use Rattle.csp_scene.specs.declared.limits.TheConstants.{BRIDGE_LINKS}
use Rattle.csp_topology.proofs.Joints.{ArePlaced, end_joint, joint_is, link_joint}
use Rattle.csp_topology.proofs.PartyPlaces.{IsParty, party_at}
use Rattle.csp_topology.proofs.PartyPlaces as party
use Rattle.csp_topology.proofs.PartyLemmas.{opened_ends}
use Rattle.csp_topology.proofs.Places.{all_at, get-within}
use Rattle.csp_topology.proofs.WirePlaces.{down_there, ifaces_of, out_there, rx_there, tx_there, up_there}
use Rattle.csp_topology.specs.Lanes.{PlainEnd, PlainLane, leader_of, out_lane}
use Rattle.csp_topology.specs.Parties.{PlainOpening, app_at, heeded, leader_opening, hub_with, iface_on, link_party, link_with, parties_of}
use Rattle.csp_topology.specs.Wired.{IsServed, Side, end_on, getting, inbox_rule, putting}
use Rattle.csp_topology.specs.Wires.{PlainJoint, down_lane, joint_of, rx_lane, tx_lane, up_lane, wire_at}

-- what a party uses among so many, and under one number
within : (r s : Rule) (k count : ℕ) (low : Bool) → nat_lt k count ≡ low → cond low (Some s) None ≡ Some r → (k < count) × (r ≡ s)
within r s k count true h e = (ltb-true k count h, sym (same_Some s r e))
within r s k count false h e = absurd cc

if_within : (r s : Rule) (k count : ℕ) (low : Bool) → nat_lt k count ≡ low → (if low then Some s else None) ≡ Some r → (k < count) × (r ≡ s)
if_within r s k count true h e = (ltb-true k count h, sym (same_Some s r e))
if_within r s k count false h e = absurd cc

own : (r s : Rule) (k number : ℕ) (here : Bool) → (k == number) ≡ here → (if here then Some s else None) ≡ Some r → (k ≡ number) × (r ≡ s)
own r s k number true h e = (eqb-true k number h, sym (same_Some s r e))
own r s k number false h e = absurd cc

an_inbox : (scene : PlainScene) (w : Who) (r : Rule) → inbox_rule w ≡ Some rule.Inbox → Some rule.Inbox ≡ Some r → IsServed scene w queue.Inbox r
an_inbox scene w r used e = inl (record { inbox = refl; takes = sym (same_Some rule.Inbox r e); used = used })

-- a lane among those of its node serves the party at each of its sides
by_lane : (scene : PlainScene) (node place : ℕ) (l : PlainLane) (side : Side) (r : Rule) → wire_at scene node place ≡ Some l → r ≡ rule.Lane l.carries → IsServed scene (end_on side l).who (end_on side l).queue r
by_lane scene node place l side r at is = inr (record { node = node; place = place; wire = l; at = at; side = side; called = refl; carries = is })

abbrev end_named : Who → QueueId → PlainEnd
end_named w q = record { who = w; queue = q }

-- ---- the router or bridge of a node

hub_inbox : (addr : Option ℕ) (node : ℕ) → inbox_rule (leader_of node addr) ≡ Some rule.Inbox
hub_inbox (Some addr) node = refl
hub_inbox None node = refl

module _ (scene : PlainScene) (are : ArePlaced scene) (node : ℕ) (n : PlainNode) (there : slice_get scene.nodes node ≡ Some n) where
  hub_up : (k : ℕ) (r : Rule) → k < length n.apps → r ≡ rule.Lane lane.Up → IsServed scene (leader_of node n.addr) (queue.Up k) r
  hub_up k r low is = by_lane scene node _ (up_lane node (leader_of node n.addr) k) getting r (up_there scene node n there k low) is

  hub_down : (k : ℕ) (r : Rule) → k < length n.apps → r ≡ rule.Lane lane.Down → IsServed scene (leader_of node n.addr) (queue.Down k) r
  hub_down k r low is = by_lane scene node _ (down_lane node (leader_of node n.addr) k) putting r (down_there scene node n there k low) is

  hub_out : (k : ℕ) (r : Rule) → k < length (links_at node scene.links) → r ≡ rule.Lane lane.Out → IsServed scene (leader_of node n.addr) (queue.Out k) r
  hub_out k r low is = by_lane scene node _ (out_lane node (leader_of node n.addr) k) putting r (out_there scene node n there k low) is

  router_served : (addr : ℕ) (q : QueueId) (r : Rule) → uses (leader_opening (Some addr) node n (links_at node scene.links)).party q ≡ Some r → IsServed scene (leader_of node n.addr) q r
  router_served addr queue.Inbox r e = an_inbox scene (leader_of node n.addr) r (hub_inbox n.addr node) e
  router_served addr (queue.Up k) r e = let (low, is) = within r (rule.Lane lane.Up) k (length n.apps) _ refl e in hub_up k r low is
  router_served addr (queue.Down k) r e = let (low, is) = within r (rule.Lane lane.Down) k (length n.apps) _ refl e in hub_down k r low is
  router_served addr (queue.Out k) r e =
      let (low, is) = within r (rule.Lane lane.Out) k (length (map (λ (l : PlainLink). l.name) (links_at node scene.links))) _ refl e in
      let long = length-map (links_at node scene.links) (λ (l : PlainLink). l.name) in
      hub_out k r (omega (arith, low, long)) is
  router_served addr (queue.Tx k) r e = absurd cc
  router_served addr (queue.Rx k) r e = absurd cc

  bridge_served : length (links_at node scene.links) ≡ BRIDGE_LINKS → (q : QueueId) (r : Rule) → uses (leader_opening None node n (links_at node scene.links)).party q ≡ Some r → IsServed scene (leader_of node n.addr) q r
  bridge_served two queue.Inbox r e = an_inbox scene (leader_of node n.addr) r (hub_inbox n.addr node) e
  bridge_served two (queue.Out k) r e =
      let (low, is) = if_within r (rule.Lane lane.Out) k 2 _ refl e in
      hub_out k r (omega (arith, low, two)) is
  bridge_served two (queue.Up k) r e = absurd cc
  bridge_served two (queue.Down k) r e = absurd cc
  bridge_served two (queue.Tx k) r e = absurd cc
  bridge_served two (queue.Rx k) r e = absurd cc

  hub_served : (addr : Option ℕ) → (addr ≡ None → length (links_at node scene.links) ≡ BRIDGE_LINKS) → (q : QueueId) (r : Rule) → uses (leader_opening addr node n (links_at node scene.links)).party q ≡ Some r → IsServed scene (leader_of node n.addr) q r
  hub_served (Some addr) two q r e = router_served addr q r e
  hub_served None two q r e = bridge_served (two refl) q r e

  -- ---- an interface

  iface_called : (k : ℕ) (j : PlainJoint) (name : ℕ → QueueId) → j.end.node ≡ node → j.end.iface ≡ k → end_named (who.Iface j.end.node j.end.iface) (name j.end.iface) ≡ end_named (who.Iface node k) (name k)
  iface_called k j name at number = ap (λ (m : ℕ). end_named (who.Iface m j.end.iface) (name j.end.iface)) at ∙ ap (λ (i : ℕ). end_named (who.Iface node i) (name i)) number

  iface_out : (k : ℕ) (r : Rule) → k < length (links_at node scene.links) → r ≡ rule.Lane lane.Out → IsServed scene (who.Iface node k) (queue.Out k) r
  iface_out k r low is = by_lane scene node _ (out_lane node (leader_of node n.addr) k) getting r (out_there scene node n there k low) is

  iface_tx : (k : ℕ) (l : PlainLink) (r : Rule) → slice_get (links_at node scene.links) k ≡ Some l → r ≡ rule.Lane (carried_on l.kind) → IsServed scene (who.Iface node k) (queue.Tx k) r
  iface_tx k l r on is =
      let (j, at, carries) = link_joint scene are node k l on in
      let h = joint_is scene are node k j at in
      inr (record {
        node = node;
        place = ifaces_of scene node + k;
        wire = tx_lane j;
        at = tx_there scene node n there k j at;
        side = putting;
        called = iface_called k j queue.Tx h.node_is h.iface_is;
        carries = is ∙ ap (λ (c : Carries). rule.Lane c) (sym carries);
      })

  iface_rx : (k : ℕ) (l : PlainLink) (r : Rule) → slice_get (links_at node scene.links) k ≡ Some l → r ≡ rule.Lane (carried_on l.kind) → IsServed scene (who.Iface node k) (queue.Rx k) r
  iface_rx k l r on is =
      let (j, at, carries) = link_joint scene are node k l on in
      let h = joint_is scene are node k j at in
      inr (record {
        node = node;
        place = k;
        wire = rx_lane j;
        at = rx_there scene node n there k j at;
        side = getting;
        called = iface_called k j queue.Rx h.node_is h.iface_is;
        carries = is ∙ ap (λ (c : Carries). rule.Lane c) (sym carries);
      })

  iface_served : (k : ℕ) (l : PlainLink) → slice_get (links_at node scene.links) k ≡ Some l → (q : QueueId) (r : Rule) → uses (iface_on node k l.kind l.mtu (heeded n.addr l)).party q ≡ Some r → IsServed scene (who.Iface node k) q r
  iface_served k l on queue.Inbox r e = an_inbox scene (who.Iface node k) r refl e
  iface_served k l on (queue.Out m) r e =
      let (same, is) = own r (rule.Lane lane.Out) m k _ refl e in
      subst (λ (i : ℕ). IsServed scene (who.Iface node k) (queue.Out i) r) (sym same) (iface_out k r (slice_get_within (links_at node scene.links) k l on) is)
  iface_served k l on (queue.Tx m) r e =
      let (same, is) = own r (rule.Lane (carried_on l.kind)) m k _ refl e in
      subst (λ (i : ℕ). IsServed scene (who.Iface node k) (queue.Tx i) r) (sym same) (iface_tx k l r on is)
  iface_served k l on (queue.Rx m) r e =
      let (same, is) = own r (rule.Lane (carried_on l.kind)) m k _ refl e in
      subst (λ (i : ℕ). IsServed scene (who.Iface node k) (queue.Rx i) r) (sym same) (iface_rx k l r on is)
  iface_served k l on (queue.Up m) r e = absurd cc
  iface_served k l on (queue.Down m) r e = absurd cc

  -- ---- an application

  app_up : (k : ℕ) (r : Rule) → k < length n.apps → r ≡ rule.Lane lane.Up → IsServed scene (who.App node k) (queue.Up k) r
  app_up k r low is = by_lane scene node _ (up_lane node (leader_of node n.addr) k) putting r (up_there scene node n there k low) is

  app_down : (k : ℕ) (r : Rule) → k < length n.apps → r ≡ rule.Lane lane.Down → IsServed scene (who.App node k) (queue.Down k) r
  app_down k r low is = by_lane scene node _ (down_lane node (leader_of node n.addr) k) getting r (down_there scene node n there k low) is

  app_served : (k : ℕ) (a : PlainApp) → slice_get n.apps k ≡ Some a → (q : QueueId) (r : Rule) → uses (app_at node k a).party q ≡ Some r → IsServed scene (who.App node k) q r
  app_served k a of_it (queue.Up m) r e =
      let (same, is) = own r (rule.Lane lane.Up) m k _ refl e in
      subst (λ (i : ℕ). IsServed scene (who.App node k) (queue.Up i) r) (sym same) (app_up k r (slice_get_within n.apps k a of_it) is)
  app_served k a of_it (queue.Down m) r e =
      let (same, is) = own r (rule.Lane lane.Down) m k _ refl e in
      subst (λ (i : ℕ). IsServed scene (who.App node k) (queue.Down i) r) (sym same) (app_down k r (slice_get_within n.apps k a of_it) is)
  app_served k a of_it queue.Inbox r e = absurd cc
  app_served k a of_it (queue.Out m) r e = absurd cc
  app_served k a of_it (queue.Tx m) r e = absurd cc
  app_served k a of_it (queue.Rx m) r e = absurd cc

-- ---- a link

-- a link has an end at a place, at a node that is there
record HasEnd (scene : PlainScene) (l : PlainLink) (place : ℕ) : Type 0 where
  pub end : End
  pub n : PlainNode
  pub at : slice_get l.ends place ≡ Some end
  pub there : slice_get scene.nodes end.node ≡ Some n

pub each_link : (nodes : List PlainNode) (all links : List PlainLink) → AllByRecursion (IsLink nodes all) links → (k : ℕ) (l : PlainLink) → slice_get links k ≡ Some l → IsLink nodes all l
each_link nodes all [] is k l e = absurd cc
each_link nodes all (x ∷ links) is zero l e = subst (IsLink nodes all) (same_Some x l e) is.0
each_link nodes all (x ∷ links) is (suc k) l e = each_link nodes all links is.1 k l e

has_end : (scene : PlainScene) (l : PlainLink) → AllByRecursion (IsEnd scene.nodes scene.links l) l.ends → (place : ℕ) → place < length l.ends → HasEnd scene l place
has_end scene l are place low =
    let (x, at) = get-within l.ends place low in
    let is = all_at (IsEnd scene.nodes scene.links l) l.ends place x are at in
    let (n, there) = get-within scene.nodes x.node is.node in
    record { end = x; n = n; at = at; there = there }

module _ (scene : PlainScene) (are : ArePlaced scene) (i : ℕ) (l : PlainLink) (there : slice_get scene.links i ≡ Some l) (shape : HasEnds l) (is : AllByRecursion (IsEnd scene.nodes scene.links l) l.ends) where
  link_tx : (place : ℕ) (r : Rule) → place < length l.ends → r ≡ rule.Lane (carried_on l.kind) → IsServed scene (who.Link i) (queue.Tx place) r
  link_tx place r low same =
      let h = has_end scene l is place low in
      let j = joint_of i (carried_on l.kind) place h.end in
      by_lane scene h.end.node _ (tx_lane j) getting r (tx_there scene h.end.node h.n h.there h.end.iface j (end_joint scene are i place l h.end there h.at)) same

  link_rx : (place : ℕ) (r : Rule) → place < length l.ends → r ≡ rule.Lane (carried_on l.kind) → IsServed scene (who.Link i) (queue.Rx place) r
  link_rx place r low same =
      let h = has_end scene l is place low in
      let j = joint_of i (carried_on l.kind) place h.end in
      by_lane scene h.end.node _ (rx_lane j) putting r (rx_there scene h.end.node h.n h.there h.end.iface j (end_joint scene are i place l h.end there h.at)) same

  pair_served : l.hub ≡ false → (q : QueueId) (r : Rule) → uses (link_with i l.kind l.plan).party q ≡ Some r → IsServed scene (who.Link i) q r
  pair_served pair (queue.Tx k) r e = let (low, same) = if_within r (rule.Lane (carried_on l.kind)) k 2 _ refl e in link_tx k r (omega (arith, low, shape.pair pair)) same
  pair_served pair (queue.Rx k) r e = let (low, same) = if_within r (rule.Lane (carried_on l.kind)) k 2 _ refl e in link_rx k r (omega (arith, low, shape.pair pair)) same
  pair_served pair queue.Inbox r e = absurd cc
  pair_served pair (queue.Up k) r e = absurd cc
  pair_served pair (queue.Down k) r e = absurd cc
  pair_served pair (queue.Out k) r e = absurd cc

  -- an end of a hub carries frames of a CAN bus
  bus_rule : l.hub ≡ true → (r : Rule) → r ≡ rule.Lane lane.Can → r ≡ rule.Lane (carried_on l.kind)
  bus_rule bus r same = same ∙ ap (λ (k : LinkKind). rule.Lane (carried_on k)) (sym (shape.bus bus).0)

  hub_ends : length (hub.opening (length l.ends) l.plan).ends ≡ length l.ends
  hub_ends = opened_ends (length l.ends) l.plan

  bus_served : l.hub ≡ true → (q : QueueId) (r : Rule) → uses (hub_with i (length l.ends) l.plan).party q ≡ Some r → IsServed scene (who.Link i) q r
  bus_served bus (queue.Tx k) r e = let (low, same) = if_within r (rule.Lane lane.Can) k (length (hub.opening (length l.ends) l.plan).ends) _ refl e in link_tx k r (omega (arith, low, hub_ends)) (bus_rule bus r same)
  bus_served bus (queue.Rx k) r e = let (low, same) = if_within r (rule.Lane lane.Can) k (length (hub.opening (length l.ends) l.plan).ends) _ refl e in link_rx k r (omega (arith, low, hub_ends)) (bus_rule bus r same)
  bus_served bus queue.Inbox r e = absurd cc
  bus_served bus (queue.Up k) r e = absurd cc
  bus_served bus (queue.Down k) r e = absurd cc
  bus_served bus (queue.Out k) r e = absurd cc

  link_served : (q : QueueId) (r : Rule) → uses (link_party l) q ≡ Some r → IsServed scene (who.Link i) q r
  link_served q r e = by l.hub refl where
    it : (b : Bool) → l.hub ≡ b → uses (if b then (hub_with i (length l.ends) l.plan).party else (link_with i l.kind l.plan).party) q ≡ Some r
    it b is = ap (λ (c : Bool). uses (if c then (hub_with i (length l.ends) l.plan).party else (link_with i l.kind l.plan).party) q) (sym is) ∙ e

    by : (b : Bool) → l.hub ≡ b → IsServed scene (who.Link i) q r
    by true is = bus_served is q r (it true is)
    by false is = pair_served is q r (it false is)

-- ---- each party

abbrev AreServed : PlainScene → PlainOpening → Type 0
AreServed scene o = (q : QueueId) (r : Rule) → uses o.party q ≡ Some r → IsServed scene o.who q r

served : (scene : PlainScene) → IsScene scene → ArePlaced scene → (i : ℕ) (o : PlainOpening) → IsParty scene i o → AreServed scene o
served scene is are i o (party.hub node n there at so) =
    subst (AreServed scene) (sym so)
    (λ q r e. subst (λ (w : Who). IsServed scene w q r) (sym (party.hub_named n.addr node n (links_at node scene.links)))
    (hub_served scene are node n there n.addr (is.joined node n there).bridge q r e))
served scene is are i o (party.iface node k n l there on at so) = subst (AreServed scene) (sym so) (iface_served scene are node n there k l on)
served scene is are i o (party.app node k n a there of_it at so) = subst (AreServed scene) (sym so) (app_served scene are node n there k a of_it)
served scene is are i o (party.link k l there at so) = subst (AreServed scene) (sym so) (link_served scene are k l there (each_link scene.nodes scene.links scene.links is.links k l there).shape (each_link scene.nodes scene.links scene.links is.links k l there).ends)

pub all_served : (scene : PlainScene) → IsScene scene → ArePlaced scene → (i : ℕ) (o : PlainOpening) → slice_get (parties_of scene) i ≡ Some o → AreServed scene o
all_served scene is are i o at = served scene is are i o (party_at scene i o at)

-- who uses an inbox

abbrev UsesInbox : PlainOpening → Type 0
UsesInbox o = uses o.party queue.Inbox ≡ inbox_rule o.who

hub_uses : (addr : Option ℕ) (node : ℕ) (n : PlainNode) (links : List PlainLink) → UsesInbox (leader_opening addr node n links)
hub_uses (Some addr) node n links = refl
hub_uses None node n links = refl

link_uses : (b : Bool) (l : PlainLink) → uses (cond b (a_hub (hub.opening (length l.ends) l.plan)) (a_link (link.opening l.kind l.plan))) queue.Inbox ≡ None
link_uses true l = refl
link_uses false l = refl

inbox_used : (scene : PlainScene) (i : ℕ) (o : PlainOpening) → IsParty scene i o → UsesInbox o
inbox_used scene i o (party.hub node n there at so) = subst UsesInbox (sym so) (hub_uses n.addr node n (links_at node scene.links))
inbox_used scene i o (party.iface node k n l there on at so) = subst UsesInbox (sym so) refl
inbox_used scene i o (party.app node k n a there of_it at so) = subst UsesInbox (sym so) refl
inbox_used scene i o (party.link k l there at so) = subst UsesInbox (sym so) (link_uses l.hub l)

pub inboxes_used : (scene : PlainScene) (i : ℕ) (o : PlainOpening) → slice_get (parties_of scene) i ≡ Some o → UsesInbox o
inboxes_used scene i o at = inbox_used scene i o (party_at scene i o at)
