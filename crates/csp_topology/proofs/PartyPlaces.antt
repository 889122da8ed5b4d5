-- Where each party of a scene stands in the list of its parties.
use Rattle.std.proofs.Common.{◌≡◌, ℕ, zero, suc, ◌+◌, ◌≤◌, Option, Some, None, List, [], ◌∷◌, ◌++◌, length, slice_get, ap, refl, sym, subst, ◌∙◌, arith, true, true≢false}
use Rattle.std.proofs.lemmas.Option.{same_Some}
use Rattle.csp_log.specs.Who.{node_of}
use Rattle.csp_log.specs.declared.who.Who.{Who}
use Rattle.csp_log.specs.declared.who.Who.TheVariants as who
use Rattle.csp_scene.specs.Links.{links_at}
use Rattle.csp_scene.specs.Scene.{PlainApp, PlainLink, PlainNode, PlainScene}
use Rattle.csp_topology.proofs.PartyLemmas.{ifaces_count}
use Rattle.csp_topology.proofs.Places.{Among, among, get-first, get-second, of_first, of_second}
use Rattle.csp_topology.specs.Lanes.{leader_of}
use Rattle.csp_topology.specs.Parties.{PlainOpening, app_at, apps_from, heeded, leader_opening, iface_on, ifaces_from, link_at, links_from, parties_at, parties_from, parties_of}
use Rattle.csp_topology.specs.Wired.{is_leader, IsLed, Stands}

-- ---- within a node

-- an interface is on the link of its number, and an application has the steps of the node's
record IsIface (place : ℕ) (addr : Option ℕ) (number d : ℕ) (links : List PlainLink) (o : PlainOpening) : Type 0 where
  pub index : ℕ
  pub link : PlainLink
  pub count : d ≡ index
  pub on : slice_get links index ≡ Some link
  pub is : o ≡ iface_on place (number + index) link.kind link.mtu (heeded addr link)

iface_of : (place : ℕ) (addr : Option ℕ) (number d : ℕ) (links : List PlainLink) (o : PlainOpening) → slice_get (ifaces_from place addr number links) d ≡ Some o → IsIface place addr number d links o
iface_of place addr number d [] o e = absurd cc
iface_of place addr number zero (l ∷ links) o e = record {
  index = 0;
  link = l;
  count = refl;
  on = refl;
  is = sym (same_Some (iface_on place number l.kind l.mtu (heeded addr l)) o e) ∙ ap (λ (k : ℕ). iface_on place k l.kind l.mtu (heeded addr l)) (omega arith);
}
iface_of place addr number (suc d) (l ∷ links) o e =
    let h = iface_of place addr (number + 1) d links o e in
    record { index = suc h.index; link = h.link; count = ap suc h.count; on = h.on; is = h.is ∙ ap (λ (k : ℕ). iface_on place k h.link.kind h.link.mtu (heeded addr h.link)) (omega arith) }

iface_in : (place : ℕ) (addr : Option ℕ) (number k : ℕ) (links : List PlainLink) (l : PlainLink) → slice_get links k ≡ Some l
    → slice_get (ifaces_from place addr number links) k ≡ Some (iface_on place (number + k) l.kind l.mtu (heeded addr l))
iface_in place addr number k [] l e = absurd cc
iface_in place addr number zero (x ∷ links) l e =
    ap (λ (y : PlainLink). Some (iface_on place number y.kind y.mtu (heeded addr y))) (same_Some x l e) ∙ ap (λ (k : ℕ). Some (iface_on place k l.kind l.mtu (heeded addr l))) (omega arith)
iface_in place addr number (suc k) (x ∷ links) l e = iface_in place addr (number + 1) k links l e ∙ ap (λ (j : ℕ). Some (iface_on place j l.kind l.mtu (heeded addr l))) (omega arith)

record IsApp (place number d : ℕ) (apps : List PlainApp) (o : PlainOpening) : Type 0 where
  pub index : ℕ
  pub app : PlainApp
  pub count : d ≡ index
  pub of_it : slice_get apps index ≡ Some app
  pub is : o ≡ app_at place (number + index) app

app_of : (place number d : ℕ) (apps : List PlainApp) (o : PlainOpening) → slice_get (apps_from place number apps) d ≡ Some o → IsApp place number d apps o
app_of place number d [] o e = absurd cc
app_of place number zero (a ∷ apps) o e = record { index = 0; app = a; count = refl; of_it = refl; is = sym (same_Some (app_at place number a) o e) ∙ ap (λ (k : ℕ). app_at place k a) (omega arith) }
app_of place number (suc d) (a ∷ apps) o e =
    let h = app_of place (number + 1) d apps o e in
    record { index = suc h.index; app = h.app; count = ap suc h.count; of_it = h.of_it; is = h.is ∙ ap (λ (k : ℕ). app_at place k h.app) (omega arith) }

app_in : (place number k : ℕ) (apps : List PlainApp) (a : PlainApp) → slice_get apps k ≡ Some a → slice_get (apps_from place number apps) k ≡ Some (app_at place (number + k) a)
app_in place number k [] a e = absurd cc
app_in place number zero (x ∷ apps) a e = ap (λ (y : PlainApp). Some (app_at place number y)) (same_Some x a e) ∙ ap (λ (k : ℕ). Some (app_at place k a)) (omega arith)
app_in place number (suc k) (x ∷ apps) a e = app_in place (number + 1) k apps a e ∙ ap (λ (j : ℕ). Some (app_at place j a)) (omega arith)

record IsLink (number d : ℕ) (links : List PlainLink) (o : PlainOpening) : Type 0 where
  pub index : ℕ
  pub link : PlainLink
  pub count : d ≡ index
  pub there : slice_get links index ≡ Some link
  pub is : o ≡ link_at (number + index) link

link_of : (number d : ℕ) (links : List PlainLink) (o : PlainOpening) → slice_get (links_from number links) d ≡ Some o → IsLink number d links o
link_of number d [] o e = absurd cc
link_of number zero (l ∷ links) o e = record { index = 0; link = l; count = refl; there = refl; is = sym (same_Some (link_at number l) o e) ∙ ap (λ (k : ℕ). link_at k l) (omega arith) }
link_of number (suc d) (l ∷ links) o e =
    let h = link_of (number + 1) d links o e in
    record { index = suc h.index; link = h.link; count = ap suc h.count; there = h.there; is = h.is ∙ ap (λ (k : ℕ). link_at k h.link) (omega arith) }

link_in : (number k : ℕ) (links : List PlainLink) (l : PlainLink) → slice_get links k ≡ Some l → slice_get (links_from number links) k ≡ Some (link_at (number + k) l)
link_in number k [] l e = absurd cc
link_in number zero (x ∷ links) l e = ap (λ (y : PlainLink). Some (link_at number y)) (same_Some x l e) ∙ ap (λ (k : ℕ). Some (link_at k l)) (omega arith)
link_in number (suc k) (x ∷ links) l e = link_in (number + 1) k links l e ∙ ap (λ (j : ℕ). Some (link_at j l)) (omega arith)

-- ---- nodes

-- where the parties of a node stand, among those of the nodes from this place on
abbrev pub start : ℕ → List PlainNode → List PlainLink → ℕ → ℕ
start place [] links k = 0
start place (n ∷ nodes) links zero = 0
start place (n ∷ nodes) links (suc k) = length (parties_at place n (links_at place links)) + start (place + 1) nodes links k

moved : (links : List PlainLink) (k m d : ℕ) (n : PlainNode) (o : PlainOpening) → k ≡ m → slice_get (parties_at k n (links_at k links)) d ≡ Some o → slice_get (parties_at m n (links_at m links)) d ≡ Some o
moved links k m d n o same e = subst (λ (p : ℕ). slice_get (parties_at p n (links_at p links)) d ≡ Some o) same e

record OfNode (place : ℕ) (nodes : List PlainNode) (links : List PlainLink) (i : ℕ) (o : PlainOpening) : Type 0 where
  pub index : ℕ
  pub offset : ℕ
  pub node : PlainNode
  pub there : slice_get nodes index ≡ Some node
  pub stands : i ≡ start place nodes links index + offset
  pub at : slice_get (parties_at (place + index) node (links_at (place + index) links)) offset ≡ Some o

of_node : (place : ℕ) (nodes : List PlainNode) (links : List PlainLink) (i : ℕ) (o : PlainOpening) → slice_get (parties_from place nodes links) i ≡ Some o → OfNode place nodes links i o
of_node place [] links i o e = absurd cc
of_node place (n ∷ nodes) links i o e = by (among (parties_at place n (links_at place links)) (parties_from (place + 1) nodes links) i o e) (λ j f. of_node (place + 1) nodes links j o f) where
  by : Among (parties_at place n (links_at place links)) (parties_from (place + 1) nodes links) i o → ((j : ℕ) → slice_get (parties_from (place + 1) nodes links) j ≡ Some o → OfNode (place + 1) nodes links j o) → OfNode place (n ∷ nodes) links i o
  by (of_first f) rest = record { index = 0; offset = i; node = n; there = refl; stands = omega arith; at = moved links place (place + 0) i n o (omega arith) f }
  by (of_second j at f) rest =
      let h = rest j f in
      let stands = h.stands in
      record { index = suc h.index; offset = h.offset; node = h.node; there = h.there; stands = omega (arith, at, stands); at = moved links (place + 1 + h.index) (place + suc h.index) h.offset h.node o (omega arith) h.at }

in_node : (place : ℕ) (nodes : List PlainNode) (links : List PlainLink) (k d : ℕ) (n : PlainNode) (o : PlainOpening) → slice_get nodes k ≡ Some n
    → slice_get (parties_at (place + k) n (links_at (place + k) links)) d ≡ Some o → slice_get (parties_from place nodes links) (start place nodes links k + d) ≡ Some o
in_node place [] links k d n o there at = absurd cc
in_node place (x ∷ nodes) links zero d n o there at =
    let here : place + 0 ≡ place = omega arith in
    let own : slice_get (parties_at place n (links_at place links)) d ≡ Some o = subst (λ (p : ℕ). slice_get (parties_at p n (links_at p links)) d ≡ Some o) here at in
    let first : 0 + d ≡ d = omega arith in
    ap (slice_get (parties_at place x (links_at place links) ++ parties_from (place + 1) nodes links)) first
    ∙ get-first (parties_at place x (links_at place links)) (parties_from (place + 1) nodes links) d o
    (subst (λ (y : PlainNode). slice_get (parties_at place y (links_at place links)) d ≡ Some o) (sym (same_Some x n there)) own)
in_node place (x ∷ nodes) links (suc k) d n o there at =
    let here : place + suc k ≡ place + 1 + k = omega arith in
    let first = parties_at place x (links_at place links) in
    let rest = in_node (place + 1) nodes links k d n o there (subst (λ (p : ℕ). slice_get (parties_at p n (links_at p links)) d ≡ Some o) here at) in
    let far : length first + start (place + 1) nodes links k + d ≡ length first + (start (place + 1) nodes links k + d) = omega arith in
    ap (slice_get (first ++ parties_from (place + 1) nodes links)) far
    ∙ get-second first (parties_from (place + 1) nodes links) (start (place + 1) nodes links k + d)
    ∙ rest

-- ---- the scene

-- where the parties of its nodes begin, and its links
abbrev pub begins : PlainScene → ℕ → ℕ
begins scene node = start 0 scene.nodes scene.links node

abbrev pub ends : PlainScene → ℕ
ends scene = length (parties_from 0 scene.nodes scene.links)

-- a party of a scene: a node's router or bridge, its interface on one of its links, its application, or a link
pub data IsParty (scene : PlainScene) (i : ℕ) (o : PlainOpening) : Type 0 where
  hub : (node : ℕ) (n : PlainNode) → slice_get scene.nodes node ≡ Some n → i ≡ begins scene node → o ≡ leader_opening n.addr node n (links_at node scene.links) → IsParty scene i o
  iface : (node k : ℕ) (n : PlainNode) (l : PlainLink) → slice_get scene.nodes node ≡ Some n → slice_get (links_at node scene.links) k ≡ Some l → i ≡ begins scene node + suc k → o ≡ iface_on node k l.kind l.mtu (heeded n.addr l) → IsParty scene i o
  app : (node k : ℕ) (n : PlainNode) (a : PlainApp) → slice_get scene.nodes node ≡ Some n → slice_get n.apps k ≡ Some a → i ≡ begins scene node + suc (length (links_at node scene.links) + k) → o ≡ app_at node k a → IsParty scene i o
  link : (k : ℕ) (l : PlainLink) → slice_get scene.links k ≡ Some l → i ≡ ends scene + k → o ≡ link_at k l → IsParty scene i o

of_place : (scene : PlainScene) (node d i : ℕ) (n : PlainNode) (o : PlainOpening) → slice_get scene.nodes node ≡ Some n → i ≡ begins scene node + d → slice_get (parties_at node n (links_at node scene.links)) d ≡ Some o → IsParty scene i o
of_place scene node zero i n o there stands e = hub node n there (omega (arith, stands)) (sym (same_Some (leader_opening n.addr node n (links_at node scene.links)) o e))
of_place scene node (suc d) i n o there stands e = by (among (ifaces_from node n.addr 0 (links_at node scene.links)) (apps_from node 0 n.apps) d o e) where
  by : Among (ifaces_from node n.addr 0 (links_at node scene.links)) (apps_from node 0 n.apps) d o → IsParty scene i o
  by (of_first f) =
      let h = iface_of node n.addr 0 d (links_at node scene.links) o f in
      let count = h.count in
      iface node h.index n h.link there h.on (omega (arith, stands, count)) (h.is ∙ ap (λ (k : ℕ). iface_on node k h.link.kind h.link.mtu (heeded n.addr h.link)) (omega arith))
  by (of_second j at f) =
      let h = app_of node 0 j n.apps o f in
      let count = h.count in
      let long = ifaces_count node n.addr 0 (links_at node scene.links) in
      app node h.index n h.app there h.of_it (omega (arith, stands, count, at, long)) (h.is ∙ ap (λ (k : ℕ). app_at node k h.app) (omega arith))

pub party_at : (scene : PlainScene) (i : ℕ) (o : PlainOpening) → slice_get (parties_of scene) i ≡ Some o → IsParty scene i o
unfolding parties_of
party_at scene i o e = by (among (parties_from 0 scene.nodes scene.links) (links_from 0 scene.links) i o e) where
  by : Among (parties_from 0 scene.nodes scene.links) (links_from 0 scene.links) i o → IsParty scene i o
  by (of_first f) =
      let h = of_node 0 scene.nodes scene.links i o f in
      of_place scene h.index h.offset i h.node o h.there h.stands (moved scene.links (0 + h.index) h.index h.offset h.node o (omega arith) h.at)
  by (of_second j at f) =
      let h = link_of 0 j scene.links o f in
      let count = h.count in
      link h.index h.link h.there (omega (arith, at, count)) (h.is ∙ ap (λ (k : ℕ). link_at k h.link) (omega arith))

-- and each of these is there
abbrev IsThere : PlainScene → ℕ → PlainOpening → Type 0
IsThere scene i o = slice_get (parties_of scene) i ≡ Some o

there_at : (scene : PlainScene) (node d : ℕ) (n : PlainNode) (o : PlainOpening) → slice_get scene.nodes node ≡ Some n → slice_get (parties_at node n (links_at node scene.links)) d ≡ Some o → IsThere scene (begins scene node + d) o
unfolding parties_of
there_at scene node d n o there at = get-first (parties_from 0 scene.nodes scene.links) (links_from 0 scene.links) (begins scene node + d) o (in_node 0 scene.nodes scene.links node d n o there (moved scene.links node (0 + node) d n o (omega arith) at))

pub hub_there : (scene : PlainScene) (node : ℕ) (n : PlainNode) → slice_get scene.nodes node ≡ Some n → IsThere scene (begins scene node) (leader_opening n.addr node n (links_at node scene.links))
hub_there scene node n there =
    let far : begins scene node ≡ begins scene node + 0 = omega arith in
    ap (slice_get (parties_of scene)) far ∙ there_at scene node 0 n (leader_opening n.addr node n (links_at node scene.links)) there refl

pub iface_there : (scene : PlainScene) (node k : ℕ) (n : PlainNode) (l : PlainLink) → slice_get scene.nodes node ≡ Some n → slice_get (links_at node scene.links) k ≡ Some l → IsThere scene (begins scene node + suc k) (iface_on node k l.kind l.mtu (heeded n.addr l))
iface_there scene node k n l there on =
    there_at scene node (suc k) n (iface_on node k l.kind l.mtu (heeded n.addr l)) there
    (get-first (ifaces_from node n.addr 0 (links_at node scene.links)) (apps_from node 0 n.apps) k (iface_on node k l.kind l.mtu (heeded n.addr l)) (iface_in node n.addr 0 k (links_at node scene.links) l on ∙ ap (λ (j : ℕ). Some (iface_on node j l.kind l.mtu (heeded n.addr l))) (omega arith)))

pub app_there : (scene : PlainScene) (node k : ℕ) (n : PlainNode) (a : PlainApp) → slice_get scene.nodes node ≡ Some n → slice_get n.apps k ≡ Some a → IsThere scene (begins scene node + suc (length (links_at node scene.links) + k)) (app_at node k a)
app_there scene node k n a there on =
    let links = links_at node scene.links in
    let far : length links + k ≡ length (ifaces_from node n.addr 0 links) + k = ap (λ (c : ℕ). c + k) (sym (ifaces_count node n.addr 0 links)) in
    there_at scene node (suc (length links + k)) n (app_at node k a) there
    (ap (slice_get (ifaces_from node n.addr 0 links ++ apps_from node 0 n.apps)) far ∙ get-second (ifaces_from node n.addr 0 links) (apps_from node 0 n.apps) k ∙ app_in node 0 k n.apps a on ∙ ap (λ (j : ℕ). Some (app_at node j a)) (omega arith))

pub link_there : (scene : PlainScene) (k : ℕ) (l : PlainLink) → slice_get scene.links k ≡ Some l → IsThere scene (ends scene + k) (link_at k l)
unfolding parties_of
link_there scene k l at = get-second (parties_from 0 scene.nodes scene.links) (links_from 0 scene.links) k ∙ link_in 0 k scene.links l at ∙ ap (λ (j : ℕ). Some (link_at j l)) (omega arith)

-- ---- names

-- where the party of a name stands, if there is one
abbrev pub place_of : PlainScene → Who → ℕ
place_of scene (who.Router node) = begins scene node
place_of scene (who.Bridge node) = begins scene node
place_of scene (who.Iface node k) = begins scene node + suc k
place_of scene (who.App node k) = begins scene node + suc (length (links_at node scene.links) + k)
place_of scene (who.Link k) = ends scene + k

pub hub_named : (addr : Option ℕ) (node : ℕ) (n : PlainNode) (links : List PlainLink) → (leader_opening addr node n links).who ≡ leader_of node addr
hub_named (Some addr) node n links = refl
hub_named None node n links = refl

hub_place : (scene : PlainScene) (addr : Option ℕ) (node : ℕ) → place_of scene (leader_of node addr) ≡ begins scene node
hub_place scene (Some addr) node = refl
hub_place scene None node = refl

named_place : (scene : PlainScene) (i : ℕ) (o p : PlainOpening) → o ≡ p → i ≡ place_of scene p.who → i ≡ place_of scene o.who
named_place scene i o p same at = at ∙ ap (λ (q : PlainOpening). place_of scene q.who) (sym same)

pub stands_so : (scene : PlainScene) (i : ℕ) (o : PlainOpening) → IsParty scene i o → i ≡ place_of scene o.who
stands_so scene i o (hub node n there at is) =
    named_place scene i o (leader_opening n.addr node n (links_at node scene.links)) is (at ∙ sym (hub_place scene n.addr node) ∙ ap (place_of scene) (sym (hub_named n.addr node n (links_at node scene.links))))
stands_so scene i o (iface node k n l there on at is) = named_place scene i o (iface_on node k l.kind l.mtu (heeded n.addr l)) is at
stands_so scene i o (app node k n a there of_it at is) = named_place scene i o (app_at node k a) is at
stands_so scene i o (link k l there at is) = named_place scene i o (link_at k l) is at

-- so no two have one name
pub parties_apart : (scene : PlainScene) (i j : ℕ) (o p : PlainOpening) → slice_get (parties_of scene) i ≡ Some o → slice_get (parties_of scene) j ≡ Some p → o.who ≡ p.who → i ≡ j
parties_apart scene i j o p at other same = stands_so scene i o (party_at scene i o at) ∙ ap (place_of scene) same ∙ sym (stands_so scene j p (party_at scene j p other))

-- ---- the router or bridge of a node

abbrev pub hub_stands : (scene : PlainScene) (node : ℕ) (n : PlainNode) → slice_get scene.nodes node ≡ Some n → Stands scene (leader_of node n.addr)
hub_stands scene node n there = record {
  place = begins scene node;
  party = leader_opening n.addr node n (links_at node scene.links);
  at = hub_there scene node n there;
  named = hub_named n.addr node n (links_at node scene.links);
}

pub hub_home : (addr : Option ℕ) (node : ℕ) → node_of (leader_of node addr) ≡ Some node
hub_home (Some addr) node = refl
hub_home None node = refl

-- no interface and no application is one
iface_apart : (addr : Option ℕ) (node m k : ℕ) → who.Iface m k ≡ leader_of node addr → ⊥
iface_apart (Some addr) node m k e = cc
iface_apart None node m k e = cc

app_apart : (addr : Option ℕ) (node m k : ℕ) → who.App m k ≡ leader_of node addr → ⊥
app_apart (Some addr) node m k e = cc
app_apart None node m k e = cc

led : (scene : PlainScene) (node j : ℕ) (n : PlainNode) (w : Who) → slice_get scene.nodes node ≡ Some n → begins scene node ≤ j → (begins scene node ≡ j → w ≡ leader_of node n.addr) → (w ≡ leader_of node n.addr → begins scene node ≡ j) → (is_leader w ≡ true → begins scene node ≡ j) → IsLed scene node j w
led scene node j n w there first same only alone = record { n = n; there = there; hub = hub_stands scene node n there; first = first; same = same; only = only; alone = alone }

led_by : (scene : PlainScene) (j : ℕ) (o : PlainOpening) → IsParty scene j o → (node : ℕ) → node_of o.who ≡ Some node → IsLed scene node j o.who
led_by scene j o (hub m n there at is) node home =
    let named : o.who ≡ leader_of m n.addr = ap (λ (p : PlainOpening). p.who) is ∙ hub_named n.addr m n (links_at m scene.links) in
    let same : m ≡ node = same_Some m node (sym (hub_home n.addr m) ∙ ap node_of (sym named) ∙ home) in
    subst (λ (x : ℕ). IsLed scene x j o.who) same (led scene m j n o.who there (omega (arith, at)) (λ e. named) (λ e. sym at) (λ e. sym at))
led_by scene j o (iface m k n l there on at is) node home =
    let named : o.who ≡ who.Iface m k = ap (λ (p : PlainOpening). p.who) is in
    let same : m ≡ node = same_Some m node (ap node_of (sym named) ∙ home) in
    subst (λ (x : ℕ). IsLed scene x j o.who) same (led scene m j n o.who there (omega (arith, at)) (λ e. absurd (omega (arith, at, e))) (λ e. absurd (iface_apart n.addr m m k (sym named ∙ e))) (λ e. absurd (true≢false (sym e ∙ ap is_leader named))))
led_by scene j o (app m k n a there of_it at is) node home =
    let named : o.who ≡ who.App m k = ap (λ (p : PlainOpening). p.who) is in
    let same : m ≡ node = same_Some m node (ap node_of (sym named) ∙ home) in
    subst (λ (x : ℕ). IsLed scene x j o.who) same (led scene m j n o.who there (omega (arith, at)) (λ e. absurd (omega (arith, at, e))) (λ e. absurd (app_apart n.addr m m k (sym named ∙ e))) (λ e. absurd (true≢false (sym e ∙ ap is_leader named))))
led_by scene j o (link k l there at is) node home =
    let none : None ≡ Some node = ap (λ (p : PlainOpening). node_of p.who) (sym is) ∙ home in
    absurd cc

pub are_led : (scene : PlainScene) (j : ℕ) (o : PlainOpening) → slice_get (parties_of scene) j ≡ Some o → (node : ℕ) → node_of o.who ≡ Some node → IsLed scene node j o.who
are_led scene j o at node home = led_by scene j o (party_at scene j o at) node home
