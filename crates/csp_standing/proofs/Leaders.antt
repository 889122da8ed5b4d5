-- Who leads a node.
use Rattle.std.proofs.Common.{◌≡◌, ◌≤◌, ℕ, true, true≢false, List, Option, None, Some, refl, sym, ap, ◌∙◌, subst}
use Rattle.std.specs.Prelude.{IfSome, slice_get}
use Rattle.std.specs.Option.{option_map}
use Rattle.std.proofs.lemmas.Option.{same_Some}
use Rattle.csp_ends.specs.Ends.{PlainHome}
use Rattle.csp_inbox.specs.Passes.{PlainPass}
use Rattle.csp_log.specs.declared.places.TheConstants.{UNMARKED}
use Rattle.csp_meeting.specs.Meeting as meeting
use Rattle.csp_posts.specs.Posts.{PlainPost}
use Rattle.csp_log.specs.Who.{node_of}
use Rattle.csp_log.specs.declared.who.Who.{Who}
use Rattle.csp_log.specs.declared.who.Who.TheVariants as who
use Rattle.csp_scene.specs.Scene.{PlainScene, PlainNode}
use Rattle.csp_standing.proofs.Places.{home_named, post_at, post_of}
use Rattle.csp_standing.specs.Network.{IsHomeIn, IsNetworkOf, IsPostOf, PlainNetwork}
use Rattle.csp_standing.specs.Standing.{HaveLeaders}
use Rattle.csp_topology.specs.Lanes.{leader_of}
use Rattle.csp_topology.specs.Parties.{PlainOpening, parties_of}
use Rattle.csp_topology.specs.Wired.{IsLed, Stands, is_leader}
use Rattle.csp_topology.proofs.Public.{hub_mark}
use Rattle.csp_topology.specs.Writers.{mark_for}

-- what csp_topology says of who leads
abbrev pub Led : Type 0
Led = (scene : PlainScene) (j : ℕ) (o : PlainOpening) → slice_get (parties_of scene) j ≡ Some o → (node : ℕ) → node_of o.who ≡ Some node → IsLed scene node j o.who

-- and of each node's router or bridge
abbrev pub Hubs : Type 0
Hubs = (scene : PlainScene) (node : ℕ) (n : PlainNode) → slice_get scene.nodes node ≡ Some n → Stands scene (leader_of node n.addr)

pub hub_leads : (node : ℕ) (addr : Option ℕ) → is_leader (leader_of node addr) ≡ true
hub_leads node (Some a) = refl
hub_leads node None = refl

pub hub_node : (node : ℕ) (addr : Option ℕ) → node_of (leader_of node addr) ≡ Some node
hub_node node (Some a) = refl
hub_node node None = refl

pub pass_marked : (x : Option PlainPass) (m : ℕ) → option_map (λ (p : PlainPass). p.role.mark) x ≡ Some m → (p : PlainPass) × (x ≡ Some p) × (p.role.mark ≡ m)
pass_marked (Some p) m e = (p, refl, same_Some p.role.mark m e)
pass_marked None m e = absurd cc

-- the home of a post
pub home_in : (scene : PlainScene) (n : PlainNetwork) (o : PlainOpening) (s : PlainPost) (h : PlainHome) → IsPostOf scene n o s → s.ends.home ≡ Some h → IsHomeIn o.who h
home_in scene n o s h post its = subst (λ x. IfSome x (IsHomeIn o.who)) its post.home.passes

pub node_in : (scene : PlainScene) (n : PlainNetwork) (o : PlainOpening) (s : PlainPost) (h : PlainHome) → IsPostOf scene n o s → s.ends.home ≡ Some h → node_of o.who ≡ Some h.node
node_in scene n o s h post its = sym post.home.node ∙ ap (option_map (λ (x : PlainHome). x.node)) its

-- who has the pass that reads the inbox leads
reads_leads : (w : Who) (h : PlainHome) → IsHomeIn w h → meeting.leads h ≡ true → is_leader w ≡ true
reads_leads w h home lead = by h.inbox lead home.roles where
  by : (x : Option PlainPass) → meeting.reads_inbox x ≡ true → IfSome x (λ p. (p.role.reads ≡ is_leader w) × (p.role.writes ≡ true)) → is_leader w ≡ true
  by (Some p) e r = sym r.0 ∙ e
  by None e r = absurd (true≢false (sym e))

-- the router or bridge of a node, as a post
pub record HasHub (posts : List PlainPost) (w : Who) (place : ℕ) : Type 0 where
  pub at : ℕ
  pub post : PlainPost
  pub home : PlainHome
  pub pass : PlainPass
  pub there : slice_get posts at ≡ Some post
  pub who : post.who ≡ w
  pub its : post.ends.home ≡ Some home
  pub node : home.node ≡ place
  pub inbox : home.inbox ≡ Some pass
  pub mark : pass.role.mark ≡ UNMARKED
  pub reads : pass.role.reads ≡ true

pub hub_at : (scene : PlainScene) (n : PlainNetwork) (posts : List PlainPost) → IsNetworkOf scene n posts → (node : ℕ) (addr : Option ℕ) → Stands scene (leader_of node addr) → HasHub posts (leader_of node addr) node
hub_at scene n posts net node addr stands =
    let r = post_of scene n (parties_of scene) posts stands.place stands.party net.parties stands.at in
    let home = home_named r.post.ends.home node (r.its.home.node ∙ ap node_of stands.named ∙ hub_node node addr) in
    let passes = home_in scene n stands.party r.post home.0 r.its home.1 in
    let pass = pass_marked home.0.inbox UNMARKED (passes.mark ∙ ap mark_for stands.named ∙ hub_mark node addr) in
    let roles = subst (λ x. IfSome x (λ p. (p.role.reads ≡ is_leader stands.party.who) × (p.role.writes ≡ true))) pass.1 passes.roles in
    record {
      at = stands.place;
      post = r.post;
      home = home.0;
      pass = pass.0;
      there = r.there;
      who = r.its.who ∙ stands.named;
      its = home.1;
      node = home.2;
      inbox = pass.1;
      mark = pass.2;
      reads = roles.0 ∙ ap is_leader stands.named ∙ hub_leads node addr;
    }

-- it stands where the topology has it
pub hub_place_of : (scene : PlainScene) (n : PlainNetwork) (posts : List PlainPost) (net : IsNetworkOf scene n posts) (node : ℕ) (addr : Option ℕ) (stands : Stands scene (leader_of node addr)) → (hub_at scene n posts net node addr stands).at ≡ stands.place
unfolding hub_at
hub_place_of scene n posts net node addr stands = refl

-- what csp_topology says of names
abbrev pub Apart : Type 0
Apart = (scene : PlainScene) (i j : ℕ) (o p : PlainOpening) → slice_get (parties_of scene) i ≡ Some o → slice_get (parties_of scene) j ≡ Some p → o.who ≡ p.who → i ≡ j

-- the hub of a node stands in one place
hub_place : Apart → (scene : PlainScene) (node i j : ℕ) (v w : Who) (a : IsLed scene node i v) (b : IsLed scene node j w) → b.hub.place ≡ a.hub.place
hub_place apart scene node i j v w a b =
    let same : b.n ≡ a.n = same_Some b.n a.n (sym b.there ∙ a.there) in
    apart scene b.hub.place a.hub.place b.hub.party a.hub.party b.hub.at a.hub.at (b.hub.named ∙ ap (λ (n : PlainNode). leader_of node n.addr) same ∙ sym a.hub.named)

pub leaders : Led → Apart → (scene : PlainScene) (n : PlainNetwork) (posts : List PlainPost) → IsNetworkOf scene n posts → HaveLeaders posts
leaders led apart scene n posts net = record {
  led = λ j s h at its.
      let x = post_at scene n (parties_of scene) posts j s net.parties at in
      let l = led scene j x.party x.there h.node (node_in scene n x.party s h x.post its) in
      let hub = hub_at scene n posts net h.node l.n.addr l.hub in
      record { at = hub.at; leader = hub.post; home = hub.home; there = hub.there; its = hub.its; node = hub.node; leads = ap meeting.reads_inbox hub.inbox ∙ hub.reads };
  first = λ i j r s g h at_i at_j its_r its_s node lead.
      let x = post_at scene n (parties_of scene) posts i r net.parties at_i in
      let y = post_at scene n (parties_of scene) posts j s net.parties at_j in
      let a = led scene i x.party x.there g.node (node_in scene n x.party r g x.post its_r) in
      let b = led scene j y.party y.there g.node (node_in scene n y.party s h y.post its_s ∙ ap Some node) in
      let is : is_leader x.party.who ≡ true = reads_leads x.party.who g (home_in scene n x.party r g x.post its_r) lead in
      subst (λ k. k ≤ j) (hub_place apart scene g.node i j x.party.who y.party.who a b ∙ a.alone is) b.first;
}
