-- What the parties of a node have in hand comes together.
use Rattle.std.proofs.Common.{◌≡◌, ◌≢◌, ◌+◌, ◌<◌, ◌≤◌, ℕ, zero, suc, Bool, true, false, true≢false, Option, None, Some, List, [], ◌∷◌, ◌++◌, length, refl, sym, ap, ◌∙◌, subst, arith}
use Rattle.std.specs.Prelude.{IfSome, IsSomeAnd, slice_get, count_by, if◌then◌else◌}
use Rattle.std.specs.List.{AllByRecursion}
use Rattle.std.specs.Option.{option_map}
use Rattle.std.proofs.lemmas.Option.{same_Some}
use Rattle.csp_closing.proofs.Gathering.{HasNoMark, all_open, all_out, no_marks, out_all, region_stays, token_stays}
use Rattle.csp_closing.proofs.Lists.{Has, all_at, all_then, has_first, has_second}
use Rattle.csp_closing.proofs.Members.{IsSplit, homes_of, is_member, members_count, same_member, split}
use Rattle.csp_closing.proofs.Nodes.{CanMeet}
use Rattle.csp_closing.specs.Hands.{AreOpen, CanGather, CanJoin, all_joined, gathered, homes_at, opening}
use Rattle.csp_closing.specs.Nodes.{CanClose}
use Rattle.csp_closing.specs.declared.passes.Passes.{Passes}
use Rattle.csp_ends.specs.Ends.{IsHomeOf, PlainHome, PlainNodeQueues, inbox_of, region_of}
use Rattle.csp_inbox.specs.Passes as inbox
use Rattle.csp_pool.specs.PlainPool as pool
use Rattle.csp_posts.specs.Between.{is_home}
use Rattle.csp_posts.specs.Posts.{PlainPost}
use Rattle.csp_log.specs.Who.{node_of}
use Rattle.csp_log.specs.declared.who.Who.{Who}
use Rattle.csp_log.specs.declared.who.Who.TheVariants as who
use Rattle.csp_scene.specs.Links.{links_at}
use Rattle.csp_scene.specs.Scene.{PlainLink, PlainNode, PlainScene}
use Rattle.csp_standing.proofs.Public.{Apart, Hubs, Led, home_in, hub_at, hub_leads, hub_place_of, node_in, IsAt, home_named, post_at, post_of}
use Rattle.csp_standing.specs.Network.{IsHomeIn, IsNetworkOf, IsPostOf, PlainNetwork}
use Rattle.csp_topology.specs.Lanes.{leader_of}
use Rattle.csp_topology.specs.Parties.{PlainOpening, apps_from, leader_opening, ifaces_from, links_from, parties_at, parties_from, parties_of}
use Rattle.csp_topology.specs.Wired.{IsLed, Stands, is_leader}
use Rattle.csp_topology.specs.Writers.{mark_for}

-- a party of this name
abbrev pub IsCalled : Who → PlainOpening → Type 0
IsCalled w o = o.who ≡ w

-- there is a party for each interface of a node
iface_has : (place : ℕ) (addr : Option ℕ) (number m : ℕ) (links : List PlainLink) → m < length links → Has (IsCalled (who.Iface place (number + m))) (ifaces_from place addr number links)
iface_has place addr number m [] h = absurd (omega (arith, h))
iface_has place addr number zero (l ∷ links) h = record { place = 0; one = _; at = refl; so = ap (λ (k : ℕ). who.Iface place k) (omega arith) }
iface_has place addr number (suc m) (l ∷ links) h =
    let later = iface_has place addr (number + 1) m links (omega (arith, h)) in
    record { place = suc later.place; one = later.one; at = later.at; so = later.so ∙ ap (λ (k : ℕ). who.Iface place k) (omega arith) }

nodes_has : (place k m : ℕ) (nodes : List PlainNode) (n : PlainNode) (links : List PlainLink) → slice_get nodes k ≡ Some n → m < length (links_at (place + k) links) → Has (IsCalled (who.Iface (place + k) m)) (parties_from place nodes links)
nodes_has place k m [] n links e h = absurd cc
nodes_has place zero m (x ∷ nodes) n links e h =
    let same : place + 0 ≡ place = omega arith in
    let few : m < length (links_at place links) = subst (λ (p : ℕ). m < length (links_at p links)) same h in
    let own = iface_has place x.addr 0 m (links_at place links) few in
    let called : Has (IsCalled (who.Iface (place + 0) m)) (ifaces_from place x.addr 0 (links_at place links)) = record { place = own.place; one = own.one; at = own.at; so = own.so ∙ ap (λ (p : ℕ). who.Iface p (0 + m)) (sym same) ∙ ap (λ (j : ℕ). who.Iface (place + 0) j) (omega arith) } in
    has_first (IsCalled (who.Iface (place + 0) m)) (parties_at place x (links_at place links)) (parties_from (place + 1) nodes links)
    (has_second (IsCalled (who.Iface (place + 0) m)) (leader_opening x.addr place x (links_at place links) ∷ []) (ifaces_from place x.addr 0 (links_at place links) ++ apps_from place 0 x.apps)
    (has_first (IsCalled (who.Iface (place + 0) m)) (ifaces_from place x.addr 0 (links_at place links)) (apps_from place 0 x.apps) called))
nodes_has place (suc k) m (x ∷ nodes) n links e h =
    let same : place + suc k ≡ place + 1 + k = omega arith in
    let few : m < length (links_at (place + 1 + k) links) = subst (λ (p : ℕ). m < length (links_at p links)) same h in
    subst (λ (p : ℕ). Has (IsCalled (who.Iface p m)) (parties_from place (x ∷ nodes) links)) (sym same)
    (has_second (IsCalled (who.Iface (place + 1 + k) m)) (parties_at place x (links_at place links)) (parties_from (place + 1) nodes links) (nodes_has (place + 1) k m nodes n links e few))

scene_has : (scene : PlainScene) (node m : ℕ) (n : PlainNode) → slice_get scene.nodes node ≡ Some n → m < length (links_at node scene.links) → Has (IsCalled (who.Iface node m)) (parties_of scene)
unfolding parties_of
scene_has scene node m n e h =
    let same : 0 + node ≡ node = omega arith in
    has_first (IsCalled (who.Iface node m)) (parties_from 0 scene.nodes scene.links) (links_from 0 scene.links)
    (subst (λ (p : ℕ). Has (IsCalled (who.Iface p m)) (parties_from 0 scene.nodes scene.links)) same (nodes_has 0 node m scene.nodes n scene.links e (subst (λ (p : ℕ). m < length (links_at p scene.links)) (sym same) h)))

-- a party that does not lead its node, and what it has in hand of these queues
pub record IsOther (q : PlainNodeQueues) (h : PlainHome) : Type 0 where
  pub join : CanJoin q h
  pub part : h.pool.hand.part ≡ 1

-- what a post has in hand is of the queues of its node
passes_of : (nodes : List PlainNodeQueues) (q : PlainNodeQueues) (h : PlainHome) → slice_get nodes h.node ≡ Some q → IsHomeOf nodes h → pool.IsPassOf q.pool h.pool × IfSome h.inbox (inbox.IsPassOf q.inbox)
passes_of nodes q h at is = by (slice_get nodes h.node) at is where
  by : (o : Option PlainNodeQueues) → o ≡ Some q → IsSomeAnd o (λ q. pool.IsPassOf q.pool h.pool × IfSome h.inbox (inbox.IsPassOf q.inbox)) → pool.IsPassOf q.pool h.pool × IfSome h.inbox (inbox.IsPassOf q.inbox)
  by o e k = subst (λ o. IsSomeAnd o (λ q. pool.IsPassOf q.pool h.pool × IfSome h.inbox (inbox.IsPassOf q.inbox))) e k

home_of_it : (scene : PlainScene) (n : PlainNetwork) (o : PlainOpening) (s : PlainPost) (h : PlainHome) (q : PlainNodeQueues) → IsPostOf scene n o s → s.ends.home ≡ Some h → slice_get n.nodes h.node ≡ Some q
    → pool.IsPassOf q.pool h.pool × IfSome h.inbox (inbox.IsPassOf q.inbox)
home_of_it scene n o s h q post its at = passes_of n.nodes q h at (subst (λ x. IfSome x (IsHomeOf n.nodes)) its post.from.of_it.home)

both_so : (x : Option inbox.PlainPass) (v : inbox.PlainInbox) (b : Bool) → IfSome x (inbox.IsPassOf v) → IfSome x (λ x. (x.role.reads ≡ b) × (x.role.writes ≡ true)) → b ≡ false → IfSome x (λ x. inbox.IsPassOf v x × (x.role.reads ≡ false))
both_so None v b f g e = tt
both_so (Some x) v b f g e = (f, g.0 ∙ e)

other_of : (scene : PlainScene) (n : PlainNetwork) (o : PlainOpening) (s : PlainPost) (h : PlainHome) (q : PlainNodeQueues) → IsPostOf scene n o s → s.ends.home ≡ Some h → slice_get n.nodes h.node ≡ Some q → is_leader o.who ≡ false → IsOther q h
other_of scene n o s h q post its at not =
    let passes = home_of_it scene n o s h q post its at in
    let home = home_in scene n o s h post its in
    record { join = record { pool = passes.0; inbox = both_so h.inbox q.inbox (is_leader o.who) passes.1 home.roles not }; part = home.part ∙ ap (λ (b : Bool). if b then 0 else 1) not }

-- the regions of what a post has in hand
pub home_region : (scene : PlainScene) (n : PlainNetwork) (o : PlainOpening) (s : PlainPost) (h : PlainHome) → IsPostOf scene n o s → s.ends.home ≡ Some h → slice_get n.regions h.node ≡ Some h.pool.hand.region
home_region scene n o s h post its = subst (λ x. IfSome x (λ h. slice_get n.regions h.node ≡ Some h.pool.hand.region)) its post.home.region

inbox_region : (scene : PlainScene) (n : PlainNetwork) (o : PlainOpening) (s : PlainPost) (h : PlainHome) (x : inbox.PlainPass) → IsPostOf scene n o s → s.ends.home ≡ Some h → h.inbox ≡ Some x → x.role.token.name ≡ h.pool.hand.region
inbox_region scene n o s h x post its has =
    let one : IfSome (inbox_of (Some h)) (λ p. p.role.token.name ≡ h.pool.hand.region) = subst (λ (home : Option PlainHome). IfSome (inbox_of home) (λ p. p.role.token.name ≡ region_of (record { home = home; sides = s.ends.sides }))) its post.from.ends.inbox in
    subst (λ x. IfSome x (λ p. p.role.token.name ≡ h.pool.hand.region)) has one

-- where the hub of a node stands, and its passes with those of the others
pub record HasMet (scene : PlainScene) (posts : List PlainPost) (q : PlainNodeQueues) (node : ℕ) : Type 0 where
  pub at : ℕ
  pub post : PlainPost
  pub home : PlainHome
  pub pass : inbox.PlainPass
  pub there : slice_get posts at ≡ Some post
  pub its : post.ends.home ≡ Some home
  pub here : home.node ≡ node
  pub inbox : home.inbox ≡ Some pass
  pub split : IsSplit (IsOther q) node posts home
  pub can : CanMeet q home.pool.hand.region (homes_at node (homes_of posts))

-- no pass is out once all are joined
none_out : (q : PlainNodeQueues) (hs : List PlainHome) (v : Passes) → AllByRecursion (IsOther q) hs → v.pool.hand.out + 1 ≡ 1 + length hs → (all_joined v hs).pool.hand.out ≡ 0
none_out q hs v others count =
    let out = all_out v hs (all_then (IsOther q) (λ (h : PlainHome). h.pool.hand.part ≡ 1) hs (λ h other. other.part) others) in
    omega (arith, out, count)

pub opened_with : (h : PlainHome) (x : inbox.PlainPass) → h.inbox ≡ Some x → opening h ≡ Some (record { pool = h.pool; inbox = x })
opened_with h x e = ap (option_map (λ (x : inbox.PlainPass). record { pool = h.pool; inbox = x })) e

-- no mark is out either: each that was is that of an interface, which is one of the others
no_mark : (scene : PlainScene) (n : PlainNetwork) (posts : List PlainPost) → IsNetworkOf scene n posts → (q : PlainNodeQueues) (node : ℕ) (m : PlainNode) (g : PlainHome) (x : inbox.PlainPass) (others : List PlainHome)
    → slice_get scene.nodes node ≡ Some m → homes_at node (homes_of posts) ≡ g ∷ others → g.inbox ≡ Some x → x.role.reads ≡ true → (k : ℕ) → k < length (links_at node scene.links) → AllByRecursion (HasNoMark k) others → ⊥
no_mark scene n posts net q node m g x others there whole has reads k few none =
    let found = scene_has scene node k m there few in
    let r = post_of scene n (parties_of scene) posts found.place found.one net.parties found.at in
    let home = home_named r.post.ends.home node (r.its.home.node ∙ ap node_of found.so) in
    let passes = home_in scene n found.one r.post home.0 r.its home.1 in
    let marked : option_map (λ (x : inbox.PlainPass). x.role.mark) home.0.inbox ≡ Some k = passes.mark ∙ ap mark_for found.so in
    let member = same_member (homes_at node (homes_of posts)) (g ∷ others) home.0 whole (is_member node posts found.place r.post home.0 r.there home.1 home.2) in
    by member.place home.0 found.one passes marked found.so member.at
  where
    by : (place : ℕ) (h : PlainHome) (o : PlainOpening) → IsHomeIn o.who h → option_map (λ (x : inbox.PlainPass). x.role.mark) h.inbox ≡ Some k → o.who ≡ who.Iface node k → slice_get (g ∷ others) place ≡ Some h → ⊥
    by zero h o passes marked named at =
        let same : h.inbox ≡ Some x = ap (λ (p : PlainHome). p.inbox) (sym (same_Some g h at)) ∙ has in
        let roles : (x.role.reads ≡ is_leader o.who) × (x.role.writes ≡ true) = subst (λ y. IfSome y (λ x. (x.role.reads ≡ is_leader o.who) × (x.role.writes ≡ true))) same passes.roles in
        true≢false (sym reads ∙ roles.0 ∙ ap is_leader named)
    by (suc place) h o passes marked named at = all_at (HasNoMark k) others place h none at marked

pub has_met : Led → Hubs → Apart → (scene : PlainScene) (n : PlainNetwork) (posts : List PlainPost) → IsNetworkOf scene n posts → (node : ℕ) (m : PlainNode) (q : PlainNodeQueues) → slice_get scene.nodes node ≡ Some m → slice_get n.nodes node ≡ Some q
    → HasMet scene posts q node
has_met led hubs apart scene n posts net node m q there at =
    let stands = hubs scene node m there in
    let hub = hub_at scene n posts net node m.addr stands in
    let place = hub_place_of scene n posts net node m.addr stands in
    let own = post_at scene n (parties_of scene) posts hub.at hub.post net.parties hub.there in
    let lead : is_leader own.party.who ≡ true = ap is_leader (sym own.post.who ∙ hub.who) ∙ hub_leads node m.addr in
    let home = home_in scene n own.party hub.post hub.home own.post hub.its in
    let its_q : slice_get n.nodes hub.home.node ≡ Some q = ap (slice_get n.nodes) hub.node ∙ at in
    let passes = home_of_it scene n own.party hub.post hub.home q own.post hub.its its_q in
    let pass : inbox.IsPassOf q.inbox hub.pass = subst (λ x. IfSome x (inbox.IsPassOf q.inbox)) hub.inbox passes.1 in
    let cut = split (IsOther q) node posts hub.at hub.post hub.home hub.there hub.its hub.node (first stands place) (others stands place) in
    let start : Passes = record { pool = hub.home.pool; inbox = hub.pass } in
    let opened : opening hub.home ≡ Some start = opened_with hub.home hub.pass hub.inbox in
    let opens : AreOpen q start = record { pool = passes.0; opens = home.opens ∙ ap (λ (b : Bool). if b then 1 else 0) lead; inbox = pass; reads = hub.reads } in
    let shared = net.shared hub.at hub.post hub.home hub.there (ap is_leader hub.who ∙ hub_leads node m.addr) hub.its in
    let count : hub.home.pool.hand.out + 1 ≡ 1 + length cut.others = shared.pool ∙ ap (λ (k : ℕ). count_by (λ (s : PlainPost). is_home k s.ends.home) posts) hub.node ∙ members_count node posts ∙ ap (λ (hs : List PlainHome). length hs) cut.whole ∙ omega arith in
    let all : Passes = all_joined start cut.others in
    let close : CanClose hub.home.pool.hand.region all = record {
      out = none_out q cut.others start cut.each count;
      pool = region_stays start cut.others;
      home = record {
        reads = (all_open q start cut.others opens).reads;
        home = no_marks all.inbox.role.out (λ k out.
            let was = out_all k start cut.others out in
            let few : k < length (links_at node scene.links) = subst (λ (p : ℕ). k < length (links_at p scene.links)) hub.node (shared.inbox hub.pass k hub.inbox was.0) in
            no_mark scene n posts net q node m hub.home hub.pass cut.others there cut.whole hub.inbox hub.reads k few was.1);
      };
      inbox = token_stays start cut.others ∙ inbox_region scene n own.party hub.post hub.home hub.pass own.post hub.its hub.inbox;
    } in
    record {
      at = hub.at;
      post = hub.post;
      home = hub.home;
      pass = hub.pass;
      there = hub.there;
      its = hub.its;
      here = hub.node;
      inbox = hub.inbox;
      split = cut;
      can = record {
        gather = subst (CanGather q) (sym cut.whole) (subst (λ o. IsSomeAnd o (AreOpen q)) (sym opened) opens, all_then (IsOther q) (CanJoin q) cut.others (λ h other. other.join) cut.each);
        close = subst (λ (hs : List PlainHome). IsSomeAnd (gathered hs) (CanClose hub.home.pool.hand.region)) (sym cut.whole)
            (subst (λ o. IsSomeAnd (option_map (λ (v : Passes). all_joined v cut.others) o) (CanClose hub.home.pool.hand.region)) (sym opened) close);
      };
    }
  where
    hub_of_it : (stands : Stands scene (leader_of node m.addr)) → ℕ
    hub_of_it stands = (hub_at scene n posts net node m.addr stands).at

    its_hub : (stands : Stands scene (leader_of node m.addr)) (i : ℕ) (s : PlainPost) (h : PlainHome) (e : slice_get posts i ≡ Some s) (f : s.ends.home ≡ Some h) (g : h.node ≡ node) (x : IsAt scene n (parties_of scene) i s) (l : IsLed scene node i x.party.who) → l.hub.place ≡ stands.place
    its_hub stands i s h e f g x l =
        let same : l.n ≡ m = same_Some l.n m (sym l.there ∙ there) in
        apart scene l.hub.place stands.place l.hub.party stands.party l.hub.at stands.at (l.hub.named ∙ ap (λ (p : PlainNode). leader_of node p.addr) same ∙ sym stands.named)

    first : (stands : Stands scene (leader_of node m.addr)) → hub_of_it stands ≡ stands.place → (i : ℕ) (s : PlainPost) (h : PlainHome) → slice_get posts i ≡ Some s → s.ends.home ≡ Some h → h.node ≡ node → hub_of_it stands ≤ i
    first stands place i s h e f g =
        let x = post_at scene n (parties_of scene) posts i s net.parties e in
        let l = led scene i x.party x.there node (node_in scene n x.party s h x.post f ∙ ap (λ (k : ℕ). Some k) g) in
        subst (λ (k : ℕ). k ≤ i) (its_hub stands i s h e f g x l ∙ sym place) l.first

    others : (stands : Stands scene (leader_of node m.addr)) → hub_of_it stands ≡ stands.place → (i : ℕ) (s : PlainPost) (h : PlainHome) → slice_get posts i ≡ Some s → s.ends.home ≡ Some h → h.node ≡ node → i ≢ hub_of_it stands → IsOther q h
    others stands place i s h e f g other =
        let x = post_at scene n (parties_of scene) posts i s net.parties e in
        let l = led scene i x.party x.there node (node_in scene n x.party s h x.post f ∙ ap (λ (k : ℕ). Some k) g) in
        let no : (b : Bool) → is_leader x.party.who ≡ b → is_leader x.party.who ≡ false = λ b lead. by b lead (λ is. other (sym (l.alone (is)) ∙ its_hub stands i s h e f g x l ∙ sym place)) in
        other_of scene n x.party s h q x.post f (ap (slice_get n.nodes) g ∙ at) (no (is_leader x.party.who) refl)
      where
        by : {c : Bool} (b : Bool) → c ≡ b → (c ≡ true → ⊥) → c ≡ false
        by true e f = absurd (f e)
        by false e f = e
