-- A post of a scene is one after turns.
use Rattle.std.proofs.Common.{◌≡◌, ℕ, zero, suc, ◌+◌, ◌<◌, ◌≤◌, ◌^◌, Bool, true, cond, Option, None, Some, List, [], ◌∷◌, length, map, refl, sym, ap, ◌∙◌, subst}
use Rattle.std.specs.Prelude.{IfSome, count_by, slice_get}
use Rattle.std.specs.List.{AllByRecursion, AllZip}
use Rattle.std.specs.Option.{option_map}
use Rattle.std.proofs.lemmas.List.Sums.{sum_by-cons}
use Rattle.std.proofs.lemmas.Option.{same_Some}
use Rattle.csp_arena.specs.Cells.{RegionName}
use Rattle.csp_consistent.specs.Reading.{gets}
use Rattle.csp_deck.specs.Carried.{IsCarried}
use Rattle.csp_deck.specs.Runs.{last_time}
use Rattle.csp_ends.specs.Ends.{PlainNodeQueues, PlainSide, PlainHome, PlainEnds}
use Rattle.csp_inbox.specs.Marks.{is_in}
use Rattle.csp_inbox.specs.Passes as inbox
use Rattle.csp_inbox.specs.declared.hand.Role.{Role}
use Rattle.csp_log.specs.declared.places.QueueId.TheVariants as queue
use Rattle.csp_log.specs.declared.places.Rule.TheVariants as rule
use Rattle.csp_standing.specs.Network.{PlainNetwork, SideName, name_of, opened_in, IsHomeAmong, IsSideAmong, IsPostOf, ArePostsOf, IsShared, IsNetworkOf}
use Rattle.csp_posts.proofs.Public.{turns_through, turns_full, turns_still, turns_post, turns_got, turns_early}
use Rattle.csp_posts.specs.Between.{is_home}
use Rattle.csp_posts.specs.Posts.{PlainPost, AreTurns}
use Rattle.csp_posts.specs.Still.{still_side, still_inbox, still_home, still, IsPostFrom}
use Rattle.csp_posts.specs.Through.{IsThrough, WasCrammed}
use Rattle.csp_log.specs.declared.who.Who.{Who}
use Rattle.csp_scene.specs.Links.{links_at}
use Rattle.csp_scene.specs.Scene.{PlainScene}
use Rattle.csp_topology.specs.Parties.{PlainOpening, parties_of}
use Rattle.csp_topology.specs.Wired.{is_leader}

-- the names of ends that stay
names : (ss : List PlainSide) → map name_of (map still_side ss) ≡ map name_of ss
names [] = refl
names (s ∷ ss) = ap (λ (rest : List SideName). name_of s ∷ rest) (names ss)

-- the regions of what goes through them
regions_to : (r : List RegionName) (ss : List PlainSide) → AllByRecursion (IsSideAmong r) ss → AllByRecursion (IsSideAmong r) (map still_side ss)
regions_to r [] h = tt
regions_to r (s ∷ ss) h = (h.0, regions_to r ss h.1)

regions_from : (r : List RegionName) (ss : List PlainSide) → AllByRecursion (IsSideAmong r) (map still_side ss) → AllByRecursion (IsSideAmong r) ss
regions_from r [] h = tt
regions_from r (s ∷ ss) h = (h.0, regions_from r ss h.1)

-- the passes of a node
marks : (x : Option inbox.PlainPass) → option_map (λ x. x.role.mark) (option_map still_inbox x) ≡ option_map (λ x. x.role.mark) x
marks None = refl
marks (Some x) = refl

roles_to : (w : Who) (x : Option inbox.PlainPass) → IfSome x (λ x. (x.role.reads ≡ is_leader w) × (x.role.writes ≡ true)) → IfSome (option_map still_inbox x) (λ x. (x.role.reads ≡ is_leader w) × (x.role.writes ≡ true))
roles_to w None h = tt
roles_to w (Some x) h = h

roles_from : (w : Who) (x : Option inbox.PlainPass) → IfSome (option_map still_inbox x) (λ x. (x.role.reads ≡ is_leader w) × (x.role.writes ≡ true)) → IfSome x (λ x. (x.role.reads ≡ is_leader w) × (x.role.writes ≡ true))
roles_from w None h = tt
roles_from w (Some x) h = h

home_to : (regions : List RegionName) (w : Who) (home : Option PlainHome) → IsHomeAmong regions w home → IsHomeAmong regions w (option_map still_home home)
home_to regions w None g = record { node = g.node; passes = tt; region = tt }
home_to regions w (Some h) g = record {
  node = g.node;
  passes = record { opens = g.passes.opens; part = g.passes.part; mark = marks h.inbox ∙ g.passes.mark; roles = roles_to w h.inbox g.passes.roles };
  region = g.region;
}

home_from : (regions : List RegionName) (w : Who) (home : Option PlainHome) → IsHomeAmong regions w (option_map still_home home) → IsHomeAmong regions w home
home_from regions w None g = record { node = g.node; passes = tt; region = tt }
home_from regions w (Some h) g = record {
  node = g.node;
  passes = record { opens = g.passes.opens; part = g.passes.part; mark = sym (marks h.inbox) ∙ g.passes.mark; roles = roles_from w h.inbox g.passes.roles };
  region = g.region;
}

-- a post of which turns or meetings left what they leave
pub record Stays (s t : PlainPost) : Type 0 where
  pub who : t.who ≡ s.who
  pub still : still t.ends ≡ still s.ends

pub post_kept : (scene : PlainScene) (n : PlainNetwork) (o : PlainOpening) (s t : PlainPost) → Stays s t → IsPostFrom n.nodes o.party (opened_in scene o.who) t → AllByRecursion (IsCarried rule.Inbox) (gets queue.Inbox t.entries)
    → AllByRecursion IsThrough t.ends.sides → AllByRecursion (WasCrammed t.entries) t.ends.sides → AllByRecursion (λ e. e.time < 2 ^ 62) t.entries → IsPostOf scene n o s → IsPostOf scene n o t
post_kept scene n o s t stays from got through full early h = record {
  who = stays.who ∙ h.who;
  from = from;
  home = home_from n.regions o.who t.ends.home (subst (λ (e : PlainEnds). IsHomeAmong n.regions o.who e.home) (sym stays.still) (home_to n.regions o.who s.ends.home h.home));
  sides = sym (names t.ends.sides) ∙ ap (λ (e : PlainEnds). map name_of e.sides) stays.still ∙ names s.ends.sides ∙ h.sides;
  regions = regions_from n.regions t.ends.sides (subst (λ (e : PlainEnds). AllByRecursion (IsSideAmong n.regions) e.sides) (sym stays.still) (regions_to n.regions s.ends.sides h.regions));
  got = got;
  through = through;
  full = full;
  early = early;
}

-- after turns
pub turns_stay : (nodes : List PlainNodeQueues) (time count : ℕ) (s t : PlainPost) → AreTurns nodes time count s t → Stays s t
turns_stay nodes time count s t f = record { who = f.who; still = turns_still nodes time count s t f }

pub post_turned : (scene : PlainScene) (n : PlainNetwork) (time count : ℕ) (o : PlainOpening) (s t : PlainPost) → AreTurns n.nodes time count s t → last_time 0 s.entries ≤ time → time < 2 ^ 62 → IsPostOf scene n o s → IsPostOf scene n o t
post_turned scene n time count o s t f late early h =
    post_kept scene n o s t (turns_stay n.nodes time count s t f) (turns_post n.nodes time count o.party (opened_in scene o.who) s t f late h.from)
    (turns_got n.nodes time count s t f h.got) (turns_through n.nodes time count s t f h.from.ends h.through) (turns_full n.nodes time count (opened_in scene o.who) s t f h.from.traced h.full)
    (turns_early n.nodes time count (2 ^ 62) s t f early h.early) h

pub posts_turned : (scene : PlainScene) (n : PlainNetwork) (time count : ℕ) (os : List PlainOpening) (posts after : List PlainPost) → AllZip (AreTurns n.nodes time count) posts after
    → AllByRecursion (λ s. last_time 0 s.entries ≤ time) posts → time < 2 ^ 62 → ArePostsOf scene n os posts → ArePostsOf scene n os after
posts_turned scene n time count [] [] [] turns late early h = tt
posts_turned scene n time count (o ∷ os) (s ∷ posts) (t ∷ after) turns late early h =
    (post_turned scene n time count o s t turns.0 late.0 early h.0, posts_turned scene n time count os posts after turns.1 late.1 early h.1)
posts_turned scene n time count [] (s ∷ posts) after turns late early h = absurd h
posts_turned scene n time count (o ∷ os) [] after turns late early h = absurd h
posts_turned scene n time count [] [] (t ∷ after) turns late early h = absurd turns
posts_turned scene n time count (o ∷ os) (s ∷ posts) [] turns late early h = absurd turns

-- who shares the pool and the inbox of a node
home_is : (node : ℕ) (x : Option PlainHome) → is_home node (option_map still_home x) ≡ is_home node x
home_is node None = refl
home_is node (Some h) = refl

same_home : (node : ℕ) (s t : PlainPost) → Stays s t → is_home node t.ends.home ≡ is_home node s.ends.home
same_home node s t stays = sym (home_is node t.ends.home) ∙ ap (λ (e : PlainEnds). is_home node e.home) stays.still ∙ home_is node s.ends.home

count_same : (node : ℕ) (posts after : List PlainPost) → AllZip Stays posts after → count_by (λ s. is_home node s.ends.home) after ≡ count_by (λ s. is_home node s.ends.home) posts
count_same node [] [] stay = refl
count_same node (s ∷ posts) (t ∷ after) stay =
    sum_by-cons (λ (y : PlainPost). cond (is_home node y.ends.home) 1 0) t after
    ∙ ap (λ (b : Bool). cond b 1 0 + count_by (λ s. is_home node s.ends.home) after) (same_home node s t stay.0)
    ∙ ap (λ (k : ℕ). cond (is_home node s.ends.home) 1 0 + k) (count_same node posts after stay.1)
    ∙ sym (sum_by-cons (λ (y : PlainPost). cond (is_home node y.ends.home) 1 0) s posts)
count_same node [] (t ∷ after) stay = absurd stay
count_same node (s ∷ posts) [] stay = absurd stay

-- the one who stood at a place before
stood : (posts after : List PlainPost) (k : ℕ) (t : PlainPost) → AllZip Stays posts after → slice_get after k ≡ Some t → (s : PlainPost) × (slice_get posts k ≡ Some s) × Stays s t
stood [] [] k t stay at = absurd cc
stood (s ∷ posts) (x ∷ after) zero t stay at = (s, refl, subst (Stays s) (same_Some x t at) stay.0)
stood (s ∷ posts) (x ∷ after) (suc k) t stay at = stood posts after k t stay.1 at
stood [] (x ∷ after) k t stay at = absurd stay
stood (s ∷ posts) [] k t stay at = absurd stay

was_home : (x : Option PlainHome) (h : PlainHome) → option_map still_home x ≡ Some (still_home h) → (g : PlainHome) × (x ≡ Some g) × (still_home g ≡ still_home h)
was_home None h e = absurd cc
was_home (Some g) h e = (g, refl, same_Some (still_home g) (still_home h) e)

was_pass : (x : Option inbox.PlainPass) (y : inbox.PlainPass) → option_map still_inbox x ≡ Some (still_inbox y) → (z : inbox.PlainPass) × (x ≡ Some z) × (z.role ≡ y.role)
was_pass None y e = absurd cc
was_pass (Some z) y e = (z, refl, ap (λ (p : inbox.PlainPass). p.role) (same_Some (still_inbox z) (still_inbox y) e))

shared_kept : (scene : PlainScene) (posts after : List PlainPost) (g h : PlainHome) → AllZip Stays posts after → still_home g ≡ still_home h → IsShared scene posts g → IsShared scene after h
shared_kept scene posts after g h stay same shared =
    let node : g.node ≡ h.node = ap (λ (x : PlainHome). x.node) same in
    record {
      pool =
          ap (λ (k : ℕ). k + 1) (sym (ap (λ (x : PlainHome). x.pool.hand.out) same)) ∙ shared.pool
          ∙ ap (λ (k : ℕ). count_by (λ s. is_home k s.ends.home) posts) node ∙ sym (count_same h.node posts after stay);
      inbox = λ y m there out.
          let (z, was, role) = was_pass g.inbox y (ap (λ (x : PlainHome). x.inbox) same ∙ ap (option_map still_inbox) there) in
          subst (λ (k : ℕ). m < length (links_at k scene.links)) node (shared.inbox z m was (ap (λ (r : Role). is_in r.out m) role ∙ out));
    }

-- the network of a scene whose posts stay
pub network_kept : (scene : PlainScene) (n : PlainNetwork) (posts after : List PlainPost) → AllZip Stays posts after → ArePostsOf scene n (parties_of scene) after → IsNetworkOf scene n posts → IsNetworkOf scene n after
network_kept scene n posts after stay kept h = record {
  nodes = h.nodes;
  regions = h.regions;
  parties = kept;
  shared = λ k t f at lead there.
      let (s, was, stays) = stood posts after k t stay at in
      let (g, home, same) = was_home s.ends.home f (ap (λ (e : PlainEnds). e.home) (sym stays.still) ∙ ap (option_map still_home) there) in
      shared_kept scene posts after g f stay same (h.shared k s g was (ap is_leader (sym stays.who) ∙ lead) home);
}

-- after a round
turned_stay : (nodes : List PlainNodeQueues) (time count : ℕ) (posts after : List PlainPost) → AllZip (AreTurns nodes time count) posts after → AllZip Stays posts after
turned_stay nodes time count [] [] turns = tt
turned_stay nodes time count (s ∷ posts) (t ∷ after) turns = (turns_stay nodes time count s t turns.0, turned_stay nodes time count posts after turns.1)
turned_stay nodes time count [] (t ∷ after) turns = absurd turns
turned_stay nodes time count (s ∷ posts) [] turns = absurd turns

pub network_turned : (scene : PlainScene) (n : PlainNetwork) (time count : ℕ) (posts after : List PlainPost) → AllZip (AreTurns n.nodes time count) posts after → AllByRecursion (λ s. last_time 0 s.entries ≤ time) posts
    → time < 2 ^ 62 → IsNetworkOf scene n posts → IsNetworkOf scene n after
network_turned scene n time count posts after turns late early h =
    network_kept scene n posts after (turned_stay n.nodes time count posts after turns) (posts_turned scene n time count (parties_of scene) posts after turns late early h.parties) h
