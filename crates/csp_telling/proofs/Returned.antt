-- All buffers of a node are in one place at the end of a run.
use Rattle.std.proofs.Common.{◌≡◌, ◌≢◌, ◌+◌, ℕ, Bool, true, false, List, [], ◌++◌, Option, None, Some, refl, sym, ap, ◌∙◌, arith}
use Rattle.std.specs.Prelude.{IfSome, if◌then◌else◌, slice_get}
use Rattle.std.specs.List.{flat_map, range_with_len, sum_by}
use Rattle.std.proofs.lemmas.Option.{get_or_from_slice_get, same_Some}
use Rattle.csp_base.specs.declared.priority.Prio.{Prio}
use Rattle.csp_base.specs.declared.priority.Prio.TheVariants.{Critical, High, Normal, Low}
use Rattle.csp_deck.proofs.Public.{times-append}
use Rattle.csp_deck.specs.Step.{times}
use Rattle.csp_ends.specs.Ends.{PlainHome, inbox_of}
use Rattle.csp_ends.specs.Traced.{IsHomeTraced}
use Rattle.csp_inbox.specs.Passes as inbox
use Rattle.csp_lists.specs.PlainDeck.{numbers_of}
use Rattle.csp_party.specs.Any.{holds}
use Rattle.csp_posts.specs.Balance.{times_from, times_got, times_in, times_into, times_out, times_put, times_taken_out}
use Rattle.csp_posts.specs.Between.{is_home, over_home}
use Rattle.csp_posts.specs.Posts.{PlainPost}
use Rattle.csp_log.specs.Who.{node_of}
use Rattle.csp_log.specs.declared.who.Who.{Who}
use Rattle.csp_scene.specs.Links.{no_node, node_at}
use Rattle.csp_scene.specs.Scene.{PlainNode, PlainScene}
use Rattle.csp_standing.proofs.Public.{Apart, Hubs, Led, hub_at, hub_leads, hub_node, hub_place_of, node_in, post_at}
use Rattle.csp_standing.specs.Network.{IsNetworkOf, PlainNetwork, opened_at, opened_in}
use Rattle.csp_telling.proofs.Ends.{AllStay, ends_alone, ends_home}
use Rattle.csp_telling.proofs.Homes.{home_both, home_flat, home_is, home_one, home_same, is_there}
use Rattle.csp_telling.proofs.Inboxes.{UseOwn, followers_get_none, home_kept_parts, home_none_out}
use Rattle.csp_telling.proofs.Lanes.{all_moved}
use Rattle.csp_telling.proofs.Marks.{among, among-append, same_numbers}
use Rattle.csp_telling.specs.Remains.{AreLeftAt, AreRemains, PlainRemains, held_at, inbox_numbers, kept_at, kept_from, put_at, put_from, returned, taken_at, taken_from}
use Rattle.csp_topology.specs.Lanes.{leader_of}
use Rattle.csp_topology.specs.Parties.{parties_of}
use Rattle.csp_topology.specs.Wired.{Stands, is_leader}

-- how often a number is among what the parties of a node hold; what they put through ends, and got; what they put into the pool and the inbox, and
-- took; and what they had put at the opening
abbrev held : ℕ → ℕ → List PlainPost → ℕ
held k node posts = over_home node (λ s. times k (holds s.party)) posts

abbrev sent : ℕ → ℕ → List PlainPost → ℕ
sent k node posts = over_home node (λ s. sum_by (times_put k) s.ends.sides) posts

abbrev come : ℕ → ℕ → List PlainPost → ℕ
come k node posts = over_home node (λ s. sum_by (times_got k) s.ends.sides) posts

abbrev into : ℕ → ℕ → List PlainPost → ℕ
into k node posts = over_home node (λ s. times_into k s.ends.home) posts

abbrev out : ℕ → ℕ → List PlainPost → ℕ
out k node posts = over_home node (λ s. times_from k s.ends.home) posts

abbrev opened : PlainScene → ℕ → ℕ → List PlainPost → ℕ
opened scene k node posts = over_home node (λ s. times k (opened_in scene s.who)) posts

-- the balance of all parties of a node
balanced : (k : ℕ) (scene : PlainScene) (n : PlainNetwork) (posts : List PlainPost) → IsNetworkOf scene n posts → (node : ℕ) → held k node posts + (sent k node posts + into k node posts) ≡ come k node posts + out k node posts + opened scene k node posts
balanced k scene n posts net node =
    both_sides _ _ _ _ _ _ _ _ _ _
    (home_both node (λ s. times k (holds s.party)) (λ s. times_out k s.ends) posts)
    (home_both node (λ s. sum_by (times_put k) s.ends.sides) (λ s. times_into k s.ends.home) posts)
    (home_both node (λ s. times_in k s.ends) (λ s. times k (opened_in scene s.who)) posts)
    (home_both node (λ s. sum_by (times_got k) s.ends.sides) (λ s. times_from k s.ends.home) posts)
    (home_same node (λ s. times k (holds s.party) + times_out k s.ends) (λ s. times_in k s.ends + times k (opened_in scene s.who)) posts (λ i s at here.
    let x = post_at scene n (parties_of scene) posts i s net.parties at in
    x.post.from.balanced k ∙ ap (λ w. times_in k s.ends + times k (opened_in scene w)) (sym x.post.who)))
  where
    both_sides : (all h o p i every c u f op : ℕ) → all ≡ h + o → o ≡ p + i → every ≡ c + op → c ≡ u + f → all ≡ every → h + (p + i) ≡ u + f + op
    both_sides all h o p i every c u f op a b d e g = omega (arith, a, b, d, e, g)

-- what a party put into the inbox, of a priority
abbrev kept : ℕ → Prio → PlainPost → ℕ
kept k p s = among k (kept_from p s.ends.home)

abbrev kept_all : ℕ → ℕ → List PlainPost → ℕ
kept_all k node posts = among k (kept_at node Critical posts) + among k (kept_at node High posts) + among k (kept_at node Normal posts) + among k (kept_at node Low posts)

kept_flat : (k node : ℕ) (p : Prio) (posts : List PlainPost) → among k (kept_at node p posts) ≡ over_home node (kept k p) posts
kept_flat k node p posts = home_flat node (among k) (λ s. kept_from p s.ends.home) posts refl (among-append k)

-- what went into the pool and the inbox
all_into : (k node : ℕ) (posts : List PlainPost) → into k node posts ≡ times k (put_at node posts) + kept_all k node posts
all_into k node posts =
    parts _ _ _ _ _ _ _ _ _ _ _ _ _ _ _
    (home_same node (λ s. times_into k s.ends.home) (λ s. times k (put_from s.ends.home) + (kept k Critical s + kept k High s + kept k Normal s + kept k Low s)) posts (λ i s at here. one s.ends.home))
    (home_both node (λ s. times k (put_from s.ends.home)) (λ s. kept k Critical s + kept k High s + kept k Normal s + kept k Low s) posts)
    (home_both node (λ s. kept k Critical s + kept k High s + kept k Normal s) (kept k Low) posts)
    (home_both node (λ s. kept k Critical s + kept k High s) (kept k Normal) posts)
    (home_both node (kept k Critical) (kept k High) posts)
    (home_flat node (times k) (λ s. put_from s.ends.home) posts refl (times-append k))
    (kept_flat k node Critical posts)
    (kept_flat k node High posts)
    (kept_flat k node Normal posts)
    (kept_flat k node Low posts)
  where
    one : (home : Option PlainHome) → times_into k home ≡ times k (put_from home) + (among k (kept_from Critical home) + among k (kept_from High home) + among k (kept_from Normal home) + among k (kept_from Low home))
    one None = refl
    one (Some h) = ap (λ n. times k h.pool.hand.put + n) (home_kept_parts k (Some h))

    parts : (all sum put four three two c h n l puts cs hs ns ls : ℕ) → all ≡ sum → sum ≡ put + four → four ≡ three + l → three ≡ two + n → two ≡ c + h → puts ≡ put → cs ≡ c → hs ≡ h → ns ≡ n → ls ≡ l → all ≡ puts + (cs + hs + ns + ls)
    parts all sum put four three two c h n l puts cs hs ns ls a b d e f p1 p2 p3 p4 p5 = omega (arith, a, b, d, e, f, p1, p2, p3, p4, p5)

-- and what came from them
all_out : (k node : ℕ) (posts : List PlainPost) → out k node posts ≡ times k (taken_at node posts) + over_home node (λ s. times_taken_out k (inbox_of s.ends.home)) posts
all_out k node posts =
    home_same node (λ s. times_from k s.ends.home) (λ s. times k (taken_from s.ends.home) + times_taken_out k (inbox_of s.ends.home)) posts (λ i s at here. one s.ends.home)
    ∙ home_both node (λ s. times k (taken_from s.ends.home)) (λ s. times_taken_out k (inbox_of s.ends.home)) posts
    ∙ ap (λ n. n + over_home node (λ s. times_taken_out k (inbox_of s.ends.home)) posts) (sym (home_flat node (times k) (λ s. taken_from s.ends.home) posts refl (times-append k)))
  where
    one : (home : Option PlainHome) → times_from k home ≡ times k (taken_from home) + times_taken_out k (inbox_of home)
    one None = refl
    one (Some h) = refl

-- what a leader of a node had put into the pool, and any other
leader_opened : (scene : PlainScene) (w : Who) (node : ℕ) (m : PlainNode) → is_leader w ≡ true → node_of w ≡ Some node → slice_get scene.nodes node ≡ Some m → opened_in scene w ≡ range_with_len 0 m.buffers
leader_opened scene w node m lead at there =
    ap (opened_at scene w) at
    ∙ ap (λ b. if b then range_with_len 0 (node_at scene.nodes node).buffers else []) lead
    ∙ ap (λ (n : PlainNode). range_with_len 0 n.buffers) (get_or_from_slice_get scene.nodes node m no_node there)

none_opened : (scene : PlainScene) (w : Who) (node : Option ℕ) → is_leader w ≡ false → opened_at scene w node ≡ []
none_opened scene w None e = refl
none_opened scene w (Some node) e = ap (λ b. if b then range_with_len 0 (node_at scene.nodes node).buffers else []) e

-- any other party of a node than its router or bridge doesn't lead it
follows : Led → Apart → (scene : PlainScene) (n : PlainNetwork) (posts : List PlainPost) (net : IsNetworkOf scene n posts) (node : ℕ) (m : PlainNode) → slice_get scene.nodes node ≡ Some m → (stands : Stands scene (leader_of node m.addr))
    → (i : ℕ) (s : PlainPost) → slice_get posts i ≡ Some s → is_home node s.ends.home ≡ true → i ≢ (hub_at scene n posts net node m.addr stands).at → is_leader s.who ≡ false
follows led apart scene n posts net node m there stands i s at here other =
    let h = home_is node s.ends.home here in
    let x = post_at scene n (parties_of scene) posts i s net.parties at in
    let l = led scene i x.party x.there node (node_in scene n x.party s h.0 x.post h.1 ∙ ap Some h.2) in
    let same : l.n ≡ m = same_Some l.n m (sym l.there ∙ there) in
    let place : l.hub.place ≡ stands.place = apart scene l.hub.place stands.place l.hub.party stands.party l.hub.at stands.at (l.hub.named ∙ ap (λ (p : PlainNode). leader_of node p.addr) same ∙ sym stands.named) in
    by (is_leader s.who) refl (λ lead. other (sym (l.alone (ap is_leader (sym x.post.who) ∙ lead)) ∙ place ∙ sym (hub_place_of scene n posts net node m.addr stands)))
  where
    by : (b : Bool) → is_leader s.who ≡ b → (is_leader s.who ≡ true → ⊥) → is_leader s.who ≡ false
    by true e not = absurd (not e)
    by false e not = e

-- what a party has of the pool and the inbox tells what its log says
home_traced : (scene : PlainScene) (n : PlainNetwork) (posts : List PlainPost) → IsNetworkOf scene n posts → (i : ℕ) (s : PlainPost) → slice_get posts i ≡ Some s → (os : List ℕ) × IfSome s.ends.home (IsHomeTraced os s.entries)
home_traced scene n posts net i s at = let x = post_at scene n (parties_of scene) posts i s net.parties at in (opened_in scene x.party.who, x.post.from.traced.home)

-- what the leader and the others of a node did
record IsLedSo (scene : PlainScene) (k node : ℕ) (m : PlainNode) (posts : List PlainPost) : Type 0 where
  hub : ℕ
  post : PlainPost
  home : PlainHome
  pass : inbox.PlainPass
  there : slice_get posts hub ≡ Some post
  its : post.ends.home ≡ Some home
  node_is : home.node ≡ node
  inbox_is : home.inbox ≡ Some pass
  reads : pass.role.reads ≡ true
  opening : opened scene k node posts ≡ times k (range_with_len 0 m.buffers)
  got : over_home node (λ s. times_taken_out k (inbox_of s.ends.home)) posts ≡ times_taken_out k (Some pass)

led_so : Led → Hubs → Apart → UseOwn → (scene : PlainScene) (n : PlainNetwork) (posts : List PlainPost) → IsNetworkOf scene n posts → (k node : ℕ) (m : PlainNode) → slice_get scene.nodes node ≡ Some m → IsLedSo scene k node m posts
led_so led hubs apart use_own scene n posts net k node m there =
    let stands = hubs scene node m there in
    let h = hub_at scene n posts net node m.addr stands in
    let here = is_there node h.post.ends.home h.home h.its h.node in
    let others = follows led apart scene n posts net node m there stands in
    record {
      hub = h.at;
      post = h.post;
      home = h.home;
      pass = h.pass;
      there = h.there;
      its = h.its;
      node_is = h.node;
      inbox_is = h.inbox;
      reads = h.reads;
      opening =
          home_one node (λ s. times k (opened_in scene s.who)) posts h.at h.post h.there here (λ i s at is other. ap (times k) (none_opened scene s.who (node_of s.who) (others i s at is other)))
          ∙ ap (λ w. times k (opened_in scene w)) h.who
          ∙ ap (times k) (leader_opened scene (leader_of node m.addr) node m (hub_leads node m.addr) (hub_node node m.addr) there);
      got =
          home_one node (λ s. times_taken_out k (inbox_of s.ends.home)) posts h.at h.post h.there here
          (λ i s at is other.
          let traced = home_traced scene n posts net i s at in
          home_none_out k traced.0 s.entries s.ends.home traced.1 (followers_get_none use_own scene n posts net i s at (others i s at is other)))
          ∙ ap (λ o. times_taken_out k (inbox_of o)) h.its
          ∙ ap (times_taken_out k) h.inbox;
    }

-- what was left in an inbox
all_kept : (scene : PlainScene) (k node : ℕ) (c : PlainNode) (posts : List PlainPost) (m : PlainRemains) → AreLeftAt posts node m → (l : IsLedSo scene k node c posts) → kept_all k node posts ≡ times_taken_out k (Some l.pass) + times k (inbox_numbers m)
all_kept scene k node c posts m left l =
    parts _ _ _ _ _ _ _ _ _ _ _ _ _ _ _ (one Critical) (one High) (one Normal) (one Low)
    (among-append k (m.inbox Critical ++ m.inbox High ++ m.inbox Normal) (m.inbox Low))
    (among-append k (m.inbox Critical ++ m.inbox High) (m.inbox Normal))
    (among-append k (m.inbox Critical) (m.inbox High))
  where
    one : (p : Prio) → among k (kept_at node p posts) ≡ among k (inbox.mail_at l.pass p).got + among k (m.inbox p)
    one p =
        same_numbers k (kept_at node p posts) ((inbox.mail_at l.pass p).got ++ m.inbox p) ((left.inbox p).sorted l.hub l.post l.home l.pass l.there l.its l.node_is l.inbox_is l.reads)
        ∙ among-append k (inbox.mail_at l.pass p).got (m.inbox p)

    parts : (c h n l gc gh gn gl mc mh mn ml all three two : ℕ) → c ≡ gc + mc → h ≡ gh + mh → n ≡ gn + mn → l ≡ gl + ml → all ≡ three + ml → three ≡ two + mn → two ≡ mc + mh → c + h + n + l ≡ gc + gh + gn + gl + all
    parts c h n l gc gh gn gl mc mh mn ml all three two e1 e2 e3 e4 e5 e6 e7 = omega (arith, e1, e2, e3, e4, e5, e6, e7)

pub all_returned : Led → Hubs → Apart → UseOwn → (scene : PlainScene) → AllStay scene → (n : PlainNetwork) (posts : List PlainPost) (all : List PlainRemains) → IsNetworkOf scene n posts → AreRemains scene posts all
    → (node : ℕ) (c : PlainNode) (m : PlainRemains) → slice_get scene.nodes node ≡ Some c → slice_get all node ≡ Some m → (k : ℕ) → times k (returned node m posts) ≡ times k (range_with_len 0 c.buffers)
all_returned led hubs apart use_own scene stay n posts all net remains node c m there at k =
    let left = remains.each node m at in
    let l = led_so led hubs apart use_own scene n posts net k node c there in
    summed _ _ _ _ _ _ _ _ _ _ _ _ _ _ _ _ _ _ _
    (balanced k scene n posts net node)
    (all_into k node posts)
    (all_out k node posts)
    l.opening
    l.got
    (all_kept scene k node c posts m left l)
    (left.pool.whole k)
    (all_moved k posts node m.lanes (ends_alone apart scene n posts net) (ends_home scene stay n posts net all remains node m at) left.lanes)
    (times-append k m.pool (flat_map numbers_of m.lanes ++ (inbox_numbers m ++ held_at node posts)))
    (times-append k (flat_map numbers_of m.lanes) (inbox_numbers m ++ held_at node posts))
    (times-append k (inbox_numbers m) (held_at node posts))
    (home_flat node (times k) (λ s. holds s.party) posts refl (times-append k))
  where
    summed : (all pool rest lanes last inbox at held sent into come out opened put kept taken got first hub : ℕ) → held + (sent + into) ≡ come + out + opened → into ≡ put + kept → out ≡ taken + got → opened ≡ first → got ≡ hub → kept ≡ hub + inbox → put ≡ taken + pool
        → sent ≡ come + lanes → all ≡ pool + rest → rest ≡ lanes + last → last ≡ inbox + at → at ≡ held → all ≡ first
    summed all pool rest lanes last inbox at held sent into come out opened put kept taken got first hub e1 e2 e3 e4 e5 e6 e7 e8 e9 e10 e11 e12 = omega (arith, e1, e2, e3, e4, e5, e6, e7, e8, e9, e10, e11, e12)
