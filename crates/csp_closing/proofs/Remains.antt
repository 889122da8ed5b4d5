-- What was left in the queues of the nodes, and what that is to the posts.
use Rattle.std.proofs.Common.{◌≡◌, ◌+◌, ◌≤◌, ℕ, zero, suc, true, false, true≢false, Option, None, Some, List, [], ◌∷◌, ◌++◌, length, map, refl, sym, ap, ◌∙◌, subst, arith}
use Rattle.std.specs.Prelude.{IfSome, IsSomeAnd, slice_get}
use Rattle.std.specs.List.{AllByRecursion, flat_map}
use Rattle.std.specs.Option.{option_map}
use Rattle.std.proofs.lemmas.Option.{same_Some}
use Rattle.csp_base.specs.declared.priority.Prio.{Prio}
use Rattle.csp_closing.proofs.Gathering.{IsBelow, IsMailBelow, all_got, all_kept, all_put, all_taken, floor_stays, floors, mail_floor_stays, mail_floors}
use Rattle.csp_closing.proofs.Leading.{HasMet, IsOther, opened_with}
use Rattle.csp_closing.proofs.Lists.{all_at, made_from}
use Rattle.csp_closing.proofs.Members.{counts_members, homes_of, is_member, over_members, stay_at}
use Rattle.csp_closing.proofs.Sides.{IsLater, all_before, all_later, both_later}
use Rattle.csp_closing.specs.Hands.{all_joined, gathered, homes_at, without_home}
use Rattle.csp_closing.specs.Nodes.{AreLeftIn, IsLeftBy, IsLeftIn}
use Rattle.csp_closing.specs.Wires.{AreLeftAmong, IsLeftAmong, without_all}
use Rattle.csp_closing.specs.declared.passes.Passes.{Passes}
use Rattle.csp_deck.specs.Step.{times}
use Rattle.csp_ending.specs.Ends.{IsLeftAt}
use Rattle.csp_ends.specs.Ends.{PlainHome, PlainNodeQueues, PlainSide}
use Rattle.csp_inbox.specs.Marks.{with_mark}
use Rattle.csp_inbox.specs.Passes as inbox
use Rattle.csp_log.specs.declared.shown.ItemShown.{ItemShown}
use Rattle.csp_pool.specs.Fairness.{Closes}
use Rattle.csp_posts.specs.Between as between
use Rattle.csp_posts.specs.Posts.{PlainPost}
use Rattle.csp_scene.specs.Scene.{PlainScene}
use Rattle.csp_standing.specs.Shown as shown
use Rattle.csp_telling.specs.Remains.{AreLeftAt, IsInboxLeft, IsLaneLeft, IsPoolLeft, PlainRemains, kept_at, kept_by, kept_from, put_at, put_from, taken_at, taken_from}
use Rattle.csp_topology.specs.declared.wire.Wire.{Wire}

-- the ends of lanes that posts have
abbrev pub sides_of : List PlainPost → List (List PlainSide)
sides_of posts = map (λ (s : PlainPost). s.ends.sides) posts

-- what was left in a lane
lane_left : (posts : List PlainPost) (node number : ℕ) (left : List ItemShown) → IsLeftAmong (sides_of posts) node number left → IsLaneLeft posts node number left
lane_left posts node number left h =
    let (s, at_s, is_s) = made_from (λ (s : PlainPost). s.ends.sides) posts h.i h.xs h.first in
    let (t, at_t, is_t) = made_from (λ (s : PlainPost). s.ends.sides) posts h.j h.ys h.second in
    record {
      i = h.i;
      j = h.j;
      s = s;
      t = t;
      x = h.x;
      y = h.y;
      joined = record {
        first = at_s;
        second = at_t;
        apart = h.apart;
        a = h.a;
        b = h.b;
        from = ap (λ (l : List PlainSide). slice_get l h.a) is_s ∙ h.from;
        to = ap (λ (l : List PlainSide). slice_get l h.b) is_t ∙ h.to;
        puts = h.puts;
        gets = h.gets;
        node = h.y_node ∙ sym h.x_node;
        lane = h.y_lane ∙ sym h.x_lane;
      };
      node_is = h.x_node;
      lane_is = h.x_lane;
      kept = h.kept;
      carried = h.carried;
      heeded = h.heeded;
    }

lanes_left : (posts : List PlainPost) (node number : ℕ) (lefts : List (List ItemShown)) → AreLeftAmong (sides_of posts) node number lefts → (k : ℕ) (left : List ItemShown) → slice_get lefts k ≡ Some left
    → IsLaneLeft posts node (number + k) left
lanes_left posts node number [] h k left e = absurd cc
lanes_left posts node number (x ∷ lefts) h zero left e =
    let same : number ≡ number + 0 = omega arith in
    subst (λ (n : ℕ). IsLaneLeft posts node n left) same (subst (IsLaneLeft posts node number) (same_Some x left e) (lane_left posts node number x h.0))
lanes_left posts node number (x ∷ lefts) h (suc k) left e =
    let same : number + 1 + k ≡ number + suc k = omega arith in
    subst (λ (n : ℕ). IsLaneLeft posts node n left) same (lanes_left posts node (number + 1) lefts h.1 k left e)

-- what the parties of a node have in hand, with their joined passes
pub record IsJoined (posts : List PlainPost) (q : PlainNodeQueues) (node : ℕ) (v : Passes) : Type 0 where
  pub home : PlainHome
  pub pass : inbox.PlainPass
  pub others : List PlainHome
  pub inbox : home.inbox ≡ Some pass
  pub whole : homes_at node (homes_of posts) ≡ home ∷ others
  pub each : AllByRecursion (IsOther q) others
  pub is : v ≡ all_joined (record { pool = home.pool; inbox = pass }) others

-- the passes that were gathered are those
abbrev first_passes : PlainHome → inbox.PlainPass → Passes
first_passes g x = record { pool = g.pool; inbox = x }

gathered_is : (posts : List PlainPost) (q : PlainNodeQueues) (node : ℕ) (g : PlainHome) (x : inbox.PlainPass) (others : List PlainHome) → homes_at node (homes_of posts) ≡ g ∷ others → g.inbox ≡ Some x
    → gathered (homes_at node (homes_of posts)) ≡ Some (all_joined (first_passes g x) others)
gathered_is posts q node g x others whole has = ap gathered whole ∙ ap (λ (o : Option Passes). option_map (λ (v : Passes). all_joined v others) o) (opened_with g x has)

-- a home of the node is the leader's, or that of another
own_or_other : (posts : List PlainPost) (q : PlainNodeQueues) (node : ℕ) (v : Passes) (j : IsJoined posts q node v) (i : ℕ) (s : PlainPost) (h : PlainHome) → slice_get posts i ≡ Some s → s.ends.home ≡ Some h → h.node ≡ node
    → (P : PlainHome → Type 0) → P j.home → AllByRecursion P j.others → P h
own_or_other posts q node v j i s h at its here P own others =
    let m = is_member node posts i s h at its here in
    let both : AllByRecursion P (j.home ∷ j.others) = (own, others) in
    all_at P (j.home ∷ j.others) m.place h both (ap (λ (hs : List PlainHome). slice_get hs m.place) (sym j.whole) ∙ m.at)

-- what all put into the pool and took
joined_put : (posts : List PlainPost) (q : PlainNodeQueues) (node : ℕ) (v : Passes) → IsJoined posts q node v → v.pool.hand.put ≡ put_at node posts
joined_put posts q node v j =
    ap (λ (w : Passes). w.pool.hand.put) j.is
    ∙ all_put (first_passes j.home j.pass) j.others
    ∙ ap (flat_map (λ (h : PlainHome). h.pool.hand.put)) (sym j.whole)
    ∙ sym (over_members (λ (h : PlainHome). h.pool.hand.put) put_from (λ h. refl) node posts)

joined_taken : (posts : List PlainPost) (q : PlainNodeQueues) (node : ℕ) (v : Passes) → IsJoined posts q node v → v.pool.hand.taken ≡ taken_at node posts
joined_taken posts q node v j =
    ap (λ (w : Passes). w.pool.hand.taken) j.is
    ∙ all_taken (first_passes j.home j.pass) j.others
    ∙ ap (flat_map (λ (h : PlainHome). h.pool.hand.taken)) (sym j.whole)
    ∙ sym (over_members (λ (h : PlainHome). h.pool.hand.taken) taken_from (λ h. refl) node posts)

-- how many
puts_long : (home : Option PlainHome) → between.pool_puts home ≡ length (put_from home)
puts_long None = refl
puts_long (Some h) = refl

takes_long : (home : Option PlainHome) → between.pool_takes home ≡ length (taken_from home)
takes_long None = refl
takes_long (Some h) = refl

count_puts : (node : ℕ) (posts : List PlainPost) → between.all_put node posts ≡ length (put_at node posts)
count_puts node posts = counts_members (λ (s : PlainPost). between.pool_puts s.ends.home) (λ (s : PlainPost). put_from s.ends.home) (λ s. puts_long s.ends.home) node posts

count_takes : (node : ℕ) (posts : List PlainPost) → between.all_taken node posts ≡ length (taken_at node posts)
count_takes node posts = counts_members (λ (s : PlainPost). between.pool_takes s.ends.home) (λ (s : PlainPost). taken_from s.ends.home) (λ s. takes_long s.ends.home) node posts

-- each floor is below that of all
joined_below : (posts : List PlainPost) (q : PlainNodeQueues) (node : ℕ) (v : Passes) → IsJoined posts q node v → (i : ℕ) (s : PlainPost) (h : PlainHome) → slice_get posts i ≡ Some s → s.ends.home ≡ Some h → h.node ≡ node → IsBelow v h
joined_below posts q node v j i s h at its here =
    let start = first_passes j.home j.pass in
    subst (λ (w : Passes). IsBelow w h) (sym j.is)
    (own_or_other posts q node v j i s h at its here (IsBelow (all_joined start j.others)) (floor_stays start j.others) (floors start j.others))

-- what was left in the pool
pool_left : (posts : List PlainPost) (q : PlainNodeQueues) (node : ℕ) (v : Passes) (left : List ℕ) → IsJoined posts q node v → Closes v.pool.hand left → IsPoolLeft posts node left
pool_left posts q node v left j c = record {
  whole = λ k.
      ap (times k) (sym (joined_put posts q node v j)) ∙ c.whole k ∙ ap (λ (ns : List ℕ). times k ns + times k left) (joined_taken posts q node v j);
  takes = λ i s h at its here.
      let below = (joined_below posts q node v j i s h at its here).1 in
      let reached = c.takes_reached in
      let long : length v.pool.hand.taken ≡ length (taken_at node posts) = ap (λ (ns : List ℕ). length ns) (joined_taken posts q node v j) in
      let count = count_takes node posts in
      omega (arith, below, reached, long, count);
  puts = λ i s h at its here.
      let below = (joined_below posts q node v j i s h at its here).0 in
      let reached = c.puts_reached in
      let long : length v.pool.hand.put ≡ length (put_at node posts) = ap (λ (ns : List ℕ). length ns) (joined_put posts q node v j) in
      let count = count_puts node posts in
      omega (arith, below, reached, long, count);
}

-- what all put into the inbox, of a priority
joined_kept : (p : Prio) (posts : List PlainPost) (q : PlainNodeQueues) (node : ℕ) (v : Passes) → IsJoined posts q node v → (inbox.mail_at v.inbox p).kept ≡ kept_at node p posts
joined_kept p posts q node v j =
    ap (λ (w : Passes). (inbox.mail_at w.inbox p).kept) j.is
    ∙ all_kept p (first_passes j.home j.pass) j.others
    ∙ ap (λ (o : Option inbox.PlainPass). kept_by p o ++ flat_map (λ (h : PlainHome). kept_by p h.inbox) j.others) (sym j.inbox)
    ∙ ap (flat_map (λ (h : PlainHome). kept_by p h.inbox)) (sym j.whole)
    ∙ sym (over_members (λ (h : PlainHome). kept_by p h.inbox) (kept_from p) (λ h. refl) node posts)

kept_long : (p : Prio) (home : Option PlainHome) → shown.kept_by p home ≡ length (kept_from p home)
kept_long p None = refl
kept_long p (Some h) = by h.inbox where
  by : (o : Option inbox.PlainPass) → shown.kept_in p o ≡ length (kept_by p o)
  by None = refl
  by (Some x) = refl

count_kept : (p : Prio) (node : ℕ) (posts : List PlainPost) → shown.all_kept node p posts ≡ length (kept_at node p posts)
count_kept p node posts = counts_members (λ (s : PlainPost). shown.kept_by p s.ends.home) (λ (s : PlainPost). kept_from p s.ends.home) (λ s. kept_long p s.ends.home) node posts

joined_got : (p : Prio) (posts : List PlainPost) (q : PlainNodeQueues) (node : ℕ) (v : Passes) (j : IsJoined posts q node v) → (inbox.mail_at v.inbox p).got ≡ (inbox.mail_at j.pass p).got
joined_got p posts q node v j = ap (λ (w : Passes). (inbox.mail_at w.inbox p).got) j.is ∙ all_got p (first_passes j.home j.pass) j.others

joined_mail_below : (p : Prio) (posts : List PlainPost) (q : PlainNodeQueues) (node : ℕ) (v : Passes) → IsJoined posts q node v → (i : ℕ) (s : PlainPost) (h : PlainHome) → slice_get posts i ≡ Some s → s.ends.home ≡ Some h → h.node ≡ node
    → IsMailBelow p v.inbox h
joined_mail_below p posts q node v j i s h at its here =
    let start = first_passes j.home j.pass in
    subst (λ (w : Passes). IsMailBelow p w.inbox h) (sym j.is)
    (own_or_other posts q node v j i s h at its here (IsMailBelow p (all_joined start j.others).inbox)
    (subst (λ o. IfSome o (λ y. (inbox.mail_at y p).puts_floor ≤ (inbox.mail_at (all_joined start j.others).inbox p).puts_floor)) (sym j.inbox) (mail_floor_stays p start j.others))
    (mail_floors p start j.others))

-- the one pass that reads is the leader's
abbrev IsReader : inbox.PlainPass → PlainHome → Type 0
IsReader x h = IfSome h.inbox (λ y. y.role.reads ≡ true → y ≡ x)

others_read : (q : PlainNodeQueues) (x : inbox.PlainPass) (hs : List PlainHome) → AllByRecursion (IsOther q) hs → AllByRecursion (IsReader x) hs
others_read q x [] h = tt
others_read q x (g ∷ hs) h = (by g.inbox h.0.join.inbox, others_read q x hs h.1) where
  by : (o : Option inbox.PlainPass) → IfSome o (λ y. inbox.IsPassOf q.inbox y × (y.role.reads ≡ false)) → IfSome o (λ y. y.role.reads ≡ true → y ≡ x)
  by None f = tt
  by (Some y) f = λ reads. absurd (true≢false (sym reads ∙ f.1))

reader : (posts : List PlainPost) (q : PlainNodeQueues) (node : ℕ) (v : Passes) (j : IsJoined posts q node v) (i : ℕ) (s : PlainPost) (h : PlainHome) (x : inbox.PlainPass) → slice_get posts i ≡ Some s → s.ends.home ≡ Some h → h.node ≡ node
    → h.inbox ≡ Some x → x.role.reads ≡ true → x ≡ j.pass
reader posts q node v j i s h x at its here has reads =
    let own : IsReader j.pass j.home = subst (λ o. IfSome o (λ y. y.role.reads ≡ true → y ≡ j.pass)) (sym j.inbox) (λ r. refl) in
    let so = own_or_other posts q node v j i s h at its here (IsReader j.pass) own (others_read q j.pass j.others j.each) in
    (subst (λ o. IfSome o (λ y. y.role.reads ≡ true → y ≡ j.pass)) has so) reads

inbox_left : (posts : List PlainPost) (q : PlainNodeQueues) (node room : ℕ) (p : Prio) (v : Passes) (left : List ItemShown) → IsJoined posts q node v → IsLeftAt room p (inbox.mail_at v.inbox p) left → IsInboxLeft posts node p left
inbox_left posts q node room p v left j c = record {
  sorted = λ i s h x at its here has reads m.
      ap (with_mark m) (sym (joined_kept p posts q node v j)) ∙ c.sorted m
      ∙ ap (λ (is : List ItemShown). with_mark m (is ++ left)) (joined_got p posts q node v j ∙ ap (λ (y : inbox.PlainPass). (inbox.mail_at y p).got) (sym (reader posts q node v j i s h x at its here has reads)));
  carried = c.carried;
  reached = λ i s h x at its here has.
      let below : (inbox.mail_at x p).puts_floor ≤ (inbox.mail_at v.inbox p).puts_floor = subst (λ o. IfSome o (λ y. (inbox.mail_at y p).puts_floor ≤ (inbox.mail_at v.inbox p).puts_floor)) has (joined_mail_below p posts q node v j i s h at its here) in
      let reached = c.reached in
      let long : length (inbox.mail_at v.inbox p).kept ≡ length (kept_at node p posts) = ap (λ (is : List ItemShown). length is) (joined_kept p posts q node v j) in
      let count = count_kept p node posts in
      omega (arith, below, reached, long, count);
}

-- what was left in the queues of a node
pub node_left : (scene : PlainScene) (posts : List PlainPost) (q : PlainNodeQueues) (node room : ℕ) (wires : List Wire) (homes : List (Option PlainHome)) (sides : List (List PlainSide)) (m : PlainRemains) → HasMet scene posts q node
    → homes_at node homes ≡ homes_at node (homes_of posts) → IsLater sides (sides_of posts) → IsLeftIn node room wires homes sides m → AreLeftAt posts node m
node_left scene posts q node room wires homes sides m met same later h =
    let start = first_passes met.home met.pass in
    let v = all_joined start met.split.others in
    let j : IsJoined posts q node v = record { home = met.home; pass = met.pass; others = met.split.others; inbox = met.inbox; whole = met.split.whole; each = met.split.each; is = refl } in
    let by : IsLeftBy room v m = subst (λ o. IsSomeAnd o (λ w. IsLeftBy room w m)) (ap gathered same ∙ gathered_is posts q node met.home met.pass met.split.others met.split.whole met.inbox) h.passes in
    record {
      lanes = λ k left at.
          let none : 0 + k ≡ k = omega arith in
          subst (λ (n : ℕ). IsLaneLeft posts node n left) none (lanes_left posts node 0 m.lanes (all_before sides (sides_of posts) node 0 m.lanes later h.lanes) k left at);
      inbox = λ p. inbox_left posts q node room p v (m.inbox p) j (by.inbox p);
      pool = pool_left posts q node v m.pool j by.pool;
    }

-- and in those of each
pub nodes_left : (scene : PlainScene) (posts : List PlainPost) (node : ℕ) (queues : List PlainNodeQueues) (wires : List (List Wire)) (homes : List (Option PlainHome)) (sides : List (List PlainSide)) (all : List PlainRemains)
    → ((j : ℕ) (q : PlainNodeQueues) → slice_get queues j ≡ Some q → HasMet scene posts q (node + j)) → ((j : ℕ) → homes_at (node + j) homes ≡ homes_at (node + j) (homes_of posts)) → IsLater sides (sides_of posts)
    → AreLeftIn node queues wires homes sides all → (k : ℕ) (m : PlainRemains) → slice_get all k ≡ Some m → AreLeftAt posts (node + k) m
nodes_left scene posts node [] [] homes sides [] met same later h k m e = absurd cc
nodes_left scene posts node (q ∷ queues) (ws ∷ wires) homes sides (x ∷ all) met same later h zero m e =
    let none : node ≡ node + 0 = omega arith in
    let here : HasMet scene posts q node = subst (HasMet scene posts q) (sym none) (met 0 q refl) in
    let alike : homes_at node homes ≡ homes_at node (homes_of posts) = subst (λ (n : ℕ). homes_at n homes ≡ homes_at n (homes_of posts)) (sym none) (same 0) in
    subst (λ (n : ℕ). AreLeftAt posts n m) none (subst (AreLeftAt posts node) (same_Some x m e) (node_left scene posts q node q.inbox.room ws homes sides x here alike later h.0))
nodes_left scene posts node (q ∷ queues) (ws ∷ wires) homes sides (x ∷ all) met same later h (suc k) m e =
    let next : (j : ℕ) → node + suc j ≡ node + 1 + j = λ j. omega arith in
    subst (λ (n : ℕ). AreLeftAt posts n m) (sym (next k))
    (nodes_left scene posts (node + 1) queues wires (map (without_home node) homes) (without_all ws sides) all
    (λ j p at. subst (HasMet scene posts p) (next j) (met (suc j) p at))
    (λ j. stay_at node (node + 1 + j) homes (λ f. omega (arith, f)) ∙ subst (λ (n : ℕ). homes_at n homes ≡ homes_at n (homes_of posts)) (next j) (same (suc j)))
    (both_sides (all_later ws sides) later) h.1 k m e)
  where
    both_sides : IsLater (without_all ws sides) sides → IsLater sides (sides_of posts) → IsLater (without_all ws sides) (sides_of posts)
    both_sides f g = both_later (without_all ws sides) sides (sides_of posts) f g
nodes_left scene posts node [] (ws ∷ wires) homes sides all met same later h k m e = absurd h
nodes_left scene posts node [] [] homes sides (x ∷ all) met same later h k m e = absurd h
nodes_left scene posts node (q ∷ queues) [] homes sides all met same later h k m e = absurd h
nodes_left scene posts node (q ∷ queues) (ws ∷ wires) homes sides [] met same later h k m e = absurd h
