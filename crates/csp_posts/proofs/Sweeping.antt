-- What parties keep while others meet.
use Rattle.std.proofs.Common.{◌≡◌, ◌≤◌, ◌+◌, ◌==◌, ℕ, Bool, true, false, List, [], ◌∷◌, Option, None, Some, length, refl, sym, ap, ◌∙◌, subst, le_trans, arith}
use Rattle.std.specs.Prelude.{IfSome, if◌then◌else◌}
use Rattle.std.specs.List.{AllByRecursion, AllZip}
use Rattle.std.proofs.lemmas.Bool.{eqb-true}
use Rattle.std.proofs.lemmas.List.Sums.{sum_by-cons}
use Rattle.csp_ends.specs.Ends.{PlainNodeQueues, PlainSide, PlainHome, PlainEnds, AreOf}
use Rattle.csp_inbox.specs.Marks.{with_mark}
use Rattle.csp_inbox.specs.Passes.{PlainPass as Post, mail_at, known_gets, known_puts}
use Rattle.csp_lane.specs.Ends.{PlainEnd}
use Rattle.csp_log.specs.declared.shown.ItemShown.{ItemShown}
use Rattle.csp_meeting.specs.Meeting.{HaveMetHomes, HaveMetInboxes, HaveMetLanes, HaveMetSides, KeepCounts, KeepCountsAt, KeepCountsBy, KnowsMore, KnowsMoreAt, KnowsMoreHome, KnowsMoreHomes, KnowsMoreInbox, leads, reads_inbox}
use Rattle.csp_meeting.specs.Meeting as ends
use Rattle.csp_pool.specs.Tallies.{known_total}
use Rattle.csp_posts.specs.Between.{is_home, over_home}
use Rattle.csp_posts.specs.Meetings.{HasMet, HaveMetPosts, Informs, IsInformed, KnowsOf, LeaderKnows, puts_for, takes_for}
use Rattle.csp_posts.specs.Posts.{PlainPost}
use Rattle.csp_posts.specs.Seen.{SeenPost}

-- one meeting after the other
pub met_none : ((d : PlainEnds) → KnowsMore d d) → (s : SeenPost) → HasMet s s
met_none none s = record { who = refl; party = refl; entries = refl; ends = none s.plain.ends; spare = refl; room = refl }

pub met_both : ((c d e : PlainEnds) → KnowsMore c d → KnowsMore d e → KnowsMore c e) → (s t u : SeenPost) → HasMet s t → HasMet t u → HasMet s u
met_both both s t u f g = record { who = g.who ∙ f.who; party = g.party ∙ f.party; entries = g.entries ∙ f.entries; ends = both _ _ _ f.ends g.ends; spare = g.spare ∙ f.spare; room = g.room ∙ f.room }

pub all_none : ((d : PlainEnds) → KnowsMore d d) → (xs : List SeenPost) → AllZip HasMet xs xs
all_none none [] = tt
all_none none (x ∷ xs) = (met_none none x, all_none none xs)

pub all_both : ((c d e : PlainEnds) → KnowsMore c d → KnowsMore d e → KnowsMore c e) → (xs ys zs : List SeenPost) → AllZip HasMet xs ys → AllZip HasMet ys zs → AllZip HasMet xs zs
all_both both [] [] [] f g = tt
all_both both (x ∷ xs) (y ∷ ys) (z ∷ zs) f g = (met_both both x y z f.0 g.0, all_both both xs ys zs f.1 g.1)
all_both both [] [] (z ∷ zs) f g = absurd g
all_both both [] (y ∷ ys) zs f g = absurd f
all_both both (x ∷ xs) [] zs f g = absurd f
all_both both (x ∷ xs) (y ∷ ys) [] f g = absurd g

-- they stay of the queues that they were of
pub all_of : (nodes : List PlainNodeQueues) → ((d e : PlainEnds) → KnowsMore d e → AreOf nodes d → AreOf nodes e) → (xs ys : List SeenPost) → AllZip HasMet xs ys
    → AllByRecursion (λ (s : SeenPost). AreOf nodes s.plain.ends) xs → AllByRecursion (λ (s : SeenPost). AreOf nodes s.plain.ends) ys
all_of nodes keeps [] [] f h = tt
all_of nodes keeps (x ∷ xs) (y ∷ ys) f h = (keeps _ _ f.0.ends h.0, all_of nodes keeps xs ys f.1 h.1)
all_of nodes keeps [] (y ∷ ys) f h = absurd f
all_of nodes keeps (x ∷ xs) [] f h = absurd f

-- who has met has met still, when both know more
sides_stay : (w x y z : PlainSide) → KnowsMoreAt w x → KnowsMoreAt y z → HaveMetSides w y → HaveMetSides x z
sides_stay w x y z f g h node lane puts =
    let m = h (sym f.node ∙ node ∙ g.node) (sym f.lane ∙ lane ∙ g.lane) (λ e. puts (f.puts ∙ e ∙ sym g.puts)) in
    let items_x : x.end.items ≡ w.end.items = ap (λ (e : PlainEnd). e.items) f.end in
    let items_z : z.end.items ≡ y.end.items = ap (λ (e : PlainEnd). e.items) g.end in
    (subst (λ (l : List ItemShown). length l ≤ z.end.known) (sym items_x) (le_trans m.0 g.known), subst (λ (l : List ItemShown). length l ≤ x.end.known) (sym items_z) (le_trans m.1 f.known))

each_side_stays : (w x : PlainSide) (ys zs : List PlainSide) → KnowsMoreAt w x → AllZip KnowsMoreAt ys zs → AllByRecursion (HaveMetSides w) ys → AllByRecursion (HaveMetSides x) zs
each_side_stays w x [] [] f g h = tt
each_side_stays w x (y ∷ ys) (z ∷ zs) f g h = (sides_stay w x y z f g.0 h.0, each_side_stays w x ys zs f g.1 h.1)
each_side_stays w x [] (z ∷ zs) f g h = absurd g
each_side_stays w x (y ∷ ys) [] f g h = absurd g

lanes_stay : (ws xs ys zs : List PlainSide) → AllZip KnowsMoreAt ws xs → AllZip KnowsMoreAt ys zs → HaveMetLanes ws ys → HaveMetLanes xs zs
lanes_stay [] [] ys zs f g h = tt
lanes_stay (w ∷ ws) (x ∷ xs) ys zs f g h = (each_side_stays w x ys zs f.0 g h.0, lanes_stay ws xs ys zs f.1 g h.1)
lanes_stay [] (x ∷ xs) ys zs f g h = absurd f
lanes_stay (w ∷ ws) [] ys zs f g h = absurd f

inboxes_stay : (w x y z : Option Post) → KnowsMoreInbox w x → KnowsMoreInbox y z → HaveMetInboxes w y → HaveMetInboxes x z
inboxes_stay (Some w) (Some x) (Some y) (Some z) f g h = λ p.
    let m = h p in
    let mark : z.role.mark ≡ y.role.mark = ap (λ r. r.mark) g.role in
    record {
      puts = subst (λ n. length (with_mark n (mail_at z p).kept) ≤ known_puts (mail_at x p) n) (sym mark)
          (subst (λ l. length (with_mark y.role.mark l) ≤ known_puts (mail_at x p) y.role.mark) (sym (g.mail p).kept) (le_trans m.puts ((f.mail p).puts y.role.mark)));
      gets = le_trans (subst (λ l. length l ≤ known_gets (mail_at y p)) (sym (f.mail p).got) m.gets) (g.mail p).gets;
    }
inboxes_stay None None y z f g h = tt
inboxes_stay (Some w) (Some x) None None f g h = tt
inboxes_stay None (Some x) y z f g h = absurd f
inboxes_stay (Some w) None y z f g h = absurd f
inboxes_stay (Some w) (Some x) None (Some z) f g h = absurd g
inboxes_stay (Some w) (Some x) (Some y) None f g h = absurd g

pub reads_stay : (x y : Option Post) → KnowsMoreInbox x y → reads_inbox y ≡ reads_inbox x
reads_stay None None f = refl
reads_stay (Some x) (Some y) f = ap (λ r. r.reads) f.role
reads_stay None (Some y) f = absurd f
reads_stay (Some x) None f = absurd f

homes_stay : (w x y z : Option PlainHome) → KnowsMoreHomes w x → KnowsMoreHomes y z → HaveMetHomes w y → HaveMetHomes x z
homes_stay (Some w) (Some x) (Some y) (Some z) f g h = λ node lead.
    let m = h (sym f.node ∙ node ∙ g.node) (sym (reads_stay w.inbox x.inbox f.inbox) ∙ lead) in
    record {
      inbox = inboxes_stay w.inbox x.inbox y.inbox z.inbox f.inbox g.inbox m.inbox;
      told = (none z.pool.hand.puts.untold y.pool.hand.puts.untold g.pool.puts.untold m.told.0, none z.pool.hand.takes.untold y.pool.hand.takes.untold g.pool.takes.untold m.told.1);
    } where
      none : (a b : ℕ) → a ≤ b → b ≡ 0 → a ≡ 0
      none a b l e = omega (arith, l, e)
homes_stay None None y z f g h = tt
homes_stay (Some w) (Some x) None None f g h = tt
homes_stay None (Some x) y z f g h = absurd f
homes_stay (Some w) None y z f g h = absurd f
homes_stay (Some w) (Some x) None (Some z) f g h = absurd g
homes_stay (Some w) (Some x) (Some y) None f g h = absurd g

pub ends_stay : (s t u v : SeenPost) → HasMet s t → HasMet u v → HaveMetPosts s u → HaveMetPosts t v
ends_stay s t u v f g h = record { lanes = lanes_stay _ _ _ _ f.ends.sides g.ends.sides h.lanes; homes = homes_stay _ _ _ _ f.ends.home g.ends.home h.homes }

pub each_stays : (s t : SeenPost) (us vs : List SeenPost) → HasMet s t → AllZip HasMet us vs → AllByRecursion (HaveMetPosts s) us → AllByRecursion (HaveMetPosts t) vs
each_stays s t [] [] f g h = tt
each_stays s t (u ∷ us) (v ∷ vs) f g h = (ends_stay s t u v f g.0 h.0, each_stays s t us vs f g.1 h.1)
each_stays s t [] (v ∷ vs) f g h = absurd g
each_stays s t (u ∷ us) [] f g h = absurd g

-- who knew of so many puts and takes knows of them still
knows_stay : (puts takes : ℕ → ℕ) (g h : PlainHome) → KnowsMoreHome g h → KnowsOf puts takes g → KnowsOf puts takes h
knows_stay puts takes g h f k = record {
  puts = subst (λ n. puts n ≤ known_total h.pool.hand.puts) (sym f.node) (le_trans k.puts f.pool.puts.known);
  takes = subst (λ n. takes n ≤ known_total h.pool.hand.takes) (sym f.node) (le_trans k.takes f.pool.takes.known);
}

pub leader_stays : (puts takes : ℕ → ℕ) (s t : SeenPost) → HasMet s t → LeaderKnows puts takes s → LeaderKnows puts takes t
leader_stays puts takes s t f h = by s.plain.ends.home t.plain.ends.home f.ends.home h where
  by : (x y : Option PlainHome) → KnowsMoreHomes x y → IfSome x (λ k. leads k ≡ true → KnowsOf puts takes k) → IfSome y (λ k. leads k ≡ true → KnowsOf puts takes k)
  by None None g k = k
  by (Some x) (Some y) g k = λ lead. knows_stay puts takes x y g (k (sym (reads_stay x.inbox y.inbox g.inbox) ∙ lead))
  by None (Some y) g k = absurd g
  by (Some x) None g k = absurd g

pub leaders_stay : (puts takes : ℕ → ℕ) (us vs : List SeenPost) → AllZip HasMet us vs → AllByRecursion (LeaderKnows puts takes) us → AllByRecursion (LeaderKnows puts takes) vs
leaders_stay puts takes [] [] g h = tt
leaders_stay puts takes (u ∷ us) (v ∷ vs) g h = (leader_stays puts takes u v g.0 h.0, leaders_stay puts takes us vs g.1 h.1)
leaders_stay puts takes [] (v ∷ vs) g h = absurd g
leaders_stay puts takes (u ∷ us) [] g h = absurd g

-- who was informed is so still
pub informed_stays : (puts takes : ℕ → ℕ) (s t u v : SeenPost) → HasMet s t → HasMet u v → Informs puts takes s u → Informs puts takes t v
informed_stays puts takes s t u v f g h = by s.plain.ends.home t.plain.ends.home u.plain.ends.home v.plain.ends.home f.ends.home g.ends.home h where
  by : (w x y z : Option PlainHome) → KnowsMoreHomes w x → KnowsMoreHomes y z → IsInformed puts takes w y → IsInformed puts takes x z
  by (Some w) (Some x) (Some y) (Some z) f g h = λ node lead. knows_stay puts takes y z g (h (sym f.node ∙ node ∙ g.node) (sym (reads_stay w.inbox x.inbox f.inbox) ∙ lead))
  by None None y z f g h = tt
  by (Some w) (Some x) None None f g h = tt
  by None (Some x) y z f g h = absurd f
  by (Some w) None y z f g h = absurd f
  by (Some w) (Some x) None (Some z) f g h = absurd g
  by (Some w) (Some x) (Some y) None f g h = absurd g

pub each_informed : (puts takes : ℕ → ℕ) (s t : SeenPost) (us vs : List SeenPost) → HasMet s t → AllZip HasMet us vs → AllByRecursion (Informs puts takes s) us → AllByRecursion (Informs puts takes t) vs
each_informed puts takes s t [] [] f g h = tt
each_informed puts takes s t (u ∷ us) (v ∷ vs) f g h = (informed_stays puts takes s t u v f g.0 h.0, each_informed puts takes s t us vs f g.1 h.1)
each_informed puts takes s t [] (v ∷ vs) f g h = absurd g
each_informed puts takes s t (u ∷ us) [] f g h = absurd g

-- a leader that knew of so many lets the other know
pub is_informed : (puts takes : ℕ → ℕ) (s t u v : SeenPost) → HasMet s t → HasMet u v → ends.Informs s.plain.ends.home v.plain.ends.home → LeaderKnows puts takes s → Informs puts takes t v
is_informed puts takes s t u v f g h k = by s.plain.ends.home t.plain.ends.home v.plain.ends.home f.ends.home h k where
  by : (w x z : Option PlainHome) → KnowsMoreHomes w x → ends.Informs w z → IfSome w (λ l. leads l ≡ true → KnowsOf puts takes l) → IsInformed puts takes x z
  by (Some w) (Some x) (Some z) f h k = λ node lead.
      let here : w.node ≡ z.node = sym f.node ∙ node in
      let led : leads w ≡ true = sym (reads_stay w.inbox x.inbox f.inbox) ∙ lead in
      let all = h here led in
      let known = k led in
      record { puts = subst (λ n. puts n ≤ known_total z.pool.hand.puts) here (le_trans known.puts all.0); takes = subst (λ n. takes n ≤ known_total z.pool.hand.takes) here (le_trans known.takes all.1) }
  by None None z f h k = tt
  by (Some w) (Some x) None f h k = tt
  by None (Some x) z f h k = absurd f
  by (Some w) None z f h k = absurd f

-- for how much the parties of a node answer together
pub over_cons : (node : ℕ) (f : PlainPost → ℕ) (s : PlainPost) (posts : List PlainPost) → over_home node f (s ∷ posts) ≡ (if is_home node s.ends.home then f s else 0) + over_home node f posts
over_cons node f s posts = sum_by-cons (λ (t : PlainPost). if is_home node t.ends.home then f t else 0) s posts

-- what a party of these passes of a node adds
abbrev adds : (Option PlainHome → ℕ) → ℕ → Option PlainHome → ℕ
adds f node h = (if is_home node h then f h else 0)

if_both : (b : Bool) (m n p q : ℕ) → m + n ≡ p + q → (if b then m else 0) + (if b then n else 0) ≡ (if b then p else 0) + (if b then q else 0)
if_both true m n p q e = e
if_both false m n p q e = refl

-- one of two that meet at a node answers for what the other told
at_home : (node a b : ℕ) (m n p q : ℕ) → b ≡ a → m + n ≡ p + q → (if a == node then m else 0) + (if b == node then n else 0) ≡ (if a == node then p else 0) + (if b == node then q else 0)
at_home node a b m n p q same e = rw same (if_both (a == node) m n p q e)

same_home : (f : Option PlainHome → ℕ) (node : ℕ) (g h i j : PlainHome) → i ≡ g → j ≡ h → adds f node (Some i) + adds f node (Some j) ≡ adds f node (Some g) + adds f node (Some h)
same_home f node g h i j e k = λ t. adds f node (Some (e t)) + adds f node (Some (k t))

met_puts : (node : ℕ) (g h i j : PlainHome) → KnowsMoreHome g i → KnowsMoreHome h j → g.node ≡ h.node → KeepCountsAt g h i j → adds puts_for node (Some i) + adds puts_for node (Some j) ≡ adds puts_for node (Some g) + adds puts_for node (Some h)
met_puts node g h i j f m same k =
    rw f.node (rw m.node (at_home node g.node h.node _ _ _ _ (sym same) k.puts))

met_takes : (node : ℕ) (g h i j : PlainHome) → KnowsMoreHome g i → KnowsMoreHome h j → g.node ≡ h.node → KeepCountsAt g h i j → adds takes_for node (Some i) + adds takes_for node (Some j) ≡ adds takes_for node (Some g) + adds takes_for node (Some h)
met_takes node g h i j f m same k =
    rw f.node (rw m.node (at_home node g.node h.node _ _ _ _ (sym same) k.takes))

-- what two parties answer for together stays in a meeting
abbrev Same : (Option PlainHome → ℕ) → ℕ → (g h i j : Option PlainHome) → Type 0
Same f node g h i j = adds f node i + adds f node j ≡ adds f node g + adds f node h

same_both : (f : Option PlainHome → ℕ) (node : ℕ) (g h i j : Option PlainHome) → i ≡ g → j ≡ h → Same f node g h i j
same_both f node g h i j e k = λ t. adds f node (e t) + adds f node (k t)

kept_by : (f : Option PlainHome → ℕ) (node : ℕ) (g h i j : PlainHome) (same lead : Bool)
    → (same ≡ true → KeepCountsAt g h i j → Same f node (Some g) (Some h) (Some i) (Some j)) → KeepCountsBy same lead g h i j → Same f node (Some g) (Some h) (Some i) (Some j)
kept_by f node g h i j true true at k = at refl k
kept_by f node g h i j true false at k = same_both f node (Some g) (Some h) (Some i) (Some j) (ap Some k.0) (ap Some k.1)
kept_by f node g h i j false lead at k = same_both f node (Some g) (Some h) (Some i) (Some j) (ap Some k.0) (ap Some k.1)

stay_by : (f : Option PlainHome → ℕ) (node : ℕ)
    → ((g h i j : PlainHome) → KnowsMoreHome g i → KnowsMoreHome h j → g.node ≡ h.node → KeepCountsAt g h i j → Same f node (Some g) (Some h) (Some i) (Some j))
    → (g h i j : Option PlainHome) → KnowsMoreHomes g i → KnowsMoreHomes h j → KeepCounts g h i j → Same f node g h i j
stay_by f node met (Some g) (Some h) (Some i) (Some j) more also k = kept_by f node g h i j (g.node == h.node) (leads g) (λ same at. met g h i j more also (eqb-true g.node h.node same) at) k
stay_by f node met None h i j more also k = by i h j more k where
  by : (i h j : Option PlainHome) → KnowsMoreHomes None i → KeepCounts None h i j → Same f node None h i j
  by None h j more k = same_both f node None h None j k.0 k.1
  by (Some i) h j more k = absurd more
stay_by f node met (Some g) None (Some i) None more also k = same_both f node (Some g) None (Some i) None k.0 k.1
stay_by f node met (Some g) None (Some i) (Some j) more also k = absurd also
stay_by f node met (Some g) h None j more also k = absurd more
stay_by f node met (Some g) (Some h) (Some i) None more also k = absurd also

pub puts_stay : (node : ℕ) (g h i j : Option PlainHome) → KnowsMoreHomes g i → KnowsMoreHomes h j → KeepCounts g h i j → Same puts_for node g h i j
puts_stay node = stay_by puts_for node (met_puts node)

pub takes_stay : (node : ℕ) (g h i j : Option PlainHome) → KnowsMoreHomes g i → KnowsMoreHomes h j → KeepCounts g h i j → Same takes_for node g h i j
takes_stay node = stay_by takes_for node (met_takes node)

-- and all together
pub two_then : (f : Option PlainHome → ℕ) (node : ℕ) (r s t u v : PlainPost) (posts after : List PlainPost)
    → Same f node r.ends.home u.ends.home s.ends.home v.ends.home
    → over_home node (λ (x : PlainPost). f x.ends.home) (t ∷ after) ≡ over_home node (λ (x : PlainPost). f x.ends.home) (s ∷ posts)
    → over_home node (λ (x : PlainPost). f x.ends.home) (t ∷ v ∷ after) ≡ over_home node (λ (x : PlainPost). f x.ends.home) (r ∷ u ∷ posts)
two_then f node r s t u v posts after met rest =
    let count : PlainPost → ℕ = λ x. f x.ends.home in
    let a = over_cons node count t (v ∷ after) in
    let b = over_cons node count v after in
    let c = over_cons node count t after in
    let d = over_cons node count s posts in
    let e = over_cons node count r (u ∷ posts) in
    let g = over_cons node count u posts in
    omega (arith, met, rest, a, b, c, d, e, g)

pub one_then : (f : Option PlainHome → ℕ) (node : ℕ) (s t : PlainPost) (posts more after : List PlainPost)
    → over_home node (λ (x : PlainPost). f x.ends.home) (t ∷ more) ≡ over_home node (λ (x : PlainPost). f x.ends.home) (s ∷ posts)
    → over_home node (λ (x : PlainPost). f x.ends.home) after ≡ over_home node (λ (x : PlainPost). f x.ends.home) more
    → over_home node (λ (x : PlainPost). f x.ends.home) (t ∷ after) ≡ over_home node (λ (x : PlainPost). f x.ends.home) (s ∷ posts)
one_then f node s t posts more after first rest =
    let count : PlainPost → ℕ = λ x. f x.ends.home in
    let a = over_cons node count t after in
    let b = over_cons node count t more in
    omega (arith, first, rest, a, b)
