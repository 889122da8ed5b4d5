-- After a meeting of all parties, twice over, each knows what the others did.
use Rattle.std.proofs.Common.{◌≡◌, ◌≤◌, ◌<◌, ◌+◌, ◌==◌, ℕ, zero, suc, Bool, true, false, true≢false, List, [], ◌∷◌, Option, None, Some, length, map, refl, sym, ap, ◌∙◌, subst, arith}
use Rattle.std.specs.Prelude.{◌≢◌, IfSome, slice_get, if◌then◌else◌}
use Rattle.std.specs.List.{AllByRecursion, AllZip}
use Rattle.std.proofs.Math.Logic.{⊎_elim}
use Rattle.std.proofs.Math.Nat.{eq-or-lt_of_le, le-max_right}
use Rattle.std.proofs.lemmas.Bool.{cases_order, eq-eqb, eqb-true}
use Rattle.std.proofs.lemmas.Option.{same_Some}
use Rattle.csp_base.specs.declared.priority.Prio.{Prio}
use Rattle.csp_ends.specs.Ends.{PlainSide, PlainHome}
use Rattle.csp_inbox.specs.Marks.{with_mark}
use Rattle.csp_inbox.specs.Passes.{PlainPass as Post, mail_at, known_of}
use Rattle.csp_meeting.specs.Meeting.{HasToldAll, HaveMetHomes, HaveMetInboxes, HaveMetLanes, HaveMetSides, KnowsMoreHome, KnowsMoreHomes, KnowsMoreInbox, leads, reads_inbox}
use Rattle.csp_pool.specs.Tallies.{Tally, accounted, known_total}
use Rattle.csp_posts.specs.Between.{AreJoined, HaveMet, HaveMetAt, HaveMetInbox, ShareInbox, all_put, all_taken, is_home, over_home, pool_puts, pool_takes}
use Rattle.csp_posts.specs.Books.{AnswersForItself, AreInBooks, HasBooks, IsMarked}
use Rattle.csp_posts.specs.Meetings.{AllPairs, HasMet, HaveMetPosts, Informs, IsInformed, KnowsOf, LeaderKnows, all_puts_for, all_takes_for, puts_for, takes_for}
use Rattle.csp_posts.specs.Posts.{PlainPost}
use Rattle.csp_posts.specs.Seen.{SeenPost}
use Rattle.csp_posts.proofs.Sweeping.{leaders_stay, over_cons, reads_stay}

-- the parties as definitions of rounds see them
abbrev pub plains : List SeenPost → List PlainPost
plains posts = map (λ (s : SeenPost). s.plain) posts

all_at : {A : Type 0} → (P : A → Type 0) (ys : List A) (k : ℕ) (z : A) → AllByRecursion P ys → slice_get ys k ≡ Some z → P z
all_at P (b ∷ ys) zero z g e = subst P (same_Some b z e) g.0
all_at P (b ∷ ys) (suc k) z g e = all_at P ys k z g.1 e
all_at P [] k z g e = absurd cc

-- any two of the list, in their order
pair_at : {A : Type 0} → (R : A → A → Type 0) (xs : List A) (i j : ℕ) (x y : A) → AllPairs R xs → i < j → slice_get xs i ≡ Some x → slice_get xs j ≡ Some y → R x y
pair_at R (a ∷ xs) zero (suc j) x y h lt at_x at_y = subst (λ z. R z y) (same_Some a x at_x) (all_at (R a) xs j y h.0 at_y)
pair_at R (a ∷ xs) (suc i) (suc j) x y h lt at_x at_y = pair_at R xs i j x y h.1 (omega (arith, lt)) at_x at_y
pair_at R (a ∷ xs) zero zero x y h lt at_x at_y = absurd (omega (arith, lt))
pair_at R (a ∷ xs) (suc i) zero x y h lt at_x at_y = absurd (omega (arith, lt))
pair_at R [] i j x y h lt at_x at_y = absurd cc

-- who stands among them
seen_at : (posts : List SeenPost) (i : ℕ) (s : PlainPost) → slice_get (plains posts) i ≡ Some s → (x : SeenPost) × (slice_get posts i ≡ Some x) × (x.plain ≡ s)
seen_at (x ∷ posts) zero s e = (x, refl, same_Some x.plain s e)
seen_at (x ∷ posts) (suc i) s e = seen_at posts i s e
seen_at [] i s e = absurd cc

plain_at : (posts : List SeenPost) (i : ℕ) (x : SeenPost) → slice_get posts i ≡ Some x → slice_get (plains posts) i ≡ Some x.plain
plain_at (y ∷ posts) zero x e = ap (λ (s : SeenPost). Some s.plain) (same_Some y x e)
plain_at (y ∷ posts) (suc i) x e = plain_at posts i x e
plain_at [] i x e = absurd cc

pub zip_at : {A B : Type 0} → (R : A → B → Type 0) (xs : List A) (ys : List B) (k : ℕ) (y : B) → AllZip R xs ys → slice_get ys k ≡ Some y → (x : A) × (slice_get xs k ≡ Some x) × R x y
zip_at R (x ∷ xs) (z ∷ ys) zero y m e = (x, refl, subst (R x) (same_Some z y e) m.0)
zip_at R (x ∷ xs) (z ∷ ys) (suc k) y m e = zip_at R xs ys k y m.1 e
zip_at R [] [] k y m e = absurd cc
zip_at R [] (z ∷ ys) k y m e = absurd m
zip_at R (x ∷ xs) [] k y m e = absurd m

pub zip_from : {A B : Type 0} → (R : A → B → Type 0) (xs : List A) (ys : List B) (k : ℕ) (x : A) → AllZip R xs ys → slice_get xs k ≡ Some x → (y : B) × (slice_get ys k ≡ Some y) × R x y
zip_from R (w ∷ xs) (y ∷ ys) zero x m e = (y, refl, subst (λ z. R z y) (same_Some w x e) m.0)
zip_from R (w ∷ xs) (y ∷ ys) (suc k) x m e = zip_from R xs ys k x m.1 e
zip_from R [] [] k x m e = absurd cc
zip_from R [] (y ∷ ys) k x m e = absurd m
zip_from R (w ∷ xs) [] k x m e = absurd m

-- what stands on the other side, where there is something on one
pub before_some : {X : Type 0} (R : Option X → Option X → Type 0) → ((k : X) → R None (Some k) → ⊥) → (g h : Option X) (k : X) → R g h → h ≡ Some k → (j : X) × (g ≡ Some j) × R (Some j) (Some k)
before_some R none (Some g) h k m e = (g, refl, subst (R (Some g)) e m)
before_some R none None h k m e = absurd (none k (subst (R None) e m))

pub after_some : {X : Type 0} (R : Option X → Option X → Type 0) → ((k : X) → R (Some k) None → ⊥) → (g h : Option X) (j : X) → R g h → g ≡ Some j → (k : X) × (h ≡ Some k) × R (Some j) (Some k)
after_some R none g (Some h) j m e = (h, refl, subst (λ o. R o (Some h)) e m)
after_some R none g None j m e = absurd (none j (subst (λ o. R o None) e m))

-- a home before a meeting, and after it
home_from : (g h : Option PlainHome) (k : PlainHome) → KnowsMoreHomes g h → h ≡ Some k → (j : PlainHome) × (g ≡ Some j) × KnowsMoreHome j k
home_from = before_some KnowsMoreHomes (λ k m. m)

home_to : (g h : Option PlainHome) (j : PlainHome) → KnowsMoreHomes g h → g ≡ Some j → (k : PlainHome) × (h ≡ Some k) × KnowsMoreHome j k
home_to = after_some KnowsMoreHomes (λ k m. m)

leads_still : (g h : PlainHome) → KnowsMoreHome g h → leads h ≡ leads g
leads_still g h m = reads_stay g.inbox h.inbox m.inbox

-- what a list adds up to stays where each party's part does
over_still : (node : ℕ) (f : Option PlainHome → ℕ) (xs ys : List SeenPost) → ((g h : PlainHome) → KnowsMoreHome g h → f (Some h) ≡ f (Some g)) → AllZip HasMet xs ys
    → over_home node (λ (s : PlainPost). f s.ends.home) (plains ys) ≡ over_home node (λ (s : PlainPost). f s.ends.home) (plains xs)
over_still node f [] [] same m = refl
over_still node f (x ∷ xs) (y ∷ ys) same m =
    let count : PlainPost → ℕ = λ s. f s.ends.home in
    over_cons node count y.plain (plains ys)
    ∙ (λ i. part x.plain.ends.home y.plain.ends.home m.0.ends.home i + over_still node f xs ys same m.1 i)
    ∙ sym (over_cons node count x.plain (plains xs)) where
      part : (g h : Option PlainHome) → KnowsMoreHomes g h → (if is_home node h then f h else 0) ≡ (if is_home node g then f g else 0)
      part None None k = refl
      part (Some g) (Some h) k = λ i. if (k.node i == node) then same g h k i else 0
      part None (Some h) k = absurd k
      part (Some g) None k = absurd k
over_still node f [] (y ∷ ys) same m = absurd m
over_still node f (x ∷ xs) [] same m = absurd m

puts_still : (node : ℕ) (xs ys : List SeenPost) → AllZip HasMet xs ys → all_put node (plains ys) ≡ all_put node (plains xs)
puts_still node xs ys m = over_still node pool_puts xs ys (λ g h k. ap length k.pool.did.0) m

takes_still : (node : ℕ) (xs ys : List SeenPost) → AllZip HasMet xs ys → all_taken node (plains ys) ≡ all_taken node (plains xs)
takes_still node xs ys m = over_still node pool_takes xs ys (λ g h k. ap length k.pool.did.1) m

-- a party keeps its books in a meeting
books_at : (g h : PlainHome) → KnowsMoreHome g h → HasBooks g → HasBooks h
books_at g h m b = record {
  itself = record {
    puts = λ f. (m.itself (sym (leads_still g h m) ∙ f)).0 ∙ b.itself.puts (sym (leads_still g h m) ∙ f);
    takes = λ f. (m.itself (sym (leads_still g h m) ∙ f)).1 ∙ b.itself.takes (sym (leads_still g h m) ∙ f);
  };
  marked = marks g.inbox h.inbox m.inbox b.marked;
} where
  marks : (x y : Option Post) → KnowsMoreInbox x y → IfSome x IsMarked → IfSome y IsMarked
  marks None None k h = h
  marks (Some x) (Some y) k h = λ p. (λ i. with_mark (k.role i).mark ((k.mail p).kept i)) ∙ h p ∙ sym (k.mail p).kept
  marks None (Some y) k h = absurd k
  marks (Some x) None k h = absurd k

books_of : (xs ys : List SeenPost) → AllZip HasMet xs ys → AllByRecursion (λ (s : PlainPost). IfSome s.ends.home HasBooks) (plains xs) → AllByRecursion (λ (s : PlainPost). IfSome s.ends.home HasBooks) (plains ys)
books_of [] [] m b = tt
books_of (x ∷ xs) (y ∷ ys) m b = (one x.plain.ends.home y.plain.ends.home m.0.ends.home b.0, books_of xs ys m.1 b.1) where
  one : (g h : Option PlainHome) → KnowsMoreHomes g h → IfSome g HasBooks → IfSome h HasBooks
  one None None k h = h
  one (Some g) (Some h) k b = books_at g h k b
  one None (Some h) k b = absurd k
  one (Some g) None k b = absurd k
books_of [] (y ∷ ys) m b = absurd m
books_of (x ∷ xs) [] m b = absurd m

-- what is known of the home of one that stands after a meeting, before it
record Before (xs : List SeenPost) (k : ℕ) (h : PlainHome) : Type 0 where
  post : SeenPost
  there : slice_get xs k ≡ Some post
  home : PlainHome
  its : post.plain.ends.home ≡ Some home
  same : KnowsMoreHome home h

before : (xs ys : List SeenPost) (k : ℕ) (s : PlainPost) (h : PlainHome) → AllZip HasMet xs ys → slice_get (plains ys) k ≡ Some s → s.ends.home ≡ Some h → Before xs k h
before xs ys k s h m at its =
    let y = seen_at ys k s at in
    let x = zip_at HasMet xs ys k y.0 m y.1 in
    let g = home_from x.0.plain.ends.home y.0.plain.ends.home h x.2.ends.home (ap (λ (p : PlainPost). p.ends.home) y.2 ∙ its) in
    record { post = x.0; there = x.1; home = g.0; its = g.1; same = g.2 }

pub books_stay : (xs ys : List SeenPost) → AllZip HasMet xs ys
    → ((node : ℕ) → (all_puts_for node (plains ys) ≡ all_puts_for node (plains xs)) × (all_takes_for node (plains ys) ≡ all_takes_for node (plains xs)))
    → AreInBooks (plains xs) → AreInBooks (plains ys)
books_stay xs ys m counts b = record {
  puts = λ node. (counts node).0 ∙ b.puts node ∙ sym (puts_still node xs ys m);
  takes = λ node. (counts node).1 ∙ b.takes node ∙ sym (takes_still node xs ys m);
  each = books_of xs ys m b.each;
  led = λ j s h at its.
      let x = before xs ys j s h m at its in
      let l = b.led j x.post.plain x.home (plain_at xs j x.post x.there) x.its in
      let r = seen_at xs l.at l.leader l.there in
      let y = zip_from HasMet xs ys l.at r.0 m r.1 in
      let k = home_to r.0.plain.ends.home y.0.plain.ends.home l.home y.2.ends.home (ap (λ (p : PlainPost). p.ends.home) r.2 ∙ l.its) in
      record { at = l.at; leader = y.0.plain; home = k.0; there = plain_at ys l.at y.0 y.1; its = k.1; node = k.2.node ∙ l.node ∙ sym x.same.node; leads = leads_still l.home k.0 k.2 ∙ l.leads };
  first = λ i j r s g h at_i at_j its_r its_s node lead.
      let x = before xs ys i r g m at_i its_r in
      let y = before xs ys j s h m at_j its_s in
      b.first i j x.post.plain y.post.plain x.home y.home (plain_at xs i x.post x.there) (plain_at xs j y.post y.there) x.its y.its (sym y.same.node ∙ node ∙ x.same.node) (sym (leads_still x.home g x.same) ∙ lead);
}

-- the leader of a node answers for all that its parties did, once they have told it
abbrev Tells : (Option PlainHome → ℕ) → Type 0
Tells f = (h : PlainHome) → HasToldAll h.pool.hand → AnswersForItself h → leads h ≡ false → f (Some h) ≡ 0

nothing_of : (node : ℕ) (f : Option PlainHome → ℕ) → Tells f → (g : PlainHome) → g.node ≡ node → leads g ≡ true → (h : Option PlainHome)
    → HaveMetHomes (Some g) h → IfSome h HasBooks → ((k : PlainHome) → h ≡ Some k → k.node ≡ node → leads k ≡ true → ⊥) → (if is_home node h then f h else 0) ≡ 0
nothing_of node f tells g here lead None met b alone = refl
nothing_of node f tells g here lead (Some k) met b alone = by (k.node == node) (leads k) refl refl where
  by : (c d : Bool) → (k.node == node) ≡ c → leads k ≡ d → (if c then f (Some k) else 0) ≡ 0
  by false d e l = refl
  by true true e l = absurd (alone k refl (eqb-true k.node node e) l)
  by true false e l = tells k (met (here ∙ sym (eqb-true k.node node e)) lead).told b.itself l

nothing_else : (node : ℕ) (f : Option PlainHome → ℕ) → Tells f → (r : SeenPost) (g : PlainHome) → r.plain.ends.home ≡ Some g → g.node ≡ node → leads g ≡ true → (posts : List SeenPost)
    → AllByRecursion (HaveMetPosts r) posts → AllByRecursion (λ (s : PlainPost). IfSome s.ends.home HasBooks) (plains posts)
    → ((j : ℕ) (s : SeenPost) (h : PlainHome) → slice_get posts j ≡ Some s → s.plain.ends.home ≡ Some h → h.node ≡ node → leads h ≡ true → ⊥)
    → over_home node (λ (s : PlainPost). f s.ends.home) (plains posts) ≡ 0
nothing_else node f tells r g its here lead [] met b alone = refl
nothing_else node f tells r g its here lead (s ∷ posts) met b alone =
    let count : PlainPost → ℕ = λ x. f x.ends.home in
    let one = nothing_of node f tells g here lead s.plain.ends.home (subst (λ h. HaveMetHomes h s.plain.ends.home) its met.0.homes) b.0 (λ k e. alone 0 s k refl e) in
    let rest = nothing_else node f tells r g its here lead posts met.1 b.1 (λ j. alone (suc j)) in
    let all = over_cons node count s.plain (plains posts) in
    all ∙ (λ i. one i + rest i)

pub all_told : (node : ℕ) (f : Option PlainHome → ℕ) → Tells f → (posts : List SeenPost) (i : ℕ) (r : SeenPost) (g : PlainHome) → slice_get posts i ≡ Some r → r.plain.ends.home ≡ Some g → g.node ≡ node → leads g ≡ true
    → AllPairs HaveMetPosts posts → AllByRecursion (λ (s : PlainPost). IfSome s.ends.home HasBooks) (plains posts)
    → ((j : ℕ) (s : SeenPost) (h : PlainHome) → slice_get posts j ≡ Some s → s.plain.ends.home ≡ Some h → h.node ≡ node → i ≤ j)
    → ((j : ℕ) (s : SeenPost) (h : PlainHome) → slice_get posts j ≡ Some s → s.plain.ends.home ≡ Some h → h.node ≡ node → leads h ≡ true → j ≤ i)
    → over_home node (λ (s : PlainPost). f s.ends.home) (plains posts) ≡ f (Some g)
all_told node f tells [] i r g at its here lead met b first last = absurd cc
all_told node f tells (s ∷ posts) zero r g at its here lead met b first last =
    let count : PlainPost → ℕ = λ x. f x.ends.home in
    let same : s ≡ r = same_Some s r at in
    let rest = nothing_else node f tells s g (ap (λ (x : SeenPost). x.plain.ends.home) same ∙ its) here lead posts met.0 b.1 (λ j t h e k n l. let bound = last (suc j) t h e k n l in omega (arith, bound)) in
    let home : s.plain.ends.home ≡ Some g = ap (λ (x : SeenPost). x.plain.ends.home) same ∙ its in
    over_cons node count s.plain (plains posts) ∙ (λ k. (if is_home node (home k) then f (home k) else 0) + rest k) ∙ (rw (eq-eqb g.node node here) (omega arith))
all_told node f tells (s ∷ posts) (suc i) r g at its here lead met b first last =
    let count : PlainPost → ℕ = λ x. f x.ends.home in
    let rest = all_told node f tells posts i r g at its here lead met.1 b.1 (λ j t h e k n. let bound = first (suc j) t h e k n in omega (arith, bound)) (λ j t h e k n l. let bound = last (suc j) t h e k n l in omega (arith, bound)) in
    over_cons node count s.plain (plains posts) ∙ (λ k. absent s.plain.ends.home (λ h e n. let bound = first 0 s h refl e n in omega (arith, bound)) k + rest k) ∙ none_more (f (Some g)) where
      none_more : (n : ℕ) → 0 + n ≡ n
      none_more n = omega arith

      absent : (h : Option PlainHome) → ((k : PlainHome) → h ≡ Some k → k.node ≡ node → ⊥) → (if is_home node h then f h else 0) ≡ 0
      absent None away = refl
      absent (Some k) away = by (k.node == node) refl where
        by : (c : Bool) → (k.node == node) ≡ c → (if c then f (Some k) else 0) ≡ 0
        by false e = refl
        by true e = absurd (away k refl (eqb-true k.node node e))

puts_told : Tells puts_for
puts_told h told itself follows = λ i. itself.puts follows i + told.0 i

takes_told : Tells takes_for
takes_told h told itself follows = λ i. itself.takes follows i + told.1 i

knows_own : (t : Tally) → accounted t ≤ known_total t
knows_own t = le-max_right t.known (accounted t)

-- so each leader knows of all puts and takes of its node
pub leaders_know : (posts : List SeenPost) → AllPairs HaveMetPosts posts → AreInBooks (plains posts)
    → AllByRecursion (LeaderKnows (λ node. all_put node (plains posts)) (λ node. all_taken node (plains posts))) posts
leaders_know posts met b = all_from posts posts (λ j s e. knows j s s.plain.ends.home e refl) where
  all_from : (all rest : List SeenPost) → ((j : ℕ) (s : SeenPost) → slice_get rest j ≡ Some s → LeaderKnows (λ node. all_put node (plains all)) (λ node. all_taken node (plains all)) s)
      → AllByRecursion (LeaderKnows (λ node. all_put node (plains all)) (λ node. all_taken node (plains all))) rest
  all_from all [] h = tt
  all_from all (s ∷ rest) h = (h 0 s refl, all_from all rest (λ j. h (suc j)))

  knows : (i : ℕ) (r : SeenPost) (home : Option PlainHome) → slice_get posts i ≡ Some r → r.plain.ends.home ≡ home → IfSome home (λ h. leads h ≡ true → KnowsOf (λ node. all_put node (plains posts)) (λ node. all_taken node (plains posts)) h)
  knows i r None at its = tt
  knows i r (Some g) at its = λ lead.
      let first : (j : ℕ) (s : SeenPost) (h : PlainHome) → slice_get posts j ≡ Some s → s.plain.ends.home ≡ Some h → h.node ≡ g.node → i ≤ j = λ j s h e k n. b.first i j r.plain s.plain g h (plain_at posts i r at) (plain_at posts j s e) its k n lead in
      let last : (j : ℕ) (s : SeenPost) (h : PlainHome) → slice_get posts j ≡ Some s → s.plain.ends.home ≡ Some h → h.node ≡ g.node → leads h ≡ true → j ≤ i = λ j s h e k n l. b.first j i s.plain r.plain h g (plain_at posts j s e) (plain_at posts i r at) k its (sym n) l in
      let puts = all_told g.node puts_for puts_told posts i r g at its refl lead met b.each first last in
      let takes = all_told g.node takes_for takes_told posts i r g at its refl lead met b.each first last in
      record {
        puts = subst (λ n. n ≤ known_total g.pool.hand.puts) (sym puts ∙ b.puts g.node) (knows_own g.pool.hand.puts);
        takes = subst (λ n. n ≤ known_total g.pool.hand.takes) (sym takes ∙ b.takes g.node) (knows_own g.pool.hand.takes);
      }

-- after the second sweep each party knows what the others did
lane_at : (xs ys : List PlainSide) (a b : ℕ) (x y : PlainSide) → HaveMetLanes xs ys → slice_get xs a ≡ Some x → slice_get ys b ≡ Some y → HaveMetSides x y
lane_at xs ys a b x y h at_x at_y = all_at (HaveMetSides x) ys b y (all_at (λ z. AllByRecursion (HaveMetSides z) ys) xs a x h at_x) at_y

ends_met : (posts : List SeenPost) → AllPairs HaveMetPosts posts → (i j : ℕ) (s t : PlainPost) → i < j → slice_get (plains posts) i ≡ Some s → slice_get (plains posts) j ≡ Some t → HaveMetLanes s.ends.sides t.ends.sides × HaveMetHomes s.ends.home t.ends.home
ends_met posts met i j s t lt at_s at_t =
    let x = seen_at posts i s at_s in
    let y = seen_at posts j t at_t in
    let m = pair_at HaveMetPosts posts i j x.0 y.0 met lt x.1 y.1 in (
      subst (λ (p : PlainPost). HaveMetLanes p.ends.sides t.ends.sides) x.2 (subst (λ (p : PlainPost). HaveMetLanes x.0.plain.ends.sides p.ends.sides) y.2 m.lanes),
      subst (λ (p : PlainPost). HaveMetHomes p.ends.home t.ends.home) x.2 (subst (λ (p : PlainPost). HaveMetHomes x.0.plain.ends.home p.ends.home) y.2 m.homes),
    )

joined_met : (s t : PlainPost) (x y : PlainSide) (a b : ℕ) → HaveMetLanes s.ends.sides t.ends.sides → slice_get s.ends.sides a ≡ Some x → slice_get t.ends.sides b ≡ Some y → y.node ≡ x.node → y.lane ≡ x.lane → x.puts ≢ y.puts → HaveMetAt x y
joined_met s t x y a b m at_x at_y node lane apart =
    let h = lane_at s.ends.sides t.ends.sides a b x y m at_x at_y (sym node) (sym lane) apart in
    record { puts = h.0; gets = h.1 }

lanes_met : (posts : List SeenPost) → AllPairs HaveMetPosts posts → (i j : ℕ) (s t : PlainPost) (x y : PlainSide) → AreJoined (plains posts) i j s x t y → HaveMetAt x y
lanes_met posts met i j s t x y joined =
    let apart : x.puts ≢ y.puts = λ e. true≢false (sym joined.puts ∙ e ∙ joined.gets) in
    ⊎_elim
    (λ lt. joined_met s t x y joined.a joined.b (ends_met posts met i j s t lt joined.first joined.second).0 joined.from joined.to joined.node joined.lane apart)
    (λ lt.
    let h = joined_met t s y x joined.b joined.a (ends_met posts met j i t s lt joined.second joined.first).0 joined.to joined.from (sym joined.node) (sym joined.lane) (λ e. apart (sym e)) in
    record { puts = h.gets; gets = h.puts })
    (⊎_elim (λ e. absurd (joined.apart e)) (λ o. o) (cases_order i j))

-- what a pass put is what it put under its mark
own_mark : (x : Post) → IsMarked x → (p : Prio) → length (with_mark x.role.mark (mail_at x p).kept) ≡ length (mail_at x p).kept
own_mark x marked p = ap length (marked p)

own_met : (x : Post) (p : Prio) → IsMarked x → HaveMetInbox x x p
own_met x p marked = record {
  puts = le-max_right (known_of (mail_at x p).known x.role.mark) (length (with_mark x.role.mark (mail_at x p).kept));
  gets = le-max_right (mail_at x p).known_got (length (mail_at x p).got);
}

marked_at : (posts : List SeenPost) → AreInBooks (plains posts) → (j : ℕ) (s : PlainPost) (h : PlainHome) (y : Post) → slice_get (plains posts) j ≡ Some s → s.ends.home ≡ Some h → h.inbox ≡ Some y → IsMarked y
marked_at posts b j s h y at its inbox =
    let books = all_at (λ (t : PlainPost). IfSome t.ends.home HasBooks) (plains posts) j s b.each at in
    let home = subst (λ o. IfSome o HasBooks) its books in
    subst (λ o. IfSome o IsMarked) inbox home.marked

inboxes_met : (posts : List SeenPost) → AllPairs HaveMetPosts posts → AreInBooks (plains posts)
    → (i j : ℕ) (hub s : PlainPost) (x y : Post) (p : Prio) → ShareInbox (plains posts) i j hub x s y → HaveMetInbox x y p
inboxes_met posts met b i j hub s x y p share =
    let lead : leads share.g ≡ true = ap reads_inbox share.hub_pass ∙ share.reads in
    let le = b.first i j hub s share.g share.h share.first share.second share.hub_home share.home share.node lead in
    let marked = marked_at posts b j s share.h y share.second share.home share.pass in
    ⊎_elim
    (λ same.
    let one : Some hub ≡ Some s = sym share.first ∙ ap (λ k. slice_get (plains posts) k) same ∙ share.second in
    let home : Some share.g ≡ Some share.h = sym share.hub_home ∙ ap (λ (q : PlainPost). q.ends.home) (same_Some hub s one) ∙ share.home in
    let pass : Some x ≡ Some y = sym share.hub_pass ∙ ap (λ (g : PlainHome). g.inbox) (same_Some share.g share.h home) ∙ share.pass in
    subst (λ z. HaveMetInbox z y p) (sym (same_Some x y pass)) (own_met y p marked))
    (λ lt.
    let homes = (ends_met posts met i j hub s lt share.first share.second).1 in
    let here = subst (λ o. HaveMetHomes o (Some share.h)) share.hub_home (subst (λ o. HaveMetHomes hub.ends.home o) share.home homes) in
    let h = here (sym share.node) lead in
    let mails = subst (λ o. HaveMetInboxes o (Some y)) share.hub_pass (subst (λ o. HaveMetInboxes share.g.inbox o) share.pass h.inbox) in
    let mail = mails p in
    record { puts = mail.puts; gets = mail.gets })
    (eq-or-lt_of_le le)

-- a party that was informed, or leads its node, knows of all puts and takes
informed_at : (puts takes : ℕ → ℕ) (posts : List SeenPost) → AllPairs (Informs puts takes) posts → AllByRecursion (LeaderKnows puts takes) posts → AreInBooks (plains posts)
    → (i : ℕ) (s : PlainPost) (h : PlainHome) → slice_get (plains posts) i ≡ Some s → s.ends.home ≡ Some h → KnowsOf puts takes h
informed_at puts takes posts informed leaders b i s h at its =
    let l = b.led i s h at its in
    let le = b.first l.at i l.leader s l.home h l.there at l.its its (sym l.node) l.leads in
    let x = seen_at posts l.at l.leader l.there in
    let y = seen_at posts i s at in
    let home_x : x.0.plain.ends.home ≡ Some l.home = ap (λ (q : PlainPost). q.ends.home) x.2 ∙ l.its in
    let home_y : y.0.plain.ends.home ≡ Some h = ap (λ (q : PlainPost). q.ends.home) y.2 ∙ its in
    ⊎_elim
    (λ same.
    let one : Some l.leader ≡ Some s = sym l.there ∙ ap (λ k. slice_get (plains posts) k) same ∙ at in
    let home : Some l.home ≡ Some h = sym l.its ∙ ap (λ (q : PlainPost). q.ends.home) (same_Some l.leader s one) ∙ its in
    let known = subst (λ o. IfSome o (λ k. leads k ≡ true → KnowsOf puts takes k)) home_x (all_at (LeaderKnows puts takes) posts l.at x.0 leaders x.1) in
    subst (KnowsOf puts takes) (same_Some l.home h home) (known l.leads))
    (λ lt.
    let told = pair_at (Informs puts takes) posts l.at i x.0 y.0 informed lt x.1 y.1 in
    let here = subst (λ o. IsInformed puts takes o (Some h)) home_x (subst (λ o. IsInformed puts takes x.0.plain.ends.home o) home_y told) in
    here l.node l.leads)
    (eq-or-lt_of_le le)

pub all_met : (mid after : List SeenPost) → AllZip HasMet mid after → AllPairs HaveMetPosts mid → AreInBooks (plains mid) → AllPairs HaveMetPosts after → AreInBooks (plains after)
    → ((puts takes : ℕ → ℕ) → AllByRecursion (LeaderKnows puts takes) mid → AllPairs (Informs puts takes) after) → HaveMet (plains after)
all_met mid after heard met_mid books_mid met books informs =
    let puts : ℕ → ℕ = λ node. all_put node (plains mid) in
    let takes : ℕ → ℕ = λ node. all_taken node (plains mid) in
    let leaders = leaders_know mid met_mid books_mid in
    let still = leaders_stay puts takes mid after heard leaders in
    record {
      lanes = lanes_met after met;
      inboxes = inboxes_met after met books;
      pools = λ i s h at its.
          let known = informed_at puts takes after (informs puts takes leaders) still books i s h at its in
          record {
            puts = subst (λ n. n ≤ known_total h.pool.hand.puts) (sym (puts_still h.node mid after heard)) known.puts;
            takes = subst (λ n. n ≤ known_total h.pool.hand.takes) (sym (takes_still h.node mid after heard)) known.takes;
          };
    }
