-- What went through the lanes of a node: what was put is what was got and what was left.
use Rattle.std.proofs.Common.{◌≡◌, ◌≢◌, ◌+◌, ◌<◌, ◌≤◌, ◌==◌, ℕ, suc, Bool, true, false, List, [], ◌∷◌, Some, length, refl, sym, ap, ◌∙◌, subst, arith}
use Rattle.std.specs.Prelude.{if◌then◌else◌, slice_get}
use Rattle.std.specs.List.{flat_map, sum_by}
use Rattle.std.proofs.lemmas.Bool.{eq-eqb, eqb-true}
use Rattle.csp_deck.proofs.Public.{times-append}
use Rattle.csp_deck.specs.Step.{times}
use Rattle.csp_ends.specs.Ends.{PlainSide}
use Rattle.csp_lists.specs.PlainDeck.{numbers_of}
use Rattle.csp_log.specs.declared.shown.ItemShown.{ItemShown}
use Rattle.csp_posts.specs.Balance.{times_got, times_put}
use Rattle.csp_posts.specs.Between.{is_home, over_home}
use Rattle.csp_posts.specs.Posts.{PlainPost}
use Rattle.csp_telling.proofs.Marks.{among, among-append}
use Rattle.csp_telling.proofs.Sums.{sum_both, sum_none, sum_one, sum_same}
use Rattle.csp_telling.specs.Remains.{IsLaneLeft}

-- a number of an end, where it is of this lane of this node
abbrev at_lane : (node lane : ℕ) → PlainSide → ℕ → ℕ
at_lane node lane x n = (if x.node == node then (if x.lane == lane then n else 0) else 0)

-- where it is of a lane of as many as these, from this place on
at_lanes : (node first : ℕ) → List (List ItemShown) → PlainSide → ℕ → ℕ
at_lanes node first [] x n = 0
at_lanes node first (l ∷ ls) x n = at_lane node first x n + at_lanes node (first + 1) ls x n

own_lane : (node lane : ℕ) (x : PlainSide) (n : ℕ) → x.node ≡ node → x.lane ≡ lane → at_lane node lane x n ≡ n
own_lane node lane x n e f = ap (λ (b : Bool). if b then (if x.lane == lane then n else 0) else 0) (eq-eqb x.node node e) ∙ ap (λ (b : Bool). if b then n else 0) (eq-eqb x.lane lane f)

no_lane : (node lane : ℕ) (x : PlainSide) (n : ℕ) → (x.node ≡ node → x.lane ≡ lane → n ≡ 0) → at_lane node lane x n ≡ 0
no_lane node lane x n none = by (x.node == node) refl (x.lane == lane) refl where
  by : (b : Bool) → (x.node == node) ≡ b → (c : Bool) → (x.lane == lane) ≡ c → (if b then (if c then n else 0) else 0) ≡ 0
  by true e true f = none (eqb-true x.node node e) (eqb-true x.lane lane f)
  by true e false f = refl
  by false e c f = refl

-- an end of a lane before all of these
past_lanes : (node first : ℕ) (ls : List (List ItemShown)) (x : PlainSide) (n : ℕ) → x.lane < first → at_lanes node first ls x n ≡ 0
unfolding at_lanes
past_lanes node first [] x n h = refl
past_lanes node first (l ∷ ls) x n h =
    let one = no_lane node first x n (λ e f. absurd (omega (arith, h, f))) in
    let rest = past_lanes node (first + 1) ls x n (omega (arith, h)) in
    omega (arith, one, rest)

-- one of a lane among these
own_lanes : (node first : ℕ) (ls : List (List ItemShown)) (x : PlainSide) (n : ℕ) → x.node ≡ node → first ≤ x.lane → x.lane < first + length ls → at_lanes node first ls x n ≡ n
unfolding at_lanes
own_lanes node first [] x n e low high = absurd (omega (arith, low, high))
own_lanes node first (l ∷ ls) x n e low high = by (x.lane == first) refl (λ apart. own_lanes node (first + 1) ls x n e (omega (arith, low, apart)) (omega (arith, high))) where
  elsewhere : (c : Bool) → c ≡ false → c ≡ true → ⊥
  elsewhere true g h = absurd cc
  elsewhere false g h = absurd cc

  by : (b : Bool) → (x.lane == first) ≡ b → (x.lane ≢ first → at_lanes node (first + 1) ls x n ≡ n) → at_lane node first x n + at_lanes node (first + 1) ls x n ≡ n
  by true f later =
      let here = eqb-true x.lane first f in
      let one = own_lane node first x n e here in
      let rest = past_lanes node (first + 1) ls x n (omega (arith, here)) in
      omega (arith, one, rest)
  by false f later =
      let apart : x.lane ≢ first = λ here. elsewhere (x.lane == first) f (eq-eqb x.lane first here) in
      let one = no_lane node first x n (λ _ here. absurd (apart here)) in
      let rest = later apart in
      omega (arith, one, rest)

-- nothing that an end has at the node
no_lanes : (node first : ℕ) (ls : List (List ItemShown)) (x : PlainSide) (n : ℕ) → (x.node ≡ node → n ≡ 0) → at_lanes node first ls x n ≡ 0
unfolding at_lanes
no_lanes node first [] x n none = refl
no_lanes node first (l ∷ ls) x n none =
    let one = no_lane node first x n (λ e _. none e) in
    let rest = no_lanes node (first + 1) ls x n none in
    omega (arith, one, rest)

-- a number of each end of all parties, added up
abbrev over_sides : (PlainSide → ℕ) → List PlainPost → ℕ
over_sides f posts = sum_by (λ (s : PlainPost). sum_by f s.ends.sides) posts

sides_both : (f g : PlainSide → ℕ) (posts : List PlainPost) → over_sides (λ x. f x + g x) posts ≡ over_sides f posts + over_sides g posts
sides_both f g posts =
    sum_same (λ (s : PlainPost). sum_by (λ x. f x + g x) s.ends.sides) (λ (s : PlainPost). sum_by f s.ends.sides + sum_by g s.ends.sides) posts (λ k s at. sum_both f g s.ends.sides)
    ∙ sum_both (λ (s : PlainPost). sum_by f s.ends.sides) (λ (s : PlainPost). sum_by g s.ends.sides) posts

-- two ends of one lane by which parties put, or two by which they get, are one end of one party
unfoldable pub AreAlone : List PlainPost → Type 0
AreAlone posts = (i j a b : ℕ) (s t : PlainPost) (x y : PlainSide) → slice_get posts i ≡ Some s → slice_get posts j ≡ Some t → slice_get s.ends.sides a ≡ Some x → slice_get t.ends.sides b ≡ Some y → x.node ≡ y.node → x.lane ≡ y.lane
    → x.puts ≡ y.puts → (i ≡ j) × (a ≡ b)

-- what ends of a lane have, of which only those of this way have anything, is what the one end has
lane_one : (way : Bool) (f : PlainSide → ℕ) → ((y : PlainSide) → (y.puts ≡ way → f y ≡ 0) → f y ≡ 0) → (posts : List PlainPost) → AreAlone posts → (node lane i a : ℕ) (s : PlainPost) (x : PlainSide) → slice_get posts i ≡ Some s
    → slice_get s.ends.sides a ≡ Some x → x.puts ≡ way → x.node ≡ node → x.lane ≡ lane → over_sides (λ y. at_lane node lane y (f y)) posts ≡ f x
unfolding AreAlone
lane_one way f only posts alone node lane i a s x there at puts node_is lane_is =
    sum_one (λ (t : PlainPost). sum_by (λ y. at_lane node lane y (f y)) t.ends.sides) posts i s there
    (λ j t here apart. sum_none (λ y. at_lane node lane y (f y)) t.ends.sides
    (λ b y of_it. no_lane node lane y (f y) (λ e g. only y (λ same. absurd (apart (sym (alone i j a b s t x y there here at of_it (node_is ∙ sym e) (lane_is ∙ sym g) (puts ∙ sym same)).0))))))
    ∙ sum_one (λ y. at_lane node lane y (f y)) s.ends.sides a x at
    (λ b y of_it apart. no_lane node lane y (f y) (λ e g. only y (λ same. absurd (apart (sym (alone i i a b s s x y there there at of_it (node_is ∙ sym e) (lane_is ∙ sym g) (puts ∙ sym same)).1)))))
    ∙ own_lane node lane x (f x) node_is lane_is

put_only : (k : ℕ) (y : PlainSide) → (y.puts ≡ true → times_put k y ≡ 0) → times_put k y ≡ 0
put_only k y none = by y.puts refl where
  by : (b : Bool) → y.puts ≡ b → (if b then among k y.end.items else 0) ≡ 0
  by true e = sym (ap (λ (c : Bool). if c then among k y.end.items else 0) e) ∙ none e
  by false e = refl

got_only : (k : ℕ) (y : PlainSide) → (y.puts ≡ false → times_got k y ≡ 0) → times_got k y ≡ 0
got_only k y none = by y.puts refl where
  by : (b : Bool) → y.puts ≡ b → (if b then 0 else among k y.end.items) ≡ 0
  by true e = refl
  by false e = sym (ap (λ (c : Bool). if c then 0 else among k y.end.items) e) ∙ none e

-- of one lane, what was put is what was got and what was left
left_moved : (k : ℕ) (posts : List PlainPost) (node lane : ℕ) (left : List ItemShown) (l : IsLaneLeft posts node lane left) → times_put k l.x ≡ times_got k l.y + among k left
left_moved k posts node lane left l =
    ap (λ (b : Bool). if b then among k l.x.end.items else 0) l.joined.puts
    ∙ ap (among k) (sym l.kept.order)
    ∙ among-append k l.y.end.items left
    ∙ ap (λ n. n + among k left) (sym (ap (λ (b : Bool). if b then 0 else among k l.y.end.items) l.joined.gets))

lanes_moved : (k : ℕ) (posts : List PlainPost) → AreAlone posts → (node first : ℕ) (lefts : List (List ItemShown)) → ((p : ℕ) (left : List ItemShown) → slice_get lefts p ≡ Some left → IsLaneLeft posts node (first + p) left)
    → over_sides (λ x. at_lanes node first lefts x (times_put k x)) posts ≡ over_sides (λ x. at_lanes node first lefts x (times_got k x)) posts + times k (flat_map numbers_of lefts)
unfolding at_lanes
lanes_moved k posts alone node first [] here = omega arith
lanes_moved k posts alone node first (left ∷ lefts) here =
    let l = here 0 left refl in
    let is : l.x.lane ≡ first = l.lane_is ∙ omega arith in
    let put = lane_one true (times_put k) (put_only k) posts alone node first l.i l.joined.a l.s l.x l.joined.first l.joined.from l.joined.puts l.node_is is in
    let got = lane_one false (times_got k) (got_only k) posts alone node first l.j l.joined.b l.t l.y l.joined.second l.joined.to l.joined.gets (l.joined.node ∙ l.node_is) (l.joined.lane ∙ is) in
    joined _ _ _ _ _ _ _ _ _ _ _
    (sides_both (λ x. at_lane node first x (times_put k x)) (λ x. at_lanes node (first + 1) lefts x (times_put k x)) posts)
    (sides_both (λ x. at_lane node first x (times_got k x)) (λ x. at_lanes node (first + 1) lefts x (times_got k x)) posts)
    put got
    (left_moved k posts node (first + 0) left l)
    (times-append k (numbers_of left) (flat_map numbers_of lefts))
    (lanes_moved k posts alone node (first + 1) lefts (λ p rest at. subst (λ n. IsLaneLeft posts node n rest) (omega arith) (here (suc p) rest at)))
  where
    joined : (puts gets put got p g more all other u v : ℕ) → puts ≡ put + u → gets ≡ got + v → put ≡ p → got ≡ g → p ≡ g + more → all ≡ more + other → u ≡ v + other → puts ≡ gets + all
    joined puts gets put got p g more all other u v a b c d e f h = omega (arith, a, b, c, d, e, f, h)

-- the ends of the parties of a node are those of its lanes; no other party has an end there through which a buffer went
pub record AreHome (posts : List PlainPost) (node count : ℕ) : Type 0 where
  pub own : (i a : ℕ) (s : PlainPost) (x : PlainSide) → slice_get posts i ≡ Some s → slice_get s.ends.sides a ≡ Some x → is_home node s.ends.home ≡ true → (x.node ≡ node) × (x.lane < count)
  pub others : (i a : ℕ) (s : PlainPost) (x : PlainSide) → slice_get posts i ≡ Some s → slice_get s.ends.sides a ≡ Some x → is_home node s.ends.home ≡ false → x.node ≡ node → numbers_of x.end.items ≡ []

-- what the ends of a node's parties have is what all ends of its lanes have
sides_home : (f : PlainSide → ℕ) → ((x : PlainSide) → numbers_of x.end.items ≡ [] → f x ≡ 0) → (posts : List PlainPost) (node : ℕ) (lefts : List (List ItemShown)) → AreHome posts node (length lefts)
    → over_home node (λ s. sum_by f s.ends.sides) posts ≡ over_sides (λ x. at_lanes node 0 lefts x (f x)) posts
sides_home f none posts node lefts home =
    sum_same (λ (s : PlainPost). if is_home node s.ends.home then sum_by f s.ends.sides else 0) (λ (s : PlainPost). sum_by (λ x. at_lanes node 0 lefts x (f x)) s.ends.sides) posts (λ i s there. by i s there (is_home node s.ends.home) refl)
  where
    by : (i : ℕ) (s : PlainPost) → slice_get posts i ≡ Some s → (b : Bool) → is_home node s.ends.home ≡ b → (if b then sum_by f s.ends.sides else 0) ≡ sum_by (λ x. at_lanes node 0 lefts x (f x)) s.ends.sides
    by i s there true e =
        sum_same f (λ x. at_lanes node 0 lefts x (f x)) s.ends.sides
        (λ a x at. let own = home.own i a s x there at e in sym (own_lanes node 0 lefts x (f x) own.0 (omega arith) (omega (arith, own.1))))
    by i s there false e =
        sym (sum_none (λ x. at_lanes node 0 lefts x (f x)) s.ends.sides (λ a x at. no_lanes node 0 lefts x (f x) (λ here. none x (home.others i a s x there at e here))))

put_none : (k : ℕ) (x : PlainSide) → numbers_of x.end.items ≡ [] → times_put k x ≡ 0
put_none k x e = ap (λ (ns : List ℕ). if x.puts then times k ns else 0) e ∙ by x.puts where
  by : (b : Bool) → (if b then times k [] else 0) ≡ 0
  by true = refl
  by false = refl

got_none : (k : ℕ) (x : PlainSide) → numbers_of x.end.items ≡ [] → times_got k x ≡ 0
got_none k x e = ap (λ (ns : List ℕ). if x.puts then 0 else times k ns) e ∙ by x.puts where
  by : (b : Bool) → (if b then 0 else times k []) ≡ 0
  by true = refl
  by false = refl

pub all_moved : (k : ℕ) (posts : List PlainPost) (node : ℕ) (lefts : List (List ItemShown)) → AreAlone posts → AreHome posts node (length lefts) → ((p : ℕ) (left : List ItemShown) → slice_get lefts p ≡ Some left → IsLaneLeft posts node p left)
    → over_home node (λ s. sum_by (times_put k) s.ends.sides) posts ≡ over_home node (λ s. sum_by (times_got k) s.ends.sides) posts + times k (flat_map numbers_of lefts)
all_moved k posts node lefts alone home here =
    sides_home (times_put k) (put_none k) posts node lefts home
    ∙ lanes_moved k posts alone node 0 lefts (λ p left at. subst (λ n. IsLaneLeft posts node n left) (omega arith) (here p left at))
    ∙ ap (λ n. n + times k (flat_map numbers_of lefts)) (sym (sides_home (times_got k) (got_none k) posts node lefts home))
