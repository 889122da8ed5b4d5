-- Sums over the parties of a node.
use Rattle.std.proofs.Common.{◌≡◌, ◌≢◌, ◌+◌, ℕ, Bool, true, false, true≢false, List, [], ◌++◌, Option, None, Some, refl, sym, ap, ◌∙◌}
use Rattle.std.specs.Prelude.{if◌then◌else◌, slice_get}
use Rattle.std.specs.List.{flat_map}
use Rattle.std.proofs.lemmas.Bool.{eq-eqb, eqb-true}
use Rattle.csp_ends.specs.Ends.{PlainHome}
use Rattle.csp_posts.specs.Between.{is_home, over_home}
use Rattle.csp_posts.specs.Posts.{PlainPost}
use Rattle.csp_telling.proofs.Sums.{sum_both, sum_flat, sum_one, sum_same}

-- a party is of a node where its home is
pub home_is : (node : ℕ) (home : Option PlainHome) → is_home node home ≡ true → (h : PlainHome) × (home ≡ Some h) × (h.node ≡ node)
home_is node (Some h) e = (h, refl, eqb-true h.node node e)
home_is node None e = absurd (true≢false (sym e))

pub is_there : (node : ℕ) (home : Option PlainHome) (h : PlainHome) → home ≡ Some h → h.node ≡ node → is_home node home ≡ true
is_there node home h its at = ap (is_home node) its ∙ eq-eqb h.node node at

-- numbers that are the same for each party of a node add up to the same
pub home_same : (node : ℕ) (f g : PlainPost → ℕ) (posts : List PlainPost) → ((k : ℕ) (s : PlainPost) → slice_get posts k ≡ Some s → is_home node s.ends.home ≡ true → f s ≡ g s) → over_home node f posts ≡ over_home node g posts
home_same node f g posts same =
    sum_same (λ (s : PlainPost). if is_home node s.ends.home then f s else 0) (λ (s : PlainPost). if is_home node s.ends.home then g s else 0) posts (λ k s at. by k s at (is_home node s.ends.home) refl)
  where
    by : (k : ℕ) (s : PlainPost) → slice_get posts k ≡ Some s → (b : Bool) → is_home node s.ends.home ≡ b → (if b then f s else 0) ≡ (if b then g s else 0)
    by k s at true e = same k s at e
    by k s at false e = refl

-- two numbers of each
two : (b : Bool) (m n : ℕ) → (if b then m + n else 0) ≡ (if b then m else 0) + (if b then n else 0)
two true m n = refl
two false m n = refl

pub home_both : (node : ℕ) (f g : PlainPost → ℕ) (posts : List PlainPost) → over_home node (λ s. f s + g s) posts ≡ over_home node f posts + over_home node g posts
home_both node f g posts =
    sum_same (λ (s : PlainPost). if is_home node s.ends.home then f s + g s else 0) (λ (s : PlainPost). (if is_home node s.ends.home then f s else 0) + (if is_home node s.ends.home then g s else 0)) posts
    (λ k s at. two (is_home node s.ends.home) (f s) (g s))
    ∙ sum_both (λ (s : PlainPost). if is_home node s.ends.home then f s else 0) (λ (s : PlainPost). if is_home node s.ends.home then g s else 0) posts

-- a number that only one party of the node has
pub home_one : (node : ℕ) (f : PlainPost → ℕ) (posts : List PlainPost) (i : ℕ) (s : PlainPost) → slice_get posts i ≡ Some s → is_home node s.ends.home ≡ true
    → ((k : ℕ) (t : PlainPost) → slice_get posts k ≡ Some t → is_home node t.ends.home ≡ true → k ≢ i → f t ≡ 0) → over_home node f posts ≡ f s
home_one node f posts i s there here others =
    sum_one (λ (t : PlainPost). if is_home node t.ends.home then f t else 0) posts i s there (λ k t at apart. by k t at apart (is_home node t.ends.home) refl)
    ∙ ap (λ (b : Bool). if b then f s else 0) here
  where
    by : (k : ℕ) (t : PlainPost) → slice_get posts k ≡ Some t → k ≢ i → (b : Bool) → is_home node t.ends.home ≡ b → (if b then f t else 0) ≡ 0
    by k t at apart true e = others k t at e apart
    by k t at apart false e = refl

-- what adds up over lists does over those of the parties of a node
pub home_flat : {Y : Type 0} (node : ℕ) (size : List Y → ℕ) (g : PlainPost → List Y) (posts : List PlainPost) → size [] ≡ 0 → ((us vs : List Y) → size (us ++ vs) ≡ size us + size vs)
    → size (flat_map (λ s. if is_home node s.ends.home then g s else []) posts) ≡ over_home node (λ s. size (g s)) posts
home_flat node size g posts none more =
    sum_flat size (λ (s : PlainPost). if is_home node s.ends.home then g s else []) posts none more
    ∙ sum_same (λ (s : PlainPost). size (if is_home node s.ends.home then g s else [])) (λ (s : PlainPost). if is_home node s.ends.home then size (g s) else 0) posts (λ k s at. by (is_home node s.ends.home) s)
  where
    by : (b : Bool) (s : PlainPost) → size (if b then g s else []) ≡ (if b then size (g s) else 0)
    by true s = refl
    by false s = none
