-- The passes of the parties of a node, party by party.
use Rattle.std.proofs.Common.{◌≡◌, ◌≢◌, ◌+◌, ◌≤◌, ℕ, zero, suc, Bool, true, false, cond, Option, None, Some, List, [], ◌∷◌, ◌++◌, ◌==◌, length, map, refl, sym, ap, ◌∙◌, subst, arith, length-append, append-nil}
use Rattle.std.specs.Prelude.{count_by, if◌then◌else◌, slice_get}
use Rattle.std.specs.List.{AllByRecursion, flat_map}
use Rattle.std.proofs.lemmas.List.Sums.{sum_by-cons}
use Rattle.std.proofs.lemmas.Option.{same_Some}
use Rattle.csp_closing.proofs.Lists.{all_append, equal, equals, flat_two}
use Rattle.csp_closing.specs.Hands.{home_at, homes_at, without_home}
use Rattle.csp_ends.specs.Ends.{PlainHome}
use Rattle.csp_posts.specs.Between.{is_home, over_home}
use Rattle.csp_posts.specs.Posts.{PlainPost}

-- the passes that posts have
abbrev pub homes_of : List PlainPost → List (Option PlainHome)
homes_of posts = map (λ (s : PlainPost). s.ends.home) posts

-- those of another node stay where those of one are taken
home_is : (node : ℕ) (g : PlainHome) → (g.node == node) ≡ true → home_at node (Some g) ≡ g ∷ []
home_is node g e = ap (λ (b : Bool). if b then g ∷ [] else []) e

home_not : (node : ℕ) (g : PlainHome) → (g.node == node) ≡ false → home_at node (Some g) ≡ []
home_not node g e = ap (λ (b : Bool). if b then g ∷ [] else []) e

left_is : (node : ℕ) (g : PlainHome) → (g.node == node) ≡ true → without_home node (Some g) ≡ None
left_is node g e = ap (λ (b : Bool). if b then None else Some g) e

left_not : (node : ℕ) (g : PlainHome) → (g.node == node) ≡ false → without_home node (Some g) ≡ Some g
left_not node g e = ap (λ (b : Bool). if b then None else Some g) e

not_both : (node other : ℕ) (g : PlainHome) → other ≢ node → (g.node == node) ≡ true → (g.node == other) ≡ false
not_both node other g h e = by (g.node == other) refl where
  by : (c : Bool) → (g.node == other) ≡ c → c ≡ false
  by true f = absurd (h (sym (equal g.node other f) ∙ equal g.node node e))
  by false f = refl

stays_at : (node other : ℕ) (home : Option PlainHome) → other ≢ node → home_at other (without_home node home) ≡ home_at other home
stays_at node other None h = refl
stays_at node other (Some g) h = by (g.node == node) refl where
  by : (b : Bool) → (g.node == node) ≡ b → home_at other (without_home node (Some g)) ≡ home_at other (Some g)
  by true e = ap (home_at other) (left_is node g e) ∙ sym (home_not other g (not_both node other g h e))
  by false e = ap (home_at other) (left_not node g e)

pub stay_at : (node other : ℕ) (homes : List (Option PlainHome)) → other ≢ node → homes_at other (map (without_home node) homes) ≡ homes_at other homes
stay_at node other [] h = refl
stay_at node other (x ∷ homes) h = ap (λ (hs : List PlainHome). hs ++ homes_at other (map (without_home node) homes)) (stays_at node other x h) ∙ ap (λ (hs : List PlainHome). home_at other x ++ hs) (stay_at node other homes h)

-- what holds of each home of a post of the node holds of all
pub all_members : (P : PlainHome → Type 0) (node : ℕ) (posts : List PlainPost) → ((i : ℕ) (s : PlainPost) (h : PlainHome) → slice_get posts i ≡ Some s → s.ends.home ≡ Some h → h.node ≡ node → P h)
    → AllByRecursion P (homes_at node (homes_of posts))
all_members P node [] f = tt
all_members P node (s ∷ posts) f =
    all_append P (home_at node s.ends.home) (homes_at node (homes_of posts)) (here s.ends.home (λ h e k. f 0 s h refl e k)) (all_members P node posts (λ i. f (suc i)))
  where
    here : (home : Option PlainHome) → ((h : PlainHome) → home ≡ Some h → h.node ≡ node → P h) → AllByRecursion P (home_at node home)
    here None g = tt
    here (Some h) g = by (h.node == node) refl where
      by : (b : Bool) → (h.node == node) ≡ b → AllByRecursion P (if b then h ∷ [] else [])
      by true e = (g h refl (equal h.node node e), tt)
      by false e = tt

-- and the home of a post of the node is among them
pub record IsMember (hs : List PlainHome) (h : PlainHome) : Type 0 where
  pub place : ℕ
  pub at : slice_get hs place ≡ Some h

pub later_member : (xs hs : List PlainHome) (h : PlainHome) → IsMember hs h → IsMember (xs ++ hs) h
later_member [] hs h m = m
later_member (x ∷ xs) hs h m =
    let later = later_member xs hs h m in
    record { place = suc later.place; at = later.at }

pub is_member : (node : ℕ) (posts : List PlainPost) (i : ℕ) (s : PlainPost) (h : PlainHome) → slice_get posts i ≡ Some s → s.ends.home ≡ Some h → h.node ≡ node → IsMember (homes_at node (homes_of posts)) h
is_member node [] i s h e f k = absurd cc
is_member node (x ∷ posts) zero s h e f k =
    let its : x.ends.home ≡ Some h = ap (λ (y : PlainPost). y.ends.home) (same_Some x s e) ∙ f in
    record { place = 0; at = ap (λ (hs : List PlainHome). slice_get (hs ++ homes_at node (homes_of posts)) 0) (ap (home_at node) its ∙ home_is node h (equals h.node node k)) }
is_member node (x ∷ posts) (suc i) s h e f k = later_member (home_at node x.ends.home) (homes_at node (homes_of posts)) h (is_member node posts i s h e f k)

pub same_member : (hs xs : List PlainHome) (h : PlainHome) → hs ≡ xs → IsMember hs h → IsMember xs h
same_member hs xs h e m = subst (λ (l : List PlainHome). IsMember l h) e m

-- where the first of them stands, and the others
pub record IsSplit (P : PlainHome → Type 0) (node : ℕ) (posts : List PlainPost) (g : PlainHome) : Type 0 where
  pub others : List PlainHome
  pub whole : homes_at node (homes_of posts) ≡ g ∷ others
  pub each : AllByRecursion P others

pub split : (P : PlainHome → Type 0) (node : ℕ) (posts : List PlainPost) (at : ℕ) (r : PlainPost) (g : PlainHome) → slice_get posts at ≡ Some r → r.ends.home ≡ Some g → g.node ≡ node
    → ((i : ℕ) (s : PlainPost) (h : PlainHome) → slice_get posts i ≡ Some s → s.ends.home ≡ Some h → h.node ≡ node → at ≤ i)
    → ((i : ℕ) (s : PlainPost) (h : PlainHome) → slice_get posts i ≡ Some s → s.ends.home ≡ Some h → h.node ≡ node → i ≢ at → P h)
    → IsSplit P node posts g
split P node [] at r g e its here first f = absurd cc
split P node (x ∷ posts) zero r g e its here first f =
    let home : x.ends.home ≡ Some g = ap (λ (y : PlainPost). y.ends.home) (same_Some x r e) ∙ its in
    record {
      others = homes_at node (homes_of posts);
      whole = ap (λ (hs : List PlainHome). hs ++ homes_at node (homes_of posts)) (ap (home_at node) home ∙ home_is node g (equals g.node node here));
      each = all_members P node posts (λ i s h at its k. f (suc i) s h at its k (λ e. omega arith));
    }
split P node (x ∷ posts) (suc at) r g e its here first f =
    let later = split P node posts at r g e its here (λ i s h there own k. (let more = first (suc i) s h there own k in omega (arith, more))) (λ i s h there own k other. f (suc i) s h there own k (λ e. other (omega (arith, e)))) in
    record {
      others = later.others;
      whole = ap (λ (hs : List PlainHome). hs ++ homes_at node (homes_of posts)) (none x.ends.home (λ h own k. (let zero_up = first 0 x h refl own k in absurd (omega (arith, zero_up))))) ∙ later.whole;
      each = later.each;
    }
  where
    none : (home : Option PlainHome) → ((h : PlainHome) → home ≡ Some h → h.node ≡ node → ⊥) → home_at node home ≡ []
    none None n = refl
    none (Some h) n = by (h.node == node) refl where
      by : (b : Bool) → (h.node == node) ≡ b → (if b then h ∷ [] else []) ≡ []
      by true k = absurd (n h refl (equal h.node node k))
      by false k = refl

-- what the posts of a node did, party by party
pub over_members : {X : Type 0} (f : PlainHome → List X) (g : Option PlainHome → List X) → ((h : PlainHome) → g (Some h) ≡ f h) → (node : ℕ) (posts : List PlainPost)
    → flat_map (λ (s : PlainPost). if is_home node s.ends.home then g s.ends.home else []) posts ≡ flat_map f (homes_at node (homes_of posts))
over_members f g same node [] = refl
over_members f g same node (s ∷ posts) =
    ap (λ xs. xs ++ flat_map (λ (s : PlainPost). if is_home node s.ends.home then g s.ends.home else []) posts) (one s.ends.home)
    ∙ ap (λ xs. flat_map f (home_at node s.ends.home) ++ xs) (over_members f g same node posts)
    ∙ sym (flat_two f (home_at node s.ends.home) (homes_at node (homes_of posts)))
  where
    one : (home : Option PlainHome) → (if is_home node home then g home else []) ≡ flat_map f (home_at node home)
    one None = refl
    one (Some h) = by (h.node == node) where
      by : (b : Bool) → (if b then g (Some h) else []) ≡ flat_map f (if b then h ∷ [] else [])
      by true = same h ∙ sym (append-nil (f h))
      by false = refl

-- and how much
pub counts_members : {X : Type 0} (count : PlainPost → ℕ) (g : PlainPost → List X) → ((s : PlainPost) → count s ≡ length (g s)) → (node : ℕ) (posts : List PlainPost)
    → over_home node count posts ≡ length (flat_map (λ (s : PlainPost). if is_home node s.ends.home then g s else []) posts)
counts_members count g same node [] = refl
counts_members count g same node (s ∷ posts) =
    sum_by-cons (λ (s : PlainPost). if is_home node s.ends.home then count s else 0) s posts
    ∙ ap (λ n. n + over_home node count posts) (by (is_home node s.ends.home))
    ∙ ap (λ n. length (if is_home node s.ends.home then g s else []) + n) (counts_members count g same node posts)
    ∙ sym (length-append (if is_home node s.ends.home then g s else []) (flat_map (λ (s : PlainPost). if is_home node s.ends.home then g s else []) posts))
  where
    by : (b : Bool) → (if b then count s else 0) ≡ length (if b then g s else [])
    by true = same s
    by false = refl

-- as many as there are homes
pub members_count : (node : ℕ) (posts : List PlainPost) → count_by (λ (s : PlainPost). is_home node s.ends.home) posts ≡ length (homes_at node (homes_of posts))
members_count node [] = refl
members_count node (s ∷ posts) =
    sum_by-cons (λ (s : PlainPost). cond (is_home node s.ends.home) 1 0) s posts
    ∙ ap (λ n. cond (is_home node s.ends.home) 1 0 + n) (members_count node posts)
    ∙ ap (λ n. n + length (homes_at node (homes_of posts))) (one s.ends.home)
    ∙ sym (length-append (home_at node s.ends.home) (homes_at node (homes_of posts)))
  where
    one : (home : Option PlainHome) → cond (is_home node home) 1 0 ≡ length (home_at node home)
    one None = refl
    one (Some h) = by (h.node == node) where
      by : (b : Bool) → cond b 1 0 ≡ length (if b then h ∷ [] else [])
      by true = refl
      by false = refl
