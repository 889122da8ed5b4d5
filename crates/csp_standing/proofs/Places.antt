-- Where the posts of a network stand.
use Rattle.std.proofs.Common.{◌≡◌, ℕ, zero, suc, List, [], ◌∷◌, Option, None, Some, refl, subst}
use Rattle.std.specs.Prelude.{slice_get}
use Rattle.std.specs.List.{AllByRecursion}
use Rattle.std.specs.Option.{option_map}
use Rattle.std.proofs.lemmas.Option.{same_Some}
use Rattle.csp_ends.specs.Ends.{PlainHome}
use Rattle.csp_posts.specs.Posts.{PlainPost}
use Rattle.csp_standing.specs.Network.{ArePostsOf, IsPostOf, PlainNetwork}
use Rattle.csp_scene.specs.Scene.{PlainScene}
use Rattle.csp_topology.specs.Parties.{PlainOpening}

-- the party of a post
pub record IsAt (scene : PlainScene) (n : PlainNetwork) (os : List PlainOpening) (i : ℕ) (s : PlainPost) : Type 0 where
  pub party : PlainOpening
  pub there : slice_get os i ≡ Some party
  pub post : IsPostOf scene n party s

pub post_at : (scene : PlainScene) (n : PlainNetwork) (os : List PlainOpening) (posts : List PlainPost) (i : ℕ) (s : PlainPost) → ArePostsOf scene n os posts → slice_get posts i ≡ Some s → IsAt scene n os i s
post_at scene n (o ∷ os) (x ∷ posts) zero s h e = record { party = o; there = refl; post = subst (IsPostOf scene n o) (same_Some x s e) h.0 }
post_at scene n (o ∷ os) (x ∷ posts) (suc i) s h e =
    let r = post_at scene n os posts i s h.1 e in
    record { party = r.party; there = r.there; post = r.post }
post_at scene n [] [] i s h e = absurd cc
post_at scene n [] (x ∷ posts) i s h e = absurd h
post_at scene n (o ∷ os) [] i s h e = absurd h

-- the post of a party
pub record HasPost (scene : PlainScene) (n : PlainNetwork) (posts : List PlainPost) (i : ℕ) (o : PlainOpening) : Type 0 where
  pub post : PlainPost
  pub there : slice_get posts i ≡ Some post
  pub its : IsPostOf scene n o post

pub post_of : (scene : PlainScene) (n : PlainNetwork) (os : List PlainOpening) (posts : List PlainPost) (i : ℕ) (o : PlainOpening) → ArePostsOf scene n os posts → slice_get os i ≡ Some o → HasPost scene n posts i o
post_of scene n (w ∷ os) (x ∷ posts) zero o h e = record { post = x; there = refl; its = subst (λ (p : PlainOpening). IsPostOf scene n p x) (same_Some w o e) h.0 }
post_of scene n (w ∷ os) (x ∷ posts) (suc i) o h e =
    let r = post_of scene n os posts i o h.1 e in
    record { post = r.post; there = r.there; its = r.its }
post_of scene n [] [] i o h e = absurd cc
post_of scene n [] (x ∷ posts) i o h e = absurd h
post_of scene n (w ∷ os) [] i o h e = absurd h

-- what holds of each stands of one
pub all_at : {A : Type 0} → (P : A → Type 0) (ys : List A) (k : ℕ) (z : A) → AllByRecursion P ys → slice_get ys k ≡ Some z → P z
all_at P (b ∷ ys) zero z g e = subst P (same_Some b z e) g.0
all_at P (b ∷ ys) (suc k) z g e = all_at P ys k z g.1 e
all_at P [] k z g e = absurd cc

-- and what holds of one anywhere holds of each
pub all_from : {A : Type 0} → (P : A → Type 0) (ys : List A) → ((k : ℕ) (z : A) → slice_get ys k ≡ Some z → P z) → AllByRecursion P ys
all_from P [] h = tt
all_from P (y ∷ ys) h = (h 0 y refl, all_from P ys (λ k. h (suc k)))

-- a home that is there, by its node
pub home_named : (home : Option PlainHome) (node : ℕ) → option_map (λ (h : PlainHome). h.node) home ≡ Some node → (h : PlainHome) × (home ≡ Some h) × (h.node ≡ node)
home_named (Some h) node e = (h, refl, same_Some h.node node e)
home_named None node e = absurd cc
