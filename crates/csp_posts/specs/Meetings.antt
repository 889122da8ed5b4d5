-- What a meeting of all parties of a threaded run leaves, and lets each know.
use Rattle.std.specs.Prelude.{◌≡◌, ◌≤◌, ⊤, ℕ, true, List, [], ◌∷◌, IfSome, Option, None, Some}
use Rattle.std.specs.List.{AllByRecursion}
use Rattle.csp_ends.specs.Ends.{PlainHome}
use Rattle.csp_meeting.specs.Meeting.{HaveMetEnds, KnowsMore, leads}
use Rattle.csp_pool.specs.Tallies.{accounted, known_total}
use Rattle.csp_posts.specs.Between.{over_home}
use Rattle.csp_posts.specs.Posts.{PlainPost}
use Rattle.csp_posts.specs.Seen.{SeenPost}

-- a party after a meeting: it did nothing, and only knows more
pub record HasMet (s t : SeenPost) : Type 0 where
  pub who : t.plain.who ≡ s.plain.who
  pub party : t.plain.party ≡ s.plain.party
  pub entries : t.plain.entries ≡ s.plain.entries
  pub ends : KnowsMore s.plain.ends t.plain.ends
  pub spare : t.spare ≡ s.spare
  pub room : t.room ≡ s.room

-- two parties have met
abbrev pub HaveMetPosts : SeenPost → SeenPost → Type 0
HaveMetPosts s t = HaveMetEnds s.plain.ends t.plain.ends

-- it holds of each two, in their order
abbrev pub AllPairs : {A : Type 0} → (A → A → Type 0) → List A → Type 0
AllPairs R [] = ⊤
AllPairs R (s ∷ posts) = AllByRecursion (R s) posts × AllPairs R posts

-- a party knows of so many puts and takes of the pool of its node
pub record KnowsOf (all_puts all_takes : ℕ → ℕ) (h : PlainHome) : Type 0 where
  pub puts : all_puts h.node ≤ known_total h.pool.hand.puts
  pub takes : all_takes h.node ≤ known_total h.pool.hand.takes

-- a leader of a node does
abbrev pub LeaderKnows : (puts takes : ℕ → ℕ) → SeenPost → Type 0
LeaderKnows puts takes s = IfSome s.plain.ends.home (λ h. leads h ≡ true → KnowsOf puts takes h)

-- the one knows of them, where the other leads its node
abbrev pub IsInformed : (puts takes : ℕ → ℕ) → Option PlainHome → Option PlainHome → Type 0
IsInformed puts takes (Some g) (Some h) = g.node ≡ h.node → leads g ≡ true → KnowsOf puts takes h
IsInformed puts takes _ _ = ⊤

-- the second of two parties, where the first leads its node
abbrev pub Informs : (puts takes : ℕ → ℕ) → SeenPost → SeenPost → Type 0
Informs puts takes s t = IsInformed puts takes s.plain.ends.home t.plain.ends.home

-- for how many puts a party answers, as far as it was told
abbrev pub puts_for : Option PlainHome → ℕ
puts_for None = 0
puts_for (Some h) = accounted h.pool.hand.puts

-- for how many takes
abbrev pub takes_for : Option PlainHome → ℕ
takes_for None = 0
takes_for (Some h) = accounted h.pool.hand.takes

-- for how many puts the parties of a node answer together
abbrev pub all_puts_for : ℕ → List PlainPost → ℕ
all_puts_for node posts = over_home node (λ s. puts_for s.ends.home) posts

-- for how many takes
abbrev pub all_takes_for : ℕ → List PlainPost → ℕ
all_takes_for node posts = over_home node (λ s. takes_for s.ends.home) posts
