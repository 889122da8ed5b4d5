-- A scene's network between the rounds of its run.
use Rattle.std.specs.Prelude.{◌≡◌, ◌⊎◌, ◌-◌, ◌*◌, ◌<◌, ◌≤◌, ℕ, false, List, length, map, sum_by}
use Rattle.std.specs.List.{AllByRecursion}
use Rattle.csp_consistent.specs.Rounds.{HaveMadeRounds, early}
use Rattle.csp_log.specs.Weights.{weight_of_all}
use Rattle.csp_posts.specs.Between.{AreInRounds}
use Rattle.csp_posts.specs.Books.{AreInBooks}
use Rattle.csp_posts.specs.Posts.{PlainPost}
use Rattle.csp_posts.specs.Seen.{SeenPost}
use Rattle.csp_scene.specs.Scene.{PlainScene}
use Rattle.csp_standing.specs.Fabrics.{IsFabricOf}
use Rattle.csp_standing.specs.Played.{are_done, logs_of}
use Rattle.csp_standing.specs.declared.fabric.Fabric.{Fabric}
use Rattle.csp_topology.specs.Parties.{parties_of}

-- posts without the room that they have
abbrev pub plains : List SeenPost → List PlainPost
plains posts = map (λ (s : SeenPost). s.plain) posts

-- a post that may have more room in its log
pub record IsStill (s t : SeenPost) : Type 0 where
  pub plain : t.plain ≡ s.plain
  pub room : t.room ≡ s.room

-- what the entries of all logs weigh together
abbrev pub weight : List PlainPost → ℕ
weight posts = sum_by (λ (s : PlainPost). weight_of_all s.entries) posts

-- what those of before this round weigh
abbrev pub weight_early : ℕ → List PlainPost → ℕ
weight_early round posts = sum_by (λ (s : PlainPost). weight_of_all (early round s.entries)) posts

-- a log has no more than eight entries for each round
abbrev pub IsShort : ℕ → PlainPost → Type 0
IsShort rounds s = length s.entries ≤ 8 * rounds

-- a fabric and posts are the network of a scene, of which so many rounds were made; before the last of them the entries weighed less than the limit
pub record IsBetween (scene : PlainScene) (f : Fabric) (limit rounds : ℕ) (posts : List SeenPost) : Type 0 where
  pub fabric : IsFabricOf scene f posts
  pub books : AreInBooks (plains posts)
  pub between : AreInRounds f.queues rounds (plains posts)
  pub made : HaveMadeRounds rounds (parties_of scene) (logs_of (plains posts))
  pub short : AllByRecursion (IsShort rounds) (plains posts)
  pub before : 0 < rounds → weight_early (rounds - 1) (plains posts) < limit

-- they have been run: no more rounds were made than the scene has; where an application has not ended, as many were made, or the logs have reached
-- the limit
pub record HasRun (scene : PlainScene) (f : Fabric) (limit : ℕ) (posts : List SeenPost) : Type 0 where
  pub rounds : ℕ
  pub between : IsBetween scene f limit rounds posts
  pub most : rounds ≤ scene.until
  pub unfinished : are_done (plains posts) ≡ false → (rounds ≡ scene.until) ⊎ (limit ≤ weight (plains posts))
