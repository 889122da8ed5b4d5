-- When a party of a threaded run can take turns, and what turns leave of it.
use Rattle.std.specs.Prelude.{◌≡◌, ◌+◌, ◌^◌, ◌<◌, ◌≤◌, ℕ, List}
use Rattle.csp_deck.specs.Runs.{last_time}
use Rattle.csp_ends.specs.Ends.{PlainNodeQueues, AreOf}
use Rattle.csp_posts.specs.Posts.{AreTurns}
use Rattle.csp_posts.specs.Seen.{SeenPost}

-- a post can take so many turns at this time: what it has in hand is of the queues of these nodes, it took none later, and its log has the room
pub record CanTurn (nodes : List PlainNodeQueues) (time count : ℕ) (s : SeenPost) : Type 0 where
  pub of_it : AreOf nodes s.plain.ends
  pub late : last_time 0 s.plain.entries ≤ time
  pub early : time < 2 ^ 62
  pub room : count ≤ s.spare

-- so many turns at this time made the second of the first: its log has as many entries less room at most
pub record HasTurned (nodes : List PlainNodeQueues) (time count : ℕ) (s t : SeenPost) : Type 0 where
  pub turns : AreTurns nodes time count s.plain t.plain
  pub spare : s.spare ≤ t.spare + count
  pub room : t.room ≡ s.room
