-- The books of the pools of a threaded run: for how much each party answers, and who leads a node.
use Rattle.std.specs.Prelude.{◌≡◌, ◌≤◌, ℕ, true, false, Some, List, [], length, IfSome, slice_get}
use Rattle.std.specs.List.{AllByRecursion}
use Rattle.csp_base.specs.declared.priority.Prio.{Prio}
use Rattle.csp_ends.specs.Ends.{PlainHome}
use Rattle.csp_inbox.specs.Marks.{with_mark}
use Rattle.csp_inbox.specs.Passes.{PlainPass, mail_at}
use Rattle.csp_meeting.specs.Meeting.{leads}
use Rattle.csp_pool.specs.Tallies.{accounted}
use Rattle.csp_posts.specs.Between.{all_put, all_taken}
use Rattle.csp_posts.specs.Meetings.{all_puts_for, all_takes_for}
use Rattle.csp_posts.specs.Posts.{PlainPost}

-- only the leader of a node is told what others did: any other party answers for what it did itself
pub record AnswersForItself (h : PlainHome) : Type 0 where
  pub puts : leads h ≡ false → h.pool.hand.puts.counted ≡ 0
  pub takes : leads h ≡ false → h.pool.hand.takes.counted ≡ 0

-- all that a pass put into an inbox has its mark
abbrev pub IsMarked : PlainPass → Type 0
IsMarked x = (p : Prio) → with_mark x.role.mark (mail_at x p).kept ≡ (mail_at x p).kept

-- a party of a node keeps its books so
pub record HasBooks (h : PlainHome) : Type 0 where
  pub itself : AnswersForItself h
  pub marked : IfSome h.inbox IsMarked

-- a party of the node leads it
pub record IsLed (posts : List PlainPost) (h : PlainHome) : Type 0 where
  pub at : ℕ
  pub leader : PlainPost
  pub home : PlainHome
  pub there : slice_get posts at ≡ Some leader
  pub its : leader.ends.home ≡ Some home
  pub node : home.node ≡ h.node
  pub leads : leads home ≡ true

-- the parties of each node answer together for just what they did with its pool; each keeps its books; and each node has a leader, which stands first
pub record AreInBooks (posts : List PlainPost) : Type 0 where
  pub puts : (node : ℕ) → all_puts_for node posts ≡ all_put node posts
  pub takes : (node : ℕ) → all_takes_for node posts ≡ all_taken node posts
  pub each : AllByRecursion (λ s. IfSome s.ends.home HasBooks) posts
  pub led : (j : ℕ) (s : PlainPost) (h : PlainHome) → slice_get posts j ≡ Some s → s.ends.home ≡ Some h → IsLed posts h
  pub first : (i j : ℕ) (r s : PlainPost) (g h : PlainHome) → slice_get posts i ≡ Some r → slice_get posts j ≡ Some s → r.ends.home ≡ Some g → s.ends.home ≡ Some h → h.node ≡ g.node → leads g ≡ true → i ≤ j

-- a party before its first turn answers for just what it put at the opening, and has no mail
pub record IsFresh (h : PlainHome) : Type 0 where
  pub puts : accounted h.pool.hand.puts ≡ length h.pool.hand.put
  pub takes : accounted h.pool.hand.takes ≡ length h.pool.hand.taken
  pub itself : AnswersForItself h
  pub empty : IfSome h.inbox (λ x. (p : Prio) → (mail_at x p).kept ≡ [])
