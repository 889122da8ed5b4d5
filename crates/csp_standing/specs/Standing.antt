-- Who leads the nodes of a network.
use Rattle.std.specs.Prelude.{◌≡◌, ◌≤◌, ℕ, true, Some, List, slice_get}
use Rattle.csp_ends.specs.Ends.{PlainHome}
use Rattle.csp_meeting.specs.Meeting.{leads}
use Rattle.csp_posts.specs.Books.{IsLed}
use Rattle.csp_posts.specs.Posts.{PlainPost}

-- each node has a leader, which stands before all its other parties
pub record HaveLeaders (posts : List PlainPost) : Type 0 where
  pub led : (j : ℕ) (s : PlainPost) (h : PlainHome) → slice_get posts j ≡ Some s → s.ends.home ≡ Some h → IsLed posts h
  pub first : (i j : ℕ) (r s : PlainPost) (g h : PlainHome) → slice_get posts i ≡ Some r → slice_get posts j ≡ Some s → r.ends.home ≡ Some g → s.ends.home ≡ Some h → h.node ≡ g.node → leads g ≡ true → i ≤ j
