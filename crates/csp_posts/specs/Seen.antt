-- What contracts see of a party of a threaded run, and what is true of it at every time.
use Rattle.std.specs.Prelude.{◌≡◌, ◌*◌, ◌≤◌, ℕ, false, Some, [], length, vec_capacity}
use Rattle.csp_ends.specs.Ends.{rule_of, AreEnds}
use Rattle.csp_ends.specs.Ends as hands
use Rattle.csp_log.specs.declared.places.QueueId.{QueueId}
use Rattle.csp_log.specs.declared.places.Rule.{Rule}
use Rattle.csp_party.specs.Any.{plain, region_of, is_ready, count, needs, uses, has_ended}
use Rattle.csp_posts.specs.Posts.{PlainPost}
use Rattle.csp_posts.specs.declared.post.Post.TheInside.{Inside}

-- a party, for how many more turns its log has room, and for how many numbers there is room at the end
pub record SeenPost : Type 0 where
  pub plain : PlainPost
  pub spare : ℕ
  pub room : ℕ

-- what is seen of the fields of a post
abbrev pub seen_post : Inside → SeenPost
seen_post p = record { plain = record { who = p.who; party = plain p.party; entries = p.log.entries; ends = p.ends }; spare = p.log.spare; room = vec_capacity p.numbers }

-- a party can take its turns: it is ready, at every time if at one; its log counts what its turns raise; it has the ends of the queues that it
-- uses, and what goes through them is of its region; no number is noted yet; and its stock has the boxes for as many turns as its log has room for
pub record IsFit (p : Inside) : Type 0 where
  pub ready : has_ended (plain p.party) ≡ false → is_ready (plain p.party) 0
  pub counted : count (plain p.party) ≤ length p.log.entries
  pub served : (q : QueueId) (r : Rule) → uses (plain p.party) q ≡ Some r → rule_of p.ends q ≡ Some r
  pub ends : AreEnds p.ends
  pub region : region_of p.party ≡ hands.region_of p.ends
  pub unnoted : p.numbers.items ≡ []
  pub stock : needs (plain p.party) * p.log.spare ≤ p.spares.boxes
