-- What contracts see of parties that take no turn any more.
use Rattle.std.specs.Prelude.{◌≡◌, ℕ, List, [], map, vec_capacity}
use Rattle.csp_ends.specs.Ends.{PlainHome, PlainSide, region_of}
use Rattle.csp_log.specs.declared.entry.Entry.{Entry}
use Rattle.csp_party.specs.Any as party
use Rattle.csp_party.specs.declared.any.AnyParty.{AnyParty}
use Rattle.csp_posts.specs.Posts.{PlainPost}
use Rattle.csp_posts.specs.Seen.{SeenPost}
use Rattle.csp_posts.specs.declared.retired.Retired.{Retired}
use Rattle.csp_log.specs.declared.who.Who.{Who}
use Rattle.std.specs.Prelude.{Option}

-- the passes that each has of its node
abbrev pub all_homes : List Retired → List (Option PlainHome)
all_homes parties = map (λ (r : Retired). r.ends.home) parties

-- the ends of lanes that each has
abbrev pub all_sides : List Retired → List (List PlainSide)
all_sides parties = map (λ (r : Retired). r.ends.sides) parties

-- a party without what it has in hand: who it is, the party, its turns, and the numbers that are noted of it, with the room for such
pub record PlainRest : Type 0 where
  pub who : Who
  pub party : AnyParty
  pub entries : List Entry
  pub noted : List ℕ
  pub room : ℕ

-- that of a party
abbrev pub rest_of : Retired → PlainRest
rest_of r = record { who = r.who; party = r.party; entries = r.log.entries; noted = r.numbers.items; room = vec_capacity r.numbers }

-- those of all
abbrev pub all_rest : List Retired → List PlainRest
all_rest parties = map rest_of parties

-- the post that a party was
abbrev pub post_of : Retired → PlainPost
post_of r = record { who = r.who; party = party.plain r.party; entries = r.log.entries; ends = r.ends }

-- the post with the room for its numbers
pub record PlainRetired : Type 0 where
  pub post : PlainPost
  pub room : ℕ

-- that of a party, and of a post
abbrev pub retired_of : Retired → PlainRetired
retired_of r = record { post = post_of r; room = vec_capacity r.numbers }

-- a post's, before it retired
abbrev pub to_retire : SeenPost → PlainRetired
to_retire s = record { post = s.plain; room = s.room }

-- nothing is noted of a party yet, and its buffers are of the region of what it has in hand
pub record IsFresh (r : Retired) : Type 0 where
  pub unnoted : r.numbers.items ≡ []
  pub region : party.region_of r.party ≡ region_of r.ends
