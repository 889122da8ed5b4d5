-- The rounds that the posts of a threaded run have made.
use Rattle.std.specs.Prelude.{◌≡◌, Bool, List, map}
use Rattle.std.specs.List.{AllZip, list_all}
use Rattle.csp_consistent.specs.Rounds.{party_after}
use Rattle.csp_log.specs.declared.entry.Entry.{Entry}
use Rattle.csp_party.specs.Any.{is_done}
use Rattle.csp_posts.specs.Posts.{PlainPost}
use Rattle.csp_topology.specs.Parties.{PlainOpening}

-- a post is that of the party that opened so, after the turns of its log
pub record HasRunFrom (o : PlainOpening) (s : PlainPost) : Type 0 where
  pub reached : party_after o s.entries ≡ s.party

-- so is each, in their order
abbrev pub HaveRunFrom : List PlainOpening → List PlainPost → Type 0
HaveRunFrom os posts = AllZip HasRunFrom os posts

-- the entries of each post
abbrev pub logs_of : List PlainPost → List (List Entry)
logs_of posts = map (λ (s : PlainPost). s.entries) posts

-- whether each application has ended
abbrev pub are_done : List PlainPost → Bool
are_done posts = list_all (λ (s : PlainPost). is_done s.party) posts
