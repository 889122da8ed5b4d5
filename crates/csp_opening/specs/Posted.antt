-- Parties as posts.
use Rattle.std.specs.Prelude.{◌≡◌, ◌+◌, ⊤, ℕ, false, Option, Some, List, [], ◌∷◌, vec_capacity}
use Rattle.std.specs.Global.{Vec}
use Rattle.csp_ends.specs.Ends.{PlainEnds, PlainHome, PlainSide, rule_of, AreEnds}
use Rattle.csp_ends.specs.Ends as hands
use Rattle.csp_log.specs.declared.places.QueueId.{QueueId}
use Rattle.csp_log.specs.declared.places.Rule.{Rule}
use Rattle.csp_opening.specs.Handed.{handed_from}
use Rattle.csp_opening.specs.Parted.{home_with, leads_past}
use Rattle.csp_opening.specs.declared.homes.Lead.{Lead}
use Rattle.csp_opening.specs.declared.lanes.Pair.{Pair}
use Rattle.csp_opening.specs.declared.unposted.Unposted.{Unposted}
use Rattle.csp_party.specs.Any.{plain, region_of, is_ready, count, uses, has_ended}
use Rattle.csp_posts.specs.Seen.{SeenPost}

-- what a party has in hand
abbrev pub ends_with : Option PlainHome → List PlainSide → PlainEnds
ends_with home sides = record { home = home; sides = sides }

-- a party with this in hand, before its first turn
abbrev pub post_with : Unposted → PlainEnds → SeenPost
post_with s e = record { plain = record { who = s.who; party = plain s.party; entries = []; ends = e }; spare = 0; room = vec_capacity s.numbers }

-- it may have it
pub record CanPost (s : Unposted) (e : PlainEnds) : Type 0 where
  pub ready : has_ended (plain s.party) ≡ false → is_ready (plain s.party) 0
  pub counted : count (plain s.party) ≡ 0
  pub served : (q : QueueId) (r : Rule) → uses (plain s.party) q ≡ Some r → rule_of e q ≡ Some r
  pub ends : AreEnds e
  pub region : region_of s.party ≡ hands.region_of e
  pub unnoted : s.numbers.items ≡ []

-- parties as posts, from this place on: with the passes of routers and bridges, what was split off for the others, and the ends of these lanes
abbrev pub posts_from : ℕ → List (List Pair) → List Lead → List Unposted → List (Option PlainHome) → List SeenPost
posts_from p nodes leads [] homes = []
posts_from p nodes leads (s ∷ unposted) [] = []
posts_from p nodes leads (s ∷ unposted) (h ∷ homes) =
    post_with s (ends_with (home_with leads s.who h) (handed_from p 0 nodes)) ∷ posts_from (p + 1) nodes (leads_past leads s.who) unposted homes

-- each may have that
abbrev pub CanPostFrom : ℕ → List (List Pair) → List Lead → List Unposted → List (Option PlainHome) → Type 0
CanPostFrom p nodes leads [] [] = ⊤
CanPostFrom p nodes leads (s ∷ unposted) (h ∷ homes) =
    CanPost s (ends_with (home_with leads s.who h) (handed_from p 0 nodes)) × CanPostFrom (p + 1) nodes (leads_past leads s.who) unposted homes
CanPostFrom _ _ _ _ _ = ⊥

-- the same, where these lists are what each party was handed
abbrev pub posts_with : List Lead → List Unposted → List (Option PlainHome) → List (Vec PlainSide) → List SeenPost
posts_with leads (s ∷ unposted) (h ∷ homes) (v ∷ sides) = post_with s (ends_with (home_with leads s.who h) v.items) ∷ posts_with (leads_past leads s.who) unposted homes sides
posts_with leads [] homes sides = []
posts_with leads (s ∷ unposted) [] sides = []
posts_with leads (s ∷ unposted) (h ∷ homes) [] = []

-- and each may have that
abbrev pub CanPostAll : List Lead → List Unposted → List (Option PlainHome) → List (Vec PlainSide) → Type 0
CanPostAll leads [] homes sides = ⊤
CanPostAll leads (s ∷ unposted) (h ∷ homes) (v ∷ sides) = CanPost s (ends_with (home_with leads s.who h) v.items) × CanPostAll (leads_past leads s.who) unposted homes sides
CanPostAll _ _ _ _ = ⊥
