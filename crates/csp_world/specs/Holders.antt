-- Who holds a buffer: each number of each node has exactly one holder.
use Rattle.std.specs.Prelude.{ℕ, Bool, false, ◌≡◌, ◌==◌, ◌<◌, Option, None, Some, List, [], ◌++◌, length, map, replicate, slice_get, if◌then◌else◌}
use Rattle.std.specs.List.{range_with_len, flat_map}
use Rattle.csp_lists.specs.PlainDeck.{PlainDeck, holders_of, numbers_in}
use Rattle.csp_deck.specs.Step.{times}
use Rattle.csp_log.specs.declared.places.Place.{Place}
use Rattle.csp_party.specs.Any.{holds}
use Rattle.csp_log.specs.Who.{home_of, node_of}
use Rattle.csp_log.specs.declared.who.Who.{Who}
use Rattle.csp_world.specs.World.{PlainMember, PlainWorld}

-- whether a party is one of this node: a link is of none
abbrev pub is_home : ℕ → Option ℕ → Bool
is_home node None = false
is_home node (Some home) = home == node

-- a party is of this node
abbrev pub is_at : ℕ → Who → Bool
is_at node w = is_home node (node_of w)

-- the numbers that a party holds, where it is one of this node
abbrev pub holds_at : ℕ → PlainMember → List ℕ
holds_at node m = (if is_at node m.who then holds m.party else [])

-- the place of a party of this node, as often as it holds the number
abbrev pub places_held : ℕ → Option (ℕ × Place) → List Place
places_held count None = []
places_held count (Some home) = replicate count home.1

-- the place of a party of a node, as often as it holds a number
abbrev pub holder_at : ℕ → ℕ → PlainMember → List Place
holder_at node k m = places_held (times k (holds_at node m)) (home_of m.who)

-- the places of these lists that hold a number
abbrev pub deck_holders : Option PlainDeck → ℕ → List Place
deck_holders None k = []
deck_holders (Some d) k = holders_of d k

-- the places of a node that hold a number, each as often as it does: its pool and queues, then its parties
abbrev pub holders : PlainWorld → ℕ → ℕ → List Place
holders w node k = deck_holders (slice_get w.decks node) k ++ flat_map (holder_at node k) w.members

-- how many buffers each node has
abbrev pub counts : PlainWorld → List ℕ
counts w = map (λ d. d.pool.room) w.decks

-- each number of each node has exactly one holder
abbrev pub HasOneHolder : PlainWorld → Type 0
HasOneHolder w = (node count : ℕ) → slice_get (counts w) node ≡ Some count → (k : ℕ) → k < count → length (holders w node k) ≡ 1

-- every number that is at a node with these lists: in the lists, then at the parties
abbrev pub numbers_at : PlainWorld → ℕ → PlainDeck → List ℕ
numbers_at w node d = numbers_in d ++ flat_map (holds_at node) w.members

-- each node has of every number just one where it is below its count of buffers, and else none
abbrev pub IsConserved : PlainWorld → Type 0
IsConserved w = (node : ℕ) (d : PlainDeck) → slice_get w.decks node ≡ Some d → (k : ℕ) → times k (numbers_at w node d) ≡ times k (range_with_len 0 d.pool.room)
