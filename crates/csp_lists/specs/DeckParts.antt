-- how a list deck keeps its lists
use Rattle.std.specs.Prelude.{◌≡◌, ℕ, List, map}
use Rattle.csp_lists.specs.PlainDeck.{PlainDeck, DeckAt, emptied, opening_queues}
use Rattle.csp_lists.specs.declared.list_deck.ListDeck.TheInside.{Inside}
use Rattle.csp_log.specs.declared.places.Carries.{Carries}

-- the lists as contracts see them
abbrev pub plain_deck : Inside → PlainDeck
plain_deck d = record { pool = d.pool.pool; shape = d.shape; queues = d.queues.queues }

-- a deck's fields as contracts see them, with its region
abbrev pub deck_at : Inside → DeckAt
deck_at d = record { region = d.queues.region; deck = plain_deck d }

-- but for their items, the queues are those of a deck at its opening, and the pool's buffers are of their region
pub record IsInOrder (d : Inside) : Type 0 where
  pub inbox : ℕ
  pub links : List Carries
  pub queues : map emptied d.queues.queues ≡ opening_queues inbox links d.shape
  pub of_it : d.pool.region ≡ d.queues.region
