-- how buffers are kept
use Rattle.std.specs.Prelude.{◌≡◌, ◌≤◌, length, map, All}
use Rattle.std.specs.Option.{option_map}
use Rattle.std.specs.VecDeque.{deque_capacity}
use Rattle.csp_deck.specs.Keeping.{PlainHand, PlainPile}
use Rattle.csp_deck.specs.declared.hand.Hand.TheInside as hand
use Rattle.csp_deck.specs.declared.pile.Pile.TheInside as pile

-- a hand's fields as contracts see them
abbrev pub plain_hand : hand.Inside → PlainHand
plain_hand h = record { region = h.token.name; content = option_map (λ b. b.picture) h.buffer }

-- a pile's fields as contracts see them
abbrev pub plain_pile : pile.Inside → PlainPile
plain_pile p = record { region = p.token.name; room = p.room; contents = map (λ b. b.picture) p.buffers.items }

-- each buffer of a pile is of its region, and there is just the room
pub record IsPile (p : pile.Inside) : Type 0 where
  pub of_it : All (λ b. b.region ≡ p.token.name) p.buffers.items
  pub fits : length p.buffers.items ≤ p.room
  pub room : p.room ≡ deque_capacity p.buffers
