-- what a party keeps of buffers: one in hand, or several in order
use Rattle.std.specs.Prelude.{ℕ, List, map, Option}
use Rattle.std.specs.Option.{option_to_list}
use Rattle.csp_arena.specs.Cells.{RegionName}
use Rattle.csp_buffer.specs.Content.{Content}

-- a place for one buffer of a region
pub record PlainHand : Type 0 where
  pub region : RegionName
  pub content : Option Content

-- buffers of a region, the first first, and for how many there is room
pub record PlainPile : Type 0 where
  pub region : RegionName
  pub room : ℕ
  pub contents : List Content

-- the place with this in it
abbrev pub with_content : PlainHand → Option Content → PlainHand
with_content h c = record { region = h.region; content = c }

-- the room with these in it
abbrev pub with_contents : PlainPile → List Content → PlainPile
with_contents p cs = record { region = p.region; room = p.room; contents = cs }

-- the numbers of buffers
abbrev pub numbers_of : List Content → List ℕ
numbers_of cs = map (λ c. c.number) cs

-- the number of the buffer in hand
abbrev pub number_in : Option Content → List ℕ
number_in c = numbers_of (option_to_list c)
