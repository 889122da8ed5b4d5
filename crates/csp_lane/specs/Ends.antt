-- a lane and its two ends, as contracts see them
use Rattle.std.specs.Prelude.{◌≡◌, ℕ, ◌+◌, ◌≤◌, Option, List, [], ◌∷◌, ◌++◌, length, map, All}
use Rattle.atomic_table.specs.Seated.{TableId}
use Rattle.csp_arena.specs.Cells.{RegionName}
use Rattle.csp_deck.specs.Carried.{IsCarried}
use Rattle.csp_deck.specs.Regions.{IsItemOf}
use Rattle.csp_lane.specs.Marks.{AreHeeded, marks_in}
use Rattle.csp_log.specs.Pictures.{shown_item}
use Rattle.csp_log.specs.declared.item.Item.{Item}
use Rattle.csp_log.specs.declared.places.Carries.{Carries}
use Rattle.csp_log.specs.declared.places.Rule.TheVariants as rule
use Rattle.csp_log.specs.declared.shown.ItemShown.{ItemShown}

-- a lane: which one it is, its room, the tally of what is put into it, and that of the other lane that the marks of its items tell of, if any
pub record PlainLane : Type 0 where
  pub name : TableId
  pub room : ℕ
  pub tally : ℕ
  pub about : Option ℕ

-- an end of a lane: which lane it is of, the lane's room, the region of its buffers and what it carries, the lane's tally and the one that its marks
-- tell of; what was put here, with the marks (of the consumer, what was got, with how many items had been put into that other lane by then); and how
-- many items this end knows to have gone through the other
pub record PlainEnd : Type 0 where
  pub lane : TableId
  pub room : ℕ
  pub region : RegionName
  pub carries : Carries
  pub tally : ℕ
  pub about : Option ℕ
  pub items : List ItemShown
  pub marks : List ℕ
  pub known : ℕ

-- the end is of this lane
pub record IsEndOf (l : PlainLane) (e : PlainEnd) : Type 0 where
  pub lane : e.lane ≡ l.name
  pub room : e.room ≡ l.room
  pub tally : e.tally ≡ l.tally
  pub about : e.about ≡ l.about

-- a lane of this kind carries the item, and a buffer in it is of this region
pub record IsFor (region : RegionName) (carries : Carries) (i : Item) : Type 0 where
  pub carried : IsCarried (rule.Lane carries) (shown_item i)
  pub of_it : IsItemOf region i

-- an end of a lane on these terms, with these items, these marks, and what it knows
abbrev pub end_with : PlainEnd → List ItemShown → List ℕ → ℕ → PlainEnd
end_with e is marks n = record { lane = e.lane; room = e.room; region = e.region; carries = e.carries; tally = e.tally; about = e.about; items = is; marks = marks; known = n }

-- the end of a lane that was just opened
abbrev pub fresh_end : PlainLane → RegionName → Carries → PlainEnd
fresh_end l region carries = record { lane = l.name; room = l.room; region = region; carries = carries; tally = l.tally; about = l.about; items = []; marks = []; known = 0 }

-- the end once this item went through it, with this mark or bound where the lane has marks
abbrev pub with_item : PlainEnd → ItemShown → ℕ → PlainEnd
with_item e i n = end_with e (e.items ++ i ∷ []) (e.marks ++ marks_in e.about n) e.known

-- the end once it knows that so many went through the other
abbrev pub knowing : PlainEnd → ℕ → PlainEnd
knowing e n = end_with e e.items e.marks n

-- the producer's puts are at least the room and the gets that it knew: with fewer, there was room at each moment
abbrev pub HadNoRoom : PlainEnd → Type 0
HadNoRoom e = e.room + e.known ≤ length e.items

-- the consumer's gets are at least the puts that it knew: with fewer, there was an item at each moment
abbrev pub HadNothing : PlainEnd → Type 0
HadNothing e = e.known ≤ length e.items

-- what a close finds: what was got and then what is left is what was put, and all of it is what the lane carries; and of each item that was got, no
-- more of the other lane had been got when it was put than had been put when it was got
pub record Closes (p c : PlainEnd) (left : List Item) : Type 0 where
  pub order : p.items ≡ c.items ++ map shown_item left
  pub carried : All (IsFor p.region p.carries) left
  pub few : length left ≤ p.room
  pub heeded : AreHeeded p.marks c.marks
