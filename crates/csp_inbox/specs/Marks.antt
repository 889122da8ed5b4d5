-- marks: who put an item, and which marks are out with other passes
use Rattle.std.specs.Prelude.{ℕ, Bool, true, false, ◌==◌, List, [], ◌∷◌, cond}
use Rattle.std.specs.List.{filter}
use Rattle.csp_log.specs.declared.places.TheConstants.{UNMARKED}
use Rattle.csp_log.specs.declared.shown.ItemShown.{ItemShown}
use Rattle.csp_log.specs.declared.shown.ItemShown.TheVariants as item

-- the mark of an item: a packet has one of its own
abbrev pub mark_of : ItemShown → ℕ
mark_of (item.Packet mark _) = mark
mark_of (item.Frame _) = UNMARKED
mark_of (item.Note _) = UNMARKED

-- the items of this mark, in order
abbrev pub with_mark : ℕ → List ItemShown → List ItemShown
with_mark m items = filter (λ i. mark_of i == m) items

-- whether a mark is among these
abbrev pub is_in : List ℕ → ℕ → Bool
is_in [] m = false
is_in (k ∷ ks) m = cond (k == m) true (is_in ks m)

-- these marks but one
abbrev pub without : ℕ → List ℕ → List ℕ
without m [] = []
without m (k ∷ ks) = cond (k == m) (without m ks) (k ∷ without m ks)
