-- The payloads of a connection among the items of a `Down`: those of its slot's packets after as many Closed answers for the slot as its ordinal.
use Rattle.std.specs.Prelude.{ℕ, ◌+◌, ◌==◌, ◌&&◌, if◌then◌else◌, List, [], ◌∷◌, ◌++◌}
use Rattle.csp_log.specs.declared.note.Note.TheVariants as note
use Rattle.csp_log.specs.declared.shown.ItemShown.{ItemShown}
use Rattle.csp_log.specs.declared.shown.ItemShown.TheVariants as item

-- the payload in an item, where so many Closed answers for the slot came before it
abbrev pub payload_by : ℕ → ℕ → ℕ → ItemShown → List (List ℕ)
payload_by slot ordinal ends (item.Packet mark b) = (if mark == slot && ends == ordinal then b.payload ∷ [] else [])
payload_by slot ordinal ends (item.Frame _) = []
payload_by slot ordinal ends (item.Note _) = []

-- how many there are after it
abbrev pub ends_by : ℕ → ℕ → ItemShown → ℕ
ends_by slot ends (item.Note (note.Closed freed)) = (if freed == slot then ends + 1 else ends)
ends_by slot ends _ = ends

-- the payloads of a slot and an ordinal among items, after so many ends of the slot
abbrev pub payloads_from : ℕ → ℕ → ℕ → List ItemShown → List (List ℕ)
payloads_from slot ordinal ends [] = []
payloads_from slot ordinal ends (i ∷ is) = payload_by slot ordinal ends i ++ payloads_from slot ordinal (ends_by slot ends i) is

-- the payloads of a slot and an ordinal among items
abbrev pub payloads_in : ℕ → ℕ → List ItemShown → List (List ℕ)
payloads_in slot ordinal is = payloads_from slot ordinal 0 is
