-- the numbers of buffers, of their pictures and of the items that they are in
use Rattle.std.proofs.Common.{◌≡◌, suc, List, [], ◌∷◌, length, map, refl, ap}
use Rattle.std.specs.List.{flat_map}
use Rattle.csp_buffer.specs.PlainBuffer.{PlainBuffer}
use Rattle.csp_deck.specs.Step.{item_numbers}
use Rattle.csp_lists.specs.Gathered.{numbers_back}
use Rattle.csp_lists.specs.PlainDeck.{numbers_of}
use Rattle.csp_log.specs.Pictures.{shown_item}
use Rattle.csp_log.specs.declared.item.Item.{Item}

pub buffers_numbered : (bs : List PlainBuffer) → flat_map (λ b. b.picture.number ∷ []) bs ≡ numbers_back bs
buffers_numbered [] = refl
buffers_numbered (b ∷ bs) = ap (λ ns. b.picture.number ∷ ns) (buffers_numbered bs)

pub items_numbered : (is : List Item) → flat_map (λ i. item_numbers (shown_item i)) is ≡ numbers_of (map shown_item is)
items_numbered [] = refl
items_numbered (i ∷ is) = rw (items_numbered is) refl
