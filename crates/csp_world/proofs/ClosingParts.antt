-- What is taken back of a node.
use Rattle.std.proofs.Common.{◌≡◌, suc, List, [], ◌∷◌, ◌++◌, length, refl, ap}
use Rattle.std.proofs.lemmas.List.{append_assoc}
use Rattle.csp_buffer.specs.Content.{Content}
use Rattle.csp_lists.specs.Gathered.{queued_numbers}
use Rattle.csp_lists.specs.PlainDeck.{PlainDeck, buffer_numbers}
use Rattle.csp_nodes.specs.Emptied.{PlainEmptied}

-- a node once its queues are emptied
abbrev pub emptied_of : PlainDeck → PlainEmptied
emptied_of d = record { pool = d.pool; gathered = queued_numbers d }

-- each buffer has one number
pub numbers_len : (bs : List Content) → length (buffer_numbers bs) ≡ length bs
numbers_len [] = refl
numbers_len (b ∷ bs) = ap suc (numbers_len bs)

-- what is noted after what was noted before, with the rest to come
pub moved : {A : Type 0} (before noted after rest whole : List A) → after ≡ before ++ noted → before ++ (noted ++ rest) ≡ whole → after ++ rest ≡ whole
moved before noted after rest whole e f = rw (e, append_assoc before noted rest) f
