-- What is taken back of a node, and the buffers that are ended.
use Rattle.std.proofs.Common.{◌≡◌, ℕ, suc, ◌+◌, List, [], ◌∷◌, ◌++◌, length, map, refl, sym, ◌∙◌, ap}
use Rattle.std.specs.List.{range_with_len}
use Rattle.std.proofs.lemmas.Grind.{flat_map-append}
use Rattle.std.proofs.lemmas.List.{append_assoc, length-append, length-map}
use Rattle.std.proofs.lemmas.List.Sums.{sum_by-cons}
use Rattle.csp_buffer.specs.Content.{Content}
use Rattle.csp_buffer.specs.Memory.{HaveEachOnce}
use Rattle.csp_buffer.specs.PlainBuffer.{PlainBuffer}
use Rattle.csp_lists.specs.Gathered.{queued_numbers, numbers_back, pictures}
use Rattle.csp_lists.specs.PlainDeck.{PlainDeck, buffer_numbers}
use Rattle.csp_lists.specs.PlainFifo.{PlainFifo}
use Rattle.csp_deck.specs.Step.{times}
use Rattle.csp_nodes.specs.Emptied.{PlainEmptied, IsComplete}
use Rattle.csp_nodes.specs.Gathering.{queue_count}
use Rattle.csp_nodes.proofs.CountLaws.{times_joined}

-- a node once its queues are emptied
abbrev pub emptied_of : PlainDeck → PlainEmptied
emptied_of d = record { pool = d.pool; gathered = queued_numbers d }

-- each buffer has one number
pub numbers_len : (bs : List Content) → length (buffer_numbers bs) ≡ length bs
numbers_len [] = refl
numbers_len (b ∷ bs) = ap suc (numbers_len bs)

pub numbers_joined : (bs cs : List Content) → buffer_numbers (bs ++ cs) ≡ buffer_numbers bs ++ buffer_numbers cs
numbers_joined bs cs = flat_map-append (λ (b : Content). b.number ∷ []) bs cs

-- a node that is complete has each number once, what is in the pool after what is taken back
pub numbers_are : (bs : List PlainBuffer) → map (λ b. b.picture.number) bs ≡ numbers_back bs
numbers_are [] = refl
numbers_are (b ∷ bs) = ap (λ ns. b.picture.number ∷ ns) (numbers_are bs)

-- the buffers that were taken back, then those of the pool
taken_all : (before after : List PlainBuffer) (pool : PlainFifo Content) → pictures after ≡ pictures before ++ pool.items → numbers_back after ≡ numbers_back before ++ buffer_numbers pool.items
taken_all before after pool is = ap buffer_numbers is ∙ numbers_joined (pictures before) pool.items

pub back_long : (bs : List PlainBuffer) → length (numbers_back bs) ≡ length bs
back_long bs = ap length (sym (numbers_are bs)) ∙ length-map bs (λ b. b.picture.number)

pub each_once : (before after : List PlainBuffer) (pool : PlainFifo Content) (count : ℕ) → pictures after ≡ pictures before ++ pool.items → count ≡ pool.room
    → IsComplete (record { pool = pool; gathered = numbers_back before }) → HaveEachOnce count after
each_once before after pool count is all whole k =
    ap (times k) (numbers_are after ∙ taken_all before after pool is)
    ∙ times_joined k (numbers_back before) (buffer_numbers pool.items)
    ∙ whole.once k
    ∙ ap (λ n. times k (range_with_len 0 n)) (sym all)

pub all_there : (before after : List PlainBuffer) (pool : PlainFifo Content) (count : ℕ) → pictures after ≡ pictures before ++ pool.items → count ≡ pool.room
    → IsComplete (record { pool = pool; gathered = numbers_back before }) → length after ≡ count
all_there before after pool count is all whole =
    sym (length-map after (λ b. b.picture.number)) ∙ ap length (numbers_are after ∙ taken_all before after pool is)
    ∙ length-append (numbers_back before) (buffer_numbers pool.items) ∙ ap (λ n. length (numbers_back before) + n) (numbers_len pool.items) ∙ whole.fits ∙ sym all

-- what is noted after what was noted before, with the rest to come
pub moved : {A : Type 0} (before noted after rest whole : List A) → after ≡ before ++ noted → before ++ (noted ++ rest) ≡ whole → after ++ rest ≡ whole
moved before noted after rest whole e f = rw (e, append_assoc before noted rest) f

-- the queues of the first node and of the others
pub queues_next : (d : PlainDeck) (rest all : List PlainDeck) → all ≡ d ∷ rest → queue_count all ≡ length d.queues + queue_count rest
queues_next d rest all e = ap queue_count e ∙ sum_by-cons (λ d. length d.queues) d rest
