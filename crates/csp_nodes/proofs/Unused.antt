-- The lists of a node as they open, and their end before anything was done with them.
use Rattle.std.proofs.Common.{◌≡◌, ℕ, List, [], ◌∷◌, ◌++◌, length, map, refl, sym, ◌∙◌, ap, arith}
use Rattle.std.specs.List.{range_with_len}
use Rattle.std.proofs.lemmas.List.Elements.{All-map}
use Rattle.csp_buffer.specs.Content.{Content, cleared}
use Rattle.csp_buffer.specs.Memory.{HaveEachOnce}
use Rattle.csp_buffer.specs.PlainBuffer.{PlainBuffer}
use Rattle.csp_deck.specs.Step.{times}
use Rattle.csp_lists.specs.Gathered.{pictures}
use Rattle.csp_lists.specs.Order.{places_in}
use Rattle.csp_lists.specs.PlainDeck.{PlainQueue, buffer_numbers, opening_deck, opening_queue, shape_of}
use Rattle.csp_lists.specs.PlainFifo.{PlainFifo}
use Rattle.csp_log.specs.declared.places.Carries.{Carries}
use Rattle.csp_nodes.proofs.ClosingBuffers.{fresh_len}
use Rattle.csp_nodes.proofs.ClosingParts.{all_there, each_once}
use Rattle.csp_nodes.specs.Emptied.{IsComplete}
use Rattle.csp_nodes.specs.Fresh.{fresh_buffers}
use Rattle.csp_nodes.specs.Unused.{IsUnused}

numbers_by : (ns : List ℕ) → buffer_numbers (map cleared ns) ≡ ns
numbers_by [] = refl
numbers_by (n ∷ ns) = ap (λ ks. n ∷ ks) (numbers_by ns)

-- the numbers of the buffers of a node at its opening are those from 0 up
pub fresh_numbers : (n : ℕ) → buffer_numbers (fresh_buffers n) ≡ range_with_len 0 n
fresh_numbers n = numbers_by (range_with_len 0 n)

-- as a node's lists open, nothing was done with them
pub fresh_unused : (count inbox apps : ℕ) (ifaces : List Carries) → IsUnused (opening_deck (fresh_buffers count) inbox apps ifaces)
fresh_unused count inbox apps ifaces = record {
  idle = All-map (λ (q : PlainQueue). q.items ≡ []) (opening_queue inbox ifaces) (places_in (shape_of apps ifaces)) (λ k p low. refl);
  complete = record {
    fits = omega arith;
    once = λ k. (let same : times k (buffer_numbers (fresh_buffers count)) ≡ times k (range_with_len 0 (length (fresh_buffers count))) = ap (times k) (fresh_numbers count) ∙ ap (λ n. times k (range_with_len 0 n)) (sym (fresh_len count)) in omega (arith, same));
  };
}

-- then all are there, and each once, where nothing was taken back before
pub all_unused : (before after : List PlainBuffer) (pool : PlainFifo Content) (count : ℕ) → before ≡ [] → pictures after ≡ pictures before ++ pool.items → count ≡ pool.room
    → IsComplete (record { pool = pool; gathered = [] }) → length after ≡ count
all_unused before after pool count none is all whole = all_there [] after pool count (is ∙ ap (λ bs. pictures bs ++ pool.items) none) all whole

pub once_unused : (before after : List PlainBuffer) (pool : PlainFifo Content) (count : ℕ) → before ≡ [] → pictures after ≡ pictures before ++ pool.items → count ≡ pool.room
    → IsComplete (record { pool = pool; gathered = [] }) → HaveEachOnce count after
once_unused before after pool count none is all whole = each_once [] after pool count (is ∙ ap (λ bs. pictures bs ++ pool.items) none) all whole
