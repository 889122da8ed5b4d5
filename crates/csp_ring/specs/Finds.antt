-- What a look that finds the ring empty or full must keep, and what it tells.
use Rattle.std.specs.Prelude.{◌≡◌, ◌≢◌, ℕ, ◌-◌, List, length, slice_set, Option}
use mathlib.Core.Option.{some}
use lib.ListN.{get_elem?}
use Rattle.atomic_table.specs.Table.{Me, Step}
use Rattle.crossbeam_queue.specs.declared.array_queue.Doing.{Doing}
use Rattle.crossbeam_queue.specs.Fifo.{Held}
use Rattle.crossbeam_queue.specs.Stamps.{stamp}

-- whatever n items the ring holds, and whatever the others know, this pass may have a new view that keeps the rule, and `then` holds of the items and of that view
abbrev pub Finds : {T V : Type 0} → (List T → List V → Type 0) → ℕ → ℕ → V → (List T → V → Type 0) → Type 0
Finds {T} {V} holds n pass v then = (items : List T) (views : List V) → length items ≡ n → holds items views → get_elem? views pass ≡ some v → (w : V) × holds items (slice_set views pass w) × then items w

module _ {T V : Type 0} where
  -- the seat m has become m', having found n items: the view has changed as a finding of just so many items may change it
  abbrev pub HasFound : (V → List T → V → Type 0) → ℕ → Me (Option T) (Doing T V) → Me (Option T) (Doing T V) → Type 0
  HasFound found n m m' = Held n (λ (items : List T). found m.0.client items m'.0.client)

  -- the count of pushes is r: where that is the count of pops that was seen, the ring is empty
  abbrev pub found_empty : (V → List T → V → Type 0) → Step (Option T) → Me (Option T) (Doing T V) → ℕ → Me (Option T) (Doing T V) → Type 0
  found_empty found st m r m' = (m'.1 ≡ m.1) × (r ≡ stamp st.slots m.0.at → HasFound found 0 m m') × (r ≢ stamp st.slots m.0.at → m'.0.client ≡ m.0.client)

  -- the count of pops is r: where that is a lap behind the count of pushes that was seen, the ring is full
  abbrev pub found_full : (V → List T → V → Type 0) → Step (Option T) → Me (Option T) (Doing T V) → ℕ → Me (Option T) (Doing T V) → Type 0
  found_full found st m r m' = (m'.1 ≡ m.1) × (r ≡ stamp st.slots (m.0.at - st.slots) → HasFound found st.slots m m') × (r ≢ stamp st.slots (m.0.at - st.slots) → m'.0.client ≡ m.0.client)
