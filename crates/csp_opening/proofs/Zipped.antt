-- The wires of nodes, row by row.
use Rattle.std.proofs.Common.{◌≡◌, ℕ, suc, List, [], ◌∷◌, Option, Some, length, map, refl, sym, arith}
use Rattle.std.specs.Prelude.{IsSomeAnd, slice_get}
use Rattle.std.specs.List.{AllZip}
use Rattle.std.specs.Option.{option_and_then}
use Rattle.csp_lists.specs.PlainDeck.{lane_room}
use Rattle.csp_scene.specs.Scene.{PlainScene}
use Rattle.csp_topology.specs.Lanes.{PlainLane}
use Rattle.csp_topology.specs.Wires.{wires_of}
use Rattle.csp_topology.specs.Wiring.{AreWires, IsWireOf}
use Rattle.csp_topology.specs.declared.wire.Wire.{Wire}

-- two lists that answer each other place by place
pub zip_by : {A B : Type 0} → (R : A → B → Type 0) (xs : List A) (ys : List B) → ((k : ℕ) (x : A) → slice_get xs k ≡ Some x → IsSomeAnd (slice_get ys k) (R x))
    → ((k : ℕ) (y : B) → slice_get ys k ≡ Some y → IsSomeAnd (slice_get xs k) (λ x. R x y)) → AllZip R xs ys
zip_by R [] [] each only = tt
zip_by R [] (y ∷ ys) each only = absurd (only 0 y refl)
zip_by R (x ∷ xs) [] each only = absurd (each 0 x refl)
zip_by R (x ∷ xs) (y ∷ ys) each only = (each 0 x refl, zip_by R xs ys (λ k. each (suc k)) (λ k. only (suc k)))

-- a place in a list of lists
abbrev pub placed_at : {A : Type 0} → List (List A) → ℕ → ℕ → Option A
placed_at xss node k = option_and_then (λ xs. slice_get xs k) (slice_get xss node)

pub zip_rows : {A B : Type 0} → (R : A → B → Type 0) (xs : List (List A)) (ys : List (List B)) → length xs ≡ length ys
    → ((node k : ℕ) (x : A) → placed_at xs node k ≡ Some x → IsSomeAnd (placed_at ys node k) (R x))
    → ((node k : ℕ) (y : B) → placed_at ys node k ≡ Some y → IsSomeAnd (placed_at xs node k) (λ x. R x y)) → AllZip (AllZip R) xs ys
zip_rows R [] [] long each only = tt
zip_rows R [] (y ∷ ys) long each only = absurd (omega (arith, long))
zip_rows R (x ∷ xs) [] long each only = absurd (omega (arith, long))
zip_rows R (x ∷ xs) (y ∷ ys) long each only = (zip_by R x y (each 0) (only 0), zip_rows R xs ys (omega (arith, long)) (λ node. each (suc node)) (λ node. only (suc node)))

-- so the lanes of a scene and its wires answer each other
pub wire_rows : (scene : PlainScene) (ws : List (List Wire)) → length (wires_of scene) ≡ length scene.nodes → AreWires scene ws → AllZip (AllZip (IsWireOf scene)) (wires_of scene) ws
wire_rows scene ws count are = zip_rows (IsWireOf scene) (wires_of scene) ws (omega (arith, count, are.count)) are.each are.only

-- the rooms of a row
pub row_rooms : (scene : PlainScene) (ls : List PlainLane) (ws : List Wire) → AllZip (IsWireOf scene) ls ws → map (λ (l : PlainLane). lane_room l.queue) ls ≡ map (λ (w : Wire). w.room) ws
row_rooms scene [] [] h = refl
row_rooms scene (l ∷ ls) (w ∷ ws) h = λ i. sym h.0.room i ∷ row_rooms scene ls ws h.1 i
row_rooms scene [] (w ∷ ws) h = absurd h
row_rooms scene (l ∷ ls) [] h = absurd h
