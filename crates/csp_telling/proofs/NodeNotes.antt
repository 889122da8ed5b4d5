-- What the notes of a run say of a node is said by the notes of its own queues.
use Rattle.std.proofs.Common.{◌≡◌, ℕ, zero, suc, ◌+◌, ◌<◌, ◌==◌, false, Some, List, [], ◌∷◌, ◌++◌, flat_map, refl, ap, ◌∙◌, arith, slice_get}
use Rattle.std.proofs.lemmas.Bool.{ne_eqb}
use Rattle.std.proofs.lemmas.Grind.{flat_map-append}
use Rattle.std.proofs.lemmas.List.{append-nil}
use Rattle.std.proofs.lemmas.Option.{same_Some}
use Rattle.csp_base.specs.declared.priority.Prio.TheVariants.{Critical, High, Normal, Low}
use Rattle.csp_base.specs.declared.priority.Prio.{Prio}
use Rattle.csp_ending.specs.Notes.{left_note}
use Rattle.csp_log.specs.Remains.{PlainLeft}
use Rattle.csp_log.specs.declared.places.QueueId.TheVariants as queue
use Rattle.csp_log.specs.declared.shown.ItemShown.{ItemShown}
use Rattle.csp_telling.specs.Closed.{all_notes, inbox_notes, lane_notes, node_notes}
use Rattle.csp_telling.specs.Remains.{PlainRemains}
use Rattle.csp_topology.specs.Lanes.{PlainLane}

-- of what is told of no other node
module _ {X : Type 0} (node : ℕ) (told : PlainLeft → List X) (away : (l : PlainLeft) → (l.node == node) ≡ false → told l ≡ []) where
  lanes_elsewhere : (j : ℕ) (ls : List PlainLane) (lefts : List (List ItemShown)) → (j == node) ≡ false → flat_map told (lane_notes j ls lefts) ≡ []
  lanes_elsewhere j [] lefts e = refl
  lanes_elsewhere j (l ∷ ls) [] e = refl
  lanes_elsewhere j (l ∷ ls) (is ∷ lefts) e = λ i. away (left_note j l.queue 0 is) e i ++ lanes_elsewhere j ls lefts e i

  inbox_elsewhere : (j : ℕ) (left : Prio → List ItemShown) → (j == node) ≡ false → flat_map told (inbox_notes j left) ≡ []
  inbox_elsewhere j left e = λ i.
      away (left_note j queue.Inbox 0 (left Critical)) e i
      ++ (away (left_note j queue.Inbox 1 (left High)) e i ++ (away (left_note j queue.Inbox 2 (left Normal)) e i ++ (away (left_note j queue.Inbox 3 (left Low)) e i ++ [])))

  node_elsewhere : (j : ℕ) (ls : List PlainLane) (m : PlainRemains) → (j == node) ≡ false → flat_map told (node_notes j ls m) ≡ []
  node_elsewhere j ls m e = flat_map-append told (lane_notes j ls m.lanes) (inbox_notes j m.inbox) ∙ (λ i. lanes_elsewhere j ls m.lanes e i ++ inbox_elsewhere j m.inbox e i)

  later : (j : ℕ) (wires : List (List PlainLane)) (all : List PlainRemains) → node < j → flat_map told (all_notes j wires all) ≡ []
  later j [] all h = refl
  later j (ls ∷ wires) [] h = refl
  later j (ls ∷ wires) (m ∷ all) h =
      flat_map-append told (node_notes j ls m) (all_notes (j + 1) wires all)
      ∙ (λ i. node_elsewhere j ls m (ne_eqb j node (λ e. omega (arith, h, e))) i ++ later (j + 1) wires all (omega (arith, h)) i)

  from_node : (j i : ℕ) (wires : List (List PlainLane)) (all : List PlainRemains) (ls : List PlainLane) (m : PlainRemains) → node ≡ j + i → slice_get wires i ≡ Some ls → slice_get all i ≡ Some m
      → flat_map told (all_notes j wires all) ≡ flat_map told (node_notes node ls m)
  from_node j i [] all ls m e at there = absurd cc
  from_node j i (x ∷ wires) [] ls m e at there = absurd cc
  from_node j zero (x ∷ wires) (y ∷ all) ls m e at there =
      let same : j ≡ node = omega (arith, e) in
      flat_map-append told (node_notes j x y) (all_notes (j + 1) wires all)
      ∙ ap (λ xs. flat_map told (node_notes j x y) ++ xs) (later (j + 1) wires all (omega (arith, e)))
      ∙ append-nil (flat_map told (node_notes j x y))
      ∙ (λ i. flat_map told (node_notes (same i) (same_Some x ls at i) (same_Some y m there i)))
  from_node j (suc i) (x ∷ wires) (y ∷ all) ls m e at there =
      flat_map-append told (node_notes j x y) (all_notes (j + 1) wires all)
      ∙ ap (λ xs. xs ++ flat_map told (all_notes (j + 1) wires all)) (node_elsewhere j x y (ne_eqb j node (λ g. omega (arith, e, g))))
      ∙ from_node (j + 1) i wires all ls m (omega (arith, e)) at there

  pub of_node : (wires : List (List PlainLane)) (all : List PlainRemains) (ls : List PlainLane) (m : PlainRemains) → slice_get wires node ≡ Some ls → slice_get all node ≡ Some m
      → flat_map told (all_notes 0 wires all) ≡ flat_map told (lane_notes node ls m.lanes) ++ flat_map told (inbox_notes node m.inbox)
  of_node wires all ls m at there = from_node 0 node wires all ls m (omega arith) at there ∙ flat_map-append told (lane_notes node ls m.lanes) (inbox_notes node m.inbox)
