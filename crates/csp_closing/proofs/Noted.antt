-- What is noted of the queues is what the record says of them.
use Rattle.std.proofs.Common.{◌≡◌, ◌+◌, ℕ, zero, suc, List, [], ◌∷◌, ◌++◌, length, map, refl, ap, ◌∙◌, subst}
use Rattle.std.specs.Prelude.{Option, Some, slice_get}
use Rattle.std.proofs.lemmas.Option.{same_Some}
use Rattle.csp_closing.proofs.Nodes.{AreAllWired, one_count}
use Rattle.csp_closing.proofs.Sides.{AreWired}
use Rattle.csp_closing.specs.Nodes.{AreLeftIn, HasBack, HaveBack, all_queue_notes}
use Rattle.csp_closing.specs.Wires.{wire_notes, without_all}
use Rattle.csp_closing.specs.Hands.{without_home}
use Rattle.csp_ends.specs.Ends.{PlainHome, PlainNodeQueues, PlainSide}
use Rattle.csp_ending.specs.Notes.{left_note}
use Rattle.csp_log.specs.Remains.{PlainLeft}
use Rattle.csp_log.specs.declared.places.QueueId.{QueueId}
use Rattle.csp_log.specs.declared.shown.ItemShown.{ItemShown}
use Rattle.csp_log.specs.declared.who.Who.{Who}
use Rattle.csp_standing.specs.declared.fabric.NodeStore.{NodeStore}
use Rattle.csp_telling.specs.Closed.{all_notes, inbox_notes, lane_notes, node_notes}
use Rattle.csp_telling.specs.Remains.{PlainRemains}
use Rattle.csp_topology.specs.Lanes.{PlainLane}
use Rattle.csp_topology.specs.declared.wire.Wire.{Wire}

wires_noted : (whos : List Who) (node : ℕ) (ls : List PlainLane) (ws : List Wire) (lefts : List (List ItemShown)) → AreWired whos ls ws → wire_notes node ws lefts ≡ lane_notes node ls lefts
wires_noted whos node [] [] lefts h = refl
wires_noted whos node (l ∷ ls) (w ∷ ws) [] h = refl
wires_noted whos node (l ∷ ls) (w ∷ ws) (left ∷ lefts) h =
    ap (λ (q : QueueId). left_note node q 0 left ∷ wire_notes node ws lefts) h.0.queue ∙ ap (λ (ns : List PlainLeft). left_note node l.queue 0 left ∷ ns) (wires_noted whos node ls ws lefts h.1)
wires_noted whos node [] (w ∷ ws) lefts h = absurd h
wires_noted whos node (l ∷ ls) [] lefts h = absurd h

pub all_noted : (whos : List Who) (node : ℕ) (lanes : List (List PlainLane)) (wires : List (List Wire)) (all : List PlainRemains) → AreAllWired whos lanes wires → all_queue_notes node wires all ≡ all_notes node lanes all
all_noted whos node [] [] all h = refl
all_noted whos node (ls ∷ lanes) (ws ∷ wires) [] h = refl
all_noted whos node (ls ∷ lanes) (ws ∷ wires) (m ∷ all) h =
    ap (λ (ns : List PlainLeft). (ns ++ inbox_notes node m.inbox) ++ all_queue_notes (node + 1) wires all) (wires_noted whos node ls ws m.lanes h.0)
    ∙ ap (λ (ns : List PlainLeft). node_notes node ls m ++ ns) (all_noted whos (node + 1) lanes wires all h.1)
all_noted whos node [] (ws ∷ wires) all h = absurd h
all_noted whos node (ls ∷ lanes) [] all h = absurd h

-- as many lanes as wires, at as many nodes
pub lanes_long : (whos : List Who) (node : ℕ) (lanes : List (List PlainLane)) (queues : List PlainNodeQueues) (wires : List (List Wire)) (homes : List (Option PlainHome)) (sides : List (List PlainSide)) (all : List PlainRemains)
    → AreAllWired whos lanes wires → AreLeftIn node queues wires homes sides all → map (λ (m : PlainRemains). length m.lanes) all ≡ map (λ (ls : List PlainLane). length ls) lanes
lanes_long whos node [] [] [] homes sides [] wired h = refl
lanes_long whos node (ls ∷ lanes) (q ∷ queues) (ws ∷ wires) homes sides (m ∷ all) wired h =
    ap (λ (n : ℕ). n ∷ map (λ (m : PlainRemains). length m.lanes) all) (h.0.count ∙ one_count whos ls ws wired.0)
    ∙ ap (λ (ns : List ℕ). length ls ∷ ns) (lanes_long whos (node + 1) lanes queues wires (map (without_home node) homes) (without_all ws sides) all wired.1 h.1)
lanes_long whos node [] queues (ws ∷ wires) homes sides all wired h = absurd wired
lanes_long whos node (ls ∷ lanes) queues [] homes sides all wired h = absurd wired
lanes_long whos node [] (q ∷ queues) [] homes sides all wired h = absurd h
lanes_long whos node [] [] [] homes sides (m ∷ all) wired h = absurd h
lanes_long whos node (ls ∷ lanes) [] (ws ∷ wires) homes sides all wired h = absurd h
lanes_long whos node (ls ∷ lanes) (q ∷ queues) (ws ∷ wires) homes sides [] wired h = absurd h

-- what is back at a node
pub record IsBackAt (stores : List NodeStore) (all : List PlainRemains) (k : ℕ) (t : NodeStore) : Type 0 where
  pub s : NodeStore
  pub left : PlainRemains
  pub before : slice_get stores k ≡ Some s
  pub there : slice_get all k ≡ Some left
  pub back : HasBack s left t

pub back_at_one : (stores : List NodeStore) (all : List PlainRemains) (after : List NodeStore) (k : ℕ) (t : NodeStore) → HaveBack stores all after → slice_get after k ≡ Some t → IsBackAt stores all k t
back_at_one [] [] [] k t h e = absurd cc
back_at_one (s ∷ stores) (m ∷ all) (x ∷ after) zero t h e = record { s = s; left = m; before = refl; there = refl; back = subst (HasBack s m) (same_Some x t e) h.0 }
back_at_one (s ∷ stores) (m ∷ all) (x ∷ after) (suc k) t h e =
    let later = back_at_one stores all after k t h.1 e in
    record { s = later.s; left = later.left; before = later.before; there = later.there; back = later.back }
back_at_one [] (m ∷ all) after k t h e = absurd h
back_at_one [] [] (x ∷ after) k t h e = absurd h
back_at_one (s ∷ stores) [] after k t h e = absurd h
back_at_one (s ∷ stores) (m ∷ all) [] k t h e = absurd h

pub back_after_one : (stores : List NodeStore) (all : List PlainRemains) (after : List NodeStore) (k : ℕ) (m : PlainRemains) → HaveBack stores all after → slice_get all k ≡ Some m → (t : NodeStore) × (slice_get after k ≡ Some t)
back_after_one [] [] [] k m h e = absurd cc
back_after_one (s ∷ stores) (x ∷ all) (t ∷ after) zero m h e = (t, refl)
back_after_one (s ∷ stores) (x ∷ all) (t ∷ after) (suc k) m h e = back_after_one stores all after k m h.1 e
back_after_one [] (x ∷ all) after k m h e = absurd h
back_after_one [] [] (t ∷ after) k m h e = absurd h
back_after_one (s ∷ stores) [] after k m h e = absurd h
back_after_one (s ∷ stores) (x ∷ all) [] k m h e = absurd h

pub back_long : (stores : List NodeStore) (all : List PlainRemains) (after : List NodeStore) → HaveBack stores all after → (length all ≡ length stores) × (length after ≡ length stores)
back_long [] [] [] h = (refl, refl)
back_long (s ∷ stores) (m ∷ all) (t ∷ after) h =
    let later = back_long stores all after h.1 in
    (ap suc later.0, ap suc later.1)
back_long [] (m ∷ all) after h = absurd h
back_long [] [] (t ∷ after) h = absurd h
back_long (s ∷ stores) [] after h = absurd h
back_long (s ∷ stores) (m ∷ all) [] h = absurd h
