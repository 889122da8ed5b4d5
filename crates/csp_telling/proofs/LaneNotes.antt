-- What the notes of a run say of a queue is what was left in it.
use Rattle.std.proofs.Common.{◌≡◌, ℕ, zero, suc, true, false, Some, List, [], ◌∷◌, ◌++◌, flat_map, refl, sym, ap, ◌∙◌, arith, slice_get}
use Rattle.std.proofs.lemmas.Bool.{eq-eqb, false_from_ne_true}
use Rattle.std.proofs.lemmas.List.{append-nil}
use Rattle.std.proofs.lemmas.Option.{same_Some}
use Rattle.csp_base.specs.Priority.{prio_number}
use Rattle.csp_base.specs.declared.priority.Prio.TheVariants.{Critical, High, Normal, Low}
use Rattle.csp_base.specs.declared.priority.Prio.{Prio}
use Rattle.csp_consistent.proofs.Public.{queue_apart, queue_is, queue_same}
use Rattle.csp_consistent.specs.Reading.{is_queue, left_here, left_in}
use Rattle.csp_log.specs.declared.places.QueueId.TheVariants as queue
use Rattle.csp_log.specs.declared.places.QueueId.{QueueId}
use Rattle.csp_log.specs.declared.shown.ItemShown.{ItemShown}
use Rattle.csp_record.specs.Record.{PlainRecord}
use Rattle.csp_telling.proofs.NodeNotes.{of_node}
use Rattle.csp_telling.proofs.PlacesApart.{AreNamedApart}
use Rattle.csp_telling.specs.Closed.{all_notes, inbox_notes, lane_notes}
use Rattle.csp_telling.specs.Remains.{PlainRemains}
use Rattle.csp_topology.specs.Lanes.{PlainLane}

module _ (node : ℕ) (q : QueueId) (prio : ℕ) where
  -- ---- the notes of queues of other names say nothing of it

  none_named : (ls : List PlainLane) (lefts : List (List ItemShown)) → ((b : ℕ) (z : PlainLane) → slice_get ls b ≡ Some z → is_queue q z.queue ≡ false) → flat_map (left_here node q prio) (lane_notes node ls lefts) ≡ []
  none_named [] lefts none = refl
  none_named (l ∷ ls) [] none = refl
  none_named (l ∷ ls) (is ∷ lefts) none = rw (eq-eqb node node refl, none 0 l refl, none_named ls lefts (λ b. none (suc b))) refl

  no_inbox : (left : Prio → List ItemShown) → is_queue q queue.Inbox ≡ false → flat_map (left_here node q prio) (inbox_notes node left) ≡ []
  no_inbox left e = rw (eq-eqb node node refl, e) refl

-- ---- a lane

lane_found : (node : ℕ) (q : QueueId) (ls : List PlainLane) (lefts : List (List ItemShown)) (k : ℕ) (l : PlainLane) (left : List ItemShown) → slice_get ls k ≡ Some l → slice_get lefts k ≡ Some left
    → is_queue q l.queue ≡ true → ((b : ℕ) (z : PlainLane) → slice_get ls b ≡ Some z → is_queue q z.queue ≡ true → b ≡ k) → flat_map (left_here node q 0) (lane_notes node ls lefts) ≡ left
lane_found node q [] lefts k l left at there named alone = absurd cc
lane_found node q (x ∷ ls) [] k l left at there named alone = absurd cc
lane_found node q (x ∷ ls) (is ∷ lefts) zero l left at there named alone =
    let this : is_queue q x.queue ≡ true = ap (λ (z : PlainLane). is_queue q z.queue) (same_Some x l at) ∙ named in
    rw (
      eq-eqb node node refl,
      this,
      none_named node q 0 ls lefts (λ b z e. false_from_ne_true (is_queue q z.queue) (λ t. let g : suc b ≡ 0 = alone (suc b) z e t in absurd (omega (arith, g)))),
    )
    (append-nil is ∙ same_Some is left there)
lane_found node q (x ∷ ls) (is ∷ lefts) (suc k) l left at there named alone =
    let other : is_queue q x.queue ≡ false = false_from_ne_true (is_queue q x.queue) (λ t. let g : 0 ≡ suc k = alone 0 x refl t in absurd (omega (arith, g))) in
    rw (eq-eqb node node refl, other) (lane_found node q ls lefts k l left at there named (λ b z e t. let g : suc b ≡ suc k = alone (suc b) z e t in omega (arith, g)))

-- ---- the inbox

inbox_found : (node : ℕ) (p : Prio) (left : Prio → List ItemShown) → flat_map (left_here node queue.Inbox (prio_number p)) (inbox_notes node left) ≡ left p
inbox_found node Critical left = rw (eq-eqb node node refl) (append-nil (left Critical))
inbox_found node High left = rw (eq-eqb node node refl) (append-nil (left High))
inbox_found node Normal left = rw (eq-eqb node node refl) (append-nil (left Normal))
inbox_found node Low left = rw (eq-eqb node node refl) (append-nil (left Low))

-- ---- so the record says

module _ (r : PlainRecord) (wires : List (List PlainLane)) (all : List PlainRemains) (told : r.left ≡ all_notes 0 wires all) (node : ℕ) (ls : List PlainLane) (m : PlainRemains) (at : slice_get wires node ≡ Some ls)
    (there : slice_get all node ≡ Some m) (names : AreNamedApart ls) where
  here : (q : QueueId) (prio : ℕ) → left_in r node q prio ≡ flat_map (left_here node q prio) (lane_notes node ls m.lanes) ++ flat_map (left_here node q prio) (inbox_notes node m.inbox)
  here q prio = ap (flat_map (left_here node q prio)) told ∙ of_node node (left_here node q prio) (λ l e. rw e refl) wires all ls m at there

  pub lane_left : (k : ℕ) (l : PlainLane) (left : List ItemShown) → slice_get ls k ≡ Some l → slice_get m.lanes k ≡ Some left → left_in r node l.queue 0 ≡ left
  lane_left k l left at_lane at_left =
      here l.queue 0
      ∙ ap (λ is. flat_map (left_here node l.queue 0) (lane_notes node ls m.lanes) ++ is) (no_inbox node l.queue 0 m.inbox (queue_apart queue.Inbox l.queue (names.lanes k l at_lane)))
      ∙ append-nil (flat_map (left_here node l.queue 0) (lane_notes node ls m.lanes))
      ∙ lane_found node l.queue ls m.lanes k l left at_lane at_left (queue_same l.queue) (λ b z e t. names.apart b k z l e at_lane (sym (queue_is l.queue z.queue t)))

  pub inbox_left : (p : Prio) → left_in r node queue.Inbox (prio_number p) ≡ m.inbox p
  inbox_left p =
      here queue.Inbox (prio_number p)
      ∙ ap (λ is. is ++ flat_map (left_here node queue.Inbox (prio_number p)) (inbox_notes node m.inbox)) (none_named node queue.Inbox (prio_number p) ls m.lanes names.lanes)
      ∙ inbox_found node p m.inbox
