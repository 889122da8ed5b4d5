-- What came through the inbox of a node, and what was left there, is what the node's router or bridge and its interfaces put into it.
use Rattle.std.proofs.Common.{◌≡◌, ◌⊎◌, inl, inr, ℕ, zero, suc, ◌+◌, ◌<◌, ◌≤◌, ◌==◌, Bool, true, false, Some, List, [], ◌∷◌, ◌++◌, length, slice_get, refl, sym, ap, ◌∙◌, arith}
use Rattle.std.specs.Prelude.{if◌then◌else◌, ⊤}
use Rattle.std.specs.List.{AllByRecursion}
use Rattle.std.proofs.lemmas.Bool.{cases_lt, eq-eqb, eqb-true}
use Rattle.std.proofs.lemmas.Option.{same_Some, slice_get_within}
use Rattle.csp_base.specs.Priority.{prio_number}
use Rattle.csp_base.specs.declared.priority.Prio.{Prio}
use Rattle.csp_base.specs.declared.priority.Prio.TheVariants.{Critical, High, Normal, Low}
use Rattle.csp_buffer.specs.Content.{Content}
use Rattle.csp_conserved.proofs.Queues.{among, among_if, among_more, got_in, put_in}
use Rattle.csp_conserved.proofs.Sums.{over, over_both, over_hit, over_miss, over_none, over_same}
use Rattle.csp_consistent.proofs.Public.{each_there, Logged, IsIfaceAt, IsOf, logged}
use Rattle.csp_consistent.specs.Inboxes.{IsInboxInOrder, came_through}
use Rattle.csp_topology.specs.Writers.{writer_of}
use Rattle.csp_consistent.specs.Reading.{entries_of, gets, left_in, of_mark, of_priority, puts, with_mark, with_priority}
use Rattle.csp_consistent.specs.Runs.{AreLogsOf}
use Rattle.csp_deck.proofs.Public.{times-append}
use Rattle.csp_deck.specs.Carried.{priority_of}
use Rattle.csp_deck.specs.Step.{item_numbers, times}
use Rattle.csp_lists.specs.PlainDeck.{numbers_of}
use Rattle.csp_log.specs.declared.places.QueueId.TheVariants as queue
use Rattle.csp_log.specs.declared.places.TheConstants.{UNMARKED}
use Rattle.csp_log.specs.declared.shown.ItemShown.{ItemShown}
use Rattle.csp_log.specs.declared.shown.ItemShown.TheVariants as item
use Rattle.csp_prefix.proofs.Public.{owner_of}
use Rattle.csp_record.specs.Record.{PlainRecord}
use Rattle.csp_log.specs.declared.who.Who.{Who}
use Rattle.csp_log.specs.declared.who.Who.TheVariants as who
use Rattle.csp_scene.specs.Links.{links_at}
use Rattle.csp_scene.specs.Scene.{PlainScene}
use Rattle.csp_topology.specs.Parties.{parties_of}

-- what all four priorities have
abbrev pub four : (Prio → ℕ) → ℕ
four f = f Critical + f High + f Normal + f Low

-- ---- each packet has one priority

one_of_four : (x : Prio) (c : ℕ) → four (λ p. if prio_number x == prio_number p then c else 0) ≡ c
one_of_four Critical c = omega arith
one_of_four High c = omega arith
one_of_four Normal c = omega arith
one_of_four Low c = omega arith

item_prioritized : (k : ℕ) (i : ItemShown) → four (λ p. among k (of_priority p i)) ≡ times k (item_numbers i)
item_prioritized k (item.Packet mark b) =
    omega (
      arith,
      one_of_four (priority_of b) (times k (item_numbers (item.Packet mark b))),
      among_if k (prio_number (priority_of b) == prio_number Critical) (item.Packet mark b),
      among_if k (prio_number (priority_of b) == prio_number High) (item.Packet mark b),
      among_if k (prio_number (priority_of b) == prio_number Normal) (item.Packet mark b),
      among_if k (prio_number (priority_of b) == prio_number Low) (item.Packet mark b),
    )
item_prioritized k (item.Frame f) = refl
item_prioritized k (item.Note n) = refl

prioritized : (k : ℕ) (is : List ItemShown) → four (λ p. among k (with_priority p is)) ≡ among k is
prioritized k [] = refl
prioritized k (i ∷ is) =
    let one = λ (p : Prio). among_more k (of_priority p i) (with_priority p is) in
    omega (arith, item_prioritized k i, prioritized k is, times-append k (item_numbers i) (numbers_of is), one Critical, one High, one Normal, one Low)

-- ---- and one mark

abbrev IsMarkedBelow : ℕ → ItemShown → Type 0
IsMarkedBelow ifaces (item.Packet mark b) = (mark ≡ UNMARKED) ⊎ (mark < ifaces)
IsMarkedBelow ifaces _ = ⊤

item_marked : (k ifaces : ℕ) (i : ItemShown) → ifaces ≤ UNMARKED → IsMarkedBelow ifaces i → among k (of_mark UNMARKED i) + over ifaces (λ j. among k (of_mark j i)) ≡ times k (item_numbers i)
item_marked k ifaces (item.Packet mark b) few h = by h
  where
    each : over ifaces (λ j. among k (of_mark j (item.Packet mark b))) ≡ over ifaces (λ j. if mark == j then times k (item_numbers (item.Packet mark b)) else 0)
    each = over_same ifaces (λ j. among k (of_mark j (item.Packet mark b))) (λ j. if mark == j then times k (item_numbers (item.Packet mark b)) else 0) (λ j low. among_if k (mark == j) (item.Packet mark b))

    unlike : (t : Bool) → (mark == UNMARKED) ≡ t → mark < ifaces → (if t then times k (item_numbers (item.Packet mark b)) else 0) ≡ 0
    unlike true e low = absurd (omega (arith, few, low, eqb-true mark UNMARKED e))
    unlike false e low = refl

    by : (mark ≡ UNMARKED) ⊎ (mark < ifaces) → among k (of_mark UNMARKED (item.Packet mark b)) + over ifaces (λ j. among k (of_mark j (item.Packet mark b))) ≡ times k (item_numbers (item.Packet mark b))
    by (inl e) =
        omega (
          arith,
          each,
          over_miss ifaces mark (times k (item_numbers (item.Packet mark b))) (omega (arith, few, e)),
          among_if k (mark == UNMARKED) (item.Packet mark b),
          ap (λ t. if t then times k (item_numbers (item.Packet mark b)) else 0) (eq-eqb mark UNMARKED e),
        )
    by (inr low) = omega (arith, each, over_hit ifaces mark (times k (item_numbers (item.Packet mark b))) low, among_if k (mark == UNMARKED) (item.Packet mark b), unlike (mark == UNMARKED) refl low)
item_marked k ifaces (item.Frame f) few h = omega (arith, over_none ifaces (λ j. 0) (λ j low. refl))
item_marked k ifaces (item.Note n) few h = omega (arith, over_none ifaces (λ j. 0) (λ j low. refl))

marked : (k ifaces : ℕ) (is : List ItemShown) → ifaces ≤ UNMARKED → AllByRecursion (IsMarkedBelow ifaces) is → among k (with_mark UNMARKED is) + over ifaces (λ j. among k (with_mark j is)) ≡ among k is
marked k ifaces [] few h = omega (arith, over_none ifaces (λ j. 0) (λ j low. refl))
marked k ifaces (i ∷ is) few h =
    omega (
      arith,
      item_marked k ifaces i few h.0,
      marked k ifaces is few h.1,
      times-append k (item_numbers i) (numbers_of is),
      among_more k (of_mark UNMARKED i) (with_mark UNMARKED is),
      over_both ifaces (λ j. among k (with_mark j (i ∷ is))) (λ j. among k (of_mark j i)) (λ j. among k (with_mark j is)) (λ j low. among_more k (of_mark j i) (with_mark j is)),
    )

-- a mark that no packet has is none of these
nil_last : {X : Type 0} (xs ys : List X) → xs ++ ys ≡ [] → ys ≡ []
nil_last [] ys e = e
nil_last (x ∷ xs) ys e = absurd cc

never_marked : (mark : ℕ) (b : Content) (is : List ItemShown) (at : ℕ) → slice_get is at ≡ Some (item.Packet mark b) → with_mark mark is ≡ [] → ⊥
never_marked mark b [] at e none = cc
never_marked mark b (i ∷ is) (suc at) e none = never_marked mark b is at e (nil_last (of_mark mark i) (with_mark mark is) none)
never_marked mark b (i ∷ is) zero e none =
    let same : i ≡ item.Packet mark b = same_Some i (item.Packet mark b) e in
    there (mark == mark) (eq-eqb mark mark refl) (ap (λ x. of_mark mark x ++ with_mark mark is) (sym same) ∙ none)
  where
    there : (t : Bool) → t ≡ true → (if t then item.Packet mark b ∷ [] else []) ++ with_mark mark is ≡ [] → ⊥
    there true h g = cc
    there false h g = cc

-- ---- an inbox

module _ (k : ℕ) (scene : PlainScene) (r : PlainRecord) (node : ℕ) (hub : Who) (are : AreLogsOf (parties_of scene) r.parties) (order : IsInboxInOrder r node hub) (few : length (links_at node scene.links) ≤ UNMARKED) where
  abbrev ifaces : ℕ
  ifaces = length (links_at node scene.links)

  -- where a node has no such interface it has no entries
  not_there : (j : ℕ) → ifaces ≤ j → entries_of r (who.Iface node j) ≡ []
  not_there j high = by (logged scene r (who.Iface node j) are)
    where
      by : (entries_of r (who.Iface node j) ≡ []) ⊎ Logged (IsOf scene) (who.Iface node j) r.parties → entries_of r (who.Iface node j) ≡ []
      by (inl none) = none
      by (inr log) =
          let mine : IsIfaceAt scene.nodes scene.links node j log.opening.party = owner_of scene r (who.Iface node j) log in
          absurd (omega (arith, high, slice_get_within (links_at node scene.links) j mine.link mine.on))

  all_marked : (p : Prio) → AllByRecursion (IsMarkedBelow ifaces) (came_through r node hub p)
  all_marked p = each_there (IsMarkedBelow ifaces) (came_through r node hub p) (λ at i there. by at i there)
    where
      test : (at mark : ℕ) (b : Content) → slice_get (came_through r node hub p) at ≡ Some (item.Packet mark b) → (t : Bool) → (mark == UNMARKED) ≡ t → (mark < ifaces) ⊎ (ifaces ≤ mark) → (mark ≡ UNMARKED) ⊎ (mark < ifaces)
      test at mark b there true e low = inl (eqb-true mark UNMARKED e)
      test at mark b there false e (inl low) = inr low
      test at mark b there false e (inr high) =
          let from : with_mark mark (came_through r node hub p) ≡ with_priority p (puts queue.Inbox (entries_of r (writer_of node hub mark))) = (order.priorities p).order mark in
          let writer : writer_of node hub mark ≡ who.Iface node mark = ap (λ t. if t then hub else who.Iface node mark) e in
          absurd (never_marked mark b (came_through r node hub p) at there (from ∙ ap (λ w. with_priority p (puts queue.Inbox (entries_of r w))) writer ∙ ap (λ es. with_priority p (puts queue.Inbox es)) (not_there mark high)))

      by : (at : ℕ) (i : ItemShown) → slice_get (came_through r node hub p) at ≡ Some i → IsMarkedBelow ifaces i
      by at (item.Packet mark b) there = test at mark b there (mark == UNMARKED) refl (cases_lt mark ifaces)
      by at (item.Frame f) there = tt
      by at (item.Note n) there = tt

  -- what they put, of a priority
  abbrev put_of : Prio → Who → ℕ
  put_of p w = among k (with_priority p (puts queue.Inbox (entries_of r w)))

  writer_is : (j : ℕ) → j < ifaces → writer_of node hub j ≡ who.Iface node j
  writer_is j low = by (j == UNMARKED) refl
    where
      by : (t : Bool) → (j == UNMARKED) ≡ t → (if t then hub else who.Iface node j) ≡ who.Iface node j
      by true e = absurd (omega (arith, few, low, eqb-true j UNMARKED e))
      by false e = refl

  through_so : (p : Prio) → among k (came_through r node hub p) ≡ put_of p hub + over ifaces (λ j. put_of p (who.Iface node j))
  through_so p =
      omega (
        arith,
        marked k ifaces (came_through r node hub p) few (all_marked p),
        ap (among k) ((order.priorities p).order UNMARKED),
        over_same ifaces (λ j. among k (with_mark j (came_through r node hub p))) (λ j. put_of p (who.Iface node j))
            (λ j low. ap (among k) ((order.priorities p).order j) ∙ ap (put_of p) (writer_is j low)),
      )

  abbrev left_of : Prio → ℕ
  left_of p = among k (left_in r node queue.Inbox (prio_number p))

  pub mail_balanced : got_in k (entries_of r hub) queue.Inbox + four left_of ≡ put_in k (entries_of r hub) queue.Inbox + over ifaces (λ j. put_in k (entries_of r (who.Iface node j)) queue.Inbox)
  mail_balanced =
      let got = λ (p : Prio). among k (with_priority p (gets queue.Inbox (entries_of r hub))) in
      let parted = λ (p : Prio). among_more k (with_priority p (gets queue.Inbox (entries_of r hub))) (left_in r node queue.Inbox (prio_number p)) in
      let from = λ (p : Prio) (j : ℕ). put_of p (who.Iface node j) in
      omega (
        arith,
        prioritized k (gets queue.Inbox (entries_of r hub)),
        prioritized k (puts queue.Inbox (entries_of r hub)),
        over_same ifaces (λ j. four (λ p. from p j)) (λ j. put_in k (entries_of r (who.Iface node j)) queue.Inbox) (λ j low. prioritized k (puts queue.Inbox (entries_of r (who.Iface node j)))),
        over_both ifaces (λ j. four (λ p. from p j)) (λ j. from Critical j + from High j + from Normal j) (λ j. from Low j) (λ j low. refl),
        over_both ifaces (λ j. from Critical j + from High j + from Normal j) (λ j. from Critical j + from High j) (λ j. from Normal j) (λ j low. refl),
        over_both ifaces (λ j. from Critical j + from High j) (λ j. from Critical j) (λ j. from High j) (λ j low. refl),
        parted Critical,
        parted High,
        parted Normal,
        parted Low,
        through_so Critical,
        through_so High,
        through_so Normal,
        through_so Low,
      )
