-- The serials of an interface's transmissions are those below their number.
use Rattle.std.proofs.Common.{◌≡◌, inl, inr, ℕ, ◌+◌, ◌<◌, ◌≤◌, Bool, true, false, cond, Option, None, Some, List, [], ◌∷◌, ◌++◌, filter_map, option_map, slice_get, count_by, refl, sym, ap, ◌∙◌, arith}
use Rattle.std.proofs.lemmas.Bool.{cases_lt}
use Rattle.std.proofs.lemmas.List.Sums.{sum_by-append}
use Rattle.std.specs.List.{cons_option}
use Rattle.csp_buffer.specs.Content.{Content}
use Rattle.csp_deck.specs.Runs.{IsRun}
use Rattle.csp_iface.specs.Asking.{asked}
use Rattle.csp_iface.specs.PlainIface.{PlainIface}
use Rattle.csp_iface.specs.Planning.{plan_of}
use Rattle.csp_iface.specs.Telling.{bad, caught, concluded, fetched, is_too_big, kept, pushed, taken_up, tells, after_answer}
use Rattle.csp_iface.specs.declared.plan.IfacePlan.{IfacePlan}
use Rattle.csp_iface.specs.declared.plan.IfacePlan.TheVariants as plan
use Rattle.csp_log.specs.PlainLog.{all_events}
use Rattle.csp_log.specs.declared.entry.Entry.{Entry}
use Rattle.csp_log.specs.declared.event.Event.{Event}
use Rattle.csp_log.specs.declared.event.Event.TheVariants as event
use Rattle.csp_log.specs.declared.places.LinkKind.{LinkKind}
use Rattle.csp_log.specs.declared.shown.AnswerShown.{AnswerShown}
use Rattle.csp_log.specs.declared.shown.AnswerShown.TheVariants as answer
use Rattle.csp_log.specs.declared.shown.ItemShown.{ItemShown}
use Rattle.csp_log.specs.declared.shown.ItemShown.TheVariants as item
use Rattle.csp_party.specs.Any.{an_iface}
use Rattle.csp_record.specs.Transmissions.{shown_in}
use Rattle.csp_topology.specs.Parties.{iface_opening, party_steps}
use Rattle.csp_consistent.proofs.Public.{told, waiting, Marked, begun_step, caught_serial, handed_serial, kept_serial, pushed_serial, shown_as, turn_silent}
use Rattle.csp_ordinary.specs.Ordinary.{is_transmission, transmissions}

-- how many transmissions events tell
abbrev count : List Event → ℕ
count es = count_by is_transmission es

count_append : (xs ys : List Event) → count (xs ++ ys) ≡ count xs + count ys
count_append xs ys = sum_by-append (λ (e : Event). cond (is_transmission e) 1 0) xs ys

at_most : (m n c : ℕ) → n ≡ m → n ≤ m + c
at_most m n c e = omega (arith, e)

-- a turn raises the serial by no more than it tells
fetched_counts : (i : ItemShown) (s : PlainIface) → (fetched i s).iface.serial ≤ s.serial + count (fetched i s).events
fetched_counts (item.Packet mark b) s =
    taken (is_too_big s b)
  where
    taken : (big : Bool) → (taken_up big mark b s).iface.serial ≤ s.serial + count (taken_up big mark b s).events
    taken true = at_most s.serial s.serial (count (event.TooBig ∷ [])) refl
    taken false =
        let one : count (event.Transmitted s.serial ∷ []) ≡ 1 = refl in
        omega (arith, one)
fetched_counts (item.Frame f) s = at_most s.serial s.serial (count []) refl
fetched_counts (item.Note n) s = at_most s.serial s.serial (count []) refl

told_counts : (s : PlainIface) (now : ℕ) (p : IfacePlan) (a : AnswerShown) → (told s now p a).serial ≤ s.serial + count (after_answer (waiting s p) now p a).events
told_counts s now plan.Return answer.Given = at_most s.serial s.serial (count []) refl
told_counts s now plan.Return (answer.PoolFull b) = at_most s.serial s.serial (count []) refl
told_counts s now plan.Deliver answer.Pushed = at_most s.serial s.serial (count []) refl
told_counts s now plan.Deliver (answer.Full i) = at_most s.serial s.serial (count (event.InboxFull ∷ [])) refl
told_counts s now plan.Take (answer.Taken b) = at_most s.serial s.serial (count []) refl
told_counts s now plan.Take answer.NoBuffer = at_most s.serial s.serial (count (event.Starved ∷ [])) refl
told_counts s now plan.Transmit answer.Pushed = at_most s.serial (pushed (waiting s plan.Transmit).frames (waiting s plan.Transmit)).serial (count []) (pushed_serial (waiting s plan.Transmit).frames (waiting s plan.Transmit))
told_counts s now plan.Transmit (answer.Full i) = at_most s.serial (kept i (waiting s plan.Transmit)).serial (count []) (kept_serial i (waiting s plan.Transmit))
told_counts s now plan.Fetch (answer.Popped i) = fetched_counts i (waiting s plan.Fetch)
told_counts s now plan.Fetch answer.Empty = at_most s.serial s.serial (count []) refl
told_counts s now plan.Receive (answer.Popped i) =
    at_most s.serial (caught now i (waiting s plan.Receive)).iface.serial (count (caught now i (waiting s plan.Receive)).events) (caught_serial now i (waiting s plan.Receive))
told_counts s now plan.Receive answer.Empty = at_most s.serial s.serial (count []) refl
told_counts s now p a = at_most s.serial (waiting s p).serial (count []) (handed_serial s p)

-- a serial that the entries of an interface show is less than its serial before them and their number of transmissions
shown_below : (es : List Entry) (time : ℕ) (s : PlainIface) → IsRun party_steps time (an_iface s) es → (n : ℕ) (b : Content) → slice_get (filter_map (shown_in n) es) 0 ≡ Some b → n < s.serial + transmissions es
shown_below [] time s run n b is = absurd cc
shown_below (e ∷ es) time s run n b is =
    let p : IfacePlan = plan_of s in
    let k : ℕ = (concluded (asked s e.time) e.time e.answer).refused in
    let t : PlainIface = tells (asked s e.time) e.time e.answer in
    let own : List Event = (after_answer (waiting s p) e.time p e.answer).events in
    let rises : (told s e.time p e.answer).serial ≤ s.serial + count own = told_counts s e.time p e.answer in
    let told_all : count e.events.items ≡ count own + count (bad k) = ap count run.1.events ∙ count_append own (bad k) in
    let all : transmissions (e ∷ es) ≡ count e.events.items + transmissions es = count_append e.events.items (all_events es) in
    elim (cases_lt n (told s e.time p e.answer).serial) [
      | inl low ↦ omega (arith, low, rises, told_all, all)
      | inr high ↦
          let none : shown_in n e ≡ None = shown_as n e ∙ ap (option_map (λ (x : Marked). x.1)) (begun_step n s e run.1 ∙ turn_silent n s e.time p e.answer k high) in
          let later : n < t.serial + transmissions es = shown_below es e.time t run.2 n b (ap (λ o. slice_get (cons_option o (filter_map (shown_in n) es)) 0) (sym none) ∙ is) in
          let same : t.serial ≡ (told s e.time p e.answer).serial = refl in
          omega (arith, later, same, rises, told_all, all)
    ]

pub serial_below : (node number : ℕ) (kind : LinkKind) (mtu : ℕ) (heeds : Option ℕ) (es : List Entry) → IsRun party_steps 0 (an_iface (iface_opening node number kind mtu heeds)) es
    → (n : ℕ) (b : Content) → slice_get (filter_map (shown_in n) es) 0 ≡ Some b → n < transmissions es
serial_below node number kind mtu heeds es run n b is = omega (arith, shown_below es 0 (iface_opening node number kind mtu heeds) run n b is)
