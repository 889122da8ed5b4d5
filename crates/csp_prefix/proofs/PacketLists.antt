-- What holds of each packet among items: of those of each priority, or with each mark; and what is read off a record's logs.
use Rattle.std.proofs.Common.{◌≡◌, ℕ, ◌+◌, ◌==◌, ◌&&◌, Bool, true, false, cond, List, [], ◌∷◌, ◌++◌, flat_map, filter_map, refl, sym, ap, ◌∙◌, subst, arith}
use Rattle.std.specs.Prelude.{if◌then◌else◌, count_by}
use Rattle.std.specs.List.{AllByRecursion, cons_option}
use Rattle.std.proofs.lemmas.Bool.{eq-eqb}
use Rattle.std.proofs.lemmas.Grind.{flat_map-append}
use Rattle.std.proofs.lemmas.List.Sums.{sum_by-cons}
use Rattle.csp_base.specs.Priority.{prio_number}
use Rattle.csp_base.specs.declared.priority.Prio.{Prio}
use Rattle.csp_buffer.specs.Content.{Content}
use Rattle.csp_deck.specs.Carried.{priority_of}
use Rattle.csp_log.specs.Moving.{moved_by, moved_in}
use Rattle.csp_log.specs.PlainLog.{all_events}
use Rattle.csp_log.specs.declared.entry.Entry.{Entry}
use Rattle.csp_log.specs.declared.event.Event.{Event}
use Rattle.csp_log.specs.declared.places.QueueId.{QueueId}
use Rattle.csp_log.specs.declared.places.QueueId.TheVariants as queue
use Rattle.csp_log.specs.declared.shown.ItemShown.{ItemShown}
use Rattle.csp_log.specs.declared.shown.ItemShown.TheVariants as item
use Rattle.csp_log.specs.declared.shown.OpShown.{OpShown}
use Rattle.csp_log.specs.declared.shown.OpShown.TheVariants as op
use Rattle.csp_log.specs.declared.shown.AnswerShown.{AnswerShown}
use Rattle.csp_log.specs.declared.shown.AnswerShown.TheVariants as answer
use Rattle.csp_record.specs.Passed.{accepted_by, put_in}
use Rattle.csp_record.specs.Record.{PlainPartyLog}
use Rattle.csp_record.specs.Transmissions.{iface_entries}
use Rattle.csp_log.specs.Who.{is_any_iface, is_iface, is_who}
use Rattle.csp_log.specs.declared.who.Who.{Who}
use Rattle.csp_log.specs.declared.who.Who.TheVariants as who
use Rattle.csp_scene.proofs.Public.{AllByRecursion-append}
use Rattle.csp_consistent.specs.Reading.{is_queue, of_mark, of_priority, put_by, puts, with_mark, with_priority}
use Rattle.csp_prefix.specs.Routers.{IsOfKind}
use Rattle.csp_consistent.proofs.Public.{each_first, each_if, each_last, entries_in}

-- ---- each element

pub each_any : {X : Type 0} (P : X → Type 0) (xs : List X) → ((x : X) → P x) → AllByRecursion P xs
each_any P [] h = tt
each_any P (x ∷ xs) h = (h x, each_any P xs h)

pub each_both : {X : Type 0} (P Q R : X → Type 0) (xs : List X) → ((x : X) → P x → Q x → R x) → AllByRecursion P xs → AllByRecursion Q xs → AllByRecursion R xs
each_both P Q R [] h ps qs = tt
each_both P Q R (x ∷ xs) h ps qs = (h x ps.0 qs.0, each_both P Q R xs h ps.1 qs.1)

pub each_flat : {X Y : Type 0} (P : X → Type 0) (Q : Y → Type 0) (f : X → List Y) (xs : List X) → ((x : X) → P x → AllByRecursion Q (f x)) → AllByRecursion P xs → AllByRecursion Q (flat_map f xs)
each_flat P Q f [] h all = tt
each_flat P Q f (x ∷ xs) h all = AllByRecursion-append Q (f x) (flat_map f xs) (h x all.0) (each_flat P Q f xs h all.1)

-- where a count is 0, no element passes the test
pub none_counted : {X : Type 0} (test : X → Bool) (xs : List X) → count_by test xs ≡ 0 → AllByRecursion (λ x. test x ≡ false) xs
none_counted test [] e = tt
none_counted test (x ∷ xs) e =
    by (test x) refl (λ f. none_counted test xs f)
  where
    by : (b : Bool) → test x ≡ b → (count_by test xs ≡ 0 → AllByRecursion (λ x. test x ≡ false) xs) → AllByRecursion (λ x. test x ≡ false) (x ∷ xs)
    by true h rest =
        let all : cond (test x) 1 0 + count_by test xs ≡ 0 = sym (sum_by-cons (λ y. cond (test y) 1 0) x xs) ∙ e in
        absurd (omega (arith, all, ap {B = ℕ} (λ b. cond b 1 0) h))
    by false h rest =
        let all : cond (test x) 1 0 + count_by test xs ≡ 0 = sym (sum_by-cons (λ y. cond (test y) 1 0) x xs) ∙ e in
        (h, rest (omega (arith, all, ap {B = ℕ} (λ b. cond b 1 0) h)))

-- ---- packets among items

in_priority : (P : ItemShown → Type 0) (p : Prio) (i : ItemShown) → P i → AllByRecursion P (of_priority p i)
in_priority P p (item.Packet mark b) h = each_if P (prio_number (priority_of b) == prio_number p) (item.Packet mark b) h
in_priority P p (item.Frame _) h = tt
in_priority P p (item.Note _) h = tt

pub each_of_priority : (P : ItemShown → Type 0) (p : Prio) (is : List ItemShown) → AllByRecursion P is → AllByRecursion P (with_priority p is)
each_of_priority P p is all = each_flat P P (of_priority p) is (in_priority P p) all

own_priority : (R : Content → Type 0) (i : ItemShown) → ((p : Prio) → AllByRecursion (IsOfKind R) (of_priority p i)) → IsOfKind R i
own_priority R (item.Packet mark b) h =
    (subst (λ c. AllByRecursion (IsOfKind R) (if c then item.Packet mark b ∷ [] else [])) (eq-eqb (prio_number (priority_of b)) (prio_number (priority_of b)) refl) (h (priority_of b))).0
own_priority R (item.Frame _) h = tt
own_priority R (item.Note _) h = tt

-- what holds of the packets of each priority holds of all
pub by_priority : (R : Content → Type 0) (is : List ItemShown) → ((p : Prio) → AllByRecursion (IsOfKind R) (with_priority p is)) → AllByRecursion (IsOfKind R) is
by_priority R [] h = tt
by_priority R (i ∷ is) h = (
  own_priority R i (λ p. each_first (IsOfKind R) (of_priority p i) (with_priority p is) (h p)),
  by_priority R is (λ p. each_last (IsOfKind R) (of_priority p i) (with_priority p is) (h p)),
)

own_mark : (R : Content → Type 0) (i : ItemShown) → ((mark : ℕ) → AllByRecursion (IsOfKind R) (of_mark mark i)) → IsOfKind R i
own_mark R (item.Packet mark b) h =
    (subst (λ c. AllByRecursion (IsOfKind R) (if c then item.Packet mark b ∷ [] else [])) (eq-eqb mark mark refl) (h mark)).0
own_mark R (item.Frame _) h = tt
own_mark R (item.Note _) h = tt

-- what holds of the packets with each mark holds of all
pub by_mark : (R : Content → Type 0) (is : List ItemShown) → ((mark : ℕ) → AllByRecursion (IsOfKind R) (with_mark mark is)) → AllByRecursion (IsOfKind R) is
by_mark R [] h = tt
by_mark R (i ∷ is) h = (
  own_mark R i (λ mark. each_first (IsOfKind R) (of_mark mark i) (with_mark mark is) (h mark)),
  by_mark R is (λ mark. each_last (IsOfKind R) (of_mark mark i) (with_mark mark is) (h mark)),
)

-- ---- logs of a record

pub puts_append : (q : QueueId) (xs ys : List Entry) → puts q (xs ++ ys) ≡ puts q xs ++ puts q ys
puts_append q xs ys = flat_map-append (λ (e : Entry). put_by q e.op e.answer) xs ys

-- the entries of an interface are those of its name
iface_same : (node number : ℕ) (w : Who) → is_iface node number w ≡ is_who (who.Iface node number) w
iface_same node number (who.Router _) = refl
iface_same node number (who.Bridge _) = refl
iface_same node number (who.Iface _ _) = refl
iface_same node number (who.App _ _) = refl
iface_same node number (who.Link _) = refl

pub iface_entries_in : (logs : List PlainPartyLog) (node number : ℕ) → iface_entries logs node number ≡ entries_in (who.Iface node number) logs
iface_entries_in [] node number = refl
iface_entries_in (log ∷ logs) node number =
    ap (λ b. (if b then log.entries else []) ++ iface_entries logs node number) (iface_same node number log.who)
    ∙ ap (λ es. (if is_who (who.Iface node number) log.who then log.entries else []) ++ es) (iface_entries_in logs node number)

-- what interfaces put into inboxes is what an interface of this name put there
accepted_one : (R : Content → Type 0) (o : OpShown) (a : AnswerShown) (rest : List Content) → AllByRecursion R (cons_option (put_in (moved_by o a)) rest) → AllByRecursion (IsOfKind R) (put_by queue.Inbox o a) × AllByRecursion R rest
accepted_one R (op.Push queue.Inbox (item.Packet mark b)) answer.Pushed rest all = ((all.0, tt), all.1)
accepted_one R (op.Push (queue.Up k) (item.Packet mark b)) answer.Pushed rest all = (tt, all)
accepted_one R (op.Push (queue.Down k) (item.Packet mark b)) answer.Pushed rest all = (tt, all)
accepted_one R (op.Push (queue.Out k) (item.Packet mark b)) answer.Pushed rest all = (tt, all)
accepted_one R (op.Push (queue.Tx k) (item.Packet mark b)) answer.Pushed rest all = (tt, all)
accepted_one R (op.Push (queue.Rx k) (item.Packet mark b)) answer.Pushed rest all = (tt, all)
accepted_one R (op.Push q (item.Frame f)) answer.Pushed rest all = (each_if (IsOfKind R) (is_queue queue.Inbox q) (item.Frame f) tt, all)
accepted_one R (op.Push q (item.Note n)) answer.Pushed rest all = (each_if (IsOfKind R) (is_queue queue.Inbox q) (item.Note n) tt, all)
accepted_one R (op.Pop q) (answer.Popped (item.Packet mark b)) rest all = (tt, all)
accepted_one R (op.Pop q) (answer.Popped (item.Frame _)) rest all = (tt, all)
accepted_one R (op.Pop q) (answer.Popped (item.Note _)) rest all = (tt, all)
accepted_one R _ _ rest all = (tt, all)

accepted_entries : (R : Content → Type 0) (es : List Entry) → AllByRecursion R (filter_map (λ e. put_in (moved_in e)) es) → AllByRecursion (IsOfKind R) (puts queue.Inbox es)
accepted_entries R [] all = tt
accepted_entries R (e ∷ es) all =
    let one : AllByRecursion (IsOfKind R) (put_by queue.Inbox e.op e.answer) × AllByRecursion R (filter_map (λ e. put_in (moved_in e)) es) = accepted_one R e.op e.answer (filter_map (λ e. put_in (moved_in e)) es) all in
    AllByRecursion-append (IsOfKind R) (put_by queue.Inbox e.op e.answer) (puts queue.Inbox es) one.0 (accepted_entries R es one.1)

accepted_here : (R : Content → Type 0) (node number : ℕ) (w : Who) (es : List Entry) → AllByRecursion R (if is_any_iface w then filter_map (λ e. put_in (moved_in e)) es else [])
    → AllByRecursion (IsOfKind R) (puts queue.Inbox (if is_who (who.Iface node number) w then es else []))
accepted_here R node number (who.Iface other k) es all =
    by (other == node && k == number)
  where
    by : (c : Bool) → AllByRecursion (IsOfKind R) (puts queue.Inbox (if c then es else []))
    by true = accepted_entries R es all
    by false = tt
accepted_here R node number (who.Router _) es all = tt
accepted_here R node number (who.Bridge _) es all = tt
accepted_here R node number (who.App _ _) es all = tt
accepted_here R node number (who.Link _) es all = tt

pub accepted_of : (R : Content → Type 0) (node number : ℕ) (logs : List PlainPartyLog) → AllByRecursion R (flat_map accepted_by logs) → AllByRecursion (IsOfKind R) (puts queue.Inbox (entries_in (who.Iface node number) logs))
accepted_of R node number [] all = tt
accepted_of R node number (log ∷ logs) all =
    let here : List Entry = if is_who (who.Iface node number) log.who then log.entries else [] in
    subst (AllByRecursion (IsOfKind R)) (sym (puts_append queue.Inbox here (entries_in (who.Iface node number) logs)))
    (AllByRecursion-append (IsOfKind R) (puts queue.Inbox here) (puts queue.Inbox (entries_in (who.Iface node number) logs))
    (accepted_here R node number log.who log.entries (each_first R (accepted_by log) (flat_map accepted_by logs) all))
    (accepted_of R node number logs (each_last R (accepted_by log) (flat_map accepted_by logs) all)))

-- what holds of each event of a record holds of those of a name
pub events_of : (P : Event → Type 0) (w : Who) (logs : List PlainPartyLog) → AllByRecursion P (flat_map (λ log. all_events log.entries) logs) → AllByRecursion P (all_events (entries_in w logs))
events_of P w [] all = tt
events_of P w (log ∷ logs) all =
    let here : List Entry = if is_who w log.who then log.entries else [] in
    subst (AllByRecursion P) (sym (flat_map-append (λ (e : Entry). e.events.items) here (entries_in w logs)))
    (AllByRecursion-append P (all_events here) (all_events (entries_in w logs))
    (by (is_who w log.who))
    (events_of P w logs (each_last P (all_events log.entries) (flat_map (λ log. all_events log.entries) logs) all)))
  where
    by : (c : Bool) → AllByRecursion P (all_events (if c then log.entries else []))
    by true = each_first P (all_events log.entries) (flat_map (λ log. all_events log.entries) logs) all
    by false = tt
