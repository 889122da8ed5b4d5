-- That no packet is counted as changed, where none that an interface put into an inbox is.
use Rattle.std.proofs.Common.{◌≡◌, ℕ, zero, suc, ◌+◌, Bool, false, cond, Some, List, [], ◌∷◌, count_by, filter_map, flat_map, slice_get, unwrap_or, refl, sym, ap, ◌∙◌, subst}
use Rattle.std.proofs.lemmas.List.Sums.{sum_by-cons}
use Rattle.std.specs.List.{AllByRecursion, cons_option}
use Rattle.std.specs.Prelude.{if◌then◌else◌}
use Rattle.csp_buffer.specs.Content.{Content}
use Rattle.csp_log.specs.Moving.{moved_by, moved_in}
use Rattle.csp_log.specs.declared.entry.Entry.{Entry}
use Rattle.csp_log.specs.declared.places.QueueId.TheVariants as queue
use Rattle.csp_log.specs.declared.shown.AnswerShown.{AnswerShown}
use Rattle.csp_log.specs.declared.shown.AnswerShown.TheVariants as answer
use Rattle.csp_log.specs.declared.shown.ItemShown.{ItemShown}
use Rattle.csp_log.specs.declared.shown.ItemShown.TheVariants as item
use Rattle.csp_log.specs.declared.shown.OpShown.{OpShown}
use Rattle.csp_log.specs.declared.shown.OpShown.TheVariants as op
use Rattle.csp_record.specs.Passed.{accepted_by, is_changed, passed, put_in}
use Rattle.csp_record.specs.Record.{PlainPartyLog, PlainRecord}
use Rattle.csp_log.specs.Who.{is_any_iface}
use Rattle.csp_log.specs.declared.who.Who.{Who}
use Rattle.csp_log.specs.declared.who.Who.TheVariants as who
use Rattle.csp_scene.proofs.Public.{AllByRecursion-append}
use Rattle.csp_scene.specs.Scene.{PlainScene}
use Rattle.csp_topology.specs.Parties.{PlainOpening, parties_of}
use Rattle.csp_consistent.specs.Reading.{entries_of, put_by, puts}
use Rattle.csp_consistent.specs.Runs.{AreLogsOf}
use Rattle.csp_consistent.proofs.Public.{each_first, each_last, each_there, are_apart, entries_at, entries_in}

-- a packet among items is so
abbrev pub IsPacketWith : (Content → Type 0) → ItemShown → Type 0
IsPacketWith R (item.Packet mark b) = R b
IsPacketWith R (item.Frame _) = ⊥
IsPacketWith R (item.Note _) = ⊥

-- what an entry accepted is what it put into an inbox
accepted_one : (R : Content → Type 0) (o : OpShown) (a : AnswerShown) (rest : List Content) → AllByRecursion (IsPacketWith R) (put_by queue.Inbox o a) → AllByRecursion R rest → AllByRecursion R (cons_option (put_in (moved_by o a)) rest)
accepted_one R (op.Push queue.Inbox (item.Packet mark b)) answer.Pushed rest all more = (all.0, more)
accepted_one R (op.Push (queue.Up k) (item.Packet mark b)) answer.Pushed rest all more = more
accepted_one R (op.Push (queue.Down k) (item.Packet mark b)) answer.Pushed rest all more = more
accepted_one R (op.Push (queue.Out k) (item.Packet mark b)) answer.Pushed rest all more = more
accepted_one R (op.Push (queue.Tx k) (item.Packet mark b)) answer.Pushed rest all more = more
accepted_one R (op.Push (queue.Rx k) (item.Packet mark b)) answer.Pushed rest all more = more
accepted_one R (op.Push q (item.Frame f)) answer.Pushed rest all more = more
accepted_one R (op.Push q (item.Note n)) answer.Pushed rest all more = more
accepted_one R (op.Pop q) (answer.Popped (item.Packet mark b)) rest all more = more
accepted_one R (op.Pop q) (answer.Popped (item.Frame _)) rest all more = more
accepted_one R (op.Pop q) (answer.Popped (item.Note _)) rest all more = more
accepted_one R _ _ rest all more = more

pub accepted_all : (R : Content → Type 0) (es : List Entry) → AllByRecursion (IsPacketWith R) (puts queue.Inbox es) → AllByRecursion R (filter_map (λ e. put_in (moved_in e)) es)
accepted_all R [] all = tt
accepted_all R (e ∷ es) all =
    accepted_one R e.op e.answer (filter_map (λ e. put_in (moved_in e)) es) (each_first (IsPacketWith R) (put_by queue.Inbox e.op e.answer) (puts queue.Inbox es) all)
    (accepted_all R es (each_last (IsPacketWith R) (put_by queue.Inbox e.op e.answer) (puts queue.Inbox es) all))

-- where all that each interface put into its inbox is so, all that a party accepted is
opening_at : (os : List PlainOpening) (logs : List PlainPartyLog) (k : ℕ) (log : PlainPartyLog) → AreLogsOf os logs → slice_get logs k ≡ Some log → (o : PlainOpening) × (slice_get os k ≡ Some o)
opening_at [] [] k log are e = absurd cc
opening_at [] (l ∷ logs) k log are e = absurd are
opening_at (o ∷ os) [] k log are e = absurd are
opening_at (o ∷ os) (l ∷ logs) zero log are e = (o, refl)
opening_at (o ∷ os) (l ∷ logs) (suc k) log are e = opening_at os logs k log are.1 e

by_who : (R : Content → Type 0) (w : Who) (es : List Entry) → ((node number : ℕ) → w ≡ who.Iface node number → AllByRecursion (IsPacketWith R) (puts queue.Inbox es)) → AllByRecursion R (if is_any_iface w then filter_map (λ e. put_in (moved_in e)) es else [])
by_who R (who.Iface node number) es h = accepted_all R es (h node number refl)
by_who R (who.Router _) es h = tt
by_who R (who.Bridge _) es h = tt
by_who R (who.App _ _) es h = tt
by_who R (who.Link _) es h = tt

one_accepted : (R : Content → Type 0) (scene : PlainScene) (r : PlainRecord) → AreLogsOf (parties_of scene) r.parties
    → ((node number : ℕ) → AllByRecursion (IsPacketWith R) (puts queue.Inbox (entries_of r (who.Iface node number)))) → (k : ℕ) (log : PlainPartyLog) → slice_get r.parties k ≡ Some log → AllByRecursion R (accepted_by log)
one_accepted R scene r are each k log there =
    let o = opening_at (parties_of scene) r.parties k log are there in
    let found = entries_at (parties_of scene) r.parties k o.0 are (are_apart scene) o.1 in
    let same : found.0 ≡ log = ap (λ x. unwrap_or x log) (sym found.1 ∙ there) in
    let name : log.who ≡ o.0.who = ap (λ (l : PlainPartyLog). l.who) (sym same) ∙ found.2.who in
    let entries : entries_in o.0.who r.parties ≡ log.entries = found.3 ∙ ap (λ (l : PlainPartyLog). l.entries) same in
    by_who R log.who log.entries (λ node number is.
    subst (λ es. AllByRecursion (IsPacketWith R) (puts queue.Inbox es)) (ap (λ w. entries_in w r.parties) (sym is ∙ name) ∙ entries) (each node number))

all_flat : {X Y : Type 0} (P : Y → Type 0) (f : X → List Y) (xs : List X) → AllByRecursion (λ x. AllByRecursion P (f x)) xs → AllByRecursion P (flat_map f xs)
all_flat P f [] all = tt
all_flat P f (x ∷ xs) all = AllByRecursion-append P (f x) (flat_map f xs) all.0 (all_flat P f xs all.1)

none_passes : {X : Type 0} (test : X → Bool) (xs : List X) → AllByRecursion (λ x. test x ≡ false) xs → count_by test xs ≡ 0
none_passes test [] all = refl
none_passes test (x ∷ xs) all = sum_by-cons (λ y. cond (test y) 1 0) x xs ∙ (λ i. cond {A = ℕ} (all.0 i) 1 0 + none_passes test xs all.1 i)

pub counts_none : (scene : PlainScene) (r : PlainRecord) → AreLogsOf (parties_of scene) r.parties
    → ((node number : ℕ) → AllByRecursion (IsPacketWith (λ b. is_changed r b ≡ false)) (puts queue.Inbox (entries_of r (who.Iface node number)))) → passed r ≡ 0
counts_none scene r are each =
    none_passes (is_changed r) (flat_map accepted_by r.parties)
    (all_flat (λ b. is_changed r b ≡ false) accepted_by r.parties (each_there (λ log. AllByRecursion (λ b. is_changed r b ≡ false) (accepted_by log)) r.parties (one_accepted (λ b. is_changed r b ≡ false) scene r are each)))
