-- Among packets the two ways to look for a mark find the same.
use Rattle.std.proofs.Common.{◌≡◌, ℕ, ◌==◌, Bool, true, false, cond, List, [], ◌∷◌, ◌++◌, flat_map, refl, sym, ap, ◌∙◌}
use Rattle.std.specs.List.{AllByRecursion}
use Rattle.std.specs.Prelude.{if◌then◌else◌}
use Rattle.std.proofs.lemmas.Grind.{flat_map-append}
use Rattle.std.proofs.lemmas.List.Elements.{filter-append}
use Rattle.csp_base.specs.Priority.{prio_number}
use Rattle.csp_base.specs.declared.priority.Prio.{Prio}
use Rattle.csp_buffer.specs.Content.{Content}
use Rattle.csp_consistent.specs.Pools.{is_node}
use Rattle.csp_consistent.specs.Reading.{of_mark, puts, with_mark, with_priority}
use Rattle.csp_deck.specs.Carried.{IsCarried, priority_of}
use Rattle.csp_inbox.specs.Marks as marks
use Rattle.csp_log.specs.Who.{node_of}
use Rattle.csp_log.specs.declared.places.QueueId.TheVariants as queue
use Rattle.csp_log.specs.declared.places.Rule.TheVariants as rule
use Rattle.csp_log.specs.declared.shown.ItemShown.TheVariants as item
use Rattle.csp_log.specs.declared.shown.ItemShown.{ItemShown}
use Rattle.csp_record.specs.Record.{PlainPartyLog}

same_packet : (c : Bool) (i : ItemShown) (xs ys : List ItemShown) → xs ≡ ys → cond c (i ∷ xs) xs ≡ (if c then i ∷ [] else []) ++ ys
same_packet true i xs ys e = ap (λ js. i ∷ js) e
same_packet false i xs ys e = e

pub same_marked : (p : Prio) (m : ℕ) (is : List ItemShown) → AllByRecursion (IsCarried (rule.Priority p)) is → marks.with_mark m is ≡ with_mark m is
same_marked p m [] all = refl
same_marked p m (item.Packet k b ∷ is) all = same_packet (k == m) (item.Packet k b) (marks.with_mark m is) (with_mark m is) (same_marked p m is all.1)
same_marked p m (item.Frame f ∷ is) all = absurd all.0
same_marked p m (item.Note n ∷ is) all = absurd all.0

-- all that is of a priority is packets
same_kept : (c : Bool) (m k : ℕ) (b : Content) (is : List ItemShown) → marks.with_mark m is ≡ with_mark m is → marks.with_mark m ((if c then item.Packet k b ∷ [] else []) ++ is) ≡ with_mark m ((if c then item.Packet k b ∷ [] else []) ++ is)
same_kept true m k b is e = same_packet (k == m) (item.Packet k b) (marks.with_mark m is) (with_mark m is) e
same_kept false m k b is e = e

priority_marks : (p : Prio) (m : ℕ) (is : List ItemShown) → marks.with_mark m (with_priority p is) ≡ with_mark m (with_priority p is)
priority_marks p m [] = refl
priority_marks p m (item.Packet k b ∷ is) = same_kept (prio_number (priority_of b) == prio_number p) m k b (with_priority p is) (priority_marks p m is)
priority_marks p m (item.Frame f ∷ is) = priority_marks p m is
priority_marks p m (item.Note n ∷ is) = priority_marks p m is

-- so what the parties of a node put
abbrev pub put_at : ℕ → Prio → PlainPartyLog → List ItemShown
put_at node p log = (if is_node node (node_of log.who) then with_priority p (puts queue.Inbox log.entries) else [])

pub logs_marks : (node : ℕ) (p : Prio) (m : ℕ) (logs : List PlainPartyLog) → marks.with_mark m (flat_map (put_at node p) logs) ≡ with_mark m (flat_map (put_at node p) logs)
logs_marks node p m [] = refl
logs_marks node p m (log ∷ logs) =
    filter-append (λ i. marks.mark_of i == m) (put_at node p log) (flat_map (put_at node p) logs)
    ∙ (λ i. by (is_node node (node_of log.who)) i ++ logs_marks node p m logs i)
    ∙ sym (flat_map-append (of_mark m) (put_at node p log) (flat_map (put_at node p) logs))
  where
    mine : List ItemShown
    mine = with_priority p (puts queue.Inbox log.entries)

    by : (c : Bool) → marks.with_mark m (if c then mine else []) ≡ with_mark m (if c then mine else [])
    by true = priority_marks p m (puts queue.Inbox log.entries)
    by false = refl
