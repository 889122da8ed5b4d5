-- How a turn that goes through the inbox is served.
use Rattle.std.proofs.Common.{◌≡◌, ℕ, ◌+◌, ◌==◌, Bool, true, false, cond, max, Result, Ok, Err, List, [], ◌∷◌, ◌++◌, length, refl, sym, ap, ◌∙◌}
use Rattle.std.specs.Prelude.{if◌then◌else◌, nat_lt, MatchResult}
use Rattle.std.proofs.lemmas.Bool.{eq-eqb}
use Rattle.std.proofs.lemmas.List.{append-nil}
use Rattle.csp_base.specs.Priority.{prio_number}
use Rattle.csp_base.specs.declared.priority.Prio.{Prio}
use Rattle.csp_base.specs.declared.priority.Prio.TheVariants.{Critical, High, Normal, Low}
use Rattle.csp_consistent.specs.Reading.{with_priority}
use Rattle.csp_deck.specs.Carried.{IsOfPriority, priority_of}
use Rattle.csp_ends.specs.Moves.{mail_after, post_after}
use Rattle.csp_ends.proofs.Still.{mail_moves, mail_still}
use Rattle.csp_inbox.specs.Marks.{mark_of}
use Rattle.csp_inbox.specs.Passes as inbox
use Rattle.csp_inbox.specs.declared.hand.Mail.{Mail}
use Rattle.csp_log.specs.Pictures.{shown_item}
use Rattle.csp_log.specs.declared.item.Item.{Item}
use Rattle.csp_log.specs.declared.places.QueueId.TheVariants as queue
use Rattle.csp_log.specs.declared.shown.AnswerShown.{AnswerShown}
use Rattle.csp_log.specs.declared.shown.AnswerShown.TheVariants as answer
use Rattle.csp_log.specs.declared.shown.ItemShown.{ItemShown}
use Rattle.csp_log.specs.declared.shown.ItemShown.TheVariants as item
use Rattle.csp_log.specs.declared.shown.OpShown.{OpShown}
use Rattle.csp_log.specs.declared.shown.OpShown.TheVariants as op

-- a packet is among those of its priority
abbrev kept_if : Bool → ItemShown → List ItemShown
kept_if b i = (if b then i ∷ [] else []) ++ []

pub own_priority : (p : Prio) (i : ItemShown) → IsOfPriority p i → with_priority p (i ∷ []) ≡ i ∷ []
own_priority p (item.Packet m b) is = ap (λ t. kept_if t (item.Packet m b)) (eq-eqb (prio_number (priority_of b)) (prio_number p) (ap prio_number is.1))
own_priority p (item.Frame f) is = absurd is
own_priority p (item.Note n) is = absurd is

-- and of no other
pub other_priority : (p q : Prio) (i : ItemShown) → IsOfPriority p i → (prio_number p == prio_number q) ≡ false → with_priority q (i ∷ []) ≡ []
other_priority p q (item.Packet m b) is apart = ap (λ t. kept_if t (item.Packet m b)) (ap (λ r. prio_number r == prio_number q) is.1 ∙ apart)
other_priority p q (item.Frame f) is apart = absurd is
other_priority p q (item.Note n) is apart = absurd is

-- a turn that changed the mail of one priority alone
pub one_mail : (o : OpShown) (a : AnswerShown) (x : inbox.PlainPass) (p : Prio) (m : Mail) → mail_after x.role p o a (inbox.mail_at x p) ≡ m
    → ((q : Prio) → (prio_number p == prio_number q) ≡ false → mail_after x.role q o a (inbox.mail_at x q) ≡ inbox.mail_at x q) → inbox.with_mail x p m ≡ post_after o a x
one_mail o a x Critical m here others = sym (λ i. record { inbox = x.inbox; role = x.role; critical = here i; high = others High refl i; normal = others Normal refl i; low = others Low refl i })
one_mail o a x High m here others = sym (λ i. record { inbox = x.inbox; role = x.role; critical = others Critical refl i; high = here i; normal = others Normal refl i; low = others Low refl i })
one_mail o a x Normal m here others = sym (λ i. record { inbox = x.inbox; role = x.role; critical = others Critical refl i; high = others High refl i; normal = here i; low = others Low refl i })
one_mail o a x Low m here others = sym (λ i. record { inbox = x.inbox; role = x.role; critical = others Critical refl i; high = others High refl i; normal = others Normal refl i; low = here i })

nothing_more : (v : Mail) (ks : List ItemShown) (floor : ℕ) → inbox.mail (v.kept ++ ks) (v.got ++ []) v.known v.known_got floor ≡ inbox.mail (v.kept ++ ks) v.got v.known v.known_got floor
nothing_more v ks floor = ap (λ gs. inbox.mail (v.kept ++ ks) gs v.known v.known_got floor) (append-nil v.got)

-- a push that went through
pub posted : (x : inbox.PlainPass) (p : Prio) (i : ItemShown) → IsOfPriority p i → inbox.with_mail x p (inbox.with_kept (inbox.mail_at x p) i) ≡ post_after (op.Push queue.Inbox i) answer.Pushed x
posted x p i is =
    one_mail (op.Push queue.Inbox i) answer.Pushed x p (inbox.with_kept (inbox.mail_at x p) i)
    (mail_moves x.role p (op.Push queue.Inbox i) answer.Pushed (inbox.mail_at x p) (i ∷ []) [] false (own_priority p i is) refl refl ∙ nothing_more (inbox.mail_at x p) (i ∷ []) (inbox.mail_at x p).puts_floor)
    (λ q apart. mail_still x.role q (op.Push queue.Inbox i) answer.Pushed (inbox.mail_at x q) (other_priority p q i is apart) refl refl)

-- a push that found no room
abbrev crammed_if : Bool → List ItemShown → Bool
crammed_if t is = cond t (nat_lt 0 (length is)) false

pub refused : (x : inbox.PlainPass) (p : Prio) (i j : ItemShown) → mark_of i ≡ x.role.mark → IsOfPriority p i
    → inbox.with_mail x p (inbox.found_full x.role.room (inbox.mail_at x p)) ≡ post_after (op.Push queue.Inbox i) (answer.Full j) x
refused x p i j marked is =
    let own : (mark_of i == x.role.mark) ≡ true = eq-eqb (mark_of i) x.role.mark marked in
    let v = inbox.mail_at x p in
    one_mail (op.Push queue.Inbox i) (answer.Full j) x p (inbox.found_full x.role.room v)
    (mail_moves x.role p (op.Push queue.Inbox i) (answer.Full j) v [] [] true refl refl (ap (λ t. crammed_if t (with_priority p (i ∷ []))) own ∙ ap (crammed_if true) (own_priority p i is))
    ∙ nothing_more v [] (max v.puts_floor (x.role.room + inbox.known_gets v)) ∙ ap (λ ks. inbox.mail ks v.got v.known v.known_got (max v.puts_floor (x.role.room + inbox.known_gets v))) (append-nil v.kept))
    (λ q apart. mail_still x.role q (op.Push queue.Inbox i) (answer.Full j) (inbox.mail_at x q) refl refl (ap (λ t. crammed_if t (with_priority q (i ∷ []))) own ∙ ap (crammed_if true) (other_priority p q i is apart)))

-- whichever came of a push under the pass's own mark
pub push_done : (x : inbox.PlainPass) (p : Prio) (i : Item) (room : ℕ) (r : Result (Unit {0}) Item) (y : inbox.PlainPass)
    → MatchResult r (λ _. y ≡ inbox.with_mail x p (inbox.with_kept (inbox.mail_at x p) (shown_item i))) (λ _. y ≡ inbox.with_mail x p (inbox.found_full room (inbox.mail_at x p)))
    → room ≡ x.role.room → mark_of (shown_item i) ≡ x.role.mark → IsOfPriority p (shown_item i)
    → MatchResult r (λ _. (mark_of (shown_item i) ≡ x.role.mark) × (y ≡ post_after (op.Push queue.Inbox (shown_item i)) answer.Pushed x)) (λ j. y ≡ post_after (op.Push queue.Inbox (shown_item i)) (answer.Full (shown_item j)) x)
push_done x p i room (Ok u) y done same marked is = (marked, done ∙ posted x p (shown_item i) is)
push_done x p i room (Err j) y done same marked is = done ∙ ap (λ n. inbox.with_mail x p (inbox.found_full n (inbox.mail_at x p))) same ∙ refused x p (shown_item i) (shown_item j) marked is
