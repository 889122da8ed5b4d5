-- A queue is the one of its own name, and of no other.
use Rattle.std.proofs.Common.{◌≡◌, true, false, true≢false, refl, sym, ap, ◌∙◌, subst}
use Rattle.std.proofs.lemmas.Bool.{eq-eqb, eqb-true, false_from_ne_true}
use Rattle.csp_consistent.specs.Reading.{is_queue}
use Rattle.csp_log.specs.declared.places.QueueId.{QueueId}
use Rattle.csp_log.specs.declared.places.QueueId.TheVariants as queue

pub queue_same : (q : QueueId) → is_queue q q ≡ true
queue_same queue.Inbox = refl
queue_same (queue.Up k) = eq-eqb k k refl
queue_same (queue.Down k) = eq-eqb k k refl
queue_same (queue.Out k) = eq-eqb k k refl
queue_same (queue.Tx k) = eq-eqb k k refl
queue_same (queue.Rx k) = eq-eqb k k refl

pub queue_is : (q r : QueueId) → is_queue q r ≡ true → q ≡ r
queue_is queue.Inbox queue.Inbox e = refl
queue_is (queue.Up number) (queue.Up k) e = ap queue.Up (sym (eqb-true k number e))
queue_is (queue.Down number) (queue.Down k) e = ap queue.Down (sym (eqb-true k number e))
queue_is (queue.Out number) (queue.Out k) e = ap queue.Out (sym (eqb-true k number e))
queue_is (queue.Tx number) (queue.Tx k) e = ap queue.Tx (sym (eqb-true k number e))
queue_is (queue.Rx number) (queue.Rx k) e = ap queue.Rx (sym (eqb-true k number e))
queue_is _ _ e = absurd cc

-- the other way round
pub queue_turned : (q r : QueueId) → is_queue q r ≡ true → is_queue r q ≡ true
queue_turned q r e = subst (λ x. is_queue x q ≡ true) (queue_is q r e) (queue_same q)

pub queue_apart : (q r : QueueId) → is_queue q r ≡ false → is_queue r q ≡ false
queue_apart q r e = false_from_ne_true (is_queue r q) (λ t. true≢false (sym (queue_turned r q t) ∙ e))
