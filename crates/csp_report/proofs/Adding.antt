-- The six counts of a node's line are together the node's buffers.
use Rattle.std.proofs.Common.{◌≡◌, ℕ, ◌+◌, Bool, true, false, cond, eqb, ◌&&◌, List, [], ◌∷◌, length, sum_by, refl, sym, ap, ◌∙◌, arith}
use Rattle.std.proofs.lemmas.List.Sums.{sum_by-cons}
use Rattle.std.proofs.lemmas.List.FromFn.{length-range_with_len}
use Rattle.std.specs.List.{range_with_len}
use Rattle.csp_log.specs.declared.places.Place.{Place}
use Rattle.csp_log.specs.declared.places.Place.TheVariants as place
use Rattle.csp_log.specs.Remains.{PlainHeld}
use Rattle.csp_record.specs.Record.{PlainRecord}
use Rattle.csp_record.specs.Whole.{weight_at, IsWholeNode}
use Rattle.csp_report.specs.declared.places.PlaceKind.TheVariants as kind
use Rattle.csp_report.specs.Places.{is_of_kind, count_at, held_in}

ones : (numbers : List ℕ) → sum_by (λ _. 1) numbers ≡ length numbers
ones [] = refl
ones (n ∷ numbers) = omega (arith, sum_by-cons (λ (_ : ℕ). 1) n numbers, ones numbers)

six_at : (here : Bool) (p : Place) (n : ℕ) → cond (here && is_of_kind kind.Pool p) n 0 + cond (here && is_of_kind kind.Inbox p) n 0 + cond (here && is_of_kind kind.Lane p) n 0 + cond (here && is_of_kind kind.Router p) n 0 + cond (here && is_of_kind kind.Iface p) n 0 + cond (here && is_of_kind kind.App p) n 0 ≡ cond here n 0
six_at false p n = refl
six_at true place.Pool n = omega arith
six_at true (place.Inbox prio) n = omega arith
six_at true (place.Lane queue) n = omega arith
six_at true place.Router n = omega arith
six_at true (place.Iface number) n = omega arith
six_at true (place.App number) n = omega arith

six_each : (node : ℕ) (held : PlainHeld) → count_at node kind.Pool held + count_at node kind.Inbox held + count_at node kind.Lane held + count_at node kind.Router held + count_at node kind.Iface held + count_at node kind.App held ≡ weight_at node (λ _. 1) held
six_each node held = six_at (eqb held.node node) held.place (length held.numbers) ∙ ap (λ n. cond (eqb held.node node) n 0) (sym (ones held.numbers))

six_sums : {X : Type 0} (a b c d e f g : X → ℕ) → ((x : X) → a x + b x + c x + d x + e x + f x ≡ g x) → (xs : List X) → sum_by a xs + sum_by b xs + sum_by c xs + sum_by d xs + sum_by e xs + sum_by f xs ≡ sum_by g xs
six_sums a b c d e f g each [] = refl
six_sums a b c d e f g each (x ∷ xs) = omega (arith, each x, six_sums a b c d e f g each xs, sum_by-cons a x xs, sum_by-cons b x xs, sum_by-cons c x xs, sum_by-cons d x xs, sum_by-cons e x xs, sum_by-cons f x xs, sum_by-cons g x xs)

pub adding : (record' : PlainRecord) (place : ℕ) (buffers : ℕ) → IsWholeNode record' place buffers → held_in record' place kind.Pool + held_in record' place kind.Inbox + held_in record' place kind.Lane + held_in record' place kind.Router + held_in record' place kind.Iface + held_in record' place kind.App ≡ buffers
adding record' place buffers whole =
    six_sums (count_at place kind.Pool) (count_at place kind.Inbox) (count_at place kind.Lane) (count_at place kind.Router) (count_at place kind.Iface) (count_at place kind.App) (weight_at place (λ _. 1)) (six_each place) record'.held
    ∙ whole (λ _. 1) ∙ ones (range_with_len 0 buffers) ∙ length-range_with_len 0 buffers
