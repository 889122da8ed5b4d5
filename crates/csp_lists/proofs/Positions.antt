-- What stands at a place of the list of a deck's queues has that position.
use Rattle.std.proofs.Common.{◌≡◌, ℕ, zero, suc, ◌+◌, ◌*◌, ◌<◌, true, nat_lt, Some, List, [], ◌∷◌, ◌++◌, length, map, sym, subst, ap, ◌∙◌, arith, slice_get}
use Rattle.std.specs.List.{range_with_len}
use Rattle.std.proofs.lemmas.Bool.Decides.{nat_tests}
use Rattle.std.proofs.lemmas.List.FromFn.{length-range_with_len}
use Rattle.std.proofs.lemmas.List.{length-map}
use Rattle.std.proofs.lemmas.Option.{same_Some}
use Rattle.csp_base.specs.declared.priority.Prio.TheVariants.{Critical, High, Normal, Low}
use Rattle.csp_deck.specs.Carried.{places_of}
use Rattle.csp_lists.specs.Order.{lanes, nth_from, places_in, position_of}
use Rattle.csp_lists.specs.declared.shape.Shape.{Shape}
use Rattle.csp_log.specs.declared.places.Place.TheVariants as place
use Rattle.csp_log.specs.declared.places.Place.{Place}
use Rattle.csp_log.specs.declared.places.QueueId.TheVariants as queue
use Rattle.csp_log.specs.declared.places.QueueId.{QueueId}

-- an element of two lists, one after the other, is of the first or of the second
in_two : {X : Type 0} {C : Type 0} (xs ys : List X) (b : ℕ) (x : X) → slice_get (xs ++ ys) b ≡ Some x → (slice_get xs b ≡ Some x → C) → ((c : ℕ) → b ≡ length xs + c → slice_get ys c ≡ Some x → C) → C
in_two [] ys b x e first second = second b (omega arith) e
in_two (z ∷ xs) ys zero x e first second = first e
in_two (z ∷ xs) ys (suc b) x e first second = in_two xs ys b x e first (λ c g. second c (omega (arith, g)))

-- a lane of a row stands where its number says
in_range : (f : ℕ → Place) (a n b : ℕ) (p : Place) → slice_get (map f (range_with_len a n)) b ≡ Some p → (b < n) × (p ≡ f (a + b))
in_range f a zero b p e = absurd cc
in_range f a (suc n) zero p e = (omega arith, sym (same_Some (f a) p e) ∙ ap f (omega arith))
in_range f a (suc n) (suc b) p e =
    let rest = in_range f (a + 1) n b p e in
    (let low = rest.0 in omega (arith, low), rest.1 ∙ ap f (omega arith))

lanes_long : (name : ℕ → QueueId) (n : ℕ) → length (lanes name n) ≡ n
lanes_long name n = length-map (range_with_len 0 n) (λ k. place.Lane (name k)) ∙ length-range_with_len 0 n

in_row : {C : Type 0} (name : ℕ → QueueId) (n b : ℕ) (p : Place) (rest : List Place) → slice_get (lanes name n ++ rest) b ≡ Some p
    → (b < n → p ≡ place.Lane (name b) → C) → ((c : ℕ) → b ≡ n + c → slice_get rest c ≡ Some p → C) → C
in_row name n b p rest e first second =
    in_two (lanes name n) rest b p e
    (λ g. let here = in_range (λ k. place.Lane (name k)) 0 n b p g in first here.0 (here.1 ∙ ap (λ k. place.Lane (name k)) (omega arith)))
    (λ c g. second c (g ∙ ap (λ k. k + c) (lanes_long name n)))

nth_found : (first n k b : ℕ) → k < n → b ≡ first + k → nth_from first n k ≡ Some b
nth_found first n k b low e =
    let within : nat_lt k n ≡ true = grind (arith, nat_tests, low) in
    rw within (ap Some (sym e))

inbox_place : (s : Shape) (c b : ℕ) (p : Place) → slice_get (places_of queue.Inbox) c ≡ Some p → b ≡ 3 * s.ifaces + 2 * s.apps + c → position_of s p ≡ Some b
inbox_place s zero b p e f = subst (λ (x : Place). position_of s x ≡ Some b) (same_Some (place.Inbox Critical) p e) (ap Some (sym f))
inbox_place s (suc zero) b p e f = subst (λ (x : Place). position_of s x ≡ Some b) (same_Some (place.Inbox High) p e) (ap Some (sym f))
inbox_place s (suc (suc zero)) b p e f = subst (λ (x : Place). position_of s x ≡ Some b) (same_Some (place.Inbox Normal) p e) (ap Some (sym f))
inbox_place s (suc (suc (suc zero))) b p e f = subst (λ (x : Place). position_of s x ≡ Some b) (same_Some (place.Inbox Low) p e) (ap Some (sym f))
inbox_place s (suc (suc (suc (suc c)))) b p e f = absurd cc

-- so what stands at a place of the list has that position
pub position : (s : Shape) (b : ℕ) (p : Place) → slice_get (places_in s) b ≡ Some p → position_of s p ≡ Some b
position s b p e =
    in_row queue.Rx s.ifaces b p _ e (λ low g. rw g (nth_found 0 s.ifaces b b low (omega arith))) (λ c1 h1 e1.
    in_row queue.Tx s.ifaces c1 p _ e1 (λ low g. rw g (nth_found s.ifaces s.ifaces c1 b low h1)) (λ c2 h2 e2.
    in_row queue.Out s.ifaces c2 p _ e2 (λ low g. rw g (nth_found (2 * s.ifaces) s.ifaces c2 b low (omega (arith, h1, h2)))) (λ c3 h3 e3.
    in_row queue.Down s.apps c3 p _ e3 (λ low g. rw g (nth_found (3 * s.ifaces) s.apps c3 b low (omega (arith, h1, h2, h3)))) (λ c4 h4 e4.
    in_row queue.Up s.apps c4 p (places_of queue.Inbox) e4 (λ low g. rw g (nth_found (3 * s.ifaces + s.apps) s.apps c4 b low (omega (arith, h1, h2, h3, h4)))) (λ c5 h5 e5.
    inbox_place s c5 b p e5 (omega (arith, h1, h2, h3, h4, h5)))))))
