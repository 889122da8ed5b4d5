-- The end of another lane that the marks of an end tell of.
use Rattle.std.proofs.Common.{◌≡◌, ℕ, Bool, true, false, cond, Option, None, Some, List, [], ◌∷◌, map, refl, ap, ◌∙◌}
use Rattle.std.specs.Prelude.{◌&&◌, not, if◌then◌else◌}
use Rattle.std.specs.Option.{option_map}
use Rattle.std.proofs.lemmas.Bool.{and_parts}
use Rattle.csp_consistent.specs.Reading.{is_queue}
use Rattle.csp_ends.specs.Sides.{PlainSide, back_name, back_of, is_back, is_back_by, is_turned}
use Rattle.csp_log.specs.declared.places.QueueId.{QueueId}

-- which lane an end is of
abbrev pub tally_of : Option PlainSide → Option ℕ
tally_of o = option_map (λ s. s.end.tally) o

-- ends that are called so and go that way tell of the same
pub back_same : (s t x y : PlainSide) → t.queue ≡ s.queue → t.puts ≡ s.puts → y.queue ≡ x.queue → y.puts ≡ x.puts → is_back t y ≡ is_back s x
back_same s t x y name way called gone = ap (λ q. is_back_by (back_name q) t y) name ∙ by (back_name s.queue) where
  by : (o : Option QueueId) → is_back_by o t y ≡ is_back_by o s x
  by None = refl
  by (Some q) = λ i. is_queue q (called i) && (if way i then not (gone i) else gone i)

pub tally_picked : (b : Bool) (x y : PlainSide) (r q : Option PlainSide) → y.end.tally ≡ x.end.tally → tally_of r ≡ tally_of q → tally_of (cond b (Some y) r) ≡ tally_of (cond b (Some x) q)
tally_picked true x y r q e f = ap (λ n. Some n) e
tally_picked false x y r q e f = f

-- a change that leaves names, ways and tallies leaves of what an end tells
pub tallies_same : (f : PlainSide → PlainSide) → ((x : PlainSide) → (f x).queue ≡ x.queue) → ((x : PlainSide) → (f x).puts ≡ x.puts) → ((x : PlainSide) → (f x).end.tally ≡ x.end.tally) → (s : PlainSide) (sides : List PlainSide)
    → tally_of (back_of (map f sides) (f s)) ≡ tally_of (back_of sides s)
tallies_same f name way tally s [] = refl
tallies_same f name way tally s (x ∷ sides) =
    ap (λ b. tally_of (cond b (Some (f x)) (back_of (map f sides) (f s)))) (back_same s (f s) x (f x) (name s) (way s) (name x) (way x))
    ∙ tally_picked (is_back s x) x (f x) (back_of (map f sides) (f s)) (back_of sides s) (tally x) (tallies_same f name way tally s sides)

turned : (a b : Bool) → (if a then not b else b) ≡ true → b ≡ not a
turned true true e = absurd cc
turned true false e = refl
turned false b e = e

-- such an end goes the other way
pub back_turned : (s t : PlainSide) → is_back s t ≡ true → t.puts ≡ not s.puts
back_turned s t e = by (back_name s.queue) e where
  by : (o : Option QueueId) → is_back_by o s t ≡ true → t.puts ≡ not s.puts
  by None e = absurd cc
  by (Some q) e = turned s.puts t.puts (and_parts (is_queue q t.queue) (is_turned s t) e).1
