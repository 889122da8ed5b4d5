-- That who knows more has the same in hand, and has still met whom it met.
use Rattle.std.proofs.Common.{◌≡◌, ◌≤◌, ℕ, List, [], ◌∷◌, Option, None, Some, length, refl, sym, ap, ◌∙◌, subst, le_trans, le_refl}
use Rattle.std.specs.Prelude.{IsSomeAnd, slice_get}
use Rattle.std.specs.List.{AllByRecursion, AllZip}
use Rattle.csp_ends.specs.Ends.{PlainNodeQueues, PlainSide, IsSideOf}
use Rattle.csp_lane.specs.Ends.{PlainLane, PlainEnd, IsEndOf, knowing}
use Rattle.csp_meeting.specs.Meeting.{HaveMetSides, KnowsMoreAt}

-- an end that knows of so many
with_known : PlainSide → ℕ → PlainSide
with_known x n = record { queue = x.queue; node = x.node; lane = x.lane; puts = x.puts; end = knowing x.end n }

pub more_refl : (x : PlainSide) → KnowsMoreAt x x
more_refl x = record { queue = refl; node = refl; lane = refl; puts = refl; end = refl; known = le_refl _ }

pub more_trans : (x y z : PlainSide) → KnowsMoreAt x y → KnowsMoreAt y z → KnowsMoreAt x z
more_trans x y z f g = record {
  queue = g.queue ∙ f.queue;
  node = g.node ∙ f.node;
  lane = g.lane ∙ f.lane;
  puts = g.puts ∙ f.puts;
  end = g.end ∙ ap (λ e. knowing e z.end.known) f.end;
  known = le_trans f.known g.known;
}

pub all_refl : (xs : List PlainSide) → AllZip KnowsMoreAt xs xs
all_refl [] = tt
all_refl (x ∷ xs) = (more_refl x, all_refl xs)

pub all_trans : (xs ys zs : List PlainSide) → AllZip KnowsMoreAt xs ys → AllZip KnowsMoreAt ys zs → AllZip KnowsMoreAt xs zs
all_trans [] [] [] f g = tt
all_trans (x ∷ xs) (y ∷ ys) (z ∷ zs) f g = (more_trans x y z f.0 g.0, all_trans xs ys zs f.1 g.1)
all_trans [] [] (z ∷ zs) f g = absurd g
all_trans [] (y ∷ ys) zs f g = absurd f
all_trans (x ∷ xs) [] zs f g = absurd f
all_trans (x ∷ xs) (y ∷ ys) [] f g = absurd g

of_end : (l : PlainLane) (e d : PlainEnd) (n : ℕ) → d ≡ knowing e n → IsEndOf l e → IsEndOf l d
of_end l e d n is h = record {
  lane = ap (λ (x : PlainEnd). x.lane) is ∙ h.lane;
  room = ap (λ (x : PlainEnd). x.room) is ∙ h.room;
  tally = ap (λ (x : PlainEnd). x.tally) is ∙ h.tally;
  about = ap (λ (x : PlainEnd). x.about) is ∙ h.about;
}

of_lane : (o : Option PlainLane) (e d : PlainEnd) (n : ℕ) → d ≡ knowing e n → IsSomeAnd o (λ l. IsEndOf l e) → IsSomeAnd o (λ l. IsEndOf l d)
of_lane (Some l) e d n is h = of_end l e d n is h
of_lane None e d n is h = absurd h

of_node : (o : Option PlainNodeQueues) (x y : PlainSide) → KnowsMoreAt x y → IsSomeAnd o (λ q. IsSomeAnd (slice_get q.lanes x.lane) (λ l. IsEndOf l x.end)) → IsSomeAnd o (λ q. IsSomeAnd (slice_get q.lanes y.lane) (λ l. IsEndOf l y.end))
of_node (Some q) x y f h = subst (λ n. IsSomeAnd (slice_get q.lanes n) (λ l. IsEndOf l y.end)) (sym f.lane) (of_lane (slice_get q.lanes x.lane) x.end y.end y.end.known f.end h)
of_node None x y f h = absurd h

pub of_stays : (nodes : List PlainNodeQueues) (x y : PlainSide) → KnowsMoreAt x y → IsSideOf nodes x → IsSideOf nodes y
of_stays nodes x y f h = subst (λ n. IsSomeAnd (slice_get nodes n) (λ q. IsSomeAnd (slice_get q.lanes y.lane) (λ l. IsEndOf l y.end))) (sym f.node) (of_node (slice_get nodes x.node) x y f h)

pub all_of_stays : (nodes : List PlainNodeQueues) (xs ys : List PlainSide) → AllZip KnowsMoreAt xs ys → AllByRecursion (IsSideOf nodes) xs → AllByRecursion (IsSideOf nodes) ys
all_of_stays nodes [] [] f h = tt
all_of_stays nodes (x ∷ xs) (y ∷ ys) f h = (of_stays nodes x y f.0 h.0, all_of_stays nodes xs ys f.1 h.1)
all_of_stays nodes [] (y ∷ ys) f h = absurd f
all_of_stays nodes (x ∷ xs) [] f h = absurd f

pub met_stays : (x y z : PlainSide) → KnowsMoreAt y z → HaveMetSides x y → HaveMetSides x z
met_stays x y z f h node lane puts =
    let m = h (node ∙ f.node) (lane ∙ f.lane) (λ e. puts (e ∙ sym f.puts)) in
    (le_trans m.0 f.known, subst (λ (e : PlainEnd). length e.items ≤ x.end.known) (sym f.end) m.1)

pub each_met_stays : (x : PlainSide) (ys zs : List PlainSide) → AllZip KnowsMoreAt ys zs → AllByRecursion (HaveMetSides x) ys → AllByRecursion (HaveMetSides x) zs
each_met_stays x [] [] f h = tt
each_met_stays x (y ∷ ys) (z ∷ zs) f h = (met_stays x y z f.0 h.0, each_met_stays x ys zs f.1 h.1)
each_met_stays x [] (z ∷ zs) f h = absurd f
each_met_stays x (y ∷ ys) [] f h = absurd f
