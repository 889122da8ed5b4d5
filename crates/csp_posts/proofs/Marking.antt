-- Turns keep that the marks of what went through the ends of lanes are what the log says.
use Rattle.std.proofs.Common.{◌≡◌, ℕ, ◌+◌, Bool, true, false, cond, Option, None, Some, List, [], ◌∷◌, ◌++◌, length, map, refl, sym, ap, ◌∙◌, subst, append_assoc, length-append, arith}
use Rattle.std.specs.Prelude.{not, IfSome, IsSome}
use Rattle.std.specs.List.{AllByRecursion, find}
use Rattle.std.specs.Option.{option_map}
use Rattle.std.proofs.lemmas.Bool.{and_parts}
use Rattle.std.proofs.lemmas.List.{append-nil}
use Rattle.csp_consistent.proofs.Public.{queue_is}
use Rattle.csp_consistent.specs.Reading.{is_queue}
use Rattle.csp_ends.proofs.Public.{back_turned, whole_kept}
use Rattle.csp_ends.specs.Ends.{PlainSide, PlainEnds, AreEnds}
use Rattle.csp_ends.specs.Moves.{marks_along, moved_by, side_after, ends_after, ends_after_all}
use Rattle.csp_ends.specs.Sides.{IsBacked, back_name, back_of, beside, count_through, is_back, is_back_by, is_turned}
use Rattle.csp_ends.specs.Traced.{AreMarked, AreTraced, IsSideMarked, IsSideTraced, moved, told_from, told_of}
use Rattle.csp_log.specs.Pictures.{Fits}
use Rattle.csp_log.specs.declared.entry.Entry.{Entry}
use Rattle.csp_log.specs.declared.places.QueueId.{QueueId}
use Rattle.csp_log.specs.declared.shown.ItemShown.{ItemShown}
use Rattle.csp_posts.proofs.Tracing.{traced_after}

-- one mark for each item
same_marks : (t n : ℕ) (is : List ItemShown) → marks_along (Some t) n is ≡ map (λ _. n) is
same_marks t n [] = refl
same_marks t n (i ∷ is) = ap (λ ns. n ∷ ns) (same_marks t n is)

-- how many entries moved, the first of them and the others
moved_first : (way : Bool) (q : QueueId) (e : Entry) (es : List Entry) → moved way q (e ∷ es) ≡ moved_by way q e.op e.answer ++ moved way q es
moved_first true q e es = refl
moved_first false q e es = refl

-- what a log with one entry more tells of another lane
told_more : (n : ℕ) (way : Bool) (lane other : QueueId) (es : List Entry) (e : Entry)
    → told_from n way lane other (es ++ e ∷ []) ≡ told_from n way lane other es ++ map (λ _. n + length (moved (not way) other es)) (moved_by way lane e.op e.answer)
told_more n way lane other [] e =
    append-nil (map (λ _. n) (moved_by way lane e.op e.answer)) ∙ ap (λ k. map (λ _. k) (moved_by way lane e.op e.answer)) (none (not way)) where
      none : (back : Bool) → n ≡ n + length (moved back other [])
      none true = omega arith
      none false = omega arith
told_more n way lane other (x ∷ xs) e =
    let now : List ℕ = map (λ _. n) (moved_by way lane x.op x.answer) in
    let next = n + length (moved_by (not way) other x.op x.answer) in
    let long : next + length (moved (not way) other xs) ≡ n + length (moved (not way) other (x ∷ xs)) =
    (let all = ap (λ (is : List ItemShown). length is) (moved_first (not way) other x xs) in
    let both = length-append (moved_by (not way) other x.op x.answer) (moved (not way) other xs) in
    omega (arith, all, both))
    in
    ap (λ ns. now ++ ns) (told_more next way lane other xs e ∙ ap (λ k. told_from next way lane other xs ++ map (λ _. k) (moved_by way lane e.op e.answer)) long)
    ∙ sym (append_assoc now (told_from next way lane other xs) (map (λ _. n + length (moved (not way) other (x ∷ xs))) (moved_by way lane e.op e.answer)))

-- what is found is of the list, and as it was to be
record IsFound (P : PlainSide → Type 0) (test : PlainSide → Bool) (o : Option PlainSide) : Type 0 where
  side : PlainSide
  is : o ≡ Some side
  holds : P side
  tested : test side ≡ true

found : (P : PlainSide → Type 0) (test : PlainSide → Bool) (ss : List PlainSide) → AllByRecursion P ss → IsSome (find test ss) → IsFound P test (find test ss)
found P test [] all h = absurd cc
found P test (s ∷ ss) all h = by (test s) (find test ss) (found P test ss all.1) refl h where
  by : (b : Bool) (rest : Option PlainSide) → (IsSome rest → IsFound P test rest) → test s ≡ b → IsSome (cond b (Some s) rest) → IsFound P test (cond b (Some s) rest)
  by true rest later same g = record { side = s; is = refl; holds = all.0; tested = same }
  by false rest later same g = later g

some_mapped : (tally : Option ℕ) (o : Option PlainSide) → tally ≡ option_map (λ t. t.end.tally) o → IsSome tally → IsSome o
some_mapped tally None same h = subst IsSome same h
some_mapped tally (Some t) same h = refl

-- so many of the other lane
beside_is : (es : List Entry) (ends : List PlainSide) (s : PlainSide) (other : QueueId) → AllByRecursion (IsSideTraced es) ends → back_name s.queue ≡ Some other → IsSome (back_of ends s)
    → beside ends s ≡ length (moved (not s.puts) other es)
beside_is es ends s other traced named there =
    let f = found (IsSideTraced es) (is_back s) ends traced there in
    let t = f.side in
    let called = queue_is other t.queue (and_parts (is_queue other t.queue) (is_turned s t) (ap (λ o. is_back_by o s t) (sym named) ∙ f.tested)).0 in
    ap count_through f.is
    ∙ ap (λ (is : List ItemShown). length is) f.holds
    ∙ ap (λ p. length (moved p t.queue es)) (back_turned s t f.tested)
    ∙ ap (λ q. length (moved (not s.puts) q es)) (sym called)

-- the marks of an end after a turn
side_marked : (es : List Entry) (e : Entry) (ends : List PlainSide) (s : PlainSide) → AllByRecursion (IsSideTraced es) ends → IsBacked ends s → IsSideMarked es s → IsSideMarked (es ++ e ∷ []) (side_after ends e.op e.answer s)
side_marked es e ends s traced backed marked some = by (back_name s.queue) refl (marked some) where
  along : (about : Option ℕ) (n : ℕ) (is : List ItemShown) → IsSome about → marks_along about n is ≡ map (λ _. n) is
  along None n is h = absurd cc
  along (Some t) n is h = same_marks t n is

  by : (o : Option QueueId) → back_name s.queue ≡ o → IfSome o (λ other. s.end.marks ≡ told_of s.puts s.queue other es)
      → IfSome o (λ other. s.end.marks ++ marks_along s.end.about (beside ends s) (moved_by s.puts s.queue e.op e.answer) ≡ told_of s.puts s.queue other (es ++ e ∷ []))
  by None named h = tt
  by (Some other) named h =
      let is = moved_by s.puts s.queue e.op e.answer in
      let count = beside_is es ends s other traced named (some_mapped s.end.about (back_of ends s) backed some) in
      let all : length (moved (not s.puts) other es) ≡ 0 + length (moved (not s.puts) other es) = omega arith in
      ap (λ ns. ns ++ marks_along s.end.about (beside ends s) is) h
      ∙ ap (λ ns. told_of s.puts s.queue other es ++ ns) (along s.end.about (beside ends s) is some ∙ ap (λ n. map (λ _. n) is) (count ∙ all))
      ∙ sym (told_more 0 s.puts s.queue other es e)

sides_marked : (es : List Entry) (e : Entry) (ends ss : List PlainSide) → AllByRecursion (IsSideTraced es) ends → AllByRecursion (IsBacked ends) ss → AreMarked es ss → AreMarked (es ++ e ∷ []) (map (side_after ends e.op e.answer) ss)
sides_marked es e ends [] traced backed marked = tt
sides_marked es e ends (s ∷ ss) traced backed marked = (side_marked es e ends s traced backed.0 marked.0, sides_marked es e ends ss traced backed.1 marked.1)

-- and after many
pub marked_after_all : (room : ℕ) (opened : List ℕ) (es more : List Entry) (d : PlainEnds) → AllByRecursion (λ x. Fits x.op x.answer) more → AreEnds d → AreTraced opened es d → AreMarked es d.sides
    → AreMarked (es ++ more) (ends_after_all room d more).sides
marked_after_all room opened es [] d fits ends traced marked = subst (λ log. AreMarked log d.sides) (sym (append-nil es)) marked
marked_after_all room opened es (x ∷ xs) d fits ends traced marked =
    let e = ends_after room x.op x.answer d in
    subst (λ (log : List Entry). AreMarked log (ends_after_all room e xs).sides) (append_assoc es (x ∷ []) xs)
    (marked_after_all room opened (es ++ x ∷ []) xs e fits.1 (whole_kept room x.op x.answer d ends) (traced_after room opened es x d fits.0 traced) (sides_marked es x d.sides d.sides traced.sides ends.backed marked))
