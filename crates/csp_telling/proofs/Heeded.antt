-- Where the marks of a lane keep to their bounds, the logs that they are told of are causal.
use Rattle.std.proofs.Common.{◌≡◌, ◌⊎◌, inl, inr, ℕ, ◌+◌, ◌<◌, ◌≤◌, Bool, true, false, List, [], ◌∷◌, ◌++◌, length, map, not, refl, sym, ap, ◌∙◌, subst, arith, append_assoc, length-append}
use Rattle.std.specs.List.{AllByRecursion}
use Rattle.std.proofs.lemmas.Bool.{cases_lt}
use Rattle.std.proofs.lemmas.List.{length-map}
use Rattle.csp_causal.specs.Causal.{AreCausal}
use Rattle.csp_consistent.specs.Reading.{got_by, gets, put_by, puts}
use Rattle.csp_ends.specs.Moves.{moved_by}
use Rattle.csp_ends.specs.Traced.{told_from, told_of}
use Rattle.csp_lane.specs.Marks.{AreHeeded}
use Rattle.csp_log.specs.declared.entry.Entry.{Entry}
use Rattle.csp_log.specs.declared.places.QueueId.{QueueId}
use Rattle.csp_log.specs.declared.shown.ItemShown.{ItemShown}
use Rattle.csp_scene.proofs.Public.{AllByRecursion-append}

-- ---- how many items entries moved

counted : Bool → QueueId → List Entry → ℕ
counted way q [] = 0
counted way q (e ∷ es) = length (moved_by way q e.op e.answer) + counted way q es

counted_puts : (q : QueueId) (es : List Entry) → counted true q es ≡ length (puts q es)
unfolding counted
counted_puts q [] = refl
counted_puts q (e ∷ es) = ap (λ n. length (put_by q e.op e.answer) + n) (counted_puts q es) ∙ sym (length-append (put_by q e.op e.answer) (puts q es))

counted_gets : (q : QueueId) (es : List Entry) → counted false q es ≡ length (gets q es)
unfolding counted
counted_gets q [] = refl
counted_gets q (e ∷ es) = ap (λ n. length (got_by q e.op e.answer) + n) (counted_gets q es) ∙ sym (length-append (got_by q e.op e.answer) (gets q es))

-- ---- what is told of logs

same_all : (n : ℕ) (P : ℕ → Type 0) → P n → (is : List ItemShown) → AllByRecursion P (map (λ _. n) is)
same_all n P here [] = tt
same_all n P here (i ∷ is) = (here, same_all n P here is)

module _ (way : Bool) (lane other : QueueId) where
  told_long : (n : ℕ) (es : List Entry) → length (told_from n way lane other es) ≡ counted way lane es
  unfolding counted
  told_long n [] = refl
  told_long n (e ∷ es) =
      let is = moved_by way lane e.op e.answer in
      let later = n + length (moved_by (not way) other e.op e.answer) in
      length-append (map (λ _. n) is) (told_from later way lane other es) ∙ (λ i. length-map is (λ _. n) i + told_long later es i)

  -- no fewer than at first, and no more than at last
  told_least : (low n : ℕ) (es : List Entry) → low ≤ n → AllByRecursion (λ m. low ≤ m) (told_from n way lane other es)
  told_least low n [] h = tt
  told_least low n (e ∷ es) h =
      let later = n + length (moved_by (not way) other e.op e.answer) in
      AllByRecursion-append (λ m. low ≤ m) (map (λ _. n) (moved_by way lane e.op e.answer)) (told_from later way lane other es) (same_all n (λ m. low ≤ m) h (moved_by way lane e.op e.answer)) (told_least low later es (omega (arith, h)))

  told_most : (high n : ℕ) (es : List Entry) → n + counted (not way) other es ≤ high → AllByRecursion (λ m. m ≤ high) (told_from n way lane other es)
  unfolding counted
  told_most high n [] h = tt
  told_most high n (e ∷ es) h =
      let later = n + length (moved_by (not way) other e.op e.answer) in
      AllByRecursion-append (λ m. m ≤ high) (map (λ _. n) (moved_by way lane e.op e.answer)) (told_from later way lane other es)
      (same_all n (λ m. m ≤ high) (omega (arith, h)) (moved_by way lane e.op e.answer)) (told_most high later es (omega (arith, h)))

  told_both : (n : ℕ) (es later : List Entry) → told_from n way lane other (es ++ later) ≡ told_from n way lane other es ++ told_from (n + counted (not way) other es) way lane other later
  unfolding counted
  told_both n [] later =
      let same : n ≡ n + 0 = omega arith in
      ap (λ m. told_from m way lane other later) same
  told_both n (e ∷ es) later =
      let mine = map (λ _. n) (moved_by way lane e.op e.answer) in
      let more = length (moved_by (not way) other e.op e.answer) in
      let same : n + more + counted (not way) other es ≡ n + (more + counted (not way) other es) = omega arith in
      ap (λ ms. mine ++ ms) (told_both (n + more) es later)
      ∙ sym (append_assoc mine (told_from (n + more) way lane other es) (told_from (n + more + counted (not way) other es) way lane other later))
      ∙ ap (λ m. (mine ++ told_from (n + more) way lane other es) ++ told_from m way lane other later) same

-- ---- a mark and its bound

-- with fewer marks than bounds before a cut, one of the later marks has one of the earlier bounds
crossed : (low high : ℕ) (before after earlier later : List ℕ) → AreHeeded (before ++ after) (earlier ++ later) → length before < length earlier → AllByRecursion (λ m. low ≤ m) after → AllByRecursion (λ m. m ≤ high) earlier → low ≤ high
crossed low high before after [] later h fewer least most = absurd (omega (arith, fewer))
crossed low high [] [] (n ∷ earlier) later h fewer least most = absurd h
crossed low high [] (m ∷ after) (n ∷ earlier) later h fewer least most =
    let one = h.0 in
    let a = least.0 in
    let b = most.0 in
    omega (arith, one, a, b)
crossed low high (m ∷ before) after (n ∷ earlier) later h fewer least most = crossed low high before after earlier later h.1 (omega (arith, fewer)) least most.1

-- ---- so the logs are causal

pub heeded_causal : (there back : QueueId) (first second : List Entry) → AreHeeded (told_of true there back first) (told_of false there back second) → AreCausal there back first second
heeded_causal there back first second heeded before after earlier later b s = by (cases_lt (length (puts there before)) (length (gets there earlier)))
  where
    marks : told_of true there back first ≡ told_of true there back before ++ told_from (0 + counted false back before) true there back after
    marks = ap (told_of true there back) b ∙ told_both true there back 0 before after

    bounds : told_of false there back second ≡ told_of false there back earlier ++ told_from (0 + counted true back earlier) false there back later
    bounds = ap (told_of false there back) s ∙ told_both false there back 0 earlier later

    cut : AreHeeded (told_of true there back before ++ told_from (0 + counted false back before) true there back after) (told_of false there back earlier ++ told_from (0 + counted true back earlier) false there back later)
    cut = subst (λ ms. AreHeeded ms (told_of false there back earlier ++ told_from (0 + counted true back earlier) false there back later)) marks
        (subst (λ ns. AreHeeded (told_of true there back first) ns) bounds heeded)

    by : (length (puts there before) < length (gets there earlier)) ⊎ (length (gets there earlier) ≤ length (puts there before))
        → (length (gets there earlier) ≤ length (puts there before)) ⊎ (length (gets back before) ≤ length (puts back earlier))
    by (inr few) = inl few
    by (inl more) =
        let put : length (told_of true there back before) ≡ length (puts there before) = told_long true there back 0 before ∙ counted_puts there before in
        let got : length (told_of false there back earlier) ≡ length (gets there earlier) = told_long false there back 0 earlier ∙ counted_gets there earlier in
        let low = counted_gets back before in
        let high = counted_puts back earlier in
        inr (crossed (length (gets back before)) (length (puts back earlier)) (told_of true there back before) (told_from (0 + counted false back before) true there back after) (told_of false there back earlier)
        (told_from (0 + counted true back earlier) false there back later) cut (omega (arith, put, got, more)) (told_least true there back (length (gets back before)) (0 + counted false back before) after (omega (arith, low)))
        (told_most false there back (length (puts back earlier)) 0 earlier (omega (arith, high))))
