-- The frames of a link, counted along its log.
use Rattle.std.proofs.Common.{◌≡◌, ℕ, zero, suc, ◌+◌, ◌≤◌, Bool, true, false, cond, Option, None, Some, List, [], ◌∷◌, ◌++◌, refl, sym, ap, ◌∙◌, get_or, replicate, take, slice_get, option_map, unwrap_or, arith}
use Rattle.std.proofs.lemmas.List.Sums.{sum_by-append}
use Rattle.csp_log.specs.declared.entry.Entry.{Entry}
use Rattle.csp_scene.specs.Scene.{PlainScene}
use Rattle.csp_log.specs.Framing.{framed_in}
use Rattle.csp_happenings.specs.Happenings.{is_taken, taken}
use Rattle.csp_happenings.specs.Remembering.{AreWithin, Carries, Counts, count_of, one_if}
use Rattle.csp_log.specs.declared.framed.Framed.{Framed}
use Rattle.csp_happenings.specs.declared.links.Carrying.{Carrying}
use Rattle.csp_happenings.proofs.Along.{place}

-- counts of nothing are none
pub none-counted : (n end : ℕ) → ◌≡◌ {A = ℕ} (get_or (replicate n 0) end 0) 0
none-counted zero end = refl
none-counted (suc n) zero = refl
none-counted (suc n) (suc end) = none-counted n end

-- one frame more is counted
pub taken-more : (end : ℕ) (before : List Entry) (e : Entry) → taken end (before ++ e ∷ []) ≡ taken end before + one_if (is_taken end (framed_in e))
taken-more end before e = sum_by-append (λ x. cond (is_taken end (framed_in x)) 1 0) before (e ∷ []) ∙ by (taken end before) (is_taken end (framed_in e))
  where
    by : (n : ℕ) (b : Bool) → n + (0 + cond b 1 0) ≡ n + one_if b
    by n true = refl
    by n false = refl

-- what is remembered of a link, after one entry more
pub Carries-more : (scene : PlainScene) (place : ℕ) (before : List Entry) (e : Entry) (old new : Carrying) → Carries scene place before old → Counts old new (framed_in e) → Carries scene place (before ++ e ∷ []) new
Carries-more scene place before e old new was counts = record {
  taken = λ end. counts.taken end ∙ ap (λ n. n + one_if (is_taken end (framed_in e))) (was.taken end) ∙ sym (taken-more end before e);
  fates = λ end n. counts.fates end n ∙ was.fates end n;
}

-- at most one frame more
at-most-one : (b : Bool) → one_if b ≤ 1
at-most-one true = omega arith
at-most-one false = omega arith

pub AreWithin-more : (most : ℕ) (old new : Carrying) (f : Framed) → Counts old new f → AreWithin most old → AreWithin (most + 1) new
AreWithin-more most old new f counts was = λ end.
    let more : count_of new end ≡ count_of old end + one_if (is_taken end f) = counts.taken end in
    omega (arith, was end, more, at-most-one (is_taken end f))

pub AreWithin-later : (most : ℕ) (c : Carrying) → AreWithin most c → AreWithin (most + 1) c
AreWithin-later most c was = λ end. omega (arith, was end)

-- the counts of a log so far, which are no more than its entries, after one entry more
pub record AreTaken (entries : List Entry) (i : ℕ) (counts : List ℕ) : Type 0 where
  pub taken : (end : ℕ) → ◌≡◌ {A = ℕ} (get_or counts end 0) (taken end (take i entries))
  pub few : (end : ℕ) → get_or counts end 0 ≤ i

pub AreTaken-more : (entries : List Entry) (i : ℕ) (old new : List ℕ) (f : Framed) → option_map framed_in (slice_get entries i) ≡ Some f → ((end : ℕ) → ◌≡◌ {A = ℕ} (get_or new end 0) (get_or old end 0 + one_if (is_taken end f)))
    → AreTaken entries i old → AreTaken entries (i + 1) new
AreTaken-more entries i old new f there more was = by (slice_get entries i) refl there
  where
    by : (o : Option Entry) → slice_get entries i ≡ o → option_map framed_in o ≡ Some f → AreTaken entries (i + 1) new
    by (Some e) is same =
        let f_is : f ≡ framed_in e = sym (ap (λ x. unwrap_or x f) same) in
        record {
          taken = λ end.
              more end ∙ (λ j. was.taken end j + one_if (is_taken end (f_is j))) ∙ sym (taken-more end (take i entries) e) ∙ ap (taken end) (sym (place entries i e is).1);
          few = λ end. omega (arith, more end, was.few end, at-most-one (is_taken end f));
        }
    by None is same = absurd cc
