-- Marks and their bounds as both grow.
use Rattle.std.proofs.Common.{◌≡◌, ℕ, ◌≤◌, List, [], ◌∷◌, ◌++◌, Option, length, refl, sym, ap, ◌∙◌, arith, append_assoc, append-nil}
use Rattle.csp_lane.specs.Marks.{AreHeeded, marks_in, reached}
use Rattle.csp_lane.specs.Relays.{marks_of}
use Rattle.csp_lane.specs.declared.cargo.Cargo.{Cargo}

-- more marks keep their bounds
pub marks_more : (marks more bounds : List ℕ) → AreHeeded marks bounds → AreHeeded (marks ++ more) bounds
marks_more marks more [] h = tt
marks_more [] more (n ∷ bounds) h = absurd h
marks_more (m ∷ marks) more (n ∷ bounds) h = (h.0, marks_more marks more bounds h.1)

-- the first mark without a bound gets one
pub bounds_more : (done bounds : List ℕ) (m n : ℕ) → length done ≡ length bounds → AreHeeded (done ++ m ∷ []) bounds → m ≤ n → AreHeeded (done ++ m ∷ []) (bounds ++ n ∷ [])
bounds_more [] [] m n level h low = (low, tt)
bounds_more (d ∷ done) [] m n level h low = absurd (omega (arith, level))
bounds_more [] (b ∷ bounds) m n level h low = absurd (omega (arith, level))
bounds_more (d ∷ done) (b ∷ bounds) m n level h low = (h.0, bounds_more done bounds m n (omega (arith, level)) h.1 low)

-- the marks of two parts of a queue
pub marks-append : (about : Option ℕ) (xs ys : List Cargo) → marks_of about (xs ++ ys) ≡ marks_of about xs ++ marks_of about ys
marks-append about [] ys = refl
marks-append about (x ∷ xs) ys =
    ap (λ l. marks_in about (reached x.note) ++ l) (marks-append about xs ys)
    ∙ sym (append_assoc (marks_in about (reached x.note)) (marks_of about xs) (marks_of about ys))

pub marks-one : (about : Option ℕ) (x : Cargo) → marks_of about (x ∷ []) ≡ marks_in about (reached x.note)
marks-one about x = append-nil (marks_in about (reached x.note))
