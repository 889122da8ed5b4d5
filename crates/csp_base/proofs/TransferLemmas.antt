-- Lemmas on known bytes that are consumed and appended step by step.
use Rattle.std.proofs.Common.{◌≡◌, ℕ, ◌+◌, ◌≤◌, List, [], ◌++◌, length, take, drop, refl, sym, subst, arith, append_assoc, length-append}
use Rattle.std.specs.Prelude.{Option, None, Some}
use Rattle.std.specs.Io.KnownBytes.{Consumes, Appends, IsAtEnd}
use Rattle.std.proofs.lemmas.List.{append-nil, take-append-drop}
use Rattle.csp_base.specs.Transfer.{TookAll, TookAtMost, Extends}

-- nothing is consumed where nothing was done
pub consumes_none : (a : Option (List ℕ)) → Consumes a a []
consumes_none None = tt
consumes_none (Some xs) = refl

-- what is consumed in two steps is consumed
pub consumes_both : (a b c : Option (List ℕ)) (xs ys : List ℕ) → Consumes a b xs → Consumes b c ys → Consumes a c (xs ++ ys)
consumes_both None b c xs ys p q = tt
consumes_both (Some s) None c xs ys p q = absurd p
consumes_both (Some s) (Some t) None xs ys p q = absurd q
consumes_both (Some s) (Some t) (Some u) xs ys p q = rw append_assoc (rw (← q) p)

-- a list that holds what was consumed still does after it was extended
pub consumes_extended : (a b c : Option (List ℕ)) (old new : List ℕ) (n : ℕ) → Consumes a b old → Extends b c old new n → Consumes a c new
consumes_extended a b c old new n p e = subst (Consumes a c) (sym e.extended) (consumes_both a b c old e.taken p e.consumed)

-- at the end of the input all was taken
pub took_all : (a c : Option (List ℕ)) (bytes : List ℕ) → Consumes a c bytes → IsAtEnd c → TookAll a c bytes
took_all None c bytes p q = tt
took_all (Some s) None bytes p q = absurd p
took_all (Some s) (Some t) bytes p q = (cc (append-nil bytes), cc)

-- more may be taken after some was
pub took_more : (a b c : Option (List ℕ)) (xs : List ℕ) (room most : ℕ) → Consumes a b xs → TookAtMost b c room → length xs + room ≤ most → TookAtMost a c most
took_more a b c xs room most p (ys, q, r) fits =
    (xs ++ ys, omega (arith, length-append xs ys), consumes_both a b c xs ys p r)

-- nothing is appended where nothing was done
pub appends_none : (a : Option (List ℕ)) → Appends a a []
appends_none None = tt
appends_none (Some xs) = sym (append-nil xs)

-- what is appended in two steps is appended
pub appends_both : (a b c : Option (List ℕ)) (xs ys : List ℕ) → Appends a b xs → Appends b c ys → Appends a c (xs ++ ys)
appends_both None b c xs ys p q = tt
appends_both (Some s) None c xs ys p q = absurd p
appends_both (Some s) (Some t) None xs ys p q = absurd q
appends_both (Some s) (Some t) (Some u) xs ys p q = rw (← append_assoc) (rw (← p) q)

-- more of the bytes was written: the next n of the rest
pub wrote_more : (a b c : Option (List ℕ)) (bytes front rest : List ℕ) (n : ℕ) (later : List ℕ) → bytes ≡ front ++ rest → Appends a b front → Appends b c (take n rest) → later ≡ drop n rest → (wider : List ℕ) × (bytes ≡ wider ++ later) × Appends a c wider
wrote_more a b c bytes front rest n later split p q left =
    (front ++ take n rest, rw (append_assoc, left, take-append-drop) split, appends_both a b c front (take n rest) p q)
