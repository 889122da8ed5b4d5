-- A plain bit of an escaped form, turned over, is a bit of what was escaped.
use Rattle.std.proofs.Common.{◌≡◌, ℕ, zero, suc, ◌+◌, ◌*◌, ◌/◌, ◌%◌, ◌^◌, ◌<◌, Bool, true, false, cond, eqb, List, [], ◌∷◌, ◌++◌, length, get_or, set, refl, ap, sym, subst, ◌∙◌, arith, bit_xor}
use Rattle.std.proofs.lemmas.Bool.{ne_eqb}
use Rattle.std.proofs.lemmas.List.{get_or-set_same}
use Rattle.csp_kiss.specs.declared.TheConstants.{FEND, FESC, TFEND, TFESC}
use Rattle.csp_kiss.specs.Frame.{escaped}
use Rattle.csp_noticed.specs.Flipping.{flipped}
use Rattle.csp_noticed.specs.Plain.{IsPlain, IsPlainAt, FlipsPlain}

-- a plain byte stands for itself
escaped-plain : (byte : ℕ) (bytes : List ℕ) → eqb byte FEND ≡ false → eqb byte FESC ≡ false → escaped (byte ∷ bytes) ≡ byte ∷ escaped bytes
escaped-plain byte bytes e g =
    ap (λ b. cond b (FESC ∷ TFEND ∷ []) (cond (eqb byte FESC) (FESC ∷ TFESC ∷ []) (byte ∷ [])) ++ escaped bytes) e
    ∙ ap (λ b. cond b (FESC ∷ TFESC ∷ []) (byte ∷ []) ++ escaped bytes) g

-- the byte at a place of an escaped form stands for one of what was escaped, and any other plain byte there would too
record StandsFor (body bytes : List ℕ) (place : ℕ) : Type 0 where
  at : ℕ
  there : at < length bytes
  same : get_or body place 0 ≡ get_or bytes at 0
  changed : (byte : ℕ) → IsPlain byte → set body place byte ≡ escaped (set bytes at byte)

abbrev StandForSome : List ℕ → Type 0
StandForSome bytes = (place : ℕ) → place < length (escaped bytes) → IsPlainAt (escaped bytes) place → StandsFor (escaped bytes) bytes place

-- after a byte that became two
after-pair : (second byte : ℕ) (bytes : List ℕ) → StandForSome bytes → ((rest : List ℕ) → escaped (byte ∷ rest) ≡ FESC ∷ second ∷ escaped rest) →
    (place : ℕ) → place < length (FESC ∷ second ∷ escaped bytes) → IsPlainAt (FESC ∷ second ∷ escaped bytes) place → StandsFor (FESC ∷ second ∷ escaped bytes) (byte ∷ bytes) place
after-pair second byte bytes ih pair zero h p = absurd (p.plain.1 refl)
after-pair second byte bytes ih pair (suc zero) h p = absurd (p.unescaped 0 refl refl)
after-pair second byte bytes ih pair (suc (suc place)) h p =
    let o = ih place (omega arith) (record { plain = p.plain; unescaped = λ before e. p.unescaped (suc (suc before)) (omega arith) }) in
    record {
      at = suc o.at;
      there = omega (arith, o.there);
      same = o.same;
      changed = λ byte plain. ap (λ rest. FESC ∷ second ∷ rest) (o.changed byte plain) ∙ sym (pair (set bytes o.at byte));
    }

-- at a byte that stands for itself, and after it
at-plain : (byte : ℕ) (bytes : List ℕ) → StandForSome bytes → eqb byte FEND ≡ false → eqb byte FESC ≡ false →
    (place : ℕ) → place < length (byte ∷ escaped bytes) → IsPlainAt (byte ∷ escaped bytes) place → StandsFor (byte ∷ escaped bytes) (byte ∷ bytes) place
at-plain byte bytes ih e g zero h p = record {
  at = 0;
  there = omega arith;
  same = refl;
  changed = λ other plain. sym (escaped-plain other bytes (ne_eqb other FEND plain.0) (ne_eqb other FESC plain.1));
}
at-plain byte bytes ih e g (suc place) h p =
    let o = ih place (omega arith) (record { plain = p.plain; unescaped = λ before e. p.unescaped (suc before) (omega arith) }) in
    record {
      at = suc o.at;
      there = omega (arith, o.there);
      same = o.same;
      changed = λ other plain. ap (λ rest. byte ∷ rest) (o.changed other plain) ∙ sym (escaped-plain byte (set bytes o.at other) e g);
    }

by-byte : (byte : ℕ) (bytes : List ℕ) → StandForSome bytes → (ends escapes : Bool) → eqb byte FEND ≡ ends → eqb byte FESC ≡ escapes → (place : ℕ) →
    let body : List ℕ = cond ends (FESC ∷ TFEND ∷ []) (cond escapes (FESC ∷ TFESC ∷ []) (byte ∷ [])) ++ escaped bytes in
    place < length body → IsPlainAt body place → StandsFor body (byte ∷ bytes) place
by-byte byte bytes ih true escapes e g =
    after-pair TFEND byte bytes ih (λ rest. ap (λ b. cond b (FESC ∷ TFEND ∷ []) (cond (eqb byte FESC) (FESC ∷ TFESC ∷ []) (byte ∷ [])) ++ escaped rest) e)
by-byte byte bytes ih false true e g =
    after-pair TFESC byte bytes ih (λ rest.
    ap (λ b. cond b (FESC ∷ TFEND ∷ []) (cond (eqb byte FESC) (FESC ∷ TFESC ∷ []) (byte ∷ [])) ++ escaped rest) e
    ∙ ap (λ b. cond b (FESC ∷ TFESC ∷ []) (byte ∷ []) ++ escaped rest) g)
by-byte byte bytes ih false false e g = at-plain byte bytes ih e g

stand_for : (bytes : List ℕ) → StandForSome bytes
stand_for [] place h p = absurd (omega arith)
stand_for (byte ∷ bytes) place h p = by-byte byte bytes (stand_for bytes) (eqb byte FEND) (eqb byte FESC) refl refl place h p

flipped-there : (bit : ℕ) (bytes : List ℕ) → FlipsPlain bit (escaped bytes) → StandsFor (escaped bytes) bytes (bit / 8) → (inner : ℕ) × (inner < 8 * length bytes) × (flipped bit (escaped bytes) ≡ escaped (flipped inner bytes))
flipped-there bit bytes f o =
    let place : ℕ = bit / 8 in
    let byte : ℕ = bit_xor (get_or (escaped bytes) place 0) (128 / 2 ^ (bit % 8)) in
    let inner : ℕ = 8 * o.at + bit % 8 in
    let at : inner / 8 ≡ o.at = omega arith in
    let in_byte : inner % 8 ≡ bit % 8 = omega arith in
    let held : place < length (escaped bytes) = omega (arith, f.there) in
    let plain : IsPlain byte = subst IsPlain (get_or-set_same (escaped bytes) place byte 0 held) f.is in
    let here : set bytes o.at byte ≡ flipped inner bytes = rw (at, in_byte, o.same) refl in
    (inner, omega (arith, o.there), o.changed byte plain ∙ ap escaped here)

-- the escaped form with a plain bit turned over is that of the bytes with a bit turned over
pub escaped-flipped : (bit : ℕ) (bytes : List ℕ) → FlipsPlain bit (escaped bytes) → (inner : ℕ) × (inner < 8 * length bytes) × (flipped bit (escaped bytes) ≡ escaped (flipped inner bytes))
escaped-flipped bit bytes f = flipped-there bit bytes f (stand_for bytes (bit / 8) (omega (arith, f.there)) f.was)
