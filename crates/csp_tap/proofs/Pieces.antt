-- Many bytes of a piece at once.
use Rattle.std.proofs.Common.{◌≡◌, ◌≢◌, ℕ, ◌+◌, ◌-◌, ◌<◌, ◌≤◌, Bool, true, false, eqb, ◌||◌, List, [], ◌∷◌, ◌++◌, length, take, drop, refl, sym, ap, ◌∙◌, arith, append-nil, append_assoc, subst, min}
use Rattle.std.proofs.lemmas.List.{length-take, take_min}
use Rattle.std.proofs.lemmas.List.Elements.{All-head, All-tail}
use Rattle.std.proofs.Math.Seq.{take-append-add}
use Rattle.std.specs.List.{list_any}
use Rattle.csp_base.specs.declared.limits.TheConstants.{MAX_PAYLOAD}
use Rattle.csp_kiss.specs.Reading.{Reading, going, kept_bytes, room}
use Rattle.csp_kiss.specs.declared.TheConstants.{FEND, FESC}
use Rattle.csp_kiss.specs.declared.stage.Stage.TheVariants.{Start, Plain}
use Rattle.csp_kiss.proofs.Public.{kept_none, take-take-append}
use Rattle.csp_tap.specs.Fed.{HasFed}
use Rattle.csp_tap.specs.Pieces.{HasNoEnd, gone_on, gone_through}
use Rattle.csp_tap.specs.declared.talks.Tally.{Tally}
use Rattle.csp_tap.proofs.Telling.{fed_on, tap_at}

-- as many bytes are kept as there is room for
take_room : (n : ℕ) (xs ys : List ℕ) → length xs ≤ n → take n (xs ++ ys) ≡ xs ++ take (n - length xs) ys
take_room n xs ys h =
    let e : n ≡ length xs + (n - length xs) = omega arith in
    ap (λ k. take k (xs ++ ys)) e ∙ take-append-add xs ys (n - length xs)

pub kept_fit : (plain bytes : List ℕ) → length plain ≤ room MAX_PAYLOAD → kept_bytes MAX_PAYLOAD plain bytes ≡ plain ++ take (min (room MAX_PAYLOAD - length plain) (length bytes)) bytes
kept_fit plain bytes h = take_room (room MAX_PAYLOAD) plain bytes h ∙ ap (λ more. plain ++ more) (sym (take_min (room MAX_PAYLOAD - length plain) bytes))

-- a byte that is kept as it is
pub kept_plain : (r : Reading) (byte : ℕ) → r.stage ≡ Plain → eqb byte FESC ≡ false → gone_on r byte ≡ going r Plain (kept_bytes r.mtu r.plain (byte ∷ []))
kept_plain r byte at e = rw (at, e) refl

neither : (a b : Bool) → (a || b) ≡ false → (a ≡ false) × (b ≡ false)
neither true b e = cc
neither false b e = (refl, e)

-- bytes without an escape are kept as they are
pub gone_plain : (r : Reading) (plain bytes : List ℕ) → length plain ≤ room r.mtu → list_any (λ byte. eqb byte FESC) bytes ≡ false
    → gone_through (going r Plain plain) bytes ≡ going r Plain (kept_bytes r.mtu plain bytes)
gone_plain r plain [] h none = ap (going r Plain) (sym (kept_none r.mtu plain h))
gone_plain r plain (byte ∷ bytes) h none =
    let apart = neither (eqb byte FESC) (list_any (λ b. eqb b FESC) bytes) none in
    let more : List ℕ = kept_bytes r.mtu plain (byte ∷ []) in
    let fits : length more ≤ room r.mtu = omega (arith, length-take (room r.mtu) (plain ++ byte ∷ [])) in
    ap (λ (into : Reading). gone_through into bytes) (kept_plain (going r Plain plain) byte refl apart.0)
    ∙ gone_plain r more bytes fits apart.1
    ∙ ap (going r Plain) (take-take-append (room r.mtu) (plain ++ byte ∷ []) bytes ∙ ap (λ bs. take (room r.mtu) bs) (append_assoc plain (byte ∷ []) bytes))

-- a whole piece without an escape
pub gone_start : (r : Reading) (bytes rest : List ℕ) → r.stage ≡ Start → 0 < length bytes → rest ≡ drop 1 bytes → length r.plain ≤ room r.mtu → list_any (λ byte. eqb byte FESC) rest ≡ false
    → gone_through r bytes ≡ going r Plain (kept_bytes r.mtu r.plain rest)
gone_start r [] rest at some is h none = absurd (omega arith)
gone_start r (byte ∷ bytes) rest at some is h none =
    let begins : gone_on r byte ≡ going r Plain r.plain = rw at refl in
    ap (λ (into : Reading). gone_through into bytes) begins
    ∙ gone_plain r r.plain bytes h (ap (list_any (λ b. eqb b FESC)) (sym is) ∙ none)
    ∙ ap (λ bs. going r Plain (kept_bytes r.mtu r.plain bs)) (sym is)

-- a tap that was fed bytes none of which ends a piece
pub fed_through : (cover : Bool) (stream bytes : List ℕ) (reading : Reading) (lines : List ℕ) (count : ℕ) (talks : List (ℕ × Tally)) → HasNoEnd bytes
    → HasFed cover stream (tap_at reading lines count talks) → HasFed cover (stream ++ bytes) (tap_at (gone_through reading bytes) lines count talks)
fed_through cover stream [] reading lines count talks free h = subst (λ s. HasFed cover s (tap_at reading lines count talks)) (sym (append-nil stream)) h
fed_through cover stream (byte ∷ bytes) reading lines count talks free h =
    let first = fed_on cover stream byte reading (gone_on reading byte) lines count talks (All-head (λ b. b ≢ FEND) byte bytes free) refl h in
    let rest = fed_through cover (stream ++ byte ∷ []) bytes (gone_on reading byte) lines count talks (All-tail (λ b. b ≢ FEND) byte bytes free) first in
    subst (λ s. HasFed cover s (tap_at (gone_through reading (byte ∷ bytes)) lines count talks)) (append_assoc stream (byte ∷ []) bytes) rest
