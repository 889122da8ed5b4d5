-- A frame, and a frame of which one plain bit was turned over, as a reader takes it.
use Rattle.std.proofs.Common.{◌≡◌, ◌≢◌, ℕ, zero, suc, ◌+◌, ◌-◌, ◌*◌, ◌/◌, ◌%◌, ◌^◌, ◌<◌, ◌≤◌, Bool, true, List, [], ◌∷◌, ◌++◌, length, get_or, set, refl, ap, sym, subst, ◌∙◌, arith, inl, inr, bit_xor, append_assoc, length-append}
use Rattle.std.proofs.lemmas.Bool.{cases_lt}
use Rattle.std.proofs.lemmas.List.{get_or_append_left, get_or-append_right}
use Rattle.std.proofs.lemmas.Nat.{from_be_bytes-to_be_bytes_4}
use Rattle.std.proofs.Math.Seq.{get_or-append_seam}
use Rattle.std.specs.Int.{w32, to_be_bytes, from_be_bytes}
use Rattle.csp_crc.specs.Crc.{crc_of, checked}
use Rattle.csp_crc.proofs.Public.{crc_of-lt}
use Rattle.csp_kiss.specs.declared.TheConstants.{FEND}
use Rattle.csp_kiss.specs.declared.event.KissEvent.TheVariants.{Packet, BadCrc}
use Rattle.csp_kiss.specs.Frame.{escaped, covered, frame}
use Rattle.csp_kiss.specs.Reading.{Reading}
use Rattle.csp_kiss.specs.Stream.{judged, compared}
use Rattle.csp_kiss.proofs.Public.{judged-joined, compared-right}
use Rattle.csp_noticed.specs.Flipping.{flipped}
use Rattle.csp_noticed.specs.Made.{HasNothingBegun, IsReadyFor, MakesJust, MakesWrong}
use Rattle.csp_noticed.specs.Plain.{IsPlain, FlipsPlain}
use Rattle.csp_noticed.proofs.Damage.{AreBytes, flipped-first, flipped-second, length-flipped, word-bytes, IsNoticed, noticed}
use Rattle.csp_noticed.proofs.Escaping.{escaped-flipped}
use Rattle.csp_noticed.proofs.Reading.{made}

-- ---- a plain bit in one of two lists

plain-first : (bit : ℕ) (xs ys : List ℕ) → FlipsPlain bit (xs ++ ys) → bit < 8 * length xs → FlipsPlain bit xs
plain-first bit xs ys f h =
    let place : ℕ = bit / 8 in
    let here : get_or (xs ++ ys) place 0 ≡ get_or xs place 0 = get_or_append_left xs ys 0 place (omega arith) in
    let changed : get_or (flipped bit (xs ++ ys)) place 0 ≡ get_or (flipped bit xs) place 0 =
    ap (λ (bs : List ℕ). get_or bs place 0) (flipped-first bit xs ys h) ∙ get_or_append_left (flipped bit xs) ys 0 place (omega (arith, length-flipped bit xs)) in
    record {
      there = h;
      was = record {
        plain = subst IsPlain here f.was.plain;
        unescaped = λ before e same. f.was.unescaped before e (get_or_append_left xs ys 0 before (omega arith) ∙ same);
      };
      is = subst IsPlain changed f.is;
    }

plain-second : (bit : ℕ) (xs ys : List ℕ) → FlipsPlain bit (xs ++ ys) → 8 * length xs ≤ bit → FlipsPlain (bit - 8 * length xs) ys
plain-second bit xs ys f h =
    let place : ℕ = bit / 8 in
    let later : ℕ = bit - 8 * length xs in
    let at : place - length xs ≡ later / 8 = omega arith in
    let here : get_or (xs ++ ys) place 0 ≡ get_or ys (later / 8) 0 = get_or-append_right xs ys (length xs) place 0 refl (omega arith) ∙ ap (λ k. get_or ys k 0) at in
    let changed : get_or (flipped bit (xs ++ ys)) place 0 ≡ get_or (flipped later ys) (later / 8) 0 =
    ap (λ (bs : List ℕ). get_or bs place 0) (flipped-second bit xs ys h) ∙ get_or-append_right xs (flipped later ys) (length xs) place 0 refl (omega arith)
    ∙ ap (λ k. get_or (flipped later ys) k 0) at in
    record {
      there = omega (arith, f.there, length-append xs ys);
      was = record {
        plain = subst IsPlain here f.was.plain;
        unescaped = λ before e same.
            let back : length xs + before - length xs ≡ before = omega arith in
            f.was.unescaped (length xs + before) (omega arith) (get_or-append_right xs ys (length xs) (length xs + before) 0 refl (omega arith) ∙ ap (λ k. get_or ys k 0) back ∙ same);
      };
      is = subst IsPlain changed f.is;
    }

-- ---- between the two FENDs

-- a plain bit past the first two bytes is one of the escaped form, since the last byte is FEND
in-escaped : (bit : ℕ) (bytes : List ℕ) → FlipsPlain bit (FEND ∷ 0 ∷ (escaped bytes ++ FEND ∷ [])) → 16 ≤ bit → (FlipsPlain (bit - 16) (escaped bytes))
in-escaped bit bytes f h =
    let body : List ℕ = escaped bytes in
    let g : FlipsPlain (bit - 16) (body ++ FEND ∷ []) = plain-second bit (FEND ∷ 0 ∷ []) (body ++ FEND ∷ []) f h in
    elim (cases_lt (bit - 16) (8 * length body)) [
      | inl before ↦ plain-first (bit - 16) body (FEND ∷ []) g before
      | inr after ↦
          let last : (bit - 16) / 8 ≡ length body = omega (arith, g.there, length-append body (FEND ∷ [])) in
          absurd (g.was.plain.0 (ap (λ k. get_or (body ++ FEND ∷ []) k 0) last ∙ get_or-append_seam body FEND [] 0))
    ]

inner-flipped : (bit : ℕ) (bytes : List ℕ) → FlipsPlain bit (FEND ∷ 0 ∷ (escaped bytes ++ FEND ∷ [])) → 16 ≤ bit →
    (inner : ℕ) × (inner < 8 * length bytes) × (flipped bit (FEND ∷ 0 ∷ (escaped bytes ++ FEND ∷ [])) ≡ FEND ∷ 0 ∷ (escaped (flipped inner bytes) ++ FEND ∷ []))
inner-flipped bit bytes f h =
    let body : List ℕ = escaped bytes in
    let g : FlipsPlain (bit - 16) body = in-escaped bit bytes f h in
    let o = escaped-flipped (bit - 16) bytes g in
    (o.0, o.1, flipped-second bit (FEND ∷ 0 ∷ []) (body ++ FEND ∷ []) h ∙ ap (λ (bs : List ℕ). FEND ∷ 0 ∷ bs) (flipped-first (bit - 16) body (FEND ∷ []) g.there ∙ ap (λ (bs : List ℕ). bs ++ FEND ∷ []) o.2))

-- a plain bit of the first two bytes is one of the second
second-changed : (place byte : ℕ) (rest : List ℕ) → place < 2 → IsPlain (get_or (FEND ∷ 0 ∷ rest) place 0) → IsPlain (get_or (set (FEND ∷ 0 ∷ rest) place byte) place 0) →
    (byte ≢ FEND) × (set (FEND ∷ 0 ∷ rest) place byte ≡ FEND ∷ byte ∷ rest)
second-changed zero byte rest h was is = absurd (was.0 refl)
second-changed (suc zero) byte rest h was is = (is.0, refl)
second-changed (suc (suc place)) byte rest h was is = absurd (omega arith)

-- ---- the frame of a packet

-- the bytes that are escaped
abbrev content : (cover : Bool) (header : ℕ) (payload : List ℕ) → List ℕ
content cover header payload = to_be_bytes w32 header ++ (payload ++ to_be_bytes w32 (crc_of (covered cover header payload)))

judged-content : (cover : Bool) (mtu header : ℕ) (payload : List ℕ) → header < 2 ^ 32 → length payload ≤ mtu → judged cover mtu (content cover header payload) ≡ Packet header (record { items = payload })
judged-content cover mtu header payload fits short =
    let crc : ℕ = crc_of (covered cover header payload) in
    let word : from_be_bytes w32 (to_be_bytes w32 header) ≡ header = from_be_bytes-to_be_bytes_4 header fits in
    let found : from_be_bytes w32 (to_be_bytes w32 crc) ≡ crc = from_be_bytes-to_be_bytes_4 crc (crc_of-lt (covered cover header payload)) in
    judged-joined cover mtu (to_be_bytes w32 header) payload (to_be_bytes w32 crc) refl refl short
    ∙ ap (λ n. compared cover n payload (from_be_bytes w32 (to_be_bytes w32 crc))) word
    ∙ compared-right cover header payload (from_be_bytes w32 (to_be_bytes w32 crc)) found

-- whatever byte, but FEND, comes after the first FEND
made-packet : (r : Reading) (skipped header : ℕ) (payload : List ℕ) → IsReadyFor r header payload → skipped ≢ FEND →
    MakesJust r (FEND ∷ skipped ∷ (escaped (content r.cover header payload) ++ FEND ∷ [])) (Packet header (record { items = payload }))
made-packet r skipped header payload ready ne =
    let bytes : List ℕ = content r.cover header payload in
    subst (MakesJust r (FEND ∷ skipped ∷ (escaped bytes ++ FEND ∷ []))) (judged-content r.cover r.mtu header payload ready.word ready.fits) (made r skipped bytes ready.between ne)

pub frame-read : (r : Reading) (header : ℕ) (payload : List ℕ) → IsReadyFor r header payload → MakesJust r (frame r.cover header payload) (Packet header (record { items = payload }))
unfolding frame
frame-read r header payload ready = made-packet r 0 header payload ready (λ e. absurd (omega (arith, e)))

pub frame-skipped : (r : Reading) (header : ℕ) (payload : List ℕ) (bit : ℕ) → IsReadyFor r header payload → FlipsPlain bit (frame r.cover header payload) → bit < 16 →
    MakesJust r (flipped bit (frame r.cover header payload)) (Packet header (record { items = payload }))
unfolding frame
frame-skipped r header payload bit ready f low =
    let rest : List ℕ = escaped (content r.cover header payload) ++ FEND ∷ [] in
    let byte : ℕ = bit_xor (get_or (FEND ∷ 0 ∷ rest) (bit / 8) 0) (128 / 2 ^ (bit % 8)) in
    let o = second-changed (bit / 8) byte rest (omega arith) f.was.plain f.is in
    subst (λ (bs : List ℕ). MakesJust r bs (Packet header (record { items = payload }))) (sym o.1) (made-packet r byte header payload ready o.0)

-- where the CRC covers the header, the bytes that are escaped are a message and its CRC
content-checked : (header : ℕ) (payload : List ℕ) → content true header payload ≡ checked (to_be_bytes w32 header ++ payload)
unfolding checked
content-checked header payload = sym (append_assoc (to_be_bytes w32 header) payload (to_be_bytes w32 (crc_of (to_be_bytes w32 header ++ payload))))

-- its first four bytes are bytes
header-bytes : (header : ℕ) (payload : List ℕ) → AreBytes 4 (to_be_bytes w32 header ++ payload)
header-bytes header payload i below = rw (get_or_append_left (to_be_bytes w32 header) payload 0 i below) (word-bytes header i)

noticed-content : (mtu header : ℕ) (payload : List ℕ) (bit : ℕ) → length payload ≤ mtu → bit < 8 * length (content true header payload) → IsNoticed mtu (flipped bit (content true header payload))
noticed-content mtu header payload bit short there =
    let message : List ℕ = to_be_bytes w32 header ++ payload in
    let same : checked message ≡ content true header payload = sym (content-checked header payload) in
    let long : length message ≡ 4 + length payload = length-append (to_be_bytes w32 header) payload in
    let within : bit < 8 * length (checked message) = subst (λ (bs : List ℕ). bit < 8 * length bs) (content-checked header payload) there in
    subst (λ (bs : List ℕ). IsNoticed mtu (flipped bit bs)) same (noticed mtu bit message (omega arith) (omega arith) (header-bytes header payload) within)

made-wrong : (r : Reading) (bytes : List ℕ) → HasNothingBegun r → IsNoticed r.mtu bytes → r.cover ≡ true → MakesWrong r (FEND ∷ 0 ∷ (escaped bytes ++ FEND ∷ []))
made-wrong r bytes between n covers =
    let judgement : judged r.cover r.mtu bytes ≡ BadCrc n.0 n.1 = ap (λ b. judged b r.mtu bytes) covers ∙ n.3 in
    (n.0, n.1, n.2, subst (MakesJust r (FEND ∷ 0 ∷ (escaped bytes ++ FEND ∷ []))) judgement (made r 0 bytes between (λ e. absurd (omega (arith, e)))))

pub frame-noticed : (r : Reading) (header : ℕ) (payload : List ℕ) (bit : ℕ) → IsReadyFor r header payload → r.cover ≡ true → FlipsPlain bit (frame true header payload) → 16 ≤ bit →
    MakesWrong r (flipped bit (frame true header payload))
unfolding frame
frame-noticed r header payload bit ready covers f high =
    let bytes : List ℕ = content true header payload in
    let o = inner-flipped bit bytes f high in
    subst (MakesWrong r) (sym o.2) (made-wrong r (flipped o.0 bytes) ready.between (noticed-content r.mtu header payload o.0 ready.fits o.1) covers)
