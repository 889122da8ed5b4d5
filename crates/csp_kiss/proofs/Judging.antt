-- Only the first bytes of a piece count, and what they are judged to be.
use Rattle.std.proofs.Common.{◌≡◌, ◌≢◌, ℕ, zero, suc, ◌+◌, ◌-◌, ◌<◌, ◌≤◌, Bool, inl, inr, List, [], ◌∷◌, ◌++◌, length, take, drop, refl, sym, ap, ◌∙◌, arith, append-nil, append_assoc, length-append}
use Rattle.std.proofs.lemmas.Bool.{lt-ltb, le-ltb, cases_lt, eq-eqb, ne_eqb}
use Rattle.std.proofs.lemmas.List.{length-take, take-append-le}
use Rattle.std.proofs.Math.Seq.{take-append_seam, drop-append_seam}
use Rattle.std.specs.Int.{w32, from_be_bytes}
use Rattle.csp_crc.specs.Crc.{crc_of}
use Rattle.csp_kiss.specs.declared.event.KissEvent.TheVariants.{Packet, TooLong, Short, BadCrc}
use Rattle.csp_kiss.specs.Frame.{covered}
use Rattle.csp_kiss.specs.Stream.{judged, compared}
use Rattle.csp_kiss.specs.Reading.{kept_bytes, room}

pub judged-long : (cover : Bool) (mtu : ℕ) (bytes : List ℕ) → mtu + 8 < length bytes → judged cover mtu bytes ≡ TooLong
unfolding judged
judged-long cover mtu bytes h = rw (lt-ltb (mtu + 8) (length bytes) h) refl

pub judged-short : (cover : Bool) (mtu : ℕ) (bytes : List ℕ) → length bytes < 8 → judged cover mtu bytes ≡ Short
unfolding judged
judged-short cover mtu bytes h = rw (le-ltb (mtu + 8) (length bytes) (omega arith), lt-ltb (length bytes) 8 h) refl

-- four bytes of a header, a payload and four bytes of a CRC
pub judged-parts : (cover : Bool) (mtu : ℕ) (bytes front head payload last : List ℕ) (header found : ℕ) →
    front ≡ take (length bytes - 4) bytes → last ≡ drop (length bytes - 4) bytes → length front + 4 ≡ length bytes →
    head ≡ take 4 front → payload ≡ drop 4 front → length payload + 4 ≡ length front → length bytes ≤ mtu + 8 →
    header ≡ from_be_bytes w32 head → found ≡ from_be_bytes w32 last → judged cover mtu bytes ≡ compared cover header payload found
unfolding judged
judged-parts cover mtu bytes front head payload last header found before after whole first rest parts high is stands =
    rw (le-ltb (mtu + 8) (length bytes) high, le-ltb (length bytes) 8 (omega arith), ← before, ← after, ← first, ← rest, ← is, ← stands) refl

pub compared-right : (cover : Bool) (header : ℕ) (payload : List ℕ) (found : ℕ) → found ≡ crc_of (covered cover header payload) →
    compared cover header payload found ≡ Packet header (record { items = payload })
unfolding compared
compared-right cover header payload found e = rw (eq-eqb found (crc_of (covered cover header payload)) e) refl

pub compared-wrong : (cover : Bool) (header : ℕ) (payload : List ℕ) (found : ℕ) → found ≢ crc_of (covered cover header payload) →
    compared cover header payload found ≡ BadCrc found (crc_of (covered cover header payload))
unfolding compared
compared-wrong cover header payload found ne = rw (ne_eqb found (crc_of (covered cover header payload)) ne) refl

-- a header, a payload and a CRC one after the other
pub judged-joined : (cover : Bool) (mtu : ℕ) (head payload last : List ℕ) → length head ≡ 4 → length last ≡ 4 → length payload ≤ mtu →
    judged cover mtu (head ++ (payload ++ last)) ≡ compared cover (from_be_bytes w32 head) payload (from_be_bytes w32 last)
judged-joined cover mtu head payload last four ends fits =
    let all : List ℕ = head ++ (payload ++ last) in
    let front : List ℕ = head ++ payload in
    let split : front ++ last ≡ all = append_assoc head payload last in
    let long : length front ≡ length head + length payload = length-append head payload in
    let whole : length all ≡ length front + length last = ap length (sym split) ∙ length-append front last in
    let before : length all - 4 ≡ length front = omega arith in
    judged-parts cover mtu all front head payload last (from_be_bytes w32 head) (from_be_bytes w32 last)
    (rw (before, ← split) (sym (take-append_seam front last)))
    (rw (before, ← split) (sym (drop-append_seam front last)))
    (omega arith)
    (rw (← four) (sym (take-append_seam head payload)))
    (rw (← four) (sym (drop-append_seam head payload)))
    (omega arith) (omega arith) refl refl

pub take_all : (room : ℕ) (bytes : List ℕ) → length bytes ≤ room → take room bytes ≡ bytes
take_all zero [] h = refl
take_all zero (byte ∷ bytes) h = absurd (omega arith)
take_all (suc room) [] h = refl
take_all (suc room) (byte ∷ bytes) h = ap (λ rest. byte ∷ rest) (take_all room bytes (omega arith))

pub judged-take : (cover : Bool) (mtu : ℕ) (bytes : List ℕ) → judged cover mtu (take (room mtu) bytes) ≡ judged cover mtu bytes
judged-take cover mtu bytes =
    elim (cases_lt (mtu + 8) (length bytes)) [
      | inl long ↦ judged-long cover mtu (take (room mtu) bytes) (omega (arith, length-take (room mtu) bytes)) ∙ sym (judged-long cover mtu bytes long)
      | inr short ↦ ap (judged cover mtu) (take_all (room mtu) bytes (omega arith))
    ]

-- a byte is kept where there is room, and no more where there is none
pub kept_room : (mtu : ℕ) (plain : List ℕ) (byte : ℕ) → length plain < room mtu → kept_bytes mtu plain (byte ∷ []) ≡ plain ++ byte ∷ []
kept_room mtu plain byte h = take_all (room mtu) (plain ++ byte ∷ []) (omega (arith, length-append plain (byte ∷ [])))

pub kept_full : (mtu : ℕ) (plain : List ℕ) (byte : ℕ) → length plain ≡ room mtu → kept_bytes mtu plain (byte ∷ []) ≡ plain
kept_full mtu plain byte h = take-append-le (room mtu) plain (byte ∷ []) (omega arith) ∙ take_all (room mtu) plain (omega arith)

pub kept_none : (mtu : ℕ) (plain : List ℕ) → length plain ≤ room mtu → kept_bytes mtu plain [] ≡ plain
kept_none mtu plain h = ap (λ bytes. take (room mtu) bytes) (append-nil plain) ∙ take_all (room mtu) plain h

pub take-take-append : (room : ℕ) (xs ys : List ℕ) → take room (take room xs ++ ys) ≡ take room (xs ++ ys)
take-take-append zero xs ys = refl
take-take-append (suc room) [] ys = refl
take-take-append (suc room) (x ∷ xs) ys = ap (λ rest. x ∷ rest) (take-take-append room xs ys)

pub ruleset keeping = (kept_room, kept_full, kept_none)
