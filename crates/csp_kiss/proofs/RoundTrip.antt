-- The frame of a packet, read again.
use Rattle.std.proofs.Common.{◌≡◌, ℕ, zero, suc, ◌^◌, ◌<◌, ◌≤◌, Bool, true, false, cond, eqb, List, [], ◌∷◌, ◌++◌, length, drop, refl, sym, ap, ◌∙◌, arith, append_assoc}
use Rattle.std.specs.Int.{w32, from_be_bytes, to_be_bytes}
use Rattle.std.specs.List.{flat_map, onto_first, All}
use Rattle.std.proofs.lemmas.Grind.{flat_map-append}
use Rattle.std.proofs.lemmas.Bool.{eqb-true}
use Rattle.std.proofs.lemmas.List.Elements.{All-append}
use Rattle.std.proofs.lemmas.List.Splits.{slice_split_at}
use Rattle.std.proofs.lemmas.Nat.{from_be_bytes-to_be_bytes_4}
use Rattle.csp_crc.specs.Crc.{crc_of}
use Rattle.csp_crc.proofs.Public.{crc_of-lt}
use Rattle.csp_kiss.specs.declared.TheConstants.{FEND, FESC, TFEND, TFESC}
use Rattle.csp_kiss.specs.declared.event.KissEvent.TheVariants.{Packet}
use Rattle.csp_kiss.specs.Frame.{escape_of, escaped, covered, frame}
use Rattle.csp_kiss.specs.Stream.{is_end, but_last, pieces, undone, compared, judged, event_of, events}
use Rattle.csp_kiss.proofs.Judging.{judged-joined, compared-right}

-- a frame from the parts that are written one after the other
pub frame_from : (head payload crc : List ℕ) →
    ((((FEND ∷ 0 ∷ []) ++ escaped head) ++ escaped payload) ++ escaped crc) ++ FEND ∷ [] ≡ FEND ∷ 0 ∷ (escaped (head ++ (payload ++ crc)) ++ FEND ∷ [])
frame_from head payload crc =
    let parts : escaped (head ++ (payload ++ crc)) ≡ escaped head ++ (escaped payload ++ escaped crc) =
    flat_map-append escape_of head (payload ++ crc) ∙ ap (λ rest. escaped head ++ rest) (flat_map-append escape_of payload crc) in
    ap (λ all. FEND ∷ 0 ∷ (all ++ FEND ∷ [])) (append_assoc (escaped head) (escaped payload) (escaped crc) ∙ sym parts)

-- escapes undone are what was escaped
undone-byte : (byte : ℕ) (rest : List ℕ) (ends escapes : Bool) → eqb byte FEND ≡ ends → eqb byte FESC ≡ escapes →
    undone false (cond ends (FESC ∷ TFEND ∷ []) (cond escapes (FESC ∷ TFESC ∷ []) (byte ∷ [])) ++ rest) ≡ byte ∷ undone false rest
unfolding undone
undone-byte byte rest true escapes e f = ap (λ first. first ∷ undone false rest) (sym (eqb-true byte FEND e))
undone-byte byte rest false true e f = ap (λ first. first ∷ undone false rest) (sym (eqb-true byte FESC f))
undone-byte byte rest false false e f = rw f refl

undone-escaped : (bytes : List ℕ) → undone false (escaped bytes) ≡ bytes
unfolding undone
undone-escaped [] = refl
undone-escaped (byte ∷ bytes) =
    undone-byte byte (escaped bytes) (eqb byte FEND) (eqb byte FESC) refl refl ∙ ap (λ rest. byte ∷ rest) (undone-escaped bytes)

-- an escaped form has no FEND
no_end-pair : (first second : ℕ) → is_end first ≡ false → is_end second ≡ false → All (λ byte. is_end byte ≡ false) (first ∷ second ∷ [])
no_end-pair first second h g zero d k = h
no_end-pair first second h g (suc zero) d k = g
no_end-pair first second h g (suc (suc i)) d k = absurd (omega arith)

no_end-one : (byte : ℕ) → is_end byte ≡ false → All (λ byte. is_end byte ≡ false) (byte ∷ [])
no_end-one byte h zero d k = h
no_end-one byte h (suc i) d k = absurd (omega arith)

no_end-byte : (byte : ℕ) (ends escapes : Bool) → eqb byte FEND ≡ ends → All (λ byte. is_end byte ≡ false) (cond ends (FESC ∷ TFEND ∷ []) (cond escapes (FESC ∷ TFESC ∷ []) (byte ∷ [])))
no_end-byte byte true escapes e = no_end-pair FESC TFEND refl refl
no_end-byte byte false true e = no_end-pair FESC TFESC refl refl
no_end-byte byte false false e = no_end-one byte e

no_end-escaped : (bytes : List ℕ) → All (λ byte. is_end byte ≡ false) (escaped bytes)
no_end-escaped [] = λ k d h. absurd (omega arith)
no_end-escaped (byte ∷ bytes) =
    All-append (λ byte. is_end byte ≡ false) (escape_of byte) (escaped bytes) (no_end-byte byte (eqb byte FEND) (eqb byte FESC) refl) (no_end-escaped bytes)

events-piece : (cover : Bool) (mtu : ℕ) (bytes : List ℕ) → All (λ byte. is_end byte ≡ false) bytes → events cover mtu (FEND ∷ 0 ∷ (bytes ++ FEND ∷ [])) ≡ judged cover mtu (undone false bytes) ∷ []
unfolding events pieces but_last event_of
events-piece cover mtu bytes none =
    ap (λ parts. flat_map (event_of cover mtu) (drop 1 (but_last ([] ∷ onto_first 0 parts)))) (slice_split_at is_end bytes FEND [] none refl)

pub events-packet : (cover : Bool) (mtu header : ℕ) (payload : List ℕ) → header < 2 ^ 32 → length payload ≤ mtu →
    events cover mtu (frame cover header payload) ≡ Packet header (record { items = payload }) ∷ []
unfolding frame
events-packet cover mtu header payload fits short =
    let crc : ℕ = crc_of (covered cover header payload) in
    let head : List ℕ = to_be_bytes w32 header in
    let last : List ℕ = to_be_bytes w32 crc in
    let all : List ℕ = head ++ (payload ++ last) in
    let word : from_be_bytes w32 head ≡ header = from_be_bytes-to_be_bytes_4 header fits in
    let found : from_be_bytes w32 last ≡ crc = from_be_bytes-to_be_bytes_4 crc (crc_of-lt (covered cover header payload)) in
    events-piece cover mtu (escaped all) (no_end-escaped all)
    ∙ ap (λ event. event ∷ []) (
    ap (judged cover mtu) (undone-escaped all)
    ∙ judged-joined cover mtu head payload last refl refl short
    ∙ (λ i. compared cover (word i) payload (found i))
    ∙ compared-right cover header payload crc refl)
