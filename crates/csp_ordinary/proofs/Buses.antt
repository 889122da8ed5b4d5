-- An interface on a CAN bus or a hub: where no two transmissions of the other ends share a source and a number, what is kept under a key are the first
-- bytes of the one that has them, and what is whole is what was sent.
use Rattle.std.proofs.Common.{◌≡◌, ◌≢◌, ℕ, zero, suc, ◌+◌, ◌-◌, ◌*◌, ◌%◌, ◌<◌, ◌≤◌, ◌==◌, ◌&&◌, ◌^◌, Bool, true, false, None, Some, List, [], ◌∷◌, ◌++◌, length, take, drop, is_some, slice_get, refl, sym, ap, ◌∙◌, subst, arith, eqb-true}
use Rattle.std.proofs.lemmas.List.{append-nil, append_assoc, drop-drop, length-append, take-append-drop}
use Rattle.std.proofs.lemmas.Nat.{from_be_bytes-to_be_bytes_2, from_be_bytes-to_be_bytes_4}
use Rattle.std.proofs.lemmas.Option.{slice_get_within}
use Rattle.std.specs.List.{AllByRecursion}
use Rattle.std.specs.Prelude.{if◌then◌else◌, unwrap_or}
use Rattle.csp_base.specs.declared.limits.TheConstants.{MAX_PAYLOAD}
use Rattle.csp_buffer.specs.Content.{Content}
use Rattle.csp_can.specs.Begins.{begin_header, begin_length, begin_payload}
use Rattle.csp_can.specs.Fragments.{frames_after}
use Rattle.csp_can.specs.Identifiers.{identifier_of, key_of, same_key}
use Rattle.csp_can.specs.Listening.{Listening}
use Rattle.csp_can.specs.Rules.{Arrival, arrival, grown_partial, opened_partial}
use Rattle.csp_can.specs.declared.identifiers.Key.{Key}
use Rattle.csp_can.specs.declared.identifiers.Kind.TheVariants.{Begin, More}
use Rattle.csp_can.specs.declared.partials.Partial.{Partial}
use Rattle.csp_header.specs.Word.{header_at}
use Rattle.csp_iface.specs.Receiving.{arrived, frame_heard, frame_read, read_further, reassembled}
use Rattle.csp_iface.specs.declared.receiver.Receiver.{Receiver}
use Rattle.csp_iface.specs.declared.receiver.Receiver.TheVariants as by
use Rattle.csp_iface.specs.declared.receiver.TheConstants.{MAX_HOPS}
use Rattle.csp_iface.specs.declared.sender.TheConstants.{IDS}
use Rattle.csp_log.specs.declared.frame.Frame.{Frame}
use Rattle.csp_log.specs.declared.places.End.{End}
use Rattle.csp_record.specs.Record.{PlainRecord}
use Rattle.csp_record.specs.Transmissions.{transmission}
use Rattle.csp_scene.specs.Ranges.{HasEnds}
use Rattle.csp_scene.specs.Scene.{PlainLink}
use Rattle.csp_consistent.proofs.Public.{IsOfOther, IsHeardSo, IsListeningSo, read_by, read_from, reassembled_so}
use Rattle.csp_ordinary.specs.AsSent.{IsAsSent}
use Rattle.csp_ordinary.specs.Ordinary.{AreApartOn, SentFrom}
use Rattle.csp_ordinary.proofs.Fragments.{IsPieceBy}
use Rattle.csp_ordinary.proofs.Headers.{some_same}

-- a source and a number on the bus are those of a transmission of this header and payload by an end, which began before the numbers came round
pub record HasNumber (r : PlainRecord) (source id header : ℕ) (payload : List ℕ) (from : End) : Type 0 where
  pub serial : ℕ
  pub below : serial < IDS
  pub id_is : id ≡ serial % IDS
  pub packet : Content
  pub shown : transmission r (record { node = from.node; iface = from.iface; serial = serial }) ≡ Some packet
  pub source_is : source ≡ (header_at header).src
  pub header_is : packet.header ≡ header
  pub payload_is : packet.payload ≡ payload

-- of the ends of a link but one no two transmitted packets of one source
abbrev pub AreOthersApart : PlainRecord → PlainLink → ℕ → Type 0
AreOthersApart r l at = (i j : ℕ) (a b : End) (source : ℕ) → i ≢ at → j ≢ at → slice_get l.ends i ≡ Some a → slice_get l.ends j ≡ Some b → SentFrom r a source → SentFrom r b source → i ≡ j

-- two of them where there are just two ends are one
one_other : (at i j : ℕ) → at < 2 → i < 2 → j < 2 → i ≢ at → j ≢ at → i ≡ j
one_other zero zero j here one two not_one not_two = absurd (not_one refl)
one_other zero (suc i) zero here one two not_one not_two = absurd (not_two refl)
one_other zero (suc i) (suc j) here one two not_one not_two = omega (arith, one, two)
one_other (suc at) zero zero here one two not_one not_two = refl
one_other (suc at) (suc i) j here one two not_one not_two = absurd (not_one (omega (arith, here, one)))
one_other (suc at) zero (suc j) here one two not_one not_two = absurd (not_two (omega (arith, here, two)))

-- so it is on a link with two ends, and on a hub whose sources are apart
pub others_apart : (r : PlainRecord) (l : PlainLink) (at : ℕ) (end : End) → HasEnds l → slice_get l.ends at ≡ Some end → (l.hub ≡ true → AreApartOn r l) → AreOthersApart r l at
others_apart r l at end shape on sources =
    by l.hub refl
  where
    by : (b : Bool) → l.hub ≡ b → AreOthersApart r l at
    by true is i j a b source not_i not_j at_i at_j sent_a sent_b = sources is i j a b source at_i at_j sent_a sent_b
    by false is i j a b source not_i not_j at_i at_j sent_a sent_b =
        let two : length l.ends ≡ 2 = shape.pair is in
        let here : at < length l.ends = slice_get_within l.ends at end on in
        let one : i < length l.ends = slice_get_within l.ends i a at_i in
        let other : j < length l.ends = slice_get_within l.ends j b at_j in
        one_other at i j (omega (arith, here, two)) (omega (arith, one, two)) (omega (arith, other, two)) not_i not_j

sent_from : (r : PlainRecord) (source id h : ℕ) (p : List ℕ) (from : End) → HasNumber r source id h p from → SentFrom r from source
sent_from r source id h p from a = record { serial = a.serial; packet = a.packet; shown = a.shown; source_is = ap (λ (w : ℕ). (header_at w).src) a.header_is ∙ sym a.source_is }

-- the rest of a payload when so many of its frames are still to come
abbrev rest_at : List ℕ → ℕ → List ℕ
rest_at payload remain = drop (8 * (frames_after (length payload) - remain)) (drop 2 payload)

-- a partial packet: the first bytes of what another end sent under its source and number, and how many frames of it are still to come
pub record IsPartSent (r : PlainRecord) (l : PlainLink) (at : ℕ) (p : Partial) : Type 0 where
  pub payload : List ℕ
  pub numbered : IsOfOther l at (HasNumber r p.key.source p.key.id p.header payload)
  pub sent : IsAsSent r p.header payload p.trace
  pub long : p.length ≡ length payload
  pub few : p.remain ≤ frames_after (length payload)
  pub joined : payload ≡ p.payload.items ++ rest_at payload p.remain

-- a frame that came: a piece of what another end sent under its source and number
pub record IsPieceSent (r : PlainRecord) (l : PlainLink) (at : ℕ) (a : Arrival) : Type 0 where
  pub header : ℕ
  pub payload : List ℕ
  pub numbered : IsOfOther l at (HasNumber r a.frame.head.source a.frame.head.id header payload)
  pub sent : IsAsSent r header payload a.trace
  pub word : header < 2 ^ 32
  pub short : length payload ≤ MAX_PAYLOAD
  pub piece : IsPieceBy a.frame.head.kind a.frame.head.remain a.frame.bytes header payload

-- such a frame, whenever it comes
abbrev pub IsCanOf : PlainRecord → PlainLink → ℕ → Frame → Type 0
IsCanOf r l at f = (now : ℕ) → IsPieceSent r l at (arrival (identifier_of (unwrap_or f.can 0)) f.bytes.items (arrived f.trace) now)

both_true : (a b : Bool) → (a && b) ≡ true → (a ≡ true) × (b ≡ true)
both_true true b e = (refl, e)
both_true false b e = absurd cc

same_id : (a b : Key) → same_key a b ≡ true → a.id ≡ b.id
same_id a b e = eqb-true a.id b.id (both_true (a.source == b.source && a.dest == b.dest) (a.id == b.id) e).1

same_source : (a b : Key) → same_key a b ≡ true → a.source ≡ b.source
same_source a b e = eqb-true a.source b.source (both_true (a.source == b.source) (a.dest == b.dest) (both_true (a.source == b.source && a.dest == b.dest) (a.id == b.id) e).0).0

no_bytes : (xs : List ℕ) → length xs ≡ 0 → xs ≡ []
no_bytes [] e = refl
no_bytes (x ∷ xs) e = absurd (omega (arith, e))

-- bytes that are as many as those that they begin are those
whole_front : (all xs ys : List ℕ) → all ≡ xs ++ ys → length xs ≡ length all → xs ≡ all
whole_front all xs ys e same =
    let total : length all ≡ length xs + length ys = ap length e ∙ length-append xs ys in
    let none : ys ≡ [] = no_bytes ys (omega (arith, total, same)) in
    sym (append-nil xs) ∙ ap (λ (zs : List ℕ). xs ++ zs) (sym none) ∙ sym e

module _ (r : PlainRecord) (l : PlainLink) (at : ℕ) (apart : AreOthersApart r l at) where
  -- no two packets of the other ends share their source and number
  one_packet : (source id h k : ℕ) (p q : List ℕ) → IsOfOther l at (HasNumber r source id h p) → IsOfOther l at (HasNumber r source id k q) → (h ≡ k) × (p ≡ q)
  one_packet source id h k p q a b =
      let m : HasNumber r source id h p a.end = a.holds in
      let n : HasNumber r source id k q b.end = b.holds in
      let place : a.place ≡ b.place = apart a.place b.place a.end b.end source a.apart b.apart a.there b.there (sent_from r source id h p a.end m) (sent_from r source id k q b.end n) in
      let end : a.end ≡ b.end = ap (λ o. unwrap_or o a.end) (sym a.there ∙ ap (slice_get l.ends) place ∙ b.there) in
      let serial : m.serial ≡ n.serial = omega (arith, m.below, n.below, m.id_is, n.id_is) in
      let packet : m.packet ≡ n.packet = some_same m.packet n.packet (sym m.shown ∙ (λ i. transmission r (record { node = (end i).node; iface = (end i).iface; serial = serial i })) ∙ n.shown) in
      (sym m.header_is ∙ ap (λ (c : Content). c.header) packet ∙ n.header_is, sym m.payload_is ∙ ap (λ (c : Content). c.payload) packet ∙ n.payload_is)

  opened : (a : Arrival) → IsPieceSent r l at a → a.frame.head.kind ≡ Begin → IsPartSent r l at (opened_partial a)
  opened a s begins =
      let total : ℕ = frames_after (length s.payload) in
      let piece : IsPieceBy Begin a.frame.head.remain a.frame.bytes s.header s.payload = subst (λ kind. IsPieceBy kind a.frame.head.remain a.frame.bytes s.header s.payload) begins s.piece in
      let header : begin_header a.frame.bytes ≡ s.header = ap begin_header piece.1 ∙ from_be_bytes-to_be_bytes_4 s.header s.word in
      let none : 0 ≡ 8 * (total - total) = omega arith in
      record {
        payload = s.payload;
        numbered = subst (λ h. IsOfOther l at (HasNumber r a.frame.head.source a.frame.head.id h s.payload)) (sym header) s.numbered;
        sent = subst (λ h. IsAsSent r h s.payload a.trace) (sym header) s.sent;
        long = ap begin_length piece.1 ∙ from_be_bytes-to_be_bytes_2 (length s.payload) (omega (arith, s.short));
        few = omega (arith, piece.0);
        joined = sym (take-append-drop 2 s.payload)
            ∙ ap (λ (n : ℕ). take 2 s.payload ++ drop n (drop 2 s.payload)) none
            ∙ (λ i. begin_payload (sym piece.1 i) ++ rest_at s.payload (sym piece.0 i));
      }

  grown : (p : Partial) (a : Arrival) → IsPartSent r l at p → IsPieceSent r l at a → a.frame.head.kind ≡ More → same_key p.key (key_of a.frame.head) ≡ true → (a.frame.head.remain + 1 == p.remain) ≡ true
      → IsPartSent r l at (grown_partial p a)
  grown p a k s more key next =
      let id : p.key.id ≡ a.frame.head.id = same_id p.key (key_of a.frame.head) key in
      let source : p.key.source ≡ a.frame.head.source = same_source p.key (key_of a.frame.head) key in
      let kept : IsOfOther l at (HasNumber r a.frame.head.source a.frame.head.id p.header k.payload) = subst (λ x. IsOfOther l at (HasNumber r x a.frame.head.id p.header k.payload)) source (subst (λ n. IsOfOther l at (HasNumber r p.key.source n p.header k.payload)) id k.numbered) in
      let same : (s.header ≡ p.header) × (s.payload ≡ k.payload) = one_packet a.frame.head.source a.frame.head.id s.header p.header s.payload k.payload s.numbered kept in
      let remains : a.frame.head.remain + 1 ≡ p.remain = eqb-true (a.frame.head.remain + 1) p.remain next in
      let total : ℕ = frames_after (length k.payload) in
      let few : p.remain ≤ total = k.few in
      let piece : IsPieceBy More a.frame.head.remain a.frame.bytes p.header k.payload =
      subst (λ q. IsPieceBy More a.frame.head.remain a.frame.bytes p.header q) same.1 (subst (λ h. IsPieceBy More a.frame.head.remain a.frame.bytes h s.payload) same.0 (subst (λ kind. IsPieceBy kind a.frame.head.remain a.frame.bytes s.header s.payload) more s.piece)) in
      let here : 8 * (total - 1 - a.frame.head.remain) ≡ 8 * (total - p.remain) = omega (arith, remains) in
      let there : 8 * (total - p.remain) + 8 ≡ 8 * (total - a.frame.head.remain) = omega (arith, remains, few) in
      let now : List ℕ = rest_at k.payload p.remain in
      let bytes : a.frame.bytes ≡ take 8 now = piece.1 ∙ ap (λ (n : ℕ). take 8 (drop n (drop 2 k.payload))) here in
      let later : drop 8 now ≡ rest_at k.payload a.frame.head.remain = drop-drop 8 (8 * (total - p.remain)) (drop 2 k.payload) ∙ ap (λ (n : ℕ). drop n (drop 2 k.payload)) there in
      record {
        payload = k.payload;
        numbered = k.numbered;
        sent = k.sent;
        long = k.long;
        few = omega (arith, remains, few);
        joined = k.joined ∙ ap (λ (bs : List ℕ). p.payload.items ++ bs) (sym (take-append-drop 8 now)) ∙ sym (append_assoc p.payload.items (take 8 now) (drop 8 now))
            ∙ (λ i. (p.payload.items ++ sym bytes i) ++ later i);
      }

  whole : (p : Partial) → IsPartSent r l at p → (length p.payload.items == p.length) ≡ true → IsAsSent r p.header p.payload.items p.trace
  whole p k e =
      let long : length p.payload.items ≡ length k.payload = eqb-true (length p.payload.items) p.length e ∙ k.long in
      subst (λ (bytes : List ℕ). IsAsSent r p.header bytes p.trace) (sym (whole_front k.payload p.payload.items (rest_at k.payload p.remain) k.joined long)) k.sent

  abbrev pub IsBusSo : Receiver → Type 0
  IsBusSo c = IsListeningSo (IsPartSent r l at) c

  pub bus_rests : (c : Receiver) → IsBusSo c → IsHeardSo (IsAsSent r) IsBusSo (read_further c)
  bus_rests (by.Kiss s) all = absurd all
  bus_rests (by.Can c) all = (all, tt)

  bus_frame : (c : Listening) (a : Arrival) → AllByRecursion (IsPartSent r l at) c.partials → IsPieceSent r l at a → IsHeardSo (IsAsSent r) IsBusSo (read_from (reassembled c a))
  bus_frame c a all here =
      goes_on (is_some (reassembled c a).whole)
    where
      new : IsHeardSo (IsAsSent r) IsBusSo (reassembled c a)
      new = reassembled_so (IsAsSent r) (IsPartSent r l at) (IsPieceSent r l at) opened grown whole c a all here

      goes_on : (b : Bool) → IsHeardSo (IsAsSent r) IsBusSo (read_by b (reassembled c a))
      goes_on true = new
      goes_on false = (new.0, tt)

  pub bus_hears : (now : ℕ) (c : Receiver) (f : Frame) → IsBusSo c → IsCanOf r l at f → IsHeardSo (IsAsSent r) IsBusSo (read_from (frame_heard now c f))
  bus_hears now (by.Kiss s) f all g = absurd all
  bus_hears now (by.Can c) f all g =
      chosen (f.trace.hops == MAX_HOPS)
    where
      chosen : (b : Bool) → IsHeardSo (IsAsSent r) IsBusSo (read_from (if b then record { receiver = by.Can c; whole = None; refused = 1 } else frame_read now (by.Can c) f))
      chosen true = (all, tt)
      chosen false = bus_frame c (arrival (identifier_of (unwrap_or f.can 0)) f.bytes.items (arrived f.trace) now) all (g now)
