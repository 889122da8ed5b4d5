-- Reading on, one byte after the other.
use Rattle.std.proofs.Common.{◌≡◌, ◌≢◌, ℕ, zero, suc, ◌+◌, ◌<◌, Bool, true, false, cond, eqb, not, List, [], ◌∷◌, ◌++◌, length, take, drop, get_or, slice_get, Option, Some, None, refl, sym, ap, ◌∙◌, arith, add-one}
use Rattle.std.specs.List.{cons_option, filter_map, fold, position_or_len, range_with_len}
use Rattle.std.specs.Option.{is_some, option_to_list}
use Rattle.std.proofs.Math.Seq.{drop-cons, drop-length}
use Rattle.std.proofs.lemmas.Bool.{ne_eqb, eq-eqb}
use Rattle.csp_kiss.specs.declared.TheConstants.{FEND}
use Rattle.csp_kiss.specs.declared.event.KissEvent.{KissEvent}
use Rattle.csp_kiss.specs.declared.progress.KissPacket.{KissPacket}
use Rattle.csp_kiss.specs.declared.stage.Stage.TheVariants.{Start}
use Rattle.csp_kiss.specs.Reading.{Reading, after, answer, answers, continued, going, told}
use Rattle.csp_kiss.specs.GoingOn.{Progress, bytes_to_packet, packet_of, packets_in, read_on}

-- some pieces more were refused on the way
abbrev pub with_refused : ℕ → Progress → Progress
with_refused n p = record { refused = n + p.refused; packet = p.packet; reading = p.reading; left = p.left }

-- at the end of a piece: a packet ends the reading there; with a refused piece it goes on
abbrev pub ended : Option KissPacket → Reading → List ℕ → Progress → Progress
ended (Some packet) reading left later = record { refused = 0; packet = Some packet; reading = reading; left = left }
ended None reading left later = with_refused 1 later

-- after the answer to a byte: at none it goes on
abbrev pub going_on : Option KissEvent → Reading → List ℕ → Progress → Progress
going_on None reading left later = later
going_on (Some event) reading left later = ended (packet_of event) reading left later

-- the first place that passes, of places that begin later
place_later : (p : ℕ → Bool) (k n : ℕ) → position_or_len p (range_with_len (k + 1) n) ≡ position_or_len (λ i. p (i + 1)) (range_with_len k n)
place_later p k zero = refl
place_later p k (suc n) = ap (λ rest. cond (not (p (k + 1))) (1 + rest) 0) (place_later p (k + 1) n)

-- the packet that a byte is answered with
abbrev packet_at : Option KissEvent → Option KissPacket
packet_at None = None
packet_at (Some event) = packet_of event

packets_more : (r : Reading) (byte : ℕ) (bytes : List ℕ) (p : Option KissPacket) → packet_at (answer r byte) ≡ p
    → packets_in r (byte ∷ bytes) ≡ option_to_list p ++ packets_in (after r byte) bytes
unfolding answers
packets_more r byte bytes p e = by (answer r byte) p e
  where
    in_front : (p : Option KissPacket) → cons_option p (packets_in (after r byte) bytes) ≡ option_to_list p ++ packets_in (after r byte) bytes
    in_front None = refl
    in_front (Some p) = refl

    by : (event : Option KissEvent) (p : Option KissPacket) → packet_at event ≡ p → filter_map packet_of (option_to_list event ++ answers (after r byte) bytes) ≡ option_to_list p ++ packets_in (after r byte) bytes
    by None None e = refl
    by None (Some p) e = cc
    by (Some event) p e = ap (λ (o : Option KissPacket). cons_option o (packets_in (after r byte) bytes)) e ∙ in_front p

-- whether a packet is among the answers to so many bytes
abbrev brings : Reading → List ℕ → ℕ → Bool
brings r bytes count = is_some (slice_get (packets_in r (take count bytes)) 0)

brings_more : (r : Reading) (byte : ℕ) (bytes : List ℕ) (p : Option KissPacket) (count : ℕ) → packet_at (answer r byte) ≡ p
    → brings r (byte ∷ bytes) (count + 1) ≡ is_some (slice_get (option_to_list p ++ packets_in (after r byte) (take count bytes)) 0)
brings_more r byte bytes p count e =
    ap (λ n. brings r (byte ∷ bytes) n) (add-one count) ∙ ap (λ ps. is_some (slice_get ps 0)) (packets_more r byte (take count bytes) p e)

-- a place further on than the first of those that begin one later
from_later : (r : Reading) (byte : ℕ) (bytes : List ℕ) → bytes_to_packet r (byte ∷ bytes) ≡ suc (position_or_len (λ count. brings r (byte ∷ bytes) (count + 1)) (range_with_len 0 (length bytes)))
unfolding answers
from_later r byte bytes =
    let rest : ℕ = position_or_len (λ count. brings r (byte ∷ bytes) (count + 1)) (range_with_len 0 (length bytes)) in
    let e : 1 + rest ≡ suc rest = omega arith in
    ap (λ n. 1 + n) (place_later (brings r (byte ∷ bytes)) 0 (length bytes)) ∙ e

at_once : (xs : List ℕ) → position_or_len (λ x. true) xs ≡ 0
at_once [] = refl
at_once (x ∷ xs) = refl

used_none : (r : Reading) (byte : ℕ) (bytes : List ℕ) → packet_at (answer r byte) ≡ None → bytes_to_packet r (byte ∷ bytes) ≡ suc (bytes_to_packet (after r byte) bytes)
used_none r byte bytes e = from_later r byte bytes ∙ (λ i. suc (position_or_len (λ count. brings_more r byte bytes None count e i) (range_with_len 0 (length bytes))))

used_one : (r : Reading) (byte : ℕ) (bytes : List ℕ) (p : KissPacket) → packet_at (answer r byte) ≡ Some p → bytes_to_packet r (byte ∷ bytes) ≡ 1
used_one r byte bytes p e =
    from_later r byte bytes ∙ (λ i. suc (position_or_len (λ count. brings_more r byte bytes (Some p) count e i) (range_with_len 0 (length bytes)))) ∙ ap suc (at_once (range_with_len 0 (length bytes)))

-- how many events come before a packet
abbrev before_packet : List KissEvent → ℕ
before_packet events = position_or_len (λ event. is_some (packet_of event)) events

-- a byte that brings no packet
read_past : (r : Reading) (byte : ℕ) (bytes : List ℕ) (refused : ℕ) → packet_at (answer r byte) ≡ None → before_packet (answers r (byte ∷ bytes)) ≡ refused
    → read_on r (byte ∷ bytes) ≡ record { refused = refused; packet = (read_on (after r byte) bytes).packet; reading = (read_on (after r byte) bytes).reading; left = (read_on (after r byte) bytes).left }
unfolding read_on
read_past r byte bytes refused e same = λ i. record {
  refused = same i;
  packet = slice_get (packets_more r byte bytes None e i) 0;
  reading = fold after r (take (used_none r byte bytes e i) (byte ∷ bytes));
  left = drop (used_none r byte bytes e i) (byte ∷ bytes);
}

-- and one that brings one
read_packet : (r : Reading) (byte : ℕ) (bytes : List ℕ) (p : KissPacket) → packet_at (answer r byte) ≡ Some p → before_packet (answers r (byte ∷ bytes)) ≡ 0
    → read_on r (byte ∷ bytes) ≡ record { refused = 0; packet = Some p; reading = after r byte; left = bytes }
unfolding read_on
read_packet r byte bytes p e same = λ i. record {
  refused = same i;
  packet = slice_get (packets_more r byte bytes (Some p) e i) 0;
  reading = fold after r (take (used_one r byte bytes p e i) (byte ∷ bytes));
  left = drop (used_one r byte bytes p e i) (byte ∷ bytes);
}

pub read_step : (r : Reading) (byte : ℕ) (bytes : List ℕ) → read_on r (byte ∷ bytes) ≡ going_on (answer r byte) (after r byte) bytes (read_on (after r byte) bytes)
unfolding read_on answers
read_step r byte bytes = by (answer r byte) refl
  where
    later : Progress
    later = read_on (after r byte) bytes

    counted : (event : Option KissEvent) → answer r byte ≡ event → before_packet (answers r (byte ∷ bytes)) ≡ before_packet (option_to_list event ++ answers (after r byte) bytes)
    counted event e = ap (λ (o : Option KissEvent). before_packet (option_to_list o ++ answers (after r byte) bytes)) e

    silent : answer r byte ≡ None → read_on r (byte ∷ bytes) ≡ later
    silent e = read_past r byte bytes later.refused (ap packet_at e) (counted None e)

    piece : (event : KissEvent) (p : Option KissPacket) → answer r byte ≡ Some event → packet_of event ≡ p → read_on r (byte ∷ bytes) ≡ ended p (after r byte) bytes later
    piece event None e f = read_past r byte bytes (1 + later.refused) (ap packet_at e ∙ f) (counted (Some event) e ∙ ap (λ (o : Option KissPacket). cond (not (is_some o)) (1 + later.refused) 0) f)
    piece event (Some p) e f = read_packet r byte bytes p (ap packet_at e ∙ f) (counted (Some event) e ∙ ap (λ (o : Option KissPacket). cond (not (is_some o)) (1 + later.refused) 0) f)

    by : (event : Option KissEvent) → answer r byte ≡ event → read_on r (byte ∷ bytes) ≡ going_on event (after r byte) bytes later
    by None e = silent e
    by (Some event) e = piece event (packet_of event) e refl

-- the next byte is read
next : (r : Reading) (bytes : List ℕ) (i : ℕ) → i < length bytes →
    let byte : ℕ = get_or bytes i 0 in
    read_on r (drop i bytes) ≡ going_on (answer r byte) (after r byte) (drop (i + 1) bytes) (read_on (after r byte) (drop (i + 1) bytes))
next r bytes i h = rw (drop-cons bytes i 0 h, add-one i) (read_step r (get_or bytes i 0) (drop (suc i) bytes))

abbrev counting : Progress → ℕ → Progress
counting p k = record { refused = k; packet = p.packet; reading = p.reading; left = p.left }

more_refused : (m n : ℕ) (p : Progress) → with_refused m (with_refused n p) ≡ with_refused (m + n) p
more_refused m n p =
    let e : m + (n + p.refused) ≡ (m + n) + p.refused = omega arith in
    ap (counting p) e

-- what comes after the byte at this place
later : Reading → List ℕ → ℕ → Progress
later r bytes i = read_on r (drop (i + 1) bytes)

-- a byte that ends no piece
pub passed : (p : Progress) (r into : Reading) (bytes : List ℕ) (i n : ℕ) → i < length bytes → get_or bytes i 0 ≢ FEND
    → into ≡ continued r r.stage (get_or bytes i 0)
    → p ≡ with_refused n (read_on r (drop i bytes)) → p ≡ with_refused n (read_on into (drop (i + 1) bytes))
unfolding later
passed p r into bytes i n h ne a same =
    let byte : ℕ = get_or bytes i 0 in
    let t : eqb byte FEND ≡ false = ne_eqb byte FEND ne in
    let silent : answer r byte ≡ None = ap (λ b. cond b (told r r.stage) None) t in
    let reached : after r byte ≡ into = ap (λ b. cond b (going r Start []) (continued r r.stage byte)) t ∙ sym a in
    same ∙ ap (with_refused n) (next r bytes i h
    ∙ ap (λ event. going_on event (after r byte) (drop (i + 1) bytes) (later (after r byte) bytes i)) silent
    ∙ ap (λ x. later x bytes i) reached)

-- at a FEND, by what the piece that it ends gives
pub met : (p : Progress) (r into : Reading) (bytes : List ℕ) (i n : ℕ) (event : Option KissEvent) → i < length bytes → get_or bytes i 0 ≡ FEND
    → into ≡ going r Start [] → event ≡ told r r.stage
    → p ≡ with_refused n (read_on r (drop i bytes)) → p ≡ with_refused n (going_on event into (drop (i + 1) bytes) (read_on into (drop (i + 1) bytes)))
unfolding later
met p r into bytes i n event h e a said same =
    let byte : ℕ = get_or bytes i 0 in
    let t : eqb byte FEND ≡ true = eq-eqb byte FEND e in
    let heard : answer r byte ≡ event = ap (λ b. cond b (told r r.stage) None) t ∙ sym said in
    let reached : after r byte ≡ into = ap (λ b. cond b (going r Start []) (continued r r.stage byte)) t ∙ sym a in
    same ∙ ap (with_refused n) (next r bytes i h
    ∙ ap (λ event. going_on event (after r byte) (drop (i + 1) bytes) (later (after r byte) bytes i)) heard
    ∙ ap (λ x. going_on event x (drop (i + 1) bytes) (later x bytes i)) reached)

-- a piece more was refused
pub refused : (p : Progress) (r into : Reading) (bytes : List ℕ) (i n : ℕ) (event : KissEvent) → i < length bytes → get_or bytes i 0 ≡ FEND
    → into ≡ going r Start [] → Some event ≡ told r r.stage → None ≡ packet_of event
    → p ≡ with_refused n (read_on r (drop i bytes)) → p ≡ with_refused (n + 1) (read_on into (drop (i + 1) bytes))
refused p r into bytes i n event h e a said none same =
    met p r into bytes i n (Some event) h e a said same
    ∙ ap (λ packet. with_refused n (ended packet into (drop (i + 1) bytes) (read_on into (drop (i + 1) bytes)))) (sym none)
    ∙ more_refused n 1 (read_on into (drop (i + 1) bytes))

-- a packet is whole
pub whole : (p : Progress) (r into : Reading) (bytes : List ℕ) (i n : ℕ) (event : KissEvent) (packet : KissPacket) → i < length bytes → get_or bytes i 0 ≡ FEND
    → into ≡ going r Start [] → Some event ≡ told r r.stage → Some packet ≡ packet_of event
    → p ≡ with_refused n (read_on r (drop i bytes)) → p ≡ with_refused n (record { refused = 0; packet = Some packet; reading = into; left = drop (i + 1) bytes })
whole p r into bytes i n event packet h e a said found same =
    met p r into bytes i n (Some event) h e a said same
    ∙ ap (λ packet. with_refused n (ended packet into (drop (i + 1) bytes) (read_on into (drop (i + 1) bytes)))) (sym found)

-- no byte is left
pub used_up : (p : Progress) (r : Reading) (bytes : List ℕ) (i n : ℕ) → i ≡ length bytes
    → p ≡ with_refused n (read_on r (drop i bytes)) → p ≡ with_refused n (record { refused = 0; packet = None; reading = r; left = [] })
unfolding read_on answers
used_up p r bytes i n e same = same ∙ ap (λ left. with_refused n (read_on r left)) (ap (λ k. drop k bytes) e ∙ drop-length bytes)
