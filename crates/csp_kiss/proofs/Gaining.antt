-- What bytes that came together add to the events of the whole stream.
use Rattle.std.proofs.Common.{◌≡◌, ℕ, Bool, List, [], ◌∷◌, ◌++◌, length, take, drop, Option, Some, None, refl, sym, ap, ◌∙◌, arith, append_assoc, append-nil, subst}
use Rattle.std.proofs.lemmas.List.{take-append-drop, append_cancel_right}
use Rattle.std.specs.List.{AllByRecursion}
use Rattle.std.specs.Option.{option_to_list}
use Rattle.csp_kiss.specs.declared.event.KissEvent.{KissEvent}
use Rattle.csp_kiss.specs.declared.event.KissEvent.TheVariants.{Packet, TooLong, Short, BadCrc}
use Rattle.csp_kiss.specs.declared.progress.KissPacket.{KissPacket}
use Rattle.csp_kiss.specs.Reading.{Reading, HasRead, after, answer, answers, reading_of}
use Rattle.csp_kiss.specs.Stream.{events}
use Rattle.csp_kiss.specs.GoingOn.{Progress, Gains, IsRefusal, event_for, read_on}
use Rattle.csp_kiss.proofs.GoingOn.{going_on, read_step, with_refused}
use Rattle.csp_kiss.proofs.Steps.{events-append, reading_of-push, has_read}

-- what is kept after some bytes
after_all : Reading → List ℕ → Reading
after_all r [] = r
after_all r (byte ∷ bytes) = after_all (after r byte) bytes

-- the bytes that were read, and what they were answered
record Read (r : Reading) (bytes : List ℕ) (p : Progress) : Type 0 where
  used : List ℕ
  cut : bytes ≡ used ++ p.left
  kept : p.reading ≡ after_all r used
  refusals : List KissEvent
  counted : length refusals ≡ p.refused
  are_refused : AllByRecursion IsRefusal refusals
  said : answers r used ≡ refusals ++ event_for p.packet

-- a byte that is answered with nothing
silently : (r : Reading) (byte : ℕ) (bytes : List ℕ) (p : Progress) → answer r byte ≡ None → Read (after r byte) bytes p → Read r (byte ∷ bytes) p
unfolding answers after_all
silently r byte bytes p e h = record {
  used = byte ∷ h.used;
  cut = ap (λ (bs : List ℕ). byte ∷ bs) h.cut;
  kept = h.kept;
  refusals = h.refusals;
  counted = h.counted;
  are_refused = h.are_refused;
  said = ap (λ (o : Option KissEvent). option_to_list o ++ answers (after r byte) h.used) e ∙ h.said;
}

-- and with a refused piece
refusing : (r : Reading) (byte : ℕ) (bytes : List ℕ) (event : KissEvent) (p : Progress) → answer r byte ≡ Some event → IsRefusal event → Read (after r byte) bytes p → Read r (byte ∷ bytes) (with_refused 1 p)
unfolding answers after_all
refusing r byte bytes event p e is h = record {
  used = byte ∷ h.used;
  cut = ap (λ (bs : List ℕ). byte ∷ bs) h.cut;
  kept = h.kept;
  refusals = event ∷ h.refusals;
  counted = omega (arith, h.counted);
  are_refused = (is, h.are_refused);
  said = ap (λ (o : Option KissEvent). option_to_list o ++ answers (after r byte) h.used) e ∙ ap (λ (es : List KissEvent). event ∷ es) h.said;
}

stepped : (r : Reading) (byte : ℕ) (bytes : List ℕ) (event : Option KissEvent) → answer r byte ≡ event → Read (after r byte) bytes (read_on (after r byte) bytes)
    → Read r (byte ∷ bytes) (going_on event (after r byte) bytes (read_on (after r byte) bytes))
unfolding answers after_all
stepped r byte bytes None e h = silently r byte bytes _ e h
stepped r byte bytes (Some (Packet header payload)) e h = record {
  used = byte ∷ [];
  cut = refl;
  kept = refl;
  refusals = [];
  counted = refl;
  are_refused = tt;
  said = ap (λ (o : Option KissEvent). option_to_list o ++ []) e;
}
stepped r byte bytes (Some TooLong) e h = refusing r byte bytes TooLong _ e tt h
stepped r byte bytes (Some Short) e h = refusing r byte bytes Short _ e tt h
stepped r byte bytes (Some (BadCrc found wanted)) e h = refusing r byte bytes (BadCrc found wanted) _ e tt h

reads : (r : Reading) (bytes : List ℕ) → Read r bytes (read_on r bytes)
unfolding read_on answers after_all
reads r [] = record { used = []; cut = refl; kept = refl; refusals = []; counted = refl; are_refused = tt; said = refl }
reads r (byte ∷ bytes) = subst (Read r (byte ∷ bytes)) (sym (read_step r byte bytes)) (stepped r byte bytes (answer r byte) refl (reads (after r byte) bytes))

-- the bytes read are the first of them
used_first : (bytes used left : List ℕ) (n : ℕ) → bytes ≡ used ++ left → drop n bytes ≡ left → take n bytes ≡ used
used_first bytes used left n cut rest =
    let all : take n bytes ++ drop n bytes ≡ bytes = take-append-drop n bytes in
    append_cancel_right (take n bytes) used left (ap (λ (l : List ℕ). take n bytes ++ l) (sym rest) ∙ all ∙ cut)

reading_of-append : (cover : Bool) (mtu : ℕ) (stream bytes : List ℕ) → reading_of cover mtu (stream ++ bytes) ≡ after_all (reading_of cover mtu stream) bytes
unfolding after_all
reading_of-append cover mtu stream [] = ap (reading_of cover mtu) (append-nil stream)
reading_of-append cover mtu stream (byte ∷ bytes) =
    ap (reading_of cover mtu) (sym (append_assoc stream (byte ∷ []) bytes)) ∙ reading_of-append cover mtu (stream ++ byte ∷ []) bytes
    ∙ ap (λ (r : Reading). after_all r bytes) (reading_of-push cover mtu stream byte)

-- after whatever stream
pub read_besides : (stream bytes : List ℕ) (r into : Reading) (n : ℕ) → HasRead stream r → into ≡ (read_on r bytes).reading
    → drop n bytes ≡ (read_on r bytes).left → HasRead (stream ++ take n bytes) into
read_besides stream bytes r into n h e left =
    let read : Read r bytes (read_on r bytes) = reads r bytes in
    has_read r.cover r.mtu (stream ++ take n bytes) into
    (e ∙ read.kept ∙ ap (λ (x : Reading). after_all x read.used) h ∙ sym (reading_of-append r.cover r.mtu stream read.used)
    ∙ ap (λ (bs : List ℕ). reading_of r.cover r.mtu (stream ++ bs)) (sym (used_first bytes read.used _ n read.cut left)))

pub gains : (stream bytes : List ℕ) (r : Reading) (n refused : ℕ) (packet : Option KissPacket) → HasRead stream r → refused ≡ (read_on r bytes).refused → packet ≡ (read_on r bytes).packet
    → drop n bytes ≡ (read_on r bytes).left → Gains (events r.cover r.mtu stream) (events r.cover r.mtu (stream ++ take n bytes)) refused packet
gains stream bytes r n refused packet h e f left =
    let read : Read r bytes (read_on r bytes) = reads r bytes in
    let before : List KissEvent = events r.cover r.mtu stream in
    record {
      refusals = read.refusals;
      counted = read.counted ∙ sym e;
      are_refused = read.are_refused;
      gained = ap (λ (bs : List ℕ). events r.cover r.mtu (stream ++ bs)) (used_first bytes read.used _ n read.cut left)
          ∙ events-append r.cover r.mtu stream read.used ∙ ap (λ (x : Reading). before ++ answers x read.used) (sym h)
          ∙ ap (λ (es : List KissEvent). before ++ es) (read.said ∙ ap (λ (o : Option KissPacket). read.refusals ++ event_for o) (sym f));
    }
