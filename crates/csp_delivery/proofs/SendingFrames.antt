-- Of the frames of a transmission at most one is its first, and none is that of another.
use Rattle.std.proofs.Common.{◌≡◌, ℕ, zero, suc, ◌+◌, ◌*◌, ◌/◌, ◌%◌, ◌^◌, ◌<◌, ◌≤◌, ◌==◌, ◌&&◌, Bool, true, false, List, [], ◌∷◌, drop, length, map, unwrap_or, refl, ap, ◌∙◌, arith}
use Rattle.std.specs.Prelude.{if◌then◌else◌}
use Rattle.std.proofs.Math.Bool.{and-false}
use Rattle.csp_base.specs.declared.limits.TheConstants.{MAX_PAYLOAD}
use Rattle.csp_base.specs.declared.traces.Origin.{Origin}
use Rattle.csp_base.specs.declared.traces.Trace.{Trace}
use Rattle.csp_buffer.specs.Content.{Content}
use Rattle.csp_can.specs.Fragments.{begin_bytes, first_head, fragments_of, frames_after, more_frames}
use Rattle.csp_can.specs.Frames.{written}
use Rattle.csp_can.specs.Identifiers.{identifier_of, kind_of}
use Rattle.csp_can.specs.declared.frames.CanFrame.{CanFrame}
use Rattle.csp_can.specs.declared.identifiers.Identifier.{Identifier}
use Rattle.csp_delivery.specs.Delivery.{firsts, is_begin, is_first_of, names}
use Rattle.csp_iface.specs.Sending.{can_frame, frames_of, kiss_frame, sent_trace}
use Rattle.csp_iface.specs.declared.sender.TheConstants.{IDS}
use Rattle.csp_log.specs.declared.frame.Frame.{Frame}
use Rattle.csp_log.specs.declared.places.LinkKind.{LinkKind}
use Rattle.csp_log.specs.declared.places.LinkKind.TheVariants as link
use Rattle.csp_delivery.proofs.SendingCounts.{AreNone, first_most, firsts_cons, firsts_none}

-- a MORE frame is none on the bus either, whatever stands above its kind
more_read : (source dest remain id : ℕ) → remain < 256 → id < 1024 → is_begin (identifier_of (source * 2 ^ 24 + dest * 2 ^ 19 + 1 * 2 ^ 18 + remain * 2 ^ 10 + id)).kind ≡ false
more_read source dest remain id few small =
    let bit : (source * 2 ^ 24 + dest * 2 ^ 19 + 1 * 2 ^ 18 + remain * 2 ^ 10 + id) / 2 ^ 18 % 2 ≡ 1 = omega (arith, few, small) in
    ap (λ b. is_begin (kind_of b)) bit

-- a frame with another trace is none
pub unnamed : (o : Origin) (f : Frame) → names o f.trace ≡ false → is_first_of o f ≡ false
unnamed o f e = ap (λ b. b && is_begin (identifier_of (unwrap_or f.can 0)).kind) e

module _ (o : Origin) (t : Trace) where
  mores_none : (head : Identifier) (n : ℕ) (rest : List ℕ) → n ≤ 256 → head.id < 1024 → AreNone o (map (can_frame t) (map written (more_frames head n rest)))
  mores_none head zero rest few small = tt
  mores_none head (suc m) rest few small =
      (ap (λ b. names o t && b) (more_read head.source head.dest m head.id (omega (arith, few)) small) ∙ and-false (names o t), mores_none head m (drop 8 rest) (omega (arith, few)) small)

  can_once : (header : ℕ) (payload : List ℕ) (next id : ℕ) → length payload ≤ MAX_PAYLOAD → id < 1024 → firsts o (map (can_frame t) (map written (fragments_of header payload next id))) ≤ 1
  can_once header payload next id short small =
      let head : Identifier = first_head header payload next id in
      let begin : Frame = can_frame t (written (record { head = head; bytes = begin_bytes header payload })) in
      let mores : List Frame = map (can_frame t) (map written (more_frames head (frames_after (length payload)) (drop 2 payload))) in
      omega (arith, firsts_cons o begin mores, first_most o begin, firsts_none o mores (mores_none head (frames_after (length payload)) (drop 2 payload) (omega (arith, short)) small))

  kind_once : (kind : LinkKind) (serial next : ℕ) (b : Content) → length b.payload ≤ MAX_PAYLOAD → firsts o (frames_of kind serial next b t) ≤ 1
  kind_once link.Kiss serial next b short = omega (arith, first_most o (kiss_frame false b t))
  kind_once link.KissHeader serial next b short = omega (arith, first_most o (kiss_frame true b t))
  kind_once link.Can serial next b short = can_once b.header b.payload next (serial % IDS) short (omega arith)

  can_none : (fs : List CanFrame) → names o t ≡ false → AreNone o (map (can_frame t) fs)
  can_none [] e = tt
  can_none (f ∷ fs) e = (unnamed o (can_frame t f) e, can_none fs e)

  kind_none : (kind : LinkKind) (serial next : ℕ) (b : Content) → names o t ≡ false → AreNone o (frames_of kind serial next b t)
  kind_none link.Kiss serial next b e = (unnamed o (kiss_frame false b t) e, tt)
  kind_none link.KissHeader serial next b e = (unnamed o (kiss_frame true b t) e, tt)
  kind_none link.Can serial next b e = can_none (map written (fragments_of b.header b.payload next (serial % IDS))) e

not_last : (a b c : Bool) → c ≡ false → (a && b && c) ≡ false
not_last true true c e = e
not_last true false c e = refl
not_last false b c e = refl

-- of the frames of the transmission of this serial at most one is the first of a transmission, and that only of this serial
pub firsts_sent : (o : Origin) (kind : LinkKind) (node number serial next : ℕ) (b : Content) → length b.payload ≤ MAX_PAYLOAD
    → firsts o (frames_of kind serial next b (sent_trace node number serial b.trace)) ≤ (if o.serial == serial then 1 else 0)
firsts_sent o kind node number serial next b short =
    by (o.serial == serial) refl
  where
    t : Trace
    t = sent_trace node number serial b.trace

    by : (c : Bool) → (o.serial == serial) ≡ c → firsts o (frames_of kind serial next b (sent_trace node number serial b.trace)) ≤ (if c then 1 else 0)
    by true e = kind_once o t kind serial next b short
    by false e = omega (arith, firsts_none o (frames_of kind serial next b t) (kind_none o t kind serial next b (not_last (o.node == node) (o.iface == number) (o.serial == serial) e)))
