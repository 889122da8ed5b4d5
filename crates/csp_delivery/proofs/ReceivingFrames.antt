-- What a listener on a bus has of a transmission grows by no more than its first frames that come.
use Rattle.std.proofs.Common.{◌≡◌, ℕ, ◌+◌, ◌==◌, ◌≤◌, Bool, true, false, cond, not, ◌&&◌, is_some, nat_lt, nat_le, Option, Some, None, List, [], ◌∷◌, ◌++◌, count_by, length, option_map, option_to_list, refl, ap, ◌∙◌, subst, arith}
use Rattle.std.specs.Option.{option_map_or}
use Rattle.std.specs.Prelude.{if◌then◌else◌, ⊤}
use Rattle.csp_base.specs.declared.traces.Origin.{Origin}
use Rattle.csp_base.specs.declared.traces.Trace.{Trace}
use Rattle.csp_can.specs.Begins.{begin_length}
use Rattle.csp_can.specs.Identifiers.{key_of, same_key}
use Rattle.csp_can.specs.Listening.{Listening}
use Rattle.csp_can.specs.Open.{counters, done, fresh, gone_on, ruling, standing, without}
use Rattle.csp_can.specs.Rules.{Arrival, Deed, Ruling, begin_ruling, ends, goes_on, grown_partial, leaves, measured, more_ruling, opened_partial, opens, refused, ruling_of}
use Rattle.csp_can.specs.declared.answers.CanEvent.TheVariants as can
use Rattle.csp_can.specs.declared.identifiers.Kind.{Kind}
use Rattle.csp_can.specs.declared.identifiers.Kind.TheVariants.{Begin, More}
use Rattle.csp_can.specs.declared.partials.Partial.{Partial}
use Rattle.csp_can.specs.declared.partials.TheConstants.{MAX_PARTIALS}
use Rattle.csp_iface.specs.Receiving.{Heard, frame_heard, frame_read, packet_of, read_further, reassembled}
use Rattle.csp_iface.specs.declared.packet.WholePacket.{WholePacket}
use Rattle.csp_iface.specs.declared.receiver.Receiver.{Receiver}
use Rattle.csp_iface.specs.declared.receiver.Receiver.TheVariants as by
use Rattle.csp_iface.specs.declared.receiver.TheConstants.{MAX_HOPS}
use Rattle.csp_log.specs.declared.frame.Frame.{Frame}
use Rattle.csp_delivery.specs.Delivery.{is_begin, is_first_of, names}
use Rattle.csp_delivery.proofs.ReceivingCounts.{count_apart, count_filter, count_push, count_without}

-- what is kept of a bus
abbrev pub IsBus : Receiver → Type 0
IsBus (by.Kiss s) = ⊥
IsBus (by.Can l) = ⊤

module _ (o : Origin) where
  -- a trace counts 1 where it names the transmission
  abbrev pub named : Trace → ℕ
  named t = cond (names o t) 1 0

  -- a whole packet, where there is one
  abbrev pub whole_of : Option WholePacket → ℕ
  whole_of p = option_map_or (λ k. named k.trace) p 0

  -- the partial packets whose traces name it
  abbrev pub partials_of : List Partial → ℕ
  partials_of ps = count_by (λ p. names o p.trace) ps

  -- those in what is kept
  abbrev pub kept_of : Receiver → ℕ
  kept_of (by.Kiss s) = 0
  kept_of (by.Can l) = partials_of l.partials

  -- a bus is kept, and what is heard has no more of the transmission than this
  pub record IsHeardFew (n : ℕ) (h : Heard) : Type 0 where
    pub bus : IsBus h.receiver
    pub few : whole_of h.whole + kept_of h.receiver ≤ n

  -- a ruling on a frame where these stand leaves no more than this
  abbrev IsRuledFew : ℕ → Arrival → List Partial → Ruling → Type 0
  IsRuledFew n a left r = whole_of (packet_of r.event) + partials_of (done counters r.deed (key_of a.frame.head) (opened_partial a) (gone_on counters left a) left) ≤ n

  measured_few : (n : ℕ) (a : Arrival) (left : List Partial) (restarted : Bool) (p : Partial) (part : Deed) → named p.trace + partials_of (without counters (key_of a.frame.head) left) ≤ n
      → partials_of (done counters part (key_of a.frame.head) (opened_partial a) (gone_on counters left a) left) ≤ n → IsRuledFew n a left (measured restarted p part)
  measured_few n a left restarted p part ended after =
      chosen (nat_lt p.length (length p.payload.items)) (length p.payload.items == p.length)
    where
      chosen : (long just : Bool) → IsRuledFew n a left (if long then record { restarted = restarted; event = can.TooMuch; deed = ends }
          else (if just then record { restarted = restarted; event = can.Whole p.header p.payload p.trace; deed = ends }
          else record { restarted = restarted; event = can.Part; deed = part }))
      chosen true just = omega (arith, ended)
      chosen false true = ended
      chosen false false = omega (arith, after)

  begun_few : (mtu : ℕ) (stood full : Bool) (a : Arrival) (left : List Partial) → IsRuledFew (partials_of left + named a.trace) a left (begin_ruling mtu stood full a)
  begun_few mtu stood full a left =
      chosen (nat_lt (length a.frame.bytes) 6) (nat_lt mtu (begin_length a.frame.bytes)) (not stood && full)
    where
      n : ℕ
      n = partials_of left + named a.trace

      ended : partials_of (without counters (key_of a.frame.head) left) ≤ partials_of left
      ended = count_without (λ p. names o p.trace) (λ k. same_key k.key (key_of a.frame.head)) left

      opened : partials_of (without counters (key_of a.frame.head) left ++ opened_partial a ∷ []) ≡ partials_of (without counters (key_of a.frame.head) left) + named a.trace
      opened = count_push (λ p. names o p.trace) (without counters (key_of a.frame.head) left) (opened_partial a)

      chosen : (short long none : Bool) → IsRuledFew n a left (if short then refused can.ShortBegin leaves
          else (if long then refused can.TooLong leaves
          else (if none then refused can.NoRoom leaves else measured stood (opened_partial a) opens)))
      chosen true long none = omega arith
      chosen false true none = omega arith
      chosen false false true = omega arith
      chosen false false false = measured_few n a left stood (opened_partial a) opens (omega (arith, ended)) (omega (arith, ended, opened))

  more_ruled_few : (p : Option Partial) (a : Arrival) (left : List Partial) → standing counters (key_of a.frame.head) left ≡ p → IsRuledFew (partials_of left) a left (more_ruling p a)
  more_ruled_few None a left e = omega arith
  more_ruled_few (Some p) a left e =
      chosen (a.frame.head.remain + 1 == p.remain)
    where
      rest : List Partial
      rest = without counters (key_of a.frame.head) left

      apart : named p.trace + partials_of rest ≡ partials_of left
      apart = count_apart (λ k. names o k.trace) (λ k. same_key k.key (key_of a.frame.head)) left p e

      went : rest ++ gone_on counters left a ≡ rest ++ grown_partial p a ∷ []
      went = ap (λ k. rest ++ option_to_list (option_map (λ q. grown_partial q a) k)) e

      grown : partials_of (rest ++ gone_on counters left a) ≡ partials_of rest + named p.trace
      grown = ap partials_of went ∙ count_push (λ k. names o k.trace) rest (grown_partial p a)

      chosen : (b : Bool) → IsRuledFew (partials_of left) a left (if b then measured false (grown_partial p a) goes_on else refused can.BadRemain ends)
      chosen true = measured_few (partials_of left) a left false (grown_partial p a) goes_on (omega (arith, apart)) (omega (arith, apart, grown))
      chosen false = omega (arith, apart)

  ruled_few : (mtu : ℕ) (kind : Kind) (full : Bool) (a : Arrival) (left : List Partial)
      → IsRuledFew (partials_of left + cond (names o a.trace && is_begin kind) 1 0) a left (ruling_of mtu kind (option_map (λ k. k) (standing counters (key_of a.frame.head) left)) full a)
  ruled_few mtu Begin full a left =
      subst (λ b. IsRuledFew (partials_of left + cond b 1 0) a left (begin_ruling mtu stood full a)) (both (names o a.trace)) (begun_few mtu stood full a left)
    where
      stood : Bool
      stood = is_some (option_map (λ k. k) (standing counters (key_of a.frame.head) left))

      both : (b : Bool) → b ≡ (b && true)
      both true = refl
      both false = refl
  ruled_few mtu More full a left =
      few (more_ruled_few (option_map (λ k. k) (standing counters (key_of a.frame.head) left)) a left (same (standing counters (key_of a.frame.head) left)))
    where
      said : Ruling
      said = more_ruling (option_map (λ k. k) (standing counters (key_of a.frame.head) left)) a

      same : (p : Option Partial) → p ≡ option_map (λ k. k) p
      same None = refl
      same (Some p) = refl

      few : IsRuledFew (partials_of left) a left said → IsRuledFew (partials_of left + cond (names o a.trace && false) 1 0) a left said
      few h = omega (arith, h)

  -- a frame of a CAN bus
  reassembled_few : (l : Listening) (a : Arrival) → IsHeardFew (partials_of l.partials + cond (names o a.trace && is_begin a.frame.head.kind) 1 0) (reassembled l a)
  reassembled_few l a =
      let left : List Partial = fresh counters a.time l.partials in
      let fewer : partials_of left ≤ partials_of l.partials = count_filter (λ p. names o p.trace) _ l.partials in
      let ruled : IsRuledFew (partials_of left + cond (names o a.trace && is_begin a.frame.head.kind) 1 0) a left (ruling counters l.mtu left a) = ruled_few l.mtu a.frame.head.kind (nat_le MAX_PARTIALS (length left)) a left in
      record { bus = tt; few = omega (arith, fewer, ruled) }

  -- any frame
  pub hears_few : (now : ℕ) (r : Receiver) (f : Frame) → IsBus r → IsHeardFew (kept_of r + cond (is_first_of o f) 1 0) (frame_heard now r f)
  hears_few now (by.Kiss s) f bus = absurd bus
  hears_few now (by.Can l) f bus =
      chosen (f.trace.hops == MAX_HOPS)
    where
      chosen : (b : Bool) → IsHeardFew (partials_of l.partials + cond (is_first_of o f) 1 0) (if b then record { receiver = by.Can l; whole = None; refused = 1 } else frame_read now (by.Can l) f)
      chosen true = record { bus = tt; few = omega arith }
      chosen false = reassembled_few l _

  -- reading on
  pub further_few : (r : Receiver) → IsBus r → IsHeardFew (kept_of r) (read_further r)
  further_few (by.Kiss s) bus = absurd bus
  further_few (by.Can l) bus = record { bus = tt; few = omega arith }
