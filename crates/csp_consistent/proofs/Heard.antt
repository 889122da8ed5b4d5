-- What is heard is of a kind, where the frame is, and what was kept before; so it has the trace of a frame: of the one that is heard now, or of one that was kept.
use Rattle.std.proofs.Common.{◌≡◌, ◌⊎◌, inl, inr, ℕ, ◌+◌, ◌==◌, Bool, true, false, cond, not, ◌&&◌, is_some, nat_lt, Option, Some, None, List, [], ◌∷◌, length, find, option_map, option_to_list, nat_le, unwrap_or, refl, sym, ap, subst}
use Rattle.std.specs.Prelude.{if◌then◌else◌, ⊤}
use Rattle.std.specs.List.{AllByRecursion}
use Rattle.csp_base.specs.declared.traces.Trace.{Trace}
use Rattle.csp_can.specs.Begins.{begin_length}
use Rattle.csp_can.specs.Identifiers.{identifier_of, key_of, same_key}
use Rattle.csp_can.specs.Listening.{Listening}
use Rattle.csp_can.specs.Open.{counters, fresh, standing, without, ruling, done, gone_on, remove_first}
use Rattle.csp_can.specs.Rules.{Arrival, arrival, Deed, leaves, ends, opens, goes_on, Ruling, refused, opened_partial, grown_partial, measured, begin_ruling, more_ruling, ruling_of}
use Rattle.csp_can.specs.declared.answers.CanEvent.{CanEvent}
use Rattle.csp_can.specs.declared.answers.CanEvent.TheVariants as can
use Rattle.csp_can.specs.declared.identifiers.Kind.{Kind}
use Rattle.csp_can.specs.declared.identifiers.Kind.TheVariants.{Begin, More}
use Rattle.csp_can.specs.declared.partials.Partial.{Partial}
use Rattle.csp_can.specs.declared.partials.TheConstants.{MAX_PARTIALS}
use Rattle.csp_iface.specs.Receiving.{arrived, Heard, frame_heard, frame_read, packet_of, reassembled, traced, followed, read_further}
use Rattle.csp_iface.specs.declared.packet.WholePacket.{WholePacket}
use Rattle.csp_iface.specs.declared.receiver.Receiver.{Receiver}
use Rattle.csp_iface.specs.declared.receiver.Receiver.TheVariants as by
use Rattle.csp_iface.specs.declared.receiver.TheConstants.{MAX_HOPS}
use Rattle.csp_kiss.specs.GoingOn.{read_on}
use Rattle.csp_kiss.specs.Reading.{Reading, answers}
use Rattle.csp_kiss.specs.declared.progress.KissPacket.{KissPacket}
use Rattle.csp_log.specs.declared.frame.Frame.{Frame}
use Rattle.csp_scene.proofs.Public.{AllByRecursion-append}
use Rattle.csp_consistent.proofs.Each.{each_filter}

-- a whole packet is of this kind by its header, payload and trace, where there is one
abbrev pub IsWholeSo : (ℕ → List ℕ → Trace → Type 0) → Option WholePacket → Type 0
IsWholeSo W None = ⊤
IsWholeSo W (Some p) = W p.header p.payload.items p.trace

-- it has a trace of this kind
abbrev pub IsWholeOf : (Trace → Type 0) → Option WholePacket → Type 0
IsWholeOf P o = IsWholeSo (λ header payload trace. P trace) o

-- what is kept of a bus: partial packets of a kind
abbrev pub IsListeningSo : (Partial → Type 0) → Receiver → Type 0
IsListeningSo P (by.Kiss s) = ⊥
IsListeningSo P (by.Can l) = AllByRecursion P l.partials

-- what is kept of a stream has one, unless there is nothing to read; and so has each partial packet
abbrev pub IsKeptOf : (Trace → Type 0) → Receiver → Type 0
IsKeptOf P (by.Kiss s) = (s.rest ≡ []) ⊎ P s.trace
IsKeptOf P (by.Can l) = AllByRecursion (λ p. P p.trace) l.partials

-- what is heard: of this kind is what is kept from then on, and of that a whole packet
abbrev pub IsHeardSo : (ℕ → List ℕ → Trace → Type 0) → (Receiver → Type 0) → Heard → Type 0
IsHeardSo W K h = K h.receiver × IsWholeSo W h.whole

abbrev pub IsHeardOf : (Trace → Type 0) → Heard → Type 0
IsHeardOf P h = IsHeardSo (λ header payload trace. P trace) (IsKeptOf P) h

-- a ruling's packet, if one is whole, is of this kind
abbrev IsEventSo : (ℕ → List ℕ → Trace → Type 0) → CanEvent → Type 0
IsEventSo W (can.Whole header payload trace) = W header payload.items trace
IsEventSo W can.Part = ⊤
IsEventSo W can.NoBegin = ⊤
IsEventSo W can.ShortBegin = ⊤
IsEventSo W can.BadRemain = ⊤
IsEventSo W can.TooMuch = ⊤
IsEventSo W can.TooLong = ⊤
IsEventSo W can.NoRoom = ⊤

whole_so : (W : ℕ → List ℕ → Trace → Type 0) (e : CanEvent) → IsEventSo W e → IsWholeSo W (packet_of e)
whole_so W (can.Whole _ _ _) one = one
whole_so W can.Part one = tt
whole_so W can.NoBegin one = tt
whole_so W can.ShortBegin one = tt
whole_so W can.BadRemain one = tt
whole_so W can.TooMuch one = tt
whole_so W can.TooLong one = tt
whole_so W can.NoRoom one = tt

-- partial packets
found_so : (P : Partial → Type 0) (test : Partial → Bool) (ps : List Partial) (p : Partial) → AllByRecursion P ps → find test ps ≡ Some p → P p × (test p ≡ true)
found_so P test [] p all e = absurd cc
found_so P test (q ∷ ps) p all e =
    first (test q) refl e (found_so P test ps p all.1)
  where
    first : (b : Bool) → test q ≡ b → cond b (Some q) (find test ps) ≡ Some p → (find test ps ≡ Some p → P p × (test p ≡ true)) → P p × (test p ≡ true)
    first true is f rest = let same : q ≡ p = ap (λ o. unwrap_or o q) f in (subst P same all.0, subst (λ x. test x ≡ true) same is)
    first false is f rest = rest f

without_so : (P : Partial → Type 0) (test : Partial → Bool) (ps : List Partial) → AllByRecursion P ps → AllByRecursion P (remove_first test ps)
without_so P test [] all = tt
without_so P test (p ∷ ps) all =
    first (test p) (without_so P test ps all.1)
  where
    first : (b : Bool) → AllByRecursion P (remove_first test ps) → AllByRecursion P (if b then ps else p ∷ remove_first test ps)
    first true rest = all.1
    first false rest = (all.0, rest)

-- where what a frame opens, and what it goes on with, is of a kind, and a partial packet of that kind that has its length is a packet of a kind
module _ (W : ℕ → List ℕ → Trace → Type 0) (P : Partial → Type 0) (A : Arrival → Type 0)
    (opened : (a : Arrival) → A a → a.frame.head.kind ≡ Begin → P (opened_partial a))
    (grown : (p : Partial) (a : Arrival) → P p → A a → a.frame.head.kind ≡ More → same_key p.key (key_of a.frame.head) ≡ true → (a.frame.head.remain + 1 == p.remain) ≡ true → P (grown_partial p a))
    (whole : (p : Partial) → P p → (length p.payload.items == p.length) ≡ true → W p.header p.payload.items p.trace) where
  -- a ruling on a frame where these stand: its packet, and what stands after it
  abbrev IsRuledSo : Arrival → List Partial → Ruling → Type 0
  IsRuledSo a left r = IsEventSo W r.event × AllByRecursion P (done counters r.deed (key_of a.frame.head) (opened_partial a) (gone_on counters left a) left)

  measured_so : (a : Arrival) (left : List Partial) (restarted : Bool) (p : Partial) (part : Deed) → P p → AllByRecursion P left
      → AllByRecursion P (done counters part (key_of a.frame.head) (opened_partial a) (gone_on counters left a) left) → IsRuledSo a left (measured restarted p part)
  measured_so a left restarted p part here all after =
      chosen (nat_lt p.length (length p.payload.items)) (length p.payload.items == p.length) refl
    where
      ended : AllByRecursion P (without counters (key_of a.frame.head) left)
      ended = without_so P (λ k. same_key k.key (key_of a.frame.head)) left all

      chosen : (long just : Bool) → (length p.payload.items == p.length) ≡ just → IsRuledSo a left (if long then record { restarted = restarted; event = can.TooMuch; deed = ends }
          else (if just then record { restarted = restarted; event = can.Whole p.header p.payload p.trace; deed = ends }
          else record { restarted = restarted; event = can.Part; deed = part }))
      chosen true just e = (tt, ended)
      chosen false true e = (whole p here e, ended)
      chosen false false e = (tt, after)

  begun_so : (mtu : ℕ) (stood full : Bool) (a : Arrival) (left : List Partial) → A a → a.frame.head.kind ≡ Begin → AllByRecursion P left → IsRuledSo a left (begin_ruling mtu stood full a)
  begun_so mtu stood full a left here begins all =
      chosen (nat_lt (length a.frame.bytes) 6) (nat_lt mtu (begin_length a.frame.bytes)) (not stood && full)
    where
      one : P (opened_partial a)
      one = opened a here begins

      chosen : (short long none : Bool) → IsRuledSo a left (if short then refused can.ShortBegin leaves
          else (if long then refused can.TooLong leaves
          else (if none then refused can.NoRoom leaves else measured stood (opened_partial a) opens)))
      chosen true long none = (tt, all)
      chosen false true none = (tt, all)
      chosen false false true = (tt, all)
      chosen false false false =
          measured_so a left stood (opened_partial a) opens one all
          (AllByRecursion-append P (without counters (key_of a.frame.head) left) (opened_partial a ∷ []) (without_so P (λ k. same_key k.key (key_of a.frame.head)) left all) (one, tt))

  more_so : (o : Option Partial) (a : Arrival) (left : List Partial) → A a → a.frame.head.kind ≡ More → standing counters (key_of a.frame.head) left ≡ o → AllByRecursion P left → IsRuledSo a left (more_ruling o a)
  more_so None a left here more e all = (tt, all)
  more_so (Some p) a left here more e all =
      chosen (a.frame.head.remain + 1 == p.remain) refl
    where
      found : P p × (same_key p.key (key_of a.frame.head) ≡ true)
      found = found_so P (λ k. same_key k.key (key_of a.frame.head)) left p all e

      ended : AllByRecursion P (without counters (key_of a.frame.head) left)
      ended = without_so P (λ k. same_key k.key (key_of a.frame.head)) left all

      chosen : (b : Bool) → (a.frame.head.remain + 1 == p.remain) ≡ b → IsRuledSo a left (if b then measured false (grown_partial p a) goes_on else refused can.BadRemain ends)
      chosen true is =
          let one : P (grown_partial p a) = grown p a found.0 here more found.1 is in
          let went : option_to_list (option_map (λ k. grown_partial k a) (standing counters (key_of a.frame.head) left)) ≡ grown_partial p a ∷ [] = ap (λ x. option_to_list (option_map (λ k. grown_partial k a) x)) e in
          measured_so a left false (grown_partial p a) goes_on one all
          (AllByRecursion-append P (without counters (key_of a.frame.head) left) (gone_on counters left a) ended (subst (AllByRecursion P) (sym went) (one, tt)))
      chosen false is = (tt, ended)

  ruled_so : (mtu : ℕ) (kind : Kind) (full : Bool) (a : Arrival) (left : List Partial) → a.frame.head.kind ≡ kind → A a → AllByRecursion P left
      → IsRuledSo a left (ruling_of mtu kind (option_map (λ k. k) (standing counters (key_of a.frame.head) left)) full a)
  ruled_so mtu Begin full a left e here all = begun_so mtu (is_some (option_map (λ k. k) (standing counters (key_of a.frame.head) left))) full a left here e all
  ruled_so mtu More full a left e here all = more_so (option_map (λ k. k) (standing counters (key_of a.frame.head) left)) a left here e (same (standing counters (key_of a.frame.head) left)) all
    where
      same : (o : Option Partial) → o ≡ option_map (λ k. k) o
      same None = refl
      same (Some p) = refl

  -- a frame of a CAN bus
  pub reassembled_so : (l : Listening) (a : Arrival) → AllByRecursion P l.partials → A a → IsHeardSo W (λ r. IsListeningSo P r) (reassembled l a)
  reassembled_so l a all here =
      let left : List Partial = fresh counters a.time l.partials in
      let ruled : IsRuledSo a left (ruling counters l.mtu left a) = ruled_so l.mtu a.frame.head.kind (nat_le MAX_PARTIALS (length left)) a left refl here (each_filter P _ l.partials all) in
      (ruled.1, whole_so W (ruling counters l.mtu left a).event ruled.0)

reassembled_of : (P : Trace → Type 0) (l : Listening) (a : Arrival) → AllByRecursion (λ p. P p.trace) l.partials → P a.trace → IsHeardOf P (reassembled l a)
reassembled_of P l a all here =
    reassembled_so (λ header payload trace. P trace) (λ p. P p.trace) (λ b. P b.trace) (λ b h e. h) (λ p b h came e key next. h) (λ p h e. h) l a all here

-- any frame
pub heard_of : (P : Trace → Type 0) (now : ℕ) (r : Receiver) (f : Frame) → IsKeptOf P r → P (arrived f.trace) → IsHeardOf P (frame_heard now r f)
heard_of P now r f kept here =
    chosen (f.trace.hops == MAX_HOPS)
  where
    going : (r : Receiver) → IsKeptOf P r → IsHeardOf P (frame_read now r f)
    going (by.Kiss s) kept = (inr here, tt)
    going (by.Can l) kept = reassembled_of P l (arrival (identifier_of (unwrap_or f.can 0)) f.bytes.items (arrived f.trace) now) kept here

    chosen : (b : Bool) → IsHeardOf P (if b then record { receiver = r; whole = None; refused = 1 } else frame_read now r f)
    chosen true = (kept, tt)
    chosen false = going r kept

-- reading on
traced_of : (P : Trace → Type 0) (trace : Trace) (o : Option KissPacket) → P trace → IsWholeOf P (option_map (traced trace) o)
traced_of P trace None here = tt
traced_of P trace (Some p) here = here

silent_of : (P : Trace → Type 0) (trace : Trace) (reading : Reading) → IsHeardOf P (followed trace (read_on reading []))
unfolding read_on answers
silent_of P trace reading = (inl refl, tt)

pub further_of : (P : Trace → Type 0) (r : Receiver) → IsKeptOf P r → IsHeardOf P (read_further r)
further_of P (by.Kiss s) (inl none) = subst (λ rest. IsHeardOf P (followed s.trace (read_on s.reading rest))) (sym none) (silent_of P s.trace s.reading)
further_of P (by.Kiss s) (inr here) = (inr here, traced_of P s.trace (read_on s.reading s.rest).packet here)
further_of P (by.Can l) all = (all, tt)

-- what was heard, and read on where no packet is whole
abbrev pub read_by : Bool → Heard → Heard
read_by true h = record { receiver = h.receiver; whole = h.whole; refused = 0 }
read_by false h = read_further h.receiver

abbrev pub read_from : Heard → Heard
read_from h = read_by (is_some h.whole) h

pub read_of : (P : Trace → Type 0) (now : ℕ) (r : Receiver) (f : Frame) → IsKeptOf P r → P (arrived f.trace) → IsHeardOf P (read_from (frame_heard now r f))
read_of P now r f kept here =
    chosen (is_some (frame_heard now r f).whole)
  where
    new : IsHeardOf P (frame_heard now r f)
    new = heard_of P now r f kept here

    chosen : (b : Bool) → IsHeardOf P (read_by b (frame_heard now r f))
    chosen true = new
    chosen false = further_of P (frame_heard now r f).receiver new.0
