-- Frames of a CAN bus, and what is made whole of them.
use Rattle.std.proofs.Common.{length-append, ◌≡◌, ℕ, zero, suc, ◌+◌, ◌-◌, ◌≤◌, Bool, true, false, cond, List, [], ◌∷◌, ◌++◌, length, map, take, drop, Option, None, Some, refl, arith}
use Rattle.std.proofs.lemmas.List.Elements.{All-append, All-cons, All-filter, All-head, All-map, All-nil, All-push, All-tail}
use Rattle.std.proofs.lemmas.List.{length-take}
use Rattle.std.specs.Int.{to_be_bytes, w16, w32}
use Rattle.std.specs.List.{All, filter, find}
use Rattle.std.specs.Option.{is_some, option_map, option_to_list}
use Rattle.std.specs.Prelude.{IfSome, if◌then◌else◌, nat_le, nat_lt}
use Rattle.csp_base.specs.declared.traces.Trace.{Trace}
use Rattle.csp_can.proofs.Public.{begin_by, measured_by, more_by}
use Rattle.csp_can.specs.Begins.{begin_length}
use Rattle.csp_can.specs.Fragments.{begin_bytes, first_head, fragments_of, frames_after, more_frame, more_frames}
use Rattle.csp_can.specs.Frames.{Frame, written}
use Rattle.csp_can.specs.Identifiers.{key_of, same_key}
use Rattle.csp_can.specs.Listening.{Listening, answered, listened}
use Rattle.csp_can.specs.Open.{counters, done, fresh, gone_on, remove_first, ruling, standing, without}
use Rattle.csp_can.specs.Rules.{Arrival, Deed, begin_ruling, ends, goes_on, grown_partial, leaves, measured, more_ruling, opened_partial, opens, ruling_of}
use Rattle.csp_can.specs.declared.answers.CanEvent.{CanEvent}
use Rattle.csp_can.specs.declared.frames.CanFrame.{CanFrame}
use Rattle.csp_can.specs.declared.identifiers.Identifier.{Identifier}
use Rattle.csp_can.specs.declared.identifiers.Key.{Key}
use Rattle.csp_can.specs.declared.identifiers.Kind.TheVariants.{Begin, More}
use Rattle.csp_can.specs.declared.identifiers.Kind.{Kind}
use Rattle.csp_can.specs.declared.partials.Partial.{Partial}
use Rattle.csp_can.specs.declared.partials.TheConstants.{GIVE_UP, MAX_PARTIALS}
use Rattle.csp_iface.specs.Receiving.{packet_of}
use Rattle.csp_iface.specs.Sending.{can_frame}
use Rattle.csp_sizes.specs.Light.{IsLightFrame}

-- ---- the frames that a packet is cut into

abbrev AreFrames : List Frame → Type 0
AreFrames fs = All (λ f. length f.bytes ≤ 531) fs

more_light : (head : Identifier) (n : ℕ) (rest : List ℕ) → AreFrames (more_frames head n rest)
more_light head zero rest = All-nil (λ f. length f.bytes ≤ 531)
more_light head (suc n) rest =
    All-cons (λ (f : Frame). length f.bytes ≤ 531) (more_frame head n rest) (more_frames head n (drop 8 rest)) (omega (arith, length-take 8 rest)) (more_light head n (drop 8 rest))

begin_light : (header : ℕ) (payload : List ℕ) → length (begin_bytes header payload) ≤ 531
begin_light header payload =
    let back : length (to_be_bytes w16 (length payload) ++ take 2 payload) ≡ 2 + length (take 2 payload) = length-append (to_be_bytes w16 (length payload)) (take 2 payload) in
    let all : length (begin_bytes header payload) ≡ 4 + length (to_be_bytes w16 (length payload) ++ take 2 payload) = length-append (to_be_bytes w32 header) (to_be_bytes w16 (length payload) ++ take 2 payload) in
    omega (arith, back, all, length-take 2 payload)

fragments_light : (header : ℕ) (payload : List ℕ) (dest id : ℕ) → AreFrames (fragments_of header payload dest id)
fragments_light header payload dest id =
    let head = first_head header payload dest id in
    All-cons (λ (f : Frame). length f.bytes ≤ 531) (record { head = head; bytes = begin_bytes header payload }) (more_frames head (frames_after (length payload)) (drop 2 payload)) (begin_light header payload)
    (more_light head (frames_after (length payload)) (drop 2 payload))

pub frames_light : (trace : Trace) (header : ℕ) (payload : List ℕ) (dest id : ℕ) → All IsLightFrame (map (can_frame trace) (map written (fragments_of header payload dest id)))
frames_light trace header payload dest id =
    All-map IsLightFrame (can_frame trace) (map written (fragments_of header payload dest id))
    (All-map (λ (f : CanFrame). length f.bytes.items ≤ 531) written (fragments_of header payload dest id) (fragments_light header payload dest id))

-- ---- what is made whole

abbrev IsWholeShort : CanEvent → Type 0
IsWholeShort event = IfSome (packet_of event) (λ p. length p.payload.items ≤ 531)

abbrev AreShort : List Partial → Type 0
AreShort ps = All (λ p. p.length ≤ 256) ps

measured_short : (stood : Bool) (q : Partial) (part : Deed) → q.length ≤ 256 → IsWholeShort (measured stood q part).event
measured_short stood q part h = measured_by stood q part (λ r. IsWholeShort r.event) (λ _. tt) (λ same. omega (arith, h, same)) (λ _. tt)

begin_short : (mtu : ℕ) (stood full : Bool) (a : Arrival) → mtu ≤ 256 → IsWholeShort (begin_ruling mtu stood full a).event
begin_short mtu stood full a h =
    begin_by mtu stood full a (λ r. IsWholeShort r.event) tt tt tt (λ enough fits room. measured_short stood (opened_partial a) opens (omega (arith, h, fits)))

begin_opens : (mtu : ℕ) (stood full : Bool) (a : Arrival) → mtu ≤ 256 → (begin_ruling mtu stood full a).deed ≡ opens → begin_length a.frame.bytes ≤ 256
begin_opens mtu stood full a h =
    begin_by mtu stood full a (λ r. r.deed ≡ opens → begin_length a.frame.bytes ≤ 256) (λ e. absurd (apart e)) (λ e. absurd (apart e)) (λ e. absurd (apart e)) (λ enough fits room e. omega (arith, h, fits))
  where
    apart : leaves ≡ opens → ⊥
    apart e = cc

more_short : (o : Option Partial) (a : Arrival) → IfSome o (λ p. p.length ≤ 256) → IsWholeShort (more_ruling o a).event
more_short None a h = tt
more_short (Some p) a h = more_by p a (λ r. IsWholeShort r.event) tt (λ e. measured_short false (grown_partial p a) goes_on h)

more_opens : (o : Option Partial) (a : Arrival) → (more_ruling o a).deed ≡ opens → ⊥
more_opens None a = λ e. cc
more_opens (Some p) a =
    more_by p a (λ r. r.deed ≡ opens → ⊥) (λ e. apart e) (λ same. measured_by false (grown_partial p a) goes_on (λ r. r.deed ≡ opens → ⊥) (λ _ e. apart e) (λ _ e. apart e) (λ _ e. going e))
  where
    apart : ends ≡ opens → ⊥
    apart e = cc

    going : goes_on ≡ opens → ⊥
    going e = cc

ruling_short : (mtu : ℕ) (k : Kind) (o : Option Partial) (full : Bool) (a : Arrival) → mtu ≤ 256 → IfSome o (λ p. p.length ≤ 256) → IsWholeShort (ruling_of mtu k o full a).event
ruling_short mtu Begin o full a h stands = begin_short mtu (is_some o) full a h
ruling_short mtu More o full a h stands = more_short o a stands

ruling_opens : (mtu : ℕ) (k : Kind) (o : Option Partial) (full : Bool) (a : Arrival) → mtu ≤ 256 → (ruling_of mtu k o full a).deed ≡ opens → begin_length a.frame.bytes ≤ 256
ruling_opens mtu Begin o full a h e = begin_opens mtu (is_some o) full a h e
ruling_opens mtu More o full a h e = absurd (more_opens o a e)

-- the partial packet of a key is one of those that stand
found_short : (test : Partial → Bool) (ps : List Partial) → AreShort ps → IfSome (option_map (λ p. p) (find test ps)) (λ p. p.length ≤ 256)
found_short test [] all = tt
found_short test (p ∷ ps) all = go (test p) (found_short test ps (All-tail (λ (p : Partial). p.length ≤ 256) p ps all))
  where
    go : (c : Bool) → IfSome (option_map (λ p. p) (find test ps)) (λ p. p.length ≤ 256) → IfSome (option_map (λ p. p) (cond c (Some p) (find test ps))) (λ p. p.length ≤ 256)
    go true rest = All-head (λ (p : Partial). p.length ≤ 256) p ps all
    go false rest = rest

removed_short : (test : Partial → Bool) (ps : List Partial) → AreShort ps → AreShort (remove_first test ps)
removed_short test [] all = all
removed_short test (p ∷ ps) all = go (test p) (removed_short test ps (All-tail (λ (p : Partial). p.length ≤ 256) p ps all))
  where
    go : (c : Bool) → AreShort (remove_first test ps) → AreShort (if c then ps else p ∷ remove_first test ps)
    go true rest = All-tail (λ (p : Partial). p.length ≤ 256) p ps all
    go false rest = All-cons (λ (p : Partial). p.length ≤ 256) p (remove_first test ps) (All-head (λ (p : Partial). p.length ≤ 256) p ps all) rest

grown_short : (o : Option Partial) (a : Arrival) → IfSome (option_map (λ p. p) o) (λ p. p.length ≤ 256) → AreShort (option_to_list (option_map (λ k. counters.grown k a) o))
grown_short None a h = All-nil (λ (p : Partial). p.length ≤ 256)
grown_short (Some p) a h = All-cons (λ (p : Partial). p.length ≤ 256) (grown_partial p a) [] h (All-nil (λ (p : Partial). p.length ≤ 256))

done_short : (d : Deed) (key : Key) (a : Arrival) (grown ps : List Partial) → (d ≡ opens → begin_length a.frame.bytes ≤ 256) → AreShort grown → AreShort ps → AreShort (done counters d key (counters.opened a) grown ps)
done_short leaves key a grown ps h some all = all
done_short ends key a grown ps h some all = removed_short (λ k. same_key k.key key) ps all
done_short opens key a grown ps h some all = All-push (λ (p : Partial). p.length ≤ 256) (without counters key ps) (opened_partial a) (removed_short (λ k. same_key k.key key) ps all) (h refl)
done_short goes_on key a grown ps h some all = All-append (λ (p : Partial). p.length ≤ 256) (without counters key ps) grown (removed_short (λ k. same_key k.key key) ps all) some

-- a frame comes to its partial packet
module _ (l : Listening) (a : Arrival) (mtu : l.mtu ≤ 256) (all : AreShort l.partials) where
  left_short : AreShort (filter (λ k. nat_lt (a.time - k.time) GIVE_UP) l.partials)
  left_short = All-filter (λ k. nat_lt (a.time - k.time) GIVE_UP) (λ (p : Partial). p.length ≤ 256) l.partials all

  stands_short : IfSome (option_map counters.shown (standing counters (key_of a.frame.head) (fresh counters a.time l.partials))) (λ p. p.length ≤ 256)
  stands_short = found_short (λ k. same_key k.key (key_of a.frame.head)) (fresh counters a.time l.partials) left_short

  pub answered_short : IsWholeShort (answered l a).event
  answered_short =
      ruling_short l.mtu a.frame.head.kind (option_map counters.shown (standing counters (key_of a.frame.head) (fresh counters a.time l.partials))) (nat_le MAX_PARTIALS (length (fresh counters a.time l.partials))) a mtu stands_short

  pub listened_short : AreShort (listened l a).partials
  listened_short =
      done_short (ruling counters l.mtu (fresh counters a.time l.partials) a).deed (key_of a.frame.head) a (gone_on counters (fresh counters a.time l.partials) a) (fresh counters a.time l.partials)
      (ruling_opens l.mtu a.frame.head.kind (option_map counters.shown (standing counters (key_of a.frame.head) (fresh counters a.time l.partials))) (nat_le MAX_PARTIALS (length (fresh counters a.time l.partials))) a mtu)
      (grown_short (standing counters (key_of a.frame.head) (fresh counters a.time l.partials)) a stands_short) left_short
