-- What a turn of an interface on a KISS link puts there, and what transmission it begins.
use Rattle.std.proofs.Common.{◌≡◌, ℕ, ◌==◌, ◌≤◌, Bool, true, false, Option, Some, None, List, [], ◌∷◌, ◌++◌, drop, length, slice_get, refl, sym, ap, ◌∙◌, subst, append-nil}
use Rattle.std.proofs.lemmas.List.Concat.{flat_map-cons}
use Rattle.std.specs.Prelude.{if◌then◌else◌, ⊤}
use Rattle.std.proofs.lemmas.Bool.{ltb-false}
use Rattle.std.specs.List.{AllByRecursion, flat_map, list_any}
use Rattle.csp_buffer.specs.Content.{Content}
use Rattle.csp_base.specs.declared.traces.Trace.{Trace}
use Rattle.csp_consistent.proofs.Public.{waiting, told}
use Rattle.csp_exports.specs.Frames.{put_on, written_of}
use Rattle.csp_exports.specs.Unused.{is_transmission}
use Rattle.csp_exports.specs.declared.ends.Form.TheVariants as form
use Rattle.csp_iface.specs.Asking.{op_of, given, delivered, transmitted}
use Rattle.csp_iface.specs.PlainIface.{PlainIface}
use Rattle.csp_iface.specs.Planning.{plan_of, first_rule, side_plan}
use Rattle.csp_iface.specs.Sending.{sent_trace, next_node, frames_of}
use Rattle.csp_iface.specs.Telling.{after_answer, caught, pushed, bad, is_too_big, taken_up}
use Rattle.csp_iface.specs.declared.packet.WholePacket.{WholePacket}
use Rattle.csp_iface.specs.declared.plan.IfacePlan.{IfacePlan}
use Rattle.csp_iface.specs.declared.plan.IfacePlan.TheVariants as plan
use Rattle.csp_iface.specs.declared.plan.Side.{Side}
use Rattle.csp_iface.specs.declared.plan.Side.TheVariants as side
use Rattle.csp_kiss.specs.declared.progress.KissPacket.{KissPacket}
use Rattle.csp_log.specs.Moving.{moved_by}
use Rattle.csp_log.specs.Pictures.{Fits}
use Rattle.csp_log.specs.declared.event.Event.{Event}
use Rattle.csp_log.specs.declared.event.Event.TheVariants as event
use Rattle.csp_log.specs.declared.frame.Frame.{Frame}
use Rattle.csp_log.specs.declared.places.LinkKind.{LinkKind}
use Rattle.csp_log.specs.declared.places.LinkKind.TheVariants as link
use Rattle.csp_log.specs.declared.places.QueueId.{QueueId}
use Rattle.csp_log.specs.declared.places.QueueId.TheVariants as queue
use Rattle.csp_log.specs.declared.shown.ItemShown.{ItemShown}
use Rattle.csp_log.specs.declared.shown.ItemShown.TheVariants as item
use Rattle.csp_log.specs.declared.shown.OpShown.{OpShown}
use Rattle.csp_log.specs.declared.shown.OpShown.TheVariants as op
use Rattle.csp_log.specs.declared.shown.AnswerShown.{AnswerShown}
use Rattle.csp_log.specs.declared.shown.AnswerShown.TheVariants as answer
use Rattle.csp_record.specs.Transmissions.{fetched}
use Rattle.csp_reread.specs.Reread.{covers, read_as, read_of}
use Rattle.csp_reread.proofs.Streams.{frame_bytes}

-- the frames that are left are those of these packets, of which there is at most one
abbrev pub AreOf : Bool → List Frame → List KissPacket → Type 0
AreOf cover [] [] = ⊤
AreOf cover [] (p ∷ ps) = ⊥
AreOf cover (f ∷ fs) [] = ⊥
AreOf cover (f ∷ []) (p ∷ []) = f.bytes.items ≡ frame_bytes cover p
AreOf cover (f ∷ []) (p ∷ q ∷ ps) = ⊥
AreOf cover (f ∷ g ∷ fs) (p ∷ ps) = ⊥

-- what a turn put on the link, and the packet whose transmission it began
abbrev pub put_by : OpShown → AnswerShown → List ℕ
put_by o a = written_of form.Kiss [] 0 (put_on o a)

abbrev pub made_by : List Event → OpShown → AnswerShown → List KissPacket
made_by es o a = read_of (if list_any is_transmission es then fetched (moved_by o a) else None)

-- after a turn: what was waiting and what it made is what it showed and what is waiting now
pub record Turned (cover : Bool) (rest made : List KissPacket) (put : List ℕ) (frames : List Frame) : Type 0 where
  pub shown : List KissPacket
  pub left : List KissPacket
  pub whole : rest ++ made ≡ shown ++ left
  pub bytes : put ≡ flat_map (frame_bytes cover) shown
  pub pending : AreOf cover frames left

-- a turn that neither puts nor makes anything
quiet_turn : (cover : Bool) (rest made : List KissPacket) (put : List ℕ) (frames : List Frame) → put ≡ [] → made ≡ [] → AreOf cover frames rest → Turned cover rest made put frames
quiet_turn cover rest made put frames no_put no_made h = record { shown = []; left = rest; whole = ap (λ m. rest ++ m) no_made ∙ append-nil rest; bytes = no_put; pending = h }

-- what a turn reports
abbrev reports : PlainIface → (now k : ℕ) → IfacePlan → AnswerShown → List Event
reports s now k p a = (after_answer (waiting s p) now p a).events ++ bad k

-- a turn whose operation fetched nothing makes nothing
none_made : (es : List Event) (o : Option Content) → o ≡ None → read_of (if list_any is_transmission es then o else None) ≡ []
none_made es o e = by (list_any is_transmission es)
  where
    by : (b : Bool) → read_of (if b then o else None) ≡ []
    by true = ap read_of e
    by false = refl

-- nor does one that told of no transmission
none_told : (es : List Event) (o : Option Content) → list_any is_transmission es ≡ false → read_of (if list_any is_transmission es then o else None) ≡ []
none_told es o e = ap (λ b. read_of (if b then o else None)) e

none_bad : (k : ℕ) → list_any is_transmission (bad k) ≡ false
none_bad k = chosen (k == 0)
  where
    chosen : (b : Bool) → list_any is_transmission (if b then [] else event.Bad k ∷ []) ≡ false
    chosen true = refl
    chosen false = refl

-- what the operations besides fetch
given_fetched : (o : Option Content) (a : AnswerShown) → fetched (moved_by (given o) a) ≡ None
given_fetched None a = refl
given_fetched (Some b) a = refl

delivered_fetched : (n : ℕ) (o : Option Content) (a : AnswerShown) → fetched (moved_by (delivered n o) a) ≡ None
delivered_fetched n None a = refl
delivered_fetched n (Some b) answer.Pushed = refl
delivered_fetched n (Some b) _ = refl

transmitted_fetched : (n : ℕ) (o : Option Frame) (a : AnswerShown) → fetched (moved_by (transmitted n o) a) ≡ None
transmitted_fetched n None a = refl
transmitted_fetched n (Some f) answer.Pushed = refl
transmitted_fetched n (Some f) _ = refl

popped_fetched : (n : ℕ) (a : AnswerShown) → fetched (moved_by (op.Pop (queue.Rx n)) a) ≡ None
popped_fetched n (answer.Popped (item.Packet _ _)) = refl
popped_fetched n (answer.Popped (item.Frame _)) = refl
popped_fetched n (answer.Popped (item.Note _)) = refl
popped_fetched n _ = refl

-- and put on the link
given_put : (o : Option Content) (a : AnswerShown) → put_by (given o) a ≡ []
given_put None a = refl
given_put (Some b) a = refl

delivered_put : (n : ℕ) (o : Option Content) (a : AnswerShown) → put_by (delivered n o) a ≡ []
delivered_put n None a = refl
delivered_put n (Some b) answer.Pushed = refl
delivered_put n (Some b) _ = refl

popped_put : (q : QueueId) (a : AnswerShown) → put_by (op.Pop q) a ≡ []
popped_put q a = refl

-- the frames that are left after each turn that doesn't send
return_frames : (s : PlainIface) (now : ℕ) (a : AnswerShown) → (told s now plan.Return a).frames ≡ s.frames
return_frames s now answer.Given = refl
return_frames s now (answer.PoolFull _) = refl
return_frames s now _ = refl

deliver_frames : (s : PlainIface) (now : ℕ) (a : AnswerShown) → (told s now plan.Deliver a).frames ≡ s.frames
deliver_frames s now answer.Pushed = refl
deliver_frames s now (answer.Full _) = refl
deliver_frames s now _ = refl

take_frames : (s : PlainIface) (now : ℕ) (a : AnswerShown) → (told s now plan.Take a).frames ≡ s.frames
take_frames s now (answer.Taken _) = refl
take_frames s now answer.NoBuffer = refl
take_frames s now _ = refl

caught_frames : (now : ℕ) (i : ItemShown) (s : PlainIface) → (caught now i s).iface.frames ≡ s.frames
caught_frames now (item.Packet _ _) s = refl
caught_frames now (item.Frame _) s = refl
caught_frames now (item.Note _) s = refl

receive_frames : (s : PlainIface) (now : ℕ) (a : AnswerShown) → (told s now plan.Receive a).frames ≡ s.frames
receive_frames s now (answer.Popped i) = caught_frames now i (waiting s plan.Receive)
receive_frames s now answer.Empty = refl
receive_frames s now _ = refl

-- the one frame of a packet on a KISS link
one_frame : (cover : Bool) (kind : LinkKind) (serial next : ℕ) (b : Content) (t : Trace) → covers kind ≡ Some cover → AreOf cover (frames_of kind serial next b t) (read_as b ∷ [])
one_frame cover link.Kiss serial next b t e = let same : false ≡ cover = cc in ap (λ c. frame_bytes c (read_as b)) same
one_frame cover link.KissHeader serial next b t e = let same : true ≡ cover = cc in ap (λ c. frame_bytes c (read_as b)) same
one_frame cover link.Can serial next b t e = absurd cc

-- the frames that are left after a turn of sending: the first went, or came back
abbrev after_frames : List Frame → AnswerShown → List Frame
after_frames fs (answer.Full (item.Frame g)) = g ∷ drop 1 fs
after_frames fs (answer.Full (item.Packet _ _)) = drop 1 fs
after_frames fs (answer.Full (item.Note _)) = drop 1 fs
after_frames fs _ = drop 1 fs

pushed_frames : (fs : List Frame) (s : PlainIface) → (pushed fs s).frames ≡ s.frames
pushed_frames [] s = refl
pushed_frames (_ ∷ _) s = refl

transmit_frames : (s : PlainIface) (now : ℕ) (a : AnswerShown) → (told s now plan.Transmit a).frames ≡ after_frames s.frames a
transmit_frames s now answer.Pushed = pushed_frames (waiting s plan.Transmit).frames (waiting s plan.Transmit)
transmit_frames s now (answer.Full (item.Frame _)) = refl
transmit_frames s now (answer.Full (item.Packet _ _)) = refl
transmit_frames s now (answer.Full (item.Note _)) = refl
transmit_frames s now _ = refl

frame_in : Frame → ItemShown → Frame
frame_in f (item.Frame g) = g
frame_in f (item.Packet _ _) = f
frame_in f (item.Note _) = f

came_back : (f g : Frame) → item.Frame g ≡ item.Frame f → g ≡ f
unfolding frame_in
came_back f g e = ap (frame_in f) e

-- where no frame is left, nothing is asked
empty_turn : (cover : Bool) (n : ℕ) (a : AnswerShown) (rest : List KissPacket) → Fits (transmitted n None) a → AreOf cover [] rest → Turned cover rest [] (put_by (transmitted n None) a) (after_frames [] a)
empty_turn cover n answer.Nothing rest fits h = quiet_turn cover rest [] [] [] refl refl h
empty_turn cover n _ rest fits h = absurd fits

-- where one is left it goes, or comes back
one_turn : (cover : Bool) (n : ℕ) (f : Frame) (p : KissPacket) (a : AnswerShown) → Fits (transmitted n (Some f)) a → f.bytes.items ≡ frame_bytes cover p
    → Turned cover (p ∷ []) [] (put_by (transmitted n (Some f)) a) (after_frames (f ∷ []) a)
one_turn cover n f p answer.Pushed fits h = record {
  shown = p ∷ [];
  left = [];
  whole = refl;
  bytes = h ∙ sym (append-nil (frame_bytes cover p)) ∙ sym (flat_map-cons (frame_bytes cover) p []);
  pending = tt;
}
one_turn cover n f p (answer.Full (item.Frame g)) fits h =
    quiet_turn cover (p ∷ []) [] [] (g ∷ []) refl refl (ap (λ (x : Frame). x.bytes.items) (came_back f g fits) ∙ h)
one_turn cover n f p (answer.Full (item.Packet _ _)) fits h = absurd cc
one_turn cover n f p (answer.Full (item.Note _)) fits h = absurd cc
one_turn cover n f p _ fits h = absurd fits

sent_turn : (cover : Bool) (n : ℕ) (fs : List Frame) (rest : List KissPacket) (a : AnswerShown) → Fits (transmitted n (slice_get fs 0)) a → AreOf cover fs rest
    → Turned cover rest [] (put_by (transmitted n (slice_get fs 0)) a) (after_frames fs a)
sent_turn cover n [] rest a fits h = empty_turn cover n a rest fits h
sent_turn cover n (f ∷ fs) [] a fits h = absurd h
sent_turn cover n (f ∷ []) (p ∷ []) a fits h = one_turn cover n f p a fits h
sent_turn cover n (f ∷ []) (p ∷ q ∷ ps) a fits h = absurd h
sent_turn cover n (f ∷ g ∷ fs) (p ∷ ps) a fits h = absurd h

-- with what it makes, and where its frames are the same
with_made : (cover : Bool) (rest made : List KissPacket) (put : List ℕ) (frames after : List Frame) → made ≡ [] → frames ≡ after → Turned cover rest [] put after → Turned cover rest made put frames
with_made cover rest made put frames after no_made same t = record {
  shown = t.shown;
  left = t.left;
  whole = ap (λ m. rest ++ m) no_made ∙ t.whole;
  bytes = t.bytes;
  pending = subst (λ (fs : List Frame). AreOf cover fs t.left) (sym same) t.pending;
}

-- a packet that is fetched: its one frame is left then, or it is too big
module _ (cover : Bool) (s : PlainIface) (now k : ℕ) (covered : covers s.kind ≡ Some cover) (spent : s.frames ≡ []) where
  abbrev after_fetch : AnswerShown → Type 0
  after_fetch a = Turned cover [] (made_by ((after_answer (waiting s plan.Fetch) now plan.Fetch a).events ++ bad k) (op_of s plan.Fetch) a) (put_by (op_of s plan.Fetch) a) (told s now plan.Fetch a).frames

  fetched_turn : (mark : ℕ) (b : Content) (big : Bool) → Turned cover [] (read_of (if list_any is_transmission ((taken_up big mark b (waiting s plan.Fetch)).events ++ bad k) then Some b else None)) [] (taken_up big mark b (waiting s plan.Fetch)).iface.frames
  fetched_turn mark b true = quiet_turn cover [] _ [] s.frames refl (none_told (event.TooBig ∷ bad k) (Some b) (none_bad k)) (subst (λ (fs : List Frame). AreOf cover fs []) (sym spent) tt)
  fetched_turn mark b false = record {
    shown = [];
    left = read_as b ∷ [];
    whole = refl;
    bytes = refl;
    pending = one_frame cover s.kind s.serial (next_node mark b.header) b (sent_trace s.node s.number s.serial b.trace) covered;
  }

  idle : (a : AnswerShown) → read_of (if list_any is_transmission ((after_answer (waiting s plan.Fetch) now plan.Fetch a).events ++ bad k) then fetched (moved_by (op_of s plan.Fetch) a) else None) ≡ [] → (told s now plan.Fetch a).frames ≡ s.frames → after_fetch a
  idle a none same = quiet_turn cover [] _ _ _ (popped_put (queue.Out s.number) a) none (subst (λ (fs : List Frame). AreOf cover fs []) (sym (same ∙ spent)) tt)

  pub fetch_turn : (a : AnswerShown) → after_fetch a
  fetch_turn (answer.Popped (item.Packet mark b)) = fetched_turn mark b (is_too_big s b)
  fetch_turn (answer.Popped (item.Frame f)) = idle (answer.Popped (item.Frame f)) (none_made (reports s now k plan.Fetch (answer.Popped (item.Frame f))) None refl) refl
  fetch_turn (answer.Popped (item.Note n)) = idle (answer.Popped (item.Note n)) (none_made (reports s now k plan.Fetch (answer.Popped (item.Note n))) None refl) refl
  fetch_turn answer.Empty = idle answer.Empty (none_made (reports s now k plan.Fetch answer.Empty) None refl) refl
  fetch_turn answer.Nothing = idle answer.Nothing (none_made (reports s now k plan.Fetch answer.Nothing) None refl) refl
  fetch_turn (answer.Taken b) = idle (answer.Taken b) (none_made (reports s now k plan.Fetch (answer.Taken b)) None refl) refl
  fetch_turn answer.NoBuffer = idle answer.NoBuffer (none_made (reports s now k plan.Fetch answer.NoBuffer) None refl) refl
  fetch_turn answer.Given = idle answer.Given (none_made (reports s now k plan.Fetch answer.Given) None refl) refl
  fetch_turn (answer.PoolFull b) = idle (answer.PoolFull b) (none_made (reports s now k plan.Fetch (answer.PoolFull b)) None refl) refl
  fetch_turn answer.Pushed = idle answer.Pushed (none_made (reports s now k plan.Fetch answer.Pushed) None refl) refl
  fetch_turn (answer.Full i) = idle (answer.Full i) (none_made (reports s now k plan.Fetch (answer.Full i)) None refl) refl

-- a packet is fetched only where no frame is left
spent_by : (back accepted : Option Content) (whole : Option WholePacket) (which : Side) (fs : List Frame) → first_rule back accepted whole (side_plan which fs) ≡ plan.Fetch → fs ≡ []
spent_by back accepted whole which [] e = refl
spent_by (Some _) accepted whole which (f ∷ fs) e = absurd cc
spent_by None (Some _) whole which (f ∷ fs) e = absurd cc
spent_by None None (Some _) which (f ∷ fs) e = absurd cc
spent_by None None None side.Sending (f ∷ fs) e = absurd cc
spent_by None None None side.Receiving (f ∷ fs) e = absurd cc

none_left : (cover : Bool) (fs : List Frame) (rest : List KissPacket) → fs ≡ [] → AreOf cover fs rest → rest ≡ []
none_left cover fs [] e h = refl
none_left cover fs (p ∷ ps) e h = absurd (subst (λ (gs : List Frame). AreOf cover gs (p ∷ ps)) e h)

-- a turn by its plan
turn_by : (cover : Bool) (s : PlainIface) (now k : ℕ) (rest : List KissPacket) (p : IfacePlan) (a : AnswerShown) → covers s.kind ≡ Some cover → (p ≡ plan.Fetch → s.frames ≡ []) → Fits (op_of s p) a → AreOf cover s.frames rest
    → Turned cover rest (made_by ((after_answer (waiting s p) now p a).events ++ bad k) (op_of s p) a) (put_by (op_of s p) a) (told s now p a).frames
turn_by cover s now k rest plan.Rest a covered spent fits h = quiet_turn cover rest _ _ _ refl (none_made (reports s now k plan.Rest a) None refl) h
turn_by cover s now k rest plan.Return a covered spent fits h =
    quiet_turn cover rest _ _ _ (given_put s.back a) (none_made (reports s now k plan.Return a) _ (given_fetched s.back a)) (subst (λ (fs : List Frame). AreOf cover fs rest) (sym (return_frames s now a)) h)
turn_by cover s now k rest plan.Deliver a covered spent fits h =
    quiet_turn cover rest _ _ _ (delivered_put s.number s.accepted a) (none_made (reports s now k plan.Deliver a) _ (delivered_fetched s.number s.accepted a)) (subst (λ (fs : List Frame). AreOf cover fs rest) (sym (deliver_frames s now a)) h)
turn_by cover s now k rest plan.Take a covered spent fits h =
    quiet_turn cover rest _ _ _ refl (none_made (reports s now k plan.Take a) None refl) (subst (λ (fs : List Frame). AreOf cover fs rest) (sym (take_frames s now a)) h)
turn_by cover s now k rest plan.Transmit a covered spent fits h =
    with_made cover rest _ _ _ _ (none_made (reports s now k plan.Transmit a) _ (transmitted_fetched s.number (slice_get s.frames 0) a)) (transmit_frames s now a) (sent_turn cover s.number s.frames rest a fits h)
turn_by cover s now k rest plan.Fetch a covered spent fits h =
    subst (λ (ps : List KissPacket). Turned cover ps (made_by ((after_answer (waiting s plan.Fetch) now plan.Fetch a).events ++ bad k) (op_of s plan.Fetch) a) (put_by (op_of s plan.Fetch) a) (told s now plan.Fetch a).frames)
    (sym (none_left cover s.frames rest (spent refl) h)) (fetch_turn cover s now k covered (spent refl) a)
turn_by cover s now k rest plan.Receive a covered spent fits h =
    quiet_turn cover rest _ _ _ (popped_put (queue.Rx s.number) a) (none_made (reports s now k plan.Receive a) _ (popped_fetched s.number a)) (subst (λ (fs : List Frame). AreOf cover fs rest) (sym (receive_frames s now a)) h)

-- any turn
pub turn : (cover : Bool) (s : PlainIface) (now k : ℕ) (rest : List KissPacket) (a : AnswerShown) → covers s.kind ≡ Some cover → Fits (op_of s (plan_of s)) a → AreOf cover s.frames rest
    → Turned cover rest (made_by ((after_answer (waiting s (plan_of s)) now (plan_of s) a).events ++ bad k) (op_of s (plan_of s)) a) (put_by (op_of s (plan_of s)) a) (told s now (plan_of s) a).frames
turn cover s now k rest a covered fits h = turn_by cover s now k rest (plan_of s) a covered (spent_by s.back s.accepted s.whole s.side s.frames) fits h

-- what a turn makes has no longer a payload than its link takes
abbrev pub Fit : ℕ → KissPacket → Type 0
Fit mtu p = length p.payload.items ≤ mtu

none_fit : (mtu : ℕ) (made : List KissPacket) → made ≡ [] → AllByRecursion (Fit mtu) made
none_fit mtu [] e = tt
none_fit mtu (p ∷ ps) e = absurd cc

shown_fit : (mtu : ℕ) (es : List Event) (b : Content) → length b.payload ≤ mtu → AllByRecursion (Fit mtu) (read_of (if list_any is_transmission es then Some b else None))
shown_fit mtu es b h = by (list_any is_transmission es)
  where
    by : (c : Bool) → AllByRecursion (Fit mtu) (read_of (if c then Some b else None))
    by true = (h, tt)
    by false = tt

module _ (s : PlainIface) (now k : ℕ) where
  abbrev MadeFits : IfacePlan → AnswerShown → Type 0
  MadeFits p a = AllByRecursion (Fit s.mtu) (made_by ((after_answer (waiting s p) now p a).events ++ bad k) (op_of s p) a)

  fetched_fits : (mark : ℕ) (b : Content) (big : Bool) → is_too_big s b ≡ big → AllByRecursion (Fit s.mtu) (read_of (if list_any is_transmission ((taken_up big mark b (waiting s plan.Fetch)).events ++ bad k) then Some b else None))
  fetched_fits mark b true e = none_fit s.mtu _ (none_told (event.TooBig ∷ bad k) (Some b) (none_bad k))
  fetched_fits mark b false e = shown_fit s.mtu (event.Transmitted s.serial ∷ bad k) b (ltb-false s.mtu (length b.payload) e)

  fits_by : (p : IfacePlan) (a : AnswerShown) → MadeFits p a
  fits_by plan.Rest a = none_fit s.mtu _ (none_made (reports s now k plan.Rest a) None refl)
  fits_by plan.Return a = none_fit s.mtu _ (none_made (reports s now k plan.Return a) _ (given_fetched s.back a))
  fits_by plan.Deliver a = none_fit s.mtu _ (none_made (reports s now k plan.Deliver a) _ (delivered_fetched s.number s.accepted a))
  fits_by plan.Take a = none_fit s.mtu _ (none_made (reports s now k plan.Take a) None refl)
  fits_by plan.Transmit a = none_fit s.mtu _ (none_made (reports s now k plan.Transmit a) _ (transmitted_fetched s.number (slice_get s.frames 0) a))
  fits_by plan.Fetch (answer.Popped (item.Packet mark b)) = fetched_fits mark b (is_too_big s b) refl
  fits_by plan.Fetch (answer.Popped (item.Frame f)) = none_fit s.mtu _ (none_made (reports s now k plan.Fetch (answer.Popped (item.Frame f))) None refl)
  fits_by plan.Fetch (answer.Popped (item.Note n)) = none_fit s.mtu _ (none_made (reports s now k plan.Fetch (answer.Popped (item.Note n))) None refl)
  fits_by plan.Fetch answer.Empty = none_fit s.mtu _ (none_made (reports s now k plan.Fetch answer.Empty) None refl)
  fits_by plan.Fetch answer.Nothing = none_fit s.mtu _ (none_made (reports s now k plan.Fetch answer.Nothing) None refl)
  fits_by plan.Fetch (answer.Taken b) = none_fit s.mtu _ (none_made (reports s now k plan.Fetch (answer.Taken b)) None refl)
  fits_by plan.Fetch answer.NoBuffer = none_fit s.mtu _ (none_made (reports s now k plan.Fetch answer.NoBuffer) None refl)
  fits_by plan.Fetch answer.Given = none_fit s.mtu _ (none_made (reports s now k plan.Fetch answer.Given) None refl)
  fits_by plan.Fetch (answer.PoolFull b) = none_fit s.mtu _ (none_made (reports s now k plan.Fetch (answer.PoolFull b)) None refl)
  fits_by plan.Fetch answer.Pushed = none_fit s.mtu _ (none_made (reports s now k plan.Fetch answer.Pushed) None refl)
  fits_by plan.Fetch (answer.Full i) = none_fit s.mtu _ (none_made (reports s now k plan.Fetch (answer.Full i)) None refl)
  fits_by plan.Receive a = none_fit s.mtu _ (none_made (reports s now k plan.Receive a) _ (popped_fetched s.number a))

-- any turn's
pub turn_fits : (s : PlainIface) (now k : ℕ) (a : AnswerShown) → AllByRecursion (Fit s.mtu) (made_by ((after_answer (waiting s (plan_of s)) now (plan_of s) a).events ++ bad k) (op_of s (plan_of s)) a)
turn_fits s now k a = fits_by s now k (plan_of s) a
