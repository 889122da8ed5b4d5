-- What a tap keeps of its stream, when one more byte comes.
use Rattle.std.proofs.Common.{◌≡◌, ◌≢◌, ℕ, ◌+◌, Bool, false, cond, eqb, Option, Some, None, Result, Ok, Err, List, [], ◌∷◌, ◌++◌, length, refl, sym, ap, ◌∙◌, arith, append-nil, append_assoc, length-append, subst}
use Rattle.std.specs.Prelude.{IfOk, OnOk}
use Rattle.std.specs.List.{cons_option}
use Rattle.std.specs.Option.{option_to_list}
use Rattle.std.proofs.lemmas.Bool.{ne_eqb}
use Rattle.csp_base.specs.declared.limits.TheConstants.{MAX_PAYLOAD}
use Rattle.csp_kiss.specs.GoingOn.{packet_of}
use Rattle.csp_kiss.specs.Reading.{Reading, after, answer, continued, going, told, reading_at, reading_of, unread}
use Rattle.csp_kiss.specs.Stream.{but_last, events, pieces}
use Rattle.csp_kiss.specs.declared.TheConstants.{FEND}
use Rattle.csp_kiss.specs.declared.event.KissEvent.{KissEvent}
use Rattle.csp_kiss.specs.declared.event.KissEvent.TheVariants.{Packet, TooLong, Short, BadCrc}
use Rattle.csp_kiss.specs.declared.progress.KissPacket.{KissPacket}
use Rattle.csp_kiss.specs.declared.stage.Stage.TheVariants.{Start}
use Rattle.csp_kiss.proofs.Public.{events-more, reading_of-push}
use Rattle.csp_tap.specs.Fed.{PlainTap, HasFed, HasTold, talks_with, telling}
use Rattle.csp_tap.specs.Packets.{event_line, event_lines}
use Rattle.csp_tap.specs.Talks.{packets_in, table, talk_lines}
use Rattle.csp_tap.specs.Pieces.{told_with}
use Rattle.csp_tap.specs.Text.{first_line, last_line, tap_text}
use Rattle.csp_tap.specs.declared.talks.Tally.{Tally}
use Rattle.csp_tap.proofs.Tables.{table-none, table-push}

-- before anything came
pub fed_none : (cover : Bool) (tap : PlainTap) → tap.reading ≡ unread cover MAX_PAYLOAD → tap.lines ≡ first_line → tap.count ≡ 0 → tap.talks ≡ [] → HasFed cover [] tap
unfolding events pieces but_last reading_of reading_at event_lines
fed_none cover tap reading lines count talks =
    record {
      read = reading;
      told = record { lines = lines ∙ sym (append-nil first_line); count = count; talks = talks ∙ sym table-none };
    }

pub on_ok : {T E P Q : Type 0} (r : Result T E) → (P → Q) → OnOk r P → OnOk r Q
on_ok (Ok x) f p = f p
on_ok (Err e) f p = tt

pub if_ok : {T E : Type 0} {P Q : T → Type 0} (r : Result T E) → ((x : T) → P x → Q x) → IfOk r P → IfOk r Q
if_ok (Ok x) f p = f x p
if_ok (Err e) f p = tt

event_lines-push : (number : ℕ) (es : List KissEvent) (e : KissEvent) → event_lines number (es ++ e ∷ []) ≡ event_lines number es ++ event_line (number + length es) e
unfolding event_lines
event_lines-push number [] e =
    let same : number ≡ number + length {A = KissEvent} [] = omega arith in
    append-nil (event_line number e) ∙ ap (λ n. event_line n e) same
event_lines-push number (x ∷ es) e =
    let same : (number + 1) + length es ≡ number + length (x ∷ es) = omega arith in
    ap (λ rest. event_line number x ++ rest) (event_lines-push (number + 1) es e)
    ∙ sym (append_assoc (event_line number x) (event_lines (number + 1) es) (event_line ((number + 1) + length es) e))
    ∙ ap (λ n. (event_line number x ++ event_lines (number + 1) es) ++ event_line n e) same

one : (o : Option KissPacket) → cons_option o [] ≡ option_to_list o
one None = refl
one (Some p) = refl

in_front : (o : Option KissPacket) (xs ys : List KissPacket) → cons_option o (xs ++ ys) ≡ cons_option o xs ++ ys
in_front None xs ys = refl
in_front (Some p) xs ys = refl

packets_more : (es : List KissEvent) (e : KissEvent) → packets_in (es ++ e ∷ []) ≡ packets_in es ++ option_to_list (packet_of e)
packets_more [] e = one (packet_of e)
packets_more (x ∷ es) e = ap (cons_option (packet_of x)) (packets_more es e) ∙ in_front (packet_of x) (packets_in es) (option_to_list (packet_of e))

talks_more : (es : List KissEvent) (e : KissEvent) → talks_with e (table (packets_in es)) ≡ table (packets_in (es ++ e ∷ []))
talks_more es (Packet header payload) = table-push (packets_in es) (record { header = header; payload = payload }) ∙ ap table (sym (packets_more es (Packet header payload)))
talks_more es TooLong = ap table (sym (append-nil (packets_in es)) ∙ sym (packets_more es TooLong))
talks_more es Short = ap table (sym (append-nil (packets_in es)) ∙ sym (packets_more es Short))
talks_more es (BadCrc found wanted) = ap table (sym (append-nil (packets_in es)) ∙ sym (packets_more es (BadCrc found wanted)))

told_more : (es : List KissEvent) (e : KissEvent) (tap : PlainTap) → HasTold es tap → HasTold (es ++ e ∷ []) (telling e tap)
told_more es e tap h =
    let number : tap.count + 1 ≡ 1 + length es = (let n = h.count in omega arith) in
    record {
      lines = (λ i. h.lines i ++ event_line (number i) e) ∙ append_assoc first_line (event_lines 1 es) (event_line (1 + length es) e) ∙ ap (λ lines. first_line ++ lines) (sym (event_lines-push 1 es e));
      count = (let n = h.count in let m = length-append es (e ∷ []) in omega arith);
      talks = ap (talks_with e) h.talks ∙ talks_more es e;
    }

-- ---- one byte more

read_more : (cover : Bool) (stream : List ℕ) (byte : ℕ) (reading into : Reading) → reading ≡ reading_of cover MAX_PAYLOAD stream → into ≡ after reading byte → into ≡ reading_of cover MAX_PAYLOAD (stream ++ byte ∷ [])
read_more cover stream byte reading into h e = e ∙ ap (λ (r : Reading). after r byte) h ∙ sym (reading_of-push cover MAX_PAYLOAD stream byte)

events_more : (cover : Bool) (stream : List ℕ) (byte : ℕ) (reading : Reading) (event : Option KissEvent) → reading ≡ reading_of cover MAX_PAYLOAD stream → answer reading byte ≡ event
    → events cover MAX_PAYLOAD (stream ++ byte ∷ []) ≡ events cover MAX_PAYLOAD stream ++ option_to_list event
events_more cover stream byte reading event h e =
    events-more cover MAX_PAYLOAD stream byte
    ∙ ap (λ (o : Option KissEvent). events cover MAX_PAYLOAD stream ++ option_to_list o) (ap (λ (r : Reading). answer r byte) (sym h) ∙ e)

abbrev pub tap_at : Reading → List ℕ → ℕ → List (ℕ × Tally) → PlainTap
tap_at reading lines count talks = record { reading = reading; lines = lines; count = count; talks = talks }

module _ (cover : Bool) (stream : List ℕ) (byte : ℕ) (reading into : Reading) (lines : List ℕ) (count : ℕ) (talks : List (ℕ × Tally)) where
  -- that brings no event
  pub fed_silent : answer reading byte ≡ None → into ≡ after reading byte → HasFed cover stream (tap_at reading lines count talks) → HasFed cover (stream ++ byte ∷ []) (tap_at into lines count talks)
  fed_silent none is h =
      let same : events cover MAX_PAYLOAD (stream ++ byte ∷ []) ≡ events cover MAX_PAYLOAD stream = events_more cover stream byte reading None h.read none ∙ append-nil (events cover MAX_PAYLOAD stream) in
      record {
        read = read_more cover stream byte reading into h.read is;
        told = subst (λ (es : List KissEvent). HasTold es (tap_at into lines count talks)) (sym same) (record { lines = h.told.lines; count = h.told.count; talks = h.told.talks });
      }

  -- that ends no piece
  pub fed_on : byte ≢ FEND → into ≡ continued reading reading.stage byte → HasFed cover stream (tap_at reading lines count talks) → HasFed cover (stream ++ byte ∷ []) (tap_at into lines count talks)
  fed_on ne is h =
      let t : eqb byte FEND ≡ false = ne_eqb byte FEND ne in
      let silent : answer reading byte ≡ None = ap (λ b. cond b (told reading reading.stage) None) t in
      let reached : continued reading reading.stage byte ≡ after reading byte = sym (ap (λ b. cond b (going reading Start []) (continued reading reading.stage byte)) t) in
      fed_silent silent (is ∙ reached) h

  -- that brings an event
  pub fed_event : (event : KissEvent) (new : PlainTap) → answer reading byte ≡ Some event → into ≡ after reading byte
      → new ≡ telling event (tap_at into lines count talks) → HasFed cover stream (tap_at reading lines count talks) → HasFed cover (stream ++ byte ∷ []) new
  fed_event event new some is tells h =
      let more = events_more cover stream byte reading (Some event) h.read some in
      let before : HasTold (events cover MAX_PAYLOAD stream) (tap_at into lines count talks) = record { lines = h.told.lines; count = h.told.count; talks = h.told.talks } in
      let fed : HasFed cover (stream ++ byte ∷ []) (telling event (tap_at into lines count talks)) = record {
        read = read_more cover stream byte reading into h.read is;
        told = subst (λ (es : List KissEvent). HasTold es (telling event (tap_at into lines count talks))) (sym more) (told_more (events cover MAX_PAYLOAD stream) event (tap_at into lines count talks) before);
      } in
      subst (HasFed cover (stream ++ byte ∷ [])) (sym tells) fed

  -- that ends a piece, which may bring an event
  pub fed_end : (event : Option KissEvent) → answer reading byte ≡ event → into ≡ after reading byte
      → HasFed cover stream (tap_at reading lines count talks) → HasFed cover (stream ++ byte ∷ []) (told_with event (tap_at into lines count talks))
  fed_end None none is h = fed_silent none is h
  fed_end (Some event) some is h = fed_event event (telling event (tap_at into lines count talks)) some is refl h

same_reading : (event : Option KissEvent) (tap : PlainTap) → (told_with event tap).reading ≡ tap.reading
same_reading None tap = refl
same_reading (Some event) tap = refl

into_reading : (event : Option KissEvent) (tap : PlainTap) (into : Reading) → told_with event (tap_at into tap.lines tap.count tap.talks) ≡ tap_at into (told_with event tap).lines (told_with event tap).count (told_with event tap).talks
into_reading None tap into = refl
into_reading (Some event) tap into = refl

-- a piece more was told of, where it has a byte, and the next begins
pub fed_piece : (cover : Bool) (stream : List ℕ) (before between : PlainTap) (into : Reading) → between ≡ told_with (told before.reading before.reading.stage) before → into ≡ going between.reading Start []
    → HasFed cover stream before → HasFed cover (stream ++ FEND ∷ []) (tap_at into between.lines between.count between.talks)
fed_piece cover stream before between into tells starts h =
    let event : Option KissEvent = told before.reading before.reading.stage in
    let same : between.reading ≡ before.reading = ap (λ (t : PlainTap). t.reading) tells ∙ same_reading event before in
    let fed = fed_end cover stream FEND before.reading into before.lines before.count before.talks event refl (starts ∙ ap (λ (r : Reading). going r Start []) same) h in
    subst (HasFed cover (stream ++ FEND ∷ [])) (into_reading event before into ∙ ap (λ (t : PlainTap). tap_at into t.lines t.count t.talks) (sym tells)) fed

-- ---- the whole text

pub whole_text : (cover : Bool) (stream : List ℕ) (tap : PlainTap) (text : List ℕ) → text ≡ (tap.lines ++ talk_lines tap.talks) ++ last_line tap.count → HasFed cover stream tap → text ≡ tap_text (events cover MAX_PAYLOAD stream)
unfolding tap_text
whole_text cover stream tap text is h =
    let es : List KissEvent = events cover MAX_PAYLOAD stream in
    let talks : List ℕ = talk_lines (table (packets_in es)) in
    is
    ∙ (λ i. (h.told.lines i ++ talk_lines (h.told.talks i)) ++ last_line (h.told.count i))
    ∙ append_assoc (first_line ++ event_lines 1 es) talks (last_line (length es))
    ∙ append_assoc first_line (event_lines 1 es) (talks ++ last_line (length es))
