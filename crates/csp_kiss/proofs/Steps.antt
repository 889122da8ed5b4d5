-- A byte more: what a reader keeps, and what the events of the whole stream gain.
use Rattle.std.proofs.Common.{◌≡◌, ℕ, ◌<◌, Bool, true, false, cond, eqb, List, [], ◌∷◌, ◌++◌, length, take, drop, None, refl, sym, ap, ◌∙◌, arith, append_assoc, append-nil}
use Rattle.std.specs.Option.{option_to_list}
use Rattle.std.specs.List.{flat_map, slice_split}
use Rattle.csp_kiss.specs.declared.TheConstants.{FEND, FESC, TFEND, TFESC}
use Rattle.csp_kiss.specs.declared.event.KissEvent.{KissEvent}
use Rattle.csp_kiss.specs.declared.stage.Stage.TheVariants.{Start, Plain, Escape}
use Rattle.csp_kiss.specs.Stream.{is_end, but_last, pieces, meaning, undone, judged, event_of, events}
use Rattle.csp_kiss.specs.Reading.{Reading, HasRead, unread, room, is_escaping, reading_in, reading_at, reading_of, kept_bytes, resolved, going, continued, after, told, answer, answers}
use Rattle.csp_kiss.proofs.Cutting.{onto_last, slice_split_some, slice_split-push_yes, slice_split-push_no, but_last-append, but_last-onto_last}
use Rattle.csp_kiss.proofs.Escapes.{adds, escapes, is_escaping-push, undone-push}
use Rattle.csp_kiss.proofs.Judging.{judged-take, take_all, take-take-append}

-- ---- the events

-- in a piece, after a FESC or not
abbrev in_piece : (cover : Bool) (mtu : ℕ) (plain : List ℕ) → Bool → Reading
in_piece cover mtu plain escaped = record { cover = cover; mtu = mtu; stage = cond escaped Escape Plain; plain = plain }

-- the end of a part gives what the reader of that part tells
event_of-told : (cover : Bool) (mtu : ℕ) (part : List ℕ) → event_of cover mtu part ≡ option_to_list (told (reading_in cover mtu part) (reading_in cover mtu part).stage)
unfolding event_of reading_in
event_of-told cover mtu [] = refl
event_of-told cover mtu (skipped ∷ bytes) =
    let same : judged cover mtu (undone false bytes) ∷ [] ≡ judged cover mtu (take (room mtu) (undone false bytes)) ∷ [] =
    ap (λ event. event ∷ []) (sym (judged-take cover mtu (undone false bytes))) in
    elim (is_escaping false bytes) as (λ b. judged cover mtu (undone false bytes) ∷ [] ≡ option_to_list (told (in_piece cover mtu (take (room mtu) (undone false bytes)) b) (cond b Escape Plain)))
    [ true ↦ same | false ↦ same ]

-- a FEND ends the last part
ended : (cover : Bool) (mtu : ℕ) (parts : List (List ℕ)) →
    flat_map (event_of cover mtu) (drop 1 parts) ≡ flat_map (event_of cover mtu) (drop 1 (but_last parts)) ++ option_to_list (told (reading_at cover mtu parts) (reading_at cover mtu parts).stage)
unfolding reading_at but_last
ended cover mtu [] = refl
ended cover mtu (before ∷ []) = refl
ended cover mtu (before ∷ part ∷ []) = append-nil (event_of cover mtu part) ∙ event_of-told cover mtu part
ended cover mtu (before ∷ part ∷ next ∷ parts) =
    let later : Reading = reading_at cover mtu (part ∷ next ∷ parts) in
    ap (λ rest. event_of cover mtu part ++ rest) (ended cover mtu (part ∷ next ∷ parts))
    ∙ sym (append_assoc (event_of cover mtu part) (flat_map (event_of cover mtu) (but_last (next ∷ parts))) (option_to_list (told later later.stage)))

events-cut : (cover : Bool) (mtu : ℕ) (stream : List ℕ) (byte : ℕ) (b : Bool) → eqb byte FEND ≡ b →
    events cover mtu (stream ++ byte ∷ []) ≡ events cover mtu stream ++ option_to_list (cond b (told (reading_of cover mtu stream) (reading_of cover mtu stream).stage) None)
unfolding events pieces reading_of
events-cut cover mtu stream byte true e =
    ap (λ parts. flat_map (event_of cover mtu) (drop 1 (but_last parts))) (slice_split-push_yes is_end stream byte e)
    ∙ ap (λ parts. flat_map (event_of cover mtu) (drop 1 parts)) (but_last-append (slice_split is_end stream) [])
    ∙ ended cover mtu (slice_split is_end stream)
events-cut cover mtu stream byte false e =
    ap (λ parts. flat_map (event_of cover mtu) (drop 1 (but_last parts))) (slice_split-push_no is_end stream byte e)
    ∙ ap (λ parts. flat_map (event_of cover mtu) (drop 1 parts)) (but_last-onto_last byte (slice_split is_end stream))
    ∙ sym (append-nil (flat_map (event_of cover mtu) (drop 1 (but_last (slice_split is_end stream)))))

pub events-more : (cover : Bool) (mtu : ℕ) (stream : List ℕ) (byte : ℕ) → events cover mtu (stream ++ byte ∷ []) ≡ events cover mtu stream ++ option_to_list (answer (reading_of cover mtu stream) byte)
events-more cover mtu stream byte = events-cut cover mtu stream byte (eqb byte FEND) refl

-- what a reader that was fed this stream answers to one byte more is what the byte adds
pub events-push : (reading : Reading) (stream : List ℕ) (byte : ℕ) → HasRead stream reading →
    events reading.cover reading.mtu (stream ++ byte ∷ []) ≡ events reading.cover reading.mtu stream ++ option_to_list (answer reading byte)
events-push reading stream byte h =
    events-more reading.cover reading.mtu stream byte
    ∙ ap (λ (r : Reading). events reading.cover reading.mtu stream ++ option_to_list (answer r byte)) (sym h)

-- ---- the reader

resolved-take : (mtu : ℕ) (bytes : List ℕ) (byte : ℕ) → resolved mtu (take (room mtu) bytes) byte ≡ take (room mtu) (bytes ++ meaning byte)
resolved-take mtu bytes byte =
    elim (eqb byte TFEND) as (λ b. cond b (kept_bytes mtu (take (room mtu) bytes) (FEND ∷ [])) (cond (eqb byte TFESC) (kept_bytes mtu (take (room mtu) bytes) (FESC ∷ [])) (take (room mtu) bytes))
    ≡ take (room mtu) (bytes ++ cond b (FEND ∷ []) (cond (eqb byte TFESC) (FESC ∷ []) []))) [
      | true ↦ take-take-append (room mtu) bytes (FEND ∷ [])
      | false ↦ elim (eqb byte TFESC) as (λ b. cond b (kept_bytes mtu (take (room mtu) bytes) (FESC ∷ [])) (take (room mtu) bytes) ≡ take (room mtu) (bytes ++ cond b (FESC ∷ []) [])) [
        | true ↦ take-take-append (room mtu) bytes (FESC ∷ [])
        | false ↦ ap (λ all. take (room mtu) all) (sym (append-nil bytes))
      ]
    ]

reading_in-push : (cover : Bool) (mtu : ℕ) (part : List ℕ) (byte : ℕ) → reading_in cover mtu (part ++ byte ∷ []) ≡ continued (reading_in cover mtu part) (reading_in cover mtu part).stage byte
unfolding reading_in is_escaping undone
reading_in-push cover mtu [] byte = ap (λ all. in_piece cover mtu all false) (take_all (room mtu) [] (omega arith))
reading_in-push cover mtu (skipped ∷ bytes) byte =
    let plain : List ℕ = undone false bytes in
    let most : ℕ = room mtu in
    rw (is_escaping-push false bytes byte, undone-push false bytes byte)
    (elim (is_escaping false bytes) as (λ b. in_piece cover mtu (take most (plain ++ adds b byte)) (escapes b byte) ≡ continued (in_piece cover mtu (take most plain) b) (cond b Escape Plain) byte) [
      | true ↦ ap (λ all. in_piece cover mtu all false) (sym (resolved-take mtu plain byte))
      | false ↦ elim (eqb byte FESC) as (λ b. in_piece cover mtu (take most (plain ++ cond b [] (byte ∷ []))) b
          ≡ cond b (in_piece cover mtu (take most plain) true) (in_piece cover mtu (kept_bytes mtu (take most plain) (byte ∷ [])) false)) [
            | true ↦ ap (λ all. in_piece cover mtu (take most all) true) (append-nil plain)
            | false ↦ ap (λ all. in_piece cover mtu all false) (sym (take-take-append most plain (byte ∷ [])))
          ]
    ])

reading_at-append : (cover : Bool) (mtu : ℕ) (parts : List (List ℕ)) → 0 < length parts → reading_at cover mtu (parts ++ [] ∷ []) ≡ record { cover = cover; mtu = mtu; stage = Start; plain = [] }
unfolding reading_at reading_in
reading_at-append cover mtu [] h = absurd (omega arith)
reading_at-append cover mtu (before ∷ []) h = refl
reading_at-append cover mtu (before ∷ part ∷ []) h = refl
reading_at-append cover mtu (before ∷ part ∷ next ∷ parts) h = reading_at-append cover mtu (part ∷ next ∷ parts) (omega arith)

reading_at-onto_last : (cover : Bool) (mtu : ℕ) (byte : ℕ) (parts : List (List ℕ)) → 0 < length parts →
    reading_at cover mtu (onto_last byte parts) ≡ continued (reading_at cover mtu parts) (reading_at cover mtu parts).stage byte
unfolding reading_at
reading_at-onto_last cover mtu byte [] h = absurd (omega arith)
reading_at-onto_last cover mtu byte (before ∷ []) h = refl
reading_at-onto_last cover mtu byte (before ∷ part ∷ []) h = reading_in-push cover mtu part byte
reading_at-onto_last cover mtu byte (before ∷ part ∷ next ∷ []) h = reading_at-onto_last cover mtu byte (part ∷ next ∷ []) (omega arith)
reading_at-onto_last cover mtu byte (before ∷ part ∷ next ∷ second ∷ parts) h = reading_at-onto_last cover mtu byte (part ∷ next ∷ second ∷ parts) (omega arith)

-- a reader judges by what it was made with
judges_alike : (cover : Bool) (mtu : ℕ) (parts : List (List ℕ)) → ((reading_at cover mtu parts).cover ≡ cover) × ((reading_at cover mtu parts).mtu ≡ mtu)
unfolding reading_at reading_in
judges_alike cover mtu [] = (refl, refl)
judges_alike cover mtu (before ∷ []) = (refl, refl)
judges_alike cover mtu (before ∷ [] ∷ []) = (refl, refl)
judges_alike cover mtu (before ∷ (skipped ∷ bytes) ∷ []) = (refl, refl)
judges_alike cover mtu (before ∷ part ∷ next ∷ parts) = judges_alike cover mtu (part ∷ next ∷ parts)

reading_of-cut : (cover : Bool) (mtu : ℕ) (stream : List ℕ) (byte : ℕ) (b : Bool) → eqb byte FEND ≡ b →
    reading_of cover mtu (stream ++ byte ∷ []) ≡ cond b (going (reading_of cover mtu stream) Start []) (continued (reading_of cover mtu stream) (reading_of cover mtu stream).stage byte)
unfolding reading_of
reading_of-cut cover mtu stream byte true e =
    let alike = judges_alike cover mtu (slice_split is_end stream) in
    ap (reading_at cover mtu) (slice_split-push_yes is_end stream byte e)
    ∙ reading_at-append cover mtu (slice_split is_end stream) (slice_split_some is_end stream)
    ∙ (λ i. record { cover = sym alike.0 i; mtu = sym alike.1 i; stage = Start; plain = [] })
reading_of-cut cover mtu stream byte false e =
    ap (reading_at cover mtu) (slice_split-push_no is_end stream byte e) ∙ reading_at-onto_last cover mtu byte (slice_split is_end stream) (slice_split_some is_end stream)

pub reading_of-push : (cover : Bool) (mtu : ℕ) (stream : List ℕ) (byte : ℕ) → reading_of cover mtu (stream ++ byte ∷ []) ≡ after (reading_of cover mtu stream) byte
reading_of-push cover mtu stream byte = reading_of-cut cover mtu stream byte (eqb byte FEND) refl

-- of whatever it keeps, a reader was made for it
pub made_for : (cover : Bool) (mtu : ℕ) (stream : List ℕ) → ((reading_of cover mtu stream).cover ≡ cover) × ((reading_of cover mtu stream).mtu ≡ mtu)
unfolding reading_of
made_for cover mtu stream = judges_alike cover mtu (slice_split is_end stream)

pub has_read : (cover : Bool) (mtu : ℕ) (stream : List ℕ) (reading : Reading) → reading ≡ reading_of cover mtu stream → HasRead stream reading
has_read cover mtu stream reading e =
    let alike = made_for cover mtu stream in
    let covers : reading.cover ≡ cover = ap (λ (r : Reading). r.cover) e ∙ alike.0 in
    let takes : reading.mtu ≡ mtu = ap (λ (r : Reading). r.mtu) e ∙ alike.1 in
    e ∙ (λ i. reading_of (sym covers i) (sym takes i) stream)

pub has_read-push : (reading : Reading) (stream : List ℕ) (byte : ℕ) → HasRead stream reading → HasRead (stream ++ byte ∷ []) (after reading byte)
has_read-push reading stream byte h =
    has_read reading.cover reading.mtu (stream ++ byte ∷ []) (after reading byte)
    (ap (λ (r : Reading). after r byte) h ∙ sym (reading_of-push reading.cover reading.mtu stream byte))

-- ---- a whole stream

pub events-append : (cover : Bool) (mtu : ℕ) (stream bytes : List ℕ) → events cover mtu (stream ++ bytes) ≡ events cover mtu stream ++ answers (reading_of cover mtu stream) bytes
unfolding answers
events-append cover mtu stream [] = ap (events cover mtu) (append-nil stream) ∙ sym (append-nil (events cover mtu stream))
events-append cover mtu stream (byte ∷ bytes) =
    let more : List ℕ = stream ++ byte ∷ [] in
    let before : Reading = reading_of cover mtu stream in
    let first : List KissEvent = option_to_list (answer before byte) in
    ap (events cover mtu) (sym (append_assoc stream (byte ∷ []) bytes))
    ∙ events-append cover mtu more bytes
    ∙ ap (λ reading. events cover mtu more ++ answers reading bytes) (reading_of-push cover mtu stream byte)
    ∙ ap (λ all. all ++ answers (after before byte) bytes) (events-more cover mtu stream byte)
    ∙ append_assoc (events cover mtu stream) first (answers (after before byte) bytes)

-- from a new reader on, whatever the bytes are
pub answers-unread : (cover : Bool) (mtu : ℕ) (bytes : List ℕ) → answers (unread cover mtu) bytes ≡ events cover mtu bytes
unfolding events pieces but_last reading_of reading_at
answers-unread cover mtu bytes = sym (events-append cover mtu [] bytes)
