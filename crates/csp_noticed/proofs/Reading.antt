-- What a reader that has nothing begun makes of one piece between two FENDs.
use Rattle.std.proofs.Common.{◌≡◌, ◌≢◌, ℕ, Bool, true, false, cond, eqb, List, [], ◌∷◌, ◌++◌, take, Option, Some, None, refl, sym, ap, ◌∙◌, arith, append_assoc, append-nil}
use Rattle.std.specs.List.{fold}
use Rattle.std.specs.Option.{option_to_list}
use Rattle.std.proofs.lemmas.Bool.{eqb-true, ne_eqb}
use Rattle.csp_kiss.specs.declared.TheConstants.{FEND, FESC, TFEND, TFESC}
use Rattle.csp_kiss.specs.declared.event.KissEvent.{KissEvent}
use Rattle.csp_kiss.specs.declared.event.KissEvent.TheVariants.{Packet, TooLong, Short, BadCrc}
use Rattle.csp_kiss.specs.declared.stage.Stage.{Stage}
use Rattle.csp_kiss.specs.declared.stage.Stage.TheVariants.{Outside, Start, Plain, Escape}
use Rattle.csp_kiss.specs.Frame.{escape_of, escaped}
use Rattle.csp_kiss.specs.GoingOn.{Progress, packet_of, read_on}
use Rattle.csp_kiss.specs.Reading.{Reading, room, kept_bytes, going, continued, after, told, answer, answers}
use Rattle.csp_kiss.specs.Stream.{judged}
use Rattle.csp_kiss.proofs.Public.{going_on, read_step, judged-take, take_all, take-take-append}
use Rattle.csp_noticed.specs.Made.{IsBetween, HasNothingBegun, MakesJust, refused_by}

-- whatever is told of some bytes is told of those after a byte that is answered with nothing
abbrev PassesOver : (X : Type 0) → (Reading → List ℕ → X) → Type 0
PassesOver X f = (r : Reading) (byte : ℕ) (bytes : List ℕ) → answer r byte ≡ None → f r (byte ∷ bytes) ≡ f (after r byte) bytes

answers-pass : PassesOver (List KissEvent) answers
unfolding answers
answers-pass r byte bytes e = ap (λ (o : Option KissEvent). option_to_list o ++ answers (after r byte) bytes) e

fold-passes : PassesOver Reading (fold after)
fold-passes r byte bytes e = refl

read_on-passes : PassesOver Progress read_on
read_on-passes r byte bytes e = read_step r byte bytes ∙ ap (λ (o : Option KissEvent). going_on o (after r byte) bytes (read_on (after r byte) bytes)) e

-- in a piece, with these bytes
abbrev within : Reading → List ℕ → Reading
within r plain = going r Plain plain

-- a byte that ends no piece
pass : (X : Type 0) (f : Reading → List ℕ → X) → PassesOver X f → (r : Reading) (byte : ℕ) (bytes : List ℕ) → eqb byte FEND ≡ false
    → f r (byte ∷ bytes) ≡ f (continued r r.stage byte) bytes
pass X f over r byte bytes e =
    over r byte bytes (ap (λ b. cond b (told r r.stage) None) e)
    ∙ ap (λ b. f (cond b (going r Start []) (continued r r.stage byte)) bytes) e

-- an escaped byte
pass-escaped : (X : Type 0) (f : Reading → List ℕ → X) → PassesOver X f → (r : Reading) (plain : List ℕ) (byte : ℕ) (bytes : List ℕ) (ends escapes : Bool) → eqb byte FEND ≡ ends → eqb byte FESC ≡ escapes
    → f (within r plain) (cond ends (FESC ∷ TFEND ∷ []) (cond escapes (FESC ∷ TFESC ∷ []) (byte ∷ [])) ++ bytes) ≡ f (within r (kept_bytes r.mtu plain (byte ∷ []))) bytes
pass-escaped X f over r plain byte bytes true escapes e g =
    pass X f over (within r plain) FESC (TFEND ∷ bytes) refl ∙ pass X f over (going r Escape plain) TFEND bytes refl
    ∙ ap (λ n. f (within r (kept_bytes r.mtu plain (n ∷ []))) bytes) (sym (eqb-true byte FEND e))
pass-escaped X f over r plain byte bytes false true e g =
    pass X f over (within r plain) FESC (TFESC ∷ bytes) refl ∙ pass X f over (going r Escape plain) TFESC bytes refl
    ∙ ap (λ n. f (within r (kept_bytes r.mtu plain (n ∷ []))) bytes) (sym (eqb-true byte FESC g))
pass-escaped X f over r plain byte bytes false false e g =
    pass X f over (within r plain) byte bytes e
    ∙ ap (λ b. f (cond b (going r Escape plain) (within r (kept_bytes r.mtu plain (byte ∷ [])))) bytes) g

-- the escaped form of some bytes
pass-all : (X : Type 0) (f : Reading → List ℕ → X) → PassesOver X f → (r : Reading) (plain bytes rest : List ℕ)
    → f (within r (take (room r.mtu) plain)) (escaped bytes ++ rest) ≡ f (within r (take (room r.mtu) (plain ++ bytes))) rest
pass-all X f over r plain [] rest = ap (λ all. f (within r (take (room r.mtu) all)) rest) (sym (append-nil plain))
pass-all X f over r plain (byte ∷ bytes) rest =
    ap (λ all. f (within r (take (room r.mtu) plain)) all) (append_assoc (escape_of byte) (escaped bytes) rest)
    ∙ pass-escaped X f over r (take (room r.mtu) plain) byte (escaped bytes ++ rest) (eqb byte FEND) (eqb byte FESC) refl refl
    ∙ ap (λ all. f (within r all) (escaped bytes ++ rest)) (take-take-append (room r.mtu) plain (byte ∷ []))
    ∙ pass-all X f over r (plain ++ byte ∷ []) bytes rest
    ∙ ap (λ all. f (within r (take (room r.mtu) all)) rest) (append_assoc plain (byte ∷ []) bytes)

-- at the first FEND a reader that has nothing begun says nothing
quiet : (r : Reading) (stage : Stage) → IsBetween stage → told r stage ≡ None
quiet r Outside h = refl
quiet r Start h = refl
quiet r Plain h = absurd h
quiet r Escape h = absurd h

-- up to the last FEND
pass-piece : (X : Type 0) (f : Reading → List ℕ → X) → PassesOver X f → (r : Reading) (skipped : ℕ) (bytes : List ℕ) → HasNothingBegun r → skipped ≢ FEND
    → f r (FEND ∷ skipped ∷ (escaped bytes ++ FEND ∷ [])) ≡ f (within r (take (room r.mtu) bytes)) (FEND ∷ [])
pass-piece X f over r skipped bytes h ne =
    let rest : List ℕ = escaped bytes ++ FEND ∷ [] in
    let empty : take (room r.mtu) [] ≡ [] = take_all (room r.mtu) [] (omega arith) in
    over r FEND (skipped ∷ rest) (quiet r r.stage h)
    ∙ pass X f over (going r Start []) skipped rest (ne_eqb skipped FEND ne)
    ∙ ap (λ all. f (within r all) rest) (sym empty)
    ∙ pass-all X f over r [] bytes (FEND ∷ [])

-- the last FEND
end-answers : (r : Reading) (plain : List ℕ) → answers (within r plain) (FEND ∷ []) ≡ judged r.cover r.mtu plain ∷ []
unfolding answers
end-answers r plain = refl

-- what is read where an event is told and no byte is left
abbrev ended : Reading → KissEvent → Progress
ended r event = record { refused = refused_by event; packet = packet_of event; reading = going r Start []; left = [] }

end-told : (r : Reading) (event : KissEvent) → going_on (Some event) (going r Start []) [] (read_on (going r Start []) []) ≡ ended r event
unfolding read_on answers
end-told r (Packet header payload) = refl
end-told r TooLong = refl
end-told r Short = refl
end-told r (BadCrc found wanted) = refl

end-read : (r : Reading) (plain : List ℕ) → read_on (within r plain) (FEND ∷ []) ≡ ended r (judged r.cover r.mtu plain)
end-read r plain = read_step (within r plain) FEND [] ∙ end-told r (judged r.cover r.mtu plain)

-- of an escaped form between two FENDs it makes just what the bytes are judged to be
pub made : (r : Reading) (skipped : ℕ) (bytes : List ℕ) → HasNothingBegun r → skipped ≢ FEND → MakesJust r (FEND ∷ skipped ∷ (escaped bytes ++ FEND ∷ [])) (judged r.cover r.mtu bytes)
made r skipped bytes h ne =
    let most : List ℕ = take (room r.mtu) bytes in
    let same : judged r.cover r.mtu most ≡ judged r.cover r.mtu bytes = judged-take r.cover r.mtu bytes in
    record {
      answered = pass-piece (List KissEvent) answers answers-pass r skipped bytes h ne ∙ end-answers r most ∙ ap (λ event. event ∷ []) same;
      kept = pass-piece Reading (fold after) fold-passes r skipped bytes h ne;
      read = pass-piece Progress read_on read_on-passes r skipped bytes h ne ∙ end-read r most ∙ ap (ended r) same;
    }
