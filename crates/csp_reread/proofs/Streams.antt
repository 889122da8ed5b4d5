-- A stream of whole frames, one after the other.
use Rattle.std.proofs.Common.{◌≡◌, ℕ, ◌^◌, ◌<◌, ◌≤◌, Bool, List, [], ◌∷◌, ◌++◌, length, map, refl, sym, ap, ◌∙◌, append_assoc}
use Rattle.std.proofs.lemmas.List.Concat.{flat_map-cons}
use Rattle.std.specs.List.{AllByRecursion, flat_map, fold}
use Rattle.std.specs.Option.{option_to_list}
use Rattle.csp_kiss.specs.Frame.{frame}
use Rattle.csp_kiss.specs.Reading.{Reading, after, answer, answers, going, unread}
use Rattle.csp_kiss.specs.Stream.{events}
use Rattle.csp_kiss.specs.declared.progress.KissPacket.{KissPacket}
use Rattle.csp_kiss.specs.declared.stage.Stage.TheVariants.{Start}
use Rattle.csp_kiss.proofs.Public.{answers-unread}
use Rattle.csp_noticed.specs.Made.{HasNothingBegun, MakesJust}
use Rattle.csp_noticed.proofs.Public.{frame-read}
use Rattle.csp_reread.specs.Reread.{packet_event}

answers-then : (r : Reading) (xs ys : List ℕ) → answers r (xs ++ ys) ≡ answers r xs ++ answers (fold after r xs) ys
unfolding answers
answers-then r [] ys = refl
answers-then r (x ∷ xs) ys =
    ap (λ es. option_to_list (answer r x) ++ es) (answers-then (after r x) xs ys)
    ∙ sym (append_assoc (option_to_list (answer r x)) (answers (after r x) xs) (answers (fold after (after r x) xs) ys))

-- the bytes of a packet's frame
abbrev pub frame_bytes : Bool → KissPacket → List ℕ
frame_bytes cover p = frame cover p.header p.payload.items

-- a packet that a reader takes
pub record IsTaken (mtu : ℕ) (p : KissPacket) : Type 0 where
  pub word : p.header < 2 ^ 32
  pub fits : length p.payload.items ≤ mtu

frames-answered : (r : Reading) (ps : List KissPacket) → HasNothingBegun r → AllByRecursion (IsTaken r.mtu) ps → answers r (flat_map (frame_bytes r.cover) ps) ≡ map packet_event ps
unfolding answers
frames-answered r [] between all = refl
frames-answered r (p ∷ ps) between all =
    let bytes : List ℕ = frame_bytes r.cover p in
    let rest : List ℕ = flat_map (frame_bytes r.cover) ps in
    let made : MakesJust r bytes (packet_event p) = frame-read r p.header p.payload.items (record { between = between; word = all.0.word; fits = all.0.fits }) in
    ap (answers r) (flat_map-cons (frame_bytes r.cover) p ps)
    ∙ answers-then r bytes rest
    ∙ ap (λ es. es ++ answers (fold after r bytes) rest) made.answered
    ∙ ap (λ (k : Reading). packet_event p ∷ answers k rest) made.kept
    ∙ ap (λ es. packet_event p ∷ es) (frames-answered (going r Start []) ps tt all.1)

-- of the frames of packets, one after the other, just the packets are read
pub frames-read : (cover : Bool) (mtu : ℕ) (ps : List KissPacket) → AllByRecursion (IsTaken mtu) ps → events cover mtu (flat_map (frame_bytes cover) ps) ≡ map packet_event ps
frames-read cover mtu ps all = sym (answers-unread cover mtu (flat_map (frame_bytes cover) ps)) ∙ frames-answered (unread cover mtu) ps tt all
